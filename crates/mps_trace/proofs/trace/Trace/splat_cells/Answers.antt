use Rattle.std.proofs.Common.{refl, ◌∙◌}
use Rattle.mps_trace.specs.Trace.{traced}
use Rattle.mps_trace.specs.Splat.{begins, goes_on}
use Rattle.mps_trace.proofs.trace.Trace.splat_cells.Goals as goal

pub loop-cell-init : goal.loop-cell-init
loop-cell-init g c = (begins, refl)

pub splat_cell-requires-clause-can : goal.splat_cell-requires-clause-can
splat_cell-requires-clause-can g c =
    c.requires.ready c.loop-cell.from c.in-Some.cell (traced c.args.self.now c.loop-cell.segs c.loop-cell.trail) c.loop-cell.invariant.0
    c.in-Some.ensures.sound

pub loop-cell-preserved : goal.loop-cell-preserved
loop-cell-preserved g c = (
  goes_on c.loop-cell.from c.in-Some.cell c.loop-cell.invariant.0 c.in-Some.ensures.sound c.splat_cell.ensures.splatted,
  c.splat_cell.ensures.size ∙ c.loop-cell.invariant.1,
)
