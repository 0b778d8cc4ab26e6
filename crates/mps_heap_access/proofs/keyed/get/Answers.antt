use Rattle.std.proofs.Common.{◌∙◌, ap, sym}
use Rattle.mps_heap_spec.specs.State.{HeapState}
use Rattle.mps_heap_access.proofs.Getting.{got_at_rest}
use Rattle.mps_heap_access.proofs.keyed.get.Goals as goal

pub returns-in-None : goal.returns-in-None
returns-in-None g c = record {
  outcome = got_at_rest g.F.Format.layout c.args.state.now c.args.trail.now c.args.target.slot c.args.source.slot c.args.k
      c.read_reference.result c.read_reference.new.state
      (ap (λ (h : HeapState g.row.F.Denot). h.running) (sym c.state.view_is) ∙ c.in-None.is) c.read_reference.ensures;
}
