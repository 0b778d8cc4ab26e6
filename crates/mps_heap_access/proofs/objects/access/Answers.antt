use Rattle.std.proofs.Common.{refl, subst, sym}
use Rattle.mps_trace.specs.Trace.{Traced}
use Rattle.mps_heap_spec.specs.Units.{IsWhole}
use Rattle.mps_heap_access.proofs.Getting.{can_access, is_accessed, traced_seen}
use Rattle.mps_heap_access.proofs.objects.access.Goals as goal

pub access-requires : goal.access-requires
access-requires g c =
    can_access g.F.Format.layout c.args.state.now c.args.trail.now c.args.target c.args.source c.args.k _ c.state.view_is
    (subst IsWhole (sym c.state.view_is) c.is_whole.ensures.whole) c.in_ok-object.object c.in_ok-object.ensures.value c.args.band
    c.requires.runs c.requires.can

pub returns-clause-accessed : goal.returns-clause-accessed
returns-clause-accessed g c =
    let z : Traced = record { amc = c.access.new.self.tails; segs = c.access.new.segs; moves = c.access.new.trail } in (
      z,
      is_accessed g.F.Format.layout c.args.state.now c.args.trail.now c.args.target c.args.source c.args.k _ c.state.view_is
          (subst IsWhole (sym c.state.view_is) c.is_whole.ensures.whole) c.in_ok-object.object c.in_ok-object.ensures.value c.args.band
          c.requires.runs c.in_ok-_into._into c.in_ok-_cell._cell
          c.in_ok-_into.ensures.value c.in_ok-_cell.ensures z c.access.ensures.accessed,
      traced_seen _ c.args.state.now z c.access.new.self c.state.view_is c.access.ensures.unchanged,
      refl,
    )
