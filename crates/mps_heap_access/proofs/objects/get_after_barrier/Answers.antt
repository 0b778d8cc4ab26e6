use Rattle.std.proofs.Common.{refl, rules}
use Rattle.mps_heap_spec.specs.Getting.{is_refused}
use Rattle.mps_heap_access.proofs.Getting.{got_after}
use Rattle.mps_heap_access.proofs.objects.get_after_barrier.Goals as goal

pub returns-in-Ok : goal.returns-in-Ok
returns-in-Ok g c =
    got_after g.F.Format.layout c.args.state.now c.args.trail.now c.args.target c.args.source c.args.k c.read_reference.result
    c.access.new.state c.follow.new.state c.read_reference.new.state c.access.new.trail _ (search rules) c.in-Ok.ensures.accessed
    c.follow.ensures c.read_reference.ensures

pub returns-in-Err : goal.returns-in-Err
returns-in-Err g c =
    is_refused c.in-Err.why c.in-Err.ensures.refused.0 refl c.in-Err.ensures.refused.1 c.in-Err.ensures.refused.2
