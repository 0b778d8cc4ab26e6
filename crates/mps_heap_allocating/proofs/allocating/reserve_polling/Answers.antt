use Rattle.mps_heap_spec.specs.Allocating.{check_reserve}
use Rattle.mps_heap_allocating.proofs.Polling.{nothing_polled, polled_so}
use Rattle.mps_heap_allocating.proofs.allocating.reserve_polling.Goals as goal

pub returns-then-is_idle : goal.returns-then-is_idle
returns-then-is_idle g c =
    let layout = g.F.Format.layout in
    let h = c.args.state.now in
    let m = c.args.trail.now in
    let idle = c.is_idle.ensures c.if-is_idle.true in
    record {
      polled = h;
      trail_polled = m;
      poll = polled_so layout h m h m (check_reserve layout h c.args.name c.args.head) c.requires.polls
          (nothing_polled layout h m idle.0 idle.1);
      comes = c.reserve_checked.ensures;
    }
