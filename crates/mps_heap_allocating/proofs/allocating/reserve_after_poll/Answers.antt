use Rattle.std.proofs.Common.{Err, ap, sym, ◌∙◌}
use Rattle.std.proofs.lemmas.Result.{err_from_is_err_and}
use Rattle.mps_heap_spec.specs.Allocating.{check_reserve}
use Rattle.mps_heap_allocating.proofs.Polling.{polled_so, refused_after}
use Rattle.mps_heap_allocating.proofs.allocating.reserve_after_poll.Goals as goal

pub returns-in_err-r : goal.returns-in_err-r
returns-in_err-r g c =
    let layout = g.F.Format.layout in
    let h = c.args.state.now in
    let m = c.args.trail.now in
    let given = err_from_is_err_and c.from_residual.result c.from_residual.ensures.1 in
    record {
      polled = c.poll.new.state;
      trail_polled = c.poll.new.trail;
      poll = polled_so layout h m c.poll.new.state c.poll.new.trail (check_reserve layout h c.args.name c.args.head) c.requires.polls
          c.poll.ensures;
      comes = refused_after layout h m c.poll.new.state c.poll.new.trail c.args.name c.args.head c.in_err-r.field-0.0
          (sym c.in_err-r.ensures.value) c.from_residual.result (given.1 ∙ ap Err given.2);
    }

pub reserve_checked-requires-clause-checked : goal.reserve_checked-requires-clause-checked
reserve_checked-requires-clause-checked g c = (c.in_ok-r.r.point.value, c.in_ok-r.ensures.closed, sym c.in_ok-r.ensures.value)
