use Rattle.std.proofs.Common.{◌≡◌, ◌∙◌, false, sym, ap}
use Rattle.std.proofs.lemmas.Bool.{true≢false}
use Rattle.mps_heap_spec.specs.Allocating.{check_reserve}
use Rattle.mps_heap_spec.specs.Polling.{polls_for}
use Rattle.mps_heap_allocating.proofs.Polling.{unpolled_so}
use Rattle.mps_heap_allocating.proofs.allocating.reserve_with_work.Goals as goal

pub reserve_polling-requires-clause-polls : goal.reserve_polling-requires-clause-polls
reserve_polling-requires-clause-polls g c =
    let passed = c.requires.checked in
    ap (polls_for c.args.state.now) passed.2 ∙ sym (c.polls.ensures passed.0 passed.1.there) ∙ c.if-polls.true

pub returns : goal.returns
returns g c =
    let layout = g.F.Format.layout in
    let h = c.args.state.now in
    let m = c.args.trail.now in
    let passed = c.requires.checked in
    let none : polls_for h (check_reserve layout h c.args.name c.args.head) ≡ false =
    ap (polls_for h) passed.2 ∙ sym (c.polls.ensures passed.0 passed.1.there) ∙ c.if-polls.false in
    record {
      polled = h;
      trail_polled = m;
      poll = unpolled_so layout h m (check_reserve layout h c.args.name c.args.head)
          (λ polling. absurd (true≢false (sym polling ∙ none)));
      comes = c.reserve_checked.ensures;
    }
