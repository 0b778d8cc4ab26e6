use Rattle.std.proofs.Common.{◌≡◌, ◌+◌, ◌-◌, ◌∙◌, ℕ, List, take, drop, length, sym, ap, subst}
use Rattle.std.specs.Vec.{with_items}
use Rattle.std.proofs.lemmas.List.{with_items_is}
use Rattle.mps_log_reader.specs.Input.{ReadsMore}
use Rattle.mps_log_reader.proofs.Pending.{buffered, reads_some}
use Rattle.mps_log_reader.proofs.input.Input.read_once.Goals as goal

pub returns-in-Ok-clause-read : goal.returns-in-Ok-clause-read
returns-in-Ok-clause-read g c =
    let i = c.self.inside in
    let room = i.room in
    let at = i.to - i.from in
    let moved = c.move_to_front.new.room in
    let now = c.read_after.new.room in
    let moved-size : length moved ≡ room.len = c.move_to_front.ensures.size ∙ c.deref_mut.ensures.len in
    let moved-is : (with_items room moved).items ≡ moved = with_items_is room moved moved-size in
    let now-size : length now ≡ room.len = c.read_after.ensures.size ∙ c.deref_mut-2.ensures.len in
    let now-is : (with_items (with_items room moved) now).items ≡ now = with_items_is (with_items room moved) now now-size in
    let kept : take at now ≡ take at (drop i.from room.items) =
    c.read_after.ensures.unchanged
    ∙ ap (λ (x : List ℕ). take at x) (c.deref_mut-2.ensures.value ∙ moved-is)
    ∙ c.move_to_front.ensures.moved
    ∙ ap (λ (x : List ℕ). take at (drop i.from x)) c.deref_mut.ensures.value in
    let before = buffered (take at (drop i.from room.items)) i.ended i.failed in
    rw (← c.self.view_is)
    (subst (λ (r : List ℕ). ReadsMore (g.D.Desk.outside c.args.desk.now) (g.D.Desk.outside c.read_after.new.desk) before
    (buffered (take (at + c.in-Ok.count - 0) (drop 0 r)) i.ended i.failed))
    (sym now-is)
    (reads_some (g.D.Desk.outside c.args.desk.now)
    (g.D.Desk.outside c.read_after.new.desk) before now at c.in-Ok.count kept c.in-Ok.ensures.read c.read_after.ensures.counted
    c.in-Ok.ensures.steady
    c.read_after.ensures.others))
