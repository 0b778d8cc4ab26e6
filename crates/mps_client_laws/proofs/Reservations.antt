-- A `reserve`, an `init` of a reservation that a flip ended, and the `commit`.
use Rattle.std.proofs.Common.{◌≡◌, ℕ, Bool, true, false, true≢false, refl, sym, ◌∙◌, ap, subst, List, ◌∷◌, ◌++◌, Option, Some, None, Ok, Err}
use Rattle.std.proofs.lemmas.Option.{none-some, same_Some}
use Rattle.std.specs.Prelude.{if◌then◌else◌, not, ◌||◌, length, option_and_then}
use Rattle.mps_base.specs.declared.names.Name.{Name}
use Rattle.mps_base.specs.declared.names.Slot.{Slot}
use Rattle.mps_base.specs.declared.refusal.Refusal.TheVariants as refusal
use Rattle.mps_model.proofs.Appending.{world_after_steps-append, IsLegalFrom-later}
use Rattle.mps_model.specs.declared.call.Call.{Call}
use Rattle.mps_model.specs.declared.call.Call.TheVariants as call
use Rattle.mps_model.specs.declared.reply.Reply.TheVariants as reply
use Rattle.mps_model.specs.Answer.{is_accepted, is_block, is_refused}
use Rattle.mps_model.specs.Step.{Step}
use Rattle.mps_model.specs.Graph.{Cell, Point, Reservation, entry_at, thing_in}
use Rattle.mps_model.specs.World.{World, empty_world_of}
use Rattle.mps_model.specs.Checked.{Act, Checked, Found, Numbered, ◌>>=◌, as_point, done, number_at, point_named, reference_at, required, says, slot_in, with_graph}
use Rattle.mps_model.specs.Placement.{ForReserve, placement_of}
use Rattle.mps_model.specs.Allocating.{act_commit, act_reserve, address_of_placement, check_reserve, refuse_without_place, with_reservation, with_reserved, with_reserved_cells, world_committed}
use Rattle.mps_model.specs.Reply.{answer_from, reply_to, world_from}
use Rattle.mps_model.specs.History.{IsLegalStep, judged_world, moved_world, with_client_remembered, world_after, world_after_call}
use Rattle.mps_changes.specs.Change.{ForAct, accepted, refused}
use Rattle.mps_changes.proofs.Checks.{after_check, andthen, for_world, point_named-is, required-is, with_value}
use Rattle.mps_laws.specs.Replay.{reached}
use Rattle.mps_laws.specs.Staying.{are_without_flip}
use Rattle.mps_laws.proofs.Entries.{entry_at-written}
use Rattle.mps_laws.proofs.LegalHistories.{IsLegalFrom-first}
use Rattle.mps_laws.proofs.Reading.{bind_ok, next_ok}
use Rattle.mps_client_laws.specs.Reservations.{IsReserved, ReserveOpens, InitOfDoomedLeavesTheGraph, CommitAnswersByFlips, CommitSpendsTheReservation, answer_of_commit, initialised_point, reservation_found, reservation_of}
use Rattle.mps_client_laws.proofs.Committing.{commit_answer, commit_world}
use Rattle.mps_client_laws.proofs.QuietCalls.{IsQuiet, accepted_act, act_in, done_world, quiet_world}
use Rattle.mps_client_laws.proofs.ReservationsOfMoves.{reservation_is}
use Rattle.mps_client_laws.proofs.ReservationsStay.{reservations_stay}

-- ---- reserve

reserve_act_opens : (judged v : World) (point : Name) (head : ℕ) (a : Act) → act_reserve judged v point head ≡ Ok a
    → IsReserved a.world point head
reserve_act_opens judged v point head a e =
    let reserving = bind_ok (check_reserve judged point head) _ a e in
    let next = next_ok (refuse_without_place (placement_of judged (ForReserve reserving.0.point.number (length reserving.0.cells)))) _ a
    reserving.2 in
    let p = bind_ok (point_named v point) _ a next in
    let made : Reservation = record { head = head; cells = reserving.0.cells; is_doomed = false } in
    let at = address_of_placement (placement_of v (ForReserve p.0.number (length reserving.0.cells))) in
    let is = point_named-is v point p.0 p.1 in
    record {
      reserved = made;
      there = ap (λ (u : World). reservation_of u point) (done_world (with_reserved v p.0 made at) a p.2)
          ∙ reservation_is (with_reserved v p.0 made at) point p.0.number (record p.0.value { reservation = Some made }) is.0
          (entry_at-written v.graph.points p.0.number p.0.value (Some (record p.0.value { reservation = Some made })) is.1);
      its_head = refl;
      lives = refl;
    }

reserve_step_opens : (w : World) (s : Step) (point : Name) (head : ℕ) → IsLegalStep w s → s.call ≡ call.Reserve point head
    → is_accepted s.answer ≡ true → IsReserved (world_after w s) point head
reserve_step_opens w s point head legal is accepts =
    let judged = judged_world w (call.Reserve point head) s.moves in
    let moved = moved_world w (call.Reserve point head) s.moves in
    let due = subst (λ c. s.answer ≡ reply_to (is_block s.answer) (judged_world w c s.moves) (moved_world w c s.moves) c) is
    legal.answer_is_due in
    let a = accepted_act (act_reserve judged moved point head) s.answer due accepts in
    subst (λ (v : World). IsReserved v point head)
    (sym (ap (λ c. world_after_call w c s.moves s.answer) is
    ∙ ap (λ x. with_client_remembered (world_from moved x)) a.1))
    (let opened = reserve_act_opens judged moved point head a.0 a.1 in
    record { reserved = opened.reserved; there = opened.there; its_head = opened.its_head; lives = opened.lives })

pub reserve_opens : ReserveOpens
reserve_opens formats steps later s point head legal is accepts =
    reserve_step_opens (reached formats steps) s point head
    (IsLegalFrom-later (empty_world_of formats) steps (s ∷ later) legal).0 is accepts

-- ---- init

pub number_is_quiet : (point : Name) (cell value : ℕ) → IsQuiet (call.InitNumber point cell value)
number_is_quiet point cell value = record { none = λ w answer ms due. due; world = λ w answer. refl; reply = λ marked w. refl }

pub reference_is_quiet : (point : Name) (cell : ℕ) (source : Slot) → IsQuiet (call.InitReference point cell source)
reference_is_quiet point cell source = record { none = λ w answer ms due. due; world = λ w answer. refl; reply = λ marked w. refl }

module _ (w : World) (point : Name) (r : Reservation) (there : reservation_of w point ≡ Some r) (ended : r.is_doomed ≡ true) where
  abbrev IsUnchanged : World → Type 0
  IsUnchanged u = u.graph ≡ w.graph

  unchanged : (p : Numbered Point) (s : Reservation) (cells : List Cell) → point_named w point ≡ Ok p
      → required p.value.reservation refusal.NotOpen ≡ Ok s → ForAct IsUnchanged (done (with_reserved_cells w p s cells))
  unchanged p s cells is has =
      let this : s ≡ r = same_Some s r
      (sym (required-is p.value.reservation refusal.NotOpen s has) ∙ sym (ap reservation_found is) ∙ there) in
      accepted (ap (λ (b : Bool). (if b then w else with_graph w (with_reservation w.graph p (Some (record s { cells = cells })))).graph)
      (ap (λ (x : Reservation). x.is_doomed) this ∙ ended))

  number_unchanged : (k value : ℕ) → ForAct IsUnchanged (act_in w (call.InitNumber point k value))
  number_unchanged k value =
      with_value (point_named w point) (λ (p : Numbered Point) is.
      with_value (required p.value.reservation refusal.NotOpen) (λ (s : Reservation) has.
      after_check (number_at s.cells k) (unchanged p s _ is has)))

  reference_unchanged : (k : ℕ) (source : Slot) → ForAct IsUnchanged (act_in w (call.InitReference point k source))
  reference_unchanged k source =
      with_value (point_named w point) (λ (p : Numbered Point) is.
      andthen (slot_in w source) (λ (from : Found (Option ℕ)).
      with_value (required p.value.reservation refusal.NotOpen) (λ (s : Reservation) has.
      after_check (reference_at s.cells k) (unchanged p s _ is has))))

  of_quiet : (c : Call) → IsQuiet c → (s : Step) → IsLegalStep w s → s.call ≡ c → ForAct IsUnchanged (act_in w c)
      → (world_after w s).graph ≡ w.graph
  of_quiet c quiet s legal is leaves =
      ap (λ (u : World). u.graph) (quiet_world c quiet w s legal is) ∙ for_world IsUnchanged w (act_in w c) leaves refl

  init_of_doomed : (s : Step) → IsLegalStep w s → initialised_point s.call ≡ Some point → (world_after w s).graph ≡ w.graph
  init_of_doomed s legal is = by_call s.call refl is
    where
      by_call : (c : Call) → s.call ≡ c → initialised_point c ≡ Some point → (world_after w s).graph ≡ w.graph
      by_call (call.InitNumber other k value) e named =
          of_quiet (call.InitNumber point k value) (number_is_quiet point k value) s legal
          (e ∙ ap (λ p. call.InitNumber p k value) (same_Some other point named)) (number_unchanged k value)
      by_call (call.InitReference other k source) e named =
          of_quiet (call.InitReference point k source) (reference_is_quiet point k source) s legal
          (e ∙ ap (λ p. call.InitReference p k source) (same_Some other point named)) (reference_unchanged k source)
      by_call _ e named = absurd (none-some point named)

pub init_of_doomed_leaves_the_graph : InitOfDoomedLeavesTheGraph
init_of_doomed_leaves_the_graph formats steps later s point reserved legal is there ended =
    init_of_doomed (reached formats steps) point reserved there ended s
    (IsLegalFrom-later (empty_world_of formats) steps (s ∷ later) legal).0 is

-- ---- commit

says_by_doom : (b : Bool) (slot : Found (Option ℕ)) (ended made : World)
    → answer_from (if b then says reply.Flipped ended else done made) ≡ answer_of_commit (Ok slot) b
says_by_doom true slot ended made = refl
says_by_doom false slot ended made = refl

-- the world in which a point has no reservation
abbrev closed : World → Numbered Point → World
closed w p = with_graph w (with_reservation w.graph p None)

-- what a commit of a reservation answers
commit_says : (w : World) (point : Name) (target : Slot) (r : Reservation) → reservation_of w point ≡ Some r
    → answer_from (act_commit w point target) ≡ answer_of_commit (slot_in w target) r.is_doomed
commit_says w point target r e = by_point (point_named w point) e
  where
    by_slot : (p : Numbered Point) → p.value.reservation ≡ Some r → (x : Checked (Found (Option ℕ)))
        → answer_from (x >>= (λ slot. required p.value.reservation refusal.NotOpen
        >>= (λ s. if s.is_doomed then says reply.Flipped (closed w p) else done (world_committed w p s slot))))
        ≡ answer_of_commit x r.is_doomed
    by_slot p has (Err why) = refl
    by_slot p has (Ok slot) =
        ap (λ o. answer_from (required o refusal.NotOpen
        >>= (λ (s : Reservation). if s.is_doomed then says reply.Flipped (closed w p) else done (world_committed w p s slot)))) has
        ∙ says_by_doom r.is_doomed slot (closed w p) (world_committed w p r slot)

    by_point : (x : Checked (Numbered Point)) → reservation_found x ≡ Some r
        → answer_from (x >>= (λ p. slot_in w target >>= (λ slot. required p.value.reservation refusal.NotOpen
        >>= (λ s. if s.is_doomed then says reply.Flipped (closed w p) else done (world_committed w p s slot)))))
        ≡ answer_of_commit (slot_in w target) r.is_doomed
    by_point (Err why) e = absurd (none-some r e)
    by_point (Ok p) e = by_slot p e (slot_in w target)

pub commit_answers_by_flips : CommitAnswersByFlips
commit_answers_by_flips formats steps between later reserve commit point target are =
    let w = reached formats steps in
    let v = reached formats (steps ++ reserve ∷ between) in
    let first = IsLegalFrom-first (empty_world_of formats) (steps ++ reserve ∷ between) (commit ∷ later) are.legal in
    let from_here = IsLegalFrom-later (empty_world_of formats) steps (reserve ∷ between) first in
    let opened = reserve_step_opens w reserve point are.head from_here.0 are.reserves are.accepted in
    let still = reservations_stay (world_after w reserve) between point opened.reserved from_here.1 are.elsewhere opened.there in
    let here = (IsLegalFrom-later (empty_world_of formats) (steps ++ reserve ∷ between) (commit ∷ later) are.legal).0 in
    commit_answer v commit point target here are.commits
    ∙ commit_says v point target still.now
    (ap (λ (u : World). reservation_of u point) (world_after_steps-append (empty_world_of formats) steps (reserve ∷ between))
    ∙ still.there)
    ∙ ap (answer_of_commit (slot_in v target)) (still.doomed ∙ ap (λ b. b || not (are_without_flip between)) opened.lives)

-- a point that was committed has no reservation
module _ (w : World) (point : Name) (target : Slot) where
  none_left : (u : World) (p : Numbered Point) → point_named w point ≡ Ok p → u.graph.names ≡ w.graph.names
      → u.graph.points ≡ (with_reservation w.graph p None).points → reservation_of u point ≡ None
  none_left u p is names points =
      let at = point_named-is w point p is in
      reservation_is u point p.number (record p.value { reservation = None })
      (ap (λ ns. option_and_then as_point (thing_in ns point)) names ∙ at.0)
      (ap (λ ps. entry_at ps p.number) points
      ∙ entry_at-written w.graph.points p.number p.value (Some (record p.value { reservation = None })) at.1)

  spent_by_act : ForAct (λ u. reservation_of u point ≡ None) (act_commit w point target)
  spent_by_act =
      with_value (point_named w point) (λ (p : Numbered Point) is.
      andthen (slot_in w target) (λ (slot : Found (Option ℕ)).
      andthen (required p.value.reservation refusal.NotOpen) (λ (r : Reservation). by_doom p r slot is r.is_doomed)))
    where
      by_doom : (p : Numbered Point) (r : Reservation) (slot : Found (Option ℕ)) → point_named w point ≡ Ok p → (b : Bool)
          → ForAct (λ u. reservation_of u point ≡ None)
          (if b then says reply.Flipped (closed w p) else done (world_committed w p r slot))
      by_doom p r slot is true = accepted (none_left (closed w p) p is refl refl)
      by_doom p r slot is false = accepted (none_left (world_committed w p r slot) p is refl refl)

spent : (w : World) (point : Name) (x : Checked Act) → is_refused (answer_from x) ≡ false → ForAct (λ u. reservation_of u point ≡ None) x
    → reservation_of (world_from w x) point ≡ None
spent w point _ accepts (accepted e) = e
spent w point _ accepts refused = absurd (true≢false accepts)

pub commit_spends_the_reservation : CommitSpendsTheReservation
commit_spends_the_reservation formats steps later s point target legal is accepts =
    let w = reached formats steps in
    let here = (IsLegalFrom-later (empty_world_of formats) steps (s ∷ later) legal).0 in
    ap (λ (u : World). reservation_of u point) (commit_world w s point target here is)
    ∙ spent w point (act_commit w point target)
    (ap is_refused (sym (commit_answer w s point target here is)) ∙ accepts) (spent_by_act w point target)
