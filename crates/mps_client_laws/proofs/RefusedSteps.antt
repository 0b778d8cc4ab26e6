-- What a refused step is refused by, and what it leaves.
use Rattle.std.proofs.Common.{◌≡◌, ℕ, zero, suc, ◌<◌, ◌-◌, Bool, true, false, true≢false, refl, sym, ◌∙◌, ap, subst, List, [], ◌∷◌, length, Option, Some, None, Ok, Err, arith}
use Rattle.std.proofs.lemmas.Bool.{or_right}
use Rattle.std.proofs.lemmas.List.{take_all}
use Rattle.std.specs.Prelude.{MatchBool, ◌&&◌, ◌||◌, if◌then◌else◌, is_some, not, slice_index_or}
use Rattle.std.specs.List.{list_any}
use Rattle.mps_base.specs.Placement.{Placement, Place, NewSegment, OverLimit, NoFreeRun}
use Rattle.mps_base.specs.declared.moves.Move.{Move}
use Rattle.mps_base.specs.declared.names.Name.{Name}
use Rattle.mps_base.specs.declared.refusal.Refusal.{Refusal}
use Rattle.mps_base.specs.declared.refusal.Refusal.TheVariants as refusal
use Rattle.mps_model.specs.declared.call.Call.{Call}
use Rattle.mps_model.specs.declared.call.Call.TheVariants as call
use Rattle.mps_model.specs.Answer.{is_block, is_refused, refused}
use Rattle.mps_model.specs.Step.{Step}
use Rattle.mps_model.specs.Graph.{Graph, Point, new_cells}
use Rattle.mps_model.specs.World.{World, empty_world, is_running, pool_at}
use Rattle.mps_model.specs.Placement.{ForReserve, placement_of}
use Rattle.mps_model.specs.Checked.{Act, Checked, Numbered, ◌>>=◌, ◌>>◌, as_point, done, number_named, point_named, required, refuse_when}
use Rattle.mps_model.specs.Allocating.{Reserving, act_reserve, address_of_placement, check_reserve, layout_of, refuse_without_place, takes_head, with_reserved}
use Rattle.mps_model.specs.Effect.{world_after_moves}
use Rattle.mps_model.specs.Policy.{polls, polls_for, units_asked, units_of_poll}
use Rattle.mps_model.specs.Reply.{act, answer_from, world_from}
use Rattle.mps_model.specs.History.{AreMovesOf, AreMovesOfReserve, IsLegalStep, IsPoll, after_its_moves, after_own_segment, asking, judged_world, moved_world, moves_of_poll, own_segment, segment_of_reserve, segment_taken, with_client_remembered, world_after}
use Rattle.mps_laws.proofs.OwnSegments.{own_segment_taken}
use Rattle.mps_laws.proofs.Reading.{bind_ok}
use Rattle.mps_client_laws.specs.Refusals.{NoneIsOutOfMemory, RefusalsAreListed, RefusedStepsAreListed, RefusedStepsChangeNothing, RefusedStepsLeaveTheirMoves, RefusedStepsMakeNoMoves, RefusedPollsHaveNoPlace, is_without_place, refusals_of}
use Rattle.mps_client_laws.proofs.Failing.{IsOf, Comes, answered, is_refusal, contained}
use Rattle.mps_client_laws.proofs.RefusalsOfCalls.{refusals_of_act}
use Rattle.mps_client_laws.proofs.ReservesPassing.{passes_after}

-- ---- the refusal of an act is listed

refusal_is : {whys : List Refusal} (x : Checked Act) (why : Refusal) → Comes whys x → x ≡ Err why → IsOf why whys
refusal_is (Ok a) why comes e = absurd cc
refusal_is {whys} (Err other) why (is_refusal is) e = let same : other ≡ why = cc in subst (λ r. IsOf r whys) same is

-- an act whose answer is a refusal is refused so
act_is_refused : {whys : List Refusal} (x : Checked Act) (why : Refusal) → Comes whys x → refused why ≡ answer_from x → x ≡ Err why
act_is_refused (Ok a) why (answered isnt) e = absurd (true≢false (ap is_refused e ∙ isnt))
act_is_refused (Err other) why comes e = let same : other ≡ why = cc in ap Err same

pub refusals_are_listed : RefusalsAreListed
refusals_are_listed marked judged after c why e =
    contained (refusals_of judged c) (refusal_is (act marked judged after c) why (refusals_of_act marked judged after c) e)

-- ---- none is out of memory

abbrev is_out_of_memory : Refusal → Bool
is_out_of_memory refusal.OutOfMemory = true
is_out_of_memory _ = false

is_there : (whys : List Refusal) (k : ℕ) → k < length whys → slice_index_or whys k refusal.OutOfMemory ≡ refusal.OutOfMemory
    → list_any is_out_of_memory whys ≡ true
is_there [] k l e = absurd (omega (arith, l))
is_there (why ∷ whys) zero l e = ap (λ r. is_out_of_memory r || list_any is_out_of_memory whys) e
is_there (why ∷ whys) (suc k) l e = or_right (is_out_of_memory why) (list_any is_out_of_memory whys) (is_there whys k (omega (arith, l)) e)

listed_nowhere : (w : World) (c : Call) → list_any is_out_of_memory (refusals_of w c) ≡ false
listed_nowhere w (call.Arena grains limit) = refl
listed_nowhere w _ = refl

pub none_is_out_of_memory : NoneIsOutOfMemory
none_is_out_of_memory w c has =
    true≢false (sym (is_there (refusals_of w c) has.0 has.1 has.2) ∙ listed_nowhere w c)

-- ---- the moves of a refused call

-- a world of this graph
abbrev of_graph : Graph → World
of_graph g = record empty_world { graph = g }

asking_graph : (units : Option ℕ) (w : World) → (asking units w).graph ≡ w.graph
asking_graph None w = refl
asking_graph (Some n) w = refl

-- a `reserve` that is refused takes no segment, if its point is still named
no_segment : (pool : ℕ) (p : Placement) (x : Checked (Numbered Point)) (point : Numbered Point) (next : Numbered Point → World)
    (why : Refusal) → x ≡ Ok point → (refuse_without_place p >> (x >>= (λ q. done (next q)))) ≡ Err why → segment_taken pool p ≡ []
no_segment pool (Place word) x point next why e h = refl
no_segment pool (OverLimit committed need limit) x point next why e h = refl
no_segment pool (NoFreeRun need longest) x point next why e h = refl
no_segment pool (NewSegment grain grains) x point next why e h =
    let f : done (next point) ≡ Err why = ap (λ (y : Checked (Numbered Point)). y >>= (λ q. done (next q))) (sym e) ∙ h in absurd cc

-- one that is refused there has no place
without_place : (p : Placement) (x : Checked (Numbered Point)) (point : Numbered Point) (next : Numbered Point → World) (why : Refusal)
    → x ≡ Ok point → (refuse_without_place p >> (x >>= (λ q. done (next q)))) ≡ Err why → is_without_place why ≡ true
without_place (OverLimit committed need limit) x point next why e h =
    let same : refusal.CommitLimit committed need limit ≡ why = cc in ap is_without_place (sym same)
without_place (NoFreeRun need longest) x point next why e h =
    let same : refusal.NoRun need longest ≡ why = cc in ap is_without_place (sym same)
without_place (Place word) x point next why e h =
    let f : done (next point) ≡ Err why = ap (λ (y : Checked (Numbered Point)). y >>= (λ q. done (next q))) (sym e) ∙ h in absurd cc
without_place (NewSegment grain grains) x point next why e h =
    let f : done (next point) ≡ Err why = ap (λ (y : Checked (Numbered Point)). y >>= (λ q. done (next q))) (sym e) ∙ h in absurd cc

module _ (judged after : World) (name : Name) (head : ℕ) (why : Refusal) (same : after.graph ≡ judged.graph)
    (h : act_reserve judged after name head ≡ Err why) where
  -- what a `reserve` checks of its point, and what it does with a place
  abbrev checks_of : Numbered Point → Checked Reserving
  checks_of p =
      required (pool_at judged p.value.pool) refusal.BadName >>= (λ pool.
      refuse_when (not (takes_head judged pool head)) refusal.BadHead
      >> (refuse_when (is_some p.value.reservation) refusal.Open
      >> Ok (record { point = p; cells = new_cells (layout_of judged pool) head })))

  abbrev opened : Reserving → Numbered Point → World
  opened r p =
      with_reserved after p (record { head = head; cells = r.cells; is_doomed = false })
      (address_of_placement (placement_of after (ForReserve p.number (length r.cells))))

  abbrev opens : Reserving → Checked Act
  opens r =
      refuse_without_place (placement_of judged (ForReserve r.point.number (length r.cells)))
      >> (point_named after name >>= (λ p. done (opened r p)))

  none_by_check : (x : Checked Reserving) → check_reserve judged name head ≡ x → segment_of_reserve judged x ≡ []
  none_by_check (Err other) e = refl
  none_by_check (Ok r) e =
      let p = bind_ok (point_named judged name) checks_of r e in
      no_segment r.point.value.pool (placement_of judged (ForReserve r.point.number (length r.cells))) (point_named after name) p.0
      (opened r) why
      (ap (λ g. point_named (of_graph g) name) same ∙ p.1)
      (ap (λ (x : Checked Reserving). x >>= opens) (sym e) ∙ h)

  without_place_where_judged : (r : Reserving) → check_reserve judged name head ≡ Ok r → is_without_place why ≡ true
  without_place_where_judged r e =
      let p = bind_ok (point_named judged name) checks_of r e in
      without_place (placement_of judged (ForReserve r.point.number (length r.cells))) (point_named after name) p.0 (opened r) why
      (ap (λ g. point_named (of_graph g) name) same ∙ p.1)
      (ap (λ (x : Checked Reserving). x >>= opens) (sym e) ∙ h)

  no_segment_where_judged : segment_of_reserve judged (check_reserve judged name head) ≡ []
  no_segment_where_judged = none_by_check (check_reserve judged name head) refl

module _ (w : World) (point : Name) (head : ℕ) (ms : List Move) (why : Refusal) (due : AreMovesOfReserve w point head ms) where
  abbrev reserving : Call
  reserving = call.Reserve point head

  abbrev polled : World
  polled = world_after_moves w (moves_of_poll ms)

  all_are_of_poll : own_segment ms ≡ [] → moves_of_poll ms ≡ ms
  all_are_of_poll none =
      let e : length (own_segment ms) ≡ 0 = ap length none in take_all (length ms - length (own_segment ms)) ms (omega (arith, e))

  same_graph : (moved_world w reserving ms).graph ≡ polled.graph
  same_graph =
      asking_graph (units_asked w reserving) (after_its_moves w reserving ms)
      ∙ own_segment_taken (λ u. u.graph ≡ polled.graph) polled refl (λ s. refl) (λ s p r. refl) (own_segment ms)
      (number_named w point as_point)

  no_own : act_reserve polled (moved_world w reserving ms) point head ≡ Err why → own_segment ms ≡ []
  no_own h = due.segment ∙ no_segment_where_judged polled (moved_world w reserving ms) point head why same_graph h

  reserve_moved : own_segment ms ≡ [] → after_its_moves w reserving ms ≡ world_after_moves w ms
  reserve_moved none =
      ap (λ own. after_own_segment polled own (number_named w point as_point)) none ∙ ap (world_after_moves w) (all_are_of_poll none)

  unpolled : own_segment ms ≡ [] → polls w reserving ≡ false → ms ≡ []
  unpolled none rests =
      sym (all_are_of_poll none)
      ∙ subst (λ (b : Bool). MatchBool b (IsPoll w (moves_of_poll ms)) (moves_of_poll ms ≡ [])) rests due.poll

  -- one that passes its other checks passes them after its poll too, and is refused for the place
  rests_by_check : act_reserve polled (moved_world w reserving ms) point head ≡ Err why → is_without_place why ≡ false
      → (x : Checked Reserving) → check_reserve w point head ≡ x → polls_for w x ≡ false
  rests_by_check h other (Err first) e = refl
  rests_by_check h other (Ok r) e =
      let q = passes_after head w (moves_of_poll ms) point r e in
      absurd (true≢false
      (sym (without_place_where_judged polled (moved_world w reserving ms) point head why same_graph h q.0 q.1) ∙ other))

-- what is known of the moves of a call that is refused
record AreRefused (w : World) (c : Call) (ms : List Move) (why : Refusal) : Type 0 where
  moved : after_its_moves w c ms ≡ world_after_moves w ms
  none : polls w c ≡ false → ms ≡ []
  asked : polls w c ≡ false → units_asked w c ≡ None
  rests : is_without_place why ≡ false → polls w c ≡ false

module _ (marked : Bool) (w : World) (why : Refusal) (ms : List Move) where
  none_of_get : (b : Bool) (A : Type 0) → MatchBool (b && not (is_refused (refused why))) A (ms ≡ []) → ms ≡ []
  none_of_get true A e = e
  none_of_get false A e = e

  reserve_asks : (b c : Bool) → c ≡ false → (if b && c then Some units_of_poll else None) ≡ None
  reserve_asks b true e = absurd (true≢false e)
  reserve_asks true false e = refl
  reserve_asks false false e = refl

  abbrev its_act : Call → Checked Act
  its_act c = act marked (judged_world w c ms) (moved_world w c ms) c

  refused_moves : (c : Call) → AreMovesOf w c (refused why) ms → IsOf why (refusals_of (judged_world w c ms) c) → its_act c ≡ Err why
      → AreRefused w c ms why
  refused_moves (call.Reserve point head) due is h =
      let none = no_own w point head ms why due h in
      record {
        moved = reserve_moved w point head ms why due none;
        none = unpolled w point head ms why due none;
        asked = λ rests. reserve_asks (is_running w) (polls w (call.Reserve point head)) rests;
        rests = λ other. rests_by_check w point head ms why due h other (check_reserve w point head) refl;
      }
  refused_moves (call.Get target source cell) due is h =
      record { moved = refl; none = λ rests. none_of_get (is_running w) _ due; asked = λ rests. refl; rests = λ other. refl }
  refused_moves (call.Step units) due is h = elim is [ ]
  refused_moves call.Collect due is h = elim is [ ]
  refused_moves call.Park due is h = elim is [ ]
  refused_moves _ due is h = record { moved = refl; none = λ rests. due; asked = λ rests. refl; rests = λ other. refl }

-- ---- a refused step

module _ (w : World) (s : Step) (why : Refusal) (legal : IsLegalStep w s) (is : s.answer ≡ refused why) where
  abbrev judged : World
  judged = judged_world w s.call s.moves

  abbrev moved : World
  moved = moved_world w s.call s.moves

  abbrev the_act : Checked Act
  the_act = act (is_block s.answer) judged moved s.call

  act_refused : the_act ≡ Err why
  act_refused =
      act_is_refused the_act why (refusals_of_act (is_block s.answer) judged moved s.call)
      (sym is ∙ legal.answer_is_due)

  its_refusal : IsOf why (refusals_of judged s.call)
  its_refusal = refusal_is the_act why (refusals_of_act (is_block s.answer) judged moved s.call) act_refused

  its_moves : AreRefused w s.call s.moves why
  its_moves =
      refused_moves (is_block s.answer) w why s.moves s.call
      (subst (λ answer. AreMovesOf w s.call answer s.moves) is legal.moves_are_due) its_refusal act_refused

  its_world : world_after w s ≡ with_client_remembered (asking (units_asked w s.call) (world_after_moves w s.moves))
  its_world =
      ap (λ x. with_client_remembered (world_from moved x)) act_refused
      ∙ ap (λ v. with_client_remembered (asking (units_asked w s.call) v)) its_moves.moved

pub refused_steps_are_listed : RefusedStepsAreListed
refused_steps_are_listed w s why legal is =
    contained (refusals_of (judged_world w s.call s.moves) s.call) (its_refusal w s why legal is)

pub refused_steps_make_no_moves : RefusedStepsMakeNoMoves
refused_steps_make_no_moves w s why legal is rests = (its_moves w s why legal is).none rests

pub refused_steps_leave_their_moves : RefusedStepsLeaveTheirMoves
refused_steps_leave_their_moves w s why legal is = its_world w s why legal is

pub refused_steps_change_nothing : RefusedStepsChangeNothing
refused_steps_change_nothing w s why legal is rests =
    let known = its_moves w s why legal is in
    its_world w s why legal is
    ∙ ap (λ units. with_client_remembered (asking units (world_after_moves w s.moves))) (known.asked rests)
    ∙ ap (λ ms. with_client_remembered (world_after_moves w ms)) (known.none rests)

pub refused_polls_have_no_place : RefusedPollsHaveNoPlace
refused_polls_have_no_place w s why legal is other = (its_moves w s why legal is).rests other
