-- A reservation stays open until its point commits: what calls and steps leave of it.
use Rattle.std.proofs.Common.{◌≡◌, inl, inr, ℕ, Bool, true, false, refl, sym, ◌∙◌, ap, subst, List, [], ◌∷◌, Option, Some, None, Ok}
use Rattle.std.proofs.lemmas.Bool.{true≢false, and_parts, cases_eq, eq-eqb}
use Rattle.std.proofs.lemmas.Option.{none-some, same_Some}
use Rattle.std.specs.Prelude.{not, ◌&&◌, ◌||◌, is_some, option_and_then, slice_set}
use Rattle.std.specs.List.{list_any}
use Rattle.mps_base.specs.declared.names.Name.{Name}
use Rattle.mps_base.specs.declared.names.Slot.{Slot}
use Rattle.mps_base.specs.declared.refusal.Refusal.TheVariants as refusal
use Rattle.mps_model.specs.declared.call.Call.{Call}
use Rattle.mps_model.specs.declared.call.Call.TheVariants as call
use Rattle.mps_model.specs.Answer.{is_block}
use Rattle.mps_model.specs.Step.{Step, History}
use Rattle.mps_model.specs.Graph.{AreaThing, NamedThing, Point, PointThing, Reservation, TableThing, Thing, empty_graph, entry_at, thing_in, thing_named, with_last, without_name, TransformThing}
use Rattle.mps_model.specs.World.{World, pool_at}
use Rattle.mps_model.specs.Checked.{Numbered, as_point, number_named, point_named, refuse_when, required}
use Rattle.mps_model.specs.Allocating.{Reserving, check_reserve, takes_head}
use Rattle.mps_model.specs.Accessing.{same_target}
use Rattle.mps_model.specs.Reply.{act, world_from}
use Rattle.mps_model.specs.History.{IsLegalFrom, judged_world, moved_world, world_after, world_after_steps}
use Rattle.mps_changes.specs.Change.{AsideIs, Change, Aside, ChainMade, TableMade, AreaMade, BlocksMade, TableDropped, AreaDropped, Closed, Committed, DependencyMade, LabelMade, Opened, PointDropped, PointMade, PoolMade, Written, Substituted, TransformDropped, TransformMade, CacheMade}
use Rattle.mps_changes.proofs.ActChanges.{of_changes}
use Rattle.mps_changes.proofs.Checks.{for_world, point_named-is}
use Rattle.mps_changes.proofs.Lookups.{entry_at-set_other, entry_within}
use Rattle.mps_laws.specs.Staying.{are_without_flip, is_flip}
use Rattle.mps_laws.proofs.Entries.{entry_at-append, entry_at-written}
use Rattle.mps_laws.proofs.Reading.{bind_ok, next_ok}
use Rattle.mps_client_laws.specs.Reservations.{ReservationsStay, commit_elsewhere, commits_at, reservation_found, reservation_of}
use Rattle.mps_client_laws.proofs.QuietCalls.{checked_ok}
use Rattle.mps_client_laws.proofs.ReservationsOfMoves.{HasReservation, Later, held, held_is, judged_graph, moved_later, of_graph, or_false, stands, stays, then_later}
use Rattle.mps_client_laws.proofs.SlotsStay.{named_kept, not_false, unnamed_kept}
use Rattle.mps_client_laws.proofs.WritesOfMoves.{moved_world_leaves}

-- ---- checks of a `reserve`

none_open : (o : Option Reservation) (u : Unit {0}) → refuse_when (is_some o) refusal.Open ≡ Ok u → o ≡ None
none_open None u e = refl
none_open (Some r) u e = absurd cc

-- a point that may be reserved has no reservation
reserved_at_none : (w : World) (name : Name) (head : ℕ) (reserving : Reserving) → check_reserve w name head ≡ Ok reserving
    → reservation_of w name ≡ None
reserved_at_none w name head reserving e =
    let p = bind_ok (point_named w name) _ reserving e in
    let pool = bind_ok (required (pool_at w p.0.value.pool) refusal.BadName) _ reserving p.2 in
    let next = next_ok (refuse_when (not (takes_head w pool.0 head)) refusal.BadHead) _ reserving pool.2 in
    let free = checked_ok (refuse_when (is_some p.0.value.reservation) refusal.Open) _ reserving next in
    ap reservation_found p.1 ∙ none_open p.0.value.reservation free.0 free.1

-- ---- what a call leaves

module _ (marked : Bool) (c : Call) (judged v : World) (point : Name) (n : ℕ) (r : Reservation) (h : HasReservation point n v.graph r) where
  abbrev IsLater : World → Type 0
  IsLater u = Later point n u.graph r false

  same : (u : World) → u.graph.names ≡ v.graph.names → u.graph.points ≡ v.graph.points → IsLater u
  same u names points = stays point n u.graph r (stands point n v.graph u.graph r names points h)

  one_named : (u : World) (one : NamedThing) → u.graph.names ≡ with_last v.graph.names one → u.graph.points ≡ v.graph.points → IsLater u
  one_named u one names points = stays point n u.graph r (record {
    named = ap (λ ns. thing_in ns point) names ∙ named_kept v.graph.names one point (PointThing n) h.named;
    value = h.value;
    there = ap (λ ps. entry_at ps n) points ∙ h.there;
    has = h.has;
  })

  -- a name that is dropped, if it isn't that of this point
  one_unnamed : (u : World) (name : Name) → (name ≡ point → ⊥) → u.graph.names ≡ without_name v.graph.names name
      → entry_at u.graph.points n ≡ Some h.value → IsLater u
  one_unnamed u name differs names there = stays point n u.graph r (record {
    named = ap (λ ns. thing_in ns point) names ∙ unnamed_kept v.graph.names name point differs ∙ h.named;
    value = h.value;
    there = there;
    has = h.has;
  })

  -- another point is written
  other_point : (u : World) (q : ℕ) (x : Option Point) → (q ≡ n → ⊥) → u.graph.names ≡ v.graph.names
      → u.graph.points ≡ slice_set v.graph.points q x → IsLater u
  other_point u q x differs names points = stays point n u.graph r (record {
    named = ap (λ ns. thing_in ns point) names ∙ h.named;
    value = h.value;
    there = ap (λ ps. entry_at ps n) points ∙ entry_at-set_other v.graph.points q n x differs ∙ h.there;
    has = h.has;
  })

  number_of_point : number_named v point as_point ≡ Some n
  number_of_point = ap (option_and_then as_point) h.named

  -- the name of another thing
  not_named : (name : Name) (t : Thing) → thing_named v.graph name ≡ Some t → as_point t ≡ None → name ≡ point → ⊥
  not_named name t is none equal =
      none-some n (sym none ∙ ap as_point (same_Some t (PointThing n) (sym is ∙ ap (thing_in v.graph.names) equal ∙ h.named)))

  -- a point without a reservation
  reserves_not : (name : Name) (q : Numbered Point) → point_named v name ≡ Ok q → q.value.reservation ≡ None → q.number ≡ n → ⊥
  reserves_not name q is none equal =
      let at = (point_named-is v name q is).1 in
      let value : q.value ≡ h.value =
      same_Some q.value h.value (sym at ∙ ap (entry_at v.graph.points) equal ∙ h.there) in
      none-some r (sym none ∙ ap (λ (p : Point). p.reservation) value ∙ h.has)

  -- a call that commits at another point
  commits_not : commits_at v c point ≡ false → (name : Name) (target : Slot) (q : Numbered Point) → c ≡ call.Commit name target
      → point_named v name ≡ Ok q → q.number ≡ n → ⊥
  commits_not elsewhere name target q is there equal =
      true≢false (sym (ap (λ t. same_target t (number_named v name as_point)) number_of_point
      ∙ ap (same_target (Some n)) (point_named-is v name q there).0 ∙ eq-eqb n q.number (sym equal))
      ∙ sym (ap (λ d. commits_at v d point) is) ∙ elsewhere)

  -- cells of this reservation are written, which isn't doomed then
  written_here : (u : World) (q : Numbered Point) (s now : Reservation) → u.graph.names ≡ v.graph.names
      → u.graph.points ≡ slice_set v.graph.points q.number (Some (record q.value { reservation = Some now }))
      → entry_at v.graph.points q.number ≡ Some q.value → q.value.reservation ≡ Some s
      → s.is_doomed ≡ false → now.head ≡ s.head → now.is_doomed ≡ s.is_doomed → q.number ≡ n → IsLater u
  written_here u q s now names points at has lives head doomed equal =
      let value : q.value ≡ h.value =
      same_Some q.value h.value (sym at ∙ ap (entry_at v.graph.points) equal ∙ h.there) in
      let this : s ≡ r = same_Some s r (sym has ∙ ap (λ (p : Point). p.reservation) value ∙ h.has) in
      record {
        now = now;
        holds = record {
          named = ap (λ ns. thing_in ns point) names ∙ h.named;
          value = record q.value { reservation = Some now };
          there = ap (λ ps. entry_at ps n) points
              ∙ subst (λ k. entry_at
              (slice_set v.graph.points q.number (Some (record q.value { reservation = Some now }))) k
              ≡ Some (record q.value { reservation = Some now })) equal
              (entry_at-written v.graph.points q.number q.value (Some (record q.value { reservation = Some now })) at);
          has = refl;
        };
        follows = record {
          same_head = head ∙ ap (λ (x : Reservation). x.head) this;
          doomed = doomed ∙ ap (λ (x : Reservation). x.is_doomed) this ∙ or_false r.is_doomed;
          same_cells = λ was. absurd (true≢false (sym was ∙ sym (ap (λ (x : Reservation). x.is_doomed) this) ∙ lives));
        };
      }

  named_aside : (u : World) → AsideIs marked c judged v u → thing_in u.graph.names point ≡ Some (PointThing n)
  named_aside _ (ChainMade name capacities) = named_kept v.graph.names _ point (PointThing n) h.named
  named_aside _ (DependencyMade name d e dated) = named_kept v.graph.names _ point (PointThing n) h.named
  named_aside _ (LabelMade name e free) = named_kept v.graph.names _ point (PointThing n) h.named
  named_aside _ (TransformMade name) = named_kept v.graph.names _ point (PointThing n) h.named
  named_aside _ (TransformDropped name k is) =
      unnamed_kept v.graph.names name point (not_named name (TransformThing k) is refl) ∙ h.named
  named_aside _ _ = h.named

  module _ (elsewhere : commits_at v c point ≡ false)
      (reserve_judged : (name : Name) (head : ℕ) → c ≡ call.Reserve name head → judged.graph ≡ v.graph) where
    change_later : (u : World) → Change marked c judged v u → IsLater u
    change_later _ (Aside u what) = stays point n _ r (record {
      named = named_aside u what;
      value = h.value;
      there = h.there;
      has = h.has;
    })
    change_later u (TableMade name slots) = one_named u _ refl refl
    change_later u (AreaMade name words) = one_named u _ refl refl
    change_later u (BlocksMade name places e) = one_named u _ refl refl
    change_later u (TableDropped name k is) = one_unnamed u name (not_named name (TableThing k) is refl) refl h.there
    change_later u (AreaDropped name k is) = one_unnamed u name (not_named name (AreaThing k) is refl) refl h.there
    change_later u (CacheMade name pool of classes e may none) = one_named u _ refl refl
    change_later u (PoolMade name p e made) = one_named u _ refl refl
    change_later u (PointMade name pool of at_rank e is may) = stays point n u.graph r (record {
      named = named_kept v.graph.names _ point (PointThing n) h.named;
      value = h.value;
      there = entry_at-append v.graph.points _ n (entry_within v.graph.points n h.value h.there) ∙ h.there;
      has = h.has;
    })
    change_later u (PointDropped name q e is none) =
        one_unnamed u name (λ equal. reserves_not name q is none
        (same_Some q.number n (sym (point_named-is v name q is).0 ∙ ap (λ m. number_named v m as_point) equal ∙ number_of_point)))
        refl (entry_at-set_other v.graph.points q.number n None (reserves_not name q is none) ∙ h.there)
    change_later u (Opened name head reserving q at e is there) =
        other_point u q.number _ (reserves_not name q there
        (sym (ap reservation_found there) ∙ ap (λ g. reservation_of (of_graph g) name) (sym (reserve_judged name head e))
        ∙ reserved_at_none judged name head reserving is)) refl refl
    change_later u (Written name q s change e is has lives write) = elim (cases_eq q.number n) [
      | inl equal ↦ written_here u q s (record s { cells = change s.cells }) refl refl (point_named-is v name q is).1 has lives refl refl
          equal
      | inr differs ↦ other_point u q.number _ differs refl refl
    ]
    change_later u (Closed name target q s e is has ended) = other_point u q.number _ (commits_not elsewhere name target q e is) refl refl
    change_later u (Committed name target q s slot e is found has lives) =
        other_point u q.number _ (commits_not elsewhere name target q e is) refl refl
    change_later u (Substituted name k e is parked) =
        one_unnamed u name (not_named name (TransformThing k) is refl) refl h.there
    change_later u _ = same u refl refl

    pub act_later : IsLater (world_from v (act marked judged v c))
    act_later =
        for_world IsLater v (act marked judged v c) (of_changes marked judged v c change_later) (stays point n v.graph r h)

-- ---- steps

-- a world of these names
abbrev of_names : List NamedThing → World
of_names names = of_graph (record empty_graph { names = names })

same_commits : (v w : World) (c : Call) (point : Name) → v.graph.names ≡ w.graph.names → commits_at v c point ≡ commits_at w c point
same_commits v w (call.Commit other target) point names = ap (λ ns. commits_at (of_names ns) (call.Commit other target) point) names
same_commits v w _ point names = refl

module _ (point : Name) (n : ℕ) where
  step_later : (w : World) (s : Step) (r : Reservation) → commits_at w s.call point ≡ false
      → HasReservation point n w.graph r → Later point n (world_after w s).graph r (list_any is_flip s.moves)
  step_later w s r elsewhere h =
      subst (Later point n (world_after w s).graph r) (sym (or_false (list_any is_flip s.moves)))
      (then_later point n moved.graph (world_after w s).graph r (list_any is_flip s.moves) false
      (moved_later point n w s.moves r h s.call) acted)
    where
      judged : World
      judged = judged_world w s.call s.moves

      moved : World
      moved = moved_world w s.call s.moves

      acted : (now : Reservation) → HasReservation point n moved.graph now → Later point n (world_after w s).graph now false
      acted now holds =
          act_later (is_block s.answer) s.call judged moved point n now holds
          (same_commits moved w s.call point (moved_world_leaves w s.call s.moves).names ∙ elsewhere)
          (judged_graph w s.call s.moves)

  one_flips : (a b : Bool) → (a || not b) ≡ not (not a && b)
  one_flips true b = refl
  one_flips false b = refl

  steps_later : (w : World) (steps : History) (r : Reservation) → IsLegalFrom w steps → commit_elsewhere w steps point ≡ true
      → HasReservation point n w.graph r → Later point n (world_after_steps w steps).graph r (not (are_without_flip steps))
  steps_later w [] r legal elsewhere h = stays point n w.graph r h
  steps_later w (s ∷ ss) r legal elsewhere h =
      let parts = and_parts (not (commits_at w s.call point)) (commit_elsewhere (world_after w s) ss point) elsewhere in
      subst (Later point n (world_after_steps (world_after w s) ss).graph r)
      (one_flips (list_any is_flip s.moves) (are_without_flip ss))
      (then_later point n (world_after w s).graph (world_after_steps (world_after w s) ss).graph r (list_any is_flip s.moves)
      (not (are_without_flip ss)) (step_later w s r (not_false (commits_at w s.call point) parts.0) h)
      (λ now holds. steps_later (world_after w s) ss now legal.1 parts.1 holds))

pub reservations_stay : ReservationsStay
reservations_stay w steps point reserved legal elsewhere there =
    let h = held w point reserved there in
    let later = steps_later point h.0 w steps reserved legal elsewhere h.1 in
    record {
      now = later.now;
      there = held_is (world_after_steps w steps) point h.0 later.now later.holds;
      same_head = later.follows.same_head;
      doomed = later.follows.doomed;
      same_cells = later.follows.same_cells;
    }
