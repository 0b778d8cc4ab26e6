-- When a `reserve` polls, and that its poll makes no moves at rest, if it has a place in what is held, and in a clamped arena.
use Rattle.std.proofs.Common.{◌≡◌, ◌∙◌, ℕ, Bool, true, false, refl, sym, ap, subst, List, [], length, Some, None}
use Rattle.std.specs.Prelude.{MatchBool, ◌&&◌, not, if◌then◌else◌}
use Rattle.std.specs.Option.{option_map_or}
use Rattle.mps_base.specs.declared.moves.Move.{Move}
use Rattle.mps_base.specs.declared.names.Name.{Name}
use Rattle.mps_base.specs.Placement.{Placement, Place, NewSegment, OverLimit, NoFreeRun}
use Rattle.mps_buffer.specs.Points.{placement_at}
use Rattle.mps_buffer.specs.Points as points
use Rattle.mps_format.specs.Layout.{Layout}
use Rattle.mps_laws.proofs.Same.{Same, fits}
use Rattle.mps_laws.proofs.Same as same
use Rattle.mps_model.specs.declared.call.Call.TheVariants as call
use Rattle.mps_model.specs.Allocating as model
use Rattle.mps_model.specs.Checked.{Checked}
use Rattle.mps_model.specs.Graph.{new_cells}
use Rattle.mps_model.specs.History.{IsPoll}
use Rattle.mps_model.specs.Placement.{ForReserve, placement_of}
use Rattle.mps_model.specs.World.{World, PointMemory, is_running}
use Rattle.mps_heap_spec.specs.Allocating.{check_reserve}
use Rattle.mps_heap_spec.specs.declared.arena.ArenaState.{ArenaState}
use Rattle.mps_heap_spec.specs.declared.arena.ArenaState.TheVariants as arena
use Rattle.mps_model.specs.Policy.{due_in, is_place, polls, units_of_poll}
use Rattle.mps_model.specs.World as world
use Rattle.mps_heap_spec.specs.declared.found.Reserving.{Reserving}
use Rattle.mps_heap_spec.specs.Polling.{is_unclamped, polls_for}
use Rattle.mps_heap_spec.specs.State.{HeapState}
use Rattle.mps_refinement.specs.StandsFor.{AreParts, Past, state_of}
use Rattle.mps_refinement.proofs.Worlds.Known.{IsKnown}
use Rattle.mps_refinement.proofs.Worlds.Placing.{reserve_agrees}
use Rattle.mps_refinement.proofs.Calls.ReserveChecks.{IsReserving, reserve_checked}
use Rattle.mps_refinement.proofs.Calls.ReserveStep.{Polls}
use Rattle.mps_refinement.proofs.Calls.Reserving as resting

abbrev no_moves : List Move
no_moves = []

-- ---- when it polls

-- a placement lies in what is held in both
place_alike : (q : Placement) → points.is_place q ≡ is_place q
place_alike (Place word) = refl
place_alike (NewSegment grain grains) = refl
place_alike (OverLimit committed need limit) = refl
place_alike (NoFreeRun need longest) = refl

module _ {F : Type 0} (layout : F → Layout) (past : Past) (h : HeapState F) (w : World) (parts : AreParts layout past h w)
    (knows : IsKnown past.time w) (name : Name) (head : ℕ) where
  same_state : (a : ArenaState) → state_of a (world.pairs_in w.state) ≡ w.state → is_unclamped a ≡ world.is_unclamped w
  same_state arena.Unclamped e = ap world.is_unclamped_state e
  same_state arena.Clamped e = ap world.is_unclamped_state e
  same_state arena.Parked e = ap world.is_unclamped_state e

  placed_so : (a : Reserving) (b : model.Reserving) → IsReserving layout past h w parts knows.graph name head a b
      → placement_at a.point.value h.segs a.words ≡ placement_of w (ForReserve b.point.number (length b.cells))
  placed_so a b is =
      ap (placement_at a.point.value h.segs) is.words
      ∙ reserve_agrees h.segs w
      (record { grains = parts.grains; limit = parts.limit; segments = parts.segments; covered = parts.image.runs.covered })
      is.point.number a.point.value is.point.value (length (new_cells is.format head)) is.found.has is.found.fit.pool is.found.fit.rank
      is.found.fit.copying (is.found.fit.buffer ∙ sym (ap (λ o. option_map_or (λ (m : PointMemory). m.buffer) o
      (record { from = 0; count = 0 })) is.found.fit.has))
      ∙ ap (λ (r : model.Reserving). placement_of w (ForReserve r.point.number (length r.cells))) (sym is.is)

  polls_so : (y : Checked Reserving) (z : Checked model.Reserving) → Same (IsReserving layout past h w parts knows.graph name head) y z
      → polls_for h y ≡ Rattle.mps_model.specs.Policy.polls_for w z
  polls_so y z (fits {a} {b} is) =
      ap (λ u. u && not (points.is_place (placement_at a.point.value h.segs a.words))) (same_state h.arena (sym parts.state))
      ∙ ap (λ b. world.is_unclamped w && not b) (place_alike (placement_at a.point.value h.segs a.words))
      ∙ ap (λ q. world.is_unclamped w && not (is_place q)) (placed_so a b is)
  polls_so y z same.refused = refl

  -- a heap polls exactly if the model does
  pub polls_alike : polls_for h (check_reserve layout h name head) ≡ polls w (call.Reserve name head)
  polls_alike =
      polls_so (check_reserve layout h name head) (model.check_reserve w name head)
      (reserve_checked layout past h w parts knows.graph name head)

-- if it doesn't poll, no moves come first
pub no_poll : (v : World) (name : Name) (head : ℕ) → polls v (call.Reserve name head) ≡ false → Polls v name head [] v
no_poll v name head none = record {
  legal = tt;
  due = subst (λ b. MatchBool b (IsPoll v no_moves) (no_moves ≡ [])) (sym none) refl;
  never_own = refl;
  units = None;
  asks = ap (λ b. if b then Some units_of_poll else None) (ap (λ b. is_running v && b) none ∙ with_false (is_running v));
  leads = refl;
  judged = v.collection;
  judged_is = refl;
  grains = refl;
  formats = refl;
}
  where
    with_false : (b : Bool) → (b && false) ≡ false
    with_false true = refl
    with_false false = refl

-- nor if no collection runs and nothing is due
pub no_poll_at_rest : (v : World) (name : Name) (head : ℕ) → v.collection ≡ None → due_in v ≡ None → Polls v name head [] v
no_poll_at_rest v name head rest nothing_due = record {
  legal = tt;
  due = resting.no_poll v rest nothing_due 0 name head;
  never_own = refl;
  units = None;
  asks = resting.no_units v rest nothing_due 0 name head;
  leads = refl;
  judged = v.collection;
  judged_is = refl;
  grains = refl;
  formats = refl;
}
