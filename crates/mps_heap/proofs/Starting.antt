-- What a heap needs to begin a collection, and what it then guarantees.
use Rattle.std.proofs.Common.{◌≡◌, ◌∙◌, ◌<◌, ◌≤◌, ◌^◌, ℕ, true, sym, subst}
use Rattle.std.proofs.lemmas.Bool.{ltb-true}
use Rattle.std.specs.Prelude.{IfOk}
use Rattle.mps_base.specs.Trail.{Moves}
use Rattle.mps_base.specs.declared.names.Name.{Name}
use Rattle.mps_format.specs.Layout.{Layout}
use Rattle.mps_model.specs.World.{World}
use Rattle.mps_model.specs.declared.call.Call.TheVariants as call
use Rattle.mps_heap_spec.specs.Checked.{Checked}
use Rattle.mps_heap_spec.specs.Collecting.{CanStart, Starts, can_collect, check_start, check_start_chain, most_flips}
use Rattle.mps_heap_spec.specs.Points.{WereMadeBefore}
use Rattle.mps_heap_spec.specs.State.{HeapState}
use Rattle.mps_heap_spec.specs.Units.{IsWhole}
use Rattle.mps_refinement.specs.Answering.{answer_to, says_ok}
use Rattle.mps_refinement.specs.MovesNeeded.{moves_needed}
use Rattle.mps_refinement.specs.RightMoving.{IsRightMoving, KeepsRoom}
use Rattle.mps_refinement.specs.StandsFor.{StandsFor}
use Rattle.mps_refinement.specs.StandsForSome.{StandsForSome}
use Rattle.mps_refinement.specs.UnitsLeft.{BeginsWithin}
use Rattle.mps_refinement.proofs.Collect.LiveIsFew.{most_now}
use Rattle.mps_refinement.proofs.Left.Starts.{begins_within}
use Rattle.mps_refinement.proofs.Units.Starts.{a_start_is_right, can_start, start_chain_checked, start_checked}
use Rattle.mps_refinement.proofs.Worlds.Staying.{one_world}
use Rattle.mps_heap.proofs.Rooms.{has_room}

module _ {F : Type 0} (layout : F → Layout) (h : HeapState F) (some : StandsForSome layout h) (whole : IsWhole h) (m : Moves)
    (fits : moves_needed h.segs ≤ m.spare) where
  room : most_now h.segs ≤ m.spare
  room = has_room layout h some m.spare fits

  one : (w : World) × StandsFor layout h w
  one = one_world layout h some

  -- one flip more can be counted
  pub few_epochs : can_collect h ≡ true → h.epochs.count < 2 ^ 63
  few_epochs can =
      subst (λ n. n < 2 ^ 63) (one.1.parts.point_flips ∙ sym one.1.parts.flips.count) (ltb-true h.points.flips most_flips can)

  pub can_start_here : can_collect h ≡ true → IfOk (check_start h) (λ what. CanStart layout what h m)
  can_start_here can =
      can_start layout h whole m room one.0 one.1 (ltb-true h.points.flips most_flips can) call.Start (check_start h)
      (start_checked layout h whole one.0 one.1)

  pub started_rightly : WereMadeBefore h.points.flips h.points → (h' : HeapState F) (m' : Moves) (result : Checked (Unit {0}))
      → Starts layout (check_start h) h m result h' m'
      → IsRightMoving layout h call.Start m.moves m'.moves (answer_to says_ok result) h' × KeepsRoom m m'
  started_rightly made h' m' result starts =
      a_start_is_right layout h whole m room made call.Start (check_start h) h' m' result one (start_checked layout h whole) starts

  -- and at most as many units are left as its flip may leave
  pub started_within : WereMadeBefore h.points.flips h.points → (h' : HeapState F) (m' : Moves) (result : Checked (Unit {0}))
      → Starts layout (check_start h) h m result h' m' → BeginsWithin (check_start h) h h'
  started_within made h' m' result =
      begins_within layout h whole m room one.0 one.1 made h' m' call.Start (check_start h) result
      (start_checked layout h whole one.0 one.1)

  -- the same of the generations of a chain
  module _ (chain : Name) (oldest : ℕ) where
    pub can_start_chain_here : can_collect h ≡ true → IfOk (check_start_chain h chain oldest) (λ what. CanStart layout what h m)
    can_start_chain_here can =
        can_start layout h whole m room one.0 one.1 (ltb-true h.points.flips most_flips can) (call.StartChain chain oldest)
        (check_start_chain h chain oldest) (start_chain_checked layout h whole one.0 one.1 chain oldest)

    pub chain_started_rightly : WereMadeBefore h.points.flips h.points → (h' : HeapState F) (m' : Moves) (result : Checked (Unit {0}))
        → Starts layout (check_start_chain h chain oldest) h m result h' m'
        → IsRightMoving layout h (call.StartChain chain oldest) m.moves m'.moves (answer_to says_ok result) h' × KeepsRoom m m'
    chain_started_rightly made h' m' result starts =
        a_start_is_right layout h whole m room made (call.StartChain chain oldest) (check_start_chain h chain oldest) h' m' result one
        (λ w st. start_chain_checked layout h whole w st chain oldest) starts

    pub chain_started_within : WereMadeBefore h.points.flips h.points → (h' : HeapState F) (m' : Moves) (result : Checked (Unit {0}))
        → Starts layout (check_start_chain h chain oldest) h m result h' m' → BeginsWithin (check_start_chain h chain oldest) h h'
    chain_started_within made h' m' result =
        begins_within layout h whole m room one.0 one.1 made h' m' (call.StartChain chain oldest) (check_start_chain h chain oldest) result
        (start_chain_checked layout h whole one.0 one.1 chain oldest)
