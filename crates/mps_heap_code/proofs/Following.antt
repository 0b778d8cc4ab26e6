-- What is followed of the moves that were made leaves the collection as far as it was.
use Rattle.std.proofs.Common.{◌≡◌, ◌∙◌, ℕ, Bool, true, false, Option, Some, None, List, [], ◌∷◌, ap, refl}
use Rattle.std.specs.Prelude.{drop, if◌then◌else◌, is_some, IsSome}
use Rattle.std.specs.Option.{option_map_or}
use Rattle.mps_base.specs.Address.{Address}
use Rattle.mps_base.specs.Trail.{Moves}
use Rattle.mps_base.specs.declared.moves.Move.{Move}
use Rattle.mps_base.specs.declared.moves.Move.TheVariants as moves
use Rattle.mps_dep.specs.Following.{nulled}
use Rattle.mps_dep.specs.State.{dependent_of}
use Rattle.mps_format.specs.Layout.{Layout}
use Rattle.mps_trace.specs.declared.running.Running.{Running}
use Rattle.mps_heap_spec.specs.Finding.{with_words}
use Rattle.mps_heap_spec.specs.Following.{is_passed_by, move_followed, moves_followed, splat_followed, with_dependent_nulled}
use Rattle.mps_heap_spec.specs.State.{HeapState, format_over}
use Rattle.mps_heap_spec.specs.Units.{HasDoneUnits}
use Rattle.mps_heap_spec.specs.declared.arena.Progress.{Progress}
use Rattle.mps_heap_spec.specs.declared.arena.Progress.TheVariants.{Idle, More}

-- whether a collection is in progress, by how far it is
abbrev pub progress_at : Option Running → Progress
progress_at running = if is_some running then More else Idle

pub is_more : (o : Option Running) → progress_at o ≡ More → IsSome o
is_more (Some run) e = refl
is_more None e = absurd cc

module _ {F : Type 0} (layout : F → Layout) where
  splat_leaves : (h : HeapState F) (dependent : Option Address) (cell : ℕ)
      → (splat_followed layout h dependent cell).running ≡ h.running
  splat_leaves h None cell = refl
  splat_leaves h (Some at) cell = of_test (is_passed_by h at)
    where
      of_format : (o : Option F)
          → (option_map_or (λ f. with_words h (nulled (layout f) h.segs at cell)) o h).running ≡ h.running
      of_format None = refl
      of_format (Some f) = refl

      of_test : (b : Bool) → (if b then h else with_dependent_nulled layout h at cell).running ≡ h.running
      of_test true = refl
      of_test false = of_format (format_over h at)

  move_leaves : (h : HeapState F) (m : Move) → (move_followed layout h m).running ≡ h.running
  move_leaves h (moves.Seg base grains pool generation) = refl
  move_leaves h (moves.Unseg base) = refl
  move_leaves h (moves.Flip zones chain generation) = refl
  move_leaves h moves.End = refl
  move_leaves h (moves.Moved from to) = refl
  move_leaves h (moves.Stay at) = refl
  move_leaves h (moves.Splat holder cell) = splat_leaves h (dependent_of h.beside.dependents holder.0) cell
  move_leaves h (moves.Post at) = refl
  move_leaves h (moves.Commit at words pool) = refl
  move_leaves h (moves.Alloc at words pool) = refl
  move_leaves h (moves.Free at) = refl

  running_stays : (h : HeapState F) (ms : List Move) → (moves_followed layout h ms).running ≡ h.running
  running_stays h [] = refl
  running_stays h (m ∷ ms) = running_stays (move_followed layout h m) ms ∙ move_leaves h m

  -- what units left, and then their moves were followed
  pub running_after : {h after : HeapState F} {m m' : Moves} {n : ℕ} (made : HeapState F) (first : ℕ) → HasDoneUnits layout h m n made m'
      → after ≡ moves_followed layout made (drop first m'.moves) → after.running ≡ made.running
  running_after {m' = m'} made first units followed =
      ap (λ (h : HeapState F). h.running) followed ∙ running_stays made (drop first m'.moves)
