-- When a `reserve` polls, and what it then collects.
use Rattle.std.specs.Prelude.{ℕ, zero, suc, ◌+◌, Bool, true, false, not, ◌&&◌, ◌==◌, if◌then◌else◌, Option, Some, None, Ok, Err, List, [], ◌∷◌, length, filter, sum_by}
use Rattle.mps_base.specs.Generation.{Load, Due, due_generation}
use Rattle.mps_base.specs.Placement.{Placement, Place, NewSegment, OverLimit, NoFreeRun}
use Rattle.mps_model.specs.declared.call.Call.{Call}
use Rattle.mps_model.specs.declared.call.Call.TheVariants as call
use Rattle.mps_base.specs.Segment.{Segment}
use Rattle.mps_model.specs.World.{World, is_running, is_unclamped}
use Rattle.mps_model.specs.Placement.{ForReserve, placement_of}
use Rattle.mps_model.specs.Checked.{Checked}
use Rattle.mps_model.specs.Allocating.{Reserving, check_reserve}
use Rattle.mps_model.specs.Effect.{is_on_chain}

-- whether a segment is of a generation of a chain
abbrev pub is_of_generation : World → (chain generation : ℕ) → Segment → Bool
is_of_generation w chain generation s = is_on_chain w chain s.pool && s.generation == generation

-- the grains that a generation of a chain holds
abbrev pub held_by_generation : World → (chain generation : ℕ) → ℕ
held_by_generation w chain generation = sum_by (λ s. s.grains) (filter (is_of_generation w chain generation) w.segments)

-- the grains that n generations hold, from this one on
abbrev pub held_by_generations : World → (chain generation count : ℕ) → List ℕ
held_by_generations w chain generation zero = []
held_by_generations w chain generation (suc count) =
    held_by_generation w chain generation ∷ held_by_generations w chain (generation + 1) count

-- what chains hold, from this number on
abbrev pub loads_from : World → (chain : ℕ) → List (List ℕ) → List Load
loads_from w chain [] = []
loads_from w chain (capacities ∷ more) =
    record { capacities = capacities; held = held_by_generations w chain 0 (length capacities) } ∷ loads_from w (chain + 1) more

-- the generation that is due: of the first chain with one that holds more than its capacity, the greatest such one
abbrev pub due_in : World → Option Due
due_in w = due_generation (loads_from w 0 w.chains)

abbrev pub is_place : Placement → Bool
is_place (Place word) = true
is_place (NewSegment grain grains) = false
is_place (OverLimit committed need limit) = false
is_place (NoFreeRun need longest) = false

-- whether a `reserve` that checked so far polls: if the arena is unclamped and there is no place in what is held
abbrev pub polls_for : World → Checked Reserving → Bool
polls_for w (Ok r) = is_unclamped w && not (is_place (placement_of w (ForReserve r.point.number (length r.cells))))
polls_for w (Err why) = false

-- whether a call polls
abbrev pub polls : World → Call → Bool
polls w (call.Reserve point head) = polls_for w (check_reserve w point head)
polls w _ = false

-- a poll asks n units of a running collection
abbrev pub units_of_poll : ℕ
units_of_poll = 64

-- the units that a call asks of a running collection, if it asks for any
abbrev pub units_asked : World → Call → Option ℕ
units_asked w (call.Step units) = if is_unclamped w then Some units else None
units_asked w (call.Reserve point head) = if is_running w && polls w (call.Reserve point head) then Some units_of_poll else None
units_asked w _ = None
