-- Where a block is placed: a function of the extents of blocks, reservations and segments.
use Rattle.std.specs.Prelude.{ℕ, nat_le, if◌then◌else◌, List, slice_get}
use Rattle.std.specs.Option.{option_map_or}
use Rattle.mps_base.specs.Address.{Id, grains_needed}
use Rattle.mps_base.specs.Run.{Run, lowest_fitting}
use Rattle.mps_base.specs.Placement.{Placement, Place, run_placement}
use Rattle.mps_base.specs.declared.names.Rank.TheVariants as rank
use Rattle.mps_model.specs.Graph.{Point, entry_at}
use Rattle.mps_base.specs.Segment.{gaps_of}
use Rattle.mps_model.specs.World.{World, is_copying_pool, held_grains, covered, tail_of, pool_of, words_of, target_generation_for, empty_run}

-- what is to be placed
pub data Request : Type 0 where
  -- a reservation of n words at a point
  ForReserve : (point words : ℕ) → Request
  -- an object that a collection moves
  ForMove : (id : Id) → Request
  -- a block of n words of a manual pool
  ForAlloc : (pool words : ℕ) → Request

-- at the lowest free run of grains, if there is no place in what is held
abbrev pub new_segment_for : World → (words : ℕ) → Placement
new_segment_for w words = run_placement w.grains w.limit (held_grains w) (grains_needed words)

-- in the lowest gap that fits, else in a new segment
abbrev pub placement_in_gaps : World → List Run → (words : ℕ) → Placement
placement_in_gaps w free words = option_map_or Place (lowest_fitting words free) (new_segment_for w words)

-- at a prefix of the free words of the buffer, if there are enough, else in a new segment
abbrev pub placement_at_front : World → Run → (words : ℕ) → Placement
placement_at_front w at_hand words = if nat_le words at_hand.count then Place at_hand.from else new_segment_for w words

-- the buffer of a point
abbrev pub buffer_of : World → (point : ℕ) → Run
buffer_of w point = option_map_or (λ memory. memory.buffer) (slice_get w.point_memories point) empty_run

-- where a reservation of a pool is placed
abbrev pub placement_at_point : World → (number : ℕ) → Point → (words : ℕ) → Placement
placement_at_point w number p words =
    if is_copying_pool w p.pool then placement_at_front w (buffer_of w number) words
    else placement_in_gaps w (gaps_of (covered w) w.segments p.pool p.rank) words

-- where something is placed in a world
abbrev pub placement_of : World → Request → Placement
placement_of w (ForReserve point words) =
    option_map_or (λ p. placement_at_point w point p words) (entry_at w.graph.points point) (new_segment_for w words)
placement_of w (ForMove id) = placement_at_front w (tail_of w (pool_of w id) (target_generation_for w id)) (words_of w id)
placement_of w (ForAlloc pool words) = placement_in_gaps w (gaps_of (covered w) w.segments pool rank.Exact) words
