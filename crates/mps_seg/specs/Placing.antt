-- Where a block or a reservation is placed that lies in the gaps of its pool.
use Rattle.std.specs.Prelude.{ℕ}
use Rattle.std.specs.Option.{option_map_or}
use Rattle.mps_base.specs.Run.{lowest_fitting}
use Rattle.mps_base.specs.Segment.{gaps_of}
use Rattle.mps_base.specs.Placement.{Placement, Place}
use Rattle.mps_base.specs.declared.names.Rank.{Rank}
use Rattle.mps_seg.specs.Segs.{SegsState, placement_for}

-- in the lowest gap of a pool and a rank that fits, else in a new segment
abbrev pub placement_in_gaps : SegsState → (pool : ℕ) → Rank → (words : ℕ) → Placement
placement_in_gaps s pool at_rank words =
    option_map_or Place (lowest_fitting words (gaps_of s.covered s.segments pool at_rank)) (placement_for s words)
