-- Where blocks are placed: by rank in an AWL pool, and at each point's buffer in an AMCZ pool.
use Rattle.std.specs.Prelude.{◌≡◌, ℕ, ◌-◌, Bool, true, false, Option, Some, None, [], ◌∷◌, replicate}
use Rattle.mps_base.specs.Placement.{Place, NewSegment}
use Rattle.mps_base.specs.declared.names.Kind.TheVariants as kind
use Rattle.mps_base.specs.declared.names.Rank.{Rank}
use Rattle.mps_base.specs.declared.names.Rank.TheVariants as rank
use Rattle.mps_model.specs.Graph.{HeadCell, NumberCell, Automatic, Object, Point, empty_graph}
use Rattle.mps_model.specs.World.{World, empty_world}
use Rattle.mps_model.specs.Placement.{ForReserve, placement_of}
use Rattle.mps_refusal_examples.specs.SmallWorld.{front, front_pool, no_memory, segment}

-- a block of n words
abbrev pub block : (words : ℕ) → Bool → Object
block words is_weak = record { pool = 0; body = Automatic (front words 0) (HeadCell ∷ replicate (words - 1) (NumberCell 0)) is_weak }

abbrev pub point_of : Rank → Option Point
point_of at_rank = Some (record { pool = 0; rank = at_rank; reservation = None })

-- ---- an AWL pool

-- a segment of each rank: that of the exact rank has 12 words free after its block, that of the weak rank 510. Point 0 is
-- exact, point 1 weak
abbrev pub both_ranks : World
both_ranks = record empty_world {
  graph = record empty_graph {
    objects = block 500 false ∷ block 2 true ∷ [];
    points = point_of rank.Exact ∷ point_of rank.Weak ∷ [];
  };
  grains = 8;
  limit = 8;
  pools = front_pool kind.Awl ∷ [];
  segments = segment 0x1000 0 rank.Exact ∷ segment 0x2000 0 rank.Weak ∷ [];
  addresses = Some 0x1000 ∷ Some 0x2000 ∷ [];
  point_memories = no_memory ∷ no_memory ∷ [];
}

-- a block of a point lies in the lowest gap that fits of the segments of the point's rank, else in a new one
pub record AreGapsByRank : Type 0 where
  pub exact : placement_of both_ranks (ForReserve 0 12) ≡ Place 1012
  pub exact_does_not_fit : placement_of both_ranks (ForReserve 0 13) ≡ NewSegment 3 1
  pub weak : placement_of both_ranks (ForReserve 1 12) ≡ Place 1026
  pub weak_does_not_fit : placement_of both_ranks (ForReserve 1 511) ≡ NewSegment 3 1

-- ---- an AMCZ pool

-- two points on one segment: point 0 has what is left after its block, and the buffer of point 1 is empty. The first words of
-- the segment are free, as its first block is gone
abbrev pub two_points : World
two_points = record empty_world {
  graph = record empty_graph {
    objects = block 100 false ∷ block 2 false ∷ [];
    points = point_of rank.Exact ∷ point_of rank.Exact ∷ [];
  };
  grains = 8;
  limit = 8;
  pools = front_pool kind.Amcz ∷ [];
  segments = segment 0x1000 0 rank.Exact ∷ [];
  addresses = None ∷ Some 0x1320 ∷ [];
  point_memories = record { reserved_at = 0x1320; buffer = record { from = 614; count = 410 } } ∷ no_memory ∷ [];
}

-- a block lies where the buffer of its point begins, if the buffer has room for it, else in a new segment; never in a gap
pub record AreBuffersByPoint : Type 0 where
  pub in_the_buffer : placement_of two_points (ForReserve 0 410) ≡ Place 614
  pub past_the_buffer : placement_of two_points (ForReserve 0 411) ≡ NewSegment 2 1
  pub without_buffer : placement_of two_points (ForReserve 1 2) ≡ NewSegment 2 1
