-- Segments: runs of whole grains that the arena holds for a pool, and the gaps in them, where blocks may be placed.
use Rattle.std.specs.Prelude.{ℕ, ◌≡◌, ◌+◌, ◌*◌, Bool, true, false, not, ◌&&◌, ◌==◌, nat_le, nat_lt, Option, Some, None, List, [], ◌∷◌, filter, find, refl}
use Rattle.std.specs.List.{flat_map}
use Rattle.mps_base.specs.Address.{Address, bytes_of_grain, words_of_grain, grain_of, word_of}
use Rattle.mps_base.specs.Put.{put}
use Rattle.mps_base.specs.Run.{Run, gaps, runs_within}
use Rattle.mps_base.specs.declared.names.Rank.{Rank}
use Rattle.mps_base.specs.declared.names.Rank.TheVariants as rank

-- a run of whole grains that the arena holds for a pool
pub record Segment : Type 0 where
  -- the address at which it begins
  pub base : Address
  pub grains : ℕ
  pub pool : ℕ
  pub generation : ℕ
  -- the rank of the point whose reserve took it; exact if no reserve took it
  pub rank : Rank

-- the address after a segment
abbrev pub end_of_segment : Segment → Address
end_of_segment s = s.base + bytes_of_grain * s.grains

-- whether an address lies in a segment
abbrev pub is_in_segment : Segment → Address → Bool
is_in_segment s at = nat_le s.base at && nat_lt at (end_of_segment s)

-- the words of a segment
abbrev pub words_of_segment : Segment → Run
words_of_segment s = record { from = word_of s.base; count = words_of_grain * s.grains }

-- the grains of a segment
abbrev pub grains_of_segment : Segment → Run
grains_of_segment s = record { from = grain_of s.base; count = s.grains }

-- one more segment, in ascending order
abbrev pub with_segment : Segment → List Segment → List Segment
with_segment new ss = put (λ (s : Segment). s.base) new ss

-- the segments but the one that begins at an address
abbrev pub without_segment : List Segment → Address → List Segment
without_segment ss base = filter (λ s. not (s.base == base)) ss

-- the segment in which an address lies
abbrev pub segment_over : List Segment → Address → Option Segment
segment_over ss at = find (λ s. is_in_segment s at) ss

abbrev pub same_rank : Rank → Rank → Bool
same_rank rank.Exact rank.Exact = true
same_rank rank.Weak rank.Weak = true
same_rank _ _ = false

-- whether a segment is of a pool and a rank, so that a block of these may lie in its gaps
abbrev pub is_open_to : (pool : ℕ) → Rank → Segment → Bool
is_open_to pool at_rank s = s.pool == pool && same_rank s.rank at_rank

-- the gaps of a segment, where these runs of words are covered
abbrev pub gaps_in : (covered : List Run) → Segment → List Run
gaps_in covered s = gaps (word_of s.base) (word_of (end_of_segment s)) (runs_within (word_of s.base) (word_of (end_of_segment s)) covered)

-- the gaps of the segments of a pool and a rank, in ascending order
abbrev pub gaps_of : (covered : List Run) → List Segment → (pool : ℕ) → Rank → List Run
gaps_of covered ss pool at_rank = flat_map (gaps_in covered) (filter (is_open_to pool at_rank) ss)

-- two segments, of two grains and of one
abbrev example : List Segment
example =
    record { base = 0x1000; grains = 2; pool = 1; generation = 0; rank = rank.Exact }
    ∷ record { base = 0x4000; grains = 1; pool = 1; generation = 0; rank = rank.Weak } ∷ []

pub the_last_byte_lies_in_the_segment : segment_over example 0x2fff
    ≡ Some (record { base = 0x1000; grains = 2; pool = 1; generation = 0; rank = rank.Exact })
the_last_byte_lies_in_the_segment = refl

pub no_segment_between : segment_over example 0x3000 ≡ None
no_segment_between = refl

pub a_segment_between :
    with_segment (record { base = 0x3000; grains = 1; pool = 2; generation = 0; rank = rank.Exact }) example
    ≡ record { base = 0x1000; grains = 2; pool = 1; generation = 0; rank = rank.Exact }
    ∷ record { base = 0x3000; grains = 1; pool = 2; generation = 0; rank = rank.Exact }
    ∷ record { base = 0x4000; grains = 1; pool = 1; generation = 0; rank = rank.Weak } ∷ []
a_segment_between = refl

pub the_second_is_given_back : without_segment example 0x4000
    ≡ record { base = 0x1000; grains = 2; pool = 1; generation = 0; rank = rank.Exact } ∷ []
the_second_is_given_back = refl

-- 24 words are covered, the first of which is word 600
pub gaps_of_a_pool_and_a_rank :
    gaps_of (record { from = 600; count = 24 } ∷ []) example 1 rank.Exact
    ≡ record { from = 512; count = 88 } ∷ record { from = 624; count = 912 } ∷ []
gaps_of_a_pool_and_a_rank = refl

pub no_gaps_of_another_pool : gaps_of [] example 2 rank.Exact ≡ []
no_gaps_of_another_pool = refl
