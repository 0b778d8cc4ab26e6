-- What the segments of an arena give of words: those that nothing covers are free, and those of a segment are home to its pool.
use Rattle.std.specs.Prelude.{◌≡◌, ◌+◌, ◌≤◌, List, [], ◌∷◌, map, refl}
use Rattle.std.specs.List.{AllByRecursion}
use Rattle.std.proofs.Common.{arith, lit≤, lit<}
use Rattle.mps_base.specs.Address.{address_of_grain, grain_of, max_grains}
use Rattle.mps_base.specs.Run.{IsAscending}
use Rattle.mps_base.specs.Segment.{Segment, grains_of_segment}
use Rattle.mps_base.specs.declared.names.Rank.TheVariants as rank

-- segments begin at grains from 1 on, and ascend without overlap below a limit
pub record AreSegmentsInOrder (ss : List Segment) : Type 0 where
  pub aligned : AllByRecursion (λ (t : Segment). t.base ≡ address_of_grain (grain_of t.base)) ss
  pub ascending : IsAscending 1 (max_grains + 1) (map grains_of_segment ss)

-- ---- vectors

abbrev first : Segment
first = record { base = 0x1000; grains = 2; pool = 1; generation = 0; rank = rank.Exact }

pub two_in_order : AreSegmentsInOrder (first ∷ record first { base = 0x3000 } ∷ [])
two_in_order = record { aligned = (refl, (refl, tt)); ascending = (lit≤ tt, lit< tt, (lit≤ tt, lit< tt, lit≤ tt)) }

pub two_that_overlap : AreSegmentsInOrder (first ∷ record first { base = 0x2000 } ∷ []) → ⊥
two_that_overlap o = let h : 3 ≤ 2 = o.ascending.2.0 in omega (arith, h)

pub one_within_a_grain : AreSegmentsInOrder (record first { base = 0x1008 } ∷ []) → ⊥
one_within_a_grain o = let h : 0x1008 ≡ 0x1000 = o.aligned.0 in omega (arith, h)
