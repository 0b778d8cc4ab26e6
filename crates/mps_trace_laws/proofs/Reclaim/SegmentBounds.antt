-- The segment over an address, and where held segments begin.
use Rattle.std.proofs.Common.{◌≡◌, ◌∙◌, ◌⊎◌, ℕ, zero, suc, ◌<◌, ◌≤◌, true, sym, subst, List, [], ◌∷◌, map, Some, Contains, inl, inr, arith}
use Rattle.std.proofs.lemmas.Bool.{cases_Bool, cond-true, cond-false, and_parts, leb-true, ltb-true}
use Rattle.std.proofs.lemmas.Option.{none-some, same_Some}
use Rattle.std.specs.Prelude.{nat_le, nat_lt}
use Rattle.std.specs.List.{AllByRecursion}
use Rattle.mps_base.specs.Address.{Address, address_of_grain, grain_of}
use Rattle.mps_base.specs.Run.{IsAscending, end_of}
use Rattle.mps_base.specs.Segment.{Segment, segment_over, is_in_segment, end_of_segment, grains_of_segment}

pub over_inside : (ss : List Segment) (at : Address) (t : Segment) → segment_over ss at ≡ Some t → is_in_segment t at ≡ true
over_inside [] at t e = absurd (none-some t e)
over_inside (s ∷ ss) at t e =
    elim (cases_Bool (is_in_segment s at)) [
      | inl here ↦
          let same = same_Some s t (sym (cond-true (is_in_segment s at) (Some s) (segment_over ss at) here) ∙ e) in
          subst (λ (x : Segment). is_in_segment x at ≡ true) same here
      | inr out ↦ over_inside ss at t (sym (cond-false (is_in_segment s at) (Some s) (segment_over ss at) out) ∙ e)
    ]

pub segment_bounds : (t : Segment) (at : Address) → is_in_segment t at ≡ true → (t.base ≤ at) × (at < end_of_segment t)
segment_bounds t at h =
    let parts = and_parts (nat_le t.base at) (nat_lt at (end_of_segment t)) h in
    (leb-true t.base at parts.0, ltb-true at (end_of_segment t) parts.1)

pub contains_no_segment : (t : Segment) → Contains [] t → ⊥
contains_no_segment t (k, within, is) = omega arith

pub segment_cases : (ss : List Segment) (t s : Segment) → Contains (s ∷ ss) t → (s ≡ t) ⊎ Contains ss t
segment_cases ss t s (zero, within, is) = inl is
segment_cases ss t s (suc k, within, is) = inr (k, omega arith, is)

-- a held segment begins at a grain
pub aligned_in : (ss : List Segment) (t : Segment) → AllByRecursion (λ (x : Segment). x.base ≡ address_of_grain (grain_of x.base)) ss
    → Contains ss t → t.base ≡ address_of_grain (grain_of t.base)
aligned_in [] t aligned there = absurd (contains_no_segment t there)
aligned_in (s ∷ ss) t aligned there =
    elim (segment_cases ss t s there) [
      | inl same ↦ subst (λ (x : Segment). x.base ≡ address_of_grain (grain_of x.base)) same aligned.0
      | inr later ↦ aligned_in ss t aligned.1 later
    ]

-- and not in grain 0
pub positive_in : (low high : ℕ) (ss : List Segment) (t : Segment) → IsAscending low high (map grains_of_segment ss) → Contains ss t
    → low ≤ grain_of t.base
positive_in low high [] t asc there = absurd (contains_no_segment t there)
positive_in low high (s ∷ ss) t asc there =
    elim (segment_cases ss t s there) [
      | inl same ↦ subst (λ (x : Segment). low ≤ grain_of x.base) same asc.0
      | inr later ↦ let rest = positive_in (end_of (grains_of_segment s)) high ss t asc.2 later in omega (arith, rest, asc.0)
    ]
