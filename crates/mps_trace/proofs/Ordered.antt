-- The first of ascending segments that begins at an address or above is the lowest.
use Rattle.std.proofs.Common.{zero, suc, ◌+◌, ◌<◌, ◌≤◌, ◌≡◌, ◌⊎◌, Option, Some, None, List, [], ◌∷◌, Contains, cond, leb, refl, sym, ap, ◌∙◌, inl, inr, arith}
use Rattle.std.specs.Prelude.{option_map}
use Rattle.std.proofs.lemmas.Bool.{cases_lt, cond-true, cond-false, le-leb, lt-leb}
use Rattle.mps_base.specs.Address.{Address}
use Rattle.mps_base.specs.Segment.{Segment}
use Rattle.mps_base.specs.declared.address.Addr.{Addr}
use Rattle.mps_seg.specs.Segs.{segment_from, base_address}
use Rattle.mps_trace.specs.Condemned.{AreAscending}

contains_cases : (ts : List Segment) (t s : Segment) → Contains (s ∷ ts) t → (s ≡ t) ⊎ Contains ts t
contains_cases ts t s (zero, within, is) = inl is
contains_cases ts t s (suc k, within, is) = inr (k, omega (arith, within), is)

above_low : (low : Address) (ts : List Segment) (t : Segment) → AreAscending low ts → Contains ts t → low ≤ t.base
above_low low [] t ascending (k, within, is) = absurd (omega (arith, within))
above_low low (s ∷ ts) t ascending there =
    elim (contains_cases ts t s there) [
      | inl same ↦ omega (arith, ascending.0, ap (λ (x : Segment). x.base) same)
      | inr later ↦ omega (arith, ascending.0, above_low (s.base + 1) ts t ascending.1 later)
    ]

module _ (from : Address) (s : Segment) (ts : List Segment) where
  from_here : from ≤ s.base → segment_from (s ∷ ts) from ≡ Some s
  from_here above = cond-true (leb from s.base) (Some s) (segment_from ts from) (le-leb from s.base above)

  from_later : s.base < from → segment_from (s ∷ ts) from ≡ segment_from ts from
  from_later below = cond-false (leb from s.base) (Some s) (segment_from ts from) (lt-leb from s.base below)

-- the segments of ascending ones that begin at an address or above
abbrev pub rest_from : Address → List Segment → List Segment
rest_from from [] = []
rest_from from (t ∷ ts) = cond (leb from t.base) (t ∷ ts) (rest_from from ts)

pub rest_low : (low from : Address) (ts : List Segment) → AreAscending low ts → from ≤ low → rest_from from ts ≡ ts
rest_low low from [] ascending below = refl
rest_low low from (t ∷ ts) ascending below =
    cond-true (leb from t.base) (t ∷ ts) (rest_from from ts) (le-leb from t.base (omega (arith, ascending.0, below)))

module _ (from : Address) (s : Segment) (ts : List Segment) where
  rest_later : s.base < from → rest_from from (s ∷ ts) ≡ rest_from from ts
  rest_later below = cond-false (leb from s.base) (s ∷ ts) (rest_from from ts) (lt-leb from s.base below)

  rest_here : from ≤ s.base → rest_from from (s ∷ ts) ≡ s ∷ ts
  rest_here above = cond-true (leb from s.base) (s ∷ ts) (rest_from from ts) (le-leb from s.base above)

-- the lowest segment that begins at an address or above
pub record Lowest (ts : List Segment) (from : Address) (base : Addr) : Type 0 where
  pub segment : Segment
  pub listed : Contains ts segment
  pub begins : segment.base ≡ base.0
  pub above : from ≤ base.0
  pub first : (t : Segment) → Contains ts t → from ≤ t.base → base.0 ≤ t.base
  pub rest : rest_from from ts ≡ segment ∷ rest_from (base.0 + 1) ts

pub lowest_found : (low : Address) (ts : List Segment) (from : Address) (base : Addr) → AreAscending low ts
    → Some base ≡ option_map base_address (segment_from ts from) → Lowest ts from base
lowest_found low [] from base ascending is = let never : Some base ≡ None = is in cc
lowest_found low (s ∷ ts) from base ascending is =
    elim (cases_lt s.base from) [
      | inl below ↦
          let rest =
          lowest_found (s.base + 1) ts from base ascending.1
          (is ∙ ap (λ (o : Option Segment). option_map base_address o) (from_later from s ts below))
          in
          record {
            segment = rest.segment;
            listed = (suc rest.listed.0, omega (arith, rest.listed.1), rest.listed.2);
            begins = rest.begins;
            above = rest.above;
            first = λ t there above.
                elim (contains_cases ts t s there) [
                  | inl same ↦ absurd (omega (arith, above, below, ap (λ (x : Segment). x.base) same))
                  | inr later ↦ rest.first t later above
                ];
            rest = rest_later from s ts below ∙ rest.rest
                ∙ ap (λ (ss : List Segment). rest.segment ∷ ss) (sym (rest_later (base.0 + 1) s ts (omega (arith, below, rest.above))));
          }
      | inr above ↦
          let both : Some base ≡ Some (base_address s) =
          is ∙ ap (λ (o : Option Segment). option_map base_address o) (from_here from s ts above)
          in
          let same : base ≡ base_address s = cc in
          let number : base.0 ≡ s.base = ap (λ (a : Addr). a.0) same in
          record {
            segment = s;
            listed = (0, omega arith, refl);
            begins = sym number;
            above = omega (arith, above, number);
            first = λ t there over.
                elim (contains_cases ts t s there) [
                  | inl equal ↦ omega (arith, number, ap (λ (x : Segment). x.base) equal)
                  | inr later ↦ omega (arith, number, above_low (s.base + 1) ts t ascending.1 later)
                ];
            rest = rest_here from s ts above
                ∙ ap (λ (ss : List Segment). s ∷ ss)
                (sym (rest_later (base.0 + 1) s ts (omega (arith, number))
                ∙ rest_low (s.base + 1) (base.0 + 1) ts ascending.1 (omega (arith, number))));
          }
    ]

pub rest_none : (ts : List Segment) (from : Address) → None ≡ option_map base_address (segment_from ts from) → rest_from from ts ≡ []
rest_none [] from is = refl
rest_none (s ∷ ts) from is =
    elim (cases_lt s.base from) [
      | inl below ↦
          rest_later from s ts below
          ∙ rest_none ts from (is ∙ ap (λ (o : Option Segment). option_map base_address o) (from_later from s ts below))
      | inr over ↦
          let never : None ≡ Some (base_address s) =
          is ∙ ap (λ (o : Option Segment). option_map base_address o) (from_here from s ts over)
          in
          let no : Some (base_address s) ≡ None = sym never in cc
    ]
