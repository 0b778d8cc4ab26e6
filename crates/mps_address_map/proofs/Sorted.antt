-- Entries in order.
use Rattle.std.proofs.Common.{◌≡◌, ℕ, ◌<◌, Bool, true, false, cond, eqb, List, [], ◌∷◌, ◌++◌, Option, Some, None, length, Contains, refl, ap, ◌∙◌, arith}
use Rattle.std.specs.Prelude.{is_some}
use Rattle.std.specs.Cmp.{nat_eq_equiv}
use Rattle.std.specs.List.{AllByRecursion, IsDistinct}
use Rattle.std.specs.List.Sorted.{IsPermutation, IsNonDecreasing, IsNonDecreasingBy}
use Rattle.std.specs.Map.{keys_of}
use Rattle.std.proofs.lemmas.Bool.{eq-eqb, eqb-true}
use Rattle.std.proofs.lemmas.List.{get_or-map, length-map}
use Rattle.std.proofs.lemmas.List.Sorted.{IsPermutation-map}
use Rattle.std.proofs.lemmas.Map.Keys.{IsDistinct-IsPermutation, IsDistinct-cons, IsDistinct-head, IsDistinct-tail, IsStrictlyIncreasing-from_distinct}
use Rattle.std.proofs.lemmas.List.Elements.{All-from_recursion, recursion_from_All}
use Rattle.std.proofs.lemmas.List.Sorted.{All-permutation, Contains-permutation}
use Rattle.std.proofs.lemmas.Map.{lookup-none, none_passes_from_lookup}
use Rattle.std.proofs.lemmas.Map.Entries.{place_from_lookup, lookup_from_place}
use Rattle.std.proofs.lemmas.Option.{slice_get-get_or, slice_get_within, get_or_from_slice_get}
use Rattle.mps_address_map.specs.AddressMap.{found_at, Lists}
use Rattle.mps_address_map.proofs.Entries.{ApartEntries, found_second, none_from_each}

eqb-sym : (a b : ℕ) → eqb a b ≡ eqb b a
eqb-sym a b = grind arith

module _ {X : Type 0} where
  -- ---- each address once

  none_of_each : (es : List (ℕ × X)) (q : ℕ) → AllByRecursion (λ (y : ℕ). eqb q y ≡ false) (keys_of es) → found_at es q ≡ None
  none_of_each [] q h = refl
  none_of_each (e ∷ es) q h = ap (λ (c : Bool). cond c (Some e.1) (found_at es q)) h.0 ∙ none_of_each es q h.1

  first_is_there : (e : ℕ × X) (es : List (ℕ × X)) → is_some (found_at (e ∷ es) e.0) ≡ true
  first_is_there e es = ap (λ (c : Bool). is_some (cond c (Some e.1) (found_at es e.0))) (eq-eqb e.0 e.0 refl)

  there_case : (c : Bool) (x : X) (o : Option X) → is_some o ≡ true → is_some (cond c (Some x) o) ≡ true
  there_case true x o h = refl
  there_case false x o h = h

  pub distinct_of_both : (xs ys : List (ℕ × X)) → IsDistinct eqb (keys_of xs) → IsDistinct eqb (keys_of ys) → ApartEntries xs ys
      → IsDistinct eqb (keys_of (xs ++ ys))
  distinct_of_both [] ys h k apart = k
  distinct_of_both (e ∷ xs) ys h k apart =
      let none : found_at (xs ++ ys) e.0 ≡ None =
      found_second xs ys e.0 (none_of_each xs e.0 (IsDistinct-head eqb e.0 (keys_of xs) h)) ∙ apart e.0 (first_is_there e xs) in
      IsDistinct-cons eqb e.0 (keys_of (xs ++ ys)) (none_from_each (xs ++ ys) e.0 none)
      (distinct_of_both xs ys (IsDistinct-tail eqb e.0 (keys_of xs) h) k
      (λ q there. apart q (there_case (eqb q e.0) e.1 (found_at xs q) there)))

  -- ---- in order

  keys_ascend : (es : List (ℕ × X)) → IsNonDecreasingBy (λ (e : ℕ × X). e.0) es → IsNonDecreasing (keys_of es)
  keys_ascend [] ascending i j d le within = absurd (omega arith)
  keys_ascend (e ∷ es) ascending i j d le within =
      let key : ℕ × X → ℕ = λ e. e.0 in
      let inside : j < length (e ∷ es) = omega (arith, within, length-map (e ∷ es) key) in
      omega (arith, get_or-map key (e ∷ es) i e d (omega arith), get_or-map key (e ∷ es) j e d inside, ascending i j e le inside)

  -- what entries give at an address is what they give in another order
  found_in_order : (es fs : List (ℕ × X)) → IsPermutation es fs → IsDistinct eqb (keys_of fs) → (at : ℕ) → found_at fs at ≡ found_at es at
  found_in_order es fs moves distinct at = by (found_at es at) refl
    where
      by : (r : Option X) → found_at es at ≡ r → found_at fs at ≡ r
      by None e =
          lookup-none (eqb at) fs
          (recursion_from_All (λ p. eqb at p.0 ≡ false) fs
          (All-permutation (λ p. eqb at p.0 ≡ false) es fs moves
          (All-from_recursion (λ p. eqb at p.0 ≡ false) es (none_passes_from_lookup (eqb at) es e))))
      by (Some v) e =
          let p = place_from_lookup (eqb at) es v e in
          let there : Contains es (p.1, v) =
          (p.0, slice_get_within es p.0 (p.1, v) p.2, get_or_from_slice_get es p.0 (p.1, v) (p.1, v) p.2) in
          let here = Contains-permutation es fs (p.1, v) moves there in
          ap (found_at fs) (eqb-true at p.1 p.3)
          ∙ lookup_from_place nat_eq_equiv fs here.0 p.1 v distinct
          (slice_get-get_or fs here.0 (p.1, v) here.1 ∙ ap Some here.2)

  -- the entries sorted by their addresses
  pub lists_sorted : (es sorted : List (ℕ × X)) → IsDistinct eqb (keys_of es) → IsPermutation es sorted
      → IsNonDecreasingBy (λ (e : ℕ × X). e.0) sorted → Lists es sorted
  lists_sorted es sorted distinct permutation ascending =
      let apart : IsDistinct eqb (keys_of sorted) =
      IsDistinct-IsPermutation eqb eqb-sym (keys_of es) (keys_of sorted)
      (IsPermutation-map (λ (e : ℕ × X). e.0) es sorted permutation) distinct in
      record {
        ascending = IsStrictlyIncreasing-from_distinct (keys_of sorted) (keys_ascend sorted ascending) apart;
        same = λ at. found_in_order es sorted permutation apart at;
      }
