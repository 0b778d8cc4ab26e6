-- The first position of an address, sought entry by entry.
use Rattle.std.proofs.Common.{ℕ, zero, suc, ◌+◌, ◌<◌, ◌≡◌, ◌≢◌, ◌==◌, Bool, true, false, List, [], ◌∷◌, length, take, count_by, get_or, refl, sym, ap, ◌∙◌, subst, arith}
use Rattle.std.specs.Prelude.{Option, Some, None, if◌then◌else◌}
use Rattle.std.specs.Option.{option_map, option_map_or}
use Rattle.std.proofs.lemmas.Grind.{common_steps}
use Rattle.mps_final.proofs.LiveEntries.{count_live}
use Rattle.mps_final.specs.State.{position_of}
use Rattle.mps_final.specs.Inside.{is_live, live}

IsThere : Option ℕ → Type 0
IsThere None = ⊥
IsThere (Some n) = Unit {0}

some_is_not_none : (n : ℕ) → Some n ≡ None → ⊥
unfolding IsThere
some_is_not_none n is = subst IsThere is tt

one_found : (b : Bool) (r s : Option ℕ) (k : ℕ) → (if b then Some 0 else option_map (λ p. p + 1) r) ≡ None → (r ≡ None → s ≡ Some k)
    → (if b then Some 0 else option_map (λ p. p + 1) s) ≡ Some (k + 1)
one_found true r s k none next = absurd (some_is_not_none 0 none)
one_found false (Some p) s k none next = absurd (some_is_not_none (p + 1) none)
one_found false None s k none next = ap (λ (o : Option ℕ). option_map (λ p. p + 1) o) (next refl)

none_found : (b : Bool) (r s : Option ℕ) → (if b then Some 0 else option_map (λ p. p + 1) r) ≡ None → (r ≡ None → s ≡ None)
    → (if b then Some 0 else option_map (λ p. p + 1) s) ≡ None
none_found true r s none next = absurd (some_is_not_none 0 none)
none_found false (Some p) s none next = absurd (some_is_not_none (p + 1) none)
none_found false None s none next = ap (λ (o : Option ℕ). option_map (λ p. p + 1) o) (next refl)

here_is : (n at : ℕ) (r : Option ℕ) → n ≡ at → (if n == at then Some 0 else r) ≡ Some 0
here_is n at r is = grind (arith, common_steps, is)

here_is_not : (n at : ℕ) → n ≢ at → (if n == at then Some 0 else option_map (λ p. p + 1) None) ≡ None
here_is_not n at is = grind (arith, common_steps, is)

-- the entry at an index is the first with the address
pub position_found : (xs : List ℕ) (i at : ℕ) → i < length xs → get_or xs i 0 ≡ at → 0 < at → position_of (live (take i xs)) at ≡ None
    → position_of (live xs) at ≡ Some (count_by is_live (take i xs))
position_found [] i at within is some none = absurd (omega (arith, within))
position_found (zero ∷ xs) zero at within is some none = absurd (omega (arith, is, some))
position_found (suc n ∷ xs) zero at within is some none = here_is (suc n) at (option_map (λ p. p + 1) (position_of (live xs) at)) is
position_found (zero ∷ xs) (suc i) at within is some none =
    let same : count_by is_live (take i xs) ≡ count_by is_live (take (suc i) (zero ∷ xs)) = omega arith in
    position_found xs i at (omega (arith, within)) is some none ∙ ap (λ (k : ℕ). Some k) same
position_found (suc n ∷ xs) (suc i) at within is some none =
    let next : count_by is_live (take i xs) + 1 ≡ count_by is_live (take (suc i) (suc n ∷ xs)) = sym (count_live n (take i xs)) in
    one_found (suc n == at) (position_of (live (take i xs)) at) (position_of (live xs) at) (count_by is_live (take i xs)) none
    (λ before. position_found xs i at (omega (arith, within)) is some before)
    ∙ ap (λ (k : ℕ). Some k) next

-- none of the entries up to an index has it
pub position_passed : (xs : List ℕ) (i j at : ℕ) → j ≡ i + 1 → i < length xs → get_or xs i 0 ≢ at → position_of (live (take i xs)) at ≡ None
    → position_of (live (take j xs)) at ≡ None
position_passed [] i j at after within is none = absurd (omega (arith, within))
position_passed xs i zero at after within is none = absurd (omega (arith, after))
position_passed (zero ∷ xs) zero (suc j) at after within is none =
    let last : 0 ≡ j = omega (arith, after) in
    ap (λ (k : ℕ). position_of (live (take k xs)) at) (sym last)
position_passed (suc n ∷ xs) zero (suc j) at after within is none =
    let last : 0 ≡ j = omega (arith, after) in
    ap (λ (k : ℕ). position_of (live (take (suc k) (suc n ∷ xs))) at) (sym last) ∙ here_is_not (suc n) at is
position_passed (zero ∷ xs) (suc i) (suc j) at after within is none =
    position_passed xs i j at (omega (arith, after)) (omega (arith, within)) is none
position_passed (suc n ∷ xs) (suc i) (suc j) at after within is none =
    none_found (suc n == at) (position_of (live (take i xs)) at) (position_of (live (take j xs)) at) none
    (λ before. position_passed xs i j at (omega (arith, after)) (omega (arith, within)) is before)

one_within : (b : Bool) (r : Option ℕ) (n p : ℕ) → (if b then Some 0 else option_map (λ q. q + 1) r) ≡ Some p
    → ((q : ℕ) → r ≡ Some q → q < n)
    → p < suc n
one_within true r n p is next = omega (arith, ap (λ (o : Option ℕ). option_map_or (λ q. q) o 0) is)
one_within false None n p is next = absurd (some_is_not_none p (sym is))
one_within false (Some q) n p is next = omega (arith, next q refl, ap (λ (o : Option ℕ). option_map_or (λ k. k) o 0) is)

-- a position that is found is one of the list
pub position_is_within : (xs : List ℕ) (at p : ℕ) → position_of xs at ≡ Some p → p < length xs
position_is_within [] at p is = absurd (some_is_not_none p (sym is))
position_is_within (x ∷ xs) at p is =
    one_within (x == at) (position_of xs at) (length xs) p is (λ q there. position_is_within xs at q there)
