-- The key of each table that is kept stands in the order of the tables.
use Rattle.std.proofs.Common.{◌≡◌, ◌∙◌, ℕ, zero, suc, ◌+◌, ◌<◌, true, ap, subst, List, [], ◌∷◌, length, map, Option, Some, None, IsSome, inl, inr, arith}
use Rattle.std.proofs.lemmas.Bool.{false≢true}
use Rattle.std.proofs.lemmas.Option.{none-some}
use Rattle.std.specs.Prelude.{slice_index_or}
use Rattle.mps_model.specs.Graph.{contains, entry_at}
use Rattle.mps_root.specs.State.{RootsState}
use Rattle.mps_abstract.proofs.Lists.{contains_cases, contains_here, contains_later}
use Rattle.mps_refinement.specs.Numbering.{AreNumbered, AreOrdered, numbers_from}
use Rattle.mps_refinement.proofs.Lookups.Found.{some_there}
use Rattle.mps_refinement.proofs.Parts.Ordering.{all_in_order}
use Rattle.mps_refinement.proofs.Collect.ActedRoots.{IsInOrder}

-- the number of an entry that is there is among those of all that are
number_listed : {B : Type 0} (first : ℕ) (entries : List (Option B)) (m : ℕ) (b : B) → entry_at entries m ≡ Some b
    → contains (numbers_from first entries) (first + m) ≡ true
number_listed first [] m b e = absurd (none-some b e)
number_listed first (None ∷ entries) zero b e = absurd (none-some b e)
number_listed first (None ∷ entries) (suc m) b e =
    subst (λ (n : ℕ). contains (numbers_from (first + 1) entries) n ≡ true) (let same : first + 1 + m ≡ first + suc m = omega arith in same)
    (number_listed (first + 1) entries m b e)
number_listed first (Some a ∷ entries) zero b e =
    subst (λ (n : ℕ). contains (first ∷ numbers_from (first + 1) entries) n ≡ true) (let same : first ≡ first + 0 = omega arith in same)
    (contains_here first (numbers_from (first + 1) entries))
number_listed first (Some a ∷ entries) (suc m) b e =
    contains_later first (numbers_from (first + 1) entries) (first + suc m)
    (subst (λ (n : ℕ). contains (numbers_from (first + 1) entries) n ≡ true)
    (let same : first + 1 + m ≡ first + suc m = omega arith in same) (number_listed (first + 1) entries m b e))

-- a number among those of keys is that of one of them
pub record HasNumber (number : ℕ → ℕ) (keys : List ℕ) (n : ℕ) : Type 0 where
  pub place : ℕ
  pub within : place < length keys
  pub is : number (slice_index_or keys place 0) ≡ n

has_number : (number : ℕ → ℕ) (keys : List ℕ) (n : ℕ) → contains (map number keys) n ≡ true → HasNumber number keys n
has_number number [] n there = absurd (false≢true there)
has_number number (key ∷ keys) n there =
    elim (contains_cases (number key) (map number keys) n there) [
      | inl here ↦ record { place = 0; within = omega arith; is = here }
      | inr later ↦
          let rest = has_number number keys n later in
          record { place = suc rest.place; within = (let within = rest.within in omega (arith, within)); is = rest.is }
    ]

pub keys_in_order : {A B : Type 0} (Fits : ℕ → List A → List B → Type 0) (number : ℕ → ℕ) (roots : RootsState)
    (rows : ℕ → Option (List A)) (entries : List (Option (List B))) → AreNumbered Fits number rows entries
    → AreOrdered number roots.order rows entries → (key : ℕ) → IsSome (rows key) → IsInOrder roots key
keys_in_order Fits number roots rows entries are ordered key there =
    let a = some_there (rows key) there in
    let b = are.there key a.0 a.1 in
    let listed : contains (numbers_from 0 entries) (number key) ≡ true =
    subst (λ (n : ℕ). contains (numbers_from 0 entries) n ≡ true) (let same : 0 + number key ≡ number key = omega arith in same)
    (number_listed 0 entries (number key) b.0 b.1) in
    let found = has_number number roots.order (number key)
    (ap (λ (ns : List ℕ). contains ns (number key)) ordered.numbers ∙ listed) in
    let other = slice_index_or roots.order found.place 0 in
    let kept_too = some_there (rows other)
    (all_in_order (λ k. IsSome (rows k)) roots.order found.place found.within ordered.kept_there) in
    record {
      place = found.place;
      within = found.within;
      is = are.apart other key kept_too.0 a.0 kept_too.1 a.1 found.is;
    }
