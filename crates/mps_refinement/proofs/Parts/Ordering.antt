-- The order in which tables were made, after one is written, made or dropped: the keys in order have the numbers of the entries that
-- are there.
use Rattle.std.proofs.Common.{◌≡◌, ◌≢◌, ◌∙◌, ℕ, zero, suc, ◌+◌, refl, sym, ap, subst, List, [], ◌∷◌, ◌++◌, length, map, Option, Some, None, IsSome, is_some, inl, inr, arith}
use Rattle.std.proofs.lemmas.Bool.{cases_eq, eq-eqb, ne_eqb}
use Rattle.std.proofs.lemmas.Option.{none-some}
use Rattle.std.specs.Prelude.{◌<◌, if◌then◌else◌, slice_index_or, slice_set}
use Rattle.std.specs.List.{AllByRecursion}
use Rattle.mps_laws.proofs.Lookups.{entry_at-set_none}
use Rattle.mps_model.specs.Graph.{entry_at, with_last}
use Rattle.mps_root.specs.State.{without_key}
use Rattle.mps_refinement.specs.Numbering.{AreOrdered, numbers_from, renumbered}
use Rattle.mps_refinement.proofs.Parts.Named.{nothing_there}
use Rattle.mps_refinement.proofs.Parts.Numbering.{renumbered_here, renumbered_other}

-- ---- lists of keys

-- a key that goes
out_here : (k key : ℕ) (keys : List ℕ) → k ≡ key → without_key (k ∷ keys) key ≡ keys
out_here k key keys e = ap (λ t. if t then keys else k ∷ without_key keys key) (eq-eqb k key e)

out_later : (k key : ℕ) (keys : List ℕ) → k ≢ key → without_key (k ∷ keys) key ≡ k ∷ without_key keys key
out_later k key keys n = ap (λ t. if t then keys else k ∷ without_key keys key) (ne_eqb k key n)

-- what is known of all is known of one more
all_more : (P : ℕ → Type 0) (keys : List ℕ) (key : ℕ) → AllByRecursion P keys → P key → AllByRecursion P (keys ++ key ∷ [])
all_more P [] key all is = (is, tt)
all_more P (k ∷ keys) key all is = (all.0, all_more P keys key all.1 is)

-- and of all but one
all_without : (P : ℕ → Type 0) (keys : List ℕ) (key : ℕ) → AllByRecursion P keys → AllByRecursion P (without_key keys key)
all_without P [] key all = tt
all_without P (k ∷ keys) key all =
    elim (cases_eq k key) [
      | inl same ↦ subst (AllByRecursion P) (sym (out_here k key keys same)) all.1
      | inr other ↦ subst (AllByRecursion P) (sym (out_later k key keys other)) (all.0, all_without P keys key all.1)
    ]

all_weaker : (P Q : ℕ → Type 0) → ((key : ℕ) → P key → Q key) → (keys : List ℕ) → AllByRecursion P keys → AllByRecursion Q keys
all_weaker P Q weaker [] all = tt
all_weaker P Q weaker (k ∷ keys) all = (weaker k all.0, all_weaker P Q weaker keys all.1)

all_both : (P Q R : ℕ → Type 0) → ((key : ℕ) → P key → Q key → R key) → (keys : List ℕ) → AllByRecursion P keys
    → AllByRecursion Q keys → AllByRecursion R keys
all_both P Q R both [] ps qs = tt
all_both P Q R both (k ∷ keys) ps qs = (both k ps.0 qs.0, all_both P Q R both keys ps.1 qs.1)

-- what is known of all numbers of keys
all_numbers : (P : ℕ → Type 0) (number : ℕ → ℕ) (keys : List ℕ) → AllByRecursion P (map number keys)
    → AllByRecursion (λ key. P (number key)) keys
all_numbers P number [] all = tt
all_numbers P number (k ∷ keys) all = (all.0, all_numbers P number keys all.1)

-- ---- the numbers of the entries that are there

module _ {B : Type 0} where
  -- a write leaves them
  numbers_written : (first : ℕ) (entries : List (Option B)) (n : ℕ) (b c : B) → entry_at entries n ≡ Some b
      → numbers_from first (slice_set entries n (Some c)) ≡ numbers_from first entries
  numbers_written first [] n b c e = refl
  numbers_written first (None ∷ entries) zero b c e = absurd (none-some b e)
  numbers_written first (Some a ∷ entries) zero b c e = refl
  numbers_written first (None ∷ entries) (suc n) b c e = numbers_written (first + 1) entries n b c e
  numbers_written first (Some a ∷ entries) (suc n) b c e = ap (λ ns. first ∷ ns) (numbers_written (first + 1) entries n b c e)

  -- one more entry has the number of them all
  numbers_last : (first : ℕ) (entries : List (Option B)) (b : B)
      → numbers_from first (with_last entries (Some b)) ≡ numbers_from first entries ++ (first + length entries) ∷ []
  numbers_last first [] b = ap (λ (n : ℕ). n ∷ []) (let e : first ≡ first + 0 = omega arith in e)
  numbers_last first (None ∷ entries) b =
      numbers_last (first + 1) entries b
      ∙ ap (λ (n : ℕ). numbers_from (first + 1) entries ++ n ∷ [])
      (let e : (first + 1) + length entries ≡ first + suc (length entries) = omega arith in e)
  numbers_last first (Some a ∷ entries) b =
      ap (λ ns. first ∷ ns) (numbers_last (first + 1) entries b
      ∙ ap (λ (n : ℕ). numbers_from (first + 1) entries ++ n ∷ [])
      (let e : (first + 1) + length entries ≡ first + suc (length entries) = omega arith in e))

  -- where an entry goes its number goes
  numbers_dropped : (first : ℕ) (entries : List (Option B)) (n : ℕ) (b : B) → entry_at entries n ≡ Some b
      → numbers_from first (slice_set entries n None) ≡ without_key (numbers_from first entries) (first + n)
  numbers_dropped first [] n b e = absurd (none-some b e)
  numbers_dropped first (None ∷ entries) zero b e = absurd (none-some b e)
  numbers_dropped first (Some a ∷ entries) zero b e =
      sym (out_here first (first + 0) (numbers_from (first + 1) entries) (let z : first ≡ first + 0 = omega arith in z))
  numbers_dropped first (None ∷ entries) (suc n) b e =
      numbers_dropped (first + 1) entries n b e
      ∙ ap (without_key (numbers_from (first + 1) entries)) (let z : (first + 1) + n ≡ first + suc n = omega arith in z)
  numbers_dropped first (Some a ∷ entries) (suc n) b e =
      ap (λ ns. first ∷ ns) (numbers_dropped (first + 1) entries n b e
      ∙ ap (without_key (numbers_from (first + 1) entries)) (let z : (first + 1) + n ≡ first + suc n = omega arith in z))
      ∙ sym (out_later first (first + suc n) (numbers_from (first + 1) entries) (λ z. omega (arith, z)))

  -- each is that of one
  abbrev IsNumberOf : (first : ℕ) → List (Option B) → ℕ → Type 0
  IsNumberOf first entries n = (m : ℕ) × (n ≡ first + m) × IsSome (entry_at entries m)

  numbers_there : (first : ℕ) (entries : List (Option B)) → AllByRecursion (IsNumberOf first entries) (numbers_from first entries)
  numbers_there first [] = tt
  numbers_there first (None ∷ entries) =
      all_weaker (IsNumberOf (first + 1) entries) (IsNumberOf first (None ∷ entries))
      (λ n is. (suc is.0, (let e = is.1 in omega (arith, e)), is.2)) (numbers_from (first + 1) entries)
      (numbers_there (first + 1) entries)
  numbers_there first (Some a ∷ entries) = (
    (zero, (let e : first ≡ first + 0 = omega arith in e), refl),
    all_weaker (IsNumberOf (first + 1) entries) (IsNumberOf first (Some a ∷ entries))
        (λ n is. (suc is.0, (let e = is.1 in omega (arith, e)), is.2)) (numbers_from (first + 1) entries)
        (numbers_there (first + 1) entries),
  )

  -- so an entry is there under the number of each key
  pub ordered_there : (number : ℕ → ℕ) (keys : List ℕ) (entries : List (Option B)) → map number keys ≡ numbers_from 0 entries
      → AllByRecursion (λ key. IsSome (entry_at entries (number key))) keys
  ordered_there number keys entries e =
      all_numbers (λ n. IsSome (entry_at entries n)) number keys
      (subst (AllByRecursion (λ n. IsSome (entry_at entries n))) (sym e)
      (all_weaker (IsNumberOf 0 entries) (λ n. IsSome (entry_at entries n))
      (λ n is. subst (λ (m : ℕ). IsSome (entry_at entries m)) (let same = is.1 in let z : is.0 ≡ n = omega (arith, same) in z) is.2)
      (numbers_from 0 entries) (numbers_there 0 entries)))

-- ---- the order of tables

module _ {A B : Type 0} {number : ℕ → ℕ} {order : List ℕ} {before : ℕ → Option A} {entries : List (Option B)}
    (are : AreOrdered number order before entries) where
  -- an entry is written
  pub still_ordered : {after : ℕ → Option A} (n : ℕ) (b c : B) → entry_at entries n ≡ Some b
      → ((key : ℕ) → IsSome (before key) → IsSome (after key)) → AreOrdered number order after (slice_set entries n (Some c))
  still_ordered {after} n b c there stay = record {
    numbers = are.numbers ∙ sym (numbers_written 0 entries n b c there);
    kept_there = all_weaker (λ key. IsSome (before key)) (λ key. IsSome (after key)) stay order are.kept_there;
  }

  -- the same is kept in the same order
  pub ordered_alike : {after : ℕ → Option A} (now : List ℕ) → now ≡ order → ((key : ℕ) → IsSome (before key) → IsSome (after key))
      → AreOrdered number now after entries
  ordered_alike {after} now same stay = subst (λ keys. AreOrdered number keys after entries) (sym same) (record {
    numbers = are.numbers;
    kept_there = all_weaker (λ key. IsSome (before key)) (λ key. IsSome (after key)) stay order are.kept_there;
  })

  module _ {after : ℕ → Option A} (key : ℕ) (others : (other : ℕ) → other ≢ key → after other ≡ before other) where
    -- a table is made under a free key
    pub ordered_made : (new : A) (entry : B) → before key ≡ None → after key ≡ Some new
        → AreOrdered (renumbered number key (length entries)) (order ++ key ∷ []) after (with_last entries (Some entry))
    ordered_made new entry free now = record {
      numbers = map-more numbers order key
          ∙ ap (λ n. map numbers order ++ n ∷ []) (renumbered_here number key (length entries))
          ∙ ap (λ ns. ns ++ length entries ∷ []) (as_before order are.kept_there ∙ are.numbers)
          ∙ ap (λ (n : ℕ). numbers_from 0 entries ++ n ∷ []) (let e : length entries ≡ 0 + length entries = omega arith in e)
          ∙ sym (numbers_last 0 entries entry);
      kept_there = all_more (λ k. IsSome (after k)) order key
          (all_weaker (λ k. IsSome (before k)) (λ k. IsSome (after k)) (λ k some. ap is_some (others k (is_other k some)) ∙ some)
          order are.kept_there) (ap is_some now);
    }
      where
        numbers : ℕ → ℕ
        numbers = renumbered number key (length entries)

        is_other : (k : ℕ) → IsSome (before k) → k ≢ key
        is_other k some same = nothing_there (before k) (ap before same ∙ free) some

        map-more : (f : ℕ → ℕ) (keys : List ℕ) (k : ℕ) → map f (keys ++ k ∷ []) ≡ map f keys ++ f k ∷ []
        map-more f [] k = refl
        map-more f (j ∷ keys) k = ap (λ ns. f j ∷ ns) (map-more f keys k)

        -- the free key isn't among them, so their numbers stay
        as_before : (keys : List ℕ) → AllByRecursion (λ k. IsSome (before k)) keys → map numbers keys ≡ map number keys
        as_before [] all = refl
        as_before (k ∷ keys) all =
            ap (λ n. n ∷ map numbers keys) (renumbered_other number key (length entries) k (is_other k all.0))
            ∙ ap (λ ns. number k ∷ ns) (as_before keys all.1)

    -- a table is dropped
    pub ordered_dropped : (b : B) → entry_at entries (number key) ≡ Some b
        → ((other : ℕ) → IsSome (before other) → number other ≡ number key → other ≡ key)
        → AreOrdered number (without_key order key) after (slice_set entries (number key) None)
    ordered_dropped b there own = record {
      numbers = left;
      kept_there = all_both (λ k. IsSome (before k)) (λ k. IsSome (entry_at (slice_set entries (number key) None) (number k)))
          (λ k. IsSome (after k)) still (without_key order key)
          (all_without (λ k. IsSome (before k)) order key are.kept_there)
          (ordered_there number (without_key order key) (slice_set entries (number key) None) left);
    }
      where
        -- the key goes, and its number
        number_goes : (keys : List ℕ) → AllByRecursion (λ k. IsSome (before k)) keys
            → map number (without_key keys key) ≡ without_key (map number keys) (number key)
        number_goes [] all = refl
        number_goes (k ∷ keys) all =
            elim (cases_eq k key) [
              | inl same ↦
                  ap (map number) (out_here k key keys same)
                  ∙ sym (out_here (number k) (number key) (map number keys) (ap number same))
              | inr other ↦
                  ap (map number) (out_later k key keys other)
                  ∙ ap (λ ns. number k ∷ ns) (number_goes keys all.1)
                  ∙ sym (out_later (number k) (number key) (map number keys) (λ e. other (own k all.0 e)))
            ]

        left : map number (without_key order key) ≡ numbers_from 0 (slice_set entries (number key) None)
        left =
            number_goes order are.kept_there ∙ ap (λ ns. without_key ns (number key)) are.numbers
            ∙ ap (without_key (numbers_from 0 entries)) (let e : number key ≡ 0 + number key = omega arith in e)
            ∙ sym (numbers_dropped 0 entries (number key) b there)

        still : (k : ℕ) → IsSome (before k) → IsSome (entry_at (slice_set entries (number key) None) (number k)) → IsSome (after k)
        still k some now =
            ap is_some (others k (λ same. nothing_there (entry_at (slice_set entries (number key) None) (number k))
            (ap (λ j. entry_at (slice_set entries (number key) None) (number j)) same ∙ entry_at-set_none entries (number key)) now))
            ∙ some

-- ---- no key is in order twice

-- each is above all before it
abbrev Ascends : List ℕ → Type 0
Ascends [] = Unit {0}
Ascends (n ∷ ns) = AllByRecursion (λ m. n < m) ns × Ascends ns

numbers_ascend : {B : Type 0} (first : ℕ) (entries : List (Option B)) → Ascends (numbers_from first entries)
numbers_ascend first [] = tt
numbers_ascend first (None ∷ entries) = numbers_ascend (first + 1) entries
numbers_ascend first (Some a ∷ entries) = (
  all_weaker (IsNumberOf (first + 1) entries) (λ m. first < m) (λ n is. let e = is.1 in omega (arith, e)) (numbers_from (first + 1) entries)
      (numbers_there (first + 1) entries),
  numbers_ascend (first + 1) entries,
)

-- what is known of all is known of the one at an index
pub all_in_order : (P : ℕ → Type 0) (keys : List ℕ) (i : ℕ) → i < length keys → AllByRecursion P keys → P (slice_index_or keys i 0)
all_in_order P [] i less all = absurd (omega (arith, less))
all_in_order P (k ∷ keys) zero less all = all.0
all_in_order P (k ∷ keys) (suc i) less all = all_in_order P keys i (omega (arith, less)) all.1

keys_apart : (number : ℕ → ℕ) (keys : List ℕ) → Ascends (map number keys) → (n m : ℕ) → n < length keys → m < length keys
    → slice_index_or keys n 0 ≡ slice_index_or keys m 0 → n ≡ m
keys_apart number [] ascends n m within also e = absurd (omega (arith, within))
keys_apart number (k ∷ keys) ascends zero zero within also e = refl
keys_apart number (k ∷ keys) ascends zero (suc m) within also e =
    let above = all_in_order (λ j. number k < number j) keys m (omega (arith, also))
    (all_numbers (λ j. number k < j) number keys ascends.0) in
    let same = ap number e in
    absurd (omega (arith, above, same))
keys_apart number (k ∷ keys) ascends (suc n) zero within also e =
    let above = all_in_order (λ j. number k < number j) keys n (omega (arith, within))
    (all_numbers (λ j. number k < j) number keys ascends.0) in
    let same = ap number e in
    absurd (omega (arith, above, same))
keys_apart number (k ∷ keys) ascends (suc n) (suc m) within also e =
    ap suc (keys_apart number keys ascends.1 n m (omega (arith, within)) (omega (arith, also)) e)

pub ordered_apart : {A B : Type 0} {number : ℕ → ℕ} {order : List ℕ} {kept : ℕ → Option A} {entries : List (Option B)}
    → AreOrdered number order kept entries → (n m : ℕ) → n < length order → m < length order
    → slice_index_or order n 0 ≡ slice_index_or order m 0 → n ≡ m
ordered_apart {number = number} {order = order} {entries = entries} are =
    keys_apart number order (subst Ascends (sym are.numbers) (numbers_ascend 0 entries))
