-- Transforms of a heap still represent those of a world, after one was made or dropped and after a pair was added.
use Rattle.std.proofs.Common.{◌≡◌, ◌≢◌, ◌∙◌, ℕ, ◌+◌, ◌-◌, ◌<◌, Bool, true, false, true≢false, refl, sym, ap, List, [], ◌∷◌, length, Option, Some, inl, inr, arith}
use Rattle.std.proofs.lemmas.Bool.{cases_eq}
use Rattle.std.proofs.lemmas.List.{length-set}
use Rattle.std.proofs.lemmas.Option.{slice_get_within, get_or_from_slice_get}
use Rattle.std.specs.Prelude.{◌==◌, ◌&&◌, ◌++◌, if◌then◌else◌, filter, not, slice_get, slice_index_or, slice_set}
use Rattle.std.specs.List.{list_any}
use Rattle.mps_base.specs.Address.{Address, Id}
use Rattle.mps_abstract.specs.Colours.{AreDifferent}
use Rattle.mps_laws.proofs.Lookups.{slice_get-at_last, slice_get-kept, slice_get-set_other}
use Rattle.mps_model.specs.Graph.{entry_at, with_last}
use Rattle.mps_model.specs.Transforms.{is_old}
use Rattle.mps_model.specs.World.{TransformPair}
use Rattle.mps_neighbours.specs.Transforms.{TransformsState, free_number, has_old, is_live, is_of, with_pair, with_transform, without_transform}
use Rattle.mps_xform.specs.declared.transforms.Pair.{Pair}
use Rattle.mps_refinement.specs.Numbering.{renumbered}
use Rattle.mps_refinement.specs.Transforms.{ArePairs, AreTransforms, IsPairOf, live_count}
use Rattle.mps_refinement.proofs.Parts.Numbering.{renumbered_here, renumbered_other}
use Rattle.mps_refinement.proofs.Parts.TransformCounts.{count_last, count_set, free_is, live_within, set_here, set_other}

-- ---- pairs of transforms that have other numbers

module _ (number number_then : ℕ → ℕ) (moves : Id → Bool) (addresses : List (Option Address)) (live live_then : List Bool) where
  -- each transform of a pair is there still, with the number that it had
  abbrev KeepsNumbers : List Pair → Type 0
  KeepsNumbers [] = Unit {0}
  KeepsNumbers (q ∷ qs) =
      (slice_index_or live q.transform false ≡ true
      → (slice_index_or live_then q.transform false ≡ true) × (number_then q.transform ≡ number q.transform)) × KeepsNumbers qs

  pairs_numbered : (qs : List Pair) (ps : List TransformPair) → KeepsNumbers qs → ArePairs number moves addresses live qs ps
      → ArePairs number_then moves addresses live_then qs ps
  pairs_numbered [] [] keeps are = tt
  pairs_numbered [] (p ∷ ps) keeps are = absurd are
  pairs_numbered (q ∷ qs) [] keeps are = absurd are
  pairs_numbered (q ∷ qs) (p ∷ ps) keeps are =
      let still = keeps.0 are.0.there in (
        record {
          there = still.0;
          transform = are.0.transform ∙ sym still.1;
          old = are.0.old;
          new = are.0.new;
          inside = are.0.inside;
        },
        pairs_numbered qs ps keeps.1 are.1,
      )

  all_keep : ((key : ℕ) → slice_index_or live key false ≡ true
      → (slice_index_or live_then key false ≡ true) × (number_then key ≡ number key)) → (qs : List Pair) → KeepsNumbers qs
  all_keep keeps [] = tt
  all_keep keeps (q ∷ qs) = (keeps q.transform, all_keep keeps qs)

module _ (number : ℕ → ℕ) (moves : Id → Bool) (addresses : List (Option Address)) (t : TransformsState) (transforms : List Bool)
    (pairs : List TransformPair) (are : AreTransforms number moves addresses t transforms pairs) where
  -- the number of one that is there is that of a transform of the model
  pub number_within : (key : ℕ) → is_live t key ≡ true → number key < length transforms
  number_within key there = slice_get_within transforms (number key) true (are.there key there)

  -- ---- one is made

  module _ (key : ℕ) (is_free : free_number t ≡ Some key) where
    abbrev pub numbers : ℕ → ℕ
    numbers = renumbered number key (length transforms)

    low : key < length t.live
    low = (free_is t.live key is_free).0

    not_there : is_live t key ≡ false
    not_there = (free_is t.live key is_free).1

    other_than : (other : ℕ) → is_live t other ≡ true → other ≢ key
    other_than other there same = true≢false (sym there ∙ ap (is_live t) same ∙ not_there)

    -- what is there after it was made
    was_there : (other : ℕ) → other ≢ key → is_live (with_transform t key) other ≡ true → is_live t other ≡ true
    was_there other apart there = sym (set_other t.live key other true apart) ∙ there

    old_number : (other : ℕ) → is_live t other ≡ true → numbers other ≡ number other
    old_number other there = renumbered_other number key (length transforms) other (other_than other there)

    there_then : (other : ℕ) → is_live (with_transform t key) other ≡ true
        → slice_get (with_last transforms true) (numbers other) ≡ Some true
    there_then other there =
        elim (cases_eq other key) [
          | inl same ↦ ap (slice_get (with_last transforms true)) (ap numbers same ∙ renumbered_here number key (length transforms))
              ∙ slice_get-at_last transforms true
          | inr apart ↦
              let was = was_there other apart there in
              ap (slice_get (with_last transforms true)) (old_number other was)
              ∙ slice_get-kept transforms true true (number other) (are.there other was)
        ]

    -- the number of the new one is past those of all others
    not_the_new : (other : ℕ) → other ≢ key → is_live (with_transform t key) other ≡ true → (n : ℕ) → n ≡ length transforms
        → numbers other ≡ n → ⊥
    not_the_new other apart there n is same =
        let was = was_there other apart there in
        let low = number_within other was in
        let e = old_number other was in omega (arith, low, e, is, same)

    apart_then : (one other : ℕ) → is_live (with_transform t key) one ≡ true → is_live (with_transform t key) other ≡ true
        → numbers one ≡ numbers other → one ≡ other
    apart_then one other there those same =
        elim (cases_eq one key) [
          | inl first ↦
              elim (cases_eq other key) [
                | inl second ↦ first ∙ sym second
                | inr apart ↦ absurd (not_the_new other apart those (numbers one)
                    (ap numbers first ∙ renumbered_here number key (length transforms)) (sym same))
              ]
          | inr apart ↦
              elim (cases_eq other key) [
                | inl second ↦ absurd (not_the_new one apart there (numbers other)
                    (ap numbers second ∙ renumbered_here number key (length transforms)) same)
                | inr different ↦
                    let a = was_there one apart there in
                    let b = was_there other different those in
                    are.apart one other a b (sym (old_number one a) ∙ same ∙ old_number other b)
              ]
        ]

    counted_then : live_count (slice_set t.live key true) ≡ live_count t.live + 1
    counted_then =
        let e = count_set t.live key true low in
        let none = ap (λ b. live_count (slice_set t.live key true) + (if b then 1 else 0)) not_there in omega (arith, e, none)

    pub transform_made : AreTransforms numbers moves addresses (with_transform t key) (with_last transforms true) pairs
    transform_made = record {
      sixteen = length-set t.live key true ∙ are.sixteen;
      there = there_then;
      apart = apart_then;
      counted = counted_then ∙ ap (λ n. n + 1) are.counted ∙ sym (count_last transforms);
      pairs_are = pairs_numbered number numbers moves addresses t.live (slice_set t.live key true) t.pairs pairs
          (all_keep number numbers moves addresses t.live (slice_set t.live key true) (λ other there.
          (set_other t.live key other true (other_than other there) ∙ there, old_number other there)) t.pairs) are.pairs_are;
    }

    pub new_there : is_live (with_transform t key) key ≡ true
    new_there = set_here t.live key true low

    pub new_was_free : is_live t key ≡ true → ⊥
    new_was_free there = true≢false (sym there ∙ not_there)

    pub one_more_live : live_count (with_transform t key).live ≡ live_count t.live + 1
    one_more_live = counted_then

    pub others_there : (other : ℕ) → is_live t other ≡ true → is_live (with_transform t key) other ≡ true
    others_there other there = set_other t.live key other true (other_than other there) ∙ there

  -- ---- one is dropped

  module _ (key : ℕ) (there_now : is_live t key ≡ true) where
    low_key : key < length t.live
    low_key = live_within t.live key there_now

    gone : is_live (without_transform t key) key ≡ false
    gone = set_here t.live key false low_key

    still_other : (other : ℕ) → is_live (without_transform t key) other ≡ true → other ≢ key
    still_other other there same = true≢false (sym there ∙ ap (is_live (without_transform t key)) same ∙ gone)

    was_live : (other : ℕ) → is_live (without_transform t key) other ≡ true → is_live t other ≡ true
    was_live other there = sym (set_other t.live key other false (still_other other there)) ∙ there

    pub left_there : (other : ℕ) → is_live t other ≡ true → other ≢ key → is_live (without_transform t key) other ≡ true
    left_there other there apart = set_other t.live key other false apart ∙ there

    fewer_live : live_count (slice_set t.live key false) + 1 ≡ live_count t.live
    fewer_live =
        let e = count_set t.live key false low_key in
        let one = ap (λ b. live_count (slice_set t.live key false) + (if b then 1 else 0)) there_now in omega (arith, e, one)

    fewer_transforms : live_count (slice_set transforms (number key) false) + 1 ≡ live_count transforms
    fewer_transforms =
        let is = get_or_from_slice_get transforms (number key) true false (are.there key there_now) in
        let e = count_set transforms (number key) false (number_within key there_now) in
        let one = ap (λ b. live_count (slice_set transforms (number key) false) + (if b then 1 else 0)) is in omega (arith, e, one)

    -- a pair is of this transform in both, or in neither
    pub same_transform : (q : Pair) (p : TransformPair) → IsPairOf number moves addresses t.live q p
        → is_of key q ≡ (p.transform == number key)
    same_transform q p is =
        elim (cases_eq q.transform key) [
          | inl same ↦ ap (λ n. n == key) same ∙ itself key ∙ sym (itself (number key))
              ∙ sym (ap (λ n. n == number key) (is.transform ∙ ap number same))
          | inr apart ↦ different q.transform key apart
              ∙ sym (different p.transform (number key) (λ e. apart (are.apart q.transform key is.there there_now (sym is.transform ∙ e))))
        ]
      where
        itself : (n : ℕ) → (n == n) ≡ true
        itself n = grind arith

        different : (n m : ℕ) → n ≢ m → (n == m) ≡ false
        different n m apart = grind arith

    pairs_left : (qs : List Pair) (ps : List TransformPair) → ArePairs number moves addresses t.live qs ps
        → ArePairs number moves addresses (slice_set t.live key false) (filter (λ q. not (is_of key q)) qs)
        (filter (λ p. not (p.transform == number key)) ps)
    pairs_left [] [] is = tt
    pairs_left [] (p ∷ ps) is = absurd is
    pairs_left (q ∷ qs) [] is = absurd is
    pairs_left (q ∷ qs) (p ∷ ps) is = by_test (pairs_left qs ps is.1) (is_of key q) refl
      where
        by_test : ArePairs number moves addresses (slice_set t.live key false) (filter (λ q. not (is_of key q)) qs)
            (filter (λ p. not (p.transform == number key)) ps) → (b : Bool)
            → is_of key q ≡ b
            → ArePairs number moves addresses (slice_set t.live key false) (filter (λ q. not (is_of key q)) (q ∷ qs))
            (filter (λ p. not (p.transform == number key)) (p ∷ ps))
        by_test later true e = rw (e, sym (same_transform q p is.0) ∙ e) later
        by_test later false e = rw (e, sym (same_transform q p is.0) ∙ e) (
          record {
            there = left_there q.transform is.0.there (λ same. true≢false (sym (ap (λ n. n == key) same ∙ itself key) ∙ e));
            transform = is.0.transform;
            old = is.0.old;
            new = is.0.new;
            inside = is.0.inside;
          },
          later,
        )
          where
            itself : (n : ℕ) → (n == n) ≡ true
            itself n = grind arith

    pub transform_dropped : AreTransforms number moves addresses (without_transform t key) (slice_set transforms (number key) false)
        (filter (λ p. not (p.transform == number key)) pairs)
    transform_dropped = record {
      sixteen = length-set t.live key false ∙ are.sixteen;
      there = λ other there.
          let was = was_live other there in
          slice_get-set_other transforms (number key) (number other) false
          (λ e. still_other other there (are.apart other key was there_now (sym e))) ∙ are.there other was;
      apart = λ one other there those same. are.apart one other (was_live one there) (was_live other those) same;
      counted = let a = fewer_live in let b = fewer_transforms in let c = are.counted in omega (arith, a, b, c);
      pairs_are = pairs_left t.pairs pairs are.pairs_are;
    }

    pub one_less_live : live_count t.live - 1 ≡ live_count (without_transform t key).live
    one_less_live = let a = fewer_live in omega (arith, a)

    -- ---- a pair is added

    -- an object is the old one of a pair of the transform in both, or in neither
    pub same_old : AreDifferent addresses → (id : Id) (at : Address) → entry_at addresses id ≡ Some at
        → has_old t key at ≡ is_old (filter (λ p. p.transform == number key) pairs) id
    same_old different id at there = of_pairs t.pairs pairs are.pairs_are
      where
        same_object : (q : Pair) (p : TransformPair) → IsPairOf number moves addresses t.live q p → (q.old.0 == at) ≡ (p.old == id)
        same_object q p is =
            elim (cases_eq p.old id) [
              | inl same ↦ ap (λ n. n == at) (some_same q.old.0 at (sym is.old ∙ ap (entry_at addresses) same ∙ there)) ∙ itself at
                  ∙ sym (itself id) ∙ sym (ap (λ n. n == id) same)
              | inr apart ↦ unlike q.old.0 at (λ e. apart (different p.old id at (is.old ∙ ap Some e) there))
                  ∙ sym (unlike p.old id apart)
            ]
          where
            itself : (n : ℕ) → (n == n) ≡ true
            itself n = grind arith

            unlike : (n m : ℕ) → n ≢ m → (n == m) ≡ false
            unlike n m apart = grind arith

            some_same : (a b : ℕ) → ◌≡◌ {A = Option ℕ} (Some a) (Some b) → a ≡ b
            some_same a b e = Rattle.std.proofs.lemmas.Option.same_Some a b e

        of_pairs : (qs : List Pair) (ps : List TransformPair) → ArePairs number moves addresses t.live qs ps
            → list_any (λ q. is_of key q && (q.old.0 == at)) qs ≡ is_old (filter (λ p. p.transform == number key) ps) id
        of_pairs [] [] is = refl
        of_pairs [] (p ∷ ps) is = absurd is
        of_pairs (q ∷ qs) [] is = absurd is
        of_pairs (q ∷ qs) (p ∷ ps) is = by_test (of_pairs qs ps is.1) (is_of key q) refl
          where
            by_test : list_any (λ q. is_of key q && (q.old.0 == at)) qs ≡ is_old (filter (λ p. p.transform == number key) ps) id
                → (b : Bool) → is_of key q ≡ b
                → list_any (λ q. is_of key q && (q.old.0 == at)) (q ∷ qs) ≡ is_old (filter (λ p. p.transform == number key) (p ∷ ps)) id
            by_test later true e = rw (e, sym (same_transform q p is.0) ∙ e, same_object q p is.0, later) refl
            by_test later false e = rw (e, sym (same_transform q p is.0) ∙ e) later

  pub same_length : length t.pairs ≡ length pairs
  same_length = of_pairs t.pairs pairs are.pairs_are
    where
      of_pairs : (qs : List Pair) (ps : List TransformPair) → ArePairs number moves addresses t.live qs ps → length qs ≡ length ps
      of_pairs [] [] is = refl
      of_pairs [] (p ∷ ps) is = absurd is
      of_pairs (q ∷ qs) [] is = absurd is
      of_pairs (q ∷ qs) (p ∷ ps) is = let e = of_pairs qs ps is.1 in omega (arith, e)

  pub pair_added : (q : Pair) (p : TransformPair) → IsPairOf number moves addresses t.live q p
      → AreTransforms number moves addresses (with_pair t q) transforms (with_last pairs p)
  pair_added q p is = record {
    sixteen = are.sixteen;
    there = are.there;
    apart = are.apart;
    counted = are.counted;
    pairs_are = of_pairs t.pairs pairs are.pairs_are;
  }
    where
      of_pairs : (qs : List Pair) (ps : List TransformPair) → ArePairs number moves addresses t.live qs ps
          → ArePairs number moves addresses t.live (qs ++ q ∷ []) (with_last ps p)
      of_pairs [] [] none = (is, tt)
      of_pairs [] (s ∷ ps) none = absurd none
      of_pairs (r ∷ qs) [] none = absurd none
      of_pairs (r ∷ qs) (s ∷ ps) those = (those.0, of_pairs qs ps those.1)
