-- Lists that a flip counts and cuts, and the words of areas that hold objects.
use Rattle.std.proofs.Common.{◌≡◌, ◌∙◌, ◌⊎◌, ℕ, ◌+◌, ◌≤◌, Bool, true, false, cond, refl, sym, List, [], ◌∷◌, ◌++◌, length, map, Option, Some, None, subst, inl, inr, arith}
use Rattle.std.proofs.lemmas.Bool.{false≢true, and_parts, or_left, or_right}
use Rattle.std.proofs.lemmas.List.Sums.{sum_by-cons}
use Rattle.std.proofs.lemmas.List.Folds.{list_any-append}
use Rattle.std.specs.Prelude.{if◌then◌else◌, filter, count_by}
use Rattle.std.specs.List.{list_any, list_all, flat_map}
use Rattle.mps_base.specs.Address.{Id}
use Rattle.mps_model.specs.Graph.{AreaWord, PlainWord, Hold, contains, entries, held_by_word, holds_of}
use Rattle.mps_model.specs.World.{World, lies_in, shown_word, shown_words}
use Rattle.mps_model.specs.WellFormed.{is_right_word, are_right_words}
use Rattle.mps_abstract.proofs.Lists.{contains_cases, contains_append}

-- ---- counting

count_first : (p : ℕ → Bool) (x : ℕ) (xs : List ℕ) → count_by p (x ∷ xs) ≡ cond (p x) 1 0 + count_by p xs
count_first p x xs = sum_by-cons (λ n. cond (p n) 1 0) x xs

-- where one test implies another, no more pass it than the other keeps
pub count_filtered : (p q : ℕ → Bool) (xs : List ℕ) → ((n : ℕ) → p n ≡ true → q n ≡ true) → count_by p xs ≤ length (filter q xs)
count_filtered p q [] sub = omega arith
count_filtered p q (x ∷ xs) sub =
    of_tests (p x) (q x) (sub x) (count_first p x xs) (count_filtered p q xs sub)
  where
    of_tests : (b d : Bool) → (b ≡ true → d ≡ true) → count_by p (x ∷ xs) ≡ cond b 1 0 + count_by p xs
        → count_by p xs ≤ length (filter q xs)
        → count_by p (x ∷ xs) ≤ length (if d then x ∷ filter q xs else filter q xs)
    of_tests true true sub e rest = omega (arith, e, rest)
    of_tests true false sub e rest = absurd (false≢true (sub refl))
    of_tests false true sub e rest = omega (arith, e, rest)
    of_tests false false sub e rest = omega (arith, e, rest)

-- and it keeps no more
pub filtered_le : {X : Type 0} (p q : X → Bool) (xs : List X) → ((x : X) → p x ≡ true → q x ≡ true)
    → length (filter p xs) ≤ length (filter q xs)
filtered_le p q [] sub = omega arith
filtered_le p q (x ∷ xs) sub =
    elim (p x) as (λ b. p x ≡ b → length (if b then x ∷ filter p xs else filter p xs) ≤ length (filter q (x ∷ xs))) [
      | true ↦ (λ e. subst (λ b. length (x ∷ filter p xs) ≤ length (if b then x ∷ filter q xs else filter q xs)) (sym (sub x e))
          (let rest = filtered_le p q xs sub in omega (arith, rest)))
      | false ↦ (λ e. elim (q x) as (λ b. length (filter p xs) ≤ length (if b then x ∷ filter q xs else filter q xs)) [
        | true ↦ let rest = filtered_le p q xs sub in omega (arith, rest)
        | false ↦ filtered_le p q xs sub
      ])
    ] refl

-- ---- area words

any_append : (p : ℕ → Bool) (xs ys : List ℕ) → (list_any p xs ≡ true) ⊎ (list_any p ys ≡ true) → list_any p (xs ++ ys) ≡ true
any_append p xs ys (inl h) = list_any-append p xs ys ∙ or_left (list_any p xs) (list_any p ys) h
any_append p xs ys (inr h) = list_any-append p xs ys ∙ or_right (list_any p xs) (list_any p ys) h

words_show : (w : World) (words : List AreaWord) (id : Id) → list_all (is_right_word w) words ≡ true
    → contains (entries (map held_by_word words)) id ≡ true → list_any (λ word. lies_in w word id) (map (shown_word w) words) ≡ true
words_show w [] id all h = absurd (false≢true h)
words_show w (PlainWord number ∷ words) id all h =
    or_right (lies_in w number id) (list_any (λ word. lies_in w word id) (map (shown_word w) words)) (words_show w words id all h)
words_show w (Hold held offset ∷ words) id all h =
    let parts = and_parts (lies_in w (shown_word w (Hold held offset)) held) (list_all (is_right_word w) words) all in
    elim (contains_cases held (entries (map held_by_word words)) id h) [
      | inl same ↦ or_left (lies_in w (shown_word w (Hold held offset)) id)
          (list_any (λ word. lies_in w word id) (map (shown_word w) words))
          (subst (λ n. lies_in w (shown_word w (Hold held offset)) n ≡ true) same parts.0)
      | inr later ↦ or_right (lies_in w (shown_word w (Hold held offset)) id)
          (list_any (λ word. lies_in w word id) (map (shown_word w) words))
          (words_show w words id parts.1 later)
    ]

-- a word of an area shows an address in what it holds
pub holds_show : (w : World) (areas : List (Option (List AreaWord))) (id : Id) → list_all (are_right_words w) areas ≡ true
    → contains (flat_map holds_of areas) id ≡ true → list_any (λ word. lies_in w word id) (flat_map (shown_words w) areas) ≡ true
holds_show w [] id all h = absurd (false≢true h)
holds_show w (None ∷ areas) id all h = holds_show w areas id all h
holds_show w (Some words ∷ areas) id all h =
    let parts = and_parts (list_all (is_right_word w) words) (list_all (are_right_words w) areas) all in
    any_append (λ word. lies_in w word id) (map (shown_word w) words) (flat_map (shown_words w) areas)
    (elim (contains_append (entries (map held_by_word words)) (flat_map holds_of areas) id h) [
      | inl here ↦ inl (words_show w words id parts.0 here)
      | inr later ↦ inr (holds_show w areas id parts.1 later)
    ])
