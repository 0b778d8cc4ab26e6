-- The objects that the model's flip pins.
use Rattle.std.proofs.Common.{◌≡◌, ◌∙◌, ℕ, Bool, true, false, List, [], ◌∷◌, map, Option, Some, refl, sym, ap, inl, inr, subst}
use Rattle.std.proofs.lemmas.Bool.{cases_Bool, and_parts, and_from, both_ways, false_from_ne_true, false≢true, or_cases, or_left, or_right}
use Rattle.std.specs.Prelude.{◌&&◌, ◌||◌, slice_get, filter}
use Rattle.std.specs.List.{list_any}
use Rattle.std.specs.Option.{option_map_or}
use Rattle.mps_base.specs.Address.{Address, Id}
use Rattle.mps_root.specs.declared.roots.Stored.{Stored}
use Rattle.mps_model.specs.Effect.{Condemnation, condemned_by, condemned_ids, collection_at_flip, lies_in_one}
use Rattle.mps_model.specs.Graph.{Object, contains, entry_at, size_of, is_automatic}
use Rattle.mps_model.specs.World.{World, area_words, has_area_word, is_copying_object, is_copying_pool, is_word_in, lies_in, live_automatic_ids, live_ids, object_is, words_of}
use Rattle.mps_abstract.proofs.Lists.{contains_cases, contains_here, contains_later, contains-filter, contains_filtered}
use Rattle.mps_trace_laws.specs.Nails.Nailed.{ArePinned, AreWordsShown}

-- what is left of a list has what passes
filter_is : (p : ℕ → Bool) (xs : List ℕ) (n : ℕ) → contains (filter p xs) n ≡ (contains xs n && p n)
filter_is p xs n =
    elim (cases_Bool (contains (filter p xs) n)) [
      | inl there ↦ let parts = contains-filter p xs n there in there ∙ sym (and_from (contains xs n) (p n) parts.0 parts.1)
      | inr gone ↦
          gone ∙ sym (false_from_ne_true (contains xs n && p n) (λ both.
          let parts = and_parts (contains xs n) (p n) both in
          both_ways (contains (filter p xs) n) gone (contains_filtered p xs n parts.1 parts.0)))
    ]

where_first : (c a b : Bool) → (c ≡ true → a ≡ b) → (c && a) ≡ (c && b)
where_first true a b same = same refl
where_first false a b same = refl

any_shown : (p : ℕ → Bool) (q : Stored → Bool) (ws : List Stored) → ((w : Stored) → p w.word ≡ q w)
    → list_any p (map (λ (x : Stored). x.word) ws) ≡ list_any q ws
any_shown p q [] same = refl
any_shown p q (w ∷ ws) same =
    ap (λ (b : Bool). b || list_any p (map (λ (x : Stored). x.word) ws)) (same w)
    ∙ ap (λ (b : Bool). q w || b) (any_shown p q ws same)

-- ---- what passes in one of two lists with the same members passes in the other

-- a member that passes
record Passes (p : ℕ → Bool) (xs : List ℕ) : Type 0 where
  member : ℕ
  there : contains xs member ≡ true
  passes : p member ≡ true

one_passes : (p : ℕ → Bool) (xs : List ℕ) → list_any p xs ≡ true → Passes p xs
one_passes p [] is = absurd (false≢true is)
one_passes p (x ∷ xs) is =
    elim (or_cases (p x) (list_any p xs) is) [
      | inl here ↦ record { member = x; there = contains_here x xs; passes = here }
      | inr later ↦
          let rest = one_passes p xs later in
          record { member = rest.member; there = contains_later x xs rest.member rest.there; passes = rest.passes }
    ]

any_passes : (p : ℕ → Bool) (xs : List ℕ) (n : ℕ) → contains xs n ≡ true → p n ≡ true → list_any p xs ≡ true
any_passes p [] n there is = absurd (false≢true there)
any_passes p (x ∷ xs) n there is =
    elim (contains_cases x xs n there) [
      | inl same ↦ or_left (p x) (list_any p xs) (subst (λ i. p i ≡ true) (sym same) is)
      | inr later ↦ or_right (p x) (list_any p xs) (any_passes p xs n later is)
    ]

any_through : (p : ℕ → Bool) (xs ys : List ℕ) → ((n : ℕ) → contains xs n ≡ contains ys n) → list_any p xs ≡ true → list_any p ys ≡ true
any_through p xs ys same is = let one = one_passes p xs is in any_passes p ys one.member (sym (same one.member) ∙ one.there) one.passes

any_of_same : (p : ℕ → Bool) (xs ys : List ℕ) → ((n : ℕ) → contains xs n ≡ contains ys n) → list_any p xs ≡ list_any p ys
any_of_same p xs ys same =
    elim (cases_Bool (list_any p xs)) [
      | inl some ↦ some ∙ sym (any_through p xs ys same some)
      | inr none ↦
          none ∙ sym (false_from_ne_true (list_any p ys) (λ some.
          both_ways (list_any p xs) none (any_through p ys xs (λ n. sym (same n)) some)))
    ]

-- ---- the model

module _ (w : World) (what : Condemnation) where
  condemned_automatic : (id : Id) → contains (condemned_ids w what) id ≡ true → object_is is_automatic w id ≡ true
  condemned_automatic id there =
      let live = contains-filter (lies_in_one w (condemned_by w what)) (live_automatic_ids w) id there in
      (contains-filter (object_is is_automatic w) (live_ids w) id live.0).1

  -- a word lies in an object by its kind
  lies_by_kind : (id : Id) (at : Address) (o : Object) (word : ℕ) → entry_at w.addresses id ≡ Some at
      → slice_get w.graph.objects id ≡ Some o → object_is is_automatic w id ≡ true
      → lies_in w word id ≡ is_word_in (is_copying_pool w o.pool) at (size_of o) word
  lies_by_kind id at o word there object automatic =
      let size : words_of w id ≡ size_of o = ap (λ (x : Option Object). option_map_or size_of x 0) object in
      let kind : is_copying_object w id ≡ is_copying_pool w o.pool =
      ap (λ (x : Option Object). option_map_or (λ (p : Object). is_copying_pool w p.pool) x false) object in
      ap (λ (b : Bool).
      b && option_map_or (λ a. is_word_in (is_copying_object w id) a (words_of w id) word) (entry_at w.addresses id) false) automatic
      ∙ ap (λ (x : Option Address). option_map_or (λ a. is_word_in (is_copying_object w id) a (words_of w id) word) x false) there
      ∙ ap (λ (b : Bool). is_word_in b at (words_of w id) word) kind
      ∙ ap (λ (n : ℕ). is_word_in (is_copying_pool w o.pool) at n word) size

  pub model_pins : (words : List Stored) → AreWordsShown words (area_words w)
      → ArePinned w.graph.objects w.addresses (is_copying_pool w) (collection_at_flip w what).condemned
      (collection_at_flip w what).pinned words
  model_pins words shown id at o there object =
      let inside : Stored → Bool = λ x. is_word_in (is_copying_pool w o.pool) at (size_of o) x.word in
      filter_is (has_area_word w) (condemned_ids w what) id
      ∙ where_first (contains (condemned_ids w what) id) (has_area_word w id) (list_any inside words) (λ is.
      sym (any_of_same (λ word. lies_in w word id) (map (λ (x : Stored). x.word) words) (area_words w) shown)
      ∙ any_shown (λ word. lies_in w word id) inside words (λ x.
      lies_by_kind id at o x.word there object (condemned_automatic id is)))
