-- A word of an area lies in an old block of a heap exactly if it lies in an old object of the world, and a point of the heap has a live
-- reservation exactly if one of the world has.
use Rattle.std.proofs.Common.{◌≡◌, ◌∙◌, ℕ, zero, suc, ◌*◌, ◌≤◌, Bool, true, false, refl, sym, ap, ap₂, subst, List, [], ◌∷◌, ◌++◌, map, Option, Some, None, arith}
use Rattle.std.proofs.lemmas.Bool.{and_parts, eq-eqb, eqb-true, false≢true}
use Rattle.std.proofs.lemmas.Option.{none-some, same_Some}
use Rattle.std.specs.Prelude.{◌==◌, ◌&&◌, ◌||◌, filter, not, option_and_then, option_map, slice_get}
use Rattle.std.specs.List.{flat_map, list_any}
use Rattle.std.specs.Option.{option_map_or}
use Rattle.mps_base.specs.Address.{Address, Id, address_of_word, word_of}
use Rattle.mps_extents.specs.Extents.{run_over}
use Rattle.mps_format.specs.Layout.{Layout}
use Rattle.mps_model.specs.Graph.{AreaWord, Hold, Object, PlainWord, contains, entry_at, is_automatic, size_of}
use Rattle.mps_model.specs.Transforms.{is_blocked, is_old}
use Rattle.mps_model.specs.World.{TransformPair, World, area_words, has_area_word, ids_in_pairs, is_copying_object, is_live_and, is_word_in, lies_in, object_is, pairs_in, shown_word, shown_words, words_of}
use Rattle.mps_neighbours.specs.Transforms.{is_live, pair_of}
use Rattle.mps_root.specs.State.{kept}
use Rattle.mps_root.specs.declared.roots.Stored.{Stored}
use Rattle.mps_seg.specs.Segs.{at_word}
use Rattle.mps_xform.specs.Blocking.{lies_in_old}
use Rattle.mps_xform.specs.declared.transforms.Pair.{Pair}
use Rattle.mps_heap_spec.specs.State.{HeapState}
use Rattle.mps_heap_spec.specs.Transforming.{is_blocked_by}
use Rattle.mps_refinement.specs.StandsFor.{AreParts, Past, stored_word}
use Rattle.mps_refinement.proofs.Lookups.BlocksOver.{IsByteOf, block_over_found, block_over_live}
use Rattle.mps_refinement.proofs.Lookups.LiveObjects.{different}
use Rattle.mps_refinement.proofs.Lookups.WordsInObjects.{is_in_block, lying_byte}
use Rattle.mps_refinement.proofs.Parts.ObjectKinds.{paired_automatic}
use Rattle.mps_refinement.proofs.Substitution.Any.{any_found, any_there, same_tests}
use Rattle.mps_refinement.proofs.Substitution.Replaced.{IsPaired, Paired, Unpaired, pair_is_live, paired}
use Rattle.mps_refinement.proofs.Worlds.Known.{IsKnown}

-- ---- the words of all areas

module _ {F : Type 0} (layout : F → Layout) (past : Past) (h : HeapState F) (w : World) (parts : AreParts layout past h w)
    (test : ℕ → Bool) where
  abbrev in_ours : Option (List Stored) → Bool
  in_ours area = option_map_or (λ words. list_any (λ s. test s.word) words) area false

  abbrev in_theirs : Option (List AreaWord) → Bool
  in_theirs area = list_any test (shown_words w area)

  shown_is : (word : AreaWord) → (stored_word w.addresses word).word ≡ shown_word w word
  shown_is (PlainWord number) = refl
  shown_is (Hold id offset) = refl

  row_is : (words : List AreaWord) → list_any (λ (s : Stored). test s.word) (map (stored_word w.addresses) words)
      ≡ list_any test (map (shown_word w) words)
  row_is [] = refl
  row_is (word ∷ words) =
      ap₂ (λ (a b : Bool). a || b) (ap test (shown_is word)) (row_is words)

  any_append : (xs ys : List ℕ) → list_any test (xs ++ ys) ≡ (list_any test xs || list_any test ys)
  any_append [] ys = refl
  any_append (x ∷ xs) ys = ap (λ (b : Bool). test x || b) (any_append xs ys) ∙ regroup (test x) (list_any test xs) (list_any test ys)
    where
      regroup : (a b c : Bool) → (a || (b || c)) ≡ ((a || b) || c)
      regroup true b c = refl
      regroup false b c = refl

  flat_is : (areas : List (Option (List AreaWord))) → list_any test (flat_map (shown_words w) areas) ≡ list_any in_theirs areas
  flat_is [] = refl
  flat_is (area ∷ areas) =
      any_append (shown_words w area) (flat_map (shown_words w) areas)
      ∙ ap (λ (b : Bool). list_any test (shown_words w area) || b) (flat_is areas)

  area_is : (words : List Stored) (theirs : List AreaWord) → words ≡ map (stored_word w.addresses) theirs
      → in_ours (Some words) ≡ in_theirs (Some theirs)
  area_is words theirs e = ap (λ (ws : List Stored). list_any (λ (s : Stored). test s.word) ws) e ∙ row_is theirs

  got : {A : Type 0} (xs : List (Option A)) (k : ℕ) (a : A) → slice_get xs k ≡ Some (Some a) → kept xs k ≡ Some a
  got [] k a e = absurd (none-some (Some a) e)
  got (x ∷ xs) zero a e = same_Some x (Some a) e
  got (x ∷ xs) (suc k) a e = got xs k a e

  has : {A : Type 0} (xs : List (Option A)) (k : ℕ) (a : A) → kept xs k ≡ Some a → slice_get xs k ≡ Some (Some a)
  has [] k a e = absurd (none-some a e)
  has (x ∷ xs) zero a e = ap Some e
  has (x ∷ xs) (suc k) a e = has xs k a e

  entry_got : {A : Type 0} (xs : List (Option A)) (k : ℕ) (a : A) → slice_get xs k ≡ Some (Some a) → entry_at xs k ≡ Some a
  entry_got xs k a e = ap (option_and_then (λ x. x)) e

  entry_has : {A : Type 0} (xs : List (Option A)) (k : ℕ) (a : A) → entry_at xs k ≡ Some a → slice_get xs k ≡ Some (Some a)
  entry_has [] k a e = absurd (none-some a e)
  entry_has (x ∷ xs) zero a e = ap Some e
  entry_has (x ∷ xs) (suc k) a e = entry_has xs k a e

  some_area : (x : Option (List Stored)) → in_ours x ≡ true → (words : List Stored) × (x ≡ Some words)
  some_area None e = absurd (false≢true e)
  some_area (Some words) e = (words, refl)

  some_words : (x : Option (List AreaWord)) → in_theirs x ≡ true → (words : List AreaWord) × (x ≡ Some words)
  some_words None e = absurd (false≢true e)
  some_words (Some words) e = (words, refl)

  -- a test holds of some word in both, or in neither
  pub areas_alike : list_any (λ area. option_map_or (λ words. list_any (λ s. test s.word) words) area false) h.roots.areas
      ≡ list_any test (area_words w)
  areas_alike = same_tests (list_any in_ours h.roots.areas) (list_any in_theirs w.graph.areas) to from ∙ sym (flat_is w.graph.areas)
    where
      to : list_any in_ours h.roots.areas ≡ true → list_any in_theirs w.graph.areas ≡ true
      to e =
          let x = any_found in_ours h.roots.areas e in
          let words = some_area x.1 x.3 in
          let found = parts.areas.there x.0 words.0 (got h.roots.areas x.0 words.0 (x.2 ∙ ap Some words.1)) in
          any_there in_theirs w.graph.areas (past.area_number x.0) (Some found.0)
          (entry_has w.graph.areas (past.area_number x.0) found.0 found.1)
          (sym (area_is words.0 found.0 found.2) ∙ sym (ap in_ours words.1) ∙ x.3)

      from : list_any in_theirs w.graph.areas ≡ true → list_any in_ours h.roots.areas ≡ true
      from e =
          let x = any_found in_theirs w.graph.areas e in
          let words = some_words x.1 x.3 in
          let there = entry_got w.graph.areas x.0 words.0 (x.2 ∙ ap Some words.1) in
          let key = parts.areas.complete x.0 words.0 there in
          let found = parts.areas.there key.key key.value key.there in
          let same : found.0 ≡ words.0 = same_Some found.0 words.0 (sym found.1 ∙ ap (entry_at w.graph.areas) key.numbered ∙ there) in
          any_there in_ours h.roots.areas key.key (Some key.value) (has h.roots.areas key.key key.value key.there)
          (area_is key.value found.0 found.2 ∙ ap (λ (ws : List AreaWord). in_theirs (Some ws)) same ∙ sym (ap in_theirs words.1) ∙ x.3)

-- ---- one word

module _ {F : Type 0} (layout : F → Layout) (past : Past) (h : HeapState F) (w : World) (parts : AreParts layout past h w)
    (known : IsKnown past.time w) (key : ℕ) (there : is_live h.beside.transforms key ≡ true) where
  abbrev pub pairs : List TransformPair
  pairs = filter (λ p. p.transform == past.transform_number key) (pairs_in w.state)

  abbrev pair : Address → Option Pair
  pair = pair_of h.beside.transforms key

  pair_is : (id : Id) (at : Address) → entry_at w.addresses id ≡ Some at → IsPaired (is_copying_object w) id (pair at) (is_old pairs id)
  pair_is id at live =
      paired past.transform_number (is_copying_object w) w.addresses h.beside.transforms w.graph.transforms (pairs_in w.state)
      parts.transforms key there (different layout past h w parts) id at live

  of_some : (id : Id) (o : Option Pair) (b : Bool) → IsPaired (is_copying_object w) id o b → (q : Pair) → o ≡ Some q
      → (b ≡ true) × (q.inside ≡ is_copying_object w id)
  of_some id None b Unpaired q e = absurd (none-some q e)
  of_some id (Some r) b (Paired inside) q e = (refl, subst (λ (x : Pair). x.inside ≡ is_copying_object w id) (same_Some r q e) inside)

  of_old : (id : Id) (o : Option Pair) (b : Bool) → IsPaired (is_copying_object w) id o b → b ≡ true
      → (q : Pair) × (o ≡ Some q) × (q.inside ≡ is_copying_object w id)
  of_old id o b Unpaired e = absurd (false≢true e)
  of_old id o b (Paired {q = q} inside) e = (q, refl, inside)

  some_passes : {A : Type 0} (f : A → Bool) (o : Option A) → option_map_or f o false ≡ true → (a : A) × (o ≡ Some a) × (f a ≡ true)
  some_passes f None e = absurd (false≢true e)
  some_passes f (Some a) e = (a, refl, e)

  not_false : (b : Bool) → not b ≡ true → b ≡ false
  not_false true e = absurd (false≢true e)
  not_false false e = refl

  -- an object in a pair is automatic
  automatic : (id : Id) (at : Address) (q : Pair) → entry_at w.addresses id ≡ Some at → pair at ≡ Some q
      → object_is is_automatic w id ≡ true
  automatic id at q live found =
      let x = pair_is_live past.transform_number (is_copying_object w) w.addresses h.beside.transforms w.graph.transforms
      (pairs_in w.state) parts.transforms key there at q found in
      paired_automatic w known.formed id
      (subst (λ (j : Id). contains (ids_in_pairs w.state) j ≡ true) (different layout past h w parts x.0 id at x.1 live) x.2)

  module _ (word : ℕ) where
    abbrev by_first : Bool
    by_first =
        option_map_or (λ from. option_map_or (λ p. p.inside) (pair (address_of_word from)) false) (run_over h.segs.blocks (word_of word))
        false

    abbrev by_second : Bool
    by_second = option_map_or (λ p. not p.inside) (pair word) false

    found_lies : (id : Id) (at : Address) → entry_at w.addresses id ≡ Some at → object_is is_automatic w id ≡ true
        → is_word_in (is_copying_object w id) at (words_of w id) word ≡ true → lies_in w word id ≡ true
    found_lies id at live is_automatic_object inside =
        ap₂ (λ (a b : Bool). a && b) is_automatic_object
        (ap (λ (o : Option Address). option_map_or (λ x. is_word_in (is_copying_object w id) x (words_of w id) word) o false) live ∙ inside)

    first_lies : by_first ≡ true → (id : Id) × (is_old pairs id ≡ true) × (lies_in w word id ≡ true)
    first_lies e =
        let over = some_passes (λ from. option_map_or (λ (p : Pair). p.inside) (pair (address_of_word from)) false)
        (run_over h.segs.blocks (word_of word)) e in
        let at = address_of_word over.0 in
        let q = some_passes (λ (p : Pair). p.inside) (pair at) over.2 in
        let x =
        block_over_found layout past h w parts word at
        (ap (λ (o : Option ℕ). option_map (λ a. a.0) (option_map at_word o)) over.1) in
        let byte = x.2 in
        let its = of_some x.0 (pair at) (is_old pairs x.0) (pair_is x.0 at byte.address) q.0 q.1 in
        let copying : is_copying_object w x.0 ≡ true = sym its.1 ∙ q.2 in
        let size : words_of w x.0 ≡ size_of x.1 = ap (λ (o : Option Object). option_map_or size_of o 0) byte.object in
        let aligned : at ≡ 8 * word_of at = omega arith in (
          x.0,
          its.0,
          found_lies x.0 at byte.address (automatic x.0 at q.0 byte.address q.1)
              (ap₂ (λ (c : Bool) (n : ℕ). is_word_in c at n word) copying size
              ∙ is_in_block true at (size_of x.1) word aligned byte.above byte.below),
        )

    second_lies : by_second ≡ true → (id : Id) × (is_old pairs id ≡ true) × (lies_in w word id ≡ true)
    second_lies e =
        let q = some_passes (λ (p : Pair). not p.inside) (pair word) e in
        let x = pair_is_live past.transform_number (is_copying_object w) w.addresses h.beside.transforms w.graph.transforms
        (pairs_in w.state) parts.transforms key there word q.0 q.1 in
        let its = of_some x.0 (pair word) (is_old pairs x.0) (pair_is x.0 word x.1) q.0 q.1 in
        let still : is_copying_object w x.0 ≡ false = sym its.1 ∙ not_false (q.0).inside q.2 in (
          x.0,
          its.0,
          found_lies x.0 word x.1 (automatic x.0 word q.0 x.1 q.1)
              (ap (λ (c : Bool). is_word_in c word (words_of w x.0) word) still ∙ eq-eqb word word refl),
        )

    lies_found : lies_in_old pair h.segs.blocks word ≡ true → (id : Id) × (is_old pairs id ≡ true) × (lies_in w word id ≡ true)
    lies_found e = of_first by_first refl e
      where
        of_first : (b : Bool) → by_first ≡ b → (b || by_second) ≡ true
            → (id : Id) × (is_old pairs id ≡ true) × (lies_in w word id ≡ true)
        of_first true is e = first_lies is
        of_first false is e = second_lies e

    -- the block over a word that lies in a live object is the object's
    over_from : (id : Id) (at : Address) (o : Object) → IsByteOf w word id at o
        → (from : ℕ) × (run_over h.segs.blocks (word_of word) ≡ Some from) × (address_of_word from ≡ at)
    over_from id at o byte = of_run (run_over h.segs.blocks (word_of word)) refl (block_over_live layout past h w parts word id at o byte)
      where
        of_run : (x : Option ℕ) → run_over h.segs.blocks (word_of word) ≡ x → option_map (λ a. a.0) (option_map at_word x) ≡ Some at
            → (from : ℕ) × (run_over h.segs.blocks (word_of word) ≡ Some from) × (address_of_word from ≡ at)
        of_run None is e = absurd (none-some at e)
        of_run (Some from) is e = (from, is, same_Some (address_of_word from) at e)

    old_lies : (id : Id) → is_old pairs id ≡ true → lies_in w word id ≡ true → lies_in_old pair h.segs.blocks word ≡ true
    old_lies id old lies = of_kind (is_copying_object w id) refl
      where
        x : (at : Address) × (o : Object) × (at ≤ word) × IsByteOf w word id at o
        x = lying_byte layout past h w parts known word id lies

        q : (q : Pair) × (pair x.0 ≡ Some q) × (q.inside ≡ is_copying_object w id)
        q = of_old id (pair x.0) (is_old pairs id) (pair_is id x.0 x.3.address) old

        inside : is_word_in (is_copying_object w id) x.0 (words_of w id) word ≡ true
        inside =
            sym (ap (λ (o : Option Address). option_map_or (λ a. is_word_in (is_copying_object w id) a (words_of w id) word) o false)
            x.3.address)
            ∙ (and_parts (object_is is_automatic w id)
            (is_live_and (λ a. is_word_in (is_copying_object w id) a (words_of w id) word) w id) lies).1

        or_true : (a b : Bool) → b ≡ true → (a || b) ≡ true
        or_true true b e = refl
        or_true false b e = e

        of_kind : (b : Bool) → is_copying_object w id ≡ b → lies_in_old pair h.segs.blocks word ≡ true
        of_kind true copying =
            let over = over_from id x.0 x.1 x.3 in
            ap (λ (b : Bool). b || by_second)
            (ap (λ (o : Option ℕ).
            option_map_or (λ from. option_map_or (λ (p : Pair). p.inside) (pair (address_of_word from)) false) o false)
            over.1
            ∙ ap (λ (a : Address). option_map_or (λ (p : Pair). p.inside) (pair a) false) over.2
            ∙ ap (λ (o : Option Pair). option_map_or (λ (p : Pair). p.inside) o false) q.1 ∙ q.2 ∙ copying)
        of_kind false still =
            let same : word ≡ x.0 =
            eqb-true word x.0 (sym (ap (λ (c : Bool). is_word_in c x.0 (words_of w id) word) still) ∙ inside) in
            or_true by_first by_second
            (ap (λ (a : Address). option_map_or (λ (p : Pair). not p.inside) (pair a) false) same
            ∙ ap (λ (o : Option Pair). option_map_or (λ (p : Pair). not p.inside) o false) q.1 ∙ ap not (q.2 ∙ still))

  -- ---- all words

  pub blocked_alike : is_blocked_by h key ≡ is_blocked w pairs
  blocked_alike =
      areas_alike layout past h w parts (lies_in_old pair h.segs.blocks)
      ∙ same_tests (list_any (lies_in_old pair h.segs.blocks) (area_words w)) (is_blocked w pairs) to from
    where
      to : list_any (lies_in_old pair h.segs.blocks) (area_words w) ≡ true → is_blocked w pairs ≡ true
      to e =
          let x = any_found (lies_in_old pair h.segs.blocks) (area_words w) e in
          let id = lies_found x.1 x.3 in
          let p = any_found (λ (p : TransformPair). p.old == id.0) pairs id.1 in
          let same : (p.1).old ≡ id.0 = eqb-true (p.1).old id.0 p.3 in
          any_there (λ (p : TransformPair). has_area_word w p.old) pairs p.0 p.1 p.2
          (ap (has_area_word w) same ∙ any_there (λ word. lies_in w word id.0) (area_words w) x.0 x.1 x.2 id.2)

      from : is_blocked w pairs ≡ true → list_any (lies_in_old pair h.segs.blocks) (area_words w) ≡ true
      from e =
          let p = any_found (λ (p : TransformPair). has_area_word w p.old) pairs e in
          let x = any_found (λ word. lies_in w word (p.1).old) (area_words w) p.3 in
          any_there (lies_in_old pair h.segs.blocks) (area_words w) x.0 x.1 x.2
          (old_lies x.1 (p.1).old
          (any_there (λ (r : TransformPair). r.old == (p.1).old) pairs p.0 p.1 p.2 (eq-eqb (p.1).old (p.1).old refl)) x.3)
