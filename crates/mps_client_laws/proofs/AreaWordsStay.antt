-- After the flip of a `collect` area words show what they showed, and lie in the objects in which they lay.
use Rattle.std.proofs.Common.{◌≡◌, ◌⊎◌, inl, inr, ℕ, zero, suc, ◌+◌, ◌*◌, Bool, true, false, refl, sym, ◌∙◌, ap, subst, List, [], ◌∷◌, ◌++◌, map, Option, Some, None, arith}
use Rattle.std.proofs.lemmas.Bool.{true≢false, false≢true, and_parts, and_from, cases_Bool, eq-eqb, eqb-true, le-leb, lt-ltb, ltb-true, or_cases, or_left, or_right}
use Rattle.std.proofs.lemmas.List.Folds.{list_any-append}
use Rattle.std.proofs.lemmas.Option.{slice_get-map}
use Rattle.std.specs.Prelude.{◌||◌, ◌&&◌, ◌==◌, nat_le, nat_lt, if◌then◌else◌, is_some, option_map, slice_get}
use Rattle.std.specs.Option.{option_map_or}
use Rattle.std.specs.List.{list_all, list_any, flat_map}
use Rattle.mps_base.specs.declared.moves.Move.{Move}
use Rattle.mps_model.specs.Graph.{Object, AreaWord, PlainWord, Hold, contains, entries, entry_at, held_by_word, holds_of, ids_in_holds, ids_in_reservations, ids_in_slots, is_automatic, object_at, size_of}
use Rattle.mps_model.specs.declared.call.Call.TheVariants as call
use Rattle.mps_model.specs.Collection.{Collection}
use Rattle.mps_model.specs.World.{World, Pool, address_of, area_words, has_area_word, is_copying_kind, is_copying_object, is_copying_pool, is_live, is_live_and, is_word_in, lies_in, shown_word, shown_words, words_of}
use Rattle.mps_model.specs.Effect.{Everything, collection_at_flip, condemned_zones, world_after_moves, world_flipped}
use Rattle.mps_model.specs.Flip.{world_at_flip}
use Rattle.mps_laws.proofs.LeftByActs.{owners}
use Rattle.mps_laws.proofs.Reading.{contains-append_left, contains-append_right}
use Rattle.mps_laws.proofs.SameArena.{moved_alone}
use Rattle.mps_laws.proofs.Lookups.{entry_within}
use Rattle.mps_laws.proofs.Positions.OwnMoves.{all_moved_legally}
use Rattle.mps_laws.proofs.Positions.Places.{IsUnmovable, settled, not_condemned, moves_put}
use Rattle.mps_laws.proofs.Sound.SoundGraph.{IsSoundGraph, auto, is_sound_word}
use Rattle.mps_client_laws.specs.Objects.{Identity, identity_of}
use Rattle.mps_client_laws.proofs.Collecting.{moves_roots}
use Rattle.mps_client_laws.proofs.CollectFlips.{live_before}
use Rattle.mps_client_laws.proofs.Contained.{contains_filtered, either_or}
use Rattle.mps_client_laws.proofs.Completed.{IsCompleted}
use Rattle.mps_client_laws.proofs.WritesOfMoves.{moves_leave_objects}

-- ---- a word that holds an object lies in it

-- the word of a hold lies in the block, by what its offset is
in_it : (copying : Bool) (at words offset : ℕ) → (if copying then nat_lt offset (8 * words) else offset == 0) ≡ true
    → is_word_in copying at words (at + offset) ≡ true
in_it true at words offset h =
    let fits = ltb-true offset (8 * words) h in
    and_from (nat_le at (at + offset)) (nat_lt (at + offset) (at + 8 * words)) (le-leb at (at + offset) (omega arith))
    (lt-ltb (at + offset) (at + 8 * words) (omega (arith, fits)))
in_it false at words offset h =
    let none = eqb-true offset 0 h in eq-eqb (at + offset) at (omega (arith, none))

module _ (w : World) (id : ℕ) (live : is_live w id ≡ true) where
  pub hold_lies_in : (offset : ℕ) → is_sound_word w (Hold id offset) ≡ true → lies_in w (shown_word w (Hold id offset)) id ≡ true
  hold_lies_in offset sound =
      let parts = and_parts (auto w id) (if is_copying_object w id then nat_lt offset (8 * words_of w id) else offset == 0) sound in
      and_from (auto w id) (is_live_and (λ at. is_word_in (is_copying_object w id) at (words_of w id)
      (shown_word w (Hold id offset))) w id) parts.0
      (of_address (entry_at w.addresses id) live parts.1)
    where
      of_address : (o : Option ℕ) → is_some o ≡ true
          → (if is_copying_object w id then nat_lt offset (8 * words_of w id) else offset == 0) ≡ true
          → option_map_or (λ at. is_word_in (is_copying_object w id) at (words_of w id) (option_map_or (λ a. a + offset) o 0)) o false
          ≡ true
      of_address None live fits = absurd (false≢true live)
      of_address (Some at) live fits = in_it (is_copying_object w id) at (words_of w id) offset fits

  -- so one of some words lies in each object that they hold
  one_lies_in : (words : List AreaWord) → list_all (is_sound_word w) words ≡ true → contains (entries (map held_by_word words)) id ≡ true
      → list_any (λ word. lies_in w word id) (map (shown_word w) words) ≡ true
  one_lies_in [] sound h = absurd (false≢true h)
  one_lies_in (PlainWord number ∷ words) sound h =
      or_right (lies_in w number id) (list_any (λ word. lies_in w word id) (map (shown_word w) words)) (one_lies_in words sound h)
  one_lies_in (Hold other offset ∷ words) sound h =
      let parts = and_parts (is_sound_word w (Hold other offset)) (list_all (is_sound_word w) words) sound in
      elim (or_cases (other == id) (contains (entries (map held_by_word words)) id) h) [
        | inl same ↦
            or_left (lies_in w (shown_word w (Hold other offset)) id) (list_any (λ word. lies_in w word id) (map (shown_word w) words))
            (subst (λ (n : ℕ). lies_in w (shown_word w (Hold n offset)) id ≡ true) (sym (eqb-true other id same))
            (hold_lies_in offset
            (subst (λ (n : ℕ). is_sound_word w (Hold n offset) ≡ true) (eqb-true other id same) parts.0)))
        | inr later ↦
            or_right (lies_in w (shown_word w (Hold other offset)) id) (list_any (λ word. lies_in w word id) (map (shown_word w) words))
            (one_lies_in words parts.1 later)
      ]

  in_areas : (areas : List (Option (List AreaWord)))
      → ((n : ℕ) (words : List AreaWord) → entry_at areas n ≡ Some words → list_all (is_sound_word w) words ≡ true)
      → contains (flat_map holds_of areas) id ≡ true
      → list_any (λ word. lies_in w word id) (flat_map (shown_words w) areas) ≡ true
  in_areas [] sound h = absurd (false≢true h)
  in_areas (None ∷ areas) sound h = in_areas areas (λ n words there. sound (suc n) words there) h
  in_areas (Some words ∷ areas) sound h =
      list_any-append (λ word. lies_in w word id) (map (shown_word w) words) (flat_map (shown_words w) areas)
      ∙ elim (either_or (entries (map held_by_word words)) (flat_map holds_of areas) id h) [
        | inl here ↦
            or_left (list_any (λ word. lies_in w word id) (map (shown_word w) words))
            (list_any (λ word. lies_in w word id) (flat_map (shown_words w) areas)) (one_lies_in words (sound zero words refl) here)
        | inr later ↦
            or_right (list_any (λ word. lies_in w word id) (map (shown_word w) words))
            (list_any (λ word. lies_in w word id) (flat_map (shown_words w) areas))
            (in_areas areas (λ n words there. sound (suc n) words there) later)
      ]

  pub held_has_area_word : IsSoundGraph w → contains (ids_in_holds w.graph) id ≡ true → has_area_word w id ≡ true
  held_has_area_word s h = in_areas w.graph.areas s.words h

-- ---- what words show

same_shown : (v u : World) (words : List AreaWord)
    → ((id : ℕ) → contains (entries (map held_by_word words)) id ≡ true → address_of u id ≡ address_of v id)
    → map (shown_word u) words ≡ map (shown_word v) words
same_shown v u [] same = refl
same_shown v u (PlainWord number ∷ words) same = ap (λ ns. number ∷ ns) (same_shown v u words same)
same_shown v u (Hold id offset ∷ words) same =
    ap (λ o. option_map_or (λ at. at + offset) o 0 ∷ map (shown_word u) words)
    (same id (or_left (id == id) (contains (entries (map held_by_word words)) id) (eq-eqb id id refl)))
    ∙ ap (λ ns. shown_word v (Hold id offset) ∷ ns)
    (same_shown v u words (λ n h. same n (or_right (id == n) (contains (entries (map held_by_word words)) n) h)))

same_in_areas : (v u : World) (areas : List (Option (List AreaWord)))
    → ((id : ℕ) → contains (flat_map holds_of areas) id ≡ true → address_of u id ≡ address_of v id)
    → flat_map (shown_words u) areas ≡ flat_map (shown_words v) areas
same_in_areas v u [] same = refl
same_in_areas v u (None ∷ areas) same = same_in_areas v u areas same
same_in_areas v u (Some words ∷ areas) same =
    ap (λ ns. ns ++ flat_map (shown_words u) areas)
    (same_shown v u words (λ n h. same n (contains-append_left (entries (map held_by_word words)) (flat_map holds_of areas) n h)))
    ∙ ap (λ ns. map (shown_word v) words ++ ns)
    (same_in_areas v u areas (λ n h. same n (contains-append_right (entries (map held_by_word words)) (flat_map holds_of areas) n h)))

-- what passes one test passes another
passes_too : (test other : ℕ → Bool) → ((n : ℕ) → test n ≡ true → other n ≡ true) → (ns : List ℕ) → list_any test ns ≡ true
    → list_any other ns ≡ true
passes_too test other each [] h = h
passes_too test other each (n ∷ ns) h = elim (or_cases (test n) (list_any test ns) h) [
  | inl here ↦ or_left (other n) (list_any other ns) (each n here)
  | inr later ↦ or_right (other n) (list_any other ns) (passes_too test other each ns later)
]

-- ---- objects keep their kinds and sizes

module _ {A : Type 0} (look : Object → A) (by : Identity → A) (otherwise : A) (each : (o : Object) → look o ≡ by (identity_of o)) where
  pub of_identity : (o : Option Object) → option_map_or look o otherwise ≡ option_map_or by (option_map identity_of o) otherwise
  of_identity None = refl
  of_identity (Some o) = each o

  pub same_by_identity : (these those : List Object) (id : ℕ) → map identity_of these ≡ map identity_of those
      → option_map_or look (slice_get these id) otherwise ≡ option_map_or look (slice_get those id) otherwise
  same_by_identity these those id same =
      of_identity (slice_get these id)
      ∙ ap (λ o. option_map_or by o otherwise)
      (sym (slice_get-map identity_of these id) ∙ ap (λ is. slice_get is id) same ∙ slice_get-map identity_of those id)
      ∙ sym (of_identity (slice_get those id))

-- ---- from the flip to the end

module _ (v : World) (later : List Move) (c : IsCompleted v later) where
  abbrev flipped : World
  flipped = world_at_flip v Everything

  abbrev moved : World
  moved = world_after_moves flipped later

  pub same_pools : moved.pools ≡ flipped.pools
  same_pools = (moved_alone flipped call.Collect later).pools

  abbrev objects : List Object
  objects = moved.graph.objects

  identities : map identity_of objects ≡ map identity_of flipped.graph.objects
  identities = (moves_leave_objects flipped later).identities

  pub same_kind : (id : ℕ) → auto moved id ≡ auto flipped id
  same_kind id =
      same_by_identity is_automatic (λ (i : Identity). i.is_automatic) false (λ o. refl) objects flipped.graph.objects id identities

  pub same_copying : (id : ℕ) → is_copying_object moved id ≡ is_copying_object flipped id
  same_copying id =
      ap (λ ps. option_map_or (λ (o : Object). option_map_or (λ (p : Pool). is_copying_kind p.kind) (slice_get ps o.pool) false)
      (object_at moved.graph id) false) same_pools
      ∙ same_by_identity (λ o. is_copying_pool flipped o.pool) (λ (i : Identity). is_copying_pool flipped i.pool) false (λ o. refl)
      objects flipped.graph.objects id identities

  same_words_of : (id : ℕ) → words_of moved id ≡ words_of flipped id
  same_words_of id =
      same_by_identity size_of (λ (i : Identity). i.size) 0 (λ o. refl) objects flipped.graph.objects id identities

  abbrev begun : Collection
  begun = collection_at_flip (world_flipped v (condemned_zones v Everything)) Everything

  -- an object in which an area word lies can't be moved
  unmovable : (id : ℕ) → has_area_word flipped id ≡ true → IsUnmovable (owners flipped.graph) flipped.pools id begun
  unmovable id word = elim (cases_Bool (contains begun.condemned id)) [
    | inl is ↦
        settled (or_left (contains begun.pinned id) (contains begun.placed id || contains begun.had id)
        (contains_filtered (has_area_word flipped) begun.condemned id is word))
    | inr isnt ↦ not_condemned isnt
  ]

  pub address_stays : (id : ℕ) → has_area_word flipped id ≡ true → is_live moved id ≡ true → address_of moved id ≡ address_of flipped id
  address_stays id word live = of_address (address_of flipped id) refl (live_before id flipped later live)
    where
      at_end : (at : ℕ) → (address_of moved id ≡ Some at) ⊎ (address_of moved id ≡ None) → address_of moved id ≡ Some at
      at_end at (inl there) = there
      at_end at (inr gone) = absurd (true≢false (sym live ∙ ap is_some gone))

      of_address : (o : Option ℕ) → address_of flipped id ≡ o → is_some o ≡ true → address_of moved id ≡ o
      of_address None lies some = absurd (false≢true some)
      of_address (Some at) lies some =
          at_end at
          (moves_put id at flipped later c.no_flip (all_moved_legally flipped c.last later c.legal)
          (record { made = entry_within flipped.addresses id at lies; address = inl lies; unmovable = unmovable id word })).address

  same_areas : moved.graph.areas ≡ flipped.graph.areas
  same_areas = (moves_roots flipped later).areas

  held_stays : (id : ℕ) → contains (ids_in_holds flipped.graph) id ≡ true → address_of moved id ≡ address_of flipped id
  held_stays id held =
      let live : is_live moved id ≡ true =
      c.client id (contains-append_left (ids_in_slots moved.graph ++ ids_in_holds moved.graph ++ moved.graph.messages)
      (ids_in_reservations moved.graph) id
      (contains-append_left (ids_in_slots moved.graph ++ ids_in_holds moved.graph) moved.graph.messages id
      (contains-append_right (ids_in_slots moved.graph) (ids_in_holds moved.graph) id
      (subst (λ areas. contains (flat_map holds_of areas) id ≡ true) (sym same_areas) held)))) in
      address_stays id (held_has_area_word flipped id (live_before id flipped later live) c.sound held) live

  same_area_words : area_words moved ≡ area_words flipped
  same_area_words = ap (flat_map (shown_words moved)) same_areas ∙ same_in_areas flipped moved flipped.graph.areas held_stays

  pub word_stays : (id : ℕ) → has_area_word flipped id ≡ true → is_live moved id ≡ true → has_area_word moved id ≡ true
  word_stays id word live =
      ap (list_any (λ n. lies_in moved n id)) same_area_words
      ∙ passes_too (λ n. lies_in flipped n id) (λ n. lies_in moved n id) (λ n lies. same_in n ∙ lies) (area_words flipped) word
    where
      lies_by : (automatic copying : Bool) (words : ℕ) (address : Option ℕ) (n : ℕ) → Bool
      lies_by automatic copying words address n = automatic && option_map_or (λ at. is_word_in copying at words n) address false

      same_in : (n : ℕ) → lies_in moved n id ≡ lies_in flipped n id
      same_in n =
          ap (λ b. lies_by b (is_copying_object moved id) (words_of moved id) (address_of moved id) n) (same_kind id)
          ∙ ap (λ b. lies_by (auto flipped id) b (words_of moved id) (address_of moved id) n) (same_copying id)
          ∙ ap (λ k. lies_by (auto flipped id) (is_copying_object flipped id) k (address_of moved id) n) (same_words_of id)
          ∙ ap (λ o. lies_by (auto flipped id) (is_copying_object flipped id) (words_of flipped id) o n) (address_stays id word live)
