-- What the roots of a heap at rest hold, as a flip of everything finds it: the tables in their order have the slots of the world's, and
-- words of areas are those that the world shows.
use Rattle.mps_laws.proofs.Sound.HeldIds.{AreHeld}
use Rattle.mps_refinement.proofs.Parts.Resting.{registered_at_rest}
use Rattle.std.proofs.Common.{◌≡◌, ◌∙◌, ℕ, zero, suc, ◌+◌, ◌<◌, Bool, true, false, refl, sym, ap, subst, List, [], ◌∷◌, ◌++◌, length, map, Option, Some, None, IsSome, inl, inr, arith}
use Rattle.std.proofs.lemmas.List.{length-map, map-append}
use Rattle.std.proofs.lemmas.List.Folds.{flat_map-map}
use Rattle.std.proofs.lemmas.Bool.{false≢true}
use Rattle.std.proofs.lemmas.Option.{none-some, same_Some}
use Rattle.std.specs.Prelude.{slice_get, slice_index_or}
use Rattle.std.specs.List.{flat_map}
use Rattle.std.specs.Option.{option_map_or}
use Rattle.mps_base.specs.Address.{Address, Id}
use Rattle.mps_format.specs.Layout.{Layout}
use Rattle.mps_model.specs.Effect.{Everything}
use Rattle.mps_model.specs.Graph.{AreaWord, PlainWord, Hold, Slots, contains, entries, entry_at, slots_of}
use Rattle.mps_model.specs.World.{World, area_words, is_live, shown_word, shown_words}
use Rattle.mps_root.specs.State.{items_of, kept}
use Rattle.mps_root.specs.declared.roots.Stored.{Stored}
use Rattle.mps_abstract.proofs.Lists.{contains_append, contains_left, contains_right}
use Rattle.mps_abstract.specs.Collecting.{Collecting}
use Rattle.mps_abstract.specs.FlipLaws.{collecting_after_flip}
use Rattle.mps_laws.proofs.Sound.HeldIds.{All}
use Rattle.mps_laws.proofs.Lookups.{entry_is_there}
use Rattle.mps_laws.proofs.Sound.SoundGraph.{IsSoundGraph, PassesOrNull, all-at, auto, entry-passes}
use Rattle.mps_heap_spec.specs.State.{HeapState}
use Rattle.mps_trace_laws.specs.Nails.Nailed.{AreWordsShown, words_of_areas}
use Rattle.mps_trace_laws.specs.Roots.Rows.{AreHeldAtFlip, HoldsAtFlip, WasAt}
use Rattle.mps_trace_laws.specs.Roots.Tables.{AreTablesHeld}
use Rattle.mps_trace_laws.specs.Begin.Begun.{AreRootsHeld}
use Rattle.mps_refinement.specs.Numbering.{numbers_from}
use Rattle.mps_refinement.specs.StandsFor.{AreParts, Past, address_of_id, address_of_target, stored_word, time_at_rest}
use Rattle.mps_refinement.proofs.Lookups.Found.{some_there}
use Rattle.mps_refinement.proofs.Lookups.ManualBlocks.{passes_there}
use Rattle.mps_refinement.proofs.Parts.Ordering.{all_in_order, ordered_apart}
use Rattle.mps_refinement.proofs.Collect.SameAddresses.{has_entry}

-- ---- tables in order

-- the slots of the table with this number, none where it is gone
abbrev pub slots_under : (tables : List (Option Slots)) → (number : ℕ) → Slots
slots_under tables number = option_map_or (λ slots. slots) (entry_at tables number) []

-- those of all tables, in the order of these keys
abbrev pub rows_in_order : (number : ℕ → ℕ) → (order : List ℕ) → (tables : List (Option Slots)) → List Slots
rows_in_order number order tables = map (λ key. slots_under tables (number key)) order

-- what stands at an index of a mapped list
item_at : {X : Type 0} (f : X → ℕ) (xs : List X) (i : ℕ) (x : X) → slice_get xs i ≡ Some x → slice_index_or (map f xs) i 0 ≡ f x
item_at f [] i x e = absurd (none-some x e)
item_at f (y ∷ ys) zero x e = ap f (same_Some y x e)
item_at f (y ∷ ys) (suc i) x e = item_at f ys i x e

row_at : {X : Type 0} (f : ℕ → X) (keys : List ℕ) (n : ℕ) (row : X) → slice_get (map f keys) n ≡ Some row
    → (n < length keys) × (f (slice_index_or keys n 0) ≡ row)
row_at f [] n row e = absurd (none-some row e)
row_at f (k ∷ keys) zero row e = (omega arith, same_Some (f k) row e)
row_at f (k ∷ keys) (suc n) row e = let rest = row_at f keys n row e in (let low = rest.0 in omega (arith, low), rest.1)

entries-append : (xs ys : List (Option ℕ)) → entries (xs ++ ys) ≡ entries xs ++ entries ys
entries-append [] ys = refl
entries-append (None ∷ xs) ys = entries-append xs ys
entries-append (Some x ∷ xs) ys = ap (λ rest. x ∷ rest) (entries-append xs ys)

entries_of_rows : (rows : List Slots) → entries (flat_map (λ row. row) rows) ≡ flat_map entries rows
entries_of_rows [] = refl
entries_of_rows (row ∷ rows) =
    entries-append row (flat_map (λ row. row) rows) ∙ ap (λ rest. entries row ++ rest) (entries_of_rows rows)

-- what is there under the numbers of all entries is all that there is
numbers_cover : (f : ℕ → List ℕ) (first : ℕ) (tables : List (Option Slots))
    → ((m : ℕ) (slots : Slots) → entry_at tables m ≡ Some slots → f (first + m) ≡ entries slots)
    → flat_map f (numbers_from first tables) ≡ flat_map slots_of tables
numbers_cover f first [] each = refl
numbers_cover f first (None ∷ tables) each =
    numbers_cover f (first + 1) tables (λ m slots e.
    ap f (let z : (first + 1) + m ≡ first + suc m = omega arith in z) ∙ each (suc m) slots e)
numbers_cover f first (Some slots ∷ tables) each =
    ap (λ xs. xs ++ flat_map f (numbers_from (first + 1) tables))
    (ap f (let z : first ≡ first + 0 = omega arith in z) ∙ each zero slots refl)
    ∙ ap (λ ys. entries slots ++ ys) (numbers_cover f (first + 1) tables (λ m slots e.
    ap f (let z : (first + 1) + m ≡ first + suc m = omega arith in z) ∙ each (suc m) slots e))

pub rows_are_all : (number : ℕ → ℕ) (order : List ℕ) (tables : List (Option Slots)) → map number order ≡ numbers_from 0 tables
    → entries (flat_map (λ row. row) (rows_in_order number order tables)) ≡ flat_map slots_of tables
rows_are_all number order tables numbers =
    entries_of_rows (rows_in_order number order tables)
    ∙ flat_map-map entries (λ key. slots_under tables (number key)) order
    ∙ sym (flat_map-map (λ n. entries (slots_under tables n)) number order)
    ∙ ap (flat_map (λ n. entries (slots_under tables n))) numbers
    ∙ numbers_cover (λ n. entries (slots_under tables n)) 0 tables (λ m slots e.
    ap (λ (n : ℕ). entries (slots_under tables n)) (let z : 0 + m ≡ m = omega arith in z)
    ∙ ap (λ o. entries (option_map_or (λ slots. slots) o [])) e)

-- ---- words of areas

abbrev word_of : Stored → ℕ
word_of w = w.word

in_areas : (areas : List (Option (List Stored))) (n : ℕ) → contains (map word_of (words_of_areas areas)) n ≡ true
    → (key : ℕ) × (words : List Stored) × (kept areas key ≡ Some words) × (contains (map word_of words) n ≡ true)
in_areas [] n is = absurd (false≢true is)
in_areas (None ∷ areas) n is = let rest = in_areas areas n is in (suc rest.0, rest.1, rest.2, rest.3)
in_areas (Some words ∷ areas) n is =
    elim (contains_append (map word_of words) (map word_of (words_of_areas areas)) n
    (subst (λ (xs : List ℕ). contains xs n ≡ true) (map-append word_of words (words_of_areas areas)) is)) [
      | inl here ↦ (zero, words, refl, here)
      | inr later ↦ let rest = in_areas areas n later in (suc rest.0, rest.1, rest.2, rest.3)
    ]

of_areas : (areas : List (Option (List Stored))) (n key : ℕ) (words : List Stored) → kept areas key ≡ Some words
    → contains (map word_of words) n ≡ true → contains (map word_of (words_of_areas areas)) n ≡ true
of_areas [] n key words e is = absurd (none-some words e)
of_areas (None ∷ areas) n zero words e is = absurd (none-some words e)
of_areas (None ∷ areas) n (suc key) words e is = of_areas areas n key words e is
of_areas (Some first ∷ areas) n zero words e is =
    subst (λ (xs : List ℕ). contains xs n ≡ true) (sym (map-append word_of first (words_of_areas areas)))
    (contains_left (map word_of first) (map word_of (words_of_areas areas)) n
    (subst (λ (ws : List Stored). contains (map word_of ws) n ≡ true) (sym (same_Some first words e)) is))
of_areas (Some first ∷ areas) n (suc key) words e is =
    subst (λ (xs : List ℕ). contains xs n ≡ true) (sym (map-append word_of first (words_of_areas areas)))
    (contains_right (map word_of first) (map word_of (words_of_areas areas)) n (of_areas areas n key words e is))

-- an entry that has one of what all entries have
entry_with : {A : Type 0} (ids_of : A → List ℕ) (all_of : Option A → List ℕ) → ((a : A) → all_of (Some a) ≡ ids_of a) → (all_of None ≡ [])
    → (rows : List (Option A)) (n : ℕ) → contains (flat_map all_of rows) n ≡ true
    → (m : ℕ) × (a : A) × (entry_at rows m ≡ Some a) × (contains (ids_of a) n ≡ true)
entry_with ids_of all_of some none [] n is = absurd (false≢true is)
entry_with ids_of all_of some none (row ∷ rows) n is =
    elim (contains_append (all_of row) (flat_map all_of rows) n is) [
      | inl here ↦ of_row row refl here
      | inr later ↦ let rest = entry_with ids_of all_of some none rows n later in (suc rest.0, rest.1, rest.2, rest.3)
    ]
  where
    of_row : (o : Option _) → row ≡ o → contains (all_of o) n ≡ true
        → (m : ℕ) × (a : _) × (entry_at (row ∷ rows) m ≡ Some a) × (contains (ids_of a) n ≡ true)
    of_row None e here = absurd (false≢true (sym (ap (λ (xs : List ℕ). contains xs n) none) ∙ here))
    of_row (Some a) e here = (zero, a, e, sym (ap (λ (xs : List ℕ). contains xs n) (some a)) ∙ here)

-- what is stored shows what the model shows
words_alike : (w : World) (words : List AreaWord) → map word_of (map (stored_word w.addresses) words) ≡ map (shown_word w) words
words_alike w [] = refl
words_alike w (PlainWord number ∷ words) = ap (λ rest. number ∷ rest) (words_alike w words)
words_alike w (Hold id offset ∷ words) = ap (λ rest. shown_word w (Hold id offset) ∷ rest) (words_alike w words)

both_ways : (a b : Bool) → (a ≡ true → b ≡ true) → (b ≡ true → a ≡ true) → a ≡ b
both_ways true b there back = sym (there refl)
both_ways false true there back = back refl
both_ways false false there back = refl

-- ---- a heap at rest

module _ {F : Type 0} (layout : F → Layout) (past : Past) (h : HeapState F) (w : World) (parts : AreParts layout past h w)
    (sound : IsSoundGraph w) (live_held : AreHeld (is_live w) w.graph) where
  abbrev y : Collecting
  y = collecting_after_flip w Everything []

  abbrev pub rows : List Slots
  rows = rows_in_order past.table_number h.roots.order w.graph.tables

  -- the address of what a reference leads to is where that was at the flip
  held : (target : Option Id) → PassesOrNull (is_live w) target → PassesOrNull (auto w) target
      → HoldsAtFlip w.addresses y (address_of_target w.addresses target) target
  held None live automatic = refl
  held (Some id) live automatic =
      let at = some_there (entry_at w.addresses id) live in
      let object = passes_there Rattle.mps_model.specs.Graph.is_automatic (slice_get w.graph.objects id) automatic in
      subst (λ (a : Address). WasAt w.addresses y a id) (sym (ap (λ (o : Option Address). option_map_or (λ a. a) o 0) at.1)) (record {
        positive = (parts.image.placed.address id at.0 at.1).not_null;
        was = at.1;
        now = at.0;
        there = at.1;
        object = object.0;
        has = object.1;
        automatic = object.2;
      })

  held_slots : (slots : List Address) (targets : Slots) → slots ≡ map (address_of_target w.addresses) targets
      → All (is_live w) (entries targets) → All (auto w) (entries targets) → AreHeldAtFlip w.addresses y slots targets
  held_slots slots targets same live automatic = subst (λ xs. AreHeldAtFlip w.addresses y xs targets) (sym same) (record {
    long = sym (length-map targets (address_of_target w.addresses));
    each = λ i target there.
        subst (λ (a : Address). HoldsAtFlip w.addresses y a target) (sym (item_at (address_of_target w.addresses) targets i target there))
        (held target (entry-passes (is_live w) targets i target live there) (entry-passes (auto w) targets i target automatic there));
  })

  -- ---- tables

  table_held : (key : ℕ) → IsSome (kept h.roots.tables key)
      → AreHeldAtFlip w.addresses y (items_of h.roots.tables key) (slots_under w.graph.tables (past.table_number key))
  table_held key some =
      let items = some_there (kept h.roots.tables key) some in
      let found = parts.tables.there key items.0 items.1 in
      let there = entry_is_there w.graph.tables (past.table_number key) found.0 found.1 in
      subst (λ (xs : List Address). AreHeldAtFlip w.addresses y xs (slots_under w.graph.tables (past.table_number key)))
      (sym (ap (λ (o : Option (List Address)). option_map_or (λ xs. xs) o []) items.1))
      (subst (λ (ids : Slots). AreHeldAtFlip w.addresses y items.0 ids)
      (sym (ap (λ (o : Option Slots). option_map_or (λ ids. ids) o []) found.1))
      (held_slots items.0 found.0 found.2
      (all-at (is_live w) slots_of w.graph.tables (past.table_number key) (Some found.0) live_held.slots there)
      (all-at (auto w) slots_of w.graph.tables (past.table_number key) (Some found.0) sound.slots there)))

  tables_held : AreTablesHeld w.addresses y h.roots rows
  tables_held = record {
    long = length-map h.roots.order (λ key. slots_under w.graph.tables (past.table_number key));
    each = λ n row e.
        let at = row_at (λ key. slots_under w.graph.tables (past.table_number key)) h.roots.order n row e in
        subst (λ (ids : Slots). AreHeldAtFlip w.addresses y (items_of h.roots.tables (slice_index_or h.roots.order n 0)) ids) at.1
        (table_held (slice_index_or h.roots.order n 0)
        (all_in_order (λ key. IsSome (kept h.roots.tables key)) h.roots.order n at.0 parts.ordered.kept_there));
    apart = ordered_apart parts.ordered;
  }

  -- ---- messages

  all_some : (ids : List Id) → entries (map Some ids) ≡ ids
  all_some [] = refl
  all_some (id ∷ ids) = ap (λ rest. id ∷ rest) (all_some ids)

  targets_some : (ids : List Id) → map (address_of_id w.addresses) ids ≡ map (address_of_target w.addresses) (map Some ids)
  targets_some [] = refl
  targets_some (id ∷ ids) = ap (λ rest. address_of_id w.addresses id ∷ rest) (targets_some ids)

  messages_held : AreHeldAtFlip w.addresses y h.finals.messages (map Some w.graph.messages)
  messages_held =
      held_slots h.finals.messages (map Some w.graph.messages) (parts.messages ∙ targets_some w.graph.messages)
      (subst (λ (ids : List Id). All (is_live w) ids) (sym (all_some w.graph.messages)) live_held.messages)
      (subst (λ (ids : List Id). All (auto w) ids) (sym (all_some w.graph.messages)) sound.messages)

  -- the tables in order, and messages, hold what those of the world do
  pub roots_held : past.time ≡ time_at_rest → AreRootsHeld w h.roots h.finals rows
  roots_held time = record {
    tables = tables_held;
    messages = messages_held;
    all = rows_are_all past.table_number h.roots.order w.graph.tables parts.ordered.numbers;
    waiting = ap (λ (xs : List Address). length xs) parts.messages ∙ length-map w.graph.messages (address_of_id w.addresses);
    registered = registered_at_rest layout past h w parts time;
  }

  -- ---- words of areas

  shown : (n : ℕ) → contains (map word_of (words_of_areas h.roots.areas)) n ≡ true → contains (area_words w) n ≡ true
  shown n is =
      let own = in_areas h.roots.areas n is in
      let found = parts.areas.there own.0 own.1 own.2 in
      has_entry (shown_words w) w.graph.areas (past.area_number own.0) found.0 n found.1
      (subst (λ (xs : List ℕ). contains xs n ≡ true) (ap (map word_of) found.2 ∙ words_alike w found.0) own.3)

  stored : (n : ℕ) → contains (area_words w) n ≡ true → contains (map word_of (words_of_areas h.roots.areas)) n ≡ true
  stored n is =
      let own = entry_with (map (shown_word w)) (shown_words w) (λ words. refl) refl w.graph.areas n is in
      let key = parts.areas.complete own.0 own.1 own.2 in
      let found = parts.areas.there key.key key.value key.there in
      let same : found.0 ≡ own.1 =
      same_Some found.0 own.1 (sym found.1 ∙ ap (entry_at w.graph.areas) key.numbered ∙ own.2) in
      of_areas h.roots.areas n key.key key.value key.there
      (subst (λ (xs : List ℕ). contains xs n ≡ true)
      (sym (ap (map word_of) found.2 ∙ words_alike w found.0 ∙ ap (map (shown_word w)) same)) own.3)

  -- the words of areas are those that the world shows
  pub words_shown : AreWordsShown (words_of_areas h.roots.areas) (area_words w)
  words_shown n =
      both_ways (contains (map word_of (words_of_areas h.roots.areas)) n) (contains (area_words w) n) (shown n) (stored n)
