-- Rows under the keys of a slab, each seen as the list of its items by `items`.
use Rattle.std.proofs.Common.{ℕ, ◌≡◌, List, [], length, map, get_or, sym, ap, subst, ◌∙◌, ◌<◌, arith}
use Rattle.std.specs.Prelude.{Option, Some, None, slice_set, slice_index_or}
use Rattle.std.specs.Option.{option_map, option_map_or}
use Rattle.std.proofs.Math.ListN.{get_or-map}
use Rattle.std.proofs.lemmas.List.{map-set, length-map, get_or-map as list_get_or-map}
use Rattle.slab.specs.Slab.{Slab, get, Updates}
use Rattle.mps_root.specs.State.{RootsState, IsTableMade, IsAreaMade, kept, Keeps, with_item, items_of}

module _ {A B : Type 0} (items : A → List B) where
  -- the rows of the slots of a slab
  abbrev pub rows : List (Option A) → List (Option (List B))
  rows slots = map (option_map items) slots

  -- what is kept under a key
  pub kept_row : (slots : List (Option A)) (key : ℕ) → kept (rows slots) key ≡ option_map items (get_or slots key None)
  kept_row slots key = get_or-map (option_map items) slots key None

  pub row_made : (old new : Slab A) (key : ℕ) (row : A) → get old key ≡ None → Updates old new key (Some row)
      → Keeps (rows old.slots) (rows new.slots) key (items row)
  row_made old new key row free updates = record {
    free = kept_row old.slots key ∙ ap (λ (o : Option A). option_map items o) free;
    made = kept_row new.slots key ∙ ap (λ (o : Option A). option_map items o) updates.changed;
    others = λ other apart.
        kept_row new.slots other ∙ ap (λ (o : Option A). option_map items o) (updates.others other apart)
        ∙ sym (kept_row old.slots other);
  }

  -- the same, where the room for it was made before
  pub row_made_in_room : (before old new : Slab A) (key : ℕ) (row : A) (made : List B) → old.slots ≡ before.slots → items row ≡ made
      → get old key ≡ None → Updates old new key (Some row) → Keeps (rows before.slots) (rows new.slots) key made
  row_made_in_room before old new key row made same is free updates =
      let P : List (Option A) → Type 0 = λ slots. Keeps (rows slots) (rows new.slots) key (items row) in
      let Q : List B → Type 0 = λ bs. Keeps (rows before.slots) (rows new.slots) key bs in
      subst Q is (subst P same (row_made old new key row free updates))

  pub row_dropped : (slots : List (Option A)) (key : ℕ) → rows (slice_set slots key None) ≡ slice_set (rows slots) key None
  row_dropped slots key = map-set (option_map items) slots key None

  pub row_written : (slots : List (Option A)) (key index : ℕ) (value : B) (old new : A) → get_or slots key None ≡ Some old
      → items new ≡ slice_set (items old) index value
      → rows (slice_set slots key (Some new)) ≡ with_item (rows slots) key index value
  row_written slots key index value old new there is =
      let kept_is : items_of (rows slots) key ≡ items old =
      ap (λ (o : Option (List B)). option_map_or (λ bs. bs) o [])
      (kept_row slots key ∙ ap (λ (o : Option A). option_map items o) there) in
      map-set (option_map items) slots key (Some new)
      ∙ ap (λ (bs : List B). slice_set (rows slots) key (Some bs)) (is ∙ ap (λ (bs : List B). slice_set bs index value) (sym kept_is))

pub table_made_from : {old now new : RootsState} {key n : ℕ} → old ≡ now → IsTableMade old new key n → IsTableMade now new key n
table_made_from {old} {now} {new} {key} {n} same made = let P : RootsState → Type 0 = λ s. IsTableMade s new key n in subst P same made

pub area_made_from : {old now new : RootsState} {key n : ℕ} → old ≡ now → IsAreaMade old new key n → IsAreaMade now new key n
area_made_from {old} {now} {new} {key} {n} same made = let P : RootsState → Type 0 = λ s. IsAreaMade s new key n in subst P same made

-- a place is written, in a list of rows without keys
pub place_written : {A B : Type 0} (items : A → List B) (xs : List A) (number index : ℕ) (value : B) (old new : A)
    → number < length (map items xs)
    → old ≡ get_or xs number old → items new ≡ slice_set (items old) index value
    → map items (slice_set xs number new)
    ≡ slice_set (map items xs) number (slice_set (slice_index_or (map items xs) number []) index value)
place_written {A} {B} items xs number index value old new within there is =
    let kept_is : slice_index_or (map items xs) number [] ≡ items old =
    list_get_or-map items xs number old [] (omega (arith, within, length-map xs items)) ∙ ap items (sym there) in
    map-set items xs number new
    ∙ ap (λ (bs : List B). slice_set (map items xs) number bs) (is ∙ ap (λ (bs : List B). slice_set bs index value) (sym kept_is))
