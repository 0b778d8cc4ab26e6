-- What is stored of roots is the same where what they hold has the same addresses.
use Rattle.std.proofs.Common.{◌≡◌, ◌∙◌, ◌+◌, ℕ, zero, suc, true, refl, sym, ap, List, [], ◌∷◌, map, Option, Some, None}
use Rattle.std.proofs.lemmas.Option.{none-some, same_Some}
use Rattle.std.specs.List.{flat_map}
use Rattle.std.specs.Option.{option_map_or}
use Rattle.mps_base.specs.Address.{Id, Address}
use Rattle.mps_model.specs.Graph.{AreaWord, PlainWord, Hold, Slots, contains, entries, entry_at, held_by_word, holds_of, slots_of}
use Rattle.mps_root.specs.declared.roots.Stored.{Stored}
use Rattle.mps_abstract.proofs.Lists.{contains_here, contains_later, contains_left, contains_right}
use Rattle.mps_refinement.specs.Numbering.{AreNumbered}
use Rattle.mps_refinement.specs.StandsFor.{AreSlots, AreWords, address_of_id, address_of_target, stored_word}
use Rattle.mps_refinement.proofs.Parts.Numbering.{fitting_there}

-- an entry of a list, among all that its entries have
pub has_entry : {A : Type 0} (ids_of : Option A → List ℕ) (rows : List (Option A)) (n : ℕ) (a : A) (id : ℕ) → entry_at rows n ≡ Some a
    → contains (ids_of (Some a)) id ≡ true → contains (flat_map ids_of rows) id ≡ true
has_entry ids_of [] n a id e h = absurd (none-some a e)
has_entry ids_of (None ∷ rows) zero a id e h = absurd (none-some a e)
has_entry ids_of (Some b ∷ rows) zero a id e h =
    contains_left (ids_of (Some b)) (flat_map ids_of rows) id
    (ap (λ (x : _). contains (ids_of (Some x)) id) (same_Some b a e) ∙ h)
has_entry ids_of (row ∷ rows) (suc n) a id e h =
    contains_right (ids_of row) (flat_map ids_of rows) id (has_entry ids_of rows n a id e h)

module _ (before after : List (Option Address)) where
  -- these have the same addresses
  abbrev pub AreSame : List Id → Type 0
  AreSame ids = (id : Id) → contains ids id ≡ true → entry_at after id ≡ entry_at before id

  pub same_slots : (slots : Slots) → AreSame (entries slots) → map (address_of_target before) slots ≡ map (address_of_target after) slots
  same_slots [] same = refl
  same_slots (None ∷ slots) same = ap (λ rest. 0 ∷ rest) (same_slots slots same)
  same_slots (Some id ∷ slots) same =
      ap (λ o. option_map_or (λ at. at) o 0 ∷ map (address_of_target before) slots) (sym (same id (contains_here id (entries slots))))
      ∙ ap (λ rest. address_of_id after id ∷ rest) (same_slots slots (λ n h. same n (contains_later id (entries slots) n h)))

  pub same_words : (words : List AreaWord) → AreSame (entries (map held_by_word words))
      → map (stored_word before) words ≡ map (stored_word after) words
  same_words [] same = refl
  same_words (PlainWord number ∷ words) same = ap (λ rest. stored_word before (PlainWord number) ∷ rest) (same_words words same)
  same_words (Hold id offset ∷ words) same =
      ap (λ o. record { word = option_map_or (λ at. at + offset) o 0; holds = true } ∷ map (stored_word before) words)
      (sym (same id (contains_here id (entries (map held_by_word words)))))
      ∙ ap (λ rest. stored_word after (Hold id offset) ∷ rest)
      (same_words words (λ n h. same n (contains_later id (entries (map held_by_word words)) n h)))

  -- tables of blocks
  pub same_places : (rows : List Slots) → AreSame (flat_map entries rows)
      → map (map (address_of_target before)) rows ≡ map (map (address_of_target after)) rows
  same_places [] same = refl
  same_places (row ∷ rows) same =
      ap (λ r. r ∷ map (map (address_of_target before)) rows)
      (same_slots row (λ n h. same n (contains_left (entries row) (flat_map entries rows) n h)))
      ∙ ap (λ rest. map (address_of_target after) row ∷ rest)
      (same_places rows (λ n h. same n (contains_right (entries row) (flat_map entries rows) n h)))

  -- tables and areas, under their keys
  module _ (number : ℕ → ℕ) where
    pub tables_same : (kept : ℕ → Option (List Address)) (tables : List (Option Slots)) → AreSame (flat_map slots_of tables)
        → AreNumbered (AreSlots before) number kept tables → AreNumbered (AreSlots after) number kept tables
    tables_same kept tables same are = fitting_there are (λ n slots ids there fits.
        fits ∙ same_slots ids (λ id h. same id (has_entry slots_of tables n ids id there h)))

    pub areas_same : (kept : ℕ → Option (List Stored)) (areas : List (Option (List AreaWord))) → AreSame (flat_map holds_of areas)
        → AreNumbered (AreWords before) number kept areas → AreNumbered (AreWords after) number kept areas
    areas_same kept areas same are = fitting_there are (λ n stored words there fits.
        fits ∙ same_words words (λ id h. same id (has_entry holds_of areas n words id there h)))
