-- One object more: what is held still has the addresses of what it refers to.
use Rattle.std.proofs.Common.{◌≡◌, ◌∙◌, ℕ, ◌+◌, Bool, true, refl, sym, ap, List, [], ◌∷◌, length, map, Option, Some, None, is_some}
use Rattle.std.proofs.lemmas.Bool.{and_parts}
use Rattle.std.specs.List.{flat_map, list_all}
use Rattle.std.specs.Option.{option_map_or}
use Rattle.mps_base.specs.Address.{Address, Id}
use Rattle.mps_laws.proofs.Sound.HeldIds.{All, all_parts}
use Rattle.mps_laws.proofs.Lookups.{entry_at-at_last, entry_at-last, entry_is_there, entry_within}
use Rattle.mps_laws.proofs.Sound.SoundGraph.{all-at}
use Rattle.mps_model.specs.Graph.{AreaWord, PlainWord, Hold, Slots, entries, entry_at, held_by_word, holds_of, slots_of, with_last}
use Rattle.mps_refinement.specs.Numbering.{AreNumbered}
use Rattle.mps_refinement.specs.StandsFor.{AreSlots, AreWords, address_of_id, address_of_target, stored_word}
use Rattle.mps_refinement.proofs.Lookups.Found.{some_there}
use Rattle.mps_refinement.proofs.Parts.Numbering.{fitting_there}

module _ (addresses : List (Option Address)) (at : Address) where
  abbrev pub more : List (Option Address)
  more = with_last addresses (Some at)

  abbrev pub lives : Id → Bool
  lives id = is_some (entry_at addresses id)

  -- what lived has its address still
  pub address_still : (id : Id) → lives id ≡ true → entry_at more id ≡ entry_at addresses id
  address_still id live =
      let a = some_there (entry_at addresses id) live in
      entry_at-last addresses (Some at) id (entry_within addresses id a.0 a.1)

  pub new_address : entry_at more (length addresses) ≡ Some at
  new_address = entry_at-at_last addresses (Some at)

  pub id_still : (id : Id) → lives id ≡ true → address_of_id more id ≡ address_of_id addresses id
  id_still id live = ap (λ o. option_map_or (λ (a : Address). a) o 0) (address_still id live)

  -- slots and places
  pub slots_still : (ids : Slots) → All lives (entries ids) → map (address_of_target more) ids ≡ map (address_of_target addresses) ids
  slots_still [] all = refl
  slots_still (None ∷ ids) all = ap (λ xs. 0 ∷ xs) (slots_still ids all)
  slots_still (Some id ∷ ids) all =
      let parts = and_parts (lives id) (list_all lives (entries ids)) all in
      ap (λ x. x ∷ map (address_of_target more) ids) (id_still id parts.0)
      ∙ ap (λ xs. address_of_id addresses id ∷ xs) (slots_still ids parts.1)

  -- words of areas
  pub words_still : (words : List AreaWord) → All lives (entries (map held_by_word words))
      → map (stored_word more) words ≡ map (stored_word addresses) words
  words_still [] all = refl
  words_still (PlainWord number ∷ words) all = ap (λ xs. stored_word addresses (PlainWord number) ∷ xs) (words_still words all)
  words_still (Hold id offset ∷ words) all =
      let parts = and_parts (lives id) (list_all lives (entries (map held_by_word words))) all in
      ap (λ o. record { word = option_map_or (λ (a : Address). a + offset) o 0; holds = true } ∷ map (stored_word more) words)
      (address_still id parts.0)
      ∙ ap (λ xs. stored_word addresses (Hold id offset) ∷ xs) (words_still words parts.1)

  -- registrations and messages
  pub ids_still : (ids : List Id) → All lives ids → map (address_of_id more) ids ≡ map (address_of_id addresses) ids
  ids_still [] all = refl
  ids_still (id ∷ ids) all =
      let parts = and_parts (lives id) (list_all lives ids) all in
      ap (λ x. x ∷ map (address_of_id more) ids) (id_still id parts.0)
      ∙ ap (λ xs. address_of_id addresses id ∷ xs) (ids_still ids parts.1)

  -- tables of blocks
  pub blocks_still : (blocks : List Slots) → All lives (flat_map entries blocks)
      → map (map (address_of_target more)) blocks ≡ map (map (address_of_target addresses)) blocks
  blocks_still [] all = refl
  blocks_still (ids ∷ blocks) all =
      let parts = all_parts lives (entries ids) (flat_map entries blocks) all in
      ap (λ x. x ∷ map (map (address_of_target more)) blocks) (slots_still ids parts.0)
      ∙ ap (λ xs. map (address_of_target addresses) ids ∷ xs) (blocks_still blocks parts.1)

  -- tables and areas
  pub tables_still : {number : ℕ → ℕ} {kept : ℕ → Option (List Address)} (tables : List (Option Slots)) → All lives
      (flat_map slots_of tables)
      → AreNumbered (AreSlots addresses) number kept tables → AreNumbered (AreSlots more) number kept tables
  tables_still tables all are =
      fitting_there are (λ n slots ids e same.
      same ∙ sym (slots_still ids (all-at lives slots_of tables n (Some ids) all (entry_is_there tables n ids e))))

  pub areas_still : {number : ℕ → ℕ} {kept : ℕ → Option (List Rattle.mps_root.specs.declared.roots.Stored.Stored)}
      (areas : List (Option (List AreaWord))) → All lives (flat_map holds_of areas)
      → AreNumbered (AreWords addresses) number kept areas → AreNumbered (AreWords more) number kept areas
  areas_still areas all are =
      fitting_there are (λ n stored words e same.
      same ∙ sym (words_still words (all-at lives holds_of areas n (Some words) all (entry_is_there areas n words e))))
