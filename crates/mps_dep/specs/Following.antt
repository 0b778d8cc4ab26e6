-- What the pairs and the words of the arena are after a move.
use Rattle.std.specs.Prelude.{ℕ, ◌≡◌, ◌+◌, ◌==◌, Bool, false, ◌&&◌, List, [], ◌∷◌, if◌then◌else◌, slice_get, slice_index, slice_set, refl}
use Rattle.std.specs.Option.{option_map_or}
use Rattle.mps_base.specs.Address.{Address, address_of_word, word_of}
use Rattle.mps_base.specs.Run.{Run}
use Rattle.mps_base.specs.declared.moves.Move.{Move}
use Rattle.mps_base.specs.declared.moves.Move.TheVariants.{Splat, Free}
use Rattle.mps_seg.specs.Extents.{run_over}
use Rattle.mps_format.specs.Front.{front_layout}
use Rattle.mps_format.specs.Layout.{Layout}
use Rattle.mps_seg.specs.Segs.{SegsState, new_segments}
use Rattle.mps_dep.specs.declared.dependents.Pair.{Pair}
use Rattle.mps_dep.specs.State.{dependent_of, the_pair, without_address}

-- a block begins at an address
abbrev pub begins_block : List Run → Address → Bool
begins_block blocks at = option_map_or (λ from. address_of_word from == at) (run_over blocks (word_of at)) false

-- this cell is a reference of the block that begins at an address, by the format of its head
abbrev pub has_reference : Layout → SegsState → Address → (cell : ℕ) → Bool
has_reference f s at cell =
    begins_block s.blocks at && option_map_or (λ head. f.is_valid head && f.is_reference head cell) (slice_get s.words (word_of at)) false

-- The words in which a cell of the block at an address has the target null and keeps its tag, where it is a reference of a live block.
abbrev pub nulled : Layout → SegsState → Address → (cell : ℕ) → List ℕ
nulled f s at cell =
    if has_reference f s at cell
    then slice_set s.words (word_of at + cell) (f.retarget (slice_index s.words (word_of at + cell)) 0)
    else s.words

-- The words after a move: where a reference of a holder was cleared, so is that of its dependent.
abbrev pub followed_words : Layout → List Pair → SegsState → Move → List ℕ
followed_words f pairs s (Splat holder cell) = option_map_or (λ at. nulled f s at cell) (dependent_of pairs holder.0) s.words
followed_words f pairs s _ = s.words

-- The pairs after a move: none has a block that was freed.
abbrev pub followed_pairs : List Pair → Move → List Pair
followed_pairs pairs (Free at) = without_address pairs at.0
followed_pairs pairs _ = pairs

-- a block of three words at 8, of which the first after the head is a reference
abbrev example : SegsState
example = record (new_segments 0 0) { words = 0 ∷ 0x100000301 ∷ 13 ∷ 13 ∷ []; blocks = record { from = 1; count = 3 } ∷ [] }

pub a_reference_is_cleared_and_keeps_its_tag : nulled front_layout example 8 1 ≡ 0 ∷ 0x100000301 ∷ 5 ∷ 13 ∷ []
a_reference_is_cleared_and_keeps_its_tag = refl

pub a_number_stays : nulled front_layout example 8 2 ≡ example.words
a_number_stays = refl

pub no_block_begins_inside : nulled front_layout example 16 1 ≡ example.words
no_block_begins_inside = refl

pub a_splat_is_followed : followed_words front_layout (the_pair 40 8 ∷ []) example (Splat (record { 0 = 40 }) 1)
    ≡ 0 ∷ 0x100000301 ∷ 5 ∷ 13 ∷ []
a_splat_is_followed = refl

pub no_holder_no_change : followed_words front_layout (the_pair 40 8 ∷ []) example (Splat (record { 0 = 8 }) 1) ≡ example.words
no_holder_no_change = refl

pub a_free_ends_the_pair : followed_pairs (the_pair 40 8 ∷ []) (Free (record { 0 = 8 })) ≡ []
a_free_ends_the_pair = refl

pub a_splat_ends_none : followed_pairs (the_pair 40 8 ∷ []) (Splat (record { 0 = 40 }) 1) ≡ the_pair 40 8 ∷ []
a_splat_ends_none = refl
