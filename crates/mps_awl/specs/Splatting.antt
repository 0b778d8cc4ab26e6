-- A weak reference that becomes null.
use Rattle.std.specs.Prelude.{◌≡◌, ℕ, ◌+◌, ◌%◌, [], ◌∷◌, slice_index, slice_set, refl}
use Rattle.mps_base.specs.Address.{Address, word_of}
use Rattle.mps_seg.specs.Segs.{SegsState, new_segments}

-- the tag of a reference: its low three bits
abbrev pub tag_of : (word : ℕ) → ℕ
tag_of word = word % 8

-- the segments once the reference in a cell of the block at an address is null. It keeps its tag
abbrev pub splatted : SegsState → (holder : Address) → (cell : ℕ) → SegsState
splatted s holder cell = record s {
  words = slice_set s.words (word_of holder + cell) (tag_of (slice_index s.words (word_of holder + cell)));
}

-- ---- vectors

-- three words, of which the last is a reference with tag 3
abbrev three_words : SegsState
three_words = record (new_segments 1 1) { words = 7 ∷ 0x301 ∷ 0x100b ∷ [] }

pub a_reference_keeps_its_tag : (splatted three_words 8 1).words ≡ 7 ∷ 0x301 ∷ 3 ∷ []
a_reference_keeps_its_tag = refl

pub a_null_reference_stays : (splatted (record three_words { words = 7 ∷ 0x301 ∷ 3 ∷ [] }) 8 1).words ≡ 7 ∷ 0x301 ∷ 3 ∷ []
a_null_reference_stays = refl
