-- The words of an arena as its memory has them: a prefix of them is stored, and those after it are 0.
use Rattle.std.specs.Prelude.{ℕ, ◌+◌, ◌-◌, ◌≡◌, max, List, [], ◌∷◌, ◌++◌, length, replicate, slice_set, refl}
use Rattle.mps_arena.specs.Arena.{copied_words}

-- all words, and how many of them, from word 0 on, are stored
pub record StoredWords : Type 0 where
  pub words : List ℕ
  pub stored : ℕ

-- `size` words, of which those after the stored ones are 0
unfoldable pub padded_words : (size : ℕ) → List ℕ → List ℕ
padded_words size stored = stored ++ replicate (size - length stored) 0

-- what a caller sees of memory for `size` words that has stored some
abbrev pub memory_with : (size : ℕ) → List ℕ → StoredWords
memory_with size stored = record { words = padded_words size stored; stored = length stored }

-- after a word was written: it is stored, and so are the words before it
abbrev pub with_stored_word : StoredWords → (word value : ℕ) → StoredWords
with_stored_word memory word value = record { words = slice_set memory.words word value; stored = max memory.stored (word + 1) }

-- after n words were copied: all of them are stored, at both places, and so are the words before them
abbrev pub with_copy : StoredWords → (from to n : ℕ) → StoredWords
with_copy memory from to n = record { words = copied_words memory.words from to n; stored = max memory.stored (max from to + n) }

two_are_stored : padded_words 4 (7 ∷ 8 ∷ []) ≡ 7 ∷ 8 ∷ 0 ∷ 0 ∷ []
unfolding padded_words
two_are_stored = refl

none_is_stored : padded_words 2 [] ≡ 0 ∷ 0 ∷ []
unfolding padded_words
none_is_stored = refl

all_are_stored : padded_words 2 (7 ∷ 8 ∷ []) ≡ 7 ∷ 8 ∷ []
unfolding padded_words
all_are_stored = refl
