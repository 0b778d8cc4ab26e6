-- A table of words as the list of its entries. Each place is a word: its address is eight times the number of the place.
use Rattle.std.specs.Prelude.{◌≡◌, ℕ, ◌+◌, ◌*◌, Option, Some, None, cond, List, [], ◌∷◌, nat_eq, get_or, refl}

-- the entry of one place before others
abbrev pub with_word : {X : Type 0} → (at : ℕ) → Option X → List (ℕ × X) → List (ℕ × X)
with_word at None entries = entries
with_word at (Some x) entries = (at, x) ∷ entries

-- the entries of places that begin at this word
abbrev pub words_from : {X : Type 0} → (word : ℕ) → List (Option X) → List (ℕ × X)
words_from word [] = []
words_from word (place ∷ places) = with_word (8 * word) place (words_from (word + 1) places)

-- the entries of a table
abbrev pub words_of : {X : Type 0} → List (Option X) → List (ℕ × X)
words_of places = words_from 0 places

-- what a table has at a word
abbrev pub at_word : {X : Type 0} → List (Option X) → (word : ℕ) → Option X
at_word places word = get_or places word None

-- the new table has this at a word, and at each other what the old one has
abbrev pub ChangesWord : {X : Type 0} → (old new : List (Option X)) → (word : ℕ) → Option X → Type 0
ChangesWord old new word x = (q : ℕ) → at_word new q ≡ cond (nat_eq word q) x (at_word old q)

pub second_word_is_at_eight : words_of {X = ℕ} (None ∷ Some 5 ∷ []) ≡ (8, 5) ∷ []
second_word_is_at_eight = refl
