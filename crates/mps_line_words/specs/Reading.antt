-- Readings of the words of a line. A word is read by a function that gives what it writes, if it is in the right form.
use Rattle.std.specs.Prelude.{ℕ, ◌≡◌, if◌then◌else◌, codes, Option, Some, None, option_and_then, option_map, List, [], ◌∷◌, refl}
use Rattle.std.specs.Str.{bytes_eq}
use Rattle.mps_numerals.specs.Decimal.{decimal_number}
use Rattle.mps_line_words.specs.Word.{only_word}

-- the first of two that is there
abbrev pub first_of_two : {A : Type 0} → Option A → Option A → Option A
first_of_two (Some x) other = Some x
first_of_two None other = other

-- both, if both are there
abbrev pub both : {A B : Type 0} → Option A → Option B → Option (A × B)
both (Some x) (Some y) = Some (x, y)
both (Some x) None = None
both None y = None

-- what stands beside a word in a table
abbrev pub named_in : {A : Type 0} → List (List ℕ × A) → List ℕ → Option A
named_in [] word = None
named_in (row ∷ rows) word = if bytes_eq word row.0 then Some row.1 else named_in rows word

-- what the only word writes
abbrev pub single : {A : Type 0} → (List ℕ → Option A) → List (List ℕ) → Option A
single read ws = option_and_then read (only_word ws)

-- what the first word writes, and the words after it
abbrev pub headed : {A : Type 0} → (List ℕ → Option A) → List (List ℕ) → Option (A × List (List ℕ))
headed read [] = None
headed read (word ∷ ws) = option_map (λ x. (x, ws)) (read word)

-- what a word writes, and what the words after it write
abbrev pub onto : {A B : Type 0} → (List ℕ → Option A) → (List (List ℕ) → Option B) → List (List ℕ) → Option (A × B)
onto read rest [] = None
onto read rest (word ∷ ws) = both (read word) (rest ws)

-- what two words write
abbrev pub pair : {A B : Type 0} → (List ℕ → Option A) → (List ℕ → Option B) → List (List ℕ) → Option (A × B)
pair read read' = onto read (single read')

-- what each word writes
abbrev pub each : {A : Type 0} → (List ℕ → Option A) → List (List ℕ) → Option (List A)
each read [] = Some []
each read (word ∷ ws) = option_map (λ p. p.0 ∷ p.1) (both (read word) (each read ws))

pub two_numbers_in_order : pair decimal_number decimal_number (codes "1" ∷ codes "2" ∷ []) ≡ Some (1, 2)
two_numbers_in_order = refl

pub one_word_is_too_few : pair decimal_number decimal_number (codes "1" ∷ []) ≡ None
one_word_is_too_few = refl

pub the_first_of_two : headed decimal_number (codes "1" ∷ codes "x" ∷ []) ≡ Some (1, codes "x" ∷ [])
the_first_of_two = refl

pub three_are_too_many : pair decimal_number decimal_number (codes "1" ∷ codes "2" ∷ codes "3" ∷ []) ≡ None
three_are_too_many = refl

pub each_word_is_in_its_form : pair decimal_number decimal_number (codes "1" ∷ codes "x" ∷ []) ≡ None
each_word_is_in_its_form = refl
