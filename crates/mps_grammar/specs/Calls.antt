-- Calls of the words of a line: `none`, `one`, `two`, `three` and `four` read that many words and no other, each in its own
-- form, and make a call of them.
use Rattle.std.specs.Prelude.{ℕ, Option, Some, None, option_map, List, [], ◌∷◌}
use Rattle.mps_model.specs.declared.call.Call.{Call}
use Rattle.mps_line_words.specs.Reading.{first_of_two, single, pair, onto}

abbrev pub none : Call → List (List ℕ) → Option Call
none call [] = Some call
none call (word ∷ ws) = None

abbrev pub one : {A : Type 0} → (List ℕ → Option A) → (A → Call) → List (List ℕ) → Option Call
one a call ws = option_map call (single a ws)

abbrev pub two : {A B : Type 0} → (List ℕ → Option A) → (List ℕ → Option B) → (A → B → Call) → List (List ℕ) → Option Call
two a b call ws = option_map (λ p. call p.0 p.1) (pair a b ws)

abbrev pub three : {A B C : Type 0} → (List ℕ → Option A) → (List ℕ → Option B) → (List ℕ → Option C) → (A → B → C → Call)
    → List (List ℕ) → Option Call
three a b c call ws = option_map (λ p. call p.0 p.1.0 p.1.1) (onto a (pair b c) ws)

abbrev pub four : {A B C D : Type 0} → (List ℕ → Option A) → (List ℕ → Option B) → (List ℕ → Option C) → (List ℕ → Option D)
    → (A → B → C → D → Call) → List (List ℕ) → Option Call
four a b c d call ws = option_map (λ p. call p.0 p.1.0 p.1.1.0 p.1.1.1) (onto a (onto b (pair c d)) ws)

-- the call of the first of two forms that fits
abbrev pub or : (List (List ℕ) → Option Call) → (List (List ℕ) → Option Call) → List (List ℕ) → Option Call
or form form' ws = first_of_two (form ws) (form' ws)
