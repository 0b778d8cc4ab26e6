-- What the first word writes, and what the words after it write.
use Rattle.std.proofs.Common.{◌≡◌, ℕ, if◌then◌else◌, Bool, Option, Some, None, MatchOption, option_map, List, [], ◌∷◌, refl, sym, ap, ◌∙◌, arith}
use Rattle.mps_line_words.specs.Reading.{single, both, headed, onto}
use Rattle.mps_line_words.specs.Word.{words, word_at, after_word, after_spaces, is_none_left}
use Rattle.mps_line_words.proofs.FirstWord.{words_from, first_word, words_of_one}

none_before : {A B : Type 0} (o : Option B) → both {A = A} {B = B} None o ≡ None
none_before None = refl
none_before (Some y) = refl

-- what is left is read by rest
abbrev with_rest : {A B : Type 0} → (List (List ℕ) → Option B) → Option (A × List (List ℕ)) → Option (A × B)
with_rest rest None = None
with_rest rest (Some p) = both (Some p.0) (rest p.1)

module _ {A B : Type 0} (read : List ℕ → Option A) (rest : List (List ℕ) → Option B) where
  by_read : (ws : List (List ℕ)) (o : Option A) → with_rest rest (option_map (λ x. (x, ws)) o) ≡ both o (rest ws)
  by_read ws None = sym (none_before (rest ws))
  by_read ws (Some x) = refl

  onto_headed : (ws : List (List ℕ)) → with_rest rest (headed read ws) ≡ onto read rest ws
  onto_headed [] = refl
  onto_headed (w ∷ ws) = by_read ws (read w)

  -- where the first word is read, what the words after it write stands beside it
  pub onto_some : (ws later : List (List ℕ)) (x : A) → headed read ws ≡ Some (x, later) → (r : Option B) → r ≡ rest later
      → both (Some x) r ≡ onto read rest ws
  onto_some ws later x some r is = ap (both (Some x)) is ∙ ap (with_rest rest) (sym some) ∙ onto_headed ws

-- ---- one word alone

-- what was read, where none is left
abbrev alone : {A : Type 0} → Option (A × List (List ℕ)) → Option A
alone None = None
alone (Some p) = if is_none_left p.1 then Some p.0 else None

module _ {A : Type 0} (read : List ℕ → Option A) where
  one_word : (o : Option A) → alone (option_map (λ x. (x, [])) o) ≡ o
  one_word None = refl
  one_word (Some x) = refl

  two_words : (w : List ℕ) (ws : List (List ℕ)) (o : Option A) → alone (option_map (λ x. (x, w ∷ ws)) o) ≡ None
  two_words w ws None = refl
  two_words w ws (Some x) = refl

  alone_headed : (ws : List (List ℕ)) → alone (headed read ws) ≡ single read ws
  alone_headed [] = refl
  alone_headed (w ∷ []) = one_word (read w)
  alone_headed (w ∷ v ∷ ws) = two_words v ws (read w)

  -- a word that isn't read, or isn't alone, is none
  pub single_none : (ws : List (List ℕ)) → headed read ws ≡ None → None ≡ single read ws
  single_none ws none = ap alone (sym none) ∙ alone_headed ws

  pub single_some : (ws later : List (List ℕ)) (x : A) → headed read ws ≡ Some (x, later) → (b : Bool) → b ≡ is_none_left later
      → (if b then Some x else None) ≡ single read ws
  single_some ws later x some b is = ap (λ (t : Bool). if t then Some x else None) is ∙ ap alone (sym some) ∙ alone_headed ws

-- ---- the first word of a line, where a reader takes nothing from no word
module _ {A : Type 0} (read : List ℕ → Option A) (empty : read [] ≡ None) where
  headed_at : (line : List ℕ) → headed read (words_from line) ≡ option_map (λ x. (x, words (after_word line))) (read (word_at line))
  headed_at [] = rw empty refl
  headed_at (x ∷ xs) = refl

  -- it is read after the spaces at the beginning
  first_read : (xs line : List ℕ) → line ≡ after_spaces xs
      → headed read (words xs) ≡ option_map (λ x. (x, words (after_word line))) (read (word_at line))
  first_read xs line is = ap (headed read) (first_word xs ∙ ap words_from (sym is)) ∙ headed_at line

  -- a function that reads a word where it stands reads the first of a line there
  pub first_read_by : (xs line : List ℕ) → line ≡ after_spaces xs → (B : Type 0) (made : B → A) (now : B → List ℕ) (P : B → Type 0)
      → ((p : B) → P p → (read (word_at line) ≡ Some (made p)) × (now p ≡ after_word line)) → (r : Option B)
      → MatchOption r (read (word_at line) ≡ None) P
      → MatchOption r (headed read (words xs) ≡ None) (λ p. headed read (words xs) ≡ Some (made p, words (now p)))
  first_read_by xs line is B made now P both_hold None none = first_read xs line is ∙ rw none refl
  first_read_by xs line is B made now P both_hold (Some p) some =
      let h = both_hold p some in
      first_read xs line is ∙ rw (h.0, h.1) refl

  -- a line without spaces is its one word
  one_read_at : (line : List ℕ) → word_at line ≡ line → read line ≡ single read (words_from line)
  one_read_at [] all = empty
  one_read_at (x ∷ xs) all = ap (single read) (sym (words_of_one (x ∷ xs) all (omega arith)))

  pub one_read : (xs line : List ℕ) → line ≡ after_spaces xs → word_at line ≡ line → read line ≡ single read (words xs)
  one_read xs line is all = one_read_at line all ∙ ap (single read) (ap words_from is ∙ sym (first_word xs))
