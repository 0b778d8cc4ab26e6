-- The words of a line: what stands between its spaces. No other byte is white space.
use Rattle.std.specs.Prelude.{ℕ, ◌≡◌, ◌==◌, nat_lt, length, if◌then◌else◌, Bool, true, false, not, filter, codes, Option, Some, None, List, [], ◌∷◌, take, drop, refl}
use Rattle.std.specs.List.{slice_split, position_or_len, before_first, after_first}

-- the byte is a space
abbrev pub is_space : ℕ → Bool
is_space b = b == 32

-- what stands before and after the first such byte, if there is one
abbrev pub cut_at : ℕ → List ℕ → Option (List ℕ × List ℕ)
cut_at byte word =
    if nat_lt (position_or_len (λ b. b == byte) word) (length word)
    then Some (before_first (λ b. b == byte) word, after_first (λ b. b == byte) word) else None

-- there is something in it
abbrev pub is_nonempty : List ℕ → Bool
is_nonempty [] = false
is_nonempty (b ∷ bs) = true

-- the words, in order
abbrev pub words : List ℕ → List (List ℕ)
words line = filter is_nonempty (slice_split is_space line)

-- there is none in a list of words
abbrev pub is_none_left : List (List ℕ) → Bool
is_none_left [] = true
is_none_left (word ∷ ws) = false

-- what stands after the spaces at the beginning of a text
abbrev pub after_spaces : List ℕ → List ℕ
after_spaces text = drop (position_or_len (λ b. not (is_space b)) text) text

-- the word at the beginning of a text, and what stands after it
abbrev pub word_at : List ℕ → List ℕ
word_at text = take (position_or_len is_space text) text

abbrev pub after_word : List ℕ → List ℕ
after_word text = drop (position_or_len is_space text) text

-- the one word, if there is one and no other
abbrev pub only_word : List (List ℕ) → Option (List ℕ)
only_word [] = None
only_word (a ∷ []) = Some a
only_word (a ∷ _ ∷ _) = None

pub spaces_around_and_between : words (codes "  num  t.0 2 ") ≡ codes "num" ∷ codes "t.0" ∷ codes "2" ∷ []
spaces_around_and_between = refl

pub what_stands_after_spaces : after_spaces (codes "  t.0 2") ≡ codes "t.0 2"
what_stands_after_spaces = refl

pub nothing_stands_after_spaces_alone : after_spaces (codes "  ") ≡ []
nothing_stands_after_spaces_alone = refl

pub no_word_stands_at_a_space : word_at (codes " t.0") ≡ []
no_word_stands_at_a_space = refl

pub what_stands_after_a_word : after_word (codes "t.0 2") ≡ codes " 2"
what_stands_after_a_word = refl

pub cut_at_the_first_dot : cut_at 46 (codes "t.1.2") ≡ Some (codes "t", codes "1.2")
cut_at_the_first_dot = refl

pub no_dot_to_cut_at : cut_at 46 (codes "t1") ≡ None
no_dot_to_cut_at = refl

pub a_tab_is_no_space : words (9 ∷ 32 ∷ []) ≡ (9 ∷ []) ∷ []
a_tab_is_no_space = refl

pub none_is_left_of_spaces : is_none_left (words (codes "  ")) ≡ true
none_is_left_of_spaces = refl

pub a_word_is_left : is_none_left (words (codes " 2")) ≡ false
a_word_is_left = refl

pub spaces_alone_are_no_word : words (codes "   ") ≡ []
spaces_alone_are_no_word = refl
