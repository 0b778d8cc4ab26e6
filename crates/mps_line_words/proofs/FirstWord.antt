-- The first word of a line, and the words after it.
use Rattle.std.proofs.Common.{◌≡◌, ◌≢◌, ℕ, ◌==◌, ◌+◌, ◌-◌, ◌<◌, ◌≤◌, Bool, true, false, not, List, [], ◌∷◌, ◌++◌, length, take, drop, get_or, filter, refl, sym, ◌∙◌, ap, length-append, arith}
use Rattle.std.specs.List.{slice_split, onto_first, position_or_len}
use Rattle.std.specs.Str.{bytes_eq}
use Rattle.std.proofs.lemmas.List.Splits.{slice_split-cons_yes, slice_split-cons_no}
use Rattle.std.proofs.lemmas.Bool.Decides.{nat_tests}
use Rattle.std.proofs.lemmas.List.{append-nil, length-take, length-take-le}
use Rattle.std.proofs.lemmas.List.Sums.{prefix_len-le-length}
use Rattle.std.proofs.lemmas.Grind.{common_steps}
use Rattle.std.proofs.lemmas.Slice.Eq.{bytes_eq-Decides}
use Rattle.mps_line_words.proofs.Prefixes.{before_past, after_past}
use Rattle.mps_line_words.specs.Word.{words, is_space, is_nonempty, word_at, after_word, after_spaces, is_none_left}

-- how long the word at the beginning is
abbrev until : List ℕ → ℕ
until xs = position_or_len is_space xs

-- how many spaces stand at the beginning
abbrev spaces : List ℕ → ℕ
spaces xs = position_or_len (λ b. not (is_space b)) xs

-- what is cut off after the first part
abbrev rest_parts : List ℕ → List (List ℕ)
rest_parts [] = []
rest_parts (y ∷ ys) = slice_split is_space ys

until_yes : (x : ℕ) (xs : List ℕ) → is_space x ≡ true → until (x ∷ xs) ≡ 0
until_yes x xs h = rw h

until_no : (x : ℕ) (xs : List ℕ) → is_space x ≡ false → until (x ∷ xs) ≡ 1 + until xs
until_no x xs h = rw h

pub take_more : (x n : ℕ) (xs : List ℕ) → take (1 + n) (x ∷ xs) ≡ x ∷ take n xs
take_more x n xs = grind (arith, common_steps)

pub drop_more : (x n : ℕ) (xs : List ℕ) → drop (1 + n) (x ∷ xs) ≡ drop n xs
drop_more x n xs = grind (arith, common_steps)

-- what stands before the rest of a text is all that isn't left
pub before_rest : (n : ℕ) (xs : List ℕ) → take (length xs - length (drop n xs)) xs ≡ take n xs
before_rest n xs = grind (arith, common_steps)

-- a slice from n on
pub rest_is_all : (n : ℕ) (xs : List ℕ) → take (length xs - n) (drop n xs) ≡ drop n xs
rest_is_all n xs = grind (arith, common_steps)

-- the word stands before what stands after it
pub word_before : (line rest : List ℕ) → rest ≡ after_word line → take (length line - length rest) line ≡ word_at line
word_before line rest is = ap (λ (later : List ℕ). take (length line - length later) line) is ∙ before_rest (until line) line

-- no word stands at a space
pub no_word : (x : ℕ) (xs : List ℕ) → is_space x ≡ true → word_at (x ∷ xs) ≡ []
no_word x xs h = rw (until_yes x xs h) refl

pub all_left : (x : ℕ) (xs : List ℕ) → is_space x ≡ true → after_word (x ∷ xs) ≡ x ∷ xs
all_left x xs h = rw (until_yes x xs h) refl

-- any other byte is of the word
pub word_more : (x : ℕ) (xs : List ℕ) → is_space x ≡ false → word_at (x ∷ xs) ≡ x ∷ word_at xs
word_more x xs h = rw (until_no x xs h) (take_more x (until xs) xs)

pub after_more : (x : ℕ) (xs : List ℕ) → is_space x ≡ false → after_word (x ∷ xs) ≡ after_word xs
after_more x xs h = rw (until_no x xs h) (drop_more x (until xs) xs)

spaces_yes : (x : ℕ) (xs : List ℕ) → is_space x ≡ true → spaces (x ∷ xs) ≡ 1 + spaces xs
spaces_yes x xs h = rw h

spaces_no : (x : ℕ) (xs : List ℕ) → is_space x ≡ false → spaces (x ∷ xs) ≡ 0
spaces_no x xs h = rw h

-- spaces at the beginning are passed over
spaces_more : (x : ℕ) (xs : List ℕ) → is_space x ≡ true → after_spaces (x ∷ xs) ≡ after_spaces xs
spaces_more x xs h = rw (spaces_yes x xs h) (drop_more x (spaces xs) xs)

no_spaces : (x : ℕ) (xs : List ℕ) → is_space x ≡ false → after_spaces (x ∷ xs) ≡ x ∷ xs
no_spaces x xs h = rw (spaces_no x xs h) refl

skips_space : (x : ℕ) (xs : List ℕ) → is_space x ≡ true → words (x ∷ xs) ≡ words xs
skips_space x xs h = ap (filter is_nonempty) (slice_split-cons_yes is_space x xs h)

split_front_at : (x : ℕ) (xs : List ℕ) (b : Bool) → is_space x ≡ b → slice_split is_space xs ≡ word_at xs ∷ rest_parts (after_word xs)
    → slice_split is_space (x ∷ xs) ≡ word_at (x ∷ xs) ∷ rest_parts (after_word (x ∷ xs))
split_front_at x xs true h ih = rw (slice_split-cons_yes is_space x xs h, no_word x xs h, all_left x xs h) refl
split_front_at x xs false h ih = rw (slice_split-cons_no is_space x xs h, word_more x xs h, after_more x xs h, ih) refl

split_front : (xs : List ℕ) → slice_split is_space xs ≡ word_at xs ∷ rest_parts (after_word xs)
split_front [] = refl
split_front (x ∷ xs) = split_front_at x xs (is_space x) refl (split_front xs)

rest_words_at : (x : ℕ) (xs : List ℕ) (b : Bool) → is_space x ≡ b → filter is_nonempty (rest_parts (after_word xs)) ≡ words (after_word xs)
    → filter is_nonempty (rest_parts (after_word (x ∷ xs))) ≡ words (after_word (x ∷ xs))
rest_words_at x xs true h ih = rw (all_left x xs h) (sym (skips_space x xs h))
rest_words_at x xs false h ih = rw (after_more x xs h) ih

rest_words : (xs : List ℕ) → filter is_nonempty (rest_parts (after_word xs)) ≡ words (after_word xs)
rest_words [] = refl
rest_words (x ∷ xs) = rest_words_at x xs (is_space x) refl (rest_words xs)

-- the words of a line that begins with no space
abbrev pub words_from : List ℕ → List (List ℕ)
words_from [] = []
words_from (x ∷ xs) = word_at (x ∷ xs) ∷ words (after_word (x ∷ xs))

word_first : (x : ℕ) (xs : List ℕ) → is_space x ≡ false → words (x ∷ xs) ≡ words_from (x ∷ xs)
word_first x xs h =
    rw (word_more x xs h, after_more x xs h, ← rest_words xs)
    (ap (filter is_nonempty) (slice_split-cons_no is_space x xs h ∙ ap (onto_first x) (split_front xs)))

first_word_at : (x : ℕ) (xs : List ℕ) (b : Bool) → is_space x ≡ b → words xs ≡ words_from (after_spaces xs)
    → words (x ∷ xs) ≡ words_from (after_spaces (x ∷ xs))
first_word_at x xs true h ih = skips_space x xs h ∙ ih ∙ ap words_from (sym (spaces_more x xs h))
first_word_at x xs false h ih = word_first x xs h ∙ ap words_from (sym (no_spaces x xs h))

-- the first word of a line stands after its spaces, where anything does
pub first_word : (xs : List ℕ) → words xs ≡ words_from (after_spaces xs)
first_word [] = refl
first_word (x ∷ xs) = first_word_at x xs (is_space x) refl (first_word xs)

-- the words of a line stand after its spaces
words_spaced_at : (x : ℕ) (xs : List ℕ) (b : Bool) → is_space x ≡ b → words (after_spaces xs) ≡ words xs
    → words (after_spaces (x ∷ xs)) ≡ words (x ∷ xs)
words_spaced_at x xs true h ih = ap words (spaces_more x xs h) ∙ ih ∙ sym (skips_space x xs h)
words_spaced_at x xs false h ih = ap words (no_spaces x xs h)

pub words_spaced : (xs : List ℕ) → words (after_spaces xs) ≡ words xs
words_spaced [] = refl
words_spaced (x ∷ xs) = words_spaced_at x xs (is_space x) refl (words_spaced xs)

-- there is none left where nothing does
pub is_none : (line : List ℕ) → (length line == 0) ≡ is_none_left (words_from line)
is_none [] = refl
is_none (x ∷ xs) = grind (arith, nat_tests)

pub no_words_from : (line : List ℕ) → (length line == 0) ≡ true → words_from line ≡ []
no_words_from [] none = refl
no_words_from (x ∷ xs) none = absurd (grind (arith, nat_tests))

pub some_words_from : (line : List ℕ) → (length line == 0) ≡ false → words_from line ≡ word_at line ∷ words (after_word line)
some_words_from [] some = absurd cc
some_words_from (x ∷ xs) some = refl

-- ---- a line that begins with a text that has no space

-- texts that differ are told apart
not_same : (xs ys : List ℕ) → xs ≢ ys → bytes_eq xs ys ≡ false
not_same xs ys other = at (bytes_eq xs ys) refl
  where
    at : (b : Bool) → bytes_eq xs ys ≡ b → b ≡ false
    at false e = refl
    at true e = absurd (other ((bytes_eq-Decides xs ys).0 e))

-- a word has no space
no_space_in : (text : List ℕ) → word_at text ≡ text → until text ≡ length text
no_space_in text all =
    let most : until text ≤ length text = prefix_len-le-length (λ b. not (is_space b)) text in
    omega (arith, ap length all, length-take-le (until text) text most)

-- the word at the beginning is the text and the word after it
word_on : (text rest : List ℕ) → word_at text ≡ text → word_at (text ++ rest) ≡ text ++ word_at rest
word_on text rest all = before_past is_space text rest (no_space_in text all)

-- and the same stands after both
after_on : (text rest : List ℕ) → word_at text ≡ text → after_word (text ++ rest) ≡ after_word rest
after_on text rest all = after_past is_space text rest (no_space_in text all)

-- a line without spaces is its one word
nothing_after : (text : List ℕ) → word_at text ≡ text → after_word text ≡ []
nothing_after text all = grind (arith, common_steps, no_space_in text all)

pub words_of_one : (text : List ℕ) → word_at text ≡ text → 1 ≤ length text → words_from text ≡ text ∷ []
words_of_one [] all some = absurd (omega arith)
words_of_one (x ∷ xs) all some =
    ap (λ (w : List ℕ). w ∷ words (after_word (x ∷ xs))) all
    ∙ ap (λ (rest : List ℕ). (x ∷ xs) ∷ words rest) (nothing_after (x ∷ xs) all)

-- no word stands where nothing does
pub none_at_end : (rest : List ℕ) → length rest < 1 → word_at rest ≡ []
none_at_end [] none = refl
none_at_end (x ∷ xs) none = absurd (omega arith)

pub none_at_space : (rest : List ℕ) → get_or rest 0 0 ≡ 32 → word_at rest ≡ []
none_at_space [] space = absurd (omega arith)
none_at_space (x ∷ xs) space = no_word x xs (grind (arith, nat_tests))

pub some_at : (rest : List ℕ) → 1 ≤ length rest → get_or rest 0 0 ≢ 32 → 1 ≤ length (word_at rest)
some_at [] some other = absurd (omega arith)
some_at (x ∷ xs) some other =
    let no_space : is_space x ≡ false = grind (arith, nat_tests) in
    rw (word_more x xs no_space) (omega arith)

-- what is left where no word stands is all
left_by : (x : ℕ) (xs : List ℕ) (b : Bool) → is_space x ≡ b → word_at (x ∷ xs) ≡ [] → after_word (x ∷ xs) ≡ x ∷ xs
left_by x xs true h none = all_left x xs h
left_by x xs false h none = absurd (let some : x ∷ word_at xs ≡ [] = sym (word_more x xs h) ∙ none in cc)

pub all_is_left : (rest : List ℕ) → word_at rest ≡ [] → after_word rest ≡ rest
all_is_left [] none = refl
all_is_left (x ∷ xs) none = left_by x xs (is_space x) refl none

-- a line that begins with the text
begins_with : (line text : List ℕ) → take (length text) line ≡ text → line ≡ text ++ drop (length text) line
begins_with line text is = grind (arith, common_steps)

module _ (line text : List ℕ) (all : word_at text ≡ text) (begins : take (length text) line ≡ text) where
  -- the text is the word at its beginning, where none stands after it
  pub same_word : word_at (drop (length text) line) ≡ []
      → (bytes_eq (word_at line) text ≡ true) × (drop (length text) line ≡ after_word line)
  same_word none =
      let is : line ≡ text ++ drop (length text) line = begins_with line text begins in
      let word : word_at line ≡ text = ap word_at is ∙ word_on text (drop (length text) line) all ∙ rw (none, append-nil) refl in (
        (bytes_eq-Decides (word_at line) text).1 word,
        sym (ap after_word is ∙ after_on text (drop (length text) line) all ∙ all_is_left (drop (length text) line) none),
      )

  -- and isn't, where one does
  pub longer_word : 1 ≤ length (word_at (drop (length text) line)) → bytes_eq (word_at line) text ≡ false
  longer_word some =
      let is : line ≡ text ++ drop (length text) line = begins_with line text begins in
      let word : word_at line ≡ text ++ word_at (drop (length text) line) = ap word_at is ∙ word_on text (drop (length text) line) all in
      let more : word_at line ≢ text = λ e. omega (arith, ap length (sym e ∙ word), length-append {A = ℕ}) in
      not_same (word_at line) text more

-- a text that has another byte somewhere isn't the word
pub other_word : (line text : List ℕ) (i : ℕ) → i < length text → get_or line i 0 ≢ get_or text i 0 → bytes_eq (word_at line) text ≡ false
other_word line text i within other =
    not_same (word_at line) text (λ e.
    let there : length text ≤ until line = omega (arith, ap length e, length-take (until line) line) in
    let byte : get_or (take (until line) line) i 0 ≡ get_or line i 0 = grind (arith, common_steps) in
    other (sym byte ∙ ap (λ (ys : List ℕ). get_or ys i 0) e))
