-- The name at the beginning of a line: it ends at the first byte that no name has.
use Rattle.std.proofs.Common.{◌≡◌, ◌≢◌, ℕ, ◌+◌, ◌-◌, ◌<◌, ◌≤◌, ◌==◌, nat_lt, if◌then◌else◌, Bool, true, false, not, ◌&&◌, Option, Some, None, List, [], ◌∷◌, ◌++◌, length, take, drop, get_or, refl, sym, ◌∙◌, ap, arith}
use Rattle.std.specs.List.{list_all, position_or_len}
use Rattle.std.proofs.lemmas.Bool.Decides.{nat_tests}
use Rattle.std.proofs.lemmas.List.{take-append-drop, append-nil}
use Rattle.std.proofs.lemmas.List.Folds.{list_all-append}
use Rattle.mps_base.specs.Name.{is_name_byte, is_letter}
use Rattle.mps_base.specs.declared.names.Name.{Name}
use Rattle.mps_line_words.specs.Word.{is_space, word_at, after_word}
use Rattle.mps_line_words.specs.Name.{after_name, name_from, name_of}
use Rattle.mps_line_words.proofs.Prefixes.{before_past, after_past}
use Rattle.mps_line_words.proofs.FirstWord.{take_more, drop_more, rest_is_all, before_rest, word_more}

-- how many bytes of names stand at the beginning
abbrev names : List ℕ → ℕ
names xs = position_or_len (λ b. not (is_name_byte b)) xs

-- these bytes
abbrev pub name_at : List ℕ → List ℕ
name_at xs = take (names xs) xs

names_yes : (x : ℕ) (xs : List ℕ) → is_name_byte x ≡ true → names (x ∷ xs) ≡ 1 + names xs
names_yes x xs h = rw h

names_no : (x : ℕ) (xs : List ℕ) → is_name_byte x ≡ false → names (x ∷ xs) ≡ 0
names_no x xs h = rw h

name_more : (x : ℕ) (xs : List ℕ) → is_name_byte x ≡ true → name_at (x ∷ xs) ≡ x ∷ name_at xs
name_more x xs h = rw (names_yes x xs h) (take_more x (names xs) xs)

after_name_more : (x : ℕ) (xs : List ℕ) → is_name_byte x ≡ true → after_name (x ∷ xs) ≡ after_name xs
after_name_more x xs h = rw (names_yes x xs h) (drop_more x (names xs) xs)

-- nothing of a name stands before another byte
pub after_no_name : (x : ℕ) (xs : List ℕ) → is_name_byte x ≡ false → after_name (x ∷ xs) ≡ x ∷ xs
after_no_name x xs h = rw (names_no x xs h) refl

-- a byte of a name is none that no name has
pub is_other : (x y : ℕ) → is_name_byte y ≡ false → is_name_byte x ≡ true → (x == y) ≡ false
is_other x y un is = at (x == y) refl
  where
    at : (b : Bool) → (x == y) ≡ b → b ≡ false
    at false e = refl
    at true e =
        let same : x ≡ y = grind (arith, nat_tests) in
        absurd (let clash : true ≡ false = sym is ∙ ap is_name_byte same ∙ un in cc)

-- bytes of names alone stand before the first other one
alone_by : (x : ℕ) (xs : List ℕ) (b : Bool) → is_name_byte x ≡ b → list_all is_name_byte (name_at xs) ≡ true
    → list_all is_name_byte (name_at (x ∷ xs)) ≡ true
alone_by x xs true h later = rw (name_more x xs h, h) later
alone_by x xs false h later = rw (names_no x xs h) refl

names_alone : (xs : List ℕ) → list_all is_name_byte (name_at xs) ≡ true
names_alone [] = refl
names_alone (x ∷ xs) = alone_by x xs (is_name_byte x) refl (names_alone xs)

-- and the first other one after them
stops_by : (x : ℕ) (xs : List ℕ) (b : Bool) → is_name_byte x ≡ b → (y : ℕ) (ys : List ℕ) → after_name (x ∷ xs) ≡ y ∷ ys
    → (after_name xs ≡ y ∷ ys → is_name_byte y ≡ false) → is_name_byte y ≡ false
stops_by x xs true h y ys e later = later (sym (after_name_more x xs h) ∙ e)
stops_by x xs false h y ys e later =
    let all : x ∷ xs ≡ y ∷ ys = sym (after_no_name x xs h) ∙ e in
    let same : y ≡ x = cc in
    ap is_name_byte same ∙ h

pub stops : (xs : List ℕ) (y : ℕ) (ys : List ℕ) → after_name xs ≡ y ∷ ys → is_name_byte y ≡ false
stops [] y ys e = absurd cc
stops (x ∷ xs) y ys e = stops_by x xs (is_name_byte x) refl y ys e (stops xs y ys)

-- a test that bytes of names fail passes none of them
module _ (p : ℕ → Bool) (fails : (x : ℕ) → is_name_byte x ≡ true → p x ≡ false) where
  none_by : (x : ℕ) (xs : List ℕ) (b : Bool) → is_name_byte x ≡ b → list_all is_name_byte (x ∷ xs) ≡ true
      → (list_all is_name_byte xs ≡ true → position_or_len p xs ≡ length xs) → position_or_len p (x ∷ xs) ≡ length (x ∷ xs)
  none_by x xs true h all later =
      let others : list_all is_name_byte xs ≡ true = sym (rw h refl) ∙ all in
      let fail : p x ≡ false = fails x h in
      rw fail (omega (arith, later others))
  none_by x xs false h all later = absurd (let clash : false ≡ true = sym (rw h refl) ∙ all in cc)

  pub none_in_names : (xs : List ℕ) → list_all is_name_byte xs ≡ true → position_or_len p xs ≡ length xs
  none_in_names [] all = refl
  none_in_names (x ∷ xs) all = none_by x xs (is_name_byte x) refl all (none_in_names xs)

-- a text of bytes of names, and what stands after it
module _ (prefix rest : List ℕ) (all : list_all is_name_byte prefix ≡ true) where
  no_space : position_or_len is_space prefix ≡ length prefix
  no_space = none_in_names is_space (λ x h. is_other x 32 refl h) prefix all

  no_other : names prefix ≡ length prefix
  no_other = none_in_names (λ b. not (is_name_byte b)) (λ x h. rw h refl) prefix all

  word_past_names : word_at (prefix ++ rest) ≡ prefix ++ word_at rest
  word_past_names = before_past is_space prefix rest no_space

  after_word_past : after_word (prefix ++ rest) ≡ after_word rest
  after_word_past = after_past is_space prefix rest no_space

  pub after_name_past : after_name (prefix ++ rest) ≡ after_name rest
  after_name_past = after_past (λ b. not (is_name_byte b)) prefix rest no_other

-- ---- a word is a name, or none

-- bytes that no name has make it none
neither : (b : Bool) (name : Option Name) → (if (b && false) then name else None) ≡ None
neither true name = refl
neither false name = refl

pub no_name_of : (xs : List ℕ) → list_all is_name_byte xs ≡ false → name_of xs ≡ None
no_name_of [] h = refl
no_name_of (x ∷ xs) h = at (is_letter x) refl
  where
    at : (b : Bool) → is_letter x ≡ b → name_of (x ∷ xs) ≡ None
    at false letter = rw letter refl
    at true letter =
        let rest : list_all is_name_byte xs ≡ false = sym (rw letter refl) ∙ h in
        rw (letter, rest) (neither (nat_lt (length xs) 16) _)

-- and so do more than 16
pub long_name_of : (xs : List ℕ) → 16 < length xs → name_of xs ≡ None
long_name_of [] long = refl
long_name_of (x ∷ xs) long = at (is_letter x) refl
  where
    at : (b : Bool) → is_letter x ≡ b → name_of (x ∷ xs) ≡ None
    at false letter = rw letter refl
    at true letter =
        let many : nat_lt (length xs) 16 ≡ false = grind (arith, nat_tests) in
        rw (letter, many) refl

short_name_of : (xs : List ℕ) → 97 ≤ get_or xs 0 0 → get_or xs 0 0 ≤ 122 → length xs ≤ 16 → list_all is_name_byte xs ≡ true
    → name_of xs ≡ Some (name_from xs)
short_name_of [] least most short all = absurd (omega arith)
short_name_of (x ∷ xs) least most short all =
    let letter : is_letter x ≡ true = grind (arith, nat_tests) in
    let few : nat_lt (length xs) 16 ≡ true = grind (arith, nat_tests) in
    let others : list_all is_name_byte xs ≡ true = sym (rw letter refl) ∙ all in
    rw (letter, few, others) refl

-- ---- the bytes of the name at the beginning of a line, where it begins with a letter

-- what a line begins with, where this is left of it
abbrev pub before : List ℕ → List ℕ → List ℕ
before line rest = take (length line - length rest) line

-- a letter may stand in a name
pub after_letter : (line rest : List ℕ) → 97 ≤ get_or line 0 0 → get_or line 0 0 ≤ 122
    → rest ≡ after_name (take (length line - 1) (drop 1 line)) → rest ≡ after_name line
after_letter [] rest least most is = absurd (omega arith)
after_letter (x ∷ xs) rest least most is =
    let letter : is_letter x ≡ true = grind (arith, nat_tests) in
    is ∙ ap after_name (rest_is_all 1 (x ∷ xs)) ∙ sym (after_name_more x xs (rw letter refl))

module _ (line rest : List ℕ) (is : rest ≡ after_name line) where
  before_is : before line rest ≡ name_at line
  before_is = ap (before line) is ∙ before_rest (names line) line

  pub all_names : list_all is_name_byte (before line rest) ≡ true
  all_names = ap (list_all is_name_byte) before_is ∙ names_alone line

  joined : line ≡ before line rest ++ rest
  joined = sym (rw (before_is, is) (take-append-drop (names line) line))

  pub word_of_names : word_at line ≡ before line rest ++ word_at rest
  word_of_names = ap word_at joined ∙ word_past_names (before line rest) rest all_names

  pub after_names : after_word line ≡ after_word rest
  after_names = ap after_word joined ∙ after_word_past (before line rest) rest all_names

  -- the word has another byte, where it goes on
  pub no_name : 1 ≤ length rest → get_or rest 0 0 ≢ 32 → name_of (word_at line) ≡ None
  no_name some other = at rest is some other word_of_names
    where
      at : (ys : List ℕ) → ys ≡ after_name line → 1 ≤ length ys → get_or ys 0 0 ≢ 32
          → word_at line ≡ before line rest ++ word_at ys → name_of (word_at line) ≡ None
      at [] e some other word = absurd (omega arith)
      at (y ∷ ys) e some other word =
          let space : is_space y ≡ false = grind (arith, nat_tests) in
          let not_one : is_name_byte y ≡ false = stops line y ys (sym e) in
          let not_all : list_all is_name_byte (word_at line) ≡ false =
          ap (list_all is_name_byte) (word ∙ ap (λ (w : List ℕ). before line rest ++ w) (word_more y ys space))
          ∙ list_all-append is_name_byte (before line rest) (y ∷ word_at ys) ∙ rw (all_names, not_one) refl in
          no_name_of (word_at line) not_all

  -- the word is these bytes, where it doesn't
  pub word_is_before : word_at rest ≡ [] → word_at line ≡ before line rest
  word_is_before none = word_of_names ∙ rw (none, append-nil) refl

  -- they begin as the line does
  first_of : 97 ≤ get_or line 0 0 → get_or line 0 0 ≤ 122 → get_or (before line rest) 0 0 ≡ get_or line 0 0
  first_of least most = ap (λ (xs : List ℕ). get_or xs 0 0) before_is ∙ at line least most
    where
      at : (xs : List ℕ) → 97 ≤ get_or xs 0 0 → get_or xs 0 0 ≤ 122 → get_or (name_at xs) 0 0 ≡ get_or xs 0 0
      at [] least most = refl
      at (x ∷ xs) least most =
          let letter : is_letter x ≡ true = grind (arith, nat_tests) in
          ap (λ (ys : List ℕ). get_or ys 0 0) (name_more x xs (rw letter refl))

  -- and are a name, where they are few
  pub named : 97 ≤ get_or line 0 0 → get_or line 0 0 ≤ 122 → length (before line rest) ≤ 16
      → name_of (before line rest) ≡ Some (name_from (before line rest))
  named least most short =
      short_name_of (before line rest) (omega (arith, first_of least most)) (omega (arith, first_of least most)) short all_names
