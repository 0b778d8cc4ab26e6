-- The slot at the beginning of a line: a dot stands after the bytes of its name.
use Rattle.std.proofs.Common.{◌≡◌, ◌≢◌, ℕ, ◌-◌, ◌<◌, ◌≤◌, ◌==◌, nat_lt, if◌then◌else◌, Bool, true, false, not, Option, Some, None, option_map, option_and_then, List, [], ◌∷◌, ◌++◌, length, take, drop, get_or, refl, sym, ◌∙◌, ap, arith}
use Rattle.std.specs.List.{list_all, position_or_len, before_first, after_first}
use Rattle.std.proofs.Math.Seq.{take-append_seam, drop-append-add}
use Rattle.std.proofs.lemmas.Bool.Decides.{nat_tests}
use Rattle.std.proofs.lemmas.Grind.{common_steps}
use Rattle.std.proofs.lemmas.List.Sums.{split_at_first, prefix_len_stops}
use Rattle.mps_base.specs.Name.{is_name_byte}
use Rattle.mps_numerals.specs.Decimal.{decimal_number}
use Rattle.mps_line_words.specs.Word.{is_space, cut_at, word_at, after_word}
use Rattle.mps_line_words.specs.Name.{after_name, name_from, name_of, slot_from, slot_of}
use Rattle.mps_line_words.proofs.Prefixes.{past_prefix}
use Rattle.mps_line_words.proofs.FirstWord.{rest_is_all, no_word, word_more, after_more}
use Rattle.mps_line_words.proofs.FirstName.{is_other, stops, after_no_name, none_in_names, after_name_past, no_name_of, before, all_names, word_of_names, after_names}

-- ---- what stands before and after the first dot

abbrev is_dot : ℕ → Bool
is_dot b = b == 46

-- bytes of names have none
cut_past_names : (prefix later : List ℕ) → list_all is_name_byte prefix ≡ true → cut_at 46 (prefix ++ 46 ∷ later) ≡ Some (prefix, later)
cut_past_names prefix later all =
    let there : position_or_len is_dot (prefix ++ 46 ∷ later) ≡ length prefix =
    omega (arith, past_prefix is_dot prefix (46 ∷ later) (none_in_names is_dot (λ x h. is_other x 46 refl h) prefix all)) in
    let within : nat_lt (length prefix) (length (prefix ++ 46 ∷ later)) ≡ true = grind (arith, nat_tests, common_steps) in
    rw (there, within, take-append_seam, drop-append-add prefix (46 ∷ later) 1) refl

abbrev parts : List ℕ → List ℕ × List ℕ
parts word = (before_first is_dot word, after_first is_dot word)

-- a word that is cut is joined again by its dot
joined_by : (word : List ℕ) (t : Bool) → nat_lt (position_or_len is_dot word) (length word) ≡ t → (prefix later : List ℕ)
    → (if t then Some (parts word) else None) ≡ Some (prefix, later) → word ≡ prefix ++ 46 ∷ later
joined_by word true within prefix later e =
    let lt : position_or_len is_dot word < length word = grind (arith, nat_tests) in
    let byte : get_or word (position_or_len is_dot word) 0 ≡ 46 =
    grind (arith, nat_tests, prefix_len_stops (λ b. not (is_dot b)) word 0 lt) in
    let same : parts word ≡ (prefix, later) = cc in
    split_at_first is_dot word 0 lt ∙ ap (λ (x : ℕ). before_first is_dot word ++ x ∷ after_first is_dot word) byte
    ∙ ap (λ (p : List ℕ × List ℕ). p.0 ++ 46 ∷ p.1) same
joined_by word false within prefix later e = absurd (let clash : None ≡ Some (prefix, later) = e in cc)

joined_by_dot : (word prefix later : List ℕ) → cut_at 46 word ≡ Some (prefix, later) → word ≡ prefix ++ 46 ∷ later
joined_by_dot word prefix later e = joined_by word (nat_lt (position_or_len is_dot word) (length word)) refl prefix later e

no_slot_by : (word : List ℕ) (o : Option (List ℕ × List ℕ)) → cut_at 46 word ≡ o
    → ((prefix later : List ℕ) → cut_at 46 word ≡ Some (prefix, later) → list_all is_name_byte prefix ≡ false) → slot_of word ≡ None
no_slot_by word None is none = rw is refl
no_slot_by word (Some p) is none = rw (is, no_name_of p.0 (none p.0 p.1 is)) refl

mapped : {A B : Type 0} (f : A → B) (o : Option A) → option_and_then (λ x. Some (f x)) o ≡ option_map f o
mapped f None = refl
mapped f (Some x) = refl

-- ---- the word at the beginning of a line as a slot

-- no dot is left after the bytes of a name, where none stands there
no_dot_by : (y : ℕ) (ys later : List ℕ) (b : Bool) → is_space y ≡ b → is_name_byte y ≡ false
    → after_name (word_at (y ∷ ys)) ≡ 46 ∷ later → y ≡ 46
no_dot_by y ys later true space other e =
    absurd (let clash : [] ≡ 46 ∷ later = ap after_name (sym (no_word y ys space)) ∙ e in cc)
no_dot_by y ys later false space other e =
    let first : y ∷ word_at ys ≡ 46 ∷ later =
    sym (ap after_name (word_more y ys space) ∙ after_no_name y (word_at ys) other) ∙ e in
    cc

no_dot : (line ys later : List ℕ) → ys ≡ after_name line → get_or ys 0 0 ≢ 46 → after_name (word_at ys) ≢ 46 ∷ later
no_dot line [] later is other = λ e. absurd (let clash : [] ≡ 46 ∷ later = e in cc)
no_dot line (y ∷ ys) later is other = λ e. other (no_dot_by y ys later (is_space y) refl (stops line y ys (sym is)) e)

module _ (line rest : List ℕ) (is : rest ≡ after_name line) where
  prefix_by : (prefix later : List ℕ) → get_or rest 0 0 ≢ 46 → word_at line ≡ prefix ++ 46 ∷ later → (b : Bool)
      → list_all is_name_byte prefix ≡ b → b ≡ false
  prefix_by prefix later other whole false all = refl
  prefix_by prefix later other whole true all =
      absurd (no_dot line rest later is other (
      sym (after_name_past (before line rest) (word_at rest) (all_names line rest is))
      ∙ ap after_name (sym (word_of_names line rest is) ∙ whole) ∙ after_name_past prefix (46 ∷ later) all
      ))

  -- where no dot stands after the bytes of the name, the word is none
  pub not_a_slot : get_or rest 0 0 ≢ 46 → slot_of (word_at line) ≡ None
  not_a_slot other =
      no_slot_by (word_at line) (cut_at 46 (word_at line)) refl
      (λ prefix later cut. prefix_by prefix later other (joined_by_dot (word_at line) prefix later cut) (list_all is_name_byte prefix) refl)

  -- where one does, it is the slot of that name and the number after the dot
  module _ (digits : List ℕ) (dot : rest ≡ 46 ∷ digits) where
    whole : word_at line ≡ before line rest ++ 46 ∷ word_at digits
    whole = word_of_names line rest is
        ∙ ap (λ (w : List ℕ). before line rest ++ w) (ap word_at dot ∙ word_more 46 digits refl)

    cut : cut_at 46 (word_at line) ≡ Some (before line rest, word_at digits)
    cut = ap (cut_at 46) whole ∙ cut_past_names (before line rest) (word_at digits) (all_names line rest is)

    pub after_slot : after_word line ≡ after_word digits
    after_slot = after_names line rest is ∙ ap after_word dot ∙ after_more 46 digits refl

    pub slot_without_name : name_of (before line rest) ≡ None → slot_of (word_at line) ≡ None
    slot_without_name none = rw (cut, none) refl

    pub slot_with_name : name_of (before line rest) ≡ Some (name_from (before line rest))
        → slot_of (word_at line) ≡ option_map (slot_from (before line rest)) (decimal_number (word_at digits))
    slot_with_name name = rw (cut, name) (mapped (slot_from (before line rest)) (decimal_number (word_at digits)))

-- a rest that begins with a dot
pub dotted : (rest : List ℕ) → 1 ≤ length rest → get_or rest 0 0 ≡ 46 → rest ≡ 46 ∷ take (length rest - 1) (drop 1 rest)
dotted [] some dot = absurd (omega arith)
dotted (x ∷ xs) some dot = rw (dot, rest_is_all 1 (x ∷ xs)) refl
