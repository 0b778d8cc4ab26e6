-- A head is read from just the text that is written for it.
use Rattle.std.proofs.Common.{◌≡◌, ℕ, ◌+◌, ◌-◌, ◌≤◌, get_or, ◌^◌, ◌<◌, ◌==◌, nat_lt, Bool, true, false, cond, if◌then◌else◌, Option, Some, None, option_and_then, IfSome, List, [], ◌∷◌, ◌++◌, length, take, drop, decimal, refl, ap, ◌∙◌, sym, subst, ◌⊎◌, inl, inr, arith}
use Rattle.std.specs.List.{position_or_len}
use Rattle.std.proofs.lemmas.Bool.Decides.{nat_tests}
use Rattle.std.proofs.lemmas.Grind.{common_steps}
use Rattle.mps_format.specs.declared.head.Head.{Head}
use Rattle.mps_format.specs.declared.head.Head.TheVariants.{Front, Mapped, Leaf}
use Rattle.mps_format.specs.Fields.{size_field, extra_field}
use Rattle.mps_format.specs.Front.{is_front}
use Rattle.mps_format.specs.Mapped.{is_mapped}
use Rattle.mps_format.specs.Leaf.{is_leaf}
use Rattle.mps_format.specs.HeadText.{is_colon, text_of, head_text, word_of, head_of_word, IsInWords}
use Rattle.mps_format.proofs.Heads.{word_of-head_of_word, head_text-head_of_word}
use Rattle.mps_format.proofs.Colons.{has_colon, cut_at_colon, joined_at_colon}
use Rattle.mps_line_words.specs.Word.{cut_at, word_at}
use Rattle.mps_numerals.specs.Decimal.{decimal_number}
use Rattle.mps_line_words.proofs.OneDigit.{of_digit}
use Rattle.mps_line_words.specs.Head.{two_numbers, head_after, head_in, head_of}
use Rattle.mps_numerals.proofs.Decimals.{read_was_written, written_is_read}

some_of : {A B : Type 0} (f : A → Option B) (o : Option A) (r : B) → option_and_then f o ≡ Some r → (x : A) × (o ≡ Some x) × (f x ≡ Some r)
some_of f (Some x) r e = (x, refl, e)
some_of f None r e = absurd cc

-- ---- what stands before and after the first colon
abbrev parted : List ℕ → ℕ → List ℕ × List ℕ
parted text p = (take p text, drop (p + 1) text)

cut_there : (text : List ℕ) (t : Bool) (p k : ℕ) → cond t (Some p) None ≡ Some k
    → (if t then Some (parted text p) else None) ≡ Some (parted text k)
cut_there text true p k e =
    let same : p ≡ k = cc in
    ap (λ (n : ℕ). Some (parted text n)) same
cut_there text false p k e = absurd cc

there_cut : (text : List ℕ) (t : Bool) (p : ℕ) (x : List ℕ × List ℕ)
    → (if t then Some (parted text p) else None) ≡ Some x
    → (cond t (Some p) None ≡ Some p) × (parted text p ≡ x)
there_cut text true p x e = (refl, cc)
there_cut text false p x e = absurd cc

-- ---- two numbers
pair_read : (a b : ℕ) → a < 2 ^ 64 → b < 2 ^ 64 → two_numbers (decimal a ++ 58 ∷ decimal b) ≡ Some (a, b)
pair_read a b fits fits' =
    let text : List ℕ = decimal a ++ 58 ∷ decimal b in
    let place = has_colon text a b fits refl in
    let parts = cut_at_colon text a b (length (decimal a)) fits refl place in
    let cut : cut_at 58 text ≡ Some (parted text (length (decimal a)))
    = cut_there text (nat_lt (position_or_len is_colon text) (length text)) (position_or_len is_colon text) (length (decimal a)) place in
    let first : decimal_number (take (length (decimal a)) text) ≡ Some a = ap decimal_number parts.before ∙ written_is_read a fits in
    let second : decimal_number (drop (length (decimal a) + 1) text) ≡ Some b = ap decimal_number parts.after ∙ written_is_read b fits' in
    rw (cut) (rw (first, second) refl)

pair_written : (text : List ℕ) (r : ℕ × ℕ) → two_numbers text ≡ Some r
    → (text ≡ decimal r.0 ++ 58 ∷ decimal r.1) × (r.0 < 2 ^ 64) × (r.1 < 2 ^ 64)
pair_written text r e =
    let cut = some_of _ (cut_at 58 text) r e in
    let first = some_of _ (decimal_number cut.0.0) r cut.2 in
    let second = some_of _ (decimal_number cut.0.1) r first.2 in
    let at : ℕ = position_or_len is_colon text in
    let there = there_cut text (nat_lt at (length text)) at cut.0 cut.1 in
    let prefix = read_was_written cut.0.0 first.0 first.1 in
    let back = read_was_written cut.0.1 second.0 second.1 in
    let same : (first.0, second.0) ≡ r = cc in
    let before : take at text ≡ decimal first.0 = ap (λ (x : List ℕ × List ℕ). x.0) there.1 ∙ prefix.0 in
    let after : drop (at + 1) text ≡ decimal second.0 = ap (λ (x : List ℕ × List ℕ). x.1) there.1 ∙ back.0 in
    let whole : text ≡ decimal first.0 ++ 58 ∷ decimal second.0
    = joined_at_colon text at there.0 ∙ ap (λ (t : List ℕ). t ++ 58 ∷ drop (at + 1) text) before
    ∙ ap (λ (t : List ℕ). decimal first.0 ++ 58 ∷ t) after in
    subst (λ (s : ℕ × ℕ). (text ≡ decimal s.0 ++ 58 ∷ decimal s.1) × (s.0 < 2 ^ 64) × (s.1 < 2 ^ 64)) same (whole, prefix.1, back.1)

-- ---- heads
abbrev IsRead : List ℕ → Head → Type 0
IsRead text h = (text ≡ text_of h) × IsInWords h

front_written : (rest : List ℕ) (h : Head) → option_and_then (λ p. Some (Front p.0 p.1)) (two_numbers rest) ≡ Some h
    → IsRead (102 ∷ 58 ∷ rest) h
front_written rest h e =
    let k = some_of _ (two_numbers rest) h e in
    let w = pair_written rest k.0 k.1 in
    let same : Front k.0.0 k.0.1 ≡ h = cc in
    subst (IsRead (102 ∷ 58 ∷ rest)) same (ap (λ (t : List ℕ). 102 ∷ 58 ∷ t) w.0, (w.1, w.2))

mapped_written : (rest : List ℕ) (h : Head) → option_and_then (λ p. Some (Mapped p.0 p.1)) (two_numbers rest) ≡ Some h
    → IsRead (109 ∷ 58 ∷ rest) h
mapped_written rest h e =
    let k = some_of _ (two_numbers rest) h e in
    let w = pair_written rest k.0 k.1 in
    let same : Mapped k.0.0 k.0.1 ≡ h = cc in
    subst (IsRead (109 ∷ 58 ∷ rest)) same (ap (λ (t : List ℕ). 109 ∷ 58 ∷ t) w.0, (w.1, w.2))

leaf_written : (rest : List ℕ) (h : Head) → option_and_then (λ n. Some (Leaf n)) (decimal_number rest) ≡ Some h → IsRead (108 ∷ 58 ∷ rest) h
leaf_written rest h e =
    let k = some_of _ (decimal_number rest) h e in
    let w = read_was_written rest k.0 k.1 in
    let same : Leaf k.0 ≡ h = cc in
    subst (IsRead (108 ∷ 58 ∷ rest)) same (ap (λ (t : List ℕ). 108 ∷ 58 ∷ t) w.0, w.1)

chosen : (t u v : Bool) (x y z : Option Head) (h : Head) → (if t then x else (if u then y else (if v then z else None))) ≡ Some h
    → ((t ≡ true) × (x ≡ Some h)) ⊎ (((u ≡ true) × (y ≡ Some h)) ⊎ ((v ≡ true) × (z ≡ Some h)))
chosen true u v x y z h e = inl (refl, e)
chosen false true v x y z h e = inr (inl (refl, e))
chosen false false true x y z h e = inr (inr (refl, e))
chosen false false false x y z h e = absurd cc

letter_is : (letter this : ℕ) (rest : List ℕ) (h : Head) → (letter == this) ≡ true → IsRead (this ∷ 58 ∷ rest) h
    → IsRead (letter ∷ 58 ∷ rest) h
letter_is letter this rest h e k =
    let same : this ≡ letter = grind (arith, common_steps) in
    subst (λ (l : ℕ). IsRead (l ∷ 58 ∷ rest) h) same k

after_written : (letter : ℕ) (rest : List ℕ) (h : Head) → head_after letter rest ≡ Some h → IsRead (letter ∷ 58 ∷ rest) h
after_written letter rest h e =
    elim (chosen (letter == 102) (letter == 109) (letter == 108) _ _ _ h e) [
      | inl k ↦ letter_is letter 102 rest h k.0 (front_written rest h k.1)
      | inr other ↦ elim other [
        | inl k ↦ letter_is letter 109 rest h k.0 (mapped_written rest h k.1)
        | inr k ↦ letter_is letter 108 rest h k.0 (leaf_written rest h k.1)
      ]
    ]

head_written : (text : List ℕ) (h : Head) → head_in text ≡ Some h → IsRead text h
head_written [] h e = absurd cc
head_written (letter ∷ []) h e = absurd cc
head_written (letter ∷ colon ∷ rest) h e =
    let k = if_some (is_colon colon) (head_after letter rest) e in
    let same : 58 ≡ colon = grind (arith, common_steps, k.0) in
    subst (λ (c : ℕ). IsRead (letter ∷ c ∷ rest) h) same (after_written letter rest h k.1)
  where
    if_some : (t : Bool) (x : Option Head) → (if t then x else None) ≡ Some h → (t ≡ true) × (x ≡ Some h)
    if_some true x e = (refl, e)
    if_some false x e = absurd cc

head_read : (h : Head) → IsInWords h → head_in (text_of h) ≡ Some h
head_read (Front size references) fits = ap (option_and_then (λ p. Some (Front p.0 p.1))) (pair_read size references fits.0 fits.1)
head_read (Mapped size mask) fits = ap (option_and_then (λ p. Some (Mapped p.0 p.1))) (pair_read size mask fits.0 fits.1)
head_read (Leaf size) fits = ap (option_and_then (λ n. Some (Leaf n))) (written_is_read size fits)

none_where : (o : Option Head) → ((h : Head) → o ≡ Some h → ⊥) → None ≡ o
none_where None n = refl
none_where (Some h) n = absurd (n h refl)

-- a reader that is sound and complete returns the head that the text writes
pub reader_answers : (text : List ℕ) (r : Option Head) → IfSome r IsInWords → IfSome r (λ h. text ≡ text_of h)
    → ((h : Head) → IsInWords h → text ≡ text_of h → r ≡ Some h) → r ≡ head_in text
reader_answers text (Some h) fits sound complete = sym (ap head_in sound ∙ head_read h fits)
reader_answers text None fits sound complete =
    none_where (head_in text) (λ h e. let k = head_written text h e in let wrong = complete h k.1 k.0 in absurd cc)

-- ---- the text of a head word is read as that word
fields_fit : (word : ℕ) → word < 2 ^ 64 → (size_field word < 2 ^ 64) × (extra_field word < 2 ^ 64)
fields_fit word small = (omega arith, omega arith)

head_fits : (word : ℕ) (head : Head) → word < 2 ^ 64 → head_of_word word ≡ Some head → IsInWords head
head_fits word head small e =
    let fits = fields_fit word small in
    elim (chosen (is_front word) (is_mapped word) (is_leaf word) _ _ _ head e) [
      | inl k ↦ (let same : Front (size_field word) (extra_field word) ≡ head = cc in subst IsInWords same fits)
      | inr other ↦ elim other [
        | inl k ↦ (let same : Mapped (size_field word) (extra_field word) ≡ head = cc in subst IsInWords same fits)
        | inr k ↦ (let same : Leaf (size_field word) ≡ head = cc in subst IsInWords same fits.0)
      ]
    ]

pub head_text_read : (word : ℕ) (head : Head) → word < 2 ^ 64 → head_of_word word ≡ Some head → head_of (head_text word) ≡ Some word
head_text_read word head small e =
    ap head_of (head_text-head_of_word word head e)
    ∙ ap (λ (o : Option Head). option_and_then (λ (h : Head). Some (word_of h)) o) (head_read head (head_fits word head small e))
    ∙ ap Some (word_of-head_of_word word head e)

-- ---- a front head with numbers of one digit

no_colon : (digit : ℕ) → digit ≤ 57 → (digit == 58) ≡ false
no_colon digit most = grind (arith, nat_tests)

no_space : (digit : ℕ) → 48 ≤ digit → (digit == 32) ≡ false
no_space digit least = grind (arith, nat_tests)

-- it is read as this head, and has no space
abbrev IsShort : ℕ → ℕ → List ℕ → Type 0
IsShort size references text = (Some (Front (size - 48) (references - 48)) ≡ head_in text) × (word_at text ≡ text)

digits_of_front : (size references : ℕ) → 48 ≤ size → size ≤ 57 → 48 ≤ references → references ≤ 57
    → IsShort size references (102 ∷ 58 ∷ size ∷ 58 ∷ references ∷ [])
digits_of_front size references least most least' most' = (
  rw (no_colon size most, of_digit size least most, of_digit references least' most') refl,
  rw (no_space size least, no_space references least') refl,
)

pub short_front : (text : List ℕ) → length text ≡ 5 → get_or text 0 0 ≡ 102 → get_or text 1 0 ≡ 58 → get_or text 3 0 ≡ 58
    → 48 ≤ get_or text 2 0 → get_or text 2 0 ≤ 57 → 48 ≤ get_or text 4 0 → get_or text 4 0 ≤ 57
    → IsShort (get_or text 2 0) (get_or text 4 0) text
short_front (a ∷ b ∷ c ∷ d ∷ e ∷ []) five first second fourth least most least' most' =
    rw (first, second, fourth) (digits_of_front c e least most least' most')
short_front [] five first second fourth least most least' most' = absurd (omega arith)
short_front (a ∷ []) five first second fourth least most least' most' = absurd (omega arith)
short_front (a ∷ b ∷ []) five first second fourth least most least' most' = absurd (omega arith)
short_front (a ∷ b ∷ c ∷ []) five first second fourth least most least' most' = absurd (omega arith)
short_front (a ∷ b ∷ c ∷ d ∷ []) five first second fourth least most least' most' = absurd (omega arith)
short_front (a ∷ b ∷ c ∷ d ∷ e ∷ f ∷ fs) five first second fourth least most least' most' = absurd (omega arith)
