-- The forms of the commands whose words begin with one of some letters.
use Rattle.std.proofs.Common.{◌≡◌, ℕ, ◌<◌, ◌≤◌, ◌⊎◌, inl, inr, Option, None, Bool, true, false, nat_le, ◌&&◌, List, [], ◌∷◌, filter, length, get_or, refl, sym, ap, ◌∙◌, arith}
use Rattle.std.proofs.lemmas.Bool.Decides.{nat_tests}
use Rattle.mps_model.specs.declared.call.Call.{Call}
use Rattle.std.specs.List.{list_all}
use Rattle.std.specs.Str.{bytes_eq}
use Rattle.std.proofs.lemmas.Slice.Eq.{bytes_eq-Decides}
use Rattle.mps_line_words.specs.Word.{is_space, word_at}
use Rattle.mps_line_words.proofs.FirstWord.{no_word, word_more}
use Rattle.mps_grammar.specs.Form.{Form, call_in, forms}

-- the word begins with a letter of a range
abbrev pub begins_in : (low high : ℕ) → List ℕ → Bool
begins_in low high [] = false
begins_in low high (letter ∷ letters) = nat_le low letter && nat_le letter high

-- the forms whose words do
abbrev forms_in : (low high : ℕ) → List Form → List Form
forms_in low high fs = filter (λ (f : Form). begins_in low high f.0) fs

-- of two words of which one begins so and one doesn't, they are not the same
differ : (low high : ℕ) (word text : List ℕ) (same : Bool) → bytes_eq word text ≡ same → begins_in low high word ≡ true
    → begins_in low high text ≡ false → same ≡ false
differ low high word text false e begins other = refl
differ low high word text true e begins other =
    let is : word ≡ text = (bytes_eq-Decides word text).0 e in
    absurd (let wrong : true ≡ false = sym begins ∙ (ap (begins_in low high) is ∙ other) in cc)

one_more : (low high : ℕ) (f : Form) (fs : List Form) (word : List ℕ) (ws : List (List ℕ)) (b : Bool) → begins_in low high f.0 ≡ b
    → begins_in low high word ≡ true → call_in fs word ws ≡ call_in (forms_in low high fs) word ws
    → call_in (f ∷ fs) word ws ≡ call_in (forms_in low high (f ∷ fs)) word ws
one_more low high f fs word ws true e begins later = rw (e, later)
one_more low high f fs word ws false e begins later =
    rw (e, differ low high word f.0 (bytes_eq word f.0) refl begins e) later

-- only these forms matter for a word that begins so
only_these : (low high : ℕ) (word : List ℕ) (ws : List (List ℕ)) → begins_in low high word ≡ true → (fs : List Form)
    → call_in fs word ws ≡ call_in (forms_in low high fs) word ws
only_these low high word ws begins [] = refl
only_these low high word ws begins (f ∷ fs) =
    one_more low high f fs word ws (begins_in low high f.0) refl begins (only_these low high word ws begins fs)

-- what begins a line begins the word there, where it is no space
begins_at : (low high : ℕ) (line : List ℕ) → 33 ≤ low → 1 ≤ length line → low ≤ get_or line 0 0 → get_or line 0 0 ≤ high
    → begins_in low high (word_at line) ≡ true
begins_at low high [] above some least most = absurd (omega arith)
begins_at low high (letter ∷ letters) above some least most =
    let no_space : is_space letter ≡ false = grind (arith, nat_tests) in
    ap (begins_in low high) (word_more letter letters no_space) ∙ grind (arith, nat_tests)

-- what those forms give is the call of the command word
pub call_by_letter : (low high : ℕ) (line : List ℕ) (ws : List (List ℕ)) (r : Option Call)
    → r ≡ call_in (forms_in low high forms) (word_at line) ws → 33 ≤ low → 1 ≤ length line → low ≤ get_or line 0 0
    → get_or line 0 0 ≤ high → r ≡ call_in forms (word_at line) ws
call_by_letter low high line ws r e above some least most =
    e ∙ sym (only_these low high (word_at line) ws (begins_at low high line above some least most) forms)

-- ---- a line that begins with no letter

-- these forms' words all begin with a letter
abbrev have_letters : List Form → Bool
have_letters fs = list_all (λ (f : Form). begins_in 97 122 f.0) fs

no_form_by : (word text : List ℕ) (same : Bool) → bytes_eq word text ≡ same → begins_in 97 122 word ≡ false → begins_in 97 122 text ≡ true
    → same ≡ false
no_form_by word text false e other begins = refl
no_form_by word text true e other begins =
    let is : word ≡ text = (bytes_eq-Decides word text).0 e in
    absurd (let wrong : false ≡ true = sym other ∙ (ap (begins_in 97 122) is ∙ begins) in cc)

one_fewer : (word : List ℕ) (ws : List (List ℕ)) (f : Form) (fs : List Form) (b : Bool) → begins_in 97 122 f.0 ≡ b
    → begins_in 97 122 word ≡ false → have_letters (f ∷ fs) ≡ true → (have_letters fs ≡ true → call_in fs word ws ≡ None)
    → call_in (f ∷ fs) word ws ≡ None
one_fewer word ws f fs true e other all later =
    rw (no_form_by word f.0 (bytes_eq word f.0) refl other e) (later (sym (rw e refl) ∙ all))
one_fewer word ws f fs false e other all later = absurd (let wrong : false ≡ true = sym (rw e refl) ∙ all in cc)

no_form : (word : List ℕ) (ws : List (List ℕ)) → begins_in 97 122 word ≡ false → (fs : List Form) → have_letters fs ≡ true
    → call_in fs word ws ≡ None
no_form word ws other [] all = refl
no_form word ws other (f ∷ fs) all = one_fewer word ws f fs (begins_in 97 122 f.0) refl other all (no_form word ws other fs)

begins_otherwise : (line : List ℕ) → (get_or line 0 0 < 97) ⊎ (122 < get_or line 0 0) → begins_in 97 122 (word_at line) ≡ false
begins_otherwise [] other = refl
begins_otherwise (byte ∷ bytes) other = at (is_space byte) refl
  where
    at : (b : Bool) → is_space byte ≡ b → begins_in 97 122 (word_at (byte ∷ bytes)) ≡ false
    at true space = ap (begins_in 97 122) (no_word byte bytes space)
    at false space = ap (begins_in 97 122) (word_more byte bytes space) ∙ outside other
      where
        outside : (byte < 97) ⊎ (122 < byte) → (nat_le 97 byte && nat_le byte 122) ≡ false
        outside (inl below) = grind (arith, nat_tests)
        outside (inr above) = grind (arith, nat_tests)

-- is in no form
pub no_command : (line : List ℕ) (ws : List (List ℕ)) → (get_or line 0 0 < 97) ⊎ (122 < get_or line 0 0)
    → None ≡ call_in forms (word_at line) ws
no_command line ws other = sym (no_form (word_at line) ws (begins_otherwise line other) forms refl)
