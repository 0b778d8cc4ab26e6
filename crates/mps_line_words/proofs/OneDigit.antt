-- A decimal number of one digit.
use Rattle.std.proofs.Common.{◌≡◌, ℕ, ◌-◌, ◌≤◌, true, false, Some, List, [], ◌∷◌, length, drop, get_or, sym, ap, ◌∙◌, arith}
use Rattle.std.proofs.lemmas.Bool.Decides.{nat_tests}
use Rattle.mps_numerals.specs.Decimal.{decimal_number}
use Rattle.mps_line_words.specs.Word.{is_space, word_at, after_word}
use Rattle.mps_line_words.proofs.FirstWord.{word_more, no_word, after_more, all_left}

pub of_digit : (digit : ℕ) → 48 ≤ digit → digit ≤ 57 → decimal_number (digit ∷ []) ≡ Some (digit - 48)
of_digit digit least most = grind (arith, nat_tests)

-- a digit and a space begin a line
pub record IsOneDigit (line : List ℕ) : Type 0 where
  pub some : 2 ≤ length line
  pub least : 48 ≤ get_or line 0 0
  pub most : get_or line 0 0 ≤ 57
  pub ends : get_or line 1 0 ≡ 32

-- the digit is the word
pub one_digit : (line : List ℕ) → IsOneDigit line
    → (decimal_number (word_at line) ≡ Some (get_or line 0 0 - 48)) × (drop 1 line ≡ after_word line)
one_digit [] is = absurd (omega (arith, is.some))
one_digit (digit ∷ []) is = absurd (omega (arith, is.some))
one_digit (digit ∷ space ∷ rest) is =
    let no_space : is_space digit ≡ false = grind (arith, nat_tests, is.least) in
    let ends : is_space space ≡ true = grind (arith, nat_tests, is.ends) in (
      ap decimal_number (word_more digit (space ∷ rest) no_space ∙ ap (λ (w : List ℕ). digit ∷ w) (no_word space rest ends))
          ∙ of_digit digit is.least is.most,
      sym (after_more digit (space ∷ rest) no_space ∙ all_left space rest ends),
    )
