use Rattle.std.proofs.Common.{Some, ap, ◌∙◌, sym, arith}
use Rattle.std.proofs.lemmas.Grind.{common_steps}
use Rattle.mps_line_words.specs.Reading.{first_of_two}
use Rattle.mps_line_words.specs.Number.{prefixed_hexadecimal}
use Rattle.mps_line_words.specs.Word.{word_at}
use Rattle.mps_line_words.proofs.FirstWord.{rest_is_all}
use Rattle.mps_line_words.proofs.OneDigit.{one_digit, IsOneDigit}
use Rattle.mps_line_words.proofs.NoDigit.{no_number}
use Rattle.mps_line_words.proofs.number.value_at.Goals as goal

pub returns-in-48-to-57-2 : goal.returns-in-48-to-57-2
returns-in-48-to-57-2 c =
    let is : IsOneDigit c.args.bytes.now = record { some = omega arith; least = omega arith; most = omega arith; ends = omega arith } in
    let read = one_digit c.args.bytes.now is in (
      ap (λ o. first_of_two o (prefixed_hexadecimal (word_at c.args.bytes.now))) (read.0 ∙ ap Some (sym c.from-in-48-to-57-2.ensures)),
      rest_is_all 1 c.args.bytes.now ∙ read.1,
    )

pub returns-in_default : goal.returns-in_default
returns-in_default c = no_number c.args.bytes.now (λ some least most. grind (arith, common_steps))
