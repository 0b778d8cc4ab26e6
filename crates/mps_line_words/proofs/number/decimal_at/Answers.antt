use Rattle.std.proofs.Common.{Some, ap, ◌∙◌, sym, arith}
use Rattle.mps_line_words.proofs.FirstWord.{rest_is_all}
use Rattle.mps_line_words.proofs.OneDigit.{one_digit, IsOneDigit}
use Rattle.mps_line_words.proofs.number.decimal_at.Goals as goal

pub returns-in-48-to-57-2 : goal.returns-in-48-to-57-2
returns-in-48-to-57-2 c =
    let is : IsOneDigit c.args.bytes.now = record { some = omega arith; least = omega arith; most = omega arith; ends = omega arith } in
    let read = one_digit c.args.bytes.now is in
    (read.0 ∙ ap Some (sym c.from-in-48-to-57-2.ensures), rest_is_all 1 c.args.bytes.now ∙ read.1)
