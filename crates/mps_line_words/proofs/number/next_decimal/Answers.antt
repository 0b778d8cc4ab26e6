use Rattle.std.proofs.Common.{refl}
use Rattle.mps_numerals.specs.Decimal.{decimal_number}
use Rattle.mps_line_words.proofs.Headed.{first_read_by}
use Rattle.mps_line_words.proofs.number.next_decimal.Goals as goal

pub returns : goal.returns
returns c =
    first_read_by decimal_number refl c.args.bytes.now c.after_spaces.result.now c.after_spaces.ensures _ (λ p. p.0) (λ p. p.1.now) _
    (λ p h. (h.0, h.1)) c.decimal_at.result c.decimal_at.ensures
