use Rattle.std.proofs.Common.{refl}
use Rattle.mps_line_words.specs.Number.{number_of}
use Rattle.mps_line_words.proofs.Headed.{first_read_by}
use Rattle.mps_line_words.proofs.number.next_value.Goals as goal

pub returns : goal.returns
returns c =
    first_read_by number_of refl c.args.bytes.now c.after_spaces.result.now c.after_spaces.ensures _ (λ p. p.0) (λ p. p.1.now) _
    (λ p h. (h.0, h.1)) c.value_at.result c.value_at.ensures
