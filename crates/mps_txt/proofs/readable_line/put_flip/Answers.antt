use Rattle.mps_txt.proofs.AppendedTexts.{three_appended}
use Rattle.mps_txt.proofs.readable_line.put_flip.Goals as goal

pub returns-clause-text : goal.returns-clause-text
returns-clause-text c = λ before after.
    three_appended c.args.output.now _ _ _ _ _ _ c.put_hexadecimal.ensures.text c.put_decimal.ensures.text c.put_decimal-2.ensures.text
