use Rattle.std.proofs.Common.{refl}
use Rattle.mps_numerals.specs.Hexadecimal.{hexadecimal}
use Rattle.mps_numerals.specs.Reading.{number_in}
use Rattle.mps_numerals.proofs.Decimals.{written_is_read}
use Rattle.mps_numerals.proofs.Hexadecimals.{complete_reading}
use Rattle.mps_line_words.proofs.Heads.{head_text_read}
use Rattle.mps_answers.proofs.laws.answers_are_read_back.Goals as goal

pub returns-clause-number : goal.returns-clause-number
returns-clause-number c = λ n small. written_is_read n small

pub returns-clause-word : goal.returns-clause-word
returns-clause-word c = λ n small. complete_reading (hexadecimal n) (number_in 16 (hexadecimal n)) n refl small refl

pub returns-clause-head : goal.returns-clause-head
returns-clause-head c = λ word small head is. head_text_read word head small is
