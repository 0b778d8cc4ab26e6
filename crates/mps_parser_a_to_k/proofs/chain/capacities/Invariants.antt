use Rattle.mps_line_words.specs.Word.{words}
use Rattle.mps_parser_a_to_k.proofs.Capacities.{AreRead}
use Rattle.mps_parser_a_to_k.proofs.chain.capacities.Given as goal

abbrev pub invariant-loop-count : goal.invariant-loop-count
invariant-loop-count l = AreRead (words l.fn.arguments) (words l.rest) l.numbers l.count
