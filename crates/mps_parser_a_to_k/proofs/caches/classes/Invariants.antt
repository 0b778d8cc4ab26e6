use Rattle.mps_line_words.specs.Word.{words}
use Rattle.mps_parser_a_to_k.proofs.Classes.{AreRead}
use Rattle.mps_parser_a_to_k.proofs.caches.classes.Given as goal

abbrev pub invariant-loop-count : goal.invariant-loop-count
invariant-loop-count l = AreRead (words l.fn.arguments) (words l.rest) l.sizes l.limits l.count
