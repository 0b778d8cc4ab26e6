use Rattle.std.specs.Prelude.{◌≡◌, length}
use Rattle.mps_line_words.specs.Word.{after_spaces}
use Rattle.mps_line_words.proofs.words.after_spaces.Given as goal

abbrev pub invariant-loop-rest : goal.invariant-loop-rest
invariant-loop-rest l = after_spaces l.rest ≡ after_spaces l.fn.bytes

abbrev pub decreases-loop-rest : goal.decreases-loop-rest
decreases-loop-rest l = length l.rest
