use Rattle.std.specs.Prelude.{◌≡◌, ◌≤◌, length}
use Rattle.mps_line_words.specs.Name.{after_name}
use Rattle.mps_line_words.proofs.names.after_name.Given as goal

abbrev pub invariant-loop-rest : goal.invariant-loop-rest
invariant-loop-rest l = record {
  same_rest : after_name l.rest ≡ after_name l.fn.bytes;
  at_most : length l.rest ≤ length l.fn.bytes;
}

abbrev pub decreases-loop-rest : goal.decreases-loop-rest
decreases-loop-rest l = length l.rest
