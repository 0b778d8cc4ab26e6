use Rattle.std.proofs.Common.{arith}
use Rattle.mps_args.specs.Seen.{texts}
use Rattle.mps_args.proofs.Shapes.{length-texts, gen_by_length}
use Rattle.mps_args.proofs.words.generate_of.Goals as goal
use Rattle.mps_args.proofs.words.generate_of.Goals.{in_default-via-then-words-lt2, in_default-via-else-words-lt2+else-words-lt3+else-words-lt4}

pub returns-in_default-clause-value : goal.returns-in_default-clause-value
returns-in_default-clause-value c =
    let words = texts c.args.words.now in
    let same = length-texts c.args.words.now in
    elim c.in_default.branch [
      | in_default-via-then-words-lt2 w ↦ gen_by_length words (λ e. grind (arith, same, e)) (λ e. grind (arith, same, e))
      | in_default-via-else-words-lt2+else-words-lt3+else-words-lt4 w ↦
          gen_by_length words (λ e. grind (arith, same, e)) (λ e. grind (arith, same, e))
    ]
