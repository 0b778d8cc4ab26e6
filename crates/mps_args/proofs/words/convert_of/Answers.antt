use Rattle.std.proofs.Common.{arith}
use Rattle.mps_args.specs.Seen.{texts}
use Rattle.mps_args.proofs.Shapes.{length-texts, cnv_by_length}
use Rattle.mps_args.proofs.words.convert_of.Goals as goal
use Rattle.mps_args.proofs.words.convert_of.Goals.{in_default-via-then-words-lt2, in_default-via-else-words-lt2+else-words-lt3+then-words-lt4, in_default-via-else-words-lt2+else-words-lt3+else-words-lt4+else-words-lt5}

pub returns-in_default : goal.returns-in_default
returns-in_default c =
    let words = texts c.args.words.now in
    let same = length-texts c.args.words.now in
    elim c.in_default.branch [
      | in_default-via-then-words-lt2 w ↦ grind (arith, same, cnv_by_length words)
      | in_default-via-else-words-lt2+else-words-lt3+then-words-lt4 w ↦ grind (arith, same, cnv_by_length words)
      | in_default-via-else-words-lt2+else-words-lt3+else-words-lt4+else-words-lt5 w ↦ grind (arith, same, cnv_by_length words)
    ]
