use Rattle.std.proofs.Common.{◌≡◌, refl, sym, arith}
use Rattle.std.proofs.lemmas.Grind.{common_steps}
use Rattle.std.proofs.lemmas.Slice.Eq.{bytes_eq-Decides}
use Rattle.mps_line_words.proofs.words.is_word.Goals as goal

pub loop-index-init : goal.loop-index-init
loop-index-init c = refl

pub loop-index-preserved : goal.loop-index-preserved
loop-index-preserved c = grind (arith, common_steps)

pub returns : goal.returns
returns c =
    let same : c.args.word.now ≡ c.args.text.now = grind (arith, common_steps) in
    sym ((bytes_eq-Decides c.args.word.now c.args.text.now).1 same)
