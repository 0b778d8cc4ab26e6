use Rattle.std.proofs.Common.{◌≡◌, [], length, drop, arith}
use Rattle.std.proofs.lemmas.Grind.{common_steps}
use Rattle.mps_line_words.specs.Word.{word_at}
use Rattle.mps_line_words.proofs.FirstWord.{other_word, longer_word, same_word, some_at, none_at_end, none_at_space, rest_is_all}
use Rattle.mps_line_words.proofs.words.strip_word.Goals as goal

pub returns-then-line-index : goal.returns-then-line-index
returns-then-line-index c =
    other_word c.args.line.now c.args.text.now c.loop-index.index c.loop-index-test.true c.if-line-index.true

pub returns-in_default : goal.returns-in_default
returns-in_default c =
    longer_word c.args.line.now c.args.text.now c.requires (grind (arith, common_steps))
    (some_at (drop (length c.args.text.now) c.args.line.now) (grind (arith, common_steps)) (grind (arith, common_steps)))

pub returns-in-empty : goal.returns-in-empty
returns-in-empty c =
    let none : word_at (drop (length c.args.text.now) c.args.line.now) ≡ [] =
    grind (arith, common_steps, rest_is_all, none_at_end, none_at_space) in
    simp rest_is_all (same_word c.args.line.now c.args.text.now c.requires (grind (arith, common_steps)) none)
