use Rattle.std.specs.Prelude.{◌≡◌, take}
use Rattle.mps_line_words.proofs.words.is_word.Given as goal

abbrev pub invariant-loop-index : goal.invariant-loop-index
invariant-loop-index l = take l.index l.word ≡ take l.index l.text
