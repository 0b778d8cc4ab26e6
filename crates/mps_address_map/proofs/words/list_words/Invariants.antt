use Rattle.std.proofs.Common.{◌≡◌, ◌++◌, drop}
use Rattle.mps_address_map.specs.Words.{words_from, words_of}
use Rattle.mps_address_map.proofs.words.list_words.Given as goal

abbrev pub invariant-loop-word : goal.invariant-loop-word
invariant-loop-word g l = l.entries.items ++ words_from l.word (drop l.word l.words.items) ≡ words_of l.words.items
