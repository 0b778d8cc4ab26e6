use Rattle.mps_arena.proofs.FewWords.{few_copied}
use Rattle.mps_arena.proofs.memory.copy_few.Goals as goal

pub returns : goal.returns
returns c =
    few_copied c.args.words.now c.args.from c.args.to c.args.count c.requires.from_within c.requires.to_within c.requires.at_least
    c.requires.at_most
