use Rattle.mps_base.specs.Address.{word_of}
use Rattle.mps_seg.proofs.BlockOver.{block_found, block_aligned}
use Rattle.mps_memory_tests.proofs.manual.words_of.Goals as goal

pub lend-requires-clause-aligned : goal.lend-requires-clause-aligned
lend-requires-clause-aligned c = block_aligned c.args.segs.now.blocks (word_of c.args.n) c.in_ok-at.at c.in_ok-at.ensures

pub lend-requires-clause-block : goal.lend-requires-clause-block
lend-requires-clause-block c = block_found c.args.segs.now.blocks (word_of c.args.n) c.in_ok-at.at c.in_ok-at.ensures
