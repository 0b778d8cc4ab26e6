use Rattle.mps_base.specs.Address.{word_of}
use Rattle.mps_seg.proofs.BlockOver.{block_found, block_aligned}
use Rattle.mps_memory_tests.proofs.manual.fill_with.Goals as goal

pub lend_mut-words-requires-clause-aligned : goal.lend_mut-words-requires-clause-aligned
lend_mut-words-requires-clause-aligned c = block_aligned c.args.segs.now.blocks (word_of c.args.n) c.in_ok-at.at c.in_ok-at.ensures

pub lend_mut-words-requires-clause-block : goal.lend_mut-words-requires-clause-block
lend_mut-words-requires-clause-block c = block_found c.args.segs.now.blocks (word_of c.args.n) c.in_ok-at.at c.in_ok-at.ensures
