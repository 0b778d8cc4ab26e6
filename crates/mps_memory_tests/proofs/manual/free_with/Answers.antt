use Rattle.mps_base.specs.Address.{word_of}
use Rattle.mps_seg.proofs.BlockOver.{block_found}
use Rattle.mps_memory_tests.proofs.manual.free_with.Goals as goal

pub free-requires-clause-block : goal.free-requires-clause-block
free-requires-clause-block c = block_found c.args.segs.now.blocks (word_of c.args.n) c.in_ok-at.at c.in_ok-at.ensures
