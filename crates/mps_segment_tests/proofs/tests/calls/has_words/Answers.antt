use Rattle.mps_base.specs.Address.{word_of}
use Rattle.mps_seg.proofs.BlockOver.{block_found}
use Rattle.mps_segment_tests.proofs.tests.calls.has_words.Goals as goal

pub block_words-requires : goal.block_words-requires
block_words-requires c = block_found c.args.segs.now.blocks (word_of c.args.at.0) c.in-Some.block c.in-Some.ensures
