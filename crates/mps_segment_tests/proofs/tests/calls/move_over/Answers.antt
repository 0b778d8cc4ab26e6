use Rattle.std.proofs.Common.{sym, ◌∙◌}
use Rattle.mps_base.specs.Address.{word_of}
use Rattle.mps_seg.proofs.BlockOver.{block_found}
use Rattle.mps_segment_tests.proofs.tests.calls.move_over.Goals as goal

pub block_words-words-requires : goal.block_words-words-requires
block_words-words-requires c =
    block_found c.args.segs.now.blocks (word_of c.args.n) c.in_ok-at.at (sym c.in_ok-at.was ∙ c.block_at.ensures)
