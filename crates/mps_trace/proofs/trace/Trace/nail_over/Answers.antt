use Rattle.std.proofs.Common.{◌+◌, ◌*◌, sym, ◌∙◌}
use Rattle.mps_base.specs.Address.{word_of, words_of_grain}
use Rattle.mps_trace.proofs.Nailing.{block_below}
use Rattle.mps_trace.proofs.trace.Trace.nail_over.Goals as goal

pub nail-requires : goal.nail-requires
nail-requires g c =
    let s = c.args.segs.now in
    block_below (words_of_grain * (s.grains + 1)) s.blocks (word_of c.args.word) c.in-Some.at c.requires
    (sym c.in-Some.is ∙ c.block_at.ensures)
