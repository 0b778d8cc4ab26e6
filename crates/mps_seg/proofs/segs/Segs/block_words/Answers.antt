use Rattle.std.proofs.Common.{Contains, sym, subst}
use Rattle.mps_base.specs.Run.{Run}
use Rattle.mps_seg.specs.Segs.{SegsState}
use Rattle.mps_seg.proofs.segs.Segs.block_words.Goals as goal
use Rattle.mps_base.specs.Address.{word_of}

pub block_words-requires : goal.block_words-requires
block_words-requires c =
    let r : Run = record { from = word_of c.args.at.0; count = c.requires.0 } in
    let P : SegsState → Type 0 = λ s. Contains s.blocks r in
    (c.requires.0, subst P (sym c.self.view_is) c.requires.1)
