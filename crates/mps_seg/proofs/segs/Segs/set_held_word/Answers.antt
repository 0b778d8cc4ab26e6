use Rattle.mps_seg.proofs.HeldWords.{word_is_held}
use Rattle.mps_seg.proofs.segs.Segs.set_held_word.Goals as goal

pub set_held_word-requires : goal.set_held_word-requires
set_held_word-requires c =
    word_is_held c.self.inside c.args.self.now c.self.invariant c.self.view_is c.args.at.0 c.requires.0 c.requires.1
