use Rattle.std.proofs.Common.{◌+◌, ◌≤◌, length, sym, subst}
use Rattle.mps_base.specs.Address.{word_of}
use Rattle.mps_seg.specs.Segs.{SegsState}
use Rattle.mps_seg.proofs.HeldWords.{word_is_held}
use Rattle.mps_seg.proofs.segs.Segs.words_from.Goals as goal

pub words_from-requires : goal.words_from-requires
words_from-requires c =
    let there = c.requires.held in
    record {
      held = word_is_held c.self.inside c.args.self.now c.self.invariant c.self.view_is c.args.at.0 there.0 there.1;
    }

pub returns-clause-complete : goal.returns-clause-complete
returns-clause-complete c = λ n at_most fits.
    let P : SegsState → Type 0 = λ st. word_of c.args.at.0 + n ≤ length st.words in
    c.words_from.ensures.complete n at_most (subst P (sym c.self.view_is) fits)
