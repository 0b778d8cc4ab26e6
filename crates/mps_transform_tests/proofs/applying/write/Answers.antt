use Rattle.std.proofs.Common.{◌≢◌, sym, subst, arith}
use Rattle.mps_base.specs.Address.{word_of}
use Rattle.mps_format.specs.Front.{front_layout}
use Rattle.mps_seg.specs.Extents.{run_over}
use Rattle.mps_seg.specs.Segs.{SegsState}
use Rattle.mps_xform.specs.Applying.{CanApply}
use Rattle.mps_xform.proofs.Written.{can_after_write, over_word}
use Rattle.mps_transform_tests.specs.Full.{AreFull}
use Rattle.mps_transform_tests.proofs.applying.write.Goals as goal

pub returns-clause-can : goal.returns-clause-can
returns-clause-can c = λ pool.
    let s = c.args.segs.now in
    let word = word_of c.args.at.0 in
    let from = word_of c.in-Some.block.0 in
    let over = over_word (run_over s.blocks word) c.in-Some.block c.in-Some.ensures in
    let other : from ≢ word = λ same. omega (arith, same, c.if-word.false, c.word.ensures, c.word-2.ensures) in
    let P : SegsState → Type 0 = λ t. CanApply front_layout t pool in
    subst P (sym c.set_word.ensures) (can_after_write front_layout s pool (c.requires.can pool) word from c.args.word over other)

pub returns-clause-full : goal.returns-clause-full
returns-clause-full c = subst AreFull (sym c.set_word.ensures) c.requires.full
