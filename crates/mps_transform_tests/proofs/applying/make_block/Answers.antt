use Rattle.std.proofs.Common.{sym, subst}
use Rattle.mps_transform_tests.specs.Full.{AreFull}
use Rattle.mps_transform_tests.proofs.Full.{made_full}
use Rattle.mps_transform_tests.proofs.applying.make_block.Goals as goal

pub returns-clause-full : goal.returns-clause-full
returns-clause-full c =
    subst AreFull (sym c.set_word.ensures) (subst AreFull (sym c.commit_block.ensures)
    (made_full c.args.segs.now c.take.new.self c.set_summary.new.self _ c.in_ok-at.at c.requires.unused c.in_ok-at.ensures.value
    c.take.ensures.state c.set_summary.ensures))
