use Rattle.std.proofs.Common.{subst, sym}
use Rattle.mps_format.specs.Front.{front_layout}
use Rattle.mps_xform.specs.State.{new_address}
use Rattle.mps_transform_tests.specs.Full.{AreFull}
use Rattle.mps_transform_tests.proofs.Full.{full_still, full_summed}
use Rattle.mps_transform_tests.proofs.applying.apply_to.Goals as goal

pub apply-requires-clause-can : goal.apply-requires-clause-can
apply-requires-clause-can c = c.requires.can c.args.pool

pub returns-clause-can : goal.returns-clause-can
returns-clause-can c = λ pool. c.apply.ensures.again front_layout pool (c.requires.can pool)

pub apply-requires-clause-summed : goal.apply-requires-clause-summed
apply-requires-clause-summed c = full_summed front_layout c.args.segs.now c.args.pool c.requires.full

pub returns-clause-full : goal.returns-clause-full
returns-clause-full c =
    subst AreFull (sym c.apply.ensures.state)
    (full_still front_layout (new_address c.args.transforms.now c.args.transform) c.args.segs.now c.args.pool c.requires.full)
