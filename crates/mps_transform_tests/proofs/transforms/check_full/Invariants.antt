use Rattle.std.proofs.Common.{◌≡◌, true}
use Rattle.mps_xform.specs.State.{is_live}
use Rattle.mps_transform_tests.proofs.transforms.check_full.Given as goal

abbrev pub invariant-loop-old : goal.invariant-loop-old
invariant-loop-old g l = is_live l.transforms l.number ≡ true
