use Rattle.std.proofs.Common.{◌≡◌, true}
use Rattle.mps_xform.specs.State.{is_live}
use Rattle.mps_transform_tests.proofs.blocking.all_agree.Given as goal

abbrev pub invariant-loop : goal.invariant-loop
invariant-loop l = is_live l.transforms l.transform ≡ true
