use Rattle.std.proofs.Common.{subst}
use Rattle.mps_keys.specs.Keys.{AreAllBelow}
use Rattle.mps_keys.proofs.given.Given.stamp_at.Goals as goal

pub returns-in-Some-clause-counted : goal.returns-in-Some-clause-counted
returns-in-Some-clause-counted c = subst AreAllBelow c.self.view_is c.self.invariant.below

pub returns-in-None-clause-counted : goal.returns-in-None-clause-counted
returns-in-None-clause-counted c = subst AreAllBelow c.self.view_is c.self.invariant.below
