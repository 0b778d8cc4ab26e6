use Rattle.mps_abstract.proofs.FlipActs.Remembered.{remembered_is_enough, summaries_remember as shown}
use Rattle.mps_abstract.proofs.flips.summaries_remember.Goals as goal

pub returns-clause-remember : goal.returns-clause-remember
returns-clause-remember c = shown

pub returns-clause-enough : goal.returns-clause-enough
returns-clause-enough c = remembered_is_enough
