use Rattle.mps_abstract.proofs.Due as due
use Rattle.mps_abstract.proofs.work_is_due.Goals as goal

pub returns : goal.returns
returns c = due.work_is_due
