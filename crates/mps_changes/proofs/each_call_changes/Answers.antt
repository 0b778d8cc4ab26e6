use Rattle.mps_changes.proofs.ActChanges.{act_changes_so}
use Rattle.mps_changes.proofs.each_call_changes.Goals as goal

pub returns : goal.returns
returns c = act_changes_so
