use Rattle.mps_run.proofs.GoodScript.{good_script}
use Rattle.mps_run.proofs.laws.a_good_script_ends_well.Goals as goal

pub returns : goal.returns
returns c = λ takes_memory log script status old new r. good_script takes_memory log script status old new r
