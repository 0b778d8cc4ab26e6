use Rattle.mps_script.proofs.Scripts.{script_grows}
use Rattle.mps_script.proofs.laws.a_script_grows_line_by_line.Goals as goal

pub returns : goal.returns
returns c = λ lines line e. script_grows lines line e
