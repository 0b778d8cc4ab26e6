use Rattle.mps_program.proofs.GoodInput.{converted_well, read_well, listed_well}
use Rattle.mps_program.proofs.laws.a_good_input_is_read_to_its_end.Goals as goal

pub returns-clause-converted : goal.returns-clause-converted
returns-clause-converted c = λ log kinds status old new does none memory. converted_well status old new none memory log kinds does

pub returns-clause-read : goal.returns-clause-read
returns-clause-read c = λ text status old new does none memory. read_well status old new none memory text does

pub returns-clause-listed : goal.returns-clause-listed
returns-clause-listed c = λ log status old new does none memory. listed_well status old new none memory log does
