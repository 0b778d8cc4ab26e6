use Rattle.mps_session.specs.Memory.{call_takes_memory}
use Rattle.mps_run.proofs.GoodScript.{good_script}
use Rattle.mps_run.proofs.Following.{answers_whole, runs_whole, log_in_its_file}
use Rattle.mps_program.proofs.laws.a_run_by_its_words.Goals as goal

pub returns-clause-answered : goal.returns-clause-answered
returns-clause-answered c = λ log script status old new does. answers_whole call_takes_memory log script status old new does

pub returns-clause-good : goal.returns-clause-good
returns-clause-good c = λ log script status old new does. good_script call_takes_memory log script status old new does

pub returns-clause-ran : goal.returns-clause-ran
returns-clause-ran c = λ log script status old new does. runs_whole call_takes_memory log script status old new does

pub returns-clause-file : goal.returns-clause-file
returns-clause-file c = λ log script status old new does. log_in_its_file call_takes_memory log script status old new does
