use Rattle.mps_session.specs.Memory.{call_takes_memory}
use Rattle.mps_run.proofs.Following.{log_in_its_file}
use Rattle.mps_program.proofs.ReadBack.{read_back}
use Rattle.mps_program.proofs.laws.a_runs_log_can_be_read.Goals as goal

pub returns-clause-run : goal.returns-clause-run
returns-clause-run c = λ log script status old new does verdict files known before logged bytes text.
    let holds = log_in_its_file call_takes_memory log script status old new does verdict files known before logged bytes text in
    (holds, read_back holds.ran holds.history holds.run)

pub returns-clause-history : goal.returns-clause-history
returns-clause-history c = λ ran history runs. read_back ran history runs
