use Rattle.std.proofs.Common.{◌∙◌, sym, subst}
use Rattle.mps_report.proofs.Waiting.{reports_written}
use Rattle.mps_run.proofs.LogFile.{in_file_then_reported, logs_into_then_reported}
use Rattle.mps_run.proofs.Reported.{cause_then_reported, steady_then_reported, log_written_then_reported, IsReported, is_reported, reported_after}
use Rattle.mps_log_reader.proofs.Steady.{asks_then_nothing}
use Rattle.mps_desk.specs.Desk.{making}
use Rattle.std.proofs.Common.{[], ◌∷◌}
use Rattle.mps_workload.specs.Script.{script}
use Rattle.mps_generated.proofs.Ends.{IsStatus, known_status, then_reported, went_well}
use Rattle.mps_generated.proofs.run.run_generated.Goals as goal

pub returns-clause-runs : goal.returns-clause-runs
returns-clause-runs g c =
    let old = g.D.Desk.outside c.args.desk.now in
    let mid = g.D.Desk.outside c.run-ending.new.desk in
    let new = g.D.Desk.outside c.report_ending.new.desk in
    let ending = c.run-ending.result in
    let run = c.run-ending.ensures in
    let report : IsReported ending c.report_ending.result mid new =
    is_reported ending c.report_ending.result mid new c.report_ending.ensures.done c.report_ending.ensures.quiet
    c.report_ending.ensures.status c.report_ending.ensures.reported in
    record {
      ends = ending;
      status_is = report.status_is;
      reported = reported_after ending old mid new run.runs report.reported;
      cause = cause_then_reported ending old mid new report.others run.cause;
      asked = asks_then_nothing old mid new (making c.args.log.now ∷ []) run.asked report.others.asked;
      unread = report.others.input ∙ run.unread;
      in_faults = report.others.in_faults ∙ run.in_faults;
      leaves = then_reported g.C.Commands.takes_memory ending (script c.args.seed c.args.count) old mid new report.others run.leaves;
      steady = λ zero. steady_then_reported old mid new (went_well ending (sym report.status_is ∙ zero) run.steady) report.others;
      written = λ zero. reports_written mid new report.others (went_well ending (sym report.status_is ∙ zero) run.written);
      log_written = log_written_then_reported ending c.report_ending.result mid new report.others report.status_is run.log_written;
      in_file = λ zero.
          in_file_then_reported c.args.log.now old mid new (went_well ending (sym report.status_is ∙ zero) run.in_file) report.others;
      filed = logs_into_then_reported c.args.log.now old mid new run.filed report.others;
    }

pub returns-clause-statuses : goal.returns-clause-statuses
returns-clause-statuses g c =
    let old = g.D.Desk.outside c.args.desk.now in
    let mid = g.D.Desk.outside c.run-ending.new.desk in
    let new = g.D.Desk.outside c.report_ending.new.desk in
    let ending = c.run-ending.result in
    let report : IsReported ending c.report_ending.result mid new =
    is_reported ending c.report_ending.result mid new c.report_ending.ensures.done c.report_ending.ensures.quiet
    c.report_ending.ensures.status c.report_ending.ensures.reported in
    subst IsStatus (sym report.status_is)
    (known_status g.C.Commands.takes_memory ending (script c.args.seed c.args.count) old mid c.run-ending.ensures.leaves)
