use Rattle.std.proofs.Common.{◌≡◌, subst, true}
use Rattle.mps_log_reader.specs.Ending.{is_input_verdict}
use Rattle.mps_report.proofs.Waiting.{reports_written}
use Rattle.mps_run.proofs.Leaving.{leaves_then_reported}
use Rattle.mps_run.proofs.LogFile.{in_file_then_reported, logs_into_then_reported, missing_then_reported}
use Rattle.mps_run.proofs.Reported.{asks_then_reported, cause_then_reported, steady_then_reported, log_written_then_reported, IsReported, is_reported, reported_after}
use Rattle.mps_run.proofs.run.run_script.Goals as goal

pub returns-clause-runs : goal.returns-clause-runs
returns-clause-runs g c =
    let old = g.D.Desk.outside c.args.desk.now in
    let mid = g.D.Desk.outside c.run-ending.new.desk in
    let new = g.D.Desk.outside c.report_ending.new.desk in
    let ending = c.run-ending.result in
    let run = c.run-ending.ensures in
    let report : IsReported ending c.report_ending.result mid new =
    is_reported ending c.report_ending.result mid new c.report_ending.ensures.done c.report_ending.ensures.quiet
    c.report_ending.ensures.status c.report_ending.ensures.reported in
    record {
      ends = ending;
      status_is = report.status_is;
      reported = reported_after ending old mid new run.runs report.reported;
      cause = cause_then_reported ending old mid new report.others run.cause;
      asked = asks_then_reported c.args.log.now c.args.script.now old mid new report.others ending run.asked;
      steady = λ whole.
          steady_then_reported old mid new (run.steady (subst (λ n. is_input_verdict n ≡ true) report.status_is whole)) report.others;
      leaves = λ bytes e. leaves_then_reported g.C.Commands.takes_memory bytes old mid new report.others ending (run.leaves bytes e);
      written = λ whole.
          reports_written mid new report.others (run.written (subst (λ n. is_input_verdict n ≡ true) report.status_is whole));
      log_written = log_written_then_reported ending c.report_ending.result mid new report.others report.status_is run.log_written;
      in_file = λ whole.
          in_file_then_reported c.args.log.now old mid new
          (run.whole_log (subst (λ n. is_input_verdict n ≡ true) report.status_is whole)) report.others;
      filed = logs_into_then_reported c.args.log.now old mid new run.filed report.others;
      missing = λ nothing.
          let found = run.missing nothing in
          missing_then_reported c.report_ending.result ending old mid new report.status_is found.0 found.1 found.2 report.others;
    }
