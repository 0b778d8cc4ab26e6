use Rattle.std.proofs.Common.{◌≡◌, Some, ◌∙◌, ap, refl, inl, inr, arith}
use Rattle.mps_lines.specs.Buffer.{LineBuffer, rest_of_script}
use Rattle.mps_run.specs.Leaving.{log_header}
use Rattle.mps_report.specs.Streams.{appended}
use Rattle.mps_run.proofs.Turns.{steady_then}
use Rattle.mps_report.proofs.Logging.{takes_then, takes_of_logs, takes_of_part}
use Rattle.mps_run.proofs.LogFile.{in_file}
use Rattle.mps_run.proofs.Leaving.{leaves_after_header, leaves_unbegun}
use Rattle.mps_log_reader.proofs.Steady.{asks_nothing, asks_then_nothing}
use Rattle.mps_run.specs.Ending.{requests_of_run}
use Rattle.mps_run.proofs.Reported.{asked_for_both}
use Rattle.mps_run.proofs.run.run.Goals as goal

pub returns-clause-filed : goal.returns-clause-filed
returns-clause-filed g c =
    inl (in_file c.args.log.now (g.D.Desk.outside c.args.desk.now) (g.D.Desk.outside c.open_files.new.desk)
    (g.D.Desk.outside c.run_all_lines.new.desk)
    c.open_files.ensures.unbegun.logged c.in-Ok-open_files.ensures.made
    (takes_then _ _ _ (takes_of_logs _ _ _ c.in-Ok-log_header.ensures.logged) c.run_all_lines.ensures.takes))

pub returns-clause-whole_log : goal.returns-clause-whole_log
returns-clause-whole_log g c whole =
    in_file c.args.log.now (g.D.Desk.outside c.args.desk.now) (g.D.Desk.outside c.open_files.new.desk)
    (g.D.Desk.outside c.run_all_lines.new.desk)
    c.open_files.ensures.unbegun.logged c.in-Ok-open_files.ensures.made
    (takes_then _ _ _ (takes_of_logs _ _ _ c.in-Ok-log_header.ensures.logged) c.run_all_lines.ensures.takes)

pub returns-in_default-log_header-clause-filed : goal.returns-in_default-log_header-clause-filed
returns-in_default-log_header-clause-filed g c =
    inl (in_file c.args.log.now (g.D.Desk.outside c.args.desk.now) (g.D.Desk.outside c.open_files.new.desk)
    (g.D.Desk.outside c.log_header.new.desk)
    c.open_files.ensures.unbegun.logged c.in-Ok-open_files.ensures.made (takes_of_part _ _ _ c.in_default-log_header.ensures.failed))

pub returns-in_default-clause-filed : goal.returns-in_default-clause-filed
returns-in_default-clause-filed g c = inr (record { logged = refl; files = refl })

pub returns-in-Err-clause-filed : goal.returns-in-Err-clause-filed
returns-in-Err-clause-filed g c = inr (record { logged = c.open_files.ensures.unbegun.logged; files = c.in-Err.ensures.unmade })

pub returns-clause-leaves : goal.returns-clause-leaves
returns-clause-leaves g c bytes e =
    let input : (g.D.Desk.outside c.log_header.new.desk).input ≡ Some bytes =
    c.in-Ok-log_header.ensures.logged.others.input ∙ (c.in-Ok-open_files.ensures.input ∙ e) in
    let left : rest_of_script c.in-Ok.lines (g.D.Desk.outside c.log_header.new.desk).input ≡ Some bytes =
    ap (rest_of_script c.in-Ok.lines) input ∙ ap (λ (w : LineBuffer). rest_of_script w (Some bytes)) c.in-Ok.ensures in
    leaves_after_header g.C.Commands.takes_memory c.run_all_lines.result bytes (g.D.Desk.outside c.args.desk.now)
    (g.D.Desk.outside c.log_header.new.desk)
    (g.D.Desk.outside c.run_all_lines.new.desk)
    (omega (arith, c.open_files.ensures.runs.counts.out_faults, c.in-Ok-log_header.ensures.logged.others.out_faults))
    (c.in-Ok-log_header.ensures.logged.others.printed ∙ c.open_files.ensures.unbegun.printed)
    (c.in-Ok-log_header.ensures.logged.logged ∙ ap (λ known. appended known log_header) c.open_files.ensures.unbegun.logged)
    (c.run_all_lines.ensures.leaves bytes left)

pub returns-in-Err-clause-leaves : goal.returns-in-Err-clause-leaves
returns-in-Err-clause-leaves g c bytes e =
    leaves_unbegun g.C.Commands.takes_memory c.in-Err.stop bytes (g.D.Desk.outside c.args.desk.now) (g.D.Desk.outside c.open_files.new.desk)
    c.in-Err.ensures.failed c.open_files.ensures.unbegun

pub returns-clause-asked : goal.returns-clause-asked
returns-clause-asked g c =
    asked_for_both c.args.log.now c.args.script.now (g.D.Desk.outside c.args.desk.now) (g.D.Desk.outside c.open_files.new.desk)
    (g.D.Desk.outside c.run_all_lines.new.desk) c.run_all_lines.result c.in-Ok-open_files.ensures.asked
    (c.run_all_lines.ensures.takes.asked ∙ c.in-Ok-log_header.ensures.logged.others.asked)

pub returns-in_default-clause-asked : goal.returns-in_default-clause-asked
returns-in_default-clause-asked g c = inl (asks_nothing (g.D.Desk.outside c.args.desk.now) (g.D.Desk.outside c.args.desk.now) refl)

pub returns-in_default-log_header-clause-asked : goal.returns-in_default-log_header-clause-asked
returns-in_default-log_header-clause-asked g c =
    asks_then_nothing (g.D.Desk.outside c.args.desk.now) (g.D.Desk.outside c.open_files.new.desk) (g.D.Desk.outside c.log_header.new.desk)
    (requests_of_run c.args.log.now c.args.script.now) c.in-Ok-open_files.ensures.asked c.in_default-log_header.ensures.failed.others.asked

pub returns-clause-steady : goal.returns-clause-steady
returns-clause-steady g c whole =
    let logs = c.in-Ok-log_header.ensures.logged in
    steady_then (g.D.Desk.outside c.args.desk.now) (g.D.Desk.outside c.open_files.new.desk) (g.D.Desk.outside c.run_all_lines.new.desk)
    c.in-Ok-open_files.ensures.steady
    (steady_then (g.D.Desk.outside c.open_files.new.desk) (g.D.Desk.outside c.log_header.new.desk)
    (g.D.Desk.outside c.run_all_lines.new.desk)
    (record { in_faults = logs.others.in_faults; log_faults = logs.steady; out_faults = logs.others.out_faults })
    (c.run_all_lines.ensures.steady whole))
