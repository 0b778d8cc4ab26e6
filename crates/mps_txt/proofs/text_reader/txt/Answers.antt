use Rattle.mps_log_reader.proofs.Reported.{reports_status, unopened}
use Rattle.mps_txt.specs.BadTextLine.{text_of_bad_line}
use Rattle.mps_txt.proofs.WholeText.{read_with}
use Rattle.mps_txt.proofs.FailedWrite.{cut_with_status}
use Rattle.mps_txt.proofs.UniqueReading.{unique_reading}
use Rattle.mps_txt.proofs.text_reader.txt.Goals as goal

pub returns-clause-sound : goal.returns-clause-sound
returns-clause-sound g c bytes known =
    read_with c.report_ending.result bytes c.read_text-ending.result (g.D.Desk.outside c.args.desk.now)
    (g.D.Desk.outside c.read_text-ending.new.desk) (g.D.Desk.outside c.report_ending.new.desk)
    (record {
      quiet = c.read_text-ending.ensures.reported;
      faults = c.read_text-ending.ensures.err_faults;
      zero = c.report_ending.ensures.done;
      same = c.report_ending.ensures.quiet;
      status_is = c.report_ending.ensures.status;
      reports = c.report_ending.ensures.reported;
    })
    (c.read_text-ending.ensures.read bytes known)

pub returns-clause-unique : goal.returns-clause-unique
returns-clause-unique g c verdict bytes known =
    unique_reading bytes c.report_ending.result (g.D.Desk.outside c.args.desk.now) (g.D.Desk.outside c.report_ending.new.desk) verdict
    (returns-clause-sound g c bytes known)

pub returns-clause-reported : goal.returns-clause-reported
returns-clause-reported g c =
    reports_status text_of_bad_line c.report_ending.result c.read_text-ending.result (g.D.Desk.outside c.args.desk.now)
    (g.D.Desk.outside c.read_text-ending.new.desk) (g.D.Desk.outside c.report_ending.new.desk)
    c.read_text-ending.ensures.reported c.read_text-ending.ensures.err_faults c.report_ending.ensures.done c.report_ending.ensures.quiet
    c.report_ending.ensures.status c.report_ending.ensures.reported

pub returns-clause-cut : goal.returns-clause-cut
returns-clause-cut g c four bytes known =
    cut_with_status c.report_ending.result bytes c.read_text-ending.result (g.D.Desk.outside c.args.desk.now)
    (g.D.Desk.outside c.read_text-ending.new.desk) (g.D.Desk.outside c.report_ending.new.desk) four
    (λ e. c.read_text-ending.ensures.cut e bytes known) c.report_ending.ensures.done c.report_ending.ensures.status
    c.report_ending.ensures.reported

pub returns-clause-missing : goal.returns-clause-missing
returns-clause-missing g c nothing =
    unopened text_of_bad_line c.report_ending.result c.read_text-ending.result (g.D.Desk.outside c.args.desk.now)
    (g.D.Desk.outside c.read_text-ending.new.desk) (g.D.Desk.outside c.report_ending.new.desk)
    (c.read_text-ending.ensures.missing nothing).0
    (c.read_text-ending.ensures.missing nothing).1 c.report_ending.ensures.status c.report_ending.ensures.reported
