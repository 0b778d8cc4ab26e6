use Rattle.mps_log_reader.specs.BadLog.{text_of_bad_log}
use Rattle.mps_event.specs.KindSet.{bits_of}
use Rattle.mps_log_reader.proofs.Reported.{reports_status, reports_no_memory, unopened}
use Rattle.mps_cnv.proofs.WriteFault.{cut_with}
use Rattle.mps_cnv.proofs.ReadFault.{fails_with}
use Rattle.mps_cnv.proofs.WholeReading.{converted_with}
use Rattle.mps_cnv.proofs.Uniqueness.{unique}
use Rattle.mps_cnv.proofs.conversion.cnv.Goals as goal

pub returns-clause-converted : goal.returns-clause-converted
returns-clause-converted g c whole bytes known =
    converted_with (bits_of c.args.kinds) c.report_ending.result bytes c.convert-ending.result (g.D.Desk.outside c.args.desk.now)
    (g.D.Desk.outside c.convert-ending.new.desk) (g.D.Desk.outside c.report_ending.new.desk)
    c.convert-ending.ensures.reported c.convert-ending.ensures.err_faults
    (c.convert-ending.ensures.converted bytes known) c.report_ending.ensures.done c.report_ending.ensures.quiet
    c.report_ending.ensures.status c.report_ending.ensures.reported

pub returns-clause-unique : goal.returns-clause-unique
returns-clause-unique g c whole bytes known =
    unique (bits_of c.args.kinds) bytes c.report_ending.result (g.D.Desk.outside c.args.desk.now)
    (g.D.Desk.outside c.report_ending.new.desk) whole
    (converted_with (bits_of c.args.kinds) c.report_ending.result bytes c.convert-ending.result (g.D.Desk.outside c.args.desk.now)
    (g.D.Desk.outside c.convert-ending.new.desk) (g.D.Desk.outside c.report_ending.new.desk)
    c.convert-ending.ensures.reported c.convert-ending.ensures.err_faults
    (c.convert-ending.ensures.converted bytes known) c.report_ending.ensures.done c.report_ending.ensures.quiet
    c.report_ending.ensures.status c.report_ending.ensures.reported)

pub returns-clause-reported : goal.returns-clause-reported
returns-clause-reported g c =
    reports_status text_of_bad_log c.report_ending.result c.convert-ending.result (g.D.Desk.outside c.args.desk.now)
    (g.D.Desk.outside c.convert-ending.new.desk) (g.D.Desk.outside c.report_ending.new.desk)
    c.convert-ending.ensures.reported c.convert-ending.ensures.err_faults c.report_ending.ensures.done c.report_ending.ensures.quiet
    c.report_ending.ensures.status c.report_ending.ensures.reported

pub returns-clause-broken : goal.returns-clause-broken
returns-clause-broken g c three bytes known =
    fails_with (bits_of c.args.kinds) c.report_ending.result bytes c.convert-ending.result (g.D.Desk.outside c.args.desk.now)
    (g.D.Desk.outside c.convert-ending.new.desk) (g.D.Desk.outside c.report_ending.new.desk) three
    (λ e. c.convert-ending.ensures.broken e bytes known) c.report_ending.ensures.done c.report_ending.ensures.status
    c.report_ending.ensures.reported

pub returns-clause-no_memory : goal.returns-clause-no_memory
returns-clause-no_memory g c eight =
    reports_no_memory text_of_bad_log c.report_ending.result c.convert-ending.result (g.D.Desk.outside c.args.desk.now)
    (g.D.Desk.outside c.convert-ending.new.desk) (g.D.Desk.outside c.report_ending.new.desk) eight
    c.convert-ending.ensures.no_memory c.report_ending.ensures.done c.report_ending.ensures.status c.report_ending.ensures.reported

pub returns-clause-cut : goal.returns-clause-cut
returns-clause-cut g c four bytes known =
    cut_with (bits_of c.args.kinds) c.report_ending.result bytes c.convert-ending.result (g.D.Desk.outside c.args.desk.now)
    (g.D.Desk.outside c.convert-ending.new.desk) (g.D.Desk.outside c.report_ending.new.desk) four
    (λ e. c.convert-ending.ensures.cut e bytes known) c.report_ending.ensures.done c.report_ending.ensures.status
    c.report_ending.ensures.reported

pub returns-clause-missing : goal.returns-clause-missing
returns-clause-missing g c nothing =
    unopened text_of_bad_log c.report_ending.result c.convert-ending.result (g.D.Desk.outside c.args.desk.now)
    (g.D.Desk.outside c.convert-ending.new.desk) (g.D.Desk.outside c.report_ending.new.desk)
    (c.convert-ending.ensures.missing nothing).0
    (c.convert-ending.ensures.missing nothing).1 c.report_ending.ensures.status c.report_ending.ensures.reported
