use Rattle.mps_log_reader.proofs.Reported.{reports_status}
use Rattle.mps_blocks.specs.BadReplay.{text_of_bad_replay}
use Rattle.mps_blocks.proofs.WholeReplay.{listed_with, cut_part}
use Rattle.mps_blocks.proofs.Uniqueness.{unique}
use Rattle.mps_blocks.proofs.command.blocks.Goals as goal

pub returns-clause-listed : goal.returns-clause-listed
returns-clause-listed g c whole bytes known =
    listed_with bytes c.report_ending.result (g.D.Desk.outside c.args.desk.now) (g.D.Desk.outside c.list_blocks-ending.new.desk)
    (g.D.Desk.outside c.report_ending.new.desk) c.list_blocks-ending.result whole
    c.list_blocks-ending.ensures.reported c.list_blocks-ending.ensures.err_faults
    (c.list_blocks-ending.ensures.listed bytes known) c.report_ending.ensures.done c.report_ending.ensures.quiet
    c.report_ending.ensures.status c.report_ending.ensures.reported

pub returns-clause-unique : goal.returns-clause-unique
returns-clause-unique g c whole bytes known =
    unique bytes c.report_ending.result (g.D.Desk.outside c.args.desk.now) (g.D.Desk.outside c.report_ending.new.desk)
    (listed_with bytes c.report_ending.result (g.D.Desk.outside c.args.desk.now) (g.D.Desk.outside c.list_blocks-ending.new.desk)
    (g.D.Desk.outside c.report_ending.new.desk) c.list_blocks-ending.result whole
    c.list_blocks-ending.ensures.reported c.list_blocks-ending.ensures.err_faults
    (c.list_blocks-ending.ensures.listed bytes known) c.report_ending.ensures.done c.report_ending.ensures.quiet
    c.report_ending.ensures.status c.report_ending.ensures.reported)

pub returns-clause-cut : goal.returns-clause-cut
returns-clause-cut g c four bytes known =
    cut_part bytes c.report_ending.result (g.D.Desk.outside c.args.desk.now) (g.D.Desk.outside c.list_blocks-ending.new.desk)
    (g.D.Desk.outside c.report_ending.new.desk) c.list_blocks-ending.result four
    (c.list_blocks-ending.ensures.listed bytes known) c.report_ending.ensures.done c.report_ending.ensures.status
    c.report_ending.ensures.reported

pub returns-clause-reported : goal.returns-clause-reported
returns-clause-reported g c =
    reports_status text_of_bad_replay c.report_ending.result c.list_blocks-ending.result (g.D.Desk.outside c.args.desk.now)
    (g.D.Desk.outside c.list_blocks-ending.new.desk) (g.D.Desk.outside c.report_ending.new.desk)
    c.list_blocks-ending.ensures.reported c.list_blocks-ending.ensures.err_faults c.report_ending.ensures.done
    c.report_ending.ensures.quiet c.report_ending.ensures.status c.report_ending.ensures.reported
