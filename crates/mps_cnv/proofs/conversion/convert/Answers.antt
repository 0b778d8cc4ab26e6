use Rattle.std.proofs.Common.{◌++◌, ◌∙◌, ap, List, ℕ, arith}
use Rattle.mps_log_reader.specs.Opening.{first_line}
use Rattle.mps_event.specs.KindSet.{bits_of}
use Rattle.mps_log_reader.specs.PutOut.{put_out}
use Rattle.mps_cnv.proofs.WriteFault.{cuts_log}
use Rattle.mps_cnv.proofs.ReadFault.{fails_log}
use Rattle.mps_cnv.proofs.WholeReading.{converts_log}
use Rattle.mps_cnv.proofs.conversion.convert.Goals as goal

pub returns-clause-converted : goal.returns-clause-converted
returns-clause-converted g c bytes known =
    let line = c.put_first_line.ensures ∙ ap (λ (x : List ℕ). x ++ first_line c.in_ok-version.version) c.in-Ok-new.ensures in
    converts_log _ c.in_ok-version.version (bits_of c.args.kinds) bytes c.put_first_line.new.output
    (g.D.Desk.outside c.args.desk.now) (g.D.Desk.outside c.open_log.new.desk) (g.D.Desk.outside c.convert_records-ending.new.desk)
    (g.D.Desk.outside c.flush_after.new.desk)
    c.open_log.new.input (put_out (g.D.Desk.outside c.convert_records-ending.new.desk) c.convert_records-ending.new.output)
    c.convert_records-ending.result c.flush_after.result
    (c.in_ok-version.ensures.opened bytes known) c.open_log.ensures.printed line c.convert_records-ending.ensures.all
    c.flush_after.ensures.first c.flush_after.ensures.printed

pub returns-clause-broken : goal.returns-clause-broken
returns-clause-broken g c failed bytes known =
    let line = c.put_first_line.ensures ∙ ap (λ (x : List ℕ). x ++ first_line c.in_ok-version.version) c.in-Ok-new.ensures in
    fails_log _ c.in_ok-version.version (bits_of c.args.kinds) bytes c.put_first_line.new.output c.convert_records-ending.new.output
    (g.D.Desk.outside c.args.desk.now) (g.D.Desk.outside c.open_log.new.desk) (g.D.Desk.outside c.convert_records-ending.new.desk)
    (g.D.Desk.outside c.flush_after.new.desk)
    c.open_log.new.input c.convert_records-ending.result c.flush_after.result
    (c.in_ok-version.ensures.opened bytes known) c.open_log.ensures.printed line c.convert_records-ending.ensures.broken
    c.convert_records-ending.ensures.grows c.flush_after.ensures.first c.flush_after.ensures.input
    (omega (arith, c.open_log.ensures.runs.out_counted, c.convert_records-ending.ensures.works.runs.out_counted))
    c.flush_after.ensures.front failed

pub returns-clause-cut : goal.returns-clause-cut
returns-clause-cut g c failed bytes known =
    let line = c.put_first_line.ensures ∙ ap (λ (x : List ℕ). x ++ first_line c.in_ok-version.version) c.in-Ok-new.ensures in
    cuts_log c.in_ok-version.version (bits_of c.args.kinds) bytes c.put_first_line.new.output c.convert_records-ending.new.output
    (g.D.Desk.outside c.args.desk.now) (g.D.Desk.outside c.open_log.new.desk) (g.D.Desk.outside c.convert_records-ending.new.desk)
    (g.D.Desk.outside c.flush_after.new.desk)
    c.open_log.new.input c.convert_records-ending.result
    (c.in_ok-version.ensures.opened bytes known) c.open_log.ensures.printed line c.convert_records-ending.ensures.cut
    c.convert_records-ending.ensures.broken c.convert_records-ending.ensures.all
    c.convert_records-ending.ensures.grows c.flush_after.ensures.no_more (c.flush_after.ensures.part failed)
