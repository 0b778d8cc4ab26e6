use Rattle.std.proofs.Common.{inr}
use Rattle.mps_log_reader.proofs.Opening.{opens, cut_header}
use Rattle.mps_log_reader.proofs.reading.open_log.Goals as goal

pub returns-clause-opened : goal.returns-clause-opened
returns-clause-opened g c bytes known =
    opens (g.D.Desk.outside c.open.new.self) (g.D.Desk.outside c.fill.new.desk) c.args.input.now c.fill.new.self c.take_header.new.input
    bytes
    ((g.D.Desk.outside c.args.desk.now).text c.args.log.now) c.take_header.result c.requires c.in-Ok.ensures.input c.fill.ensures.read
    c.fill.ensures.enough c.take_header.ensures.taken known

pub returns-clause-early : goal.returns-clause-early
returns-clause-early g c failed bytes known =
    inr
    (cut_header (g.D.Desk.outside c.open.new.self)
    (g.D.Desk.outside c.fill.new.desk) c.args.input.now c.fill.new.self c.take_header.new.input bytes
    ((g.D.Desk.outside c.args.desk.now).text c.args.log.now) c.take_header.result c.requires c.in-Ok.ensures.input c.fill.ensures.read
    c.take_header.ensures.taken known failed)
