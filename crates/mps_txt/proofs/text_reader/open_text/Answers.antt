use Rattle.std.proofs.Common.{◌∙◌}
use Rattle.mps_txt.proofs.FirstLine.{opens_text, opens_whole_line}
use Rattle.mps_txt.proofs.text_reader.open_text.Goals as goal

pub returns-clause-opened : goal.returns-clause-opened
returns-clause-opened g c bytes known =
    opens_text (g.D.Desk.outside c.open.new.self) (g.D.Desk.outside c.fill.new.desk) c.args.input.now c.fill.new.self bytes
    (record { start = c.requires; known = c.in-Ok.ensures.input ∙ known; reads = c.fill.ensures.read; enough = c.fill.ensures.enough })
    c.take_first_line.new.input (g.D.Desk.outside c.args.desk.now).input c.take_first_line.result c.take_first_line.ensures.taken

pub returns-clause-whole : goal.returns-clause-whole
returns-clause-whole g c bytes known =
    opens_whole_line (g.D.Desk.outside c.open.new.self) (g.D.Desk.outside c.fill.new.desk) c.args.input.now c.fill.new.self bytes
    (record { start = c.requires; known = c.in-Ok.ensures.input ∙ known; reads = c.fill.ensures.read; enough = c.fill.ensures.enough })
    c.take_first_line.new.input c.take_first_line.result c.take_first_line.ensures.taken
