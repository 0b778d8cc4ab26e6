use Rattle.mps_blocks.proofs.Entries.{no_name, labelled}
use Rattle.mps_blocks.proofs.replay.Replay.label.Goals as goal

pub returns-then-id-self : goal.returns-then-id-self
returns-then-id-self c =
    rw (← c.self.view_is) (no_name c.self.inside.live c.self.inside.interned c.args.at c.args.id c.if-id-self.true)

pub returns : goal.returns
returns c =
    rw (← c.self.view_is) (labelled c.self.inside.live c.self.inside.interned c.args.at c.args.id c.touch.result
    c.if-id-self.false c.touch.ensures)
