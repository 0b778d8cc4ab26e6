use Rattle.mps_gathering.proofs.Begun.{nothing_waits_yet}
use Rattle.mps_gathering.proofs.gathering.Gathering.new.Goals as goal

pub returns : goal.returns
returns g c =
    nothing_waits_yet (g.D.Desk.outside c.args.inner) c.new.result c.new-2.result c.new.ensures.nothing_waits c.new-2.ensures.nothing_waits
    (λ name. g.met.D.Desk.text_of_files c.args.inner name)
