use Rattle.mps_amc.proofs.PartSeen.{forwards_whole, unforwarded_whole}
use Rattle.mps_amc.proofs.amc.forwarded_from.Goals as goal

pub returns-clause-sound : goal.returns-clause-sound
returns-clause-sound g c =
    forwards_whole (g.F.Format.layout c.args.format.now) c.args.segs.now.words c.words_from.result.now c.args.at.0
    (record { value = c.words_from.ensures.value; complete = c.words_from.ensures.complete })
    c.forwarded.result c.forwarded.ensures.complete c.forwarded.ensures.sound

pub returns-clause-complete : goal.returns-clause-complete
returns-clause-complete g c =
    unforwarded_whole (g.F.Format.layout c.args.format.now) c.args.segs.now.words c.words_from.result.now c.args.at.0
    (record { value = c.words_from.ensures.value; complete = c.words_from.ensures.complete })
    c.forwarded.result c.forwarded.ensures.complete
