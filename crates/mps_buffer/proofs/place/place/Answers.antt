use Rattle.mps_buffer.proofs.Placing.{rest_after}
use Rattle.mps_buffer.proofs.place.place.Goals as goal

pub returns-clause-rest : goal.returns-clause-rest
returns-clause-rest c =
    rest_after c.place-2.new.segs c.args.words c.args.p.now.is_copying c.place-2.result c.requires.nonzero c.place-2.ensures.all_free
    c.place-2.ensures.follows
