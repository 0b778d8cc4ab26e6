use Rattle.mps_abstract.proofs.Gone.{reachable_with_kept}
use Rattle.mps_abstract.proofs.reachable_is_kept.Goals as goal

pub returns : goal.returns
returns c = λ x run drained except id path.
    reachable_with_kept x.world x.running x.colours run.coloured run.settled drained except id path
