use Rattle.mps_heap_framing.proofs.Pushing.{pushed}
use Rattle.mps_heap_framing.proofs.framing.push.Goals as goal

pub returns : goal.returns
returns g c =
    pushed c.args.state.now _ c.args.name c.in_ok-pool.pool c.push.new.self c.push.result c.state.view_is c.in_ok-pool.ensures.1
    c.push.ensures.state c.push.ensures.few c.push.ensures.full
