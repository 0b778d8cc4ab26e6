use Rattle.std.proofs.Common.{subst, sym, IsSome}
use Rattle.mps_snc.specs.State.{pool_at}
use Rattle.mps_heap_framing.specs.Closing.{IsLastFreed}
use Rattle.mps_heap_framing.proofs.Closing.{last_freed}
use Rattle.mps_heap_framing.proofs.framing.free_last.Goals as goal

pub returns : goal.returns
returns g c =
    subst (λ h. IsLastFreed h c.args.trail.now c.args.pool c.args.frame c.free_block.new.state c.free_block.new.trail) c.state.view_is
    (last_freed _ c.args.trail.now c.args.pool c.args.frame
    (subst (λ h. IsSome (pool_at h.beside.frames c.args.pool)) (sym c.state.view_is) c.requires.there) c.in-Some.block
    c.in-Some.ensures.0 c.in-Some.ensures.1 c.pop.new.self c.in-Some.ensures.2 c.empty_place.new.roots c.empty_place.ensures
    c.free_block.new.state c.free_block.ensures.state c.free_block.new.trail c.free_block.ensures.moves)
