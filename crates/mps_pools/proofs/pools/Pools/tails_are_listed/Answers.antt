use Rattle.std.proofs.Common.{refl}
use Rattle.mps_pools.proofs.Sound.{is_trace_seen}
use Rattle.mps_pools.proofs.pools.Pools.tails_are_listed.Goals as goal

pub returns : goal.returns
returns g c = is_trace_seen _ c.args.self.now c.self.view_is c.self.inside.trace refl refl c.self.invariant.trace
