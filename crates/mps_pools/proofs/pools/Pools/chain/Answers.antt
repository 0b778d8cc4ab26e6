use Rattle.std.proofs.Common.{rules}
use Rattle.mps_pools.proofs.Sound.{is_sound_with_chain}
use Rattle.mps_pools.proofs.pools.Pools.chain.Goals as goal

pub invariant_of-self-2 : goal.invariant_of-self-2
invariant_of-self-2 g c =
    is_sound_with_chain c.self.inside.pools.items c.self.inside.generations.items c.push.new.self.items c.self.inside.trace
    c.chain.new.self c.args.capacities.now c.self.invariant (search rules) (search rules) (search rules)
