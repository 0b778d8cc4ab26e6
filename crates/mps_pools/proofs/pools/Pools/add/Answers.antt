use Rattle.std.proofs.Common.{rules}
use Rattle.mps_pools.proofs.Sound.{is_sound_with}
use Rattle.mps_pools.proofs.pools.Pools.add.Goals as goal

pub invariant_of-self-2 : goal.invariant_of-self-2
invariant_of-self-2 g c =
    is_sound_with c.self.inside.pools.items c.push.new.self.items c.self.inside.generations.items c.self.inside.trace
    c.add_pool.new.self c.args.pool c.args.chain c.self.invariant (search rules) (search rules) (search rules) (search rules)
