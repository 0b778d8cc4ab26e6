use Rattle.std.proofs.Common.{ℕ, List, map, sym, subst}
use Rattle.std.specs.Prelude.{Option}
use Rattle.mps_gen.specs.Inside.{IsSoundChains}
use Rattle.std.specs.Option.{ForSome}
use Rattle.std.proofs.Common.{◌<◌, length}
use Rattle.mps_gen.specs.State.{ChainsState}
use Rattle.mps_gen.proofs.Sound.{sound_with_pool}
use Rattle.mps_gen.proofs.chains.Chains.pool.Goals as goal

pub invariant_of-self : goal.invariant_of-self
invariant_of-self c =
    let chains = map (λ capacities. capacities.items) c.self.inside.chains.items in
    let P : List (Option ℕ) → Type 0 = λ pools. IsSoundChains chains pools in
    let Q : ChainsState → Type 0 = λ s. ForSome c.args.chain (λ number. number < length s.chains) in
    subst P (sym c.push.ensures.items) (sound_with_pool chains c.self.inside.of_pool.items c.args.chain c.self.invariant
    (subst Q (sym c.self.view_is) c.requires.known))
