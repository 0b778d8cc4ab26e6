use Rattle.std.proofs.Common.{ℕ, List, [], ◌++◌, ◌∷◌, ◌≡◌, ◌∙◌, map, sym, ap, subst}
use Rattle.std.proofs.lemmas.List.{map-append}
use Rattle.mps_gen.specs.Inside.{IsSoundChains}
use Rattle.mps_gen.proofs.Sound.{sound_with_chain}
use Rattle.mps_gen.proofs.chains.Chains.chain.Goals as goal

pub invariant_of-self : goal.invariant_of-self
invariant_of-self c =
    let pools = c.self.inside.of_pool.items in
    let given = c.args.capacities.now in
    let before = map (λ capacities. capacities.items) c.self.inside.chains.items in
    let made : c.in-Ok.chain.items ≡ given = c.in-Ok.ensures.0 in
    let after : map (λ capacities. capacities.items) c.push.new.self.items ≡ before ++ given ∷ [] =
    ap (λ cs. map (λ capacities. capacities.items) cs) c.push.ensures.items
    ∙ map-append (λ capacities. capacities.items) c.self.inside.chains.items (c.in-Ok.chain ∷ [])
    ∙ ap (λ (one : List ℕ). before ++ one ∷ []) made
    in
    let P : List (List ℕ) → Type 0 = λ chains. IsSoundChains chains pools in
    subst P (sym after) (sound_with_chain before pools given c.self.invariant
    (record { nonempty = c.requires.nonempty; at_most = c.requires.at_most }))
