use Rattle.std.proofs.Common.{ℕ, ◌<◌, ◌≡◌, ◌∙◌, List, [], length, map, get_or, sym, ap, subst, arith}
use Rattle.std.specs.Prelude.{Option, Some, None}
use Rattle.std.proofs.lemmas.List.{length-map}
use Rattle.mps_gen.specs.State.{ChainsState, generations_of}
use Rattle.mps_gen.proofs.Sound.{chain_is_known, generations_of_chain, seen_at, some_generation}
use Rattle.mps_gen.proofs.chains.Chains.generations_of.Goals as goal

known : (c : goal.After-len) → c.in-Some.chain < length c.self.inside.chains.items
known c =
    let chains = map (λ capacities. capacities.items) c.self.inside.chains.items in
    let P : ChainsState → Type 0 = λ s. c.args.pool < length s.of_pool in
    let Q : List (Option ℕ) → Type 0 = λ os. get_or os c.args.pool None ≡ Some c.in-Some.chain in
    omega (
      arith,
      chain_is_known chains c.self.inside.of_pool.items c.args.pool c.in-Some.chain c.self.invariant
          (subst P (sym c.self.view_is) c.requires) (subst Q c.deref.ensures.0 c.in-Some.is),
      length-map c.self.inside.chains.items (λ capacities. capacities.items),
    )

found : (c : goal.After-len)
    → get_or (map (λ capacities. capacities.items) c.self.inside.chains.items) c.in-Some.chain [] ≡ c.index-deref-chain.result.items
found c = seen_at (λ capacities. capacities.items) c.self.inside.chains.items c.in-Some.chain c.index-deref-chain.result (known c)
    (c.index-deref-chain.is ∙ ap (λ cs. get_or cs c.in-Some.chain c.index-deref-chain.result) c.deref-2.ensures.0)

pub bounds-deref-chain : goal.bounds-deref-chain
bounds-deref-chain c =
    let chains = map (λ capacities. capacities.items) c.self.inside.chains.items in
    let P : ChainsState → Type 0 = λ s. c.args.pool < length s.of_pool in
    let Q : List (Option ℕ) → Type 0 = λ os. get_or os c.args.pool None ≡ Some c.in-Some.chain in
    let known = chain_is_known chains c.self.inside.of_pool.items c.args.pool c.in-Some.chain c.self.invariant
    (subst P (sym c.self.view_is) c.requires) (subst Q c.deref.ensures.0 c.in-Some.is)
    in
    let one : length c.deref-2.result.now ≡ length c.self.inside.chains.items = ap length c.deref-2.ensures.0 in
    omega (arith, known, one, length-map c.self.inside.chains.items (λ capacities. capacities.items))

pub returns-clause-value : goal.returns-clause-value
returns-clause-value c =
    let chains = map (λ capacities. capacities.items) c.self.inside.chains.items in
    let P : ChainsState → Type 0 = λ s. c.args.pool < length s.of_pool in
    let Q : List (Option ℕ) → Type 0 = λ os. get_or os c.args.pool None ≡ Some c.in-Some.chain in
    let state : ChainsState = record { chains = chains; of_pool = c.self.inside.of_pool.items } in
    ap (λ (n : ℕ). Some n) (c.len.ensures.value ∙ ap length (sym (found c)))
    ∙ sym (generations_of_chain state c.args.pool c.in-Some.chain c.self.invariant (subst P (sym c.self.view_is) c.requires)
    (subst Q c.deref.ensures.0 c.in-Some.is))
    ∙ ap (λ (s : ChainsState). generations_of s c.args.pool) c.self.view_is

pub returns-clause-nonzero : goal.returns-clause-nonzero
returns-clause-nonzero c =
    let chains = map (λ capacities. capacities.items) c.self.inside.chains.items in
    let one : c.in-Some.chain < length chains =
    omega (arith, known c, length-map c.self.inside.chains.items (λ capacities. capacities.items)) in
    let P : List ℕ → Type 0 = λ capacities. 0 < length capacities in
    let some : 0 < length c.index-deref-chain.result.items =
    subst P (found c) (some_generation chains c.self.inside.of_pool.items c.in-Some.chain c.self.invariant one).nonempty in
    omega (arith, some, c.len.ensures.value)
