use Rattle.std.proofs.Common.{◌+◌, ◌<◌, ◌≡◌, ◌∙◌, length, sym, subst, arith}
use Rattle.mps_policy.proofs.Table.{HasHeld, nothing_held, chain_within, sum_fits, one_pool_held, no_pool_held, all_pools_held}
use Rattle.mps_policy.proofs.due.held_by_chains.Goals as goal
use Rattle.mps_policy.proofs.due.held_by_chains.Goals.{in-Some, in_default}

pub loop-pool-init : goal.loop-pool-init
loop-pool-init c = nothing_held c.args.chains.now c.args.segs.now.segments

pub bounds-held-chain : goal.bounds-held-chain
bounds-held-chain c =
    let below : c.loop-pool.pool < length c.args.chains.now.of_pool = omega (arith, c.loop-pool-test.true, c.pools-pool-end.ensures) in
    let within = chain_within c.args.chains.now c.args.segs.now.segments c.loop-pool.pool c.in-Some.chain c.loop-pool.held
    c.loop-pool.invariant (sym c.chain_of.ensures ∙ c.in-Some.is) c.are_sound.ensures.sound c.are_sound.ensures.few_chains below
    in
    within

pub with_pool-requires-clause-size : goal.with_pool-requires-clause-size
with_pool-requires-clause-size c =
    let below : c.loop-pool.pool < length c.args.chains.now.of_pool = omega (arith, c.loop-pool-test.true, c.pools-pool-end.ensures) in
    let within = chain_within c.args.chains.now c.args.segs.now.segments c.loop-pool.pool c.in-Some.chain c.loop-pool.held
    c.loop-pool.invariant (sym c.chain_of.ensures ∙ c.in-Some.is) c.are_sound.ensures.sound c.are_sound.ensures.few_chains below
    in
    c.loop-pool.invariant.rows c.in-Some.chain within

pub with_pool-requires-clause-fits : goal.with_pool-requires-clause-fits
with_pool-requires-clause-fits c generation young =
    let below : c.loop-pool.pool < length c.args.chains.now.of_pool = omega (arith, c.loop-pool-test.true, c.pools-pool-end.ensures) in
    let within = chain_within c.args.chains.now c.args.segs.now.segments c.loop-pool.pool c.in-Some.chain c.loop-pool.held
    c.loop-pool.invariant (sym c.chain_of.ensures ∙ c.in-Some.is) c.are_sound.ensures.sound c.are_sound.ensures.few_chains below
    in
    let fits = sum_fits c.args.chains.now c.args.segs.now.segments c.loop-pool.pool c.in-Some.chain c.loop-pool.held
    c.loop-pool.invariant (sym c.chain_of.ensures ∙ c.in-Some.is) within generation young
    in
    omega (arith, fits, c.committed.ensures, c.committed.type_inv)

pub bounds-held-chain-in-Some : goal.bounds-held-chain-in-Some
bounds-held-chain-in-Some c =
    let below : c.loop-pool.pool < length c.args.chains.now.of_pool = omega (arith, c.loop-pool-test.true, c.pools-pool-end.ensures) in
    let within = chain_within c.args.chains.now c.args.segs.now.segments c.loop-pool.pool c.in-Some.chain c.loop-pool.held
    c.loop-pool.invariant (sym c.chain_of.ensures ∙ c.in-Some.is) c.are_sound.ensures.sound c.are_sound.ensures.few_chains below
    in
    within

pub loop-pool-preserved : goal.loop-pool-preserved
loop-pool-preserved c =
    let chains = c.args.chains.now in
    let held = c.args.segs.now.segments in
    let now = c.loop-pool.pool in
    elim c.match-chain_of.branch [
      | in-Some w ↦
          let below : now < length chains.of_pool = omega (arith, c.loop-pool-test.true, c.pools-pool-end.ensures) in
          let on = sym c.chain_of.ensures ∙ w.in-Some.is in
          let chain = w.in-Some.chain in
          let within = chain_within chains held now chain c.loop-pool.held c.loop-pool.invariant on c.are_sound.ensures.sound
          c.are_sound.ensures.few_chains below
          in
          subst (λ (rows : _). HasHeld chains held (now + 1) rows) (sym w.held-is)
          (one_pool_held chains held now chain c.loop-pool.held c.loop-pool.invariant on within w.with_pool.result w.with_pool.ensures.size
          w.with_pool.ensures.added)
      | in_default w ↦
          subst (λ (rows : _). HasHeld chains held (now + 1) rows) (sym w.held-is)
          (no_pool_held chains held now c.loop-pool.held c.loop-pool.invariant (sym c.chain_of.ensures ∙ w.in_default.is))
    ]

pub returns-clause-size : goal.returns-clause-size
returns-clause-size c = c.loop-pool.invariant.size

pub returns-clause-rows : goal.returns-clause-rows
returns-clause-rows c = c.loop-pool.invariant.rows

pub returns-clause-held : goal.returns-clause-held
returns-clause-held c =
    let all : c.loop-pool.pool ≡ length c.args.chains.now.of_pool =
    omega (arith, c.loop-pool-test.false, c.loop-pool.auto.pool-end, c.pools-pool-end.ensures)
    in
    all_pools_held c.args.chains.now c.args.segs.now.segments c.loop-pool.pool c.loop-pool.held all c.loop-pool.invariant
