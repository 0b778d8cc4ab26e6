use Rattle.std.proofs.Common.{ℕ, ◌≡◌, ◌∙◌, ◌+◌, map, drop, sym, ap, arith}
use Rattle.std.specs.Prelude.{Option, None}
use Rattle.std.specs.Option.{option_map}
use Rattle.std.proofs.lemmas.List.{length-map}
use Rattle.mps_base.specs.Generation.{Due, due_or, due_from}
use Rattle.mps_gen.specs.Due.{in_numbers}
use Rattle.mps_gen.specs.State.{loads}
use Rattle.mps_gen.proofs.Rest.{due_with_chain, none_due_from}
use Rattle.mps_gen.proofs.chains.due_from.Goals as goal

pub returns-in-Some : goal.returns-in-Some
returns-in-Some c =
    let index = c.loop-index.index in
    let n = c.args.number + index in
    let chains = map (λ capacities. capacities.items) c.args.chains.now in
    let later = due_from (c.args.number + (index + 1)) (loads (drop (index + 1) chains) (drop (index + 1) c.args.held.now)) in
    let due = due_with_chain (λ capacities. capacities.items) c.args.number c.args.chains.now c.args.held.now index
    c.index-chains-index.result c.deref.result.now c.greatest_over.result _
    (omega (arith, c.min-index-end.ensures, c.loop-index-test.true))
    (omega (arith, c.min-index-end.ensures, c.loop-index-test.true))
    c.index-chains-index.is c.deref.ensures.0 c.greatest_over.ensures c.loop-index.invariant
    in
    ap (λ (o : Option Due). option_map in_numbers o) (sym (ap (λ (o : Option ℕ). due_or n o later) c.in-Some.is) ∙ due)

pub loop-index-preserved : goal.loop-index-preserved
loop-index-preserved c =
    let index = c.loop-index.index in
    let n = c.args.number + index in
    let chains = map (λ capacities. capacities.items) c.args.chains.now in
    let later = due_from (c.args.number + (index + 1)) (loads (drop (index + 1) chains) (drop (index + 1) c.args.held.now)) in
    let due = due_with_chain (λ capacities. capacities.items) c.args.number c.args.chains.now c.args.held.now index
    c.index-chains-index.result c.deref.result.now c.greatest_over.result _
    (omega (arith, c.min-index-end.ensures, c.loop-index-test.true))
    (omega (arith, c.min-index-end.ensures, c.loop-index-test.true))
    c.index-chains-index.is c.deref.ensures.0 c.greatest_over.ensures c.loop-index.invariant
    in
    sym (ap (λ (o : Option ℕ). due_or n o later) c.in_default.is) ∙ due

pub returns : goal.returns
returns c =
    let index = c.loop-index.index in
    let chains = map (λ capacities. capacities.items) c.args.chains.now in
    let none : due_from (c.args.number + index) (loads (drop index chains) (drop index c.args.held.now)) ≡ None =
    none_due_from (c.args.number + index) chains c.args.held.now index
    (omega (arith, c.min-index-end.ensures, c.loop-index-test.false, length-map c.args.chains.now (λ capacities. capacities.items)))
    in
    ap (λ (o : Option Due). option_map in_numbers o) (sym none ∙ c.loop-index.invariant)
