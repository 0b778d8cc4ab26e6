-- `chain`: a chain that is made stands for that of the model.
use Rattle.std.proofs.Common.{◌≡◌, ◌∙◌, ℕ, ◌+◌, refl, sym, ap, subst, List, [], ◌∷◌, ◌++◌, length, None, arith}
use Rattle.std.proofs.lemmas.List.{length-append}
use Rattle.std.specs.Prelude.{Result, nat_le, take}
use Rattle.mps_base.specs.declared.names.Name.{Name}
use Rattle.mps_base.specs.declared.refusal.Refusal.{Refusal}
use Rattle.mps_base.specs.declared.refusal.Refusal.TheVariants as refusal
use Rattle.mps_format.specs.Layout.{Layout}
use Rattle.mps_laws.proofs.Same.{same_next, same_refuse_when}
use Rattle.mps_model.specs.declared.call.Call.TheVariants as call
use Rattle.mps_model.specs.Checked.{◌>>◌, done, named}
use Rattle.mps_model.specs.Graph as graph
use Rattle.mps_model.specs.Graph.{with_last}
use Rattle.mps_model.specs.Making as model
use Rattle.mps_model.specs.Making.{most_chains, refuse_at_limit}
use Rattle.mps_model.specs.World.{World}
use Rattle.mps_names.specs.State.{thing_named}
use Rattle.mps_names.specs.declared.names.Thing.TheVariants as thing
use Rattle.mps_trace.specs.GenState.{ChainsState}
use Rattle.mps_pools.specs.Pools.{with_chain}
use Rattle.mps_heap_spec.specs.Making.{IsMaking, MakesChain, check_chain, refuse_taken}
use Rattle.mps_heap_spec.specs.State.{HeapState}
use Rattle.mps_refinement.proofs.Worlds.CollectorKept.{KeepsAll, all_kept}
use Rattle.mps_refinement.specs.Making.{IsRightMaking}
use Rattle.mps_refinement.specs.StandsFor.{AreChains, AreParts, Past, collector_of}
use Rattle.mps_refinement.proofs.Calls.MakingSteps.{MakesAlike, checks_then, first_passed, free_name, making_is_right, taken_same}
use Rattle.mps_refinement.proofs.Parts.Named.{ThingsStay, named_made}
use Rattle.mps_refinement.proofs.Parts.PartsMade.{chains_changed, state_of_chains}
use Rattle.mps_refinement.proofs.Worlds.Steps.{HasParts}

module _ {F : Type 0} (layout : F → Layout) (h : HeapState F) (name : Name) (capacities : List ℕ) (w : World) (past : Past)
    (parts : AreParts layout past h w) where
  chains_fit : AreChains (with_chain h.chains capacities) (with_last w.chains capacities) w.pools
  chains_fit = record {
    same = ap (λ (c : ChainsState). with_chain c capacities) parts.chains.same;
    copying = parts.chains.copying;
  }

  count_is : length h.chains.chains ≡ length w.chains
  count_is = ap (λ (c : ChainsState). length c.chains) parts.chains.same

  -- the world with one more chain
  abbrev world_with : List ℕ → World
  world_with one = record w { graph = named w.graph name (graph.ChainThing (length w.chains)); chains = with_last w.chains one }

  chain_parts : (number : ℕ) (after : HeapState F) → thing_named h.names name ≡ None → MakesChain h name capacities number after
      → HasParts layout past.time after (world_with capacities)
  chain_parts number after free makes = record {
    past = past;
    timed = refl;
    parts = subst (λ s. AreParts layout past s (world_with capacities)) (sym makes.state)
        (chains_changed layout past h w parts (with_chain h.chains capacities) after.names (with_last w.chains capacities)
        (with_last w.graph.names (record { name = name; thing = graph.ChainThing (length w.chains) })) chains_fit
        (named_made past past h made w.graph.names w.graph.labels parts.names name (thing.Chain number)
        (graph.ChainThing (length w.chains)) makes.names free (ap graph.ChainThing (makes.number_is ∙ count_is)) (λ other there. refl) stay
        (let e = makes.number_is in omega (arith, e, longer))
        (λ there. let e = makes.number_is in omega (arith, e, there)) refl refl));
  }
    where
      made : HeapState F
      made = state_of_chains layout past h w parts (with_chain h.chains capacities) after.names

      longer : length (h.chains.chains ++ capacities ∷ []) ≡ length h.chains.chains + 1
      longer = length-append h.chains.chains (capacities ∷ [])

      stay : ThingsStay h made
      stay = record {
        pools = λ n low. low;
        caches = omega arith;
        tables = λ k some. some;
        areas = λ k some. some;
        blocks = λ n low. low;
        points = λ k some. some;
        dependencies = λ n low. low;
        chains = λ n low. omega (arith, low, longer);
        transforms = refl;
      }

  chain_alike : (count : ℕ) (numbers : List ℕ) → take count numbers ≡ capacities
      → MakesAlike layout past h w (call.Chain name count numbers) (check_chain h name) (MakesChain h name capacities)
  chain_alike count numbers are = record {
    models = model.refuse_taken w name >> refuse_at_limit (length w.chains) most_chains;
    made = world_with (take count numbers);
    comes = checks_then (model.refuse_taken w name) (refuse_at_limit (length w.chains) most_chains)
        (done (world_with (take count numbers)));
    alike = same_next (taken_same layout past h w parts name)
        (same_refuse_when (nat_le most_chains (length h.chains.chains)) (nat_le most_chains (length w.chains))
        (refusal.TooMany most_chains) (ap (nat_le most_chains) count_is));
    formats = refl;
    keeps = λ key after makes. subst (λ (s : HeapState F). KeepsAll (collector_of h) (collector_of s)) (sym makes.state) (all_kept h);
    has = λ number after ok makes.
        subst (λ (one : List ℕ). HasParts layout past.time after (world_with one)) (sym are)
        (chain_parts number after
        (free_name h name (first_passed (refuse_taken h name) (refuse_at_limit (length h.chains.chains) most_chains) tt ok).1) makes);
  }

-- of the numbers of the call the first ones are the capacities
pub chain_is_right : {F : Type 0} (layout : F → Layout) (h : HeapState F) (name : Name) (capacities : List ℕ) (count : ℕ)
    (numbers : List ℕ) → take count numbers ≡ capacities → (result : Result ℕ Refusal) (after : HeapState F)
    → IsMaking h (check_chain h name) (MakesChain h name capacities) result after
    → IsRightMaking layout h (call.Chain name count numbers) result after
chain_is_right layout h name capacities count numbers are result after making =
    making_is_right layout h (call.Chain name count numbers) (check_chain h name) (MakesChain h name capacities) refl refl
    (λ w past parts known. chain_alike layout h name capacities w past parts count numbers are) result after making
