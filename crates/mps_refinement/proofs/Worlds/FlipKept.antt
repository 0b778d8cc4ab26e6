-- What is known of the addresses at a flip stays true after an act of a client, which only adds objects, addresses and pools.
use Rattle.std.proofs.Common.{◌≡◌, ◌∙◌, ℕ, Bool, true, false, refl, sym, ap, Option, Some, None, List, length, arith}
use Rattle.std.proofs.lemmas.Bool.{false≢true}
use Rattle.std.proofs.lemmas.List.{length-map, length-append}
use Rattle.std.proofs.lemmas.Option.{slice_get-map}
use Rattle.std.specs.Prelude.{option_map, slice_get}
use Rattle.std.specs.Option.{option_map_or}
use Rattle.mps_base.specs.Address.{Address, Id}
use Rattle.mps_model.specs.declared.call.Call.{Call}
use Rattle.mps_model.specs.Graph.{Object, entry_at}
use Rattle.mps_model.specs.World.{World, Pool, is_copying_kind, is_copying_object, is_copying_pool}
use Rattle.mps_model.specs.Reply.{act}
use Rattle.mps_model.specs.Checked.{Act, Checked}
use Rattle.mps_laws.proofs.Acts.{ForAct, accepted, refused}
use Rattle.mps_laws.proofs.Entries.{entry_at-append, slice_get-there}
use Rattle.mps_laws.proofs.LeftByActs.{Leaves, act_leaves, owners}
use Rattle.mps_laws.proofs.Lookups.{entry_within}
use Rattle.mps_refinement.specs.StandsFor.{AreOfFlip}

there : {X : Type 0} (test : X → Bool) (o : Option X) → option_map_or test o false ≡ true → (x : X) × (o ≡ Some x) × (test x ≡ true)
there test None e = absurd (false≢true e)
there test (Some x) e = (x, refl, e)

module _ (c : Call) (w after : World) (leaves : Leaves c w after) where
  -- an object of a copying pool is one still
  copying_still : (id : Id) → is_copying_object w id ≡ true → is_copying_object after id ≡ true
  copying_still id h =
      let o = there (λ (x : Object). is_copying_pool w x.pool) (slice_get w.graph.objects id) h in
      let pool = there (λ (p : Pool). is_copying_kind p.kind) (slice_get w.pools o.0.pool) o.2 in
      let owned : slice_get (owners w.graph) id ≡ Some o.0.pool =
      slice_get-map (λ (x : Object). x.pool) w.graph.objects id ∙ ap (option_map (λ (x : Object). x.pool)) o.1 in
      let owned_after : slice_get (owners after.graph) id ≡ Some o.0.pool =
      ap (λ ns. slice_get ns id) leaves.owned.1 ∙ slice_get-there (owners w.graph) leaves.owned.0 id o.0.pool owned in
      let pool_after : slice_get after.pools o.0.pool ≡ Some pool.0 =
      ap (λ ps. slice_get ps o.0.pool) leaves.pools.1 ∙ slice_get-there w.pools leaves.pools.0 o.0.pool pool.0 pool.1 in
      of_object (slice_get after.graph.objects id) o.0.pool
      (sym (slice_get-map (λ (x : Object). x.pool) after.graph.objects id) ∙ owned_after)
      (ap (λ p. option_map_or (λ (q : Pool). is_copying_kind q.kind) p false) pool_after ∙ pool.2)
    where
      of_object : (o : Option Object) (number : ℕ) → option_map (λ (x : Object). x.pool) o ≡ Some number
          → is_copying_pool after number ≡ true → option_map_or (λ (x : Object). is_copying_pool after x.pool) o false ≡ true
      of_object None number e h = absurd (Rattle.std.proofs.lemmas.Option.none-some number e)
      of_object (Some x) number e h =
          ap (is_copying_pool after) (Rattle.std.proofs.lemmas.Option.same_Some x.pool number e) ∙ h

  pub left : (at_flip : List (Option Address)) → length w.addresses ≡ length w.graph.objects → AreOfFlip at_flip w → AreOfFlip at_flip after
  left at_flip same of = record {
    made =
        let few = of.made in
        let before = length-map w.graph.objects (λ (o : Object). o.pool) in
        let now = length-map after.graph.objects (λ (o : Object). o.pool) in
        let more = ap length leaves.owned.1 ∙ length-append (owners w.graph) leaves.owned.0 in
        omega (arith, few, before, now, more);
    still = λ id from to moves was is.
        let low = entry_within at_flip id from was in
        let few = of.made in
        let as_before : entry_at after.addresses id ≡ entry_at w.addresses id =
        ap (λ xs. entry_at xs id) leaves.addresses.1
        ∙ entry_at-append w.addresses leaves.addresses.0 id (omega (arith, low, few, same)) in
        of.still id from to (not_copying id (is_copying_object w id) refl moves) was (sym as_before ∙ is);
  }
    where
      not_copying : (id : Id) (b : Bool) → is_copying_object w id ≡ b → is_copying_object after id ≡ false → is_copying_object w id ≡ false
      not_copying id false e moves = e
      not_copying id true e moves = absurd (false≢true (sym moves ∙ copying_still id e))

pub flips_kept : (marked : Bool) (judged w : World) (c : Call) (at_flip : List (Option Address))
    → length w.addresses ≡ length w.graph.objects → AreOfFlip at_flip w → ForAct (AreOfFlip at_flip) (act marked judged w c)
flips_kept marked judged w c at_flip same of = of_act (act_leaves marked judged w c)
  where
    of_act : {x : Checked Act} → ForAct (Leaves c w) x → ForAct (AreOfFlip at_flip) x
    of_act (accepted leaves) = accepted (left c w _ leaves at_flip same of)
    of_act refused = refused
