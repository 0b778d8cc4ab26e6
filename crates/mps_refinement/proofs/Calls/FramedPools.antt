-- `pool` of frames: the pool that is made stands for that of the model, and none of its frames is open.
use Rattle.std.proofs.Common.{◌≡◌, ◌∙◌, ◌<◌, ℕ, refl, sym, ap, subst, ◌∷◌, ◌++◌, [], length, None, Ok, inr, arith}
use Rattle.std.proofs.lemmas.Bool.{leb-false}
use Rattle.std.specs.Prelude.{Result, nat_le}
use Rattle.mps_base.specs.declared.names.Name.{Name}
use Rattle.mps_base.specs.declared.refusal.Refusal.{Refusal}
use Rattle.mps_base.specs.declared.refusal.Refusal.TheVariants as refusal
use Rattle.mps_format.specs.Layout.{Layout}
use Rattle.mps_format.specs.Pools.{size_of_pool}
use Rattle.mps_format.specs.declared.pool.Pool.TheVariants as pool
use Rattle.mps_laws.proofs.Same.{same_next}
use Rattle.mps_model.specs.declared.call.Call.TheVariants as call
use Rattle.mps_model.specs.Checked.{◌>>◌, done}
use Rattle.mps_model.specs.Making as model
use Rattle.mps_model.specs.Making.{most_pools, refuse_at_limit}
use Rattle.mps_model.specs.World as world
use Rattle.mps_model.specs.World.{World, Frames}
use Rattle.mps_snc.specs.State.{new_pool, with_pool}
use Rattle.mps_heap_spec.specs.Framing.{MakesPoolOfFrames, with_frames}
use Rattle.mps_heap_spec.specs.Making.{IsMaking, check_pool, refuse_taken}
use Rattle.mps_heap_spec.specs.State.{HeapState}
use Rattle.mps_pools.specs.Pools.{tails_on}
use Rattle.mps_refinement.specs.Making.{IsRightMaking}
use Rattle.mps_refinement.specs.StandsFor.{AreParts, Past, collector_of}
use Rattle.mps_refinement.proofs.Calls.MakingPools.{limit_same, on_none, pool_with_frames}
use Rattle.mps_refinement.proofs.Calls.MakingSteps.{MakesAlike, checks_then, first_passed, free_name, making_is_right, refused_not, taken_same}
use Rattle.mps_refinement.proofs.Parts.FramedParts.{framed_made}
use Rattle.mps_refinement.proofs.Parts.PartsMade.{state_of_pools}
use Rattle.mps_refinement.proofs.Worlds.CollectorKept.{KeepsAll, one_more_kept}
use Rattle.mps_refinement.proofs.Worlds.Known.{IsKnown}
use Rattle.mps_refinement.proofs.Worlds.Steps.{HasParts}

module _ {F : Type 0} (layout : F → Layout) (h : HeapState F) (name : Name) where
  abbrev of_frames : world.Pool
  of_frames = record { kind = Frames; format = 0; chain = None }

  module _ (w : World) (past : Past) (parts : AreParts layout past h w) (known : IsKnown past.time w) where
    made_parts : (number : ℕ) (after : HeapState F) → check_pool h name ≡ Ok tt → MakesPoolOfFrames h name number after
        → HasParts layout past.time after (model.with_pool w name of_frames)
    made_parts number after passed m =
        pool_with_frames layout h name pool.AnySize w past parts known of_frames (inr refl) None refl on_none number after
        (with_pool h.beside.frames (length w.pools) new_pool) m.pooled.names
        (free_name h name (first_passed (refuse_taken h name) (refuse_at_limit (length h.pools) most_pools) tt passed).1)
        m.makes.number_is m.makes.names
        (m.state ∙ ap (λ (s : HeapState F). with_frames s (with_pool s.beside.frames number new_pool)) m.makes.state
        ∙ ap (λ (n : ℕ). state_of_pools layout past h w parts (h.pools ++ pool.AnySize ∷ [])
        (h.sizes ++ size_of_pool {F = F} pool.AnySize ∷ []) None (with_pool h.beside.frames n new_pool) m.pooled.names) numbered)
        (framed_made h.beside.frames h.roots.blocks w.graph.blocks w.pools w.graph.frames parts.framed of_frames refl
        (let count = parts.pools.count in omega (arith, count, few)))
      where
        numbered : number ≡ length w.pools
        numbered = m.makes.number_is ∙ sym parts.pools.count

        few : length h.pools < 64
        few =
            let last = (first_passed (refuse_taken h name) (refuse_at_limit (length h.pools) most_pools) tt passed).2 in
            leb-false most_pools (length h.pools)
            (refused_not (nat_le most_pools (length h.pools)) (refusal.TooMany most_pools) last)

    frames_alike : MakesAlike layout past h w (call.PoolFrames name) (check_pool h name) (MakesPoolOfFrames h name)
    frames_alike = record {
      models = model.refuse_taken w name >> refuse_at_limit (length w.pools) most_pools;
      made = model.with_pool w name of_frames;
      comes = checks_then (model.refuse_taken w name) (refuse_at_limit (length w.pools) most_pools)
          (done (model.with_pool w name of_frames));
      alike = same_next (taken_same layout past h w parts name)
          (limit_same layout h name pool.AnySize w past parts known of_frames (inr refl) None refl on_none);
      formats = refl;
      keeps = λ key after m. subst (λ (s : HeapState F). KeepsAll (collector_of h) (collector_of s))
          (sym (m.state ∙ ap (λ (s : HeapState F). with_frames s (with_pool s.beside.frames key new_pool)) m.makes.state))
          (one_more_kept h (tails_on h.chains None));
      has = λ number after passed m. made_parts number after passed m;
    }

  pub pool_snc_is_right : (result : Result ℕ Refusal) (after : HeapState F)
      → IsMaking h (check_pool h name) (MakesPoolOfFrames h name) result after
      → IsRightMaking layout h (call.PoolFrames name) result after
  pool_snc_is_right result after making =
      making_is_right layout h (call.PoolFrames name) (check_pool h name) (MakesPoolOfFrames h name) refl refl
      (λ w past parts known. frames_alike w past parts known) result after making
