-- From a collection of a heap's pools to one of the heap.
use Rattle.std.proofs.Common.{ℕ, ◌≡◌, ◌∙◌, Option, List, length, map, sym, ap, subst}
use Rattle.mps_base.specs.Trail.{Moves}
use Rattle.mps_buffer.specs.Points.{points_after_flip}
use Rattle.mps_format.specs.Layout.{Layout}
use Rattle.mps_ld.specs.State as ld
use Rattle.mps_trace.specs.Collect.{most_units}
use Rattle.mps_trace.specs.Flip.{moving_of, zones_of}
use Rattle.mps_heap_spec.specs.Collecting.{CanCollectAll, IsCollected}
use Rattle.mps_heap_spec.specs.State.{HeapState, without_pairs}
use Rattle.mps_format.specs.Pools.{policy_of_pool}
use Rattle.mps_heap_spec.specs.declared.arena.ArenaState.TheVariants as arena
use Rattle.mps_pools.specs.Collecting.{CanCollectPools, ArePoolsCollected}
use Rattle.mps_format.specs.declared.pool.Policy.{Policy}

module _ {F : Type 0} (layout : F → Layout) (h : HeapState F) (m : Moves) where
  -- what a heap can do, its pools can, where the state is seen in two ways
  pub can_pools : (seen : HeapState F) (most : ℕ) → seen ≡ h → most ≡ most_units seen.segs.grains (length seen.finals.registered)
      → CanCollectAll layout h m
      → CanCollectPools layout seen.pools seen.chains seen.points seen.roots seen.finals seen.segs m most
  can_pools seen most is bound can =
      let P : HeapState F → Type 0 = λ g. CanCollectAll layout g m in
      let Q : ℕ → Type 0 = λ n. CanCollectPools layout seen.pools seen.chains seen.points seen.roots seen.finals seen.segs m n in
      subst Q (sym bound) (subst P (sym is) can)

  -- the heap after the flip of a collection, with these formats
  abbrev parked_with : HeapState F → List (Option (Policy F)) → HeapState F → HeapState F
  parked_with seen formats h' = record seen {
    segs = h'.segs;
    roots = h'.roots;
    finals = h'.finals;
    points = points_after_flip seen.points;
    epochs = ld.epochs_after_flip seen.epochs (zones_of (moving_of formats seen.segs.segments));
    tails = h'.tails;
    arena = arena.Parked;
    beside = without_pairs seen.beside;
  }

  pub collected : (seen h' : HeapState F) (m' : Moves) (most : ℕ) → seen ≡ h
      → most ≡ most_units seen.segs.grains (length seen.finals.registered)
      → ArePoolsCollected layout seen.pools seen.chains seen.points seen.roots seen.finals seen.segs m most h'.roots h'.finals h'.segs m'
      → h' ≡ parked_with seen (map policy_of_pool seen.pools) h' → IsCollected layout h m h' m'
  collected seen h' m' most is bound of_pools state =
      let P : HeapState F → Type 0 = λ g. IsCollected layout g m h' m' in
      let Q : ℕ → Type 0 =
      λ n. ArePoolsCollected layout seen.pools seen.chains seen.points seen.roots seen.finals seen.segs m n h'.roots h'.finals h'.segs m' in
      let c = subst Q bound of_pools in
      subst P is
      (record {
        before = c.before;
        after = c.after;
        of_pools = c.of_pools;
        collects = c.collects;
        state = state ∙ ap (λ formats. parked_with seen formats h') (sym c.of_pools.formats);
      })
