-- A collection of what the collector knows of the pools is one of the pools.
use Rattle.std.proofs.Common.{ℕ, ◌≡◌, ◌∙◌, List, Option, map, ap, subst, sym}
use Rattle.mps_base.specs.Trail.{Moves}
use Rattle.mps_buffer.specs.Points.{PointsState}
use Rattle.mps_final.specs.State.{FinalsState}
use Rattle.mps_format.specs.Layout.{Layout}
use Rattle.mps_root.specs.State.{RootsState}
use Rattle.mps_seg.specs.Segs.{SegsState}
use Rattle.mps_ld.specs.State.{EpochsState}
use Rattle.mps_ld.specs.State as ld
use Rattle.mps_format.specs.declared.pool.Policy.{Policy}
use Rattle.mps_gen.specs.State.{ChainsState}
use Rattle.mps_trace.specs.Flip.{moving_of, zones_at_flip, zones_of}
use Rattle.mps_trace.specs.declared.condemn.Condemn.{Condemn}
use Rattle.mps_trace.specs.Collect.{CanCollect, Collects}
use Rattle.mps_trace.specs.Trace.{TraceState, traced}
use Rattle.mps_pools.specs.Collecting.{IsTraceOf}
use Rattle.mps_format.specs.Pools.{policy_of_pool}
use Rattle.mps_pools.specs.Collecting.{CanCollectPools, ArePoolsCollected}
use Rattle.mps_pools.specs.Inside.{IsSoundTrace}
use Rattle.mps_pools.specs.Pools.{PoolsState}
use Rattle.mps_pools.proofs.Sound.{is_trace}

-- the pools are seen in two ways
module _ {F : Type 0} (layout : F → Layout) (seen value : PoolsState F) (is : seen ≡ value) (t : TraceState F)
    (chains : seen.chains ≡ t.chains) (sound : IsSoundTrace seen.pools t) where
  known : IsTraceOf value.pools value.chains t
  known =
      let P : PoolsState F → Type 0 = λ v. IsTraceOf v.pools v.chains t in
      subst P is (is_trace seen.pools seen.chains t (sym chains) sound)

  -- the zones of the segments of automatic pools are flipped
  pub are_flipped : (s : SegsState) (epochs epochs' : EpochsState)
      → epochs' ≡ ld.epochs_after_flip epochs (zones_of (moving_of t.formats s.segments))
      → epochs' ≡ ld.epochs_after_flip epochs (zones_of (moving_of (map policy_of_pool value.pools) s.segments))
  are_flipped s epochs epochs' is =
      is ∙ ap (λ (formats : List (Option (Policy F))). ld.epochs_after_flip epochs (zones_of
      (moving_of formats s.segments))) known.formats

  -- and those of what a flip condemns
  pub are_flipped_by : (what : Condemn) (s : SegsState) (epochs epochs' : EpochsState)
      → epochs' ≡ ld.epochs_after_flip epochs (zones_at_flip t.formats t.chains what s.segments)
      → epochs' ≡ ld.epochs_after_flip epochs (zones_at_flip (map policy_of_pool value.pools) value.chains what s.segments)
  are_flipped_by what s epochs epochs' is =
      is ∙ ap (λ (formats : List (Option (Policy F))). ld.epochs_after_flip epochs (zones_at_flip formats t.chains what s.segments))
      known.formats
      ∙ ap (λ (c : ChainsState). ld.epochs_after_flip epochs (zones_at_flip (map policy_of_pool value.pools) c what s.segments))
      known.chains_are

  module _ (points : PointsState) (roots : RootsState) (finals : FinalsState) (s : SegsState) (m : Moves) (most : ℕ) where
    pub can_trace : CanCollectPools layout value.pools value.chains points roots finals s m most
        → CanCollect layout t points roots finals s m most
    can_trace can = can t known

    pub are_collected : (roots' : RootsState) (finals' : FinalsState) (t' : TraceState F) (s' : SegsState) (m' : Moves)
        → Collects layout t.formats t.chains points roots finals (traced t s m) most roots' finals' (traced t' s' m')
        → ArePoolsCollected layout value.pools value.chains points roots finals s m most roots' finals' s' m'
    are_collected roots' finals' t' s' m' collects = record { before = t; after = t'; of_pools = known; collects = collects }
