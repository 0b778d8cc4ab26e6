-- When a collection of pools can begin, what one of everything comes to for them, and when that can be done.
use Rattle.std.specs.Prelude.{ℕ, ◌≡◌, ◌+◌, ◌*◌, ◌<◌, List, map, length}
use Rattle.mps_base.specs.Address.{words_of_grain}
use Rattle.mps_base.specs.Generation.{target_generation}
use Rattle.mps_amc.specs.Amc.{HasTail}
use Rattle.mps_base.specs.Run.{IsAscending}
use Rattle.mps_base.specs.Trail.{Moves}
use Rattle.mps_buffer.specs.Points.{AreReserved, PointsState}
use Rattle.mps_final.specs.State.{FinalsState}
use Rattle.mps_format.specs.Layout.{Layout}
use Rattle.mps_gen.specs.State.{ChainsState, generations_of}
use Rattle.mps_root.specs.State.{RootsState}
use Rattle.mps_seg.specs.Segs.{SegsState}
use Rattle.mps_trace.specs.Begin.{CanFixRoots, marked_at_flip}
use Rattle.mps_trace.specs.Collect.{CanCollect, Collects}
use Rattle.mps_trace.specs.Condemned.{AreInOrder}
use Rattle.mps_trace.specs.Trace.{TraceState, traced}
use Rattle.mps_trace.specs.declared.condemn.Condemn.{Condemn}
use Rattle.mps_format.specs.Pools.{policy_of_pool}
use Rattle.mps_format.specs.declared.pool.Pool.{Pool}

module _ {F : Type 0} where
  -- what a collector knows of pools with these chains: their policies and the chains, on one of which each pool is or on none. Each pool
  -- has words at hand for each generation to which its blocks move
  pub record IsTraceOf (pools : List (Pool F)) (chains : ChainsState) (t : TraceState F) : Type 0 where
    pub formats : t.formats ≡ map policy_of_pool pools
    pub chains_are : t.chains ≡ chains
    pub count : length t.chains.of_pool ≡ length pools
    pub tails : (number generation : ℕ) → number < length pools
        → HasTail t.amc number (target_generation (generations_of t.chains number) generation)

  -- a collection of what is to be condemned can begin: segments, blocks and reservations are in order, slots and messages can be fixed
  -- after its flip, and there is room for its flip and its end, if nothing is condemned
  pub record CanCondemn (layout : F → Layout) (t : TraceState F) (what : Condemn) (points : PointsState) (roots : RootsState)
      (finals : FinalsState) (s : SegsState) (m : Moves) : Type 0 where
    pub ordered : AreInOrder s
    pub blocks : IsAscending 0 (words_of_grain * (s.grains + 1)) s.blocks
    pub reserved : AreReserved points.flips points.points s
    pub fits : 1 < m.spare
    pub roots_ready : CanFixRoots layout t roots finals (marked_at_flip t.formats t.chains what points roots (traced t s m))

module _ {F : Type 0} (layout : F → Layout) (pools : List (Pool F)) (chains : ChainsState) (points : PointsState) (roots : RootsState)
    (finals : FinalsState)
    (s : SegsState) (m : Moves) (most : ℕ) where
  -- whatever the tails of the pools are, a collection can be done
  abbrev pub CanCollectPools : Type 0
  CanCollectPools = (t : TraceState F) → IsTraceOf pools chains t → CanCollect layout t points roots finals s m most

  -- a collection was done, from what the collector knew of the pools
  pub record ArePoolsCollected (roots' : RootsState) (finals' : FinalsState) (s' : SegsState) (m' : Moves) : Type 0 where
    pub before : TraceState F
    pub after : TraceState F
    pub of_pools : IsTraceOf pools chains before
    pub collects : Collects layout before.formats before.chains points roots finals (traced before s m) most roots' finals'
        (traced after s' m')
