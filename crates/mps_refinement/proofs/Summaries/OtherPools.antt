-- A pool is made: what was summed is summed with its policy too, since nothing lies in a segment of it yet.
use Rattle.std.proofs.Common.{◌≡◌, ◌∙◌, ℕ, ◌+◌, ◌<◌, sym, ap, List, [], ◌∷◌, ◌++◌, length, map, Option, Some, arith}
use Rattle.std.proofs.lemmas.List.{length-map, map-append}
use Rattle.std.proofs.lemmas.Option.{same_Some}
use Rattle.std.specs.Prelude.{slice_get}
use Rattle.mps_base.specs.Segment.{Segment}
use Rattle.mps_format.specs.Layout.{Layout}
use Rattle.mps_format.specs.Pools.{policy_of_pool}
use Rattle.mps_format.specs.declared.pool.Policy.{Policy}
use Rattle.mps_format.specs.declared.pool.Pool.{Pool}
use Rattle.mps_laws.proofs.Lookups.{slice_get-last}
use Rattle.mps_laws.proofs.Positions.LegalMoves.{HasLayout}
use Rattle.mps_laws.proofs.Sound.PoolsThere.{HasPools}
use Rattle.mps_model.specs.World.{World}
use Rattle.mps_trace_laws.specs.Summaries.Summed.{AreWordsSummed}
use Rattle.mps_heap_spec.specs.State.{HeapState}
use Rattle.mps_refinement.specs.StandsFor.{AreParts, Past}
use Rattle.mps_refinement.proofs.Summaries.Homes.{home_of, over_now, pools_there}

module _ {F : Type 0} (layout : F → Layout) (past : Past) (h : HeapState F) (w : World) (parts : AreParts layout past h w)
    (laid : HasLayout (w.grains + 1) w) (there : HasPools w) (p : Pool F) where
  abbrev policies : List (Option (Policy F))
  policies = map policy_of_pool h.pools

  abbrev IsThere : (pool : ℕ) → Type 0
  IsThere pool = pool < length w.pools

  pub pool_made_summed : AreWordsSummed layout (map policy_of_pool (h.pools ++ p ∷ [])) h.segs
  pool_made_summed = record {
    sized = parts.summed.sized;
    each = λ r t format covered over listed.
        let home = home_of layout past h w parts laid IsThere (pools_there w there) r covered in
        let same : home.segment ≡ t =
        same_Some home.segment t (sym (over_now layout past h w parts laid IsThere (pools_there w there) r covered) ∙ over)
        in
        let pool : home.segment.pool ≡ t.pool = ap (λ (s : Segment). s.pool) same in
        let long : length policies ≡ length h.pools = length-map h.pools policy_of_pool in
        let was : slice_get policies t.pool ≡ Some (Some format) =
        sym (slice_get-last policies (policy_of_pool p) t.pool
        (let within = home.there in let count = parts.pools.count in omega (arith, within, pool, long, count)))
        ∙ ap (λ (ps : List (Option (Policy F))). slice_get ps t.pool) (sym (map-append policy_of_pool h.pools (p ∷ []))) ∙ listed
        in
        parts.summed.each r t format covered over was;
  }
