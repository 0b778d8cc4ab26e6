-- What a flip may condemn in a heap at rest: everything, or the generations of a chain up to one. Words that are summed tell which objects
-- it has to scan besides.
use Rattle.std.proofs.Common.{◌≡◌, ◌∙◌, ℕ, ◌<◌, Bool, true, false, refl, sym, ap, subst, List, [], ◌∷◌, map, Option, Some, None, inl, inr, arith}
use Rattle.std.proofs.lemmas.Bool.{and_parts, cases_Bool, eqb-true, false≢true, leb-true, ltb-true}
use Rattle.std.proofs.lemmas.Option.{slice_get-map}
use Rattle.std.specs.Prelude.{◌==◌, ◌&&◌, if◌then◌else◌, filter, nat_le, nat_lt, option_and_then, slice_get}
use Rattle.std.specs.Option.{option_map_or}
use Rattle.mps_base.specs.Address.{Address, grain_of}
use Rattle.mps_base.specs.Segment.{Segment, end_of_segment, grains_of_segment, is_in_segment}
use Rattle.mps_base.specs.Trail.{Moves}
use Rattle.mps_base.specs.Zones.{zone_bit_of, zones_from, zones_meet, zones_of_runs}
use Rattle.mps_format.specs.Layout.{Layout}
use Rattle.mps_format.specs.declared.pool.Policy.{Policy}
use Rattle.mps_laws.proofs.FlippedZones.{grains_between}
use Rattle.mps_laws.proofs.Positions.Zones.{grain_meets, meets_first, meets_second}
use Rattle.mps_model.specs.Effect.{Condemnation, Everything, Generations, condemned_by, is_condemned_by, is_on_chain, lies_in_one}
use Rattle.mps_model.specs.Effect as model
use Rattle.mps_model.specs.World as world
use Rattle.mps_model.specs.World.{World, is_copying_kind, is_copying_pool, is_live_and, live_automatic_ids}
use Rattle.mps_seg.specs.Collecting.{summary_at}
use Rattle.mps_abstract.specs.FlipLaws.{IsAtRest, IsNumbered}
use Rattle.mps_abstract.specs.Remembered.{AreAllZoned, RefersToNothingElse}
use Rattle.mps_abstract.proofs.FlipActs.Remembered.{everything_refers_nowhere_else, summaries_remember}
use Rattle.mps_abstract.proofs.HeldSegments.{HasGrains, IsAmong, among_filtered, any_among, segment_has_grains}
use Rattle.mps_abstract.proofs.Lists.{contains-filter}
use Rattle.mps_abstract.proofs.WholeCollections.WholeBegins.{among_passing}
use Rattle.mps_trace.specs.GenState as chains
use Rattle.mps_trace.specs.GenState.{ChainsState, max_chains}
use Rattle.mps_trace.specs.Trace.{TraceState}
use Rattle.mps_trace.specs.declared.condemn.Condemn.{Condemn}
use Rattle.mps_trace.specs.declared.condemn.Condemn.TheVariants as condemn
use Rattle.mps_trace_laws.specs.Begin.Before.{StandsBefore}
use Rattle.mps_trace_laws.specs.Begin.Condemning.{MayCondemn}
use Rattle.mps_trace_laws.specs.Flip.Condemned.{CondemnsAlike, condemnation}
use Rattle.mps_trace_laws.specs.Summaries.Summed.{AreWordsSummed}
use Rattle.mps_trace_laws.proofs.Summaries.AtRest.{words_tell_at_rest}
use Rattle.mps_pools.specs.Collecting.{IsTraceOf}
use Rattle.mps_heap_spec.specs.State.{HeapState}
use Rattle.mps_refinement.specs.StandsFor.{AreChains, AreParts, Past}
use Rattle.mps_refinement.proofs.Collect.PoolsKnown.{chain_of_it}

-- ---- numbers

-- no chain that there can be has the number of a full flip
pub chain_numbered : (chain oldest : ℕ) → chain < max_chains → IsNumbered (Generations chain oldest)
chain_numbered chain oldest low = elim (cases_Bool (chain == model.every_chain)) [
  | inl is ↦ let same = eqb-true chain model.every_chain is in absurd (omega (arith, low, same))
  | inr isnt ↦ ap (λ (b : Bool). if b then Everything else Generations chain oldest) isnt
]

-- ---- chains

-- a pool is on a chain in both or in neither
pub on_chain_alike : (kept : ChainsState) (w : World) → AreChains kept w.chains w.pools → (chain pool : ℕ)
    → chains.is_on_chain kept chain pool ≡ is_on_chain w chain pool
on_chain_alike kept w are chain pool =
    ap (λ (c : ChainsState). chains.is_on_chain c chain pool) are.same
    ∙ ap (λ (o : Option (Option ℕ)). option_map_or (λ on. on == chain) (option_and_then (λ (found : Option ℕ). found) o) false)
    (slice_get-map (λ (p : world.Pool). p.chain) w.pools pool)
    ∙ ap (λ (o : Option ℕ). option_map_or (λ on. on == chain) o false) (chain_of_it (world.pool_at w pool))

-- one on a chain copies
on_chain_copies : (kept : ChainsState) (w : World) → AreChains kept w.chains w.pools → (chain pool : ℕ)
    → is_on_chain w chain pool ≡ true → is_copying_pool w pool ≡ true
on_chain_copies kept w are chain pool on = of_pool (slice_get w.pools pool) refl on
  where
    of_chain : (q : world.Pool) → slice_get w.pools pool ≡ Some q → (o : Option ℕ) → q.chain ≡ o
        → option_map_or (λ on. on == chain) o false ≡ true → is_copying_kind q.kind ≡ true
    of_chain q e None none there = absurd (false≢true there)
    of_chain q e (Some c) some there = are.copying pool c q e some

    of_pool : (o : Option world.Pool) → slice_get w.pools pool ≡ o
        → option_map_or (λ on. on == chain) (option_and_then (λ (p : world.Pool). p.chain) o) false ≡ true
        → option_map_or (λ (p : world.Pool). is_copying_kind p.kind) (slice_get w.pools pool) false ≡ true
    of_pool None e there = absurd (false≢true there)
    of_pool (Some q) e there =
        ap (λ (o : Option world.Pool). option_map_or (λ (p : world.Pool). is_copying_kind p.kind) o false) e
        ∙ of_chain q e q.chain refl there

-- ---- zones

-- the zones of a segment have that of each address in it
segment_zoned : (s : Segment) (at : Address) → HasGrains s → is_in_segment s at ≡ true
    → zones_meet (zone_bit_of at) (zones_from s.grains (grain_of s.base)) ≡ true
segment_zoned s at has inside =
    let parts = and_parts (nat_le s.base at) (nat_lt at (end_of_segment s)) inside in
    let between = grains_between s.base at s.grains has.aligned (leb-true s.base at parts.0) (ltb-true at (end_of_segment s) parts.1) in
    grain_meets s.grains (grain_of s.base) (grain_of at) between.0 between.1

-- those of some segments have that of each address in one of them
zoned_in : (ss : List Segment) (s : Segment) (at : Address) → IsAmong s ss → HasGrains s → is_in_segment s at ≡ true
    → zones_meet (zone_bit_of at) (zones_of_runs (map grains_of_segment ss)) ≡ true
zoned_in [] s at among has inside = absurd among
zoned_in (t ∷ ts) s at (inl same) has inside =
    let P : Segment → Type 0 = λ u. zones_meet (zone_bit_of at) (zones_from u.grains (grain_of u.base)) ≡ true in
    meets_first (zone_bit_of at) (zones_from t.grains (grain_of t.base)) (zones_of_runs (map grains_of_segment ts))
    (subst P (sym same) (segment_zoned s at has inside))
zoned_in (t ∷ ts) s at (inr later) has inside =
    meets_second (zone_bit_of at) (zones_from t.grains (grain_of t.base)) (zones_of_runs (map grains_of_segment ts))
    (zoned_in ts s at later has inside)

-- the zones of a flip of generations have that of each object that it condemns
generations_zoned : (w : World) → IsAtRest w
    → ((chain pool : ℕ) → is_on_chain w chain pool ≡ true → is_copying_pool w pool ≡ true)
    → (chain oldest : ℕ) → AreAllZoned w (Generations chain oldest)
generations_zoned w rest copies chain oldest id at condemned there =
    let what : Condemnation = Generations chain oldest in
    let lies = contains-filter (lies_in_one w (condemned_by w what)) (live_automatic_ids w) id condemned in
    let one = any_among (λ s. is_live_and (is_in_segment s) w id) (condemned_by w what) lies.1 in
    let held = among_filtered (is_condemned_by w what) one.segment w.segments one.among in
    let on = and_parts (is_on_chain w chain one.segment.pool) (nat_le one.segment.generation oldest) held.1 in
    let copying = copies chain one.segment.pool on.0 in
    let moving = among_passing (λ s. is_copying_pool w s.pool) one.segment (condemned_by w what) one.among copying in
    let inside : is_in_segment one.segment at ≡ true =
    sym (ap (λ (o : Option Address). option_map_or (is_in_segment one.segment) o false) there) ∙ one.passes in
    zoned_in (filter (λ s. is_copying_pool w s.pool) (condemned_by w what)) one.segment at moving
    (segment_has_grains w rest.well_formed one.segment held.0) inside

-- ---- all together

module _ {F : Type 0} (layout : F → Layout) (past : Past) (h : HeapState F) (w : World) (parts : AreParts layout past h w)
    (t : TraceState F) (m : Moves) (of : IsTraceOf h.pools h.chains t) (b : StandsBefore layout t h.segs m h.points w) where
  chains_are : AreChains t.chains w.chains w.pools
  chains_are = subst (λ (c : ChainsState). AreChains c w.chains w.pools) (sym of.chains_are) parts.chains

  alike : (what : Condemn) → CondemnsAlike t.formats t.chains what w
  alike condemn.Everything s = b.pools.formats s.pool
  alike (condemn.Generations chain oldest) s =
      ap (λ (on : Bool). on && nat_le s.generation oldest) (on_chain_alike t.chains w chains_are chain s.pool)

  summed : AreWordsSummed layout t.formats h.segs
  summed = subst (λ (formats : List (Option (Policy F))). AreWordsSummed layout formats h.segs) (sym of.formats) parts.summed

  refers : (what : Condemn) → RefersToNothingElse (summary_at h.segs) w (condemnation what)
  refers condemn.Everything = everything_refers_nowhere_else w (summary_at h.segs) b.objects.rest
  refers (condemn.Generations chain oldest) =
      summaries_remember w (Generations chain oldest) (summary_at h.segs) b.objects.rest
      (words_tell_at_rest layout t h.segs m h.points w b summed)
      (generations_zoned w b.objects.rest (on_chain_copies t.chains w chains_are) chain oldest)

  -- a flip may condemn whatever its numbers mean
  pub may_condemn : (what : Condemn) → IsNumbered (condemnation what) → MayCondemn t h.segs w what
  may_condemn what numbered = record { numbered = numbered; alike = alike what; refers = refers what }
