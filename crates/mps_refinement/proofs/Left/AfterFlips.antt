-- After a flip of a heap at most one unit is left for each block in a segment that it condemned or remembers, for each registration, and
-- for each condemned segment.
use Rattle.std.proofs.Common.{◌≡◌, ◌≤◌, refl, ap, subst, List, length, map, Option, Some, None, arith}
use Rattle.std.specs.Prelude.{IfSome}
use Rattle.mps_base.specs.Address.{Id}
use Rattle.mps_base.specs.Segment.{Segment}
use Rattle.mps_base.specs.Trail.{Moves}
use Rattle.mps_buffer.specs.Points.{WereMadeBefore}
use Rattle.mps_format.specs.Layout.{Layout}
use Rattle.mps_format.specs.Pools.{policy_of_pool}
use Rattle.mps_model.specs.Collecting.{with_state}
use Rattle.mps_model.specs.Effect.{Condemnation, condemned_zones, world_after_moves}
use Rattle.mps_model.specs.Flip.{flip_act}
use Rattle.mps_model.specs.WellFormed.{IsWellFormed}
use Rattle.mps_model.specs.World.{World, Unclamped}
use Rattle.mps_seg.specs.Table.{IsMarked}
use Rattle.mps_trace.specs.Begin.{Begins}
use Rattle.mps_refinement.proofs.Collect.LiveIsFew.{most_now}
use Rattle.mps_trace.specs.Flip.{zones_at_flip}
use Rattle.mps_pools.specs.Pools.{trace_of}
use Rattle.mps_pools.specs.Collecting.{IsTraceOf}
use Rattle.mps_trace.specs.Trace.{TraceState, traced}
use Rattle.mps_trace.specs.declared.condemn.Condemn.{Condemn}
use Rattle.mps_trace.specs.declared.running.Running.{Running as RunningState}
use Rattle.mps_abstract.specs.Collecting as abstract
use Rattle.mps_abstract.proofs.FlipActs.FewUnits.{few_are_left}
use Rattle.mps_trace_laws.proofs.Flip.Condemned.{flip_is_the_models}
use Rattle.mps_trace_laws.specs.Begin.Condemning.{MayCondemn}
use Rattle.mps_trace_laws.specs.Flip.Condemned.{condemnation}
use Rattle.mps_heap_spec.specs.Collecting.{IsStarted}
use Rattle.mps_heap_spec.specs.State.{HeapState}
use Rattle.mps_heap_spec.specs.declared.arena.ArenaState.TheVariants as arena
use Rattle.mps_refinement.specs.StandsFor.{AreParts, Past, Rests, collector_of}
use Rattle.mps_refinement.specs.UnitsLeft.{most_units_after, units_left}
use Rattle.mps_refinement.proofs.Collect.CollectedHeaps.{heap_flipped}
use Rattle.mps_refinement.proofs.Left.AfterUnits.{none_at_rest}
use Rattle.mps_refinement.proofs.Left.Alike.{units_alike}
use Rattle.mps_refinement.proofs.Left.FlipBounds.{condemned_are_few, remembered_are_few, same_ids}
use Rattle.mps_refinement.proofs.Parts.Registered.{as_many}
use Rattle.mps_refinement.proofs.Units.Flips as flips
use Rattle.mps_refinement.proofs.Units.Flips.{IsFlipped}
use Rattle.mps_refinement.proofs.Worlds.InSteps.{laid_by_moves}
use Rattle.mps_refinement.proofs.Worlds.Known.{IsKnown}
use Rattle.mps_refinement.proofs.Worlds.LikeReached.{IsBare, formed_in_steps}

module _ {F : Type 0} (layout : F → Layout) (past : Past) (h : HeapState F) (w : World) (parts : AreParts layout past h w)
    (known : IsKnown past.time w) (rest : Rests past.time (collector_of h) w) (bare : IsBare w)
    (made : WereMadeBefore h.points.flips h.points) (of : IsTraceOf h.pools h.chains (trace_of h.pools h.chains h.tails))
    (marked : IsMarked h.segs.grains h.segs.marks h.segs.condemned h.segs.summaries) (m : Moves) (room : most_now h.segs ≤ m.spare)
    (what : Condemn) (may : MayCondemn (trace_of h.pools h.chains h.tails) h.segs w what) (h' : HeapState F) (m' : Moves) where
  abbrev c : Condemnation
  c = condemnation what

  abbrev t : TraceState F
  t = trace_of h.pools h.chains h.tails

  -- ---- something is condemned

  module _ (state : h' ≡ heap_flipped h h' (zones_at_flip (map policy_of_pool h.pools) h.chains what h.segs.segments) arena.Unclamped
      h'.running) (run : RunningState) (running : h'.running ≡ Some run)
      (begun : Begins layout t.formats t.chains what h.points h.roots h.finals (traced t h.segs m) h'.roots h'.finals
      (traced (trace_of h'.pools h'.chains h'.tails) h'.segs m') run) where
    abbrev u : World
    u = with_state (world_after_moves w (flip_act w c)) Unclamped

    flipped : IsFlipped layout w c m h' m'
    flipped = flips.begun_flip layout past h w parts known rest bare made of marked m room what may h' m' state run running begun

    formed : IsWellFormed u
    formed =
        let legal = flipped.made.legal in
        formed_in_steps w (flip_act w c) bare.like legal (laid_by_moves w bare.like (flip_act w c) legal) flipped.made.live.client

    -- as many are left as of the abstract collector right after the act
    left_then : units_left h'
        ≡ abstract.units_left (flips.y layout past h w parts known rest bare made of marked m room what may h' m' state run running begun)
    left_then =
        units_alike layout (record past {
          time = flips.time_then layout past h w parts known rest bare made of marked m room what may h' m' state run running begun;
        }) h' (flips.after layout past h w parts known rest bare made of marked m room what may h' m' state run running begun)
        (flips.parts_then layout past h w parts known rest bare made of marked m room what may h' m' state run running begun)
        (subst IsWellFormed
        (flips.leads_to layout past h w parts known rest bare made of marked m room what may h' m' state run running begun) formed)
        (flips.runs_then layout past h w parts known rest bare made of marked m room what may h' m' state run running begun)

    few_then : units_left h' ≤ most_units_after what h
    few_then =
        let before = flips.before layout past h w parts known rest bare made of marked m room what may h' m' state in
        let others : List Id = flips.others layout past h w parts known rest bare made of marked m room what may h' m' state in
        let act = flips.act layout past h w parts known rest bare made of marked m room what may h' m' state run running begun in
        let few =
        few_are_left w c others act.first act.after before.objects.rest may.numbered
        (flips.some layout past h w parts known rest bare made of marked m room what may h' m' state run running begun)
        (flips.told layout past h w parts known rest bare made of marked m room what may h' m' state) act.fixes
        in
        let left = left_then in
        let same = ap length (same_ids w (condemned_zones w c) c) in
        let condemned = condemned_are_few layout t h.segs m h.points w before what may in
        let remembered = remembered_are_few layout t h.segs m h.points w before what may in
        let registered =
        as_many w.addresses past.time.at_flip past.time.next past.time.registered_before h.finals.registered w.graph.registered
        parts.registered
        in
        let models =
        flip_is_the_models t.formats t.chains what h.segs.segments w before.segments.segments.same_segments may.alike before.pools.moves
        in
        let segments = ap (λ (ts : List Segment). length ts) models.segments in
        omega (arith, few, left, same, condemned, remembered, registered, segments)

  -- ---- whatever is condemned

  pub few_after_a_flip : IsStarted layout what h m h' m' → units_left h' ≤ most_units_after what h
  few_after_a_flip started = of_running h'.running refl
    where
      of_running : (o : Option RunningState) → h'.running ≡ o → units_left h' ≤ most_units_after what h
      of_running (Some run) is =
          few_then started.state run is
          (subst (λ o. IfSome o (λ r. Begins layout t.formats t.chains what h.points h.roots h.finals (traced t h.segs m)
          h'.roots h'.finals (traced (trace_of h'.pools h'.chains h'.tails) h'.segs m') r)) is started.begun)
      of_running None is = let none = none_at_rest h' is in omega (arith, none)
