-- What a flip and a collection of everything leave of a heap, and that it is right where it does.
use Rattle.std.proofs.Common.{◌≡◌, ◌∙◌, ℕ, ◌<◌, false, refl, sym, ap, subst, List, length, Option, [], ◌∷◌, arith}
use Rattle.mps_base.specs.Address.{Address}
use Rattle.mps_base.specs.Segment.{Segment}
use Rattle.mps_base.specs.Trail.{Moves}
use Rattle.mps_extents.specs.Table.{bit}
use Rattle.mps_format.specs.Layout.{Layout}
use Rattle.mps_ld.specs.State as ld
use Rattle.mps_model.specs.Effect.{Everything, condemned_by, condemned_zones, world_flipped, world_after_moves}
use Rattle.mps_model.specs.Flip.{flip_act, is_nothing}
use Rattle.mps_model.specs.World.{World, Parked}
use Rattle.mps_root.specs.State.{RootsState, kept}
use Rattle.mps_heap_spec.specs.Collecting.{IsCollected}
use Rattle.mps_heap_spec.specs.State.{HeapState, without_pairs}
use Rattle.mps_heap_spec.specs.declared.arena.ArenaState.{ArenaState}
use Rattle.mps_heap_spec.specs.declared.arena.ArenaState.TheVariants as arena
use Rattle.mps_buffer.specs.Points.{points_after_flip}
use Rattle.mps_trace.specs.declared.running.Running.{Running}
use Rattle.mps_trace_laws.specs.Image.AtRest.{StandsAtRest}
use Rattle.mps_trace.specs.Flip.{at_flip, condemned_of, moving_of, zones_at_flip, zones_of}
use Rattle.mps_trace.specs.State.{FinalsState}
use Rattle.mps_trace.specs.Begin.{EndsAtOnce}
use Rattle.mps_trace.specs.Trace.{TraceState, traced}
use Rattle.mps_base.specs.Segment.{Segment}
use Rattle.mps_trace.proofs.Condemning.{all_that_moves}
use Rattle.mps_trace_laws.specs.Flip.Condemned.{CondemnsAlike, IsFlipOf, condemnation}
use Rattle.mps_trace_laws.proofs.Flip.Condemned.{flip_is_the_models}
use Rattle.mps_abstract.specs.FlipLaws.{IsNumbered}
use Rattle.mps_trace.specs.declared.condemn.Condemn.{Condemn}
use Rattle.mps_trace.specs.declared.condemn.Condemn.TheVariants as condemn
use Rattle.mps_trace_laws.specs.Units.Laws.{HasSegmentsOf, HasFinalsOf}
use Rattle.mps_trace_laws.specs.Begin.Before.{StandsBefore}
use Rattle.mps_trace_laws.specs.Begin.Begun.{IsOverAtOnce}
use Rattle.mps_refinement.specs.Numbering.{AreNumbered}
use Rattle.mps_refinement.specs.StandsFor.{AreSlots, AreParts, Past, state_of, time_at_rest}
use Rattle.mps_abstract.specs.Leaving.{IsButCollected}
use Rattle.mps_abstract.proofs.FlipActs.FlipBegins.{flip_ended}
use Rattle.mps_refinement.proofs.Parts.Resting.{registered_at_rest}
use Rattle.mps_refinement.specs.Collect.Standing.{IsCollectedHeap, IsFlippedHeap}
use Rattle.mps_refinement.proofs.Collect.CollectedSegments.{none_condemned, none_kept, same_size, segments_at_once}
use Rattle.mps_refinement.proofs.Collect.RootsAfter.{AreRootsAfter, roots_stay, still_there}

-- ---- what is left of a heap

-- the arena and the roots of a heap, as a collection leaves them, where the act of the flip left objects at these addresses and this is
-- the world after its moves
pub record IsLeft {F : Type 0} (past : Past) (w : World) (h after : HeapState F) (acted : List (Option Address)) (u : World) : Type 0
  where
    pub segments : HasSegmentsOf after.segs u
    pub image : StandsAtRest after.segs u
    pub not_condemned : (grain : ℕ) → bit after.segs.condemned grain ≡ false
    pub not_kept : (n : ℕ) → bit after.segs.marks.kept n ≡ false
    pub tables : AreNumbered (AreSlots acted) past.table_number (kept after.roots.tables) w.graph.tables
    pub roots : AreRootsAfter h.roots after.roots
    pub finals : HasFinalsOf after.finals u

-- a collection that ends at once leaves it so
pub left_at_once : {F : Type 0} (layout : F → Layout) (past : Past) (h : HeapState F) (w : World) → AreParts layout past h w
    → past.time ≡ time_at_rest → (m : Moves) (t : TraceState F) → StandsBefore layout t h.segs m h.points w → (what : Condemn)
    → IsNumbered (condemnation what) → (h' : HeapState F) (t' : TraceState F) (m' : Moves)
    → EndsAtOnce t.formats t.chains what h.points h.roots h.finals (traced t h.segs m) h'.roots h'.finals
    (traced t' h'.segs m')
    → IsOverAtOnce m w what (traced t' h'.segs m')
    → IsLeft past w h h' w.addresses (world_after_moves w (flip_act w (condemnation what)))
left_at_once layout past h w parts time m t before what numbered h' t' m' ends over =
    let x = traced t h.segs m in
    let z = traced t' h'.segs m' in
    record {
      segments = segments_at_once t.formats t.chains h.points x z w what before.segments.segments before.objects.rest numbered over.nothing
          ends.over;
      image = over.stands;
      not_condemned = none_condemned (at_flip t.formats t.chains what h.points x) z ends.over;
      not_kept = none_kept (at_flip t.formats t.chains what h.points x) z ends.over;
      tables =
          subst (λ (roots : RootsState). AreNumbered (AreSlots w.addresses) past.table_number (kept roots.tables) w.graph.tables)
          (sym ends.roots_are) parts.tables;
      roots = subst (AreRootsAfter h.roots) (sym ends.roots_are) (roots_stay h.roots);
      finals =
          subst (λ (f : FinalsState). HasFinalsOf f (world_after_moves w (flip_act w (condemnation what)))) (sym ends.finals_are)
          (subst (λ ms. HasFinalsOf h.finals (world_after_moves w ms))
          (sym (flip_ended w (condemnation what) before.objects.rest numbered over.nothing).act)
          (record { registrations = registered_at_rest layout past h w parts time; waiting = parts.messages }));
    }

-- ---- what a flip condemns

module _ {F : Type 0} (layout : F → Layout) (past : Past) (h : HeapState F) (w : World) (parts : AreParts layout past h w) (m : Moves)
    (t : TraceState F) (before : StandsBefore layout t h.segs m h.points w) where
  module _ (what : Condemn) (alike : CondemnsAlike t.formats t.chains what w) where
    flips : IsFlipOf what (condemned_of t.formats t.chains what h.segs.segments)
        (moving_of t.formats (condemned_of t.formats t.chains what h.segs.segments)) w
    flips = flip_is_the_models t.formats t.chains what h.segs.segments w parts.segments alike before.pools.moves

    pub same_zones : zones_at_flip t.formats t.chains what h.segs.segments ≡ condemned_zones w (condemnation what)
    same_zones = flips.zones

    -- something, if it condemns a segment
    pub something_condemned : 0 < length (condemned_of t.formats t.chains what h.segs.segments)
        → is_nothing (condemned_by w (condemnation what)) ≡ false
    something_condemned some =
        subst (λ ts. is_nothing ts ≡ false) flips.segments (some_of (condemned_of t.formats t.chains what h.segs.segments) some)
      where
        some_of : (ts : List Segment) → 0 < length ts → is_nothing ts ≡ false
        some_of [] none = absurd (omega (arith, none))
        some_of (s ∷ ts) some = refl

  -- the zones of all that moves are those of a full flip
  pub full_zones : zones_of (moving_of t.formats h.segs.segments) ≡ condemned_zones w Everything
  full_zones =
      sym (ap (λ (ts : List Segment). zones_of ts) (all_that_moves t.formats h.segs.segments))
      ∙ same_zones condemn.Everything (λ u. before.pools.formats u.pool)

-- ---- a heap after it

-- with these zones, an arena in this state, and this collection
abbrev pub heap_flipped : {F : Type 0} → (h h' : HeapState F) → (zones : ℕ) → ArenaState → Option Running → HeapState F
heap_flipped h h' zones arena_state running = record h {
  segs = h'.segs;
  roots = h'.roots;
  finals = h'.finals;
  points = points_after_flip h.points;
  epochs = ld.epochs_after_flip h.epochs zones;
  tails = h'.tails;
  arena = arena_state;
  beside = without_pairs h.beside;
  running = running;
}

-- it stands as a call has to leave it
pub flipped_heap : {F : Type 0} (layout : F → Layout) (past : Past) (h h' : HeapState F) (w : World) → AreParts layout past h w
    → (zones : ℕ) (arena_state : ArenaState) (running : Option Running) → h' ≡ heap_flipped h h' zones arena_state running
    → {of_flip : ℕ} → zones ≡ of_flip → (acted : List (Option Address)) (u : World)
    → IsButCollected (world_flipped w of_flip) u → HasSegmentsOf h'.segs u → AreRootsAfter h.roots h'.roots
    → AreNumbered (AreSlots acted) past.table_number (kept h'.roots.tables) w.graph.tables
    → IsFlippedHeap past w of_flip h h' acted (record u { state = state_of arena_state [] })
flipped_heap {F} layout past h h' w parts zones arena_state running is {of_flip} same acted u moved segments roots tables =
    let size = same_size w u of_flip moved in
    record {
      grains = segments.same_grains ∙ (size.0 ∙ sym parts.grains);
      limit = segments.same_limit ∙ (size.1 ∙ sym parts.limit);
      segments = segments.same_segments;
      tables = tables;
      order = roots.order;
      tables_there = still_there h.roots h'.roots roots;
      points = ap (λ (x : HeapState F). x.points) is;
      epochs = ap (λ (x : HeapState F). x.epochs) is ∙ ap (ld.epochs_after_flip h.epochs) same;
      state = ap (λ a. state_of a []) (sym (ap (λ (x : HeapState F). x.arena) is));
      areas = roots.areas;
      blocks = roots.blocks;
      live_roots = ap (λ (x : HeapState F). x.live_roots) is;
      live_slots = ap (λ (x : HeapState F). x.live_slots) is;
      live_points = ap (λ (x : HeapState F). x.live_points) is;
      dependencies = ap (λ (x : HeapState F). x.dependencies) is;
      pools = ap (λ (x : HeapState F). x.pools) is;
      sizes = ap (λ (x : HeapState F). x.sizes) is;
      chains = ap (λ (x : HeapState F). x.chains) is;
      names = ap (λ (x : HeapState F). x.names) is;
      beside = ap (λ (x : HeapState F). x.beside) is;
    }

-- and where the collection has ended
pub collected_heap : {F : Type 0} (layout : F → Layout) (past : Past) (h : HeapState F) (w : World) → (parts : AreParts layout past h w)
    → (m : Moves) (h' : HeapState F) (m' : Moves) (collected : IsCollected layout h m h' m')
    → StandsBefore layout collected.before h.segs m h.points w
    → (acted : List (Option Address)) (u : World) → IsButCollected (world_flipped w (condemned_zones w Everything)) u
    → IsLeft past w h h' acted u → IsCollectedHeap past w h h' acted (record u { state = Parked [] })
collected_heap {F} layout past h w parts m h' m' collected before acted u moved left =
    let t = collected.before in
    record {
      flipped =
          flipped_heap layout past h h' w parts (zones_of (moving_of t.formats h.segs.segments)) arena.Parked h.running collected.state
          (full_zones layout past h w parts m t before) acted u moved left.segments left.roots left.tables;
      image = left.image;
      not_condemned = left.not_condemned;
      not_kept = left.not_kept;
      finals = record { registrations = left.finals.registrations; waiting = left.finals.waiting };
      running = ap (λ (x : HeapState F). x.running) collected.state;
    }
