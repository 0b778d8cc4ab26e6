-- What fixes leave of a world between two units: its objects and pools, and the segments that were held.
use Rattle.std.proofs.Common.{◌≡◌, ◌∙◌, true, false, refl, sym, ap, subst, List, Option, Some}
use Rattle.std.specs.Prelude.{◌==◌, Contains, slice_get}
use Rattle.std.specs.Option.{option_map_or}
use Rattle.mps_base.specs.Address.{Address, Id}
use Rattle.mps_base.specs.Segment.{Segment}
use Rattle.mps_base.specs.declared.moves.Move.{Move}
use Rattle.mps_format.specs.Layout.{Layout}
use Rattle.mps_format.specs.declared.pool.Policy.{Policy}
use Rattle.mps_seg.specs.Segs.{SegsState}
use Rattle.mps_trace.specs.GenState.{ChainsState}
use Rattle.mps_model.specs.Collection.{Collection}
use Rattle.mps_model.specs.Graph.{Graph, contains}
use Rattle.mps_model.specs.World.{World, Pool, PointMemory, is_copying_kind, is_copying_pool, is_live}
use Rattle.mps_abstract.specs.Collecting.{Collecting, Running, is_tracing_band}
use Rattle.mps_abstract.specs.Fixing.{Fixes, fixes_no_more, passes, keeps, Keeps, kept_by}
use Rattle.mps_abstract.proofs.Kept.{held_in, keeps_leaves}
use Rattle.mps_abstract.proofs.Lists.{contains_here, contains_later}
use Rattle.mps_abstract.proofs.Scanning.{MayBeFixed, kept_rightly}
use Rattle.mps_trace_laws.specs.Fix.Tracing.{AreHeld, AreCondemnedAt}
use Rattle.mps_trace_laws.specs.Reclaim.Left.{IsUnreserved}
use Rattle.mps_trace_laws.specs.Units.Standing.{AreCondemnedUnreserved, AreObjectsKnown}
use Rattle.mps_trace_laws.proofs.Reclaim.HeldSegments.{found_at, found_held, same_base}
use Rattle.mps_trace_laws.proofs.Units.Entering.{held_in_order}

pub record IsStill {F : Type 0} (layout : F
    → Layout) (formats : List (Option (Policy F))) (of : ChainsState) (x y : Collecting) : Type 0 where
  pub moving : AreObjectsKnown layout formats of x.world → AreObjectsKnown layout formats of y.world
  pub cursor : y.cursor ≡ x.cursor
  pub next : y.next ≡ x.next
  pub band : y.band ≡ x.band
  pub graph : y.world.graph ≡ x.world.graph
  pub pools : y.world.pools ≡ x.world.pools
  pub memories : y.world.point_memories ≡ x.world.point_memories
  pub bases : y.running.condemned_segments ≡ x.running.condemned_segments
  pub held : (base : Address) (s : Segment) → held_in x.world.segments base ≡ Some s → held_in y.world.segments base ≡ Some s

module _ {F : Type 0} (layout : F → Layout) (formats : List (Option (Policy F))) (of : ChainsState) where
  -- one object is kept
  pub kept_is_still : (x : Collecting) (id : Id) (ms : List Move) (c : Collection) → Running x → is_live x.world id ≡ true
      → Keeps x.world x.running id ms c → IsStill layout formats of x (kept_by x id ms c)
  kept_is_still x id ms c run live keep =
      let r = keeps_leaves x.world x.running id run.runs run.different live keep in
      record {
        moving = λ m. subst (AreObjectsKnown layout formats of) (sym r.world) (record {
          shaped = m.shaped;
          pools = m.pools;
          strong_moving = m.strong_moving;
          none_dependent = m.none_dependent;
        });
        cursor = refl;
        next = refl;
        band = refl;
        graph = ap (λ (w : World). w.graph) r.world;
        pools = ap (λ (w : World). w.pools) r.world;
        memories = ap (λ (w : World). w.point_memories) r.world;
        bases = ap (λ (d : Collection). d.condemned_segments) r.running;
        held = λ base s e. ap (λ (w : World). held_in w.segments base) r.world ∙ r.held base s e;
      }

  pub still : {x y : Collecting} {ids : List Id} {ms : List Move} → Fixes x ids ms y → Running x → is_tracing_band x.band ≡ true
      → MayBeFixed x ids → IsStill layout formats of x y
  still (fixes_no_more {x}) run trace may = record {
    moving = λ m. m;
    cursor = refl;
    next = refl;
    band = refl;
    graph = refl;
    pools = refl;
    memories = refl;
    bases = refl;
    held = λ base s e. e;
  }
  still {x} (passes {id = id} {ids = ids} black rest) run trace may =
      still rest run trace (λ n h. may n (contains_later id ids n h))
  still {x} (keeps {y = z} {id} {ids} {these} {those} {c} white keep rest) run trace may =
      let first = may id (contains_here id ids) in
      let one = kept_rightly x run trace id first.0 first.1 white keep in
      let before = kept_is_still x id these c run first.0 keep in
      let after = still rest one.running (ap is_tracing_band one.further.band ∙ trace) (λ n h.
      let more = may n (contains_later id ids n h) in (one.further.live n ∙ more.0, one.further.survives n more.1)) in
      record {
        moving = λ m. after.moving (before.moving m);
        cursor = after.cursor;
        next = after.next;
        band = after.band;
        graph = after.graph ∙ before.graph;
        pools = after.pools ∙ before.pools;
        memories = after.memories ∙ before.memories;
        bases = after.bases ∙ before.bases;
        held = λ base s e. after.held base s (before.held base s e);
      }

  -- a condemned segment was held and condemned before, so no live reservation lies in it
  module _ (s s' : SegsState) (x y : Collecting) (was : AreHeld s) (segments : s.segments ≡ x.world.segments)
      (condemned : AreCondemnedAt s x.running.condemned_segments) (now : AreHeld s') (segments' : s'.segments ≡ y.world.segments)
      (condemned' : AreCondemnedAt s' y.running.condemned_segments) (stays : IsStill layout formats of x y)
      (unreserved : AreCondemnedUnreserved s (is_copying_pool x.world) x.world.graph.points x.world.point_memories) where
    pub unreserved_still : AreCondemnedUnreserved s' (is_copying_pool y.world) y.world.graph.points y.world.point_memories
    unreserved_still u held is copying =
        let before : contains x.running.condemned_segments u.base ≡ true =
        ap (λ bs. contains bs u.base) (sym stays.bases) ∙ sym (condemned'.is_bit u held) ∙ is
        in
        let one = condemned.is_held u.base before in
        let t : Segment = one.0 in
        let bit_then = condemned.is_bit t one.1 ∙ ap (contains x.running.condemned_segments) one.2 ∙ before in
        let order = held_in_order s was in
        let found =
        ap (λ ss. held_in ss t.base) (sym segments)
        ∙ found_at s.segments t t.base one.1 refl (λ v there is. same_base s.segments order v t there one.1 is)
        in
        let there =
        subst (λ ss. Contains ss t) (sym segments')
        (found_held (λ v. v.base == t.base) y.world.segments t (stays.held t.base t found))
        in
        let same = same_base s'.segments (held_in_order s' now) t u there held one.2 in
        let copying_then : is_copying_pool x.world t.pool ≡ true =
        sym (ap (λ ps. option_map_or (λ (p : Pool). is_copying_kind p.kind) (slice_get ps t.pool) false) stays.pools)
        ∙ ap (λ (v : Segment). is_copying_pool y.world v.pool) same ∙ copying
        in
        subst (λ (v : Segment). IsUnreserved y.world.graph.points y.world.point_memories v) same
        (subst (λ (g : Graph). IsUnreserved g.points y.world.point_memories t) (sym stays.graph)
        (subst (λ (ms : List PointMemory). IsUnreserved x.world.graph.points ms t) (sym stays.memories)
        (unreserved t one.1 bit_then copying_then)))
