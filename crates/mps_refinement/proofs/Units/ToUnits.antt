-- A heap that stands for a world in which a collection runs stands for the abstract collector between two units.
use Rattle.std.proofs.Common.{◌≡◌, ◌∙◌, ◌+◌, ◌≤◌, Bool, true, false, sym, ap, subst, List, [], Option, inl, inr, Contains, arith}
use Rattle.std.proofs.lemmas.Bool.{cases_Bool}
use Rattle.std.specs.Prelude.{ℕ, not}
use Rattle.std.specs.Option.{option_map_or}
use Rattle.mps_base.specs.Address.{Address, Id, grain_of}
use Rattle.mps_base.specs.Segment.{Segment}
use Rattle.mps_base.specs.Trail.{Moves}
use Rattle.mps_extents.specs.Table.{bit}
use Rattle.mps_format.specs.Layout.{Layout}
use Rattle.mps_model.specs.Graph.{Object, contains}
use Rattle.mps_model.specs.WellFormed.{IsWellFormed, is_right_object}
use Rattle.mps_model.specs.World.{World, is_copying_pool}
use Rattle.mps_seg.specs.Table.{IsMarked}
use Rattle.mps_laws.proofs.Positions.LegalMoves.{HasLayout}
use Rattle.mps_pools.specs.Pools.{trace_of}
use Rattle.mps_pools.specs.Collecting.{IsTraceOf}
use Rattle.mps_trace.specs.Trace.{TraceState, Traced, traced}
use Rattle.mps_abstract.specs.Colours.{Colours, is_white}
use Rattle.mps_abstract.specs.Collecting.{Collecting}
use Rattle.mps_abstract.proofs.RightObjects.{pool_kind}
use Rattle.mps_trace_laws.specs.Begin.Before.{ArePoolsKnown}
use Rattle.mps_trace_laws.specs.Fix.Room.{moves_left}
use Rattle.mps_trace_laws.specs.Fix.Tracing.{AreCondemnedAt}
use Rattle.mps_trace_laws.specs.Image.Image.{Stands}
use Rattle.mps_trace_laws.specs.Image.Memory.{memory_in, pool_layout, setting_in}
use Rattle.mps_trace_laws.specs.Units.Finals.{AreDue}
use Rattle.mps_trace_laws.specs.Units.Standing.{AreFinalsOf, AreObjectsKnown, StandsInBand, StandsReclaiming, StandsTracing, UnitStands, reclaiming, tracing}
use Rattle.mps_trace_laws.proofs.Image.Laws.{well_formed_is_shaped}
use Rattle.mps_trace_laws.proofs.Image.Shaped.{all_at}
use Rattle.mps_trace_laws.proofs.Units.Entering.{held_in_order, held_inside}
use Rattle.mps_trace_laws.proofs.Units.MovesBound.{moves_are_bounded}
use Rattle.mps_heap_spec.specs.State.{HeapState}
use Rattle.mps_refinement.specs.StandsFor.{AreParts, AreRegistered, Past, Runs, collector_of}
use Rattle.mps_refinement.proofs.Collect.LiveIsFew.{most_now, moves_are_few}
use Rattle.mps_refinement.proofs.Collect.ObjectsAtRest.{registered_are_due}
use Rattle.mps_refinement.proofs.Collect.PoolsKnown.{pools_known}
use Rattle.mps_refinement.proofs.Collect.StrongMoving.{strong_moving}
use Rattle.mps_refinement.proofs.Parts.CommittedParts.{segment_there}
use Rattle.mps_refinement.proofs.Parts.LaidSegments.{are_held, are_housed, are_reserved, blocks_in_order, covered_in_order, has_tables, same_segments}
use Rattle.mps_refinement.proofs.Parts.SegmentsTaken.{condemned_held}
use Rattle.mps_refinement.proofs.Units.Registrations.{as_registered, lived_then}
use Rattle.mps_refinement.proofs.Units.Tails.{condemned_bits, tails_stand}
use Rattle.mps_refinement.proofs.Worlds.Unreserved.{condemned_unreserved}
use Rattle.mps_refinement.proofs.Worlds.LikeReached.{IsBare}

module _ {F : Type 0} (layout : F → Layout) (past : Past) (h : HeapState F) (x : Collecting) (parts : AreParts layout past h x.world)
    (bare : IsBare x.world) (r : Runs past.time (collector_of h) x.world x)
    (of : IsTraceOf h.pools h.chains (trace_of h.pools h.chains h.tails))
    (marked : IsMarked h.segs.grains h.segs.marks h.segs.condemned h.segs.summaries)
    (m : Moves) (room : most_now h.segs ≤ m.spare) where
  abbrev w : World
  w = x.world

  abbrev t : TraceState F
  t = trace_of h.pools h.chains h.tails

  abbrev at_flip : List (Option Address)
  at_flip = past.time.at_flip

  abbrev here : Traced
  here = traced t h.segs m

  formed : IsWellFormed w
  formed = bare.like.formed

  laid : HasLayout (w.grains + 1) w
  laid = bare.like.kept.layout

  -- ---- registrations and messages

  registered_then : AreRegistered w.addresses at_flip x.next x.running.registered_before h.finals.registered w.graph.registered
  registered_then =
      subst (λ (n : ℕ). AreRegistered w.addresses at_flip x.next n h.finals.registered w.graph.registered) r.registered_before
      (subst (λ (n : ℕ). AreRegistered w.addresses at_flip n past.time.registered_before h.finals.registered w.graph.registered) r.next
      parts.registered)

  pub finals : AreFinalsOf at_flip x h.finals
  finals = record {
    registrations =
        as_registered w.addresses at_flip x.next x.running.registered_before h.finals.registered w.graph.registered registered_then;
    waiting = parts.messages;
  }

  pub due : AreDue at_flip w.graph.objects w.graph.registered x.next x.running.registered_before
  due = record {
    lived = lived_then w.addresses at_flip x.next x.running.registered_before h.finals.registered w.graph.registered registered_then;
    automatic = (registered_are_due w formed).automatic;
  }

  -- ---- pools and objects

  pools : ArePoolsKnown layout t w
  pools = pools_known layout h.pools h.chains t w parts.pools parts.chains of

  known : AreObjectsKnown layout t.formats t.chains w
  known = record {
    shaped = well_formed_is_shaped w parts.lawful formed;
    pools = pools.pools;
    strong_moving = strong_moving w bare.like.kept.sound;
    none_dependent = bare.none;
  }

  -- ---- segments

  bits : (s : Segment) → Contains h.segs.segments s
      → bit h.segs.condemned (grain_of s.base) ≡ contains x.running.condemned_segments s.base
  bits = condemned_bits layout past h x parts laid r.invariant r.condemned

  condemned_at : AreCondemnedAt h.segs x.running.condemned_segments
  condemned_at = record {
    is_bit = bits;
    is_held = λ base is.
        let u = condemned_held x r.invariant base is in
        (u.0, subst (λ (ts : List Segment). Contains ts u.0) (sym parts.segments) (segment_there u.0 w.segments u.1), u.2);
  }

  enough : moves_left x + 2 ≤ m.spare
  enough =
      let bounded = moves_are_bounded x r.invariant in
      let few = moves_are_few layout past h w parts formed laid (blocks_in_order layout past h w parts laid) bare.like.kept.sound in
      omega (arith, bounded, few, room)

  -- ---- the image

  abbrev StandsSo : (condemned : List Id) → (is_read : Id → Bool) → Colours → (at_flip : List (Option Address)) → Type 0
  StandsSo condemned is_read k flip =
      Stands (setting_in h.segs w.graph.objects w.graph.points w.point_memories (pool_layout w) flip condemned is_read)
      (memory_in h.segs) w.addresses k

  coloured : StandsSo x.running.condemned past.time.is_read x.colours at_flip
  coloured =
      subst (λ k. StandsSo x.running.condemned past.time.is_read k at_flip) r.colours
      (subst (λ c. StandsSo c past.time.is_read past.time.colours at_flip) r.condemned_ids parts.image)

  -- ---- the bands

  pub stands_tracing : past.time.is_reclaiming ≡ false → StandsTracing layout t.formats t.chains at_flip here x
  stands_tracing still =
      let its = r.tracing still in
      record {
        traces = record {
          state = record {
            segments = same_segments layout past h w parts laid;
            held = are_held layout past h w parts laid;
            tables = has_tables h marked;
            covered = covered_in_order layout past h w parts laid;
            reserved = are_reserved layout past h w parts laid;
            condemned = condemned_at;
            image = subst (λ f. StandsSo x.running.condemned f x.colours at_flip) its.read coloured;
            pools = pools.pools;
            collected = λ id o there automatic.
                pool_kind w o (all_at (is_right_object w) w.graph.objects id o formed.objects there) ∙ automatic;
            still = λ id o from to there stays was now.
                r.flip.still id from to
                (ap (λ p. option_map_or (λ (q : Object). is_copying_pool w q.pool) p false) there ∙ stays) was now;
            tails = record { has = λ pool generation copying. pools.tails pool generation copying; same = its.tails };
            hands = tails_stand layout past h x parts laid r.invariant r.condemned at_flip;
          };
          room = enough;
        };
        band = its.band;
        housed = are_housed layout past h w parts laid;
        ranked = its.ranked;
      }

  stands_reclaiming : past.time.is_reclaiming ≡ true → StandsReclaiming here x
  stands_reclaiming begun =
      let its = r.reclaiming begun in
      let read_now : past.time.is_read ≡ (λ id. not (is_white x.running.condemned x.colours id)) =
      its.read ∙ ap (λ cs (id : Id). not (is_white cs past.time.colours id)) r.condemned_ids
      ∙ ap (λ k (id : Id). not (is_white x.running.condemned k id)) r.colours in
      record {
        segments = same_segments layout past h w parts laid;
        frees = record {
          stands = record {
            image =
                subst (λ f. StandsSo x.running.condemned f x.colours []) read_now
                (subst (λ a. StandsSo x.running.condemned past.time.is_read x.colours a) its.none_at_flip coloured);
            order = held_in_order h.segs (are_held layout past h w parts laid);
            housed = are_housed layout past h w parts laid;
          };
          segments = sym parts.segments;
          bits = bits;
        };
        scanned = its.scanned;
        examined = its.examined;
        inside = held_inside h.segs (are_held layout past h w parts laid);
        room = enough;
      }

  in_band : StandsInBand layout t.formats t.chains at_flip here x
  in_band = elim (cases_Bool past.time.is_reclaiming) [
    | inl begun ↦ reclaiming (stands_reclaiming begun) (r.reclaiming begun).band
    | inr still ↦ tracing (stands_tracing still)
  ]

  pub stands_for_units : UnitStands layout t.formats t.chains at_flip here h.finals r.run x
  stands_for_units = record {
    running = r.invariant;
    same_band = r.as_far.band;
    next = r.as_far.next;
    before = r.as_far.registered_before;
    finals = finals;
    due = due;
    cursor = r.as_far.cursor;
    moving = known;
    unreserved = λ s held condemned copying.
        condemned_unreserved past.time (collector_of h) w x r laid s (subst (λ (ts : List Segment). Contains ts s) parts.segments held)
        condemned copying;
    band = in_band;
  }
