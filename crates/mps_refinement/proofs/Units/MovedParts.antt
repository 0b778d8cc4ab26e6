-- After moves of a collector the parts of a heap stand for the world after them, where what isn't white stays where it is.
use Rattle.std.proofs.Common.{◌≡◌, ◌∙◌, ◌+◌, ◌<◌, ◌≤◌, true, false, refl, sym, ap, subst, [], ◌++◌, map, arith}
use Rattle.std.specs.Prelude.{not}
use Rattle.mps_base.specs.Address.{Id, max_grains, word_of}
use Rattle.mps_format.specs.Layout.{Layout}
use Rattle.mps_model.specs.Graph.{contains, entry_at, ids_in_blocks, ids_in_caches, ids_in_holds, ids_in_places, ids_in_reservations, ids_in_slots, is_automatic}
use Rattle.mps_model.specs.WellFormed.{IsWellFormed}
use Rattle.mps_model.specs.World.{World, address_of, is_copying_object, object_is, pairs_in}
use Rattle.mps_model.proofs.Reaching.{list_all-contains}
use Rattle.mps_abstract.specs.Collecting.{Collecting, Running, is_white_in}
use Rattle.mps_abstract.specs.Leaving.{IsButCollected}
use Rattle.mps_abstract.proofs.Lists.{contains_left, contains_right}
use Rattle.mps_abstract.proofs.Rows.{still_runs}
use Rattle.mps_trace.specs.State.{FinalsState}
use Rattle.mps_trace_laws.specs.Fix.Tracing.{AreSegmentsOf}
use Rattle.mps_trace_laws.specs.Image.Memory.{words_of_arena}
use Rattle.mps_heap_spec.specs.State.{HeapState}
use Rattle.mps_refinement.specs.Dependents.{kept_pair}
use Rattle.mps_refinement.specs.StandsFor.{AreParts, AreRegisteredAt, CollectorState, Past, StandsAt, Time, address_of_id}
use Rattle.mps_refinement.proofs.Collect.SameAddresses.{areas_same, same_places, tables_same}
use Rattle.mps_refinement.proofs.Parts.Named.{named_alike, named_at}
use Rattle.mps_refinement.proofs.Parts.BesideParts.{beside_still}
use Rattle.mps_refinement.proofs.Parts.TransformParts.{none_paired, pairs_unparked, transforms_still}
use Rattle.mps_refinement.proofs.Parts.PartsByKind.{parts_of_kinds, points_of}
use Rattle.mps_refinement.proofs.Worlds.InSteps.{manual_not_white, running_unparked}
use Rattle.mps_trace_laws.specs.Summaries.Summed.{AreWordsSummed}
use Rattle.mps_format.specs.Pools.{policy_of_pool}
use Rattle.mps_refinement.proofs.Parts.CachesStill.{same_caches}

-- a heap after a collector's work: other segments and tails, registrations and messages, and a collection that is further on
abbrev pub collected_heap : {F : Type 0} → HeapState F → CollectorState → FinalsState → HeapState F
collected_heap h c finals = record h { segs = c.segs; tails = c.tails; running = c.running; finals = finals }

module _ {F : Type 0} (layout : F → Layout) (past : Past) (h : HeapState F) (x : Collecting) (parts : AreParts layout past h x.world)
    (formed : IsWellFormed x.world) (none : x.world.graph.dependents ≡ []) (run : Running x) (after : World)
    (left : IsButCollected x.world after)
    (in_place : (id : Id) → is_white_in x id ≡ false → address_of after id ≡ address_of x.world id) (t : Time) (c : CollectorState)
    (finals : FinalsState) where
  abbrev w : World
  w = x.world

  -- the world after it
  abbrev v : World
  v = record w {
    graph = record w.graph {
      objects = left.objects;
      registered = left.registered;
      messages = left.messages;
      dependents = left.dependents;
    };
    addresses = left.addresses;
    segments = left.segments;
    tails = left.tails;
    collection = left.collection;
  }

  same : after ≡ v
  same = left.world

  -- what the client holds stays where it is
  stays : (id : Id) → is_white_in x id ≡ false → entry_at v.addresses id ≡ entry_at w.addresses id
  stays id black = sym (ap (λ (u : World). address_of u id) same) ∙ in_place id black

  client_stays : (id : Id)
      → contains (((ids_in_slots w.graph ++ ids_in_holds w.graph) ++ w.graph.messages) ++ ids_in_reservations w.graph) id ≡ true
      → entry_at v.addresses id ≡ entry_at w.addresses id
  client_stays id held = stays id (run.coloured.held id held)

  in_slots : (id : Id) → contains (ids_in_slots w.graph) id ≡ true → entry_at v.addresses id ≡ entry_at w.addresses id
  in_slots id there =
      client_stays id (contains_left ((ids_in_slots w.graph ++ ids_in_holds w.graph) ++ w.graph.messages) (ids_in_reservations w.graph) id
      (contains_left (ids_in_slots w.graph ++ ids_in_holds w.graph) w.graph.messages id
      (contains_left (ids_in_slots w.graph) (ids_in_holds w.graph) id there)))

  in_holds : (id : Id) → contains (ids_in_holds w.graph) id ≡ true → entry_at v.addresses id ≡ entry_at w.addresses id
  in_holds id there =
      client_stays id (contains_left ((ids_in_slots w.graph ++ ids_in_holds w.graph) ++ w.graph.messages) (ids_in_reservations w.graph) id
      (contains_left (ids_in_slots w.graph ++ ids_in_holds w.graph) w.graph.messages id
      (contains_right (ids_in_slots w.graph) (ids_in_holds w.graph) id there)))

  -- and so do manual blocks
  in_places : (id : Id) → contains (ids_in_places w.graph) id ≡ true → entry_at v.addresses id ≡ entry_at w.addresses id
  in_places id there =
      stays id (manual_not_white x run id (list_all-contains (object_is (λ o. not (is_automatic o)) w) (ids_in_blocks w.graph) id
      formed.blocks (contains_left (ids_in_places w.graph) (ids_in_caches w.graph) id there)))

  in_caches : (id : Id) → contains (ids_in_caches w.graph) id ≡ true → entry_at v.addresses id ≡ entry_at w.addresses id
  in_caches id there =
      stays id (manual_not_white x run id (list_all-contains (object_is (λ o. not (is_automatic o)) w) (ids_in_blocks w.graph) id
      formed.blocks (contains_right (ids_in_places w.graph) (ids_in_caches w.graph) id there)))

  -- ---- the parts

  module _ (segments : AreSegmentsOf c.segs after.grains after.limit after.segments) (image : StandsAt t c.segs after)
      (registered : AreRegisteredAt t after.addresses finals.registered after.graph.registered)
      (messages : finals.messages ≡ map (address_of_id after.addresses) after.graph.messages)
      (summed : AreWordsSummed layout (map policy_of_pool h.pools) c.segs) where
    same_size : c.segs.grains ≡ h.segs.grains
    same_size = segments.same_grains ∙ ap (λ (u : World). u.grains) same ∙ sym parts.grains

    parts_there : AreParts layout (record past { time = t }) (collected_heap h c finals) v
    parts_there =
        parts_of_kinds (
          segments.same_grains ∙ ap (λ (u : World). u.grains) same,
          segments.same_limit ∙ ap (λ (u : World). u.limit) same,
          segments.same_segments ∙ ap (λ (u : World). u.segments) same,
        ) (
          subst (StandsAt t c.segs) same image,
          record {
            nonzero = subst (λ n. 0 < n) (sym same_size) parts.arena.nonzero;
            at_most = subst (λ n. n ≤ max_grains) (sym same_size) parts.arena.at_most;
            within = λ key p held e f.
                subst (λ n. word_of held.at.0 + held.words ≤ words_of_arena n) (sym same_size) (parts.arena.within key p held e f);
            aligned = parts.arena.aligned;
          },
          summed,
        ) (
          tables_same w.addresses v.addresses past.table_number _ w.graph.tables in_slots parts.tables,
          parts.ordered,
          areas_same w.addresses v.addresses past.area_number _ w.graph.areas in_holds parts.areas,
          parts.blocks ∙ same_places w.addresses v.addresses w.graph.blocks in_places,
          parts.roots_counted,
          parts.slots_counted,
        )
        (points_of parts) (
          subst (λ (u : World). AreRegisteredAt t u.addresses finals.registered u.graph.registered) same registered,
          messages ∙ ap (λ (u : World). map (address_of_id u.addresses) u.graph.messages) same,
        )
        parts.dependencies (parts.lawful, parts.pools, parts.sizes, parts.chains)
        (named_alike h (collected_heap h c finals) (record past { time = t }) w.graph.names w.graph.labels
        (named_at past t h w.graph.names w.graph.labels parts.names) (λ name. refl) refl (record {
          pools = λ n low. low;
          caches = omega arith;
          tables = λ key some. some;
          areas = λ key some. some;
          blocks = λ n low. low;
          points = λ key some. some;
          dependencies = λ n low. low;
          chains = λ n low. low;
          transforms = refl;
        })) (
          parts.flips,
          parts.point_flips,
          parts.state,
          beside_still _ _ _ _ parts.beside _ _ _
              (same_caches w.addresses v.addresses w.graph.caches in_caches)
              (ap (map (kept_pair w.addresses)) none ∙ sym (ap (map (kept_pair v.addresses)) (left.unpaired none))),
          transforms_still past.transform_number (is_copying_object w) (is_copying_object v) w.addresses v.addresses h.beside.transforms
              w.graph.transforms (pairs_in w.state) (none_paired (is_copying_object w) (is_copying_object v) w.addresses v.addresses
              (pairs_in w.state) (pairs_unparked w.state
              (running_unparked w formed (still_runs w x.running run.runs)))) parts.transforms,
          parts.framed,
        )

    pub parts_moved : AreParts layout (record past { time = t }) (collected_heap h c finals) after
    parts_moved = subst (AreParts layout (record past { time = t }) (collected_heap h c finals)) (sym same) parts_there
