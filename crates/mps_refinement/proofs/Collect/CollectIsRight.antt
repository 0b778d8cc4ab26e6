-- A collection of everything of a heap at rest, in which no object has a dependent: its moves are legal, and the heap represents the world
-- after them.
use Rattle.std.proofs.Common.{◌≡◌, ◌∙◌, ℕ, Bool, true, false, refl, sym, ap, subst, List, [], ◌∷◌, ◌++◌, length, Option, Some, None, is_some, inl, inr, map}
use Rattle.std.proofs.lemmas.Bool.{false≢true, or_right}
use Rattle.std.specs.Prelude.{◌==◌, ◌||◌, slice_get, option_and_then}
use Rattle.std.specs.List.{flat_map, list_all}
use Rattle.std.specs.Option.{option_map_or}
use Rattle.mps_base.specs.Address.{Id}
use Rattle.mps_base.specs.declared.moves.Move.{Move}
use Rattle.mps_buffer.specs.Points.{WereMadeBefore}
use Rattle.mps_format.specs.Layout.{Layout}
use Rattle.mps_model.specs.Graph.{contains, ids_in_blocks, ids_of_client, targets}
use Rattle.mps_model.specs.World as world
use Rattle.mps_model.specs.World.{World, Pool, PoolKind, Collected, OneSize, AnySize, Frames, is_automatic_kind, is_copying_kind, pool_is, ids_in_pairs, is_live, is_running, live_ids}
use Rattle.mps_model.specs.WellFormed.{IsWellFormed}
use Rattle.mps_model.specs.Effect.{Everything, condemned_by, is_on_chain, world_after_moves}
use Rattle.mps_model.specs.Flip.{flip_act, is_nothing}
use Rattle.mps_model.specs.History.{HeldAreLive}
use Rattle.mps_model.proofs.Cutting.{world_after_moves-append}
use Rattle.mps_model.proofs.Reaching.{list_all-contains}
use Rattle.mps_laws.proofs.Sound.HeldIds.{all-append}
use Rattle.mps_trace.specs.GenState.{ChainsState}
use Rattle.mps_heap_spec.specs.State.{HeapState}
use Rattle.mps_abstract.specs.Colours.{AllReferredLive}
use Rattle.mps_abstract.specs.Collecting.{Collecting}
use Rattle.mps_abstract.specs.Units.{Ends}
use Rattle.mps_abstract.specs.FlipLaws.{IsAtRest, collecting_after_flip, FixesHeld}
use Rattle.mps_abstract.specs.WholeLaws.{IsWholeDone}
use Rattle.mps_abstract.proofs.Addresses.{listed_is_live, live_is_listed}
use Rattle.mps_abstract.proofs.Lists.{contains_cases, contains_here, contains_later, contains_left, contains_right, list_all-members}
use Rattle.mps_abstract.proofs.FlipActs.FlipBegins.{flip_done, flip_ended}
use Rattle.mps_abstract.proofs.Rows.{last_units_done}
use Rattle.mps_abstract.proofs.WholeCollections.WholeBegins.{nothing_remembered, begun_running}
use Rattle.mps_abstract.proofs.WholeCollections.WholeEnds.{a_whole_collection}
use Rattle.mps_refinement.specs.StandsFor.{AreChains, AreParts, Past, Time, rests, time_at_rest}
use Rattle.mps_refinement.proofs.Parts.Registered.{registered_at_the_end}
use Rattle.mps_refinement.proofs.Worlds.Known.{IsKnown}
use Rattle.mps_refinement.specs.Collect.Leaving.{IsCollected, AreInPlace}
use Rattle.mps_refinement.specs.Collect.Standing.{IsCollectedHeap, world_collected}
use Rattle.mps_refinement.proofs.Collect.Finished.{HasFinished}
use Rattle.mps_refinement.proofs.Following.Made.{AreMade}
use Rattle.mps_refinement.proofs.Worlds.InSteps.{laid_by_moves}
use Rattle.mps_refinement.proofs.Worlds.LikeReached.{IsBare, formed_in_steps}
use Rattle.mps_model.specs.Collecting.{with_state}
use Rattle.mps_refinement.proofs.Collect.FlipActs.{nothing_in_place}
use Rattle.mps_refinement.proofs.Collect.Leavings.{a_collection_moves_objects}
use Rattle.mps_refinement.proofs.Collect.CollectedParts.{blocks_are_manual, flipped_parts}
use Rattle.mps_trace_laws.specs.Summaries.Summed.{AreWordsSummed}
use Rattle.mps_format.specs.Pools.{policy_of_pool}

-- ---- lists

-- what one of some leads to is among what all lead to
in_flat : (next : ℕ → List ℕ) (xs : List ℕ) (x y : ℕ) → contains xs x ≡ true → contains (next x) y ≡ true
    → contains (flat_map next xs) y ≡ true
in_flat next [] x y h g = absurd (false≢true h)
in_flat next (z ∷ zs) x y h g = elim (contains_cases z zs x h) [
  | inl same ↦ contains_left (next z) (flat_map next zs) y (ap (λ n. contains (next n) y) same ∙ g)
  | inr later ↦ contains_right (next z) (flat_map next zs) y (in_flat next zs x y later g)
]

all_flat : (p : ℕ → Bool) (next : ℕ → List ℕ) (xs : List ℕ)
    → ((x : ℕ) → contains xs x ≡ true → list_all p (next x) ≡ true) → list_all p (flat_map next xs) ≡ true
all_flat p next [] each = refl
all_flat p next (x ∷ xs) each =
    all-append p (next x) (flat_map next xs) (each x (contains_here x xs))
    (all_flat p next xs (λ y h. each y (contains_later x xs y h)))

-- ---- a heap at rest may begin a collection

-- a pool that copies is automatic
copies_automatic : (kind : PoolKind) → is_copying_kind kind ≡ true → is_automatic_kind kind ≡ true
copies_automatic (Collected kind) copies = refl
copies_automatic (OneSize words) copies = absurd (false≢true copies)
copies_automatic AnySize copies = absurd (false≢true copies)
copies_automatic Frames copies = absurd (false≢true copies)

-- so is one on a chain
on_chain_automatic : (w : World) (kept : ChainsState) → AreChains kept w.chains w.pools → (chain number : ℕ)
    → is_on_chain w chain number ≡ true → pool_is is_automatic_kind w number ≡ true
on_chain_automatic w kept are chain number on = of_pool (slice_get w.pools number) refl on
  where
    of_chain : (q : Pool) → slice_get w.pools number ≡ Some q → (o : Option ℕ) → q.chain ≡ o
        → option_map_or (λ on. on == chain) o false ≡ true → is_automatic_kind q.kind ≡ true
    of_chain q e None none there = absurd (false≢true there)
    of_chain q e (Some c) some there = copies_automatic q.kind (are.copying number c q e some)

    of_pool : (o : Option Pool) → slice_get w.pools number ≡ o
        → option_map_or (λ on. on == chain) (option_and_then (λ (p : Pool). p.chain) o) false ≡ true
        → option_map_or (λ (p : Pool). is_automatic_kind p.kind) (slice_get w.pools number) false ≡ true
    of_pool None e there = absurd (false≢true there)
    of_pool (Some q) e there =
        ap (λ (o : Option Pool). option_map_or (λ (p : Pool). is_automatic_kind p.kind) o false) e ∙ of_chain q e q.chain refl there

module _ {F : Type 0} (layout : F → Layout) where
  pub may_begin : (past : Past) (h : HeapState F) (w : World) → AreParts layout past h w → (t : Time) → IsKnown t w → w.collection ≡ None
      → IsAtRest w
  may_begin past h w parts t known none =
      let live = known.live in
      let referred : list_all (is_live w) (flat_map (targets w.graph) (live_ids w)) ≡ true =
      sym (ap (λ o. is_some o || list_all (is_live w) (flat_map (targets w.graph) (live_ids w))) none) ∙ live.referred in
      record {
        none_runs = none;
        well_formed = known.formed;
        held_live = λ id held. list_all-contains (is_live w) (ids_of_client w.graph) id live.client held;
        referred_live = λ id target there refers.
            list_all-contains (is_live w) (flat_map (targets w.graph) (live_ids w)) target referred
            (in_flat (targets w.graph) (live_ids w) id target (live_is_listed w id there) refers);
        on_chains = λ chain number on. on_chain_automatic w h.chains parts.chains chain number on;
      }

  -- ---- the call

  -- what is shown of the moves of a collection of everything, whose act of a flip left this state
  pub record IsCollection (w : World) (acted : Collecting) (ms : List Move) : Type 0 where
    pub whole : IsWholeDone w ms
    pub leaves : IsCollected w (world_after_moves w ms)
    pub places : AreInPlace w acted (world_after_moves w ms)
    pub held_live : (id : Id) → contains (ids_of_client (world_after_moves w ms).graph) id ≡ true
        → is_live (world_after_moves w ms) id ≡ true
    pub referred_live : AllReferredLive (world_after_moves w ms).graph (is_live (world_after_moves w ms))

  -- what is held in the world after it is live, in an arena whose transforms have no pairs
  pub live_after : (w : World) (acted : Collecting) (ms : List Move) → IsWellFormed w → HeldAreLive w → IsCollection w acted ms
      → (state : world.ArenaState) → ids_in_pairs state ≡ [] → HeldAreLive (record (world_after_moves w ms) { state = state })
  live_after w acted ms formed live c state unpaired =
      let v : World = record (world_after_moves w ms) { state = state } in
      record {
        client = list_all-members (is_live v) (ids_of_client v.graph) c.held_live;
        blocks = list_all-members (is_live v) (ids_in_blocks v.graph) (λ id there.
            let was = subst (λ (u : World). contains (ids_in_blocks u.graph) id ≡ true) c.leaves.but_collected.world there in
            ap is_some (c.places.manual id (blocks_are_manual w formed id was))
            ∙ list_all-contains (is_live w) (ids_in_blocks w.graph) id live.blocks was);
        referred = or_right (is_running v) (list_all (is_live v) (flat_map (targets v.graph) (live_ids v)))
            (all_flat (is_live v) (targets v.graph) (live_ids v) (λ id listed.
            list_all-members (is_live v) (targets v.graph id) (λ target refers.
            c.referred_live id target (listed_is_live v id listed) refers)));
        transforms = or_right (is_running v) (list_all (is_live v) (ids_in_pairs state)) (ap (list_all (is_live v)) unpaired);
      }

  module _ (past : Past) (h after : HeapState F) (w : World) (parts : AreParts layout past h w) (known : IsKnown past.time w)
      (bare : IsBare w) (made : WereMadeBefore (length w.flips) h.points) (acted : Collecting) (ms : List Move)
      (c : IsCollection w acted ms) where
    abbrev v : World
    v = world_collected w ms

    live_then : HeldAreLive v
    live_then = live_after w acted ms known.formed known.live c (world.Parked []) refl

    formed_then : IsWellFormed (with_state (world_after_moves w ms) world.Unclamped)
    formed_then =
        formed_in_steps w ms bare.like (c.whole.legal None) (laid_by_moves w bare.like ms (c.whole.legal None)) live_then.client

    module _ (heap : IsCollectedHeap past w h after acted.world.addresses v)
        (summed : AreWordsSummed layout (map policy_of_pool h.pools) after.segs) where
      -- what it leaves represents the world after it
      pub collection_made : h.running ≡ None → AreMade layout w ms v time_at_rest after
      collection_made none_running = record {
        legal = c.whole.legal None;
        has = record {
          past = record past { time = time_at_rest };
          timed = refl;
          parts = flipped_parts layout past h after w parts known.formed bare.none made acted (world_after_moves w ms) _
              c.leaves.but_collected (world.Parked []) time_at_rest heap.flipped (record {
                manual = c.places.manual;
                pinned = c.places.pinned;
                holds = c.places.holds;
                held = c.places.held;
                held_live = c.places.held_live;
              }) heap.image (registered_at_the_end v after.finals heap.finals formed_then.registered) heap.finals.waiting summed;
        };
        now = rests (record {
          none = c.leaves.ended;
          time = refl;
          not_running = heap.running ∙ none_running;
          not_condemned = heap.not_condemned;
          not_kept = heap.not_kept;
        });
        live = live_then;
      }

  -- ---- where something is condemned

  ends_collection : (w : World) (first later : List Move) (y : Collecting) (count : ℕ) → IsAtRest w
      → is_nothing (condemned_by w Everything) ≡ false → FixesHeld w (collecting_after_flip w Everything []) first y
      → Ends y count later
      → IsCollection w y (flip_act w Everything ++ later)
  ends_collection w first later y count rest some fixed ends =
      let act_leads = (flip_done w Everything [] first y rest refl some (nothing_remembered w rest) fixed).leads in
      let leads : world_after_moves w (flip_act w Everything ++ later) ≡ world_after_moves y.world later =
      world_after_moves-append w (flip_act w Everything) later ∙ ap (λ (u : World). world_after_moves u later) act_leads in
      let last = last_units_done y count later (begun_running w first y rest some fixed) ends in
      record {
        whole = a_whole_collection.0 w first later y count rest some fixed ends;
        leaves = a_collection_moves_objects.0 w first later y count rest some fixed ends;
        places = a_collection_moves_objects.1 w first later y count rest some fixed ends;
        held_live = subst (λ (u : World). (id : Id) → contains (ids_of_client u.graph) id ≡ true → is_live u id ≡ true) (sym leads)
            last.held_live;
        referred_live = subst (λ (u : World). AllReferredLive u.graph (is_live u)) (sym leads) last.referred_live;
      }

  pub collect_made : (h after : HeapState F) (w : World) (first later : List Move) (y : Collecting) (count : ℕ)
      (st : HasFinished layout h w) → WereMadeBefore (length w.flips) h.points → is_nothing (condemned_by w Everything) ≡ false
      → FixesHeld w (collecting_after_flip w Everything []) first y → Ends y count later
      → IsCollectedHeap st.past w h after y.world.addresses (world_collected w (flip_act w Everything ++ later))
      → AreWordsSummed layout (map policy_of_pool h.pools) after.segs
      → AreMade layout w (flip_act w Everything ++ later) (world_collected w (flip_act w Everything ++ later)) time_at_rest after
  collect_made h after w first later y count st made some fixed ends heap summed =
      let rest = may_begin st.past h w st.parts st.past.time st.known st.rest.none in
      collection_made st.past h after w st.parts st.known st.bare made y (flip_act w Everything ++ later)
      (ends_collection w first later y count rest some fixed ends) heap summed st.rest.not_running

  -- ---- where nothing is condemned

  pub nothing_collection : (w : World) → IsAtRest w → is_nothing (condemned_by w Everything) ≡ true
      → IsCollection w (collecting_after_flip w Everything []) (flip_act w Everything)
  nothing_collection w rest nothing =
      let ended = flip_ended w Everything rest refl nothing in
      record {
        whole = a_whole_collection.1 w rest nothing;
        leaves = a_collection_moves_objects.2 w rest nothing;
        places = nothing_in_place w Everything rest refl nothing;
        held_live = ended.held_live;
        referred_live = ended.referred_live;
      }

  -- slots and messages hold what they held
  pub collect_of_nothing_made : (h after : HeapState F) (w : World) (st : HasFinished layout h w)
      → WereMadeBefore (length w.flips) h.points → is_nothing (condemned_by w Everything) ≡ true
      → IsCollectedHeap st.past w h after w.addresses (world_collected w (flip_act w Everything))
      → AreWordsSummed layout (map policy_of_pool h.pools) after.segs
      → AreMade layout w (flip_act w Everything) (world_collected w (flip_act w Everything)) time_at_rest after
  collect_of_nothing_made h after w st made nothing heap summed =
      collection_made st.past h after w st.parts st.known st.bare made (collecting_after_flip w Everything [])
      (flip_act w Everything)
      (nothing_collection w (may_begin st.past h w st.parts st.past.time st.known st.rest.none) nothing) heap summed st.rest.not_running
