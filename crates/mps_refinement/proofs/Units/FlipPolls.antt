-- The poll of a `reserve` where no collection runs: the flip of the generation that is due, which is due in the world too.
use Rattle.std.proofs.Common.{◌≡◌, ◌∙◌, ℕ, zero, suc, ◌+◌, ◌<◌, ◌≤◌, Bool, true, false, refl, sym, ap, subst, List, [], ◌∷◌, length, Option, Some, None, Ok, Err, arith}
use Rattle.std.proofs.lemmas.Bool.{and_parts, false≢true}
use Rattle.std.proofs.lemmas.Option.{none-some, same_Some}
use Rattle.std.specs.Prelude.{MatchBool, ◌==◌, ◌&&◌, filter, if◌then◌else◌, sum_by}
use Rattle.mps_base.specs.Generation.{Due, Load, due_from, due_generation, due_or, greatest_over}
use Rattle.mps_base.specs.Segment.{Segment}
use Rattle.mps_base.specs.Trail.{Moves}
use Rattle.mps_base.specs.declared.moves.Move.{Move}
use Rattle.mps_base.specs.declared.names.Name.{Name}
use Rattle.mps_buffer.specs.Points.{WereMadeBefore}
use Rattle.mps_format.specs.Layout.{Layout}
use Rattle.mps_laws.proofs.SameArena.{moved_alone}
use Rattle.mps_model.specs.declared.call.Call.TheVariants as call
use Rattle.mps_model.specs.Checked.{Checked}
use Rattle.mps_model.specs.Collecting.{with_state}
use Rattle.mps_model.specs.Effect.{Generations, world_after_moves}
use Rattle.mps_model.specs.Flip.{flip_act}
use Rattle.mps_model.specs.History.{HeldAreLive, IsPoll, poll_at_rest}
use Rattle.mps_model.specs.Policy.{polls, units_of_poll}
use Rattle.mps_model.specs.Policy as policy
use Rattle.mps_model.specs.Units.{AreUnits}
use Rattle.mps_model.specs.World as world
use Rattle.mps_model.specs.World.{World, is_parked, is_running}
use Rattle.mps_model.proofs.AtRest.{is_running-none}
use Rattle.mps_abstract.specs.FlipLaws.{IsNumbered}
use Rattle.mps_policy.specs.Due.{due_now, held_by_generation, held_by_generations, is_of_generation, loads_from}
use Rattle.mps_refinement.proofs.Collect.LiveIsFew.{most_now}
use Rattle.mps_trace.specs.GenState.{ChainsState}
use Rattle.mps_trace_laws.proofs.Flip.Filtered.{filter_same}
use Rattle.mps_trace_laws.specs.Flip.Condemned.{condemnation}
use Rattle.mps_heap_spec.specs.Collecting.{CanStart, IsStarted, most_flips}
use Rattle.mps_heap_spec.specs.Polling.{condemned_by, due_in, is_unclamped, polls_for}
use Rattle.mps_heap_spec.specs.State.{HeapState, IsReady}
use Rattle.mps_heap_spec.specs.Units.{IsWhole}
use Rattle.mps_heap_spec.specs.declared.arena.ArenaState.{ArenaState}
use Rattle.mps_heap_spec.specs.declared.arena.ArenaState.TheVariants as arena
use Rattle.mps_heap_spec.specs.declared.found.Reserving.{Reserving}
use Rattle.mps_refinement.specs.StandsFor.{AreChains, AreParts, IsInTime, Past, StandsFor, collector_of, state_of}
use Rattle.mps_refinement.proofs.Calls.ReserveStep.{Polls}
use Rattle.mps_refinement.proofs.Collect.MayCondemn.{chain_numbered, on_chain_alike}
use Rattle.mps_refinement.proofs.Units.Flips.{IsFlipped}
use Rattle.mps_refinement.proofs.Units.Starts.{can_flip, flips_rightly}
use Rattle.mps_refinement.proofs.Worlds.InSteps.{known_by_moves, laid_by_moves}
use Rattle.mps_refinement.proofs.Worlds.Known.{IsKnown}
use Rattle.mps_refinement.proofs.Worlds.Ready.{heap_is_ready}
use Rattle.mps_refinement.proofs.Worlds.RunningNow.{resting_now}
use Rattle.mps_refinement.proofs.Worlds.LikeReached.{like_reached}
use Rattle.mps_refinement.proofs.Worlds.Steps.{HasParts}

-- ---- what is due

-- it is of a chain that there is
due_within : (c : ChainsState) (ss : List Segment) (chain : ℕ) (cs : List (List ℕ)) (d : Due)
    → due_from chain (loads_from c ss chain cs) ≡ Some d → d.chain < chain + length cs
due_within c ss chain [] d e = absurd (none-some d e)
due_within c ss chain (capacities ∷ cs) d e =
    of_first (greatest_over 0 capacities (held_by_generations c ss chain 0 (length capacities)))
    (λ is. due_within c ss (chain + 1) cs d is) e
  where
    of_first : (o : Option ℕ)
        → (due_from (chain + 1) (loads_from c ss (chain + 1) cs) ≡ Some d → d.chain < chain + 1 + length cs)
        → due_or chain o (due_from (chain + 1) (loads_from c ss (chain + 1) cs)) ≡ Some d
        → d.chain < chain + length (capacities ∷ cs)
    of_first (Some generation) later is =
        let first : Due = record { chain = chain; generation = generation } in
        let same : chain ≡ d.chain = ap (λ (x : Due). x.chain) (same_Some first d is) in
        omega (arith, same)
    of_first None later is = let less = later is in omega (arith, less)

-- the generations of a heap hold what those of the world do, so the same one is due
module _ (c : ChainsState) (ss : List Segment) (w : World) (chains : AreChains c w.chains w.pools) (same : ss ≡ w.segments) where
  held_alike : (chain generation : ℕ) → held_by_generation c ss chain generation ≡ policy.held_by_generation w chain generation
  held_alike chain generation =
      let ours : Segment → Bool = is_of_generation c chain generation in
      let its : Segment → Bool = policy.is_of_generation w chain generation in
      let alike : (s : Segment) → ours s ≡ its s =
      λ s. ap (λ on. on && (s.generation == generation)) (on_chain_alike c w chains chain s.pool)
      in
      ap (sum_by (λ (s : Segment). s.grains)) (filter_same ours its ss alike ∙ ap (λ (ts : List Segment). filter its ts) same)

  all_held_alike : (chain generation count : ℕ)
      → held_by_generations c ss chain generation count ≡ policy.held_by_generations w chain generation count
  all_held_alike chain generation zero = refl
  all_held_alike chain generation (suc count) =
      ap (λ (n : ℕ). n ∷ held_by_generations c ss chain (generation + 1) count) (held_alike chain generation)
      ∙ ap (λ (ns : List ℕ). policy.held_by_generation w chain generation ∷ ns) (all_held_alike chain (generation + 1) count)

  loads_alike : (chain : ℕ) (cs : List (List ℕ)) → loads_from c ss chain cs ≡ policy.loads_from w chain cs
  loads_alike chain [] = refl
  loads_alike chain (capacities ∷ cs) =
      ap (λ (held : List ℕ). let l : Load = record { capacities = capacities; held = held } in l ∷ loads_from c ss (chain + 1) cs)
      (all_held_alike chain 0 (length capacities))
      ∙ ap (λ (ls : List Load). let l : Load = record {
        capacities = capacities;
        held = policy.held_by_generations w chain 0 (length capacities);
      } in l ∷ ls) (loads_alike (chain + 1) cs)

  due_so : due_now c ss ≡ policy.due_in w
  due_so =
      ap due_generation (loads_alike 0 c.chains)
      ∙ ap (λ (k : ChainsState). due_generation (policy.loads_from w 0 k.chains)) chains.same

pub due_alike : {F : Type 0} (layout : F → Layout) (past : Past) (h : HeapState F) (w : World) → AreParts layout past h w
    → due_in h ≡ policy.due_in w
due_alike layout past h w parts = due_so h.chains h.segs.segments w parts.chains parts.segments

-- ---- the arena of one that polls

pub unclamped_if_it_polls : {F : Type 0} (h : HeapState F) (checked : Checked Reserving) → polls_for h checked ≡ true
    → (pairs : List world.TransformPair) → state_of h.arena pairs ≡ world.Unclamped
unclamped_if_it_polls h (Err why) polling pairs = absurd (false≢true polling)
unclamped_if_it_polls h (Ok r) polling pairs = of_arena h.arena (and_parts (is_unclamped h.arena) _ polling).0
  where
    of_arena : (a : ArenaState) → is_unclamped a ≡ true → state_of a pairs ≡ world.Unclamped
    of_arena arena.Unclamped is = refl
    of_arena arena.Clamped is = absurd (false≢true is)
    of_arena arena.Parked is = absurd (false≢true is)

-- ---- the flip

module _ {F : Type 0} (layout : F → Layout) (h : HeapState F) (whole : IsWhole h) (m : Moves)
    (room : most_now h.segs ≤ m.spare) (w : World) (st : StandsFor layout h w) (none : h.running ≡ None) (due : Due)
    (is : due_in h ≡ Some due) where
  pub numbered : IsNumbered (condemnation (condemned_by due))
  numbered =
      chain_numbered due.chain due.generation
      (let within = due_within h.chains h.segs.segments 0 h.chains.chains due is in
      let few = whole.few_chains in
      omega (arith, within, few))

  pub due_can_start : h.points.flips < most_flips → CanStart layout (condemned_by due) h m
  due_can_start few = can_flip layout h whole m room w st none (condemned_by due) numbered few

  module _ (made : WereMadeBefore h.points.flips h.points) (h' : HeapState F) (m' : Moves)
      (started : IsStarted layout (condemned_by due) h m h' m') where
    abbrev pub ms : List Move
    ms = flip_act w (Generations due.chain due.generation)

    -- the world after it
    abbrev pub v : World
    v = world_after_moves w ms

    pub flipped : IsFlipped layout w (Generations due.chain due.generation) m h' m'
    flipped = flips_rightly layout h whole m room w st none (condemned_by due) numbered made h' m' started

    -- the points are ready after it
    pub ready_then : IsReady h'
    ready_then =
        heap_is_ready layout flipped.made.has.past h' (with_state v world.Unclamped) flipped.made.has.parts
        (laid_by_moves w (like_reached w st.reached) ms flipped.made.legal)

    -- in an arena that is unclamped already it changes nothing more
    module _ (unclamped : state_of h.arena (world.pairs_in w.state) ≡ world.Unclamped) where
      state_then : v.state ≡ world.Unclamped
      state_then = (moved_alone w call.Park ms).state ∙ st.parts.state ∙ unclamped

      same : with_state v world.Unclamped ≡ v
      same = ap (λ s. with_state v s) (sym state_then)

      pub flipped_has : HasParts layout flipped.time h' v
      flipped_has = subst (HasParts layout flipped.time h') same flipped.made.has

      pub flipped_time : IsInTime flipped.time (collector_of h') v
      flipped_time = subst (IsInTime flipped.time (collector_of h')) same flipped.made.now

      pub flipped_known : IsKnown flipped.time v
      flipped_known =
          known_by_moves w (like_reached w st.reached) ms flipped.made.legal (subst (λ (u : World). is_parked u ≡ false) same refl)
          (subst HeldAreLive same flipped.made.live) flipped.time (collector_of h') flipped_time

      pub flip_polls : (name : Name) (head : ℕ) → polls w (call.Reserve name head) ≡ true → Polls w name head ms v
      flip_polls name head polling =
          let rests : is_running w ≡ false = is_running-none w (resting_now layout h w st none).none in
          let due_there : policy.due_in w ≡ Some due = sym (due_alike layout st.past h w st.parts) ∙ is in
          record {
            legal = flipped.made.legal;
            due = subst (λ b. MatchBool b (IsPoll w ms) (ms ≡ [])) (sym polling)
                (subst (λ b. MatchBool b (AreUnits w units_of_poll ms) (ms ≡ poll_at_rest w (policy.due_in w))) (sym rests)
                (sym (ap (poll_at_rest w) due_there)));
            never_own = flipped.taken_by_none;
            units = None;
            asks = ap (λ b. if b && polls w (call.Reserve name head) then Some units_of_poll else None) rests;
            leads = refl;
            judged = v.collection;
            judged_is = refl;
            grains = (moved_alone w call.Park ms).grains;
            formats = (moved_alone w call.Park ms).formats;
          }
