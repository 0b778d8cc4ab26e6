-- Each legal step keeps the arena's grains, but for the one that makes the arena; so the worlds of a legal history are well-formed.
use Rattle.std.proofs.Common.{Option, Some, None, ◌≡◌, ◌∙◌, ℕ, ◌+◌, ◌≤◌, Bool, true, false, refl, sym, ap, List, [], ◌∷◌, subst, arith, max}
use Rattle.std.proofs.lemmas.Bool.{false≢true, true≢false}
use Rattle.std.specs.Prelude.{not, ◌||◌, is_some, option_map, slice_get}
use Rattle.std.specs.List.{list_all, list_any}
use Rattle.std.specs.Option.{option_map_or}
use Rattle.std.proofs.lemmas.Option.{slice_get-map}
use Rattle.mps_base.specs.declared.moves.Move.{Move}
use Rattle.mps_laws.proofs.Epochs.{AreDated, dated_after, dated_in_steps}
use Rattle.mps_model.specs.Layout.{Layout}
use Rattle.mps_model.specs.declared.call.Call.{Call}
use Rattle.mps_model.specs.declared.call.Call.TheVariants as call
use Rattle.mps_model.specs.Answer.{Answer, is_block}
use Rattle.mps_model.specs.World.{World, Unclamped, committed, empty_world_of, ids_in_pairs, is_live, is_parked}
use Rattle.mps_model.specs.WellFormed.{is_live_automatic}
use Rattle.mps_model.specs.Collecting.{with_state}
use Rattle.mps_model.specs.Reply.{act, world_from}
use Rattle.mps_model.specs.Step.{Step, History}
use Rattle.mps_model.specs.History.{HeldAreLive, IsLegalHistoryOf, IsLegalStep, IsLegalFrom, judged_world, moved_world, world_after, world_after_call, world_after_steps}
use Rattle.mps_changes.specs.Change.{makes_arena}
use Rattle.mps_laws.specs.Replay.{reached}
use Rattle.mps_laws.proofs.Replays.ReplayOfMoves.{moves_replayed}
use Rattle.mps_laws.proofs.Sound.SoundMoves.{moves_well}
use Rattle.mps_model.specs.LegalMove.{AreLegalMoves}
use Rattle.mps_model.specs.Effect.{world_after_moves}
use Rattle.mps_laws.specs.WellFormed.{is_arena_made_once, ReachedWorldsAreWellFormed, WorldsInStepsAreWellFormed}
use Rattle.mps_laws.proofs.Positions.LegalMoves.{HasLayout}
use Rattle.mps_model.specs.Graph.{empty_graph, Object, ids_in_places, is_automatic, object_at, thing_in}
use Rattle.mps_laws.proofs.Dependents.{ArePaired, moves_paired, dependents_after}
use Rattle.mps_laws.proofs.Held.{held_at_first}
use Rattle.mps_laws.proofs.Parked.{RestsWhenParked, none_there, pairs_after, step_rests}
use Rattle.mps_laws.proofs.Caches.{AreRightCaches, caches_after, caches_moved, is_made}
use Rattle.mps_laws.proofs.Frames.{AreFramesOf, AreRightFrames, frames_after, frames_manual, frames_moved}
use Rattle.mps_laws.proofs.SameArena.{moved_alone, IsSameArena, act_same, itself, moved_same}
use Rattle.mps_laws.proofs.Labels.{AreNamed, labels_after}
use Rattle.mps_laws.proofs.RunningCollection.{RunsWithin, running_after, running_in_steps}
use Rattle.mps_laws.proofs.SegmentPools.{AreOfPools, of_pools_after, of_pools_in_steps}
use Rattle.mps_laws.proofs.Sound.PoolsThere.{HasPools, step_has_pools}
use Rattle.mps_laws.proofs.Spending.{SpendsWithin, moves_spend, spends_within}
use Rattle.mps_laws.proofs.ThingsNamed.{AreNamesRight, names_after, names_in_steps}
use Rattle.mps_laws.proofs.WithinLimit.{IsWithinLimit, within_after, within_in_steps}
use Rattle.mps_laws.proofs.Acts.{for_world}
use Rattle.mps_laws.proofs.Replays.FreeSteps.{BlocksAreLive}
use Rattle.mps_laws.proofs.Replays.Replay.{limit_after, legal_step_replayed, empty_layout}
use Rattle.mps_laws.proofs.Sound.SoundGraph.{All, IsSoundGraph, all-both, auto, untouched, all-weaker, manual, manual_parts}
use Rattle.mps_laws.proofs.Positions.Occupancy.{shape_of}
use Rattle.mps_laws.proofs.Sound.SoundHistories.{SlotsAreLive, step_sound}
use Rattle.mps_laws.proofs.WellFormed.{well_formed}

-- ---- grains after acts

act_grains : (marked : Bool) (judged v : World) (c : Call) → makes_arena c ≡ false
    → (world_from v (act marked judged v c)).grains ≡ v.grains
act_grains marked judged v c h =
    (for_world (IsSameArena v) v (act marked judged v c) (act_same marked judged v c h) (itself v)).grains

-- ---- steps

module _ (line : ℕ) (w : World) where
  abbrev the_step : Call → List Move → Answer → Step
  the_step c ms answer = record { line = line; call = c; moves = ms; answer = answer }

  -- a step that doesn't make the arena leaves its grains
  pub step_grains : (c : Call) (ms : List Move) (answer : Answer) → makes_arena c ≡ false
      → (world_after w (the_step c ms answer)).grains ≡ w.grains
  step_grains c ms answer h =
      act_grains (is_block answer) (judged_world w c ms) (moved_world w c ms) c h ∙ (moved_same w c ms).grains

-- what each world of a history keeps
pub record IsKeptWell (w : World) : Type 0 where
  pub layout : HasLayout (w.grains + 1) w
  pub within : IsWithinLimit w
  pub pools : HasPools w
  pub of_pools : AreOfPools w
  pub blocks : BlocksAreLive w
  pub slots : SlotsAreLive w
  pub held : HeldAreLive w
  pub sound : IsSoundGraph w
  pub names : AreNamesRight w
  pub named : AreNamed w.graph
  pub paired : ArePaired w
  pub cached : AreRightCaches w
  pub framed : AreRightFrames w
  pub dated : AreDated w
  pub rests : RestsWhenParked w
  pub runs : RunsWithin w
  pub spends : SpendsWithin w
  pub pairs : All (auto w) (ids_in_pairs w.state)

no_arena_limit : (limit : ℕ) (c : Call) → makes_arena c ≡ false → limit_after limit c ≡ limit
no_arena_limit limit (call.Arena grains most) h = absurd (true≢false h)
no_arena_limit limit _ h = refl

-- each block in a place was made
pub places_made : (w : World) → IsSoundGraph w → list_all (is_made w) (ids_in_places w.graph) ≡ true
places_made w s = all-weaker (manual w) (is_made w) (λ id h. of_object id (object_at w.graph id) refl h) (ids_in_places w.graph)
    (manual_parts w s).0
  where
    of_object : (id : ℕ) (o : Option Object) → object_at w.graph id ≡ o → option_map_or (λ x. not (is_automatic x)) o false ≡ true
        → is_made w id ≡ true
    of_object id None e h = absurd (false≢true h)
    of_object id (Some x) e h = ap is_some (slice_get-map shape_of w.graph.objects id ∙ ap (option_map shape_of) e)

step_kept : (w : World) (s : Step) → makes_arena s.call ≡ false → IsKeptWell w → IsLegalStep w s → IsKeptWell (world_after w s)
step_kept w s plain k legal =
    let r = legal_step_replayed (w.grains + 1) 0 s.line w k.layout k.blocks s.call s.moves s.answer legal in
    let g : w.grains + 1 ≡ (world_after w s).grains + 1 = ap (λ n. n + 1) (sym (step_grains s.line w s.call s.moves s.answer plain)) in
    let sound = step_sound (w.grains + 1) s.line w k.layout k.blocks k.slots k.sound k.pairs
    (frames_manual w k.sound k.framed) s.call s.moves s.answer legal in
    record {
      layout = subst (λ (n : ℕ). HasLayout n (world_after w s)) (no_arena_limit (w.grains + 1) s.call plain ∙ g) r.layout;
      within = within_after (w.grains + 1) w s plain k.layout k.pools k.cached k.within legal;
      pools = step_has_pools w s k.pools;
      of_pools = of_pools_after (w.grains + 1) w s k.layout k.pools k.cached k.of_pools legal;
      blocks = legal.held_are_live.blocks;
      slots = sound.1;
      held = legal.held_are_live;
      sound = sound.0;
      names = names_after w s k.names;
      named = labels_after w s k.named;
      paired = dependents_after w s k.paired legal;
      cached = caches_after w s (places_made w k.sound) k.cached;
      framed = frames_after w s k.framed k.cached;
      dated = dated_after w s k.dated;
      rests = step_rests w s k.rests legal;
      runs = running_after w s k.runs legal;
      spends = spends_within (world_after w s) legal.units_are_left;
      pairs = pairs_after w s k.sound sound.0 k.pairs;
    }

steps_kept : (w : World) (h : History) → list_any (λ (later : Step). makes_arena later.call) h ≡ false → IsKeptWell w → IsLegalFrom w h
    → IsKeptWell (world_after_steps w h)
steps_kept w [] none k legal = k
steps_kept w (s ∷ ss) none k legal =
    let parts = Rattle.mps_laws.proofs.Positions.Covered.or_false (makes_arena s.call)
    (list_any (λ (later : Step). makes_arena later.call) ss) none in
    steps_kept (world_after w s) ss parts.1 (step_kept w s parts.0 k legal.0) legal.1

-- ---- from the empty world on

empty_sound : (formats : ℕ → Layout) → IsSoundGraph (empty_world_of formats)
empty_sound formats = record {
  objects = λ id o e. absurd (Rattle.std.proofs.lemmas.Option.none-some o e);
  reservations = λ n p r e k. absurd (Rattle.std.proofs.lemmas.Option.none-some p e);
  points = λ n p e. absurd (Rattle.std.proofs.lemmas.Option.none-some p e);
  slots = refl;
  words = λ n area e. absurd (Rattle.std.proofs.lemmas.Option.none-some area e);
  blocks = refl;
  registered = refl;
  messages = refl;
}

none_labelled : AreNamed empty_graph
none_labelled number label e = absurd (Rattle.std.proofs.lemmas.Option.none-some label e)

-- before there is a pool
pub none_framed : AreFramesOf [] [] [] []
none_framed = record {
  each = refl;
  once = record { once = λ j. omega arith; below = refl };
  placed = λ j some. absurd (omega (arith, some));
}

empty_kept : (formats : ℕ → Layout) → IsKeptWell (empty_world_of formats)
empty_kept formats = record {
  layout = empty_layout formats;
  within = omega arith;
  pools = record { of_objects = tt; of_points = tt };
  of_pools = refl;
  blocks = refl;
  slots = refl;
  held = held_at_first formats;
  sound = empty_sound formats;
  names = refl;
  named = none_labelled;
  paired = refl;
  cached = refl;
  framed = none_framed;
  dated = refl;
  rests = λ h. refl;
  runs = tt;
  spends = refl;
  pairs = refl;
}

-- the first command makes the arena
first_arena : (formats : ℕ → Layout) (line grains most : ℕ) (ms : List Move) (answer : Answer)
    → IsLegalStep (empty_world_of formats) (record { line = line; call = call.Arena grains most; moves = ms; answer = answer })
    → IsKeptWell (world_after (empty_world_of formats) (record { line = line; call = call.Arena grains most; moves = ms; answer = answer }))
first_arena formats line grains most ms answer legal =
    let w = empty_world_of formats in
    let s : Step = record { line = line; call = call.Arena grains most; moves = ms; answer = answer } in
    let k = empty_kept formats in
    let r = legal_step_replayed 1 0 line w k.layout k.blocks (call.Arena grains most) ms answer legal in
    let sound = step_sound 1 line w k.layout k.blocks k.slots k.sound k.pairs (frames_manual w k.sound k.framed)
    (call.Arena grains most) ms answer legal in
    record {
      layout = subst (λ (n : ℕ). HasLayout n (world_after w s)) (let same : max 1 (grains + 1) ≡ grains + 1 = omega arith in same) r.layout;
      within = first_within legal.moves_are_due;
      pools = step_has_pools w s k.pools;
      of_pools = of_pools_after 1 w s k.layout k.pools k.cached k.of_pools legal;
      blocks = legal.held_are_live.blocks;
      slots = sound.1;
      held = legal.held_are_live;
      sound = sound.0;
      names = names_after w s k.names;
      named = labels_after w s k.named;
      paired = dependents_after w s k.paired legal;
      cached = caches_after w s (places_made w k.sound) k.cached;
      framed = frames_after w s k.framed k.cached;
      dated = dated_after w s k.dated;
      rests = step_rests w s k.rests legal;
      runs = running_after w s k.runs legal;
      spends = spends_within (world_after w s) legal.units_are_left;
      pairs = pairs_after w s k.sound sound.0 k.pairs;
    }
  where
    -- nothing is held yet
    first_within : ms ≡ [] → committed (world_after_call (empty_world_of formats) (call.Arena grains most) ms answer)
        ≤ (world_after_call (empty_world_of formats) (call.Arena grains most) ms answer).limit
    first_within none =
        subst (λ (ns : List Move). committed (world_after_call (empty_world_of formats) (call.Arena grains most) ns answer)
        ≤ (world_after_call (empty_world_of formats) (call.Arena grains most) ns answer).limit) (sym none)
        (let low : 0 ≤ most = omega arith in low)

first_kept : (formats : ℕ → Layout) (s : Step) → IsLegalStep (empty_world_of formats) s
    → IsKeptWell (world_after (empty_world_of formats) s)
first_kept formats s legal = of_call s.call s.line s.moves s.answer legal
  where
    of_call : (c : Call) (line : ℕ) (ms : List Move) (answer : Answer)
        → IsLegalStep (empty_world_of formats) (record { line = line; call = c; moves = ms; answer = answer })
        → IsKeptWell (world_after (empty_world_of formats) (record { line = line; call = c; moves = ms; answer = answer }))
    of_call (call.Arena grains most) line ms answer l = first_arena formats line grains most ms answer l
    of_call c line ms answer l =
        step_kept (empty_world_of formats) (record { line = line; call = c; moves = ms; answer = answer }) refl (empty_kept formats) l

not_true : (b : Bool) → not b ≡ true → b ≡ false
not_true true e = absurd (false≢true e)
not_true false e = refl

pub reached_kept : (formats : ℕ → Layout) (history : History) → is_arena_made_once history ≡ true → IsLegalHistoryOf formats history
    → IsKeptWell (reached formats history)
reached_kept formats [] once legal = empty_kept formats
reached_kept formats (s ∷ ss) once legal =
    steps_kept (world_after (empty_world_of formats) s) ss (not_true (list_any (λ (later : Step). makes_arena later.call) ss) once)
    (first_kept formats s legal.0) legal.1

-- the objects in pairs are live: where there are pairs no collection runs
live_pairs : (w : World) → HeldAreLive w → RestsWhenParked w → All (auto w) (ids_in_pairs w.state)
    → All (is_live_automatic w) (ids_in_pairs w.state)
live_pairs w held rests pairs = of_state (is_parked w) refl
  where
    of_state : (b : Bool) → is_parked w ≡ b → All (is_live_automatic w) (ids_in_pairs w.state)
    of_state true h =
        all-both (is_live w) (auto w) (ids_in_pairs w.state)
        (subst (λ b. (b || list_all (is_live w) (ids_in_pairs w.state)) ≡ true) (rests h) held.transforms) pairs
    of_state false h = ap (list_all (is_live_automatic w)) (none_there w.state h)

pub reached_are_well_formed : ReachedWorldsAreWellFormed
reached_are_well_formed formats history once legal =
    let k = reached_kept formats history once legal in
    let w = reached formats history in
    well_formed w k.layout k.within k.of_pools k.sound k.names k.named k.paired k.cached k.framed k.dated k.held.client k.rests k.runs
    k.spends (live_pairs w k.held k.rests k.pairs)

-- ---- in the middle of a step

-- moves of a collector change no grains
in_layout : (w : World) (ms : List Move) → HasLayout (w.grains + 1) w → AreLegalMoves w None ms
    → HasLayout ((world_after_moves w ms).grains + 1) (world_after_moves w ms)
in_layout w ms laid legal =
    subst (λ (n : ℕ). HasLayout (n + 1) (world_after_moves w ms)) (sym (moved_same w call.Park ms).grains)
    (moves_replayed (w.grains + 1) w None ms 0 laid legal).layout

pub worlds_in_steps_are_well_formed : WorldsInStepsAreWellFormed
worlds_in_steps_are_well_formed formats history ms once legal moves live =
    let w = reached formats history in
    let k = reached_kept formats history once legal in
    let alone = moved_alone w call.Park ms in
    let named : AreNamed (world_after_moves w ms).graph = (λ number label e.
    ap (λ ns. thing_in ns label) alone.names ∙ k.named number label (sym (ap (λ ls. slice_get ls number) alone.labels) ∙ e)) in
    let v = world_after_moves w ms in
    well_formed (with_state v Unclamped) (in_layout w ms k.layout moves)
    (within_in_steps (w.grains + 1) w ms k.layout k.pools moves k.within)
    (of_pools_in_steps (w.grains + 1) w ms k.layout k.pools moves k.of_pools)
    (untouched v (with_state v Unclamped) (moves_well w None ms k.sound moves).sound refl (λ n p e. e) refl refl refl refl refl refl refl
    refl) (names_in_steps w ms k.names) named (moves_paired w ms k.paired) (caches_moved w v alone.shapes alone.pools alone.caches k.cached)
    (frames_moved w v alone.shapes alone.pools alone.blocks alone.frames k.framed) (dated_in_steps w ms k.dated) live
    (λ h. absurd (false≢true h)) (running_in_steps w None ms moves k.runs) (moves_spend w ms k.spends) refl
