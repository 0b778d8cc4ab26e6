-- What the act of a flip leaves of the world, whatever it condemns: all else than what a collector changes, and what lies where it lay.
use Rattle.std.proofs.Common.{◌≡◌, ◌∙◌, true, false, refl, sym, ap, List, [], ◌++◌, Some, None, subst, inl, inr, is_some}
use Rattle.std.proofs.lemmas.Bool.{false≢true, cases_Bool, or_right}
use Rattle.std.specs.List.{flat_map, list_all}
use Rattle.mps_base.specs.Address.{Id}
use Rattle.mps_base.specs.declared.moves.Move.{Move}
use Rattle.mps_model.specs.Graph.{contains, ids_in_blocks, ids_in_holds, ids_in_slots, ids_of_client, is_automatic, targets}
use Rattle.mps_model.specs.Collection.{is_condemned}
use Rattle.mps_model.specs.History.{HeldAreLive}
use Rattle.mps_model.specs.World as world
use Rattle.mps_model.specs.World.{World, ids_in_pairs, is_live, is_running, live_ids, object_is, has_area_word, live_automatic_ids, ids_of_area_words}
use Rattle.mps_model.specs.WellFormed.{IsWellFormed}
use Rattle.mps_model.specs.Effect.{Condemnation, condemned_by, condemned_zones, world_flipped, world_after_moves}
use Rattle.mps_model.specs.Flip.{flip_act, is_nothing}
use Rattle.mps_model.proofs.Reaching.{list_all-contains}
use Rattle.mps_abstract.specs.Collecting.{Collecting, is_white_in}
use Rattle.mps_abstract.specs.FlipLaws.{AreRemembered, FixesHeld, IsAtRest, IsNumbered, collecting_after_flip}
use Rattle.mps_abstract.specs.Leaving.{IsButCollected}
use Rattle.mps_abstract.specs.Staying.{StaysInPlace}
use Rattle.mps_abstract.proofs.Addresses.{listed_is_live}
use Rattle.mps_abstract.proofs.Lists.{contains-filter, contains_filtered, list_all-members}
use Rattle.mps_abstract.proofs.Keeping.{not_white_if_kept, not_white_outside}
use Rattle.mps_abstract.proofs.KeptPlaces.{MayKeep, fixes_stay}
use Rattle.mps_abstract.proofs.Leavings.{fixes_move, moved_on}
use Rattle.mps_abstract.proofs.FlipActs.FlipBegins.{all, client_of_fixed, flip_ended}
use Rattle.mps_abstract.proofs.FlipActs.FlipLists.{holds_show}
use Rattle.mps_abstract.proofs.FlipActs.Flipped.{flipped_running}
use Rattle.mps_abstract.proofs.FlipActs.Flipping.{AreFixed}
use Rattle.mps_refinement.specs.Collect.Leaving.{AreInPlace}
use Rattle.mps_refinement.proofs.Collect.CollectedParts.{blocks_are_manual}
use Rattle.mps_refinement.proofs.Worlds.InSteps.{all_flat}

-- ---- where something is condemned

module _ (w : World) (what : Condemnation) (others : List Id) (first : List Move) (y : Collecting) (rest : IsAtRest w)
    (numbered : IsNumbered what) (some : is_nothing (condemned_by w what) ≡ false)
    (told : AreRemembered (collecting_after_flip w what others) others)
    (fixed : FixesHeld w (collecting_after_flip w what others) first y) where
  abbrev pub begins : Collecting
  begins = collecting_after_flip w what others

  act : AreFixed begins (ids_in_slots w.graph ++ w.graph.messages) first y
  act = all w what others first y rest numbered some told fixed

  may_keep : MayKeep begins
  may_keep = record { runs = refl; different = (flipped_running w what others rest some told).different }

  held_live : (n : Id) → contains (ids_in_slots w.graph ++ w.graph.messages) n ≡ true → is_live begins.world n ≡ true
  held_live n h = rest.held_live n (client_of_fixed w.graph n h)

  pub flip_stays : StaysInPlace begins y
  flip_stays = fixes_stay fixed may_keep held_live

  flip_moves : IsButCollected begins.world y.world
  flip_moves = fixes_move fixed may_keep held_live

  -- right after the record of the flip
  from_flip : IsButCollected (world_flipped w (condemned_zones w what)) begins.world
  from_flip = record {
    objects = w.graph.objects;
    registered = w.graph.registered;
    messages = w.graph.messages;
    dependents = w.graph.dependents;
    addresses = w.addresses;
    segments = w.segments;
    tails = [];
    collection = Some begins.running;
    unpaired = λ none. none;
    world = refl;
  }

  -- after the act of the flip
  pub acted_moves : IsButCollected (world_flipped w (condemned_zones w what)) y.world
  acted_moves = moved_on from_flip flip_moves

  -- ---- what stays

  not_condemned : (n : Id) → object_is is_automatic w n ≡ false → is_condemned begins.running n ≡ false
  not_condemned n manual = elim (cases_Bool (is_condemned begins.running n)) [
    | inl is ↦ absurd (false≢true (sym manual ∙ (flipped_running w what others rest some told).condemned.objects n is))
    | inr isnt ↦ isnt
  ]

  -- manual blocks aren't white, and what an area word pins or holds was pinned, or wasn't condemned
  pub manual_black : (n : Id) → object_is is_automatic w n ≡ false → is_white_in begins n ≡ false
  manual_black n h = not_white_outside begins.running.condemned begins.colours n (not_condemned n h)

  pub pinned_black : (n : Id) → contains (ids_of_area_words w) n ≡ true → is_white_in begins n ≡ false
  pinned_black n h = elim (cases_Bool (is_condemned begins.running n)) [
    | inl is ↦ not_white_if_kept begins.running.condemned begins.colours n
        (contains_filtered (has_area_word begins.world) begins.running.condemned n
        (contains-filter (has_area_word w) (live_automatic_ids w) n h).1 is)
    | inr isnt ↦ not_white_outside begins.running.condemned begins.colours n isnt
  ]

  pub hold_black : (n : Id) → contains (ids_in_holds w.graph) n ≡ true → is_white_in begins n ≡ false
  hold_black n h = elim (cases_Bool (is_condemned begins.running n)) [
    | inl is ↦ not_white_if_kept begins.running.condemned begins.colours n (contains_filtered (has_area_word w) begins.running.condemned n
        (holds_show w w.graph.areas n rest.well_formed.words h) is)
    | inr isnt ↦ not_white_outside begins.running.condemned begins.colours n isnt
  ]

  -- what slots and messages hold is live after the act, and isn't white
  pub held_lives : (n : Id) → contains (ids_in_slots w.graph ++ w.graph.messages) n ≡ true → is_live y.world n ≡ true
  held_lives n h = act.live n ∙ held_live n h

  pub held_black : (n : Id) → contains (ids_in_slots w.graph ++ w.graph.messages) n ≡ true → is_white_in y n ≡ false
  held_black n h = act.fixed n h

  pub in_place_acted : AreInPlace w y y.world
  in_place_acted = record {
    manual = λ n h. flip_stays.in_place n (manual_black n h);
    pinned = λ n h. flip_stays.in_place n (pinned_black n h);
    holds = λ n h. flip_stays.in_place n (hold_black n h);
    held = λ n h. refl;
    held_live = held_lives;
  }

-- ---- where nothing is condemned

module _ (w : World) (what : Condemnation) (rest : IsAtRest w) (numbered : IsNumbered what)
    (nothing : is_nothing (condemned_by w what) ≡ true) where
  abbrev v : World
  v = world_after_moves w (flip_act w what)

  pub nothing_moves : IsButCollected (world_flipped w (condemned_zones w what)) v
  nothing_moves =
      subst (λ ms. IsButCollected (world_flipped w (condemned_zones w what)) (world_after_moves w ms))
      (sym (flip_ended w what rest numbered nothing).act) (record {
        objects = w.graph.objects;
        registered = w.graph.registered;
        messages = w.graph.messages;
        dependents = w.graph.dependents;
        addresses = w.addresses;
        segments = w.segments;
        tails = [];
        collection = None;
        unpaired = λ none. none;
        world = refl;
      })

  pub nothing_in_place : AreInPlace w (collecting_after_flip w what []) v
  nothing_in_place =
      subst (λ ms. AreInPlace w (collecting_after_flip w what []) (world_after_moves w ms))
      (sym (flip_ended w what rest numbered nothing).act) (record {
        manual = λ id there. refl;
        pinned = λ id there. refl;
        holds = λ id there. refl;
        held = λ id there. refl;
        held_live = λ id there. rest.held_live id (client_of_fixed w.graph id there);
      })

  -- what is held after it is live, in an arena whose transforms have no pairs
  pub live_after_nothing : IsWellFormed w → HeldAreLive w → (state : world.ArenaState) → ids_in_pairs state ≡ []
      → HeldAreLive (record v { state = state })
  live_after_nothing formed live state unpaired =
      let u : World = record v { state = state } in
      let ended = flip_ended w what rest numbered nothing in
      record {
        client = list_all-members (is_live u) (ids_of_client u.graph) ended.held_live;
        blocks = list_all-members (is_live u) (ids_in_blocks u.graph) (λ id there.
            let was = subst (λ (x : World). contains (ids_in_blocks x.graph) id ≡ true) nothing_moves.world there in
            ap is_some (nothing_in_place.manual id (blocks_are_manual w formed id was))
            ∙ list_all-contains (is_live w) (ids_in_blocks w.graph) id live.blocks was);
        referred = or_right (is_running u) (list_all (is_live u) (flat_map (targets u.graph) (live_ids u)))
            (all_flat (is_live u) (targets u.graph) (live_ids u) (λ id listed.
            list_all-members (is_live u) (targets u.graph id) (λ target refers.
            ended.referred_live id target (listed_is_live u id listed) refers)));
        transforms = or_right (is_running u) (list_all (is_live u) (ids_in_pairs state)) (ap (list_all (is_live u)) unpaired);
      }
