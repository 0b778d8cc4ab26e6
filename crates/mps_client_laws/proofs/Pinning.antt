-- Area words show what they showed, and pin the objects in which that lies.
use Rattle.std.proofs.Common.{◌≡◌, ℕ, zero, suc, ◌+◌, ◌*◌, ◌-◌, Bool, true, false, refl, sym, ◌∙◌, ap, subst, List, [], ◌∷◌, ◌++◌, map, Option, Some, None, Ok, Err, add-zero}
use Rattle.std.proofs.lemmas.Bool.{false≢true, and_parts, eq-eqb, or_left, or_right}
use Rattle.std.proofs.lemmas.List.Folds.{list_any-append}
use Rattle.std.proofs.lemmas.Option.{none-some, same_Some}
use Rattle.std.specs.Prelude.{not, ◌==◌, if◌then◌else◌, is_some, nat_lt, option_map, slice_get}
use Rattle.std.specs.List.{flat_map, list_any}
use Rattle.std.specs.Option.{option_map_or}
use Rattle.mps_base.specs.declared.moves.Move.{Move}
use Rattle.mps_base.specs.declared.names.Slot.{Slot}
use Rattle.mps_model.specs.Layout.{Layout}
use Rattle.mps_model.proofs.Appending.{IsLegalFrom-later, world_after_steps-append}
use Rattle.mps_model.specs.declared.call.Call.{Call}
use Rattle.mps_model.specs.declared.call.Call.TheVariants as call
use Rattle.mps_model.specs.Answer.{is_block}
use Rattle.mps_model.specs.Step.{Step, History}
use Rattle.mps_model.specs.Graph.{AreaWord, Hold, Object, PlainWord, contains, entries, entry_at, held_by_word, holds_of, ids_in_holds, ids_in_reservations, ids_in_slots, ids_of_client, is_automatic, object_at}
use Rattle.mps_model.specs.World.{World, Pool, address_of, empty_world_of, is_copying_object, lies_in, shown_word, shown_words, words_of}
use Rattle.mps_model.specs.Checked.{Act, Checked}
use Rattle.mps_model.specs.Effect.{world_after_move}
use Rattle.mps_model.specs.Reply.{act, world_from}
use Rattle.mps_model.specs.History.{HeldAreLive, IsLegalFrom, IsLegalHistoryOf, IsLegalStep, judged_world, moved_world, moves_of_collector, world_after, world_after_steps}
use Rattle.mps_changes.proofs.ActChanges.{of_changes}
use Rattle.mps_changes.specs.Change.{Aside, Change, ForAct, accepted, refused}
use Rattle.mps_laws.specs.Replay.{reached}
use Rattle.mps_laws.proofs.Entries.{slice_get-there}
use Rattle.mps_laws.proofs.Held.{held_after}
use Rattle.mps_laws.proofs.LeftByActs.{Leaves, act_leaves}
use Rattle.mps_laws.proofs.LegalHistories.{IsLegalFrom-first}
use Rattle.mps_laws.proofs.Positions.Places.{IsSettledIn}
use Rattle.mps_laws.proofs.Reading.{contains-append_left, contains-append_right, held_is_live, slot_is_held}
use Rattle.mps_laws.proofs.SameArena.{moved_alone}
use Rattle.mps_laws.proofs.Sound.SoundActs.{hold_is_sound, pin_is_sound}
use Rattle.mps_laws.proofs.Sound.SoundGraph.{Grows, IsAlike, IsSoundGraph, auto, is_sound_word, word_kept}
use Rattle.mps_laws.proofs.Sound.SoundMoves.{grows_on, grows_same, move_well}
use Rattle.mps_laws.proofs.Staying.{client_after_step, client_is_settled}
use Rattle.mps_client_laws.specs.Objects.{Identity, identity_of}
use Rattle.mps_client_laws.specs.Pinning.{AddressesLieInside, PinnedObjectsLieStill, ShownNumbersStay, area_word, leave_area_word, number_shown, writes_area_word}
use Rattle.mps_client_laws.proofs.AreaWords.{area_word_after_step, has_word}
use Rattle.mps_client_laws.proofs.AreaWordsStay.{held_has_area_word, hold_lies_in}
use Rattle.mps_client_laws.proofs.Automatic.{client_is_automatic}
use Rattle.mps_client_laws.proofs.Collecting.{move_roots}
use Rattle.mps_client_laws.proofs.Objects.{identity_after_step}
use Rattle.mps_client_laws.proofs.Pinned.{Along, IsKeptIn, IsPinnedIn, both_along, each_along, kept_after_step, kept_along, settled_is_spared, still_along}
use Rattle.mps_client_laws.proofs.Poking.{offset_is}
use Rattle.mps_client_laws.proofs.SlotsStay.{not_false}
use Rattle.mps_client_laws.proofs.SoundlyReached.{IsSoundlyReached, soundly_reached, step_soundly}

-- ---- what objects and pools keep over a step

formats_of_act : {marked : Bool} {c : Call} {judged v u : World} → Change marked c judged v u → u.formats ≡ v.formats
formats_of_act (Aside u what) = refl
formats_of_act _ = refl

step_grows : (w : World) (s : Step) → Grows w (world_after w s)
step_grows w s =
    let moved = moved_world w s.call s.moves in
    let judged = judged_world w s.call s.moves in
    let alone = moved_alone w s.call s.moves in
    let result = act (is_block s.answer) judged moved s.call in
    let left = left_by moved s.call result (act_leaves (is_block s.answer) judged moved s.call)
    (of_changes (is_block s.answer) judged moved s.call (λ u change. formats_of_act change)) in
    record {
      formats = left.0 ∙ alone.formats;
      pools = λ n p there. left.1 n p (ap (λ ps. slice_get ps n) alone.pools ∙ there);
      objects = λ id o there. alike id o (object_at (world_after w s).graph id) refl
          (identity_after_step w s id (identity_of o) (ap (option_map identity_of) there));
    }
  where
    left_by : (v : World) (c : Call) (result : Checked Act) → ForAct (Leaves c v) result → ForAct (λ u. u.formats ≡ v.formats) result
        → ((world_from v result).formats ≡ v.formats)
        × ((n : ℕ) (p : Pool) → slice_get v.pools n ≡ Some p → slice_get (world_from v result).pools n ≡ Some p)
    left_by v c (Ok a) (accepted leaves) (accepted formats) = (
      formats,
      λ n p there. ap (λ ps. slice_get ps n) leaves.pools.1 ∙ slice_get-there v.pools leaves.pools.0 n p there,
    )
    left_by v c (Err why) refused refused = (refl, λ n p there. there)

    alike : (id : ℕ) (o : Object) (x : Option Object) → object_at (world_after w s).graph id ≡ x
        → option_map identity_of (object_at (world_after w s).graph id) ≡ Some (identity_of o)
        → (y : Object) × (object_at (world_after w s).graph id ≡ Some y) × IsAlike o y
    alike id o None there same = absurd (none-some (identity_of o) (sym (ap (option_map identity_of) there) ∙ same))
    alike id o (Some y) there same =
        let is : identity_of y ≡ identity_of o =
        same_Some (identity_of y) (identity_of o) (sym (ap (option_map identity_of) there) ∙ same) in (
          y,
          there,
          record {
            pool = ap (λ (i : Identity). i.pool) is;
            size = ap (λ (i : Identity). i.size) is;
            kind = ap (λ (i : Identity). i.is_automatic) is;
          },
        )

-- ---- what is known of a world that a history reaches

record IsKnown (w : World) : Type 0 where
  soundly : IsSoundlyReached w
  settled : (id : ℕ) → contains (ids_of_client w.graph) id ≡ true → IsSettledIn id w.collection
  held : HeldAreLive w

known_after : (w : World) (s : Step) → IsKnown w → IsLegalStep w s → IsKnown (world_after w s)
known_after w s known legal = record {
  soundly = step_soundly w s known.soundly legal;
  settled = client_after_step w s known.settled tt legal;
  held = legal.held_are_live;
}

known_reached : (formats : ℕ → Layout) (steps : History) → IsLegalHistoryOf formats steps → IsKnown (reached formats steps)
known_reached formats steps legal = record {
  soundly = soundly_reached formats steps legal;
  settled = client_is_settled formats steps legal;
  held = held_after formats steps legal;
}

-- ---- a word in the areas

-- a word that holds an object is among those that do
module _ (id offset : ℕ) where
  in_words : (words : List AreaWord) (k : ℕ) → slice_get words k ≡ Some (Hold id offset)
      → contains (entries (map held_by_word words)) id ≡ true
  in_words [] k there = absurd (none-some (Hold id offset) there)
  in_words (x ∷ xs) zero there =
      subst (λ y. contains (entries (map held_by_word (y ∷ xs))) id ≡ true) (sym (same_Some x (Hold id offset) there))
      (or_left (id == id) (contains (entries (map held_by_word xs)) id) (eq-eqb id id refl))
  in_words (PlainWord number ∷ xs) (suc k) there = in_words xs k there
  in_words (Hold other its_offset ∷ xs) (suc k) there =
      or_right (other == id) (contains (entries (map held_by_word xs)) id) (in_words xs k there)

  in_areas : (areas : List (Option (List AreaWord))) (n : ℕ) (words : List AreaWord) (k : ℕ) → entry_at areas n ≡ Some words
      → slice_get words k ≡ Some (Hold id offset) → contains (flat_map holds_of areas) id ≡ true
  in_areas [] n words k there at = absurd (none-some words there)
  in_areas (None ∷ areas) zero words k there at = absurd (none-some words there)
  in_areas (Some here ∷ areas) zero words k there at =
      contains-append_left (entries (map held_by_word here)) (flat_map holds_of areas) id
      (in_words here k (ap (λ xs. slice_get xs k) (same_Some here words there) ∙ at))
  in_areas (area ∷ areas) (suc n) words k there at =
      contains-append_right (holds_of area) (flat_map holds_of areas) id (in_areas areas n words k there at)

  word_holds : (w : World) (place : Slot) → area_word w place ≡ Some (Hold id offset) → contains (ids_in_holds w.graph) id ≡ true
  word_holds w place there =
      let has = has_word w place (Hold id offset) there in
      in_areas w.graph.areas has.number has.area place.index has.there has.at

  word_is_held : (w : World) (place : Slot) → area_word w place ≡ Some (Hold id offset) → contains (ids_of_client w.graph) id ≡ true
  word_is_held w place there =
      let g = w.graph in
      contains-append_left ((ids_in_slots g ++ ids_in_holds g) ++ g.messages) (ids_in_reservations g) id
      (contains-append_left (ids_in_slots g ++ ids_in_holds g) g.messages id
      (contains-append_right (ids_in_slots g) (ids_in_holds g) id (word_holds w place there)))

-- what one word shows passes a test, so what some word shows does
module _ (w : World) (test : ℕ → Bool) (word : AreaWord) (passes : test (shown_word w word) ≡ true) where
  one_of_words : (words : List AreaWord) (k : ℕ) → slice_get words k ≡ Some word → list_any test (map (shown_word w) words) ≡ true
  one_of_words [] k there = absurd (none-some word there)
  one_of_words (x ∷ xs) zero there =
      or_left (test (shown_word w x)) (list_any test (map (shown_word w) xs))
      (ap (λ y. test (shown_word w y)) (same_Some x word there) ∙ passes)
  one_of_words (x ∷ xs) (suc k) there =
      or_right (test (shown_word w x)) (list_any test (map (shown_word w) xs)) (one_of_words xs k there)

  one_of_areas : (areas : List (Option (List AreaWord))) (n : ℕ) (words : List AreaWord) (k : ℕ) → entry_at areas n ≡ Some words
      → slice_get words k ≡ Some word → list_any test (flat_map (shown_words w) areas) ≡ true
  one_of_areas [] n words k there at = absurd (none-some words there)
  one_of_areas (None ∷ areas) zero words k there at = absurd (none-some words there)
  one_of_areas (Some here ∷ areas) zero words k there at =
      list_any-append test (map (shown_word w) here) (flat_map (shown_words w) areas)
      ∙ or_left (list_any test (map (shown_word w) here)) (list_any test (flat_map (shown_words w) areas))
      (one_of_words here k (ap (λ xs. slice_get xs k) (same_Some here words there) ∙ at))
  one_of_areas (area ∷ areas) (suc n) words k there at =
      list_any-append test (shown_words w area) (flat_map (shown_words w) areas)
      ∙ or_right (list_any test (shown_words w area)) (list_any test (flat_map (shown_words w) areas))
      (one_of_areas areas n words k there at)

-- ---- a step that doesn't write the word

live_somewhere : (o : Option ℕ) → is_some o ≡ true → (at : ℕ) × (o ≡ Some at)
live_somewhere None live = absurd (false≢true live)
live_somewhere (Some at) live = (at, refl)

module _ (w : World) (s : Step) (known : IsKnown w) (legal : IsLegalStep w s) (place : Slot) (number : ℕ) where
  abbrev ms : List Move
  ms = moves_of_collector s.call s.moves

  -- along the moves of the collector the graph is sound, areas are as before, and objects keep their kinds and sizes
  record IsAlikeIn (v : World) : Type 0 where
    sound : IsSoundGraph v
    areas : v.graph.areas ≡ w.graph.areas
    grown : Grows w v

  alike_along : Along IsAlikeIn w ms
  alike_along =
      kept_along IsAlikeIn
      (λ v before m next alike legal.
      let well = move_well v before m next alike.sound legal in
      record {
        sound = well.sound;
        areas = (move_roots v m).areas ∙ alike.areas;
        grown = grows_on w v (world_after_move v m) alike.grown well.grown;
      })
      w None ms (record { sound = known.soundly.sound; areas = refl; grown = grows_same w w refl refl refl }) legal.moves_are_legal

  -- an object that the word holds lies where it lay
  module _ (id offset : ℕ) (there : area_word w place ≡ Some (Hold id offset)) where
    held_lies : (at : ℕ) × (address_of w id ≡ Some at)
    held_lies = live_somewhere (address_of w id) (held_is_live w id known.held (word_is_held id offset w place there))

    abbrev here : ℕ
    here = held_lies.0

    held_is_kept : IsKeptIn id here w
    held_is_kept = record {
      there = held_lies.1;
      spared = settled_is_spared id w.collection (known.settled id (word_is_held id offset w place there));
    }

    held_pinned : Along (IsPinnedIn id here) w ms
    held_pinned =
        each_along IsAlikeIn (IsPinnedIn id here)
        (λ v alike lies.
        held_has_area_word v id (ap is_some lies) alike.sound
        (subst (λ areas. contains (flat_map holds_of areas) id ≡ true) (sym alike.areas) (word_holds id offset w place there)))
        w ms alike_along

    held_along : Along (IsKeptIn id here) w ms
    held_along = still_along id here w None ms legal.moves_are_legal held_pinned held_is_kept

    held_after_it : address_of (world_after w s) id ≡ Some here
    held_after_it =
        (kept_after_step id here w known.soundly
        (client_is_automatic w known.soundly.sound id (word_is_held id offset w place there)) held_is_kept s legal held_pinned).there

  -- so the word shows the same, along the moves and after the step
  record IsShownStill (word : AreaWord) : Type 0 where
    along : Along (λ v. shown_word v word ≡ number) w ms
    after : shown_word (world_after w s) word ≡ number

  shown_still : (word : AreaWord) → area_word w place ≡ Some word → shown_word w word ≡ number → IsShownStill word
  shown_still (PlainWord plain) there shows = record {
    along = each_along IsAlikeIn (λ v. plain ≡ number) (λ v alike. shows) w ms alike_along;
    after = shows;
  }
  shown_still (Hold id offset) there shows =
      let shown : Option ℕ → ℕ = λ o. option_map_or (λ at. at + offset) o 0 in
      let same = sym (ap shown (held_lies id offset there).1) ∙ shows in
      record {
        along = each_along (IsKeptIn id (here id offset there)) (λ v. shown_word v (Hold id offset) ≡ number)
            (λ v kept. ap shown kept.there ∙ same) w ms (held_along id offset there);
        after = ap shown (held_after_it id offset there) ∙ same;
      }

  -- an object in which the number lies is kept where it is
  pinned_after : (word : AreaWord) → area_word w place ≡ Some word → Along (λ v. shown_word v word ≡ number) w ms → (id at offset : ℕ)
      → at + offset ≡ number → is_sound_word w (Hold id offset) ≡ true → IsKeptIn id at w → IsKeptIn id at (world_after w s)
  pinned_after word there shows id at offset sum covers kept =
      let automatic =
      (and_parts (auto w id) (if is_copying_object w id then nat_lt offset (8 * words_of w id) else offset == 0) covers).0 in
      kept_after_step id at w known.soundly automatic kept s legal
      (both_along IsAlikeIn (λ v. shown_word v word ≡ number) (IsPinnedIn id at) pins w ms alike_along shows)
    where
      pins : (v : World) → IsAlikeIn v → shown_word v word ≡ number → IsPinnedIn id at v
      pins v alike shows lies =
          let has = has_word w place word there in
          let same : shown_word v (Hold id offset) ≡ shown_word v word =
          ap (λ o. option_map_or (λ x. x + offset) o 0) lies ∙ sum ∙ sym shows in
          one_of_areas v (λ n. lies_in v n id) word
          (subst (λ (n : ℕ). lies_in v n id ≡ true) same
          (hold_lies_in v id (ap is_some lies) offset (word_kept w v alike.grown known.soundly.sound.objects (Hold id offset) covers)))
          v.graph.areas has.number has.area place.index (ap (λ areas. entry_at areas has.number) alike.areas ∙ has.there) has.at

-- ---- steps

-- a word shows a number
record IsShowing (w : World) (place : Slot) (word : AreaWord) (number : ℕ) : Type 0 where
  there : area_word w place ≡ Some word
  shows : shown_word w word ≡ number

showing : (w : World) (place : Slot) (number : ℕ) → number_shown w place ≡ Some number
    → (word : AreaWord) × IsShowing w place word number
showing w place number shown = of_word (area_word w place) refl shown
  where
    of_word : (o : Option AreaWord) → area_word w place ≡ o → option_map (shown_word w) o ≡ Some number
        → (word : AreaWord) × IsShowing w place word number
    of_word None there e = absurd (none-some number e)
    of_word (Some word) there e = (word, record { there = there; shows = same_Some (shown_word w word) number e })

-- over a step that doesn't write it
module _ (w : World) (s : Step) (known : IsKnown w) (legal : IsLegalStep w s) (place : Slot) (word : AreaWord) (number : ℕ)
    (unwritten : writes_area_word w s.call place ≡ false) (is : IsShowing w place word number) where
  still_shown : IsShownStill w s known legal place number word
  still_shown = shown_still w s known legal place number word is.there is.shows

  still_showing : IsShowing (world_after w s) place word number
  still_showing = record {
    there = area_word_after_step w s place word unwritten is.there;
    shows = still_shown.after;
  }

showing_after : (w : World) (ss : History) (place : Slot) (word : AreaWord) (number : ℕ) → IsKnown w → IsLegalFrom w ss
    → leave_area_word w ss place ≡ true → IsShowing w place word number → IsShowing (world_after_steps w ss) place word number
showing_after w [] place word number known legal leave is = is
showing_after w (s ∷ ss) place word number known legal leave is =
    let parts = and_parts (not (writes_area_word w s.call place)) (leave_area_word (world_after w s) ss place) leave in
    showing_after (world_after w s) ss place word number (known_after w s known legal.0) legal.1 parts.1
    (still_showing w s known legal.0 place word number (not_false (writes_area_word w s.call place) parts.0) is)

-- the number lies in an object that is kept where it is
record IsPinning (w : World) (number id at offset : ℕ) : Type 0 where
  sum : at + offset ≡ number
  covers : is_sound_word w (Hold id offset) ≡ true
  kept : IsKeptIn id at w

pinning_after : (w : World) (ss : History) (place : Slot) (word : AreaWord) (number id at offset : ℕ) → IsKnown w → IsLegalFrom w ss
    → leave_area_word w ss place ≡ true → IsShowing w place word number → IsPinning w number id at offset
    → IsPinning (world_after_steps w ss) number id at offset
pinning_after w [] place word number id at offset known legal leave is pins = pins
pinning_after w (s ∷ ss) place word number id at offset known legal leave is pins =
    let parts = and_parts (not (writes_area_word w s.call place)) (leave_area_word (world_after w s) ss place) leave in
    let unwritten = not_false (writes_area_word w s.call place) parts.0 in
    pinning_after (world_after w s) ss place word number id at offset (known_after w s known legal.0) legal.1 parts.1
    (still_showing w s known legal.0 place word number unwritten is)
    (record {
      sum = pins.sum;
      covers = word_kept w (world_after w s) (step_grows w s) known.soundly.sound.objects (Hold id offset) pins.covers;
      kept = pinned_after w s known legal.0 place number word is.there
          (still_shown w s known legal.0 place word number unwritten is).along id at offset pins.sum pins.covers pins.kept;
    })

-- ---- the laws

pub shown_numbers_stay : ShownNumbersStay
shown_numbers_stay formats steps between later place number legal shown leave =
    let first = empty_world_of formats in
    let w = reached formats steps in
    let both = IsLegalFrom-first first (steps ++ between) later legal in
    let known = known_reached formats steps (IsLegalFrom-first first steps between both) in
    let word = showing w place number shown in
    let after = showing_after w between place word.0 number known (IsLegalFrom-later first steps between both) leave word.1 in
    ap (λ v. number_shown v place) (world_after_steps-append first steps between)
    ∙ ap (option_map (shown_word (world_after_steps w between))) after.there ∙ ap Some after.shows

pub addresses_lie_inside : AddressesLieInside
addresses_lie_inside formats steps slot id at legal refers there =
    let w = reached formats steps in
    let sound = (soundly_reached formats steps legal).sound in
    let automatic = client_is_automatic w sound id (slot_is_held w slot id refers) in
    let o = of_object (object_at w.graph id) refl automatic in
    let shown : shown_word w (Hold id 0) ≡ at = ap (λ x. option_map_or (λ n. n + 0) x 0) there ∙ add-zero at in
    subst (λ (n : ℕ). lies_in w n id ≡ true) shown
    (hold_lies_in w id (ap is_some there) 0 (pin_is_sound w sound id o.0 o.1 automatic))
  where
    of_object : (x : Option Object) → object_at (reached formats steps).graph id ≡ x → option_map_or is_automatic x false ≡ true
        → (o : Object) × (object_at (reached formats steps).graph id ≡ Some o)
    of_object None e is = absurd (false≢true is)
    of_object (Some o) e is = (o, e)

pub pinned_objects_lie_still : PinnedObjectsLieStill
pinned_objects_lie_still formats steps between later place number id at legal held there shown inside leave =
    let first = empty_world_of formats in
    let w = reached formats steps in
    let both = IsLegalFrom-first first (steps ++ between) later legal in
    let known = known_reached formats steps (IsLegalFrom-first first steps between both) in
    let word = showing w place number shown in
    let pins : IsPinning w number id at (number - at) = record {
      sum = offset_is w id number inside at there;
      covers = ap (λ o. is_sound_word w (Hold id (number - option_map_or (λ x. x) o 0))) (sym there)
          ∙ hold_is_sound w known.soundly.sound id number inside;
      kept = record { there = there; spared = settled_is_spared id w.collection (known.settled id held) };
    } in
    ap (λ v. address_of v id) (world_after_steps-append first steps between)
    ∙ (pinning_after w between place word.0 number id at (number - at) known (IsLegalFrom-later first steps between both) leave word.1
    pins).kept.there
