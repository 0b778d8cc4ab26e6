-- The state right after the record of a flip: all of the invariant holds but what it says of the client, whose roots the act
-- of the flip has still to fix.
use Rattle.std.proofs.Common.{◌≡◌, ◌∙◌, ◌⊎◌, ℕ, ◌<◌, ◌≤◌, Bool, true, false, refl, sym, ap, List, [], ◌∷◌, ◌++◌, length, map, Option, Some, None, subst, inl, inr, arith}
use Rattle.std.proofs.lemmas.Bool.{false≢true, true≢false, and_parts, or_cases, or_left, cases_Bool}
use Rattle.std.proofs.lemmas.List.{length-map}
use Rattle.std.proofs.lemmas.List.Sums.{count_by-le-length}
use Rattle.std.specs.Prelude.{◌==◌, not, filter, nat_le, option_map, slice_get, find}
use Rattle.std.specs.List.{flat_map}
use Rattle.std.specs.Option.{option_map_or}
use Rattle.mps_base.specs.Address.{Id, Address}
use Rattle.mps_base.specs.Segment.{Segment, is_in_segment}
use Rattle.mps_model.specs.Graph.{Graph, Object, Body, Automatic, Manual, Point, Reservation, contains, entry_at, targets, targets_of, targets_of_body, targets_of_point, targets_of_reservation, is_automatic, is_automatic_body, object_at, ids_of_client, ids_in_slots}
use Rattle.mps_model.specs.Reachable.{begins, goes_on}
use Rattle.mps_model.specs.Collection.{is_condemned}
use Rattle.mps_model.specs.World.{World, is_live, is_live_and, object_is, live_ids, live_automatic_ids, has_area_word, is_automatic_kind, pool_is, address_of}
use Rattle.mps_model.specs.Effect.{Condemnation, Everything, Generations, is_condemned_by, condemned_by, condemned_zones, lies_in_one, is_on_chain, doomed, world_flipped, segment_base_of}
use Rattle.mps_model.specs.LegalMove.{ForOne}
use Rattle.mps_model.specs.Flip.{is_nothing}
use Rattle.mps_model.specs.WellFormed.{is_live_automatic}
use Rattle.mps_model.proofs.Reaching.{list_all-contains}
use Rattle.mps_abstract.specs.Colours.{is_white, is_grey, is_to_scan, Survives}
use Rattle.mps_abstract.specs.Collecting.{Collecting, Running, segments_left}
use Rattle.mps_abstract.specs.FlipLaws.{IsAtRest, collecting_after_flip, AreRemembered}
use Rattle.mps_abstract.proofs.Lists.{contains_append, contains_left, contains_right, contains-filter, contains_filtered, index_below}
use Rattle.mps_abstract.proofs.Addresses.{automatic_is_live, is_listed_automatic}
use Rattle.mps_abstract.proofs.Keeping.{is_condemned_if_white, not_white_outside, kept_if_not_white, not_white_if_kept}
use Rattle.mps_abstract.proofs.Joining.{for_some}
use Rattle.mps_abstract.proofs.OwnAddresses.{well_formed_different}
use Rattle.mps_abstract.specs.ClientLaws.{AreApartFrom}
use Rattle.mps_abstract.proofs.HeldSegments.{segments_ordered, among_from, over_among, held_among, among_filtered, IsBaseOf, base_among, base_contained, any_among, bases_ascend}
use Rattle.mps_abstract.proofs.FlipActs.FlipLists.{count_filtered, filtered_le}

-- ---- a state without what the client holds in tables, areas and messages

abbrev pub bare_graph : Graph → Graph
bare_graph g = record g { tables = []; areas = []; messages = [] }

abbrev pub bare : World → World
bare w = record w { graph = bare_graph w.graph }

abbrev pub bare_state : Collecting → Collecting
bare_state x = record x { world = bare x.world }

-- ---- small facts

-- no reservation is live after a flip
pub none_of_doomed : (points : List (Option Point)) → flat_map targets_of_point (map doomed points) ≡ []
none_of_doomed [] = refl
none_of_doomed (None ∷ ps) = none_of_doomed ps
none_of_doomed (Some p ∷ ps) = ap (λ ids. ids ++ flat_map targets_of_point (map doomed ps)) (of_reservation p.reservation)
    ∙ none_of_doomed ps
  where
    of_reservation : (r : Option Reservation)
        → option_map_or targets_of_reservation (option_map (λ (r : Reservation). record r { is_doomed = true }) r) [] ≡ []
    of_reservation None = refl
    of_reservation (Some r) = refl

-- an object that refers to something is automatic
pub refers_automatic : (o : Option Object) (t : Id) → contains (option_map_or targets_of o []) t ≡ true
    → option_map_or is_automatic o false ≡ true
refers_automatic None t h = absurd (false≢true h)
refers_automatic (Some o) t h = of_body o.body h
  where
    of_body : (b : Body) → contains (targets_of_body b) t ≡ true → is_automatic_body b ≡ true
    of_body (Automatic head cells is_weak) h = refl
    of_body (Manual words) h = absurd (false≢true h)

-- what lies somewhere passes a test where its address does
at_address_passes : (test : Address → Bool) (o : Option Address) (at : Address) → o ≡ Some at → option_map_or test o false ≡ true
    → test at ≡ true
at_address_passes test o at e h = subst (λ p. option_map_or test p false ≡ true) e h

not_in_left : (xs ys : List Id) (n : Id) → contains (xs ++ ys) n ≡ false → contains xs n ≡ false
not_in_left xs ys n h = elim (cases_Bool (contains xs n)) [
  | inl is ↦ absurd (true≢false (sym (contains_left xs ys n is) ∙ h))
  | inr isnt ↦ isnt
]

not_in_right : (xs ys : List Id) (n : Id) → contains (xs ++ ys) n ≡ false → contains ys n ≡ false
not_in_right xs ys n h = elim (cases_Bool (contains ys n)) [
  | inl is ↦ absurd (true≢false (sym (contains_right xs ys n is) ∙ h))
  | inr isnt ↦ isnt
]

one_of_some : (ss : List Segment) → is_nothing ss ≡ false → (base : Address) × (contains (map (λ (s : Segment). s.base) ss) base ≡ true)
one_of_some [] h = absurd (true≢false h)
one_of_some (s ∷ ss) h = (s.base, base_contained s (s ∷ ss) (inl refl))

-- the record of a flip changes nothing of what it condemns
pub same_condemned : (w : World) (zones : ℕ) (what : Condemnation) → condemned_by (world_flipped w zones) what ≡ condemned_by w what
same_condemned w zones Everything = refl
same_condemned w zones (Generations chain generation) = refl

-- what is condemned is of an automatic pool
pub condemned_automatic : (w : World) (what : Condemnation) (s : Segment)
    → ((chain pool : ℕ) → is_on_chain w chain pool ≡ true → pool_is is_automatic_kind w pool ≡ true) → is_condemned_by w what s ≡ true
    → pool_is is_automatic_kind w s.pool ≡ true
condemned_automatic w Everything s chains h = h
condemned_automatic w (Generations chain generation) s chains h =
    chains chain s.pool (and_parts (is_on_chain w chain s.pool) (nat_le s.generation generation) h).0

module _ (w : World) (what : Condemnation) (others : List Id) (rest : IsAtRest w) (some : is_nothing (condemned_by w what) ≡ false)
    (remembered : AreRemembered (collecting_after_flip w what others) others) where
  abbrev x : Collecting
  x = collecting_after_flip w what others

  abbrev passes : Segment → Bool
  passes s = is_condemned_by (world_flipped w (condemned_zones w what)) what s

  in_order : AreApartFrom 1 w.segments
  in_order = segments_ordered w rest.well_formed

  -- ---- what is condemned, pinned and outside

  listed : (id : Id) → is_condemned x.running id ≡ true → contains (live_automatic_ids w) id ≡ true
  listed id h = (contains-filter (lies_in_one x.world (filter passes w.segments)) (live_automatic_ids w) id h).0

  automatic : (id : Id) → is_condemned x.running id ≡ true → object_is is_automatic w id ≡ true
  automatic id h = (contains-filter (object_is is_automatic w) (live_ids w) id (listed id h)).1

  live : (id : Id) → is_condemned x.running id ≡ true → is_live w id ≡ true
  live id h = automatic_is_live w id (listed id h)

  pinned_condemned : (id : Id) → contains x.running.pinned id ≡ true → is_condemned x.running id ≡ true
  pinned_condemned id h = (contains-filter (has_area_word x.world) x.running.condemned id h).0

  -- what isn't white and condemned is pinned
  pinned_if_black : (id : Id) → is_condemned x.running id ≡ true → is_white x.running.condemned x.colours id ≡ false
      → contains x.running.pinned id ≡ true
  pinned_if_black id is black = kept_if_not_white x.running.condemned x.colours id is black

  grey_cases : (id : Id) → is_grey x.colours id ≡ true → (contains x.running.pinned id ≡ true) ⊎ (contains others id ≡ true)
  grey_cases id h = contains_append x.running.pinned others id h

  grey_automatic : (id : Id) → is_grey x.colours id ≡ true → object_is is_automatic w id ≡ true
  grey_automatic id h = elim (grey_cases id h) [
    | inl pinned ↦ automatic id (pinned_condemned id pinned)
    | inr other ↦ remembered.automatic id other
  ]

  -- ---- condemned segments

  base_of : (base : Address) → contains x.running.condemned_segments base ≡ true → IsBaseOf (filter passes w.segments) base
  base_of base h = base_among (filter passes w.segments) base h

  base_above : (base : Address) → contains x.running.condemned_segments base ≡ true → 1 ≤ base
  base_above base h =
      let of = base_of base h in
      subst (λ n. 1 ≤ n) of.has_base (among_from 1 of.segment w.segments in_order (among_filtered passes of.segment w.segments of.among).0)

  held_condemned : (base : Address) → contains x.running.condemned_segments base ≡ true
      → ForOne (find (λ s. s.base == base) w.segments) (λ s. pool_is is_automatic_kind w s.pool ≡ true)
  held_condemned base h =
      let of = base_of base h in
      let among = among_filtered passes of.segment w.segments of.among in
      for_some (λ (s : Segment). pool_is is_automatic_kind w s.pool ≡ true) (find (λ s. s.base == base) w.segments) of.segment
      (subst (λ n. find (λ s. s.base == n) w.segments ≡ Some of.segment) of.has_base
      (held_among 1 of.segment w.segments in_order among.0))
      (condemned_automatic (world_flipped w (condemned_zones w what)) what of.segment rest.on_chains among.1)

  -- an object that is condemned lies in a condemned segment
  lies_in_condemned : (id : Id) (at : Address) → entry_at w.addresses id ≡ Some at → is_condemned x.running id ≡ true
      → contains x.running.condemned_segments (segment_base_of w at) ≡ true
  lies_in_condemned id at e is =
      let one = any_among (λ s. is_live_and (is_in_segment s) w id) (filter passes w.segments)
      (contains-filter (lies_in_one x.world (filter passes w.segments)) (live_automatic_ids w) id is).1 in
      let among = among_filtered passes one.segment w.segments one.among in
      let over = over_among 1 one.segment w.segments at in_order among.0
      (at_address_passes (is_in_segment one.segment) (address_of w id) at e one.passes) in
      let same : segment_base_of w at ≡ one.segment.base = ap (λ o. option_map_or (λ (s : Segment). s.base) o 0) over in
      ap (contains x.running.condemned_segments) same ∙ base_contained one.segment (filter passes w.segments) one.among

  -- ---- how many units

  to_scan_automatic : (id : Id) → is_to_scan x.running.condemned x.colours id ≡ true → object_is is_automatic w id ≡ true
  to_scan_automatic id h = elim (or_cases (is_white x.running.condemned x.colours id) (is_grey x.colours id) h) [
    | inl white ↦ automatic id (is_condemned_if_white x.running.condemned x.colours id white)
    | inr grey ↦ grey_automatic id grey
  ]

  segments_no_more : segments_left x.running.condemned_segments 0 ≤ length (filter (λ s. pool_is is_automatic_kind w s.pool) w.segments)
  segments_no_more =
      let most = count_by-le-length (nat_le 0) x.running.condemned_segments in
      let same = length-map (filter passes w.segments) (λ (s : Segment). s.base) in
      let less = filtered_le passes (λ (s : Segment). pool_is is_automatic_kind w s.pool) w.segments
      (λ s h. condemned_automatic (world_flipped w (condemned_zones w what)) what s rest.on_chains h) in
      omega (arith, most, same, less)

  -- ---- all together

  survives : (id : Id) → is_white x.running.condemned x.colours id ≡ false → Survives x.running id
  survives id black = elim (cases_Bool (is_condemned x.running id)) [
    | inl is ↦ inr (begins (contains_left ((ids_in_slots w.graph ++ w.graph.messages) ++ x.running.pinned)
        (filter (λ n. not (contains x.running.condemned n)) (live_automatic_ids w)) id
        (contains_right (ids_in_slots w.graph ++ w.graph.messages) x.running.pinned id (pinned_if_black id is black))))
    | inr isnt ↦ inl isnt
  ]

  referred_survives : (id target : Id) → is_live w id ≡ true → is_condemned x.running id ≡ false
      → contains (targets w.graph id) target ≡ true
      → Survives x.running target
  referred_survives id target there isnt h =
      inr (goes_on (begins (contains_right ((ids_in_slots w.graph ++ w.graph.messages) ++ x.running.pinned)
      (filter (λ n. not (contains x.running.condemned n)) (live_automatic_ids w)) id
      (contains_filtered (λ n. not (contains x.running.condemned n)) (live_automatic_ids w) id (ap not isnt)
      (is_listed_automatic w id there (refers_automatic (object_at w.graph id) target h))))) h)

  not_registered_later : (position : ℕ) (id : Id) → slice_get w.graph.registered position ≡ Some id
      → (position < 0) ⊎ (length w.graph.registered ≤ position) → ⊥
  not_registered_later position id there (inl below) = omega (arith, below)
  not_registered_later position id there (inr after) = let h = index_below w.graph.registered position id there in omega (arith, after, h)

  no_roots : (id : Id) → contains (ids_of_client (bare x.world).graph) id ≡ true → ⊥
  no_roots id h = false≢true (subst (λ (ids : List Id). contains ids id ≡ true) (none_of_doomed w.graph.points) h)

  pub flipped_running : Running (bare_state x)
  flipped_running = record {
    runs = refl;
    different = well_formed_different w rest.well_formed;
    condemned = record {
      objects = automatic;
      bases = bases_ascend 0 1 passes w.segments (omega arith) in_order;
      segments = held_condemned;
    };
    coloured = record {
      held_live = λ id h. absurd (no_roots id h);
      held = λ id h. absurd (no_roots id h);
      referred_live = λ id target there black h. rest.referred_live id target there h;
      referred = λ id target there black grey h. elim (cases_Bool (is_condemned x.running id)) [
        | inl is ↦ absurd (false≢true (sym (not_in_left x.running.pinned others id grey) ∙ pinned_if_black id is black))
        | inr isnt ↦ remembered.rest id target there isnt (not_in_right x.running.pinned others id grey) h
      ];
    };
    grey = record {
      grey_live = λ id h. elim (grey_cases id h) [
        | inl pinned ↦ live id
            (pinned_condemned id pinned)
        | inr other ↦ remembered.live id other
      ];
      grey_automatic = grey_automatic;
      grey_kept = λ id h. elim (grey_cases id h) [
        | inl pinned ↦ not_white_if_kept x.running.condemned x.colours id pinned
        | inr other ↦ not_white_outside x.running.condemned x.colours id (remembered.outside id other)
      ];
    };
    settled = record {
      settled = λ id h. elim (or_cases (contains x.running.pinned id) false h) [
        | inl pinned ↦ not_white_if_kept x.running.condemned x.colours id pinned
        | inr none ↦ absurd (false≢true none)
      ];
      in_place = λ id copying is black. or_left (contains x.running.pinned id) false (pinned_if_black id is black);
    };
    survivors = record {
      existing = omega arith;
      kept = λ id there black. survives id black;
      written = λ id target there h. inl h;
      outside = referred_survives;
    };
    examined = record {
      live_registered = λ id h. (and_parts (is_live w id) (object_is is_automatic w id)
          (list_all-contains (is_live_automatic w) w.graph.registered id rest.well_formed.registered h)).0;
      from = omega arith;
      up_to = omega arith;
      existing = omega arith;
      examined = λ position id there h. absurd (not_registered_later position id there h);
    };
    band = record {
      tracing = λ h. refl;
      splatting = λ h. refl;
      drained = λ h. absurd (true≢false h);
      examined = λ h. absurd (true≢false h);
      scanned = λ h. absurd (false≢true h);
      referred_live = λ h. rest.referred_live;
      unswept = λ h. refl;
    };
    swept = record {
      hold = λ base h below. absurd (omega (arith, below));
      to_go = λ id at e white. record {
        condemned = lies_in_condemned id at e (is_condemned_if_white x.running.condemned x.colours id white);
        above = omega arith;
      };
      in_turn = λ base h from. let above = base_above base h in omega (arith, above);
      one_left =
          let one = one_of_some (filter passes w.segments) (ap is_nothing (same_condemned w (condemned_zones w what) what) ∙ some) in
          (one.0, one.1, omega arith);
    };
    units =
        let objects = count_filtered (is_to_scan x.running.condemned x.colours) (object_is is_automatic w) (live_ids w) to_scan_automatic in
        let segments = segments_no_more in
        omega (arith, objects, segments);
  }
