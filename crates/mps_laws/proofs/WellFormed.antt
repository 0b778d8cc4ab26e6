-- Each world that a legal history reaches is well-formed.
use Rattle.std.proofs.Common.{◌≡◌, ◌∙◌, ℕ, zero, suc, ◌+◌, ◌*◌, ◌<◌, Bool, true, false, refl, sym, ap, List, [], ◌∷◌, ◌++◌, length, Option, Some, None, subst, inl, inr, arith}
use Rattle.std.proofs.lemmas.Bool.{cases_Bool, false≢true, and_parts, and_from, le-leb, lt-ltb, ltb-true, eq-eqb, eqb-true, or_left, or_right}
use Rattle.std.proofs.lemmas.Option.{slice_get-map}
use Rattle.std.proofs.lemmas.List.{length-map}
use Rattle.std.specs.Prelude.{map, slice_get, option_map, option_and_then, ◌==◌, ◌&&◌, ◌||◌, not, nat_le, nat_lt, if◌then◌else◌, is_some}
use Rattle.std.specs.Option.{option_map_or}
use Rattle.std.specs.List.{list_all}
use Rattle.mps_base.specs.Segment.{Segment}
use Rattle.mps_base.specs.Run.{Run}
use Rattle.mps_laws.proofs.Epochs.{AreDated}
use Rattle.mps_model.specs.Graph.{LabelThing, Point, Reservation, AreaWord, PlainWord, Hold, entry_at, held_by_word, holds_of, ids_in_slots, ids_in_holds, ids_in_reservations, ids_of_client}
use Rattle.mps_model.specs.World.{World, committed, PointMemory, extent, ids_in_pairs, is_live, is_live_and, is_parked, is_running, is_copying_object, is_word_in, pool_at, shown_word, words_of}
use Rattle.mps_model.specs.Making.{is_weak_rank}
use Rattle.mps_model.specs.WellFormed.{IsWellFormed, is_live_automatic, are_right_cells, is_home, is_right_at_hand, is_right_object, is_right_point, is_right_reservation, are_right_points, is_right_word, are_right_words}
use Rattle.mps_laws.proofs.Dependents.{ArePaired}
use Rattle.mps_laws.proofs.Frames.{AreRightFrames, frames_right}
use Rattle.mps_laws.proofs.Caches.{AreRightCaches}
use Rattle.mps_laws.proofs.Labels.{AreNamed, labels_from}
use Rattle.mps_laws.proofs.RunningCollection.{RunsWithin, right_running}
use Rattle.mps_laws.proofs.SegmentPools.{AreOfPools}
use Rattle.mps_laws.proofs.Spending.{SpendsWithin}
use Rattle.mps_laws.proofs.ThingsNamed.{AreNamesRight}
use Rattle.mps_laws.proofs.WithinLimit.{IsWithinLimit}
use Rattle.mps_laws.proofs.Parked.{RestsWhenParked}
use Rattle.mps_laws.proofs.Lookups.{entry_is_there}
use Rattle.mps_laws.proofs.Positions.Occupancy.{Occupancy, OfReservation, OfBuffer, PointShape, shape_of_point, reserved_words, occupancy_of, run_of, run_of_reservation, run_of_reserved, run_of_buffer, pool_of_occupant, rank_of_occupant}
use Rattle.mps_laws.proofs.Positions.LaidOut.{Home}
use Rattle.mps_laws.proofs.Positions.LegalMoves.{HasLayout}
use Rattle.mps_laws.proofs.Positions.Reserving.{rank_where-weak}
use Rattle.mps_laws.proofs.Sound.SoundGraph.{All, PassesOrNull, IsSoundGraph, auto, is_sound_word, all-parts, all-at, entry-passes, each-all, all-both}
use Rattle.mps_laws.proofs.Positions.WellPlaced.{segments_right, ascending_apart, apart_right, places_right, tails_right, home_is, at_hand_is}

-- what the client holds is live
abbrev pub ClientIsLive : World → Type 0
ClientIsLive w = All (is_live w) (ids_of_client w.graph)

-- ---- points

module _ (limit : ℕ) (w : World) (laid : HasLayout limit w) (s : IsSoundGraph w) where
  shape_there : (n : ℕ) (p : Point) → entry_at w.graph.points n ≡ Some p
      → entry_at (map shape_of_point w.graph.points) n ≡ shape_of_point (Some p)
  shape_there n p e =
      ap (λ o. option_and_then (λ entry. entry) o)
      (slice_get-map shape_of_point w.graph.points n ∙ ap (option_map shape_of_point) (entry_is_there w.graph.points n p e))

  reservation_right : (n : ℕ) (p : Point) (m : PointMemory) (r : Reservation) → entry_at w.graph.points n ≡ Some p
      → slice_get w.point_memories n ≡ Some m → p.reservation ≡ Some r → is_right_reservation w p m r ≡ true
  reservation_right n p m r e f k =
      and_from (option_map_or (λ of. are_right_cells w of r.head r.cells) (pool_at w p.pool) false)
      (r.is_doomed || is_home w p.pool (is_weak_rank p.rank) (extent m.reserved_at (length r.cells))) (s.reservations n p r e k)
      (elim (cases_Bool r.is_doomed) [
        | inl is ↦ or_left (r.is_doomed) (is_home w p.pool (is_weak_rank p.rank) (extent m.reserved_at (length r.cells))) is
        | inr isnt ↦
            or_right (r.is_doomed) (is_home w p.pool (is_weak_rank p.rank) (extent m.reserved_at (length r.cells))) (live isnt)
      ])
    where
      live : r.is_doomed ≡ false → is_home w p.pool (is_weak_rank p.rank) (extent m.reserved_at (length r.cells)) ≡ true
      live isnt =
          let g = occupancy_of w in
          let shape = shape_there n p e in
          let reserved : reserved_words p.reservation ≡ Some (length r.cells) =
          ap reserved_words k ∙ ap (λ b. if b then None else Some (length r.cells)) isnt in
          let run : run_of g (OfReservation n) ≡ extent m.reserved_at (length r.cells) =
          ap (λ o. run_of_reservation o (slice_get w.point_memories n)) shape
          ∙ ap (λ o. run_of_reserved o (slice_get w.point_memories n)) reserved
          ∙ ap (run_of_reserved (Some (length r.cells))) f in
          let q : PointShape = record { pool = p.pool; rank = p.rank; reserved = reserved_words p.reservation } in
          let some = (laid.points n q shape).some (length r.cells) reserved in
          let home = laid.placed.homes (OfReservation n) (subst (λ (x : Run). 0 < x.count) (sym run) some) in
          home_is w (OfReservation n) p.pool (is_weak_rank p.rank) p.rank (extent m.reserved_at (length r.cells))
          (sym (rank_where-weak p.rank))
          (subst (λ (x : ℕ). Home w.segments w.pools g.condemned (OfReservation n) x p.rank (extent m.reserved_at (length r.cells)))
          (ap (λ o. option_map_or (λ (y : PointShape). y.pool) o 0) shape)
          (subst (λ x. Home w.segments w.pools g.condemned (OfReservation n) (pool_of_occupant g (OfReservation n)) x
          (extent m.reserved_at (length r.cells)))
          (ap (λ o. option_map_or (λ (y : PointShape). y.rank) o Rattle.mps_base.specs.declared.names.Rank.TheVariants.Exact) shape)
          (subst (Home w.segments w.pools g.condemned (OfReservation n) (pool_of_occupant g (OfReservation n))
          (rank_of_occupant g (OfReservation n))) run home)))

  buffer_right : (n : ℕ) (p : Point) (m : PointMemory) → entry_at w.graph.points n ≡ Some p → slice_get w.point_memories n ≡ Some m
      → is_right_at_hand w p.pool m.buffer ≡ true
  buffer_right n p m e f =
      let g = occupancy_of w in
      let run : run_of g (OfBuffer n) ≡ m.buffer = ap run_of_buffer f in
      at_hand_is w (OfBuffer n) p.pool (rank_of_occupant g (OfBuffer n)) m.buffer (λ some.
      subst (λ (x : ℕ). Home w.segments w.pools g.condemned (OfBuffer n) x (rank_of_occupant g (OfBuffer n)) m.buffer)
      (ap (λ o. option_map_or (λ (y : PointShape). y.pool) o 0) (shape_there n p e))
      (subst (Home w.segments w.pools g.condemned (OfBuffer n) (pool_of_occupant g (OfBuffer n)) (rank_of_occupant g (OfBuffer n))) run
      (laid.placed.homes (OfBuffer n) (subst (λ (x : Run). 0 < x.count) (sym run) some))))

  point_right : (n : ℕ) (p : Point) (m : PointMemory) → entry_at w.graph.points n ≡ Some p → slice_get w.point_memories n ≡ Some m
      → is_right_point w p m ≡ true
  point_right n p m e f =
      and_from (option_map_or (is_right_reservation w p m) p.reservation true) (is_right_at_hand w p.pool m.buffer)
      (of_one p.reservation refl)
      (buffer_right n p m e f)
    where
      of_one : (o : Option Reservation) → p.reservation ≡ o → option_map_or (is_right_reservation w p m) o true ≡ true
      of_one None k = refl
      of_one (Some r) k = reservation_right n p m r e f k

  points_from : (ps : List (Option Point)) (ms : List PointMemory) → length ms ≡ length ps
      → ((n : ℕ) (p : Point) (m : PointMemory) → entry_at ps n ≡ Some p → slice_get ms n ≡ Some m → is_right_point w p m ≡ true)
      → are_right_points w ps ms ≡ true
  points_from [] [] h each = refl
  points_from [] (m ∷ ms) h each = absurd (omega (arith, h))
  points_from (p ∷ ps) [] h each = absurd (omega (arith, h))
  points_from (None ∷ ps) (m ∷ ms) h each = points_from ps ms (omega (arith, h)) (λ n p k e f. each (suc n) p k e f)
  points_from (Some p ∷ ps) (m ∷ ms) h each =
      and_from (is_right_point w p m) (are_right_points w ps ms) (each zero p m refl refl)
      (points_from ps ms (omega (arith, h)) (λ n q k e f. each (suc n) q k e f))

  points_right : are_right_points w w.graph.points w.point_memories ≡ true
  points_right = points_from w.graph.points w.point_memories (laid.memories ∙ length-map w.graph.points shape_of_point) point_right

-- ---- what the client holds

module _ (w : World) (s : IsSoundGraph w) (live : ClientIsLive w) where
  holds_live : All (is_live w) (ids_in_holds w.graph)
  holds_live =
      let a = all-parts (is_live w) ((ids_in_slots w.graph ++ ids_in_holds w.graph) ++ w.graph.messages)
      (ids_in_reservations w.graph) live in
      let b = all-parts (is_live w) (ids_in_slots w.graph ++ ids_in_holds w.graph) w.graph.messages a.0 in
      (all-parts (is_live w) (ids_in_slots w.graph) (ids_in_holds w.graph) b.0).1

  messages_live : All (is_live w) w.graph.messages
  messages_live =
      let a = all-parts (is_live w) ((ids_in_slots w.graph ++ ids_in_holds w.graph) ++ w.graph.messages)
      (ids_in_reservations w.graph) live in
      (all-parts (is_live w) (ids_in_slots w.graph ++ ids_in_holds w.graph) w.graph.messages a.0).1

  in_it : (copying : Bool) (at words offset : ℕ) → (if copying then nat_lt offset (8 * words) else offset == 0) ≡ true
      → is_word_in copying at words (at + offset) ≡ true
  in_it true at words offset h =
      let fits = ltb-true offset (8 * words) h in
      and_from (nat_le at (at + offset)) (nat_lt (at + offset) (at + 8 * words)) (le-leb at (at + offset) (omega arith))
      (lt-ltb (at + offset) (at + 8 * words) (omega (arith, fits)))
  in_it false at words offset h =
      let none = eqb-true offset 0 h in eq-eqb (at + offset) at (omega (arith, none))

  word_right : (word : AreaWord) → is_sound_word w word ≡ true → PassesOrNull (is_live w) (held_by_word word) → is_right_word w word ≡ true
  word_right (PlainWord number) h l = refl
  word_right (Hold id offset) h l =
      let parts = and_parts (auto w id) (if is_copying_object w id then nat_lt offset (8 * words_of w id) else offset == 0) h in
      and_from (auto w id) (is_live_and (λ at. is_word_in (is_copying_object w id) at (words_of w id)
      (shown_word w (Hold id offset))) w id) parts.0
      (of_address (entry_at w.addresses id) l parts.1)
    where
      of_address : (o : Option ℕ) → is_some o ≡ true → (if is_copying_object w id then nat_lt offset (8 * words_of w id) else offset == 0)
          ≡ true
          → option_map_or (λ at. is_word_in (is_copying_object w id) at (words_of w id) (option_map_or (λ a. a + offset) o 0)) o false
          ≡ true
      of_address None k g = absurd (false≢true k)
      of_address (Some at) k g = in_it (is_copying_object w id) at (words_of w id) offset g

  area_right : (n : ℕ) (area : Option (List AreaWord)) → slice_get w.graph.areas n ≡ Some area → are_right_words w area ≡ true
  area_right n None e = refl
  area_right n (Some words) e =
      let sound = s.words n words (ap (λ o. option_and_then (λ entry. entry) o) e) in
      let held = all-at (is_live w) holds_of w.graph.areas n (Some words) holds_live e in
      each-all (is_right_word w) words (λ k word f.
      word_right word (Rattle.mps_laws.proofs.Sound.SoundGraph.each-at (is_sound_word w) words k word sound f)
      (entry-passes (is_live w) (map held_by_word words) k (held_by_word word) held
      (slice_get-map held_by_word words k ∙ ap (option_map held_by_word) f)))

-- ---- a world that is laid out, whose graph is sound

not_both : (a b : Bool) → (a ≡ true → b ≡ false) → not (a && b) ≡ true
not_both true b h = ap not (h refl)
not_both false b h = refl

pub well_formed : (w : World) → HasLayout (w.grains + 1) w → IsWithinLimit w → AreOfPools w → IsSoundGraph w → AreNamesRight w
    → AreNamed w.graph → ArePaired w → AreRightCaches w → AreRightFrames w → AreDated w → ClientIsLive w → RestsWhenParked w
    → RunsWithin w → SpendsWithin w → All (is_live_automatic w) (ids_in_pairs w.state) → IsWellFormed w
well_formed w laid within pools s names named paired cached framed dated live rests runs spends pairs = record {
  segments =
      and_from (list_all (Rattle.mps_model.specs.WellFormed.is_right_segment w) w.segments)
      (Rattle.mps_model.specs.WellFormed.are_apart (map Rattle.mps_base.specs.Segment.grains_of_segment w.segments))
      (segments_right w w.segments 1 (omega arith) laid.ascending laid.aligned laid.ranked)
      (ascending_apart 1 (w.grains + 1) (map Rattle.mps_base.specs.Segment.grains_of_segment w.segments) laid.ascending);
  limit = le-leb (committed w) w.limit within;
  pools = pools;
  addresses = laid.lengths ∙ length-map w.graph.objects Rattle.mps_laws.proofs.Positions.Occupancy.shape_of;
  apart = apart_right (w.grains + 1) w laid;
  objects = each-all (is_right_object w) w.graph.objects (λ id o e. s.objects id o e);
  places = places_right (w.grains + 1) w laid;
  points = points_right (w.grains + 1) w laid s;
  tails = tails_right (w.grains + 1) w laid;
  slots = s.slots;
  words = each-all (are_right_words w) w.graph.areas (λ n area e. area_right w s live n area e);
  blocks = s.blocks;
  registered = s.registered;
  messages = all-both (is_live w) (auto w) w.graph.messages (messages_live w s live) s.messages;
  names = names;
  labels =
      labels_from w.graph 0 w.graph.labels (λ number label e.
      named number label e ∙ ap (λ n. Some (LabelThing n)) (let same : number ≡ 0 + number = omega arith in same));
  dependents = paired;
  parked = not_both (is_parked w) (is_running w) rests;
  running = right_running (w.grains + 1) w laid runs spends;
  transforms = pairs;
  caches = cached;
  frames = frames_right w s framed;
  dependencies = dated;
}
