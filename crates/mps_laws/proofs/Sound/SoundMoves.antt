-- Moves leave a sound graph, in which objects keep their kinds.
use Rattle.std.proofs.Common.{◌≡◌, ◌∙◌, ℕ, ◌+◌, Bool, true, false, refl, sym, ap, List, [], ◌∷◌, Option, Some, None, subst, inl, inr}
use Rattle.std.proofs.lemmas.Bool.{false≢true, true≢false, and_parts, and_from, cases_eq, eq-eqb}
use Rattle.std.proofs.lemmas.Option.{none-some, same_Some, slice_get-map}
use Rattle.std.specs.Prelude.{slice_get, slice_set, option_map, not, ◌||◌, ◌==◌, ◌≢◌, if◌then◌else◌, is_some}
use Rattle.std.specs.Option.{option_map_or}
use Rattle.std.specs.List.{list_all}
use Rattle.mps_base.specs.Address.{Address}
use Rattle.mps_base.specs.Segment.{Segment}
use Rattle.mps_base.specs.declared.moves.Move.{Move}
use Rattle.mps_base.specs.declared.moves.Move.TheVariants as moves
use Rattle.mps_model.specs.Graph.{Graph, Object, Point, Reservation, contains, position_of_first, entry_at, object_at, is_automatic, with_target_cell, object_with_cells, without_named}
use Rattle.mps_model.specs.World.{World, id_at, is_live, object_is, is_copying_pool}
use Rattle.mps_model.specs.WellFormed.{is_live_automatic}
use Rattle.mps_model.specs.Effect.{world_after_move, world_after_moves, after_segment, after_moved, after_splat, after_post, after_free, after_unseg, after_flip, where_one, with_collection, graph_posted, reclaiming, segment_base_of, segment_of_move, placing, doomed, condemnation_of, holding, splatting, posting, registration_of, graph_nulled, graph_splatted, without_object}
use Rattle.mps_model.specs.LegalMove.{IsLegalMove, IsLegalMoved, IsLegalStay, IsLegalSplat, IsLegalPost, IsLegalSweep, AreLegalMoves, first_move}
use Rattle.mps_model.specs.Checked.{with_graph}
use Rattle.mps_laws.proofs.Lookups.{entry_at-set_same, entry_at-set_other, entry_within, opened}
use Rattle.mps_laws.proofs.Finding.{for_both, for_one, id_at-found}
use Rattle.mps_changes.proofs.Written.{length-with_target_cell}
use Rattle.mps_laws.proofs.Sound.SoundGraph.{All, IsSoundGraph, IsRightPoint, Grows, auto, manual, is_sound_reservation, all-contains, all-without, all-ended, all-weaker, edited, grows_alike, untouched, right_target_cell, all-both}
use Rattle.mps_laws.proofs.Sound.SoundActs.{held_written, cells_changed}
use Rattle.mps_model.proofs.Nulled.{splatted_holds}

pub grows_on : (u v w : World) → Grows u v → Grows v w → Grows u w
grows_on u v w g h = record {
  formats = h.formats ∙ g.formats;
  pools = λ n p e. h.pools n p (g.pools n p e);
  objects = λ id o e.
      let a = g.objects id o e in
      let b = h.objects id a.0 a.1 in
      (b.0, b.1, record { pool = (b.2).pool ∙ (a.2).pool; size = (b.2).size ∙ (a.2).size; kind = (b.2).kind ∙ (a.2).kind });
}

pub grows_same : (w w' : World) → w'.formats ≡ w.formats → w'.pools ≡ w.pools → w'.graph.objects ≡ w.graph.objects → Grows w w'
grows_same w w' formats pools objects = grows_alike w w' formats (λ n p e. ap (λ ps. slice_get ps n) pools ∙ e) objects

-- a world after a move: sound, and grown
pub record IsMovedWell (w w' : World) : Type 0 where
  pub sound : IsSoundGraph w'
  pub grown : Grows w w'

pub quiet : (w w' : World) → IsSoundGraph w → w'.formats ≡ w.formats → w'.pools ≡ w.pools → w'.graph ≡ w.graph
    → w'.addresses ≡ w.addresses → IsMovedWell w w'
quiet w w' s formats pools graph addresses = record {
  sound =
      untouched w w' s formats (λ n p e. ap (λ ps. slice_get ps n) pools ∙ e) (ap (λ (g : Graph). g.objects) graph)
      (ap (λ (g : Graph). g.points) graph) (ap (λ (g : Graph). g.tables) graph) (ap (λ (g : Graph). g.areas) graph)
      (ap Rattle.mps_model.specs.Graph.ids_in_blocks graph) (ap (λ (g : Graph). g.registered) graph)
      (ap (λ (g : Graph). g.messages) graph) addresses;
  grown = grows_same w w' formats pools (ap (λ (g : Graph). g.objects) graph);
}

-- the same graph, where what lives has changed but no registered object died
with_live : (w w' : World) → IsSoundGraph w → w'.formats ≡ w.formats → w'.pools ≡ w.pools → w'.graph ≡ w.graph
    → All (is_live w') w.graph.registered → IsMovedWell w w'
with_live w w' s formats pools graph live =
    let grows = grows_same w w' formats pools (ap (λ (g : Graph). g.objects) graph) in
    record {
      grown = grows;
      sound = record {
        objects = λ id o h. Rattle.mps_laws.proofs.Sound.SoundGraph.right_object_kept w w' grows o
            (s.objects id o (sym (ap (λ g. object_at g id) graph) ∙ h));
        reservations = λ n p r h k.
            Rattle.mps_laws.proofs.Sound.SoundGraph.reservation_kept w w' grows p.pool r
            (s.reservations n p r (sym (ap (λ (g : Graph). entry_at g.points n) graph) ∙ h) k);
        points = λ n p h.
            let right = s.points n p (sym (ap (λ (g : Graph). entry_at g.points n) graph) ∙ h) in
            subst (λ ps. IsRightPoint ps p) (sym pools) right;
        slots =
            all-weaker (auto w) (auto w') (Rattle.mps_laws.proofs.Sound.SoundGraph.auto_kept w w' grows)
            (Rattle.mps_model.specs.Graph.ids_in_slots w'.graph)
            (subst (λ (g : Graph). All (auto w) (Rattle.mps_model.specs.Graph.ids_in_slots g)) (sym graph) s.slots);
        words = λ n area h.
            Rattle.mps_laws.proofs.Sound.SoundGraph.each-weaker (Rattle.mps_laws.proofs.Sound.SoundGraph.is_sound_word w)
            (Rattle.mps_laws.proofs.Sound.SoundGraph.is_sound_word w')
            (Rattle.mps_laws.proofs.Sound.SoundGraph.word_kept w w' grows s.objects) area
            (s.words n area (sym (ap (λ (g : Graph). entry_at g.areas n) graph) ∙ h));
        blocks =
            all-weaker (manual w) (manual w') (Rattle.mps_laws.proofs.Sound.SoundGraph.manual_kept w w' grows)
            (Rattle.mps_model.specs.Graph.ids_in_blocks w'.graph)
            (subst (λ (g : Graph). All (manual w) (Rattle.mps_model.specs.Graph.ids_in_blocks g)) (sym graph) s.blocks);
        registered =
            subst (λ (g : Graph). All (is_live_automatic w') g.registered) (sym graph)
            (all-both (is_live w') (auto w') w.graph.registered live
            (all-weaker (is_live_automatic w) (auto w') (λ id h.
            Rattle.mps_laws.proofs.Sound.SoundGraph.auto_kept w w' grows id (and_parts (is_live w id) (auto w id) h).1)
            w.graph.registered s.registered));
        messages =
            all-weaker (auto w) (auto w') (Rattle.mps_laws.proofs.Sound.SoundGraph.auto_kept w w' grows) w'.graph.messages
            (subst (λ (g : Graph). All (auto w) g.messages) (sym graph) s.messages);
      };
    }

registered_live : (w : World) → IsSoundGraph w → All (is_live w) w.graph.registered
registered_live w s = all-weaker (is_live_automatic w) (is_live w)
    (λ id h. (and_parts (is_live w id) (auto w id) h).0) w.graph.registered s.registered

-- what isn't an id keeps what it was
all-but : (p q : ℕ → Bool) (id : ℕ) (ids : List ℕ) → ((j : ℕ) → id ≢ j → p j ≡ true → q j ≡ true) → contains ids id ≡ false → All p ids
    → All q ids
all-but p q id [] each c h = refl
all-but p q id (x ∷ xs) each c h =
    let parts = and_parts (p x) (list_all p xs) h in
    let apart = Rattle.mps_laws.proofs.Positions.Covered.or_false (x == id) (contains xs id) c in
    and_from (q x) (list_all q xs)
    (each x (λ e. true≢false (sym (eq-eqb x id (sym e)) ∙ apart.0)) parts.0) (all-but p q id xs each apart.1 parts.1)

-- ---- moves

moved_well : (w : World) (id at to : ℕ) → IsSoundGraph w → entry_at w.addresses id ≡ Some at → IsMovedWell w (after_moved w id to)
moved_well w id at to s e =
    with_live w (after_moved w id to) s refl refl refl
    (all-weaker (is_live w) (is_live (after_moved w id to)) (λ j h.
    elim (cases_eq id j) [
      | inl same ↦
          subst (λ (k : ℕ). is_some (entry_at (slice_set w.addresses id (Some to)) k) ≡ true) same
          (ap is_some (entry_at-set_same w.addresses id (Some to) (entry_within w.addresses id at e)))
      | inr other ↦ ap is_some (entry_at-set_other w.addresses id j (Some to) other) ∙ h
    ]) w.graph.registered (registered_live w s))

pub freed_well : (w : World) (id at : ℕ) → IsSoundGraph w → contains w.graph.registered id ≡ false → IsMovedWell w (after_free w id at)
freed_well w id at s none =
    elim (object_is is_automatic w id) as (λ b. IsMovedWell w
    (if b then with_collection (without_object w id) (reclaiming (segment_base_of w at)) else without_object w id)) [
      | true ↦
          since (with_collection (without_object w id) (reclaiming (segment_base_of w at)))
          (with_live unlinked (with_collection (without_object w id) (reclaiming (segment_base_of w at))) sound refl refl refl still)
      | false ↦ since (without_object w id) (with_live unlinked (without_object w id) sound refl refl refl still)
    ]
  where
    unlinked : World
    unlinked = with_graph w (record w.graph { dependents = without_named w.graph.dependents id })

    sound : IsSoundGraph unlinked
    sound = untouched w unlinked s refl (λ n p e. e) refl refl refl refl refl refl refl refl

    since : (u : World) → IsMovedWell unlinked u → IsMovedWell w u
    since u m = record { sound = m.sound; grown = grows_on w unlinked u (grows_same w unlinked refl refl refl) m.grown }

    still : All (λ j. is_some (entry_at (slice_set w.addresses id None) j)) w.graph.registered
    still =
        all-but (is_live w) (λ j. is_some (entry_at (slice_set w.addresses id None) j)) id w.graph.registered
        (λ j other h. ap is_some (entry_at-set_other w.addresses id j None other) ∙ h) none (registered_live w s)

pub segment_well : (w : World) (t : Segment) → IsSoundGraph w → IsMovedWell w (after_segment w t)
segment_well w t s =
    elim (is_copying_pool w t.pool) as (λ b. IsMovedWell w (if b then Rattle.mps_model.specs.World.with_tail
    (holding w t) t.pool t.generation (Rattle.mps_base.specs.Segment.words_of_segment t)
    else holding w t)) [
      | true ↦ quiet w (Rattle.mps_model.specs.World.with_tail (holding w t) t.pool t.generation
          (Rattle.mps_base.specs.Segment.words_of_segment t)) s refl refl refl refl
      | false ↦ quiet w (holding w t) s refl refl refl refl
    ]

pub unseg_well : (w : World) (base : Address) → IsSoundGraph w → IsMovedWell w (after_unseg w base)
unseg_well w base s = quiet w (after_unseg w base) s refl refl refl refl

-- reservations that are doomed keep their cells
flipped_well : (w : World) (zones chain generation : ℕ) → IsSoundGraph w
    → IsMovedWell w (after_flip w zones (condemnation_of chain generation))
flipped_well w zones chain generation s =
    let w' = after_flip w zones (condemnation_of chain generation) in
    let grows = grows_same w w' refl refl refl in
    record {
      grown = grows;
      sound =
          edited w w' grows s (record {
            live = λ id h. h;
            objects = λ id o h. inl h;
            reservations = λ n p r h k. inl (of_entry n (slice_get w.graph.points n) refl p r
                (sym (ap opened (slice_get-map doomed w.graph.points n)) ∙ h) k);
            points = λ n p h. inl (point_entry n (slice_get w.graph.points n) refl p
                (sym (ap opened (slice_get-map doomed w.graph.points n)) ∙ h));
            slots = inl refl;
            words = inl refl;
            blocks = inl refl;
            registered = inl refl;
            messages = inl refl;
          });
    }
  where
    of_point : (n : ℕ) (q p : Point) (r : Reservation) (o : Option Reservation) → entry_at w.graph.points n ≡ Some q → q.reservation ≡ o
        → record q { reservation = option_map (λ (x : Reservation). record x { is_doomed = true }) o } ≡ p → p.reservation ≡ Some r
        → is_sound_reservation w p.pool r ≡ true
    of_point n q p r None e f g k = absurd (none-some r (ap (λ (x : Point). x.reservation) g ∙ k))
    of_point n q p r (Some t) e f g k =
        let same : record t { is_doomed = true } ≡ r = same_Some (record t { is_doomed = true }) r
        (ap (λ (x : Point). x.reservation) g ∙ k) in
        subst (λ (x : Point). is_sound_reservation w x.pool r ≡ true) g
        (subst (λ (x : Reservation). is_sound_reservation w q.pool x ≡ true) same (s.reservations n q t e f))

    of_entry : (n : ℕ) (o : Option (Option Point)) → slice_get w.graph.points n ≡ o → (p : Point) (r : Reservation)
        → opened (option_map doomed o) ≡ Some p → p.reservation ≡ Some r → is_sound_reservation w p.pool r ≡ true
    of_entry n None e p r h k = absurd (none-some p h)
    of_entry n (Some None) e p r h k = absurd (none-some p h)
    of_entry n (Some (Some q)) e p r h k =
        of_point n q p r q.reservation (ap opened e) refl
        (same_Some (record q { reservation = option_map (λ (x : Reservation). record x { is_doomed = true }) q.reservation }) p h) k

    point_entry : (n : ℕ) (o : Option (Option Point)) → slice_get w.graph.points n ≡ o → (p : Point) → opened (option_map doomed o) ≡ Some p
        → IsRightPoint w.pools p
    point_entry n None e p h = absurd (none-some p h)
    point_entry n (Some None) e p h = absurd (none-some p h)
    point_entry n (Some (Some q)) e p h =
        subst (IsRightPoint w.pools)
        (same_Some (record q { reservation = option_map (λ (x : Reservation). record x { is_doomed = true }) q.reservation }) p h)
        (s.points n q (ap opened e))

-- a reference becomes null
nulled_well : (w : World) (id cell : ℕ) → IsSoundGraph w → IsMovedWell w (with_graph w (graph_nulled w.graph id cell))
nulled_well w id cell s = of_object (object_at w.graph id) refl
  where
    of_object : (x : Option Object) → object_at w.graph id ≡ x → IsMovedWell w (with_graph w (graph_nulled w.graph id cell))
    of_object None e =
        quiet w (with_graph w (graph_nulled w.graph id cell)) s refl refl
        (ap (λ x. record w.graph {
          objects = option_map_or (λ o.
              slice_set w.graph.objects id (object_with_cells o (λ cells. with_target_cell cells cell None))) x w.graph.objects;
        }) e) refl
    of_object (Some o) e = record {
      sound =
          cells_changed w s id o (λ cells. with_target_cell cells cell None) e
          (length-with_target_cell (Rattle.mps_model.specs.Checked.cells_of_body o.body) cell None)
          (λ likes h. right_target_cell (auto w) likes (Rattle.mps_model.specs.Checked.cells_of_body o.body) cell None tt h);
      grown = record {
        formats = refl;
        pools = λ n p h. h;
        objects = Rattle.mps_laws.proofs.Sound.SoundActs.cells_alike w id (λ cells. with_target_cell cells cell None)
            (λ cells. length-with_target_cell cells cell None);
      };
    }

splatted_well : (w : World) (id cell : ℕ) → IsSoundGraph w → IsMovedWell w (after_splat w id cell)
splatted_well w id cell s =
    let first = nulled_well w id cell s in
    let both = splatted_holds (λ g. IsMovedWell w (with_graph w g)) w.graph id cell first (λ dependent.
    let second = nulled_well (with_graph w (graph_nulled w.graph id cell)) dependent cell first.sound in
    record {
      sound = second.sound;
      grown = grows_on w (with_graph w (graph_nulled w.graph id cell))
          (with_graph w (graph_nulled (graph_nulled w.graph id cell) dependent cell)) first.grown second.grown;
    }) in
    let u = with_graph w (graph_splatted w.graph id cell) in
    let q = quiet u (with_collection u splatting) both.sound refl refl refl refl in
    record { sound = q.sound; grown = grows_on w u (with_collection u splatting) both.grown q.grown }

before_it : (o : Option ℕ) (position : ℕ) → option_map (λ n. n + 1) o ≡ Some position → (n : ℕ) × (o ≡ Some n)
before_it None position e = absurd (none-some position e)
before_it (Some n) position e = (n, refl)

first_is_in : (ids : List ℕ) (id position : ℕ) → position_of_first ids id ≡ Some position → contains ids id ≡ true
first_is_in [] id position e = absurd (none-some position e)
first_is_in (x ∷ xs) id position e =
    elim (x == id) as (λ b. (if b then Some 0 else option_map (λ n. n + 1) (position_of_first xs id)) ≡ Some position
    → (b || contains xs id) ≡ true) [
      | true ↦ (λ h. refl)
      | false ↦ (λ h. let n = before_it (position_of_first xs id) position h in first_is_in xs id n.0 n.1)
    ] e

posted_well : (w : World) (id position : ℕ) → IsSoundGraph w → position_of_first w.graph.registered id ≡ Some position
    → IsMovedWell w (after_post w id)
posted_well w id position s e =
    let there = all-contains (is_live_automatic w) w.graph.registered id s.registered (first_is_in w.graph.registered id position e) in
    let u = with_graph w (graph_posted w.graph id) in
    let sound = held_written w s (graph_posted w.graph id) refl refl (inl refl) (inl refl) (inl refl)
    (inr (all-without (is_live_automatic w) w.graph.registered id s.registered))
    (inr (all-ended (auto w) w.graph.messages id s.messages (and_parts (is_live w id) (auto w id) there).1)) in
    let q = quiet u (with_collection u (posting id (registration_of w.graph id))) sound refl refl refl refl in
    record {
      sound = q.sound;
      grown = grows_on w u (with_collection u (posting id (registration_of w.graph id)))
          (grows_same w u refl refl refl) q.grown;
    }

not_true : (b : Bool) → not b ≡ true → b ≡ false
not_true true e = absurd (false≢true e)
not_true false e = refl

pub move_well : (w : World) (before : Option Move) (m : Move) (next : Option Move) → IsSoundGraph w → IsLegalMove w before m next
    → IsMovedWell w (world_after_move w m)
move_well w before (moves.Seg base grains pool generation) next s legal = segment_well w (segment_of_move base.0 grains pool generation) s
move_well w before (moves.Unseg base) next s legal = unseg_well w base.0 s
move_well w before (moves.Flip zones chain generation) next s legal = flipped_well w zones.0 chain generation s
move_well w before moves.End next s legal = quiet w (world_after_move w moves.End) s refl refl refl refl
move_well w before (moves.Moved from to) next s legal =
    let b = for_both w.collection (id_at w from.0) (λ c id. IsLegalMoved w c id to.0) legal in
    subst (λ o. IsMovedWell w (where_one w o (λ id. after_moved w id to.0))) (sym b.is_second)
    (moved_well w b.second from.0 to.0 s (id_at-found w from.0 b.second b.is_second))
move_well w before (moves.Stay at) next s legal =
    let b = for_both w.collection (id_at w at.0) (IsLegalStay w) legal in
    subst (λ o. IsMovedWell w (where_one w o (λ id. with_collection w (placing id)))) (sym b.is_second)
    (quiet w (with_collection w (placing b.second)) s refl refl refl refl)
move_well w before (moves.Splat holder cell) next s legal =
    let b = for_both w.collection (id_at w holder.0) (λ c id. IsLegalSplat w c id cell) legal in
    subst (λ o. IsMovedWell w (where_one w o (λ id. after_splat w id cell))) (sym b.is_second) (splatted_well w b.second cell s)
move_well w before (moves.Post at) next s legal =
    let b = for_both w.collection (id_at w at.0) (λ c id. IsLegalPost w c before id at.0) legal in
    let p = for_one _ (position_of_first w.graph.registered b.second) b.holds.registered in
    subst (λ o. IsMovedWell w (where_one w o (after_post w))) (sym b.is_second) (posted_well w b.second p.0 s p.1)
move_well w before (moves.Commit at words pool) next s legal = absurd legal
move_well w before (moves.Alloc at words pool) next s legal = absurd legal
move_well w before (moves.Free at) next s legal =
    let b = for_both w.collection (id_at w at.0) (IsLegalSweep w) legal in
    subst (λ o. IsMovedWell w (where_one w o (λ id. after_free w id at.0))) (sym b.is_second)
    (freed_well w b.second at.0 s (not_true (contains w.graph.registered b.second) b.holds.not_registered))

pub moves_well : (w : World) (before : Option Move) (ms : List Move) → IsSoundGraph w → AreLegalMoves w before ms
    → IsMovedWell w (world_after_moves w ms)
moves_well w before [] s legal = record { sound = s; grown = grows_same w w refl refl refl }
moves_well w before (m ∷ ms) s legal =
    let one = move_well w before m (first_move ms) s legal.0 in
    let rest = moves_well (world_after_move w m) (Some m) ms one.sound legal.1 in
    record {
      sound = rest.sound;
      grown = grows_on w (world_after_move w m)
          (world_after_moves (world_after_move w m) ms) one.grown rest.grown;
    }
