-- Where a reservation stands, and what the moves of a step leave of it.
use Rattle.std.proofs.Common.{◌≡◌, ℕ, Bool, true, false, refl, sym, ◌∙◌, ap, subst, List, [], ◌∷◌, map, Option, Some, None, Ok, Err}
use Rattle.std.proofs.lemmas.Option.{none-some, same_Some}
use Rattle.std.specs.Prelude.{if◌then◌else◌, zero, suc, filter, ◌||◌, option_and_then, option_map}
use Rattle.std.specs.List.{list_any}
use Rattle.mps_base.specs.Segment.{Segment, words_of_segment}
use Rattle.mps_base.specs.declared.moves.Move.{Move}
use Rattle.mps_base.specs.declared.moves.Move.TheVariants as moves
use Rattle.mps_base.specs.declared.names.Name.{Name}
use Rattle.mps_model.specs.declared.call.Call.{Call}
use Rattle.mps_model.specs.declared.call.Call.TheVariants as call
use Rattle.mps_model.specs.Graph.{Graph, Point, Reservation, Thing, ChainThing, PoolThing, TableThing, AreaThing, BlocksThing, PointThing, DependencyThing, TransformThing, CacheThing, LabelThing, entry_at, is_automatic, thing_in}
use Rattle.mps_model.specs.World.{World, empty_world, id_at, is_copying_pool, object_is, with_tail}
use Rattle.mps_model.specs.Checked.{Checked, Numbered, as_point, number_named, point_named}
use Rattle.mps_model.specs.Effect.{doomed, holding, reclaiming, segment_base_of, segment_of_move, where_one, with_collection, without_object, world_after_move, world_after_moves}
use Rattle.mps_model.specs.Policy.{units_asked}
use Rattle.mps_model.specs.History.{after_its_moves, after_own_segment, asking, judged_world, moved_world, moves_of_poll, own_segment, is_segment_taken, last_move}
use Rattle.mps_changes.proofs.Checks.{point_named-is}
use Rattle.mps_laws.specs.Staying.{is_flip}
use Rattle.mps_laws.proofs.OwnSegments.{own_segment_taken}
use Rattle.mps_laws.proofs.Replays.ReserveSteps.{poll_then_own}
use Rattle.std.proofs.lemmas.List.Folds.{list_any-append}
use Rattle.mps_client_laws.specs.Reservations.{reservation_found, reservation_of}
use Rattle.mps_client_laws.proofs.WritesOfMoves.{move_leaves_objects}

-- a world of this graph
abbrev pub of_graph : Graph → World
of_graph g = record empty_world { graph = g }

-- ---- where a reservation stands

-- the point of this name has this reservation
pub record HasReservation (point : Name) (n : ℕ) (g : Graph) (r : Reservation) : Type 0 where
  pub named : thing_in g.names point ≡ Some (PointThing n)
  pub value : Point
  pub there : entry_at g.points n ≡ Some value
  pub has : value.reservation ≡ Some r

-- the reservation of the point of this name and number
pub reservation_is : (w : World) (point : Name) (n : ℕ) (p : Point) → number_named w point as_point ≡ Some n
    → entry_at w.graph.points n ≡ Some p → reservation_of w point ≡ p.reservation
reservation_is w point n p named there = rw (named, there) refl

pub held_is : (w : World) (point : Name) (n : ℕ) (r : Reservation) → HasReservation point n w.graph r → reservation_of w point ≡ Some r
held_is w point n r h = reservation_is w point n h.value (ap (option_and_then as_point) h.named) h.there ∙ h.has

-- what is a point of this number
point_thing : (o : Option Thing) (n : ℕ) → option_and_then as_point o ≡ Some n → o ≡ Some (PointThing n)
point_thing None n e = absurd (none-some n e)
point_thing (Some (PointThing m)) n e = ap (λ k. Some (PointThing k)) (same_Some m n e)
point_thing (Some (ChainThing m)) n e = absurd (none-some n e)
point_thing (Some (PoolThing m)) n e = absurd (none-some n e)
point_thing (Some (TableThing m)) n e = absurd (none-some n e)
point_thing (Some (AreaThing m)) n e = absurd (none-some n e)
point_thing (Some (BlocksThing m)) n e = absurd (none-some n e)
point_thing (Some (DependencyThing m)) n e = absurd (none-some n e)
point_thing (Some (TransformThing m)) n e = absurd (none-some n e)
point_thing (Some (CacheThing m)) n e = absurd (none-some n e)
point_thing (Some (LabelThing m)) n e = absurd (none-some n e)

pub held : (w : World) (point : Name) (r : Reservation) → reservation_of w point ≡ Some r → (n : ℕ) × HasReservation point n w.graph r
held w point r e = by_point (point_named w point) refl e
  where
    by_point : (x : Checked (Numbered Point)) → point_named w point ≡ x → reservation_found x ≡ Some r
        → (n : ℕ) × HasReservation point n w.graph r
    by_point (Err why) f e = absurd (none-some r e)
    by_point (Ok p) f e =
        let is = point_named-is w point p f in
        (p.number, record { named = point_thing (thing_in w.graph.names point) p.number is.0; value = p.value; there = is.1; has = e })

-- ---- what it becomes

-- a reservation that came of another: it has its head, is doomed if that was or it was ended, and keeps the cells of a doomed one
pub record Follows (before now : Reservation) (ended : Bool) : Type 0 where
  pub same_head : now.head ≡ before.head
  pub doomed : now.is_doomed ≡ (before.is_doomed || ended)
  pub same_cells : before.is_doomed ≡ true → now.cells ≡ before.cells

pub or_false : (a : Bool) → a ≡ (a || false)
or_false true = refl
or_false false = refl

or_true : (a : Bool) → true ≡ (a || true)
or_true true = refl
or_true false = refl

or_later : (a b c : Bool) → ((a || b) || c) ≡ (a || (b || c))
or_later true b c = refl
or_later false b c = refl

follows_then : (r s t : Reservation) (a b : Bool) → Follows r s a → Follows s t b → Follows r t (a || b)
follows_then r s t a b first second = record {
  same_head = second.same_head ∙ first.same_head;
  doomed = second.doomed ∙ ap (λ d. d || b) first.doomed ∙ or_later r.is_doomed a b;
  same_cells = λ was. second.same_cells (first.doomed ∙ ap (λ d. d || a) was) ∙ first.same_cells was;
}

module _ (point : Name) (n : ℕ) where
  abbrev Has : Graph → Reservation → Type 0
  Has g r = HasReservation point n g r

  -- the point has a reservation that came of this one
  pub record Later (g : Graph) (before : Reservation) (ended : Bool) : Type 0 where
    pub now : Reservation
    pub holds : Has g now
    pub follows : Follows before now ended

  pub stays : (g : Graph) (r : Reservation) → Has g r → Later g r false
  stays g r h = record {
    now = r;
    holds = h;
    follows = record { same_head = refl; doomed = or_false r.is_doomed; same_cells = λ was. refl };
  }

  pub stands : (before after : Graph) (r : Reservation) → after.names ≡ before.names → after.points ≡ before.points → Has before r
      → Has after r
  stands before after r names points h = record {
    named = ap (λ ns. thing_in ns point) names ∙ h.named;
    value = h.value;
    there = ap (λ ps. entry_at ps n) points ∙ h.there;
    has = h.has;
  }

  -- what came of it, and then what came of that
  pub then_later : (g v : Graph) (r : Reservation) (a b : Bool) → Later g r a → ((now : Reservation) → Has g now → Later v now b)
      → Later v r (a || b)
  then_later g v r a b first next =
      let second = next first.now first.holds in
      record {
        now = second.now;
        holds = second.holds;
        follows = follows_then r first.now second.now a b first.follows second.follows;
      }

  -- ---- moves

  doomed_entry : (ps : List (Option Point)) (k : ℕ) (p : Point) → entry_at ps k ≡ Some p → entry_at (map doomed ps) k ≡ doomed (Some p)
  doomed_entry [] k p e = absurd (none-some p e)
  doomed_entry (q ∷ qs) zero p e = ap doomed e
  doomed_entry (q ∷ qs) (suc k) p e = doomed_entry qs k p e

  -- every open reservation is doomed
  flipped : (before after : Graph) (r : Reservation) → after.names ≡ before.names → after.points ≡ map doomed before.points
      → Has before r → Later after r true
  flipped before after r names points h = record {
    now = record r { is_doomed = true };
    holds = record {
      named = ap (λ ns. thing_in ns point) names ∙ h.named;
      value = record h.value { reservation = option_map (λ (x : Reservation). record x { is_doomed = true }) h.value.reservation };
      there = ap (λ ps. entry_at ps n) points ∙ doomed_entry before.points n h.value h.there;
      has = ap (option_map (λ (x : Reservation). record x { is_doomed = true })) h.has;
    };
    follows = record { same_head = refl; doomed = or_true r.is_doomed; same_cells = λ was. refl };
  }

  one_leaves : (w : World) (found : Option ℕ) (change : ℕ → World) → ((id : ℕ) → (change id).graph.points ≡ w.graph.points)
      → (where_one w found change).graph.points ≡ w.graph.points
  one_leaves w None change leaves = refl
  one_leaves w (Some id) change leaves = leaves id

  segment_leaves : (w : World) (s : Segment) (b : Bool)
      → (if b then with_tail (holding w s) s.pool s.generation (words_of_segment s) else holding w s).graph.points ≡ w.graph.points
  segment_leaves w s true = refl
  segment_leaves w s false = refl

  free_leaves : (w : World) (id at : ℕ) (b : Bool)
      → (if b then with_collection (without_object w id) (reclaiming (segment_base_of w at)) else without_object w id).graph.points
      ≡ w.graph.points
  free_leaves w id at true = refl
  free_leaves w id at false = refl

  module _ (w : World) (r : Reservation) (h : Has w.graph r) where
    unmoved : (m : Move) → (world_after_move w m).graph.points ≡ w.graph.points → Later (world_after_move w m).graph r false
    unmoved m points =
        stays (world_after_move w m).graph r
        (stands w.graph (world_after_move w m).graph r (move_leaves_objects w m).names points h)

    move_later : (m : Move) → Later (world_after_move w m).graph r (is_flip m)
    move_later (moves.Flip zones chain generation) =
        flipped w.graph (world_after_move w (moves.Flip zones chain generation)).graph r refl refl h
    move_later (moves.Seg base grains pool generation) =
        let s = segment_of_move base.0 grains pool generation in
        unmoved (moves.Seg base grains pool generation) (segment_leaves w s (is_copying_pool w s.pool))
    move_later (moves.Unseg base) = unmoved (moves.Unseg base) refl
    move_later moves.End = unmoved moves.End refl
    move_later (moves.Moved from to) = unmoved (moves.Moved from to) (one_leaves w (id_at w from.0) _ (λ id. refl))
    move_later (moves.Stay at) = unmoved (moves.Stay at) (one_leaves w (id_at w at.0) _ (λ id. refl))
    move_later (moves.Splat holder cell) = unmoved (moves.Splat holder cell) (one_leaves w (id_at w holder.0) _ (λ id. refl))
    move_later (moves.Post at) = unmoved (moves.Post at) (one_leaves w (id_at w at.0) _ (λ id. refl))
    move_later (moves.Commit at words pool) = unmoved (moves.Commit at words pool) refl
    move_later (moves.Alloc at words pool) = unmoved (moves.Alloc at words pool) refl
    move_later (moves.Free at) =
        unmoved (moves.Free at) (one_leaves w (id_at w at.0) _ (λ id. free_leaves w id at.0 (object_is is_automatic w id)))

  moves_later : (w : World) (ms : List Move) (r : Reservation) → Has w.graph r
      → Later (world_after_moves w ms).graph r (list_any is_flip ms)
  moves_later w [] r h = stays w.graph r h
  moves_later w (m ∷ ms) r h =
      then_later (world_after_move w m).graph (world_after_moves (world_after_move w m) ms).graph r (is_flip m) (list_any is_flip ms)
      (move_later w r h m) (moves_later (world_after_move w m) ms)

-- ---- the moves of a call

segments_flip_not : (ms : List Move) → list_any is_flip (filter is_segment_taken ms) ≡ false
segments_flip_not [] = refl
segments_flip_not (moves.Seg base grains pool generation ∷ ms) = segments_flip_not ms
segments_flip_not (_ ∷ ms) = segments_flip_not ms

-- the own segment of a `reserve` is no flip
poll_flips : (ms : List Move) → list_any is_flip (moves_of_poll ms) ≡ list_any is_flip ms
poll_flips ms =
    or_false (list_any is_flip (moves_of_poll ms))
    ∙ ap (λ b. list_any is_flip (moves_of_poll ms) || b) (sym (segments_flip_not (last_move ms)))
    ∙ sym (list_any-append is_flip (moves_of_poll ms) (own_segment ms))
    ∙ ap (list_any is_flip) (poll_then_own ms)

own_segment_graph : (w : World) (ms : List Move) (point : Option ℕ) → (after_own_segment w ms point).graph ≡ w.graph
own_segment_graph w ms point =
    own_segment_taken (λ (v : World). v.graph ≡ w.graph) w refl (λ s. refl) (λ s k words. refl) ms point

asking_graph : (asked : Option ℕ) (w : World) → (asking asked w).graph ≡ w.graph
asking_graph None w = refl
asking_graph (Some units) w = refl

-- a `reserve` takes effect in a world with the graph in which it was judged
pub judged_graph : (w : World) (c : Call) (ms : List Move) (name : Name) (head : ℕ) → c ≡ call.Reserve name head
    → (judged_world w c ms).graph ≡ (moved_world w c ms).graph
judged_graph w c ms name head is =
    subst (λ d. (judged_world w d ms).graph ≡ (moved_world w d ms).graph) (sym is)
    (sym (asking_graph (units_asked w (call.Reserve name head)) (after_its_moves w (call.Reserve name head) ms)
    ∙ own_segment_graph (world_after_moves w (moves_of_poll ms)) (own_segment ms) (number_named w name as_point)))

module _ (point : Name) (n : ℕ) (w : World) (ms : List Move) (r : Reservation) (h : HasReservation point n w.graph r) where
  its_moves_later : (c : Call) → Later point n (after_its_moves w c ms).graph r (list_any is_flip ms)
  its_moves_later (call.Reserve name head) =
      subst (λ (g : Graph). Later point n g r (list_any is_flip ms))
      (sym (own_segment_graph (world_after_moves w (moves_of_poll ms)) (own_segment ms) (number_named w name as_point)))
      (subst (Later point n (world_after_moves w (moves_of_poll ms)).graph r) (poll_flips ms)
      (moves_later point n w (moves_of_poll ms) r h))
  its_moves_later _ = moves_later point n w ms r h

  pub moved_later : (c : Call) → Later point n (moved_world w c ms).graph r (list_any is_flip ms)
  moved_later c =
      subst (λ (g : Graph). Later point n g r (list_any is_flip ms)) (sym (asking_graph (units_asked w c) (after_its_moves w c ms)))
      (its_moves_later c)
