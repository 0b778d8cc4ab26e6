-- What can be reached before a `collect` is live after it, with its cells.
use Rattle.std.proofs.Common.{◌≡◌, inl, inr, ℕ, zero, suc, Bool, true, false, refl, sym, ◌∙◌, ap, subst, List, [], ◌∷◌, ◌++◌, map, Option, Some, None}
use Rattle.std.proofs.lemmas.Bool.{true≢false, and_from, eq-eqb, eqb-true, or_left, or_right, or_parts, or_from}
use Rattle.std.proofs.lemmas.List.Folds.{list_any-append}
use Rattle.std.proofs.lemmas.Option.{none-some, same_Some, slice_get-map}
use Rattle.std.specs.Prelude.{IsTrue, not, ◌&&◌, ◌||◌, ◌==◌, if◌then◌else◌, filter, option_and_then, option_map, slice_get}
use Rattle.std.specs.Option.{option_map_or}
use Rattle.std.specs.List.{list_all, list_any, flat_map}
use Rattle.mps_base.specs.Segment.{Segment, words_of_segment}
use Rattle.mps_base.specs.declared.moves.Move.{Move}
use Rattle.mps_base.specs.declared.moves.Move.TheVariants as moves
use Rattle.mps_model.proofs.Appending.{IsLegalFrom-later}
use Rattle.mps_model.proofs.Reaching.{PathLeads-holds, list_all-contains}
use Rattle.mps_model.specs.declared.call.Call.TheVariants as call
use Rattle.mps_model.specs.Step.{Step}
use Rattle.mps_model.specs.Graph.{Graph, Object, Body, Automatic, Manual, Cell, contains, dependent_in, entries, object_at, is_automatic, is_reference_cell, is_weak_object, target_of_cell, targets, targets_of, targets_of_body, targets_of_cells, strong_targets, strong_targets_of, ids_in_slots, ids_in_holds, ids_in_reservations, ids_of_client}
use Rattle.mps_model.specs.Collection.{Collection}
use Rattle.mps_model.specs.World.{World, Parked, empty_world_of, id_at, is_copying_pool, is_live, is_running, live_ids, object_is, with_tail}
use Rattle.mps_model.specs.Checked.{cells_of_body}
use Rattle.mps_model.specs.Collecting.{with_state}
use Rattle.mps_model.specs.Effect.{where_one, world_after_move, world_after_moves, holding, segment_of_move, without_object, with_collection, reclaiming, segment_base_of}
use Rattle.mps_model.specs.LegalMove.{AreLegalMoves, ForOne, IsLegalMove, IsLegalSplat, first_move}
use Rattle.mps_model.specs.History.{IsLegalStep, AreMovesOf, HeldAreLive, moves_of_collector, with_client_remembered, world_after, world_after_call}
use Rattle.mps_laws.specs.Replay.{reached}
use Rattle.mps_laws.proofs.Reading.{contains-append_left, contains-append_right, held_is_live}
use Rattle.mps_laws.proofs.Sound.Referred.{of_live}
use Rattle.mps_client_laws.specs.Objects.{Identity, identity_of, identity_at, cell_at, cells_nulled, cells_splatted, is_cell, reference_cell_of, moves_leave_cell}
use Rattle.mps_client_laws.specs.Collecting.{held_ids, is_dependent, lasting_targets, CollectLeavesWhatIsReached}
use Rattle.mps_client_laws.proofs.Contained.{either_or}
use Rattle.mps_client_laws.proofs.WritesOfMoves.{move_leaves_objects, moves_leave_objects}
use Rattle.mps_laws.proofs.Parked.{collect_ends, remembered_runs}

-- ---- what moves leave of roots

-- slots and areas are as before, no message is taken, and no object becomes a dependent
pub record LeavesRoots (before after : Graph) : Type 0 where
  pub tables : after.tables ≡ before.tables
  pub areas : after.areas ≡ before.areas
  pub messages : (id : ℕ) → contains before.messages id ≡ true → contains after.messages id ≡ true
  pub dependents : (id : ℕ) → is_dependent before id ≡ false → is_dependent after id ≡ false

roots_left : (before after : Graph) → after.tables ≡ before.tables → after.areas ≡ before.areas → after.messages ≡ before.messages
    → ((id : ℕ) → is_dependent before id ≡ false → is_dependent after id ≡ false) → LeavesRoots before after
roots_left before after tables areas messages dependents =
    record {
      tables = tables;
      areas = areas;
      messages = λ id h. subst (λ ms. contains ms id ≡ true) (sym messages) h;
      dependents = dependents;
    }

-- an object that is no dependent in some pairs is none in those of them that pass a test
no_dependent_of_some : (test : ℕ × ℕ → Bool) (ps : List (ℕ × ℕ)) (id : ℕ) → list_any (λ (p : ℕ × ℕ). p.1 == id) ps ≡ false
    → list_any (λ (p : ℕ × ℕ). p.1 == id) (filter test ps) ≡ false
no_dependent_of_some test [] id none = refl
no_dependent_of_some test (p ∷ ps) id none =
    let parts = or_parts (p.1 == id) (list_any (λ (p : ℕ × ℕ). p.1 == id) ps) none in
    by_test (test p) parts.0 (no_dependent_of_some test ps id parts.1)
  where
    by_test : (b : Bool) → (p.1 == id) ≡ false → list_any (λ (p : ℕ × ℕ). p.1 == id) (filter test ps) ≡ false
        → list_any (λ (p : ℕ × ℕ). p.1 == id) (if b then p ∷ filter test ps else filter test ps) ≡ false
    by_test true other rest = or_from (p.1 == id) (list_any (λ (p : ℕ × ℕ). p.1 == id) (filter test ps)) other rest
    by_test false other rest = rest

module _ (w : World) where
  where_one_roots : (found : Option ℕ) (change : ℕ → World) → ((id : ℕ) → LeavesRoots w.graph (change id).graph)
      → LeavesRoots w.graph (where_one w found change).graph
  where_one_roots None change leaves = roots_left w.graph w.graph refl refl refl (λ id h. h)
  where_one_roots (Some id) change leaves = leaves id

  same_roots : LeavesRoots w.graph w.graph
  same_roots = roots_left w.graph w.graph refl refl refl (λ id h. h)

  segment_roots : (s : Segment) (b : Bool)
      → LeavesRoots w.graph (if b then with_tail (holding w s) s.pool s.generation (words_of_segment s) else holding w s).graph
  segment_roots s true = same_roots
  segment_roots s false = same_roots

  free_roots : (id at : ℕ) (b : Bool)
      → LeavesRoots w.graph (if b then with_collection (without_object w id) (reclaiming (segment_base_of w at)) else
      without_object w id).graph
  free_roots id at true = roots_left w.graph _ refl refl refl (no_dependent_of_some _ w.graph.dependents)
  free_roots id at false = roots_left w.graph _ refl refl refl (no_dependent_of_some _ w.graph.dependents)

  pub move_roots : (m : Move) → LeavesRoots w.graph (world_after_move w m).graph
  move_roots (moves.Seg base grains pool generation) =
      let s = segment_of_move base.0 grains pool generation in segment_roots s (is_copying_pool w s.pool)
  move_roots (moves.Unseg base) = same_roots
  move_roots (moves.Flip zones chain generation) = roots_left w.graph _ refl refl refl (λ id h. h)
  move_roots moves.End = same_roots
  move_roots (moves.Moved from to) = where_one_roots (id_at w from.0) _ (λ id. same_roots)
  move_roots (moves.Stay at) = where_one_roots (id_at w at.0) _ (λ id. same_roots)
  move_roots (moves.Splat holder cell) = where_one_roots (id_at w holder.0) _ (λ id. roots_left w.graph _ refl refl refl (λ other h. h))
  move_roots (moves.Post at) =
      where_one_roots (id_at w at.0) _ (λ id. record {
        tables = refl;
        areas = refl;
        messages = λ other h. contains-append_left w.graph.messages (id ∷ []) other h;
        dependents = λ other h. h;
      })
  move_roots (moves.Commit at words pool) = same_roots
  move_roots (moves.Alloc at words pool) = same_roots
  move_roots (moves.Free at) = where_one_roots (id_at w at.0) _ (λ id. free_roots id at.0 (object_is is_automatic w id))

pub moves_roots : (w : World) (ms : List Move) → LeavesRoots w.graph (world_after_moves w ms).graph
moves_roots w [] = roots_left w.graph w.graph refl refl refl (λ id h. h)
moves_roots w (m ∷ ms) =
    let first = move_roots w m in
    let rest = moves_roots (world_after_move w m) ms in
    record {
      tables = rest.tables ∙ first.tables;
      areas = rest.areas ∙ first.areas;
      messages = λ id h. rest.messages id (first.messages id h);
      dependents = λ id h. rest.dependents id (first.dependents id h);
    }

-- what is in slots, area words and messages is held by the client afterwards
pub still_held : (before after : Graph) → LeavesRoots before after → (id : ℕ) → contains (held_ids before) id ≡ true
    → contains (ids_of_client after) id ≡ true
still_held before after left id h =
    contains-append_left (held_ids after) (ids_in_reservations after) id
    (elim (either_or (ids_in_slots before ++ ids_in_holds before) before.messages id h) [
      | inl roots ↦ contains-append_left (ids_in_slots after ++ ids_in_holds after) after.messages id
          (subst (λ ids. contains ids id ≡ true) (sym same) roots)
      | inr message ↦ contains-append_right (ids_in_slots after ++ ids_in_holds after) after.messages id (left.messages id message)
    ])
  where
    same : ids_in_slots after ++ ids_in_holds after ≡ ids_in_slots before ++ ids_in_holds before
    same =
        ap (λ ts. ids_in_slots (record after { tables = ts }) ++ ids_in_holds after) left.tables
        ∙ ap (λ areas. ids_in_slots before ++ ids_in_holds (record after { areas = areas })) left.areas

-- ---- objects that are neither weak nor dependents

abbrev weak_in : Option Identity → Bool
weak_in is = option_map_or (λ (i : Identity). i.is_weak) is false

weak_by_identity : (o : Option Object) → option_map_or is_weak_object o false ≡ weak_in (option_map identity_of o)
weak_by_identity None = refl
weak_by_identity (Some o) = refl

-- a reference of another object
other_reference : (g : Graph) (other id k cell : ℕ) → (other == id) ≡ false
    → list_any (is_cell id k) (reference_cell_of g other cell) ≡ false
other_reference g other id k cell differs = by_case (option_map_or is_reference_cell (cell_at g other cell) false)
  where
    by_case : (b : Bool) → list_any (is_cell id k) (if b then (other, cell) ∷ [] else []) ≡ false
    by_case true = ap (λ b. (b && (cell == k)) || false) differs
    by_case false = refl

-- the dependent of a holder is none that no holder has
other_dependent : (g : Graph) (ps : List (ℕ × ℕ)) (holder id k cell : ℕ) → list_any (λ (p : ℕ × ℕ). p.1 == id) ps ≡ false
    → list_any (is_cell id k) (option_map_or (λ dependent. reference_cell_of g dependent cell) (dependent_in ps holder) []) ≡ false
other_dependent g [] holder id k cell none = refl
other_dependent g (p ∷ ps) holder id k cell none =
    let parts = or_parts (p.1 == id) (list_any (λ (p : ℕ × ℕ). p.1 == id) ps) none in
    by_holder (p.0 == holder) parts.0 (other_dependent g ps holder id k cell parts.1)
  where
    nulled : Option ℕ → Bool
    nulled o = list_any (is_cell id k) (option_map_or (λ dependent. reference_cell_of g dependent cell) o [])

    by_holder : (b : Bool) → (p.1 == id) ≡ false → nulled (dependent_in ps holder) ≡ false
        → nulled (if b then Some p.1 else dependent_in ps holder) ≡ false
    by_holder true other rest = other_reference g p.1 id k cell other
    by_holder false other rest = rest

none_in_both : (test : ℕ × ℕ → Bool) (xs ys : List (ℕ × ℕ)) → list_any test xs ≡ false → list_any test ys ≡ false
    → list_any test (xs ++ ys) ≡ false
none_in_both test xs ys first second =
    list_any-append test xs ys ∙ or_from (list_any test xs) (list_any test ys) first second

-- a splat is of a weak object and its dependent, so it makes no cell of another null
splat_leaves_lasting : (w : World) (id k cell : ℕ) (c : Option Collection) (found : Option ℕ) → object_is is_weak_object w id ≡ false
    → is_dependent w.graph id ≡ false → ForOne c (λ c. ForOne found (λ holder. IsLegalSplat w c holder cell))
    → not (list_any (is_cell id k) (option_map_or (λ holder. cells_splatted w.graph holder cell) found [])) ≡ true
splat_leaves_lasting w id k cell None found strong free legal = absurd legal
splat_leaves_lasting w id k cell (Some c) None strong free legal = absurd legal
splat_leaves_lasting w id k cell (Some c) (Some holder) strong free legal = by_holder (holder == id) refl
  where
    by_holder : (b : Bool) → (holder == id) ≡ b → not (list_any (is_cell id k) (cells_splatted w.graph holder cell)) ≡ true
    by_holder true e =
        absurd (true≢false (sym legal.weak ∙ ap (object_is is_weak_object w) (eqb-true holder id e) ∙ strong))
    by_holder false e =
        ap not (none_in_both (is_cell id k) (reference_cell_of w.graph holder cell) _ (other_reference w.graph holder id k cell e)
        (other_dependent w.graph w.graph.dependents holder id k cell free))

legal_move_leaves_lasting : (w : World) (before : Option Move) (m : Move) (next : Option Move) (id k : ℕ)
    → object_is is_weak_object w id ≡ false → is_dependent w.graph id ≡ false → IsLegalMove w before m next
    → not (list_any (is_cell id k) (cells_nulled w m)) ≡ true
legal_move_leaves_lasting w before (moves.Splat holder cell) next id k strong free legal =
    splat_leaves_lasting w id k cell w.collection (id_at w holder.0) strong free legal
legal_move_leaves_lasting w before _ next id k strong free legal = refl

pub legal_moves_leave_lasting : (w : World) (before : Option Move) (ms : List Move) (id k : ℕ) → object_is is_weak_object w id ≡ false
    → is_dependent w.graph id ≡ false → AreLegalMoves w before ms → moves_leave_cell w ms id k ≡ true
legal_moves_leave_lasting w before [] id k strong free legal = refl
legal_moves_leave_lasting w before (m ∷ ms) id k strong free legal =
    and_from (not (list_any (is_cell id k) (cells_nulled w m))) (moves_leave_cell (world_after_move w m) ms id k)
    (legal_move_leaves_lasting w before m (first_move ms) id k strong free legal.0)
    (legal_moves_leave_lasting (world_after_move w m) (Some m) ms id k still ((move_roots w m).dependents id free) legal.1)
  where
    same_identity : identity_at (world_after_move w m).graph id ≡ identity_at w.graph id
    same_identity =
        sym (slice_get-map identity_of (world_after_move w m).graph.objects id)
        ∙ ap (λ is. slice_get is id) (move_leaves_objects w m).identities
        ∙ slice_get-map identity_of w.graph.objects id

    still : object_is is_weak_object (world_after_move w m) id ≡ false
    still =
        weak_by_identity (object_at (world_after_move w m).graph id) ∙ ap weak_in same_identity
        ∙ sym (weak_by_identity (object_at w.graph id)) ∙ strong

-- ---- targets

-- the cell of a target
found_target : (cells : List Cell) (to : ℕ) → contains (targets_of_cells cells) to ≡ true
    → (k : ℕ) × (c : Cell) × (slice_get cells k ≡ Some c) × (target_of_cell c ≡ Some to)
found_target [] to h = absurd (true≢false (sym h))
found_target (c ∷ cs) to h = by_target (found_target cs to) (target_of_cell c) refl h
  where
    later : (k : ℕ) × (d : Cell) × (slice_get cs k ≡ Some d) × (target_of_cell d ≡ Some to)
        → (k : ℕ) × (d : Cell) × (slice_get (c ∷ cs) k ≡ Some d) × (target_of_cell d ≡ Some to)
    later found = (suc found.0, found.1, found.2, found.3)

    by_equal : (contains (targets_of_cells cs) to ≡ true → (k : ℕ) × (d : Cell) × (slice_get cs k ≡ Some d) × (target_of_cell d ≡ Some to))
        → (n : ℕ) → target_of_cell c ≡ Some n → (b : Bool) → (n == to) ≡ b → (b || contains (targets_of_cells cs) to) ≡ true
        → (k : ℕ) × (d : Cell) × (slice_get (c ∷ cs) k ≡ Some d) × (target_of_cell d ≡ Some to)
    by_equal rest n e true same h = (zero, c, refl, e ∙ ap Some (eqb-true n to same))
    by_equal rest n e false same h = later (rest h)

    by_target : (contains (targets_of_cells cs) to ≡ true → (k : ℕ) × (d : Cell) × (slice_get cs k ≡ Some d) × (target_of_cell d ≡ Some to))
        → (t : Option ℕ) → target_of_cell c ≡ t → contains (entries (t ∷ map target_of_cell cs)) to ≡ true
        → (k : ℕ) × (d : Cell) × (slice_get (c ∷ cs) k ≡ Some d) × (target_of_cell d ≡ Some to)
    by_target rest None e h = later (rest h)
    by_target rest (Some n) e h = by_equal rest n e (n == to) refl h

target_is_among : (cells : List Cell) (k : ℕ) (c : Cell) (to : ℕ) → slice_get cells k ≡ Some c → target_of_cell c ≡ Some to
    → contains (targets_of_cells cells) to ≡ true
target_is_among [] k c to there e = absurd (none-some c there)
target_is_among (d ∷ ds) zero c to there e =
    subst (λ t. contains (entries (t ∷ map target_of_cell ds)) to ≡ true) (sym (ap target_of_cell (same_Some d c there) ∙ e))
    (or_left (to == to) (contains (targets_of_cells ds) to) (eq-eqb to to refl))
target_is_among (d ∷ ds) (suc k) c to there e = by_first (target_of_cell d) (target_is_among ds k c to there e)
  where
    by_first : (t : Option ℕ) → contains (targets_of_cells ds) to ≡ true → contains (entries (t ∷ map target_of_cell ds)) to ≡ true
    by_first None h = h
    by_first (Some n) h = or_right (n == to) (contains (targets_of_cells ds) to) h

-- a target of an object that isn't weak is one afterwards, if the cells of such objects are as before
targets_kept : (before after : Graph) (from to : ℕ)
    → ((k : ℕ) (c : Cell) → option_map_or is_weak_object (object_at before from) false ≡ false → cell_at before from k ≡ Some c
    → cell_at after from k ≡ Some c)
    → contains (strong_targets before from) to ≡ true → contains (targets after from) to ≡ true
targets_kept before after from to keeps h = by_object (object_at before from) refl h
  where
    afterwards : (k : ℕ) (c : Cell) → target_of_cell c ≡ Some to → (o : Option Object)
        → option_and_then (λ (x : Object). slice_get (cells_of_body x.body) k) o ≡ Some c
        → contains (option_map_or targets_of o []) to ≡ true
    afterwards k c e None there = absurd (none-some c there)
    afterwards k c e (Some x) there = in_body x.body there
      where
        in_body : (b : Body) → slice_get (cells_of_body b) k ≡ Some c
            → contains (targets_of_body b) to ≡ true
        in_body (Automatic head cells is_weak) there = target_is_among cells k c to there e
        in_body (Manual words) there = absurd (none-some c there)

    by_weak : (x : Object) → object_at before from ≡ Some x → (b : Bool) → is_weak_object x ≡ b
        → contains (if b then [] else targets_of x) to ≡ true → contains (targets after from) to ≡ true
    by_weak x there true weak h = absurd (true≢false (sym h))
    by_weak x there false weak h = in_body x.body refl h
      where
        in_body : (b : Body) → x.body ≡ b → contains (targets_of_body b) to ≡ true
            → contains (targets after from) to ≡ true
        in_body (Automatic head cells is_weak) e h =
            let found = found_target cells to h in
            afterwards found.0 found.1 found.3 (object_at after from)
            (keeps found.0 found.1 (ap (λ o. option_map_or is_weak_object o false) there ∙ weak)
            (ap (option_and_then (λ (o : Object). slice_get (cells_of_body o.body) found.0)) there
            ∙ ap (λ b. slice_get (cells_of_body b) found.0) e ∙ found.2))
        in_body (Manual words) e h = absurd (true≢false (sym h))

    by_object : (o : Option Object) → object_at before from ≡ o → contains (option_map_or strong_targets_of o []) to ≡ true
        → contains (targets after from) to ≡ true
    by_object None there h = absurd (true≢false (sym h))
    by_object (Some x) there h = by_weak x there (is_weak_object x) refl h

-- ---- the end of a `collect`

module _ (w : World) (s : Step) (legal : IsLegalStep w s) (is : s.call ≡ call.Collect) where
  abbrev moved : World
  moved = world_after_moves w s.moves

  pub after_is : world_after w s ≡ with_client_remembered (with_state moved (Parked []))
  after_is = ap (λ c. world_after_call w c s.moves s.answer) is

  pub after_graph : (world_after w s).graph ≡ moved.graph
  after_graph = ap (λ (u : World). u.graph) after_is

  at_rest : is_running (world_after w s) ≡ false
  at_rest =
      ap is_running after_is ∙ remembered_runs (ids_of_client moved.graph) moved.collection
      ∙ collect_ends w s.moves (subst (λ c. AreMovesOf w c s.answer s.moves) is legal.moves_are_due)

  held : HeldAreLive (world_after w s)
  held = legal.held_are_live

  lasting_cells : (id k : ℕ) (cell : Cell) → object_is is_weak_object w id ≡ false → is_dependent w.graph id ≡ false
      → cell_at w.graph id k ≡ Some cell → cell_at (world_after w s).graph id k ≡ Some cell
  lasting_cells id k cell strong free there =
      ap (λ g. cell_at g id k) after_graph
      ∙ (moves_leave_objects w s.moves).cells id k cell
      (legal_moves_leave_lasting w None s.moves id k strong free
      (subst (λ c. AreLegalMoves w None (moves_of_collector c s.moves)) is legal.moves_are_legal))
      there

  all_referred : list_all (is_live (world_after w s)) (flat_map (targets (world_after w s).graph) (live_ids (world_after w s))) ≡ true
  all_referred =
      subst (λ b. (b || list_all (is_live (world_after w s)) (flat_map (targets (world_after w s).graph) (live_ids (world_after w s))))
      ≡ true) at_rest held.referred

  first_live : (id : ℕ) → IsTrue (contains (held_ids w.graph) id) → is_live (world_after w s) id ≡ true
  first_live id h =
      held_is_live (world_after w s) id held
      (subst (λ g. contains (ids_of_client g) id ≡ true) (sym after_graph) (still_held w.graph moved.graph (moves_roots w s.moves) id h))

  next_live : (from to : ℕ) → is_live (world_after w s) from ≡ true → IsTrue (contains (lasting_targets w.graph from) to)
      → is_live (world_after w s) to ≡ true
  next_live from to live h = by_pairs (is_dependent w.graph from) refl h
    where
      by_pairs : (b : Bool) → is_dependent w.graph from ≡ b → contains (if b then [] else strong_targets w.graph from) to ≡ true
          → is_live (world_after w s) to ≡ true
      by_pairs true e h = absurd (true≢false (sym h))
      by_pairs false e h =
          list_all-contains (is_live (world_after w s)) (targets (world_after w s).graph from) to
          (of_live (world_after w s) (is_live (world_after w s)) all_referred from live)
          (targets_kept w.graph (world_after w s).graph from to (λ k c strong there. lasting_cells from k c strong e there) h)

pub collect_leaves_what_is_reached : CollectLeavesWhatIsReached
collect_leaves_what_is_reached formats steps later s id legal is accepted path =
    let w = reached formats steps in
    let here = (IsLegalFrom-later (empty_world_of formats) steps (s ∷ later) legal).0 in
    record {
      live = PathLeads-holds (lasting_targets w.graph) (held_ids w.graph) (λ n. is_live (world_after w s) n ≡ true)
          (first_live w s here is) (next_live w s here is) path;
      cells = λ k cell strong free there. lasting_cells w s here is id k cell strong free there;
    }
