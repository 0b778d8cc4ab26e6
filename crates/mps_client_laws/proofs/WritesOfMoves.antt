-- What the moves of a step write of objects, and what they leave of slots and places.
use Rattle.std.proofs.Common.{◌≡◌, ◌⊎◌, inl, inr, ℕ, zero, suc, Bool, true, false, refl, sym, ◌∙◌, ap, subst, List, [], ◌∷◌, ◌++◌, map, Option, Some, None}
use Rattle.std.proofs.lemmas.Bool.{true≢false, and_parts, and_from, cases_eq, eq-eqb, or_parts}
use Rattle.std.proofs.lemmas.List.Folds.{list_any-append}
use Rattle.std.proofs.lemmas.Option.{none-some}
use Rattle.std.specs.Prelude.{not, take, ◌&&◌, ◌==◌, if◌then◌else◌, option_and_then, option_map, slice_get, slice_set}
use Rattle.std.specs.List.{list_any}
use Rattle.std.specs.Option.{option_map_or}
use Rattle.mps_base.specs.Segment.{Segment, words_of_segment}
use Rattle.mps_base.specs.declared.names.Name.{Name}
use Rattle.mps_base.specs.declared.names.Slot.{Slot}
use Rattle.mps_base.specs.declared.moves.Move.{Move}
use Rattle.mps_base.specs.declared.moves.Move.TheVariants as moves
use Rattle.mps_model.specs.declared.call.Call.{Call}
use Rattle.mps_model.specs.declared.call.Call.TheVariants as call
use Rattle.mps_model.specs.Graph.{Graph, Object, Body, Automatic, Manual, Cell, HeadCell, NumberCell, ReferenceCell, NamedThing, Slots, body_with_cells, dependent_in, is_reference_cell, retargeted, object_with_cells, with_target_cell, is_automatic, empty_graph, target_of_cell, Cache}
use Rattle.mps_model.specs.World.{World, id_at, is_copying_pool, with_tail, object_is, empty_world, ArenaState}
use Rattle.mps_model.specs.Effect.{where_one, after_splat, world_after_move, world_after_moves, holding, segment_of_move, graph_nulled, graph_splatted, without_object, with_collection, reclaiming, segment_base_of}
use Rattle.mps_model.specs.Policy.{units_asked}
use Rattle.mps_model.specs.History.{after_its_moves, after_own_segment, asking, moved_world, moves_of_poll, own_segment, with_segment_for_point, with_buffer, rank_of_point}
use Rattle.mps_model.specs.Checked.{cache_named, cells_of_body}
use Rattle.mps_laws.proofs.Entries.{slice_get-written}
use Rattle.mps_laws.specs.Held.{target_of_slot}
use Rattle.mps_client_laws.specs.Objects.{identity_of, cell_at, word_at, cells_nulled, cells_splatted, is_cell, reference_cell_of, moves_leave_cell, writes_cell, writes_word, is_this, block_of_place, replaces, block_taken}
use Rattle.mps_client_laws.proofs.Cells.{this_is_changed, target_is_one_cell, identities_stay, cells_keep_identity, other_cells_stay, words_beside_cells}

-- ---- what one move leaves

-- a move leaves names, slots and places, each object's identity, the words of blocks, and each cell that it doesn't make null
pub record LeavesObjects (before after : Graph) (nulled : List (ℕ × ℕ)) : Type 0 where
  pub names : after.names ≡ before.names
  pub tables : after.tables ≡ before.tables
  pub blocks : after.blocks ≡ before.blocks
  pub identities : map identity_of after.objects ≡ map identity_of before.objects
  pub words : (id k : ℕ) → word_at after id k ≡ word_at before id k
  pub cells : (id k : ℕ) (c : Cell) → list_any (is_cell id k) nulled ≡ false → cell_at before id k ≡ Some c → cell_at after id k ≡ Some c

all_left : (g : Graph) (nulled : List (ℕ × ℕ)) → LeavesObjects g g nulled
all_left g nulled = record {
  names = refl;
  tables = refl;
  blocks = refl;
  identities = refl;
  words = λ id k. refl;
  cells = λ id k c other there. there;
}

objects_left : (before after : Graph) → after.names ≡ before.names → after.tables ≡ before.tables → after.blocks ≡ before.blocks
    → after.objects ≡ before.objects → LeavesObjects before after []
objects_left before after names tables blocks objects = record {
  names = names;
  tables = tables;
  blocks = blocks;
  identities = ap (map identity_of) objects;
  words = λ id k. ap (λ os. word_at (record before { objects = os }) id k) objects;
  cells = λ id k c other there. ap (λ os. cell_at (record before { objects = os }) id k) objects ∙ there;
}

not_these : (id k this j : ℕ) → list_any (is_cell this j) ((id, k) ∷ []) ≡ false → id ≡ this → k ≡ j → ⊥
not_these id k this j none same equal =
    true≢false (sym (and_from (id == this) (k == j) (eq-eqb id this same) (eq-eqb k j equal))
    ∙ (or_parts (id == this && k == j) false none).0)

-- a cell that isn't a reference stays where it would be made null
retargeted_stays : (c : Cell) → is_reference_cell c ≡ false → retargeted c None ≡ c
retargeted_stays HeadCell plain = refl
retargeted_stays (NumberCell n) plain = refl
retargeted_stays (ReferenceCell target tag) plain = absurd (true≢false plain)

no_reference_stays : (g : Graph) (id k : ℕ) (c : Cell) → is_reference_cell c ≡ false → cell_at g id k ≡ Some c
    → cell_at (graph_nulled g id k) id k ≡ Some c
no_reference_stays g id k c plain there =
    ap (option_and_then (λ (o : Object). slice_get (cells_of_body o.body) k)) (this_is_changed g.objects id nulled)
    ∙ of_object (slice_get g.objects id) there
  where
    nulled : Object → Object
    nulled o = object_with_cells o (λ cells. with_target_cell cells k None)

    of_body : (b : Body) → slice_get (cells_of_body b) k ≡ Some c
        → slice_get (cells_of_body (body_with_cells b (λ cells. with_target_cell cells k None))) k ≡ Some c
    of_body (Automatic head cells is_weak) there =
        ap (λ o. slice_get (option_map_or (λ d. slice_set cells k (retargeted d None)) o cells) k) there
        ∙ slice_get-written cells k c (retargeted c None) there ∙ ap Some (retargeted_stays c plain)
    of_body (Manual words) there = there

    of_object : (o : Option Object) → option_and_then (λ (x : Object). slice_get (cells_of_body x.body) k) o ≡ Some c
        → option_and_then (λ (x : Object). slice_get (cells_of_body x.body) k) (option_map nulled o) ≡ Some c
    of_object None there = absurd (none-some c there)
    of_object (Some x) there = of_body x.body there

-- what stands in a cell that no reference names is no reference, if it is the one that is made null
no_reference : (g : Graph) (id k this j : ℕ) (c : Cell) → list_any (is_cell this j) (reference_cell_of g id k) ≡ false
    → cell_at g this j ≡ Some c → id ≡ this → k ≡ j → is_reference_cell c ≡ false
no_reference g id k this j c none there same equal = by_case (is_reference_cell c) refl
  where
    by_case : (b : Bool) → is_reference_cell c ≡ b → is_reference_cell c ≡ false
    by_case false e = e
    by_case true e =
        absurd (not_these id k this j
        (subst (λ b. list_any (is_cell this j) (if b then (id, k) ∷ [] else []) ≡ false)
        (ap (λ o. option_map_or is_reference_cell o false) (ap (λ n. cell_at g n k) same ∙ ap (cell_at g this) equal ∙ there) ∙ e) none)
        same equal)

nulled_cell_stays : (g : Graph) (id k this j : ℕ) (c : Cell) → (id ≡ this → k ≡ j → is_reference_cell c ≡ false)
    → cell_at g this j ≡ Some c → cell_at (graph_nulled g id k) this j ≡ Some c
nulled_cell_stays g id k this j c plain there =
    elim (cases_eq id this) [
      | inl same ↦ by_cell same (cases_eq k j)
      | inr other ↦ beside (λ same equal. other same)
    ]
  where
    beside : (id ≡ this → k ≡ j → ⊥) → cell_at (graph_nulled g id k) this j ≡ Some c
    beside other =
        other_cells_stay g id k (λ cells. with_target_cell cells k None) (target_is_one_cell k None) this j c other there

    by_cell : id ≡ this → (k ≡ j) ⊎ (k ≡ j → ⊥) → cell_at (graph_nulled g id k) this j ≡ Some c
    by_cell same (inr other) = beside (λ same equal. other equal)
    by_cell same (inl equal) =
        ap (λ n. cell_at (graph_nulled g id k) n j) (sym same) ∙ ap (cell_at (graph_nulled g id k) id) (sym equal)
        ∙ no_reference_stays g id k c (plain same equal) (ap (λ n. cell_at g n k) same ∙ ap (cell_at g this) equal ∙ there)

-- what a cell that is made null leaves beside the cells
record LeavesOthers (before after : Graph) : Type 0 where
  identities : map identity_of after.objects ≡ map identity_of before.objects
  words : (id k : ℕ) → word_at after id k ≡ word_at before id k

null_leaves : (g : Graph) (id k : ℕ) → LeavesOthers g (graph_nulled g id k)
null_leaves g id k = record {
  identities = identities_stay g.objects id (λ o. object_with_cells o (λ cells. with_target_cell cells k None))
      (cells_keep_identity (λ cells. with_target_cell cells k None) (target_is_one_cell k None).as_many);
  words = λ this j. words_beside_cells g id this j (λ cells. with_target_cell cells k None);
}

none_of_both : (test : ℕ × ℕ → Bool) (xs ys : List (ℕ × ℕ)) → list_any test (xs ++ ys) ≡ false
    → (list_any test xs ≡ false) × (list_any test ys ≡ false)
none_of_both test xs ys none = or_parts (list_any test xs) (list_any test ys) (sym (list_any-append test xs ys) ∙ none)

splat_leaves : (g : Graph) (id k : ℕ) → LeavesObjects g (graph_splatted g id k) (cells_splatted g id k)
splat_leaves g id k = of_dependent (dependent_in g.dependents id)
  where
    nulled : Graph
    nulled = graph_nulled g id k

    first : LeavesOthers g nulled
    first = null_leaves g id k

    first_cells : (others : List (ℕ × ℕ)) (this j : ℕ) (c : Cell) → list_any (is_cell this j) (reference_cell_of g id k ++ others) ≡ false
        → cell_at g this j ≡ Some c → cell_at nulled this j ≡ Some c
    first_cells others this j c none there =
        nulled_cell_stays g id k this j c
        (no_reference g id k this j c (none_of_both (is_cell this j) (reference_cell_of g id k) others none).0 there) there

    of_dependent : (o : Option ℕ)
        → LeavesObjects g (record g { objects = option_map_or (λ dependent. (graph_nulled nulled dependent k).objects) o nulled.objects })
        (reference_cell_of g id k ++ option_map_or (λ dependent. reference_cell_of g dependent k) o [])
    of_dependent None = record {
      names = refl;
      tables = refl;
      blocks = refl;
      identities = first.identities;
      words = first.words;
      cells = first_cells [];
    }
    of_dependent (Some dependent) = record {
      names = refl;
      tables = refl;
      blocks = refl;
      identities = (null_leaves nulled dependent k).identities ∙ first.identities;
      words = λ this j. (null_leaves nulled dependent k).words this j ∙ first.words this j;
      cells = λ this j c none there.
          nulled_cell_stays nulled dependent k this j c
          (no_reference g dependent k this j c
          (none_of_both (is_cell this j) (reference_cell_of g id k) (reference_cell_of g dependent k) none).1 there)
          (first_cells (reference_cell_of g dependent k) this j c none there);
    }

module _ (w : World) where
  one_leaves : (found : Option ℕ) (change : ℕ → World) → ((id : ℕ) → LeavesObjects w.graph (change id).graph [])
      → LeavesObjects w.graph (where_one w found change).graph []
  one_leaves None change leaves = all_left w.graph []
  one_leaves (Some id) change leaves = leaves id

  splat_found_leaves : (k : ℕ) (found : Option ℕ)
      → LeavesObjects w.graph (where_one w found (λ id. after_splat w id k)).graph
      (option_map_or (λ id. cells_splatted w.graph id k) found [])
  splat_found_leaves k None = all_left w.graph []
  splat_found_leaves k (Some id) = splat_leaves w.graph id k

  segment_leaves : (s : Segment) (b : Bool)
      → LeavesObjects w.graph (if b then with_tail (holding w s) s.pool s.generation (words_of_segment s) else holding w s).graph []
  segment_leaves s true = all_left w.graph []
  segment_leaves s false = all_left w.graph []

  free_leaves : (id at : ℕ) (b : Bool)
      → LeavesObjects w.graph (if b then with_collection (without_object w id) (reclaiming (segment_base_of w at)) else
      without_object w id).graph []
  free_leaves id at true = objects_left w.graph _ refl refl refl refl
  free_leaves id at false = objects_left w.graph _ refl refl refl refl

  pub move_leaves_objects : (m : Move) → LeavesObjects w.graph (world_after_move w m).graph (cells_nulled w m)
  move_leaves_objects (moves.Seg base grains pool generation) =
      let s = segment_of_move base.0 grains pool generation in segment_leaves s (is_copying_pool w s.pool)
  move_leaves_objects (moves.Unseg base) = all_left w.graph []
  move_leaves_objects (moves.Flip zones chain generation) = objects_left w.graph _ refl refl refl refl
  move_leaves_objects moves.End = all_left w.graph []
  move_leaves_objects (moves.Moved from to) = one_leaves (id_at w from.0) _ (λ id. all_left w.graph [])
  move_leaves_objects (moves.Stay at) = one_leaves (id_at w at.0) _ (λ id. all_left w.graph [])
  move_leaves_objects (moves.Splat holder cell) = splat_found_leaves cell (id_at w holder.0)
  move_leaves_objects (moves.Post at) = one_leaves (id_at w at.0) _ (λ id. objects_left w.graph _ refl refl refl refl)
  move_leaves_objects (moves.Commit at words pool) = all_left w.graph []
  move_leaves_objects (moves.Alloc at words pool) = all_left w.graph []
  move_leaves_objects (moves.Free at) = one_leaves (id_at w at.0) _ (λ id. free_leaves id at.0 (object_is is_automatic w id))

-- ---- what all moves of a call leave

-- what is left of names, slots, places and objects: each cell that moves don't make null
pub record Left (before after : Graph) (is_left : (id k : ℕ) → Bool) : Type 0 where
  pub names : after.names ≡ before.names
  pub tables : after.tables ≡ before.tables
  pub blocks : after.blocks ≡ before.blocks
  pub identities : map identity_of after.objects ≡ map identity_of before.objects
  pub words : (id k : ℕ) → word_at after id k ≡ word_at before id k
  pub cells : (id k : ℕ) (c : Cell) → is_left id k ≡ true → cell_at before id k ≡ Some c → cell_at after id k ≡ Some c

not_false : (b : Bool) → not b ≡ true → b ≡ false
not_false true h = absurd (true≢false (sym h))
not_false false h = refl

pub moves_leave_objects : (w : World) (ms : List Move) → Left w.graph (world_after_moves w ms).graph (moves_leave_cell w ms)
moves_leave_objects w [] = record {
  names = refl;
  tables = refl;
  blocks = refl;
  identities = refl;
  words = λ id k. refl;
  cells = λ id k c left there. there;
}
moves_leave_objects w (m ∷ ms) =
    let first = move_leaves_objects w m in
    let rest = moves_leave_objects (world_after_move w m) ms in
    record {
      names = rest.names ∙ first.names;
      tables = rest.tables ∙ first.tables;
      blocks = rest.blocks ∙ first.blocks;
      identities = rest.identities ∙ first.identities;
      words = λ id k. rest.words id k ∙ first.words id k;
      cells = λ id k c left there.
          let parts = and_parts (not (list_any (is_cell id k) (cells_nulled w m))) (moves_leave_cell (world_after_move w m) ms id k) left in
          rest.cells id k c parts.1
          (first.cells id k c (not_false (list_any (is_cell id k) (cells_nulled w m)) parts.0) there);
    }

-- the first moves leave what all do
first_moves_leave : (w : World) (ms : List Move) (n id k : ℕ) → moves_leave_cell w ms id k ≡ true
    → moves_leave_cell w (take n ms) id k ≡ true
first_moves_leave w ms zero id k left = refl
first_moves_leave w [] (suc n) id k left = refl
first_moves_leave w (m ∷ ms) (suc n) id k left =
    let parts = and_parts (not (list_any (is_cell id k) (cells_nulled w m))) (moves_leave_cell (world_after_move w m) ms id k) left in
    and_from (not (list_any (is_cell id k) (cells_nulled w m)))
    (moves_leave_cell (world_after_move w m) (take n ms) id k) parts.0
    (first_moves_leave (world_after_move w m) ms n id k parts.1)

segment_for_point_graph : (w : World) (s : Segment) (point : ℕ) → (with_segment_for_point w s point).graph ≡ w.graph
segment_for_point_graph w s point = by_case (is_copying_pool w s.pool)
  where
    taken : World
    taken = holding w (record s { rank = rank_of_point w point })

    by_case : (b : Bool)
        → (if b then record taken { point_memories = with_buffer w.point_memories point (words_of_segment s) } else taken).graph
        ≡ w.graph
    by_case true = refl
    by_case false = refl

own_segment_graph : (w : World) (ms : List Move) (point : Option ℕ) → (after_own_segment w ms point).graph ≡ w.graph
own_segment_graph w [] point = refl
own_segment_graph w (moves.Seg base grains pool generation ∷ ms) None = refl
own_segment_graph w (moves.Seg base grains pool generation ∷ ms) (Some point) =
    segment_for_point_graph w (segment_of_move base.0 grains pool generation) point
own_segment_graph w (_ ∷ ms) point = refl

asking_graph : (asked : Option ℕ) (w : World) → (asking asked w).graph ≡ w.graph
asking_graph None w = refl
asking_graph (Some units) w = refl

its_moves_leave : (w : World) (c : Call) (ms : List Move) → Left w.graph (after_its_moves w c ms).graph (moves_leave_cell w ms)
its_moves_leave w (call.Reserve point head) ms =
    subst (λ (g : Graph). Left w.graph g (moves_leave_cell w ms))
    (sym (own_segment_graph (world_after_moves w (moves_of_poll ms)) (own_segment ms) _))
    (let l = moves_leave_objects w (moves_of_poll ms) in
    record {
      names = l.names;
      tables = l.tables;
      blocks = l.blocks;
      identities = l.identities;
      words = l.words;
      cells = λ id k c left there. l.cells id k c (first_moves_leave w ms _ id k left) there;
    })
its_moves_leave w _ ms = moves_leave_objects w ms

pub moved_world_leaves : (w : World) (c : Call) (ms : List Move) → Left w.graph (moved_world w c ms).graph (moves_leave_cell w ms)
moved_world_leaves w c ms =
    subst (λ (g : Graph). Left w.graph g (moves_leave_cell w ms)) (sym (asking_graph (units_asked w c) (after_its_moves w c ms)))
    (its_moves_leave w c ms)

-- ---- so a call writes the same cells before its moves and after them

-- a world of these names, tables and places
abbrev of_lists : List NamedThing → List (Option Slots) → List Slots → World
of_lists names tables blocks = record empty_world { graph = record empty_graph { names = names; tables = tables; blocks = blocks } }

pub same_target : (v w : World) (slot : Slot) → v.graph.names ≡ w.graph.names → v.graph.tables ≡ w.graph.tables
    → target_of_slot v slot ≡ target_of_slot w slot
same_target v w slot names tables =
    ap (λ ns. target_of_slot (of_lists ns v.graph.tables []) slot) names
    ∙ ap (λ ts. target_of_slot (of_lists w.graph.names ts []) slot) tables

same_block : (v w : World) (place : Slot) → v.graph.names ≡ w.graph.names → v.graph.blocks ≡ w.graph.blocks
    → block_of_place v place ≡ block_of_place w place
same_block v w place names blocks =
    ap (λ ns. block_of_place (of_lists ns [] v.graph.blocks) place) names
    ∙ ap (λ bs. block_of_place (of_lists w.graph.names [] bs) place) blocks

-- a world of these names and this state
abbrev of_state : List NamedThing → ArenaState → World
of_state names state = record empty_world { graph = record empty_graph { names = names }; state = state }

pub same_replaced : (v w : World) (c : Call) (target : Option ℕ) → v.graph.names ≡ w.graph.names → v.state ≡ w.state
    → replaces v c target ≡ replaces w c target
same_replaced v w (call.TransformApply transform) target names state =
    ap (λ ns. replaces (of_state ns v.state) (call.TransformApply transform) target) names
    ∙ ap (λ s. replaces (of_state w.graph.names s) (call.TransformApply transform) target) state
same_replaced v w _ target names state = refl

pub same_cells_written : (v w : World) (c : Call) (id k : ℕ) → v.graph.names ≡ w.graph.names → v.graph.tables ≡ w.graph.tables
    → v.state ≡ w.state → cell_at v.graph id k ≡ cell_at w.graph id k → writes_cell v c id k ≡ writes_cell w c id k
same_cells_written v w (call.Put target cell source) id k names tables state cells =
    ap (λ t. is_this id t && cell == k) (same_target v w target names tables)
same_cells_written v w (call.SetNumber slot cell value) id k names tables state cells =
    ap (λ t. is_this id t && cell == k) (same_target v w slot names tables)
same_cells_written v w (call.SetTag slot cell tag) id k names tables state cells =
    ap (λ t. is_this id t && cell == k) (same_target v w slot names tables)
same_cells_written v w (call.TransformApply transform) id k names tables state cells =
    ap (λ o. replaces v (call.TransformApply transform) (option_and_then target_of_cell o)) cells
    ∙ same_replaced v w (call.TransformApply transform) (option_and_then target_of_cell (cell_at w.graph id k)) names state
same_cells_written v w _ id k names tables state cells = refl

-- a world of these names and caches
abbrev of_caches : List NamedThing → List Cache → World
of_caches names caches = record empty_world { graph = record empty_graph { names = names; caches = caches } }

same_taken : (v w : World) (cache : Name) (words : ℕ) → v.graph.names ≡ w.graph.names → v.graph.caches ≡ w.graph.caches
    → block_taken (cache_named v cache) words ≡ block_taken (cache_named w cache) words
same_taken v w cache words names caches =
    ap (λ ns. block_taken (cache_named (of_caches ns v.graph.caches) cache) words) names
    ∙ ap (λ qs. block_taken (cache_named (of_caches w.graph.names qs) cache) words) caches

pub same_words_written : (v w : World) (c : Call) (id k : ℕ) → v.graph.names ≡ w.graph.names → v.graph.blocks ≡ w.graph.blocks
    → v.graph.caches ≡ w.graph.caches → writes_word v c id k ≡ writes_word w c id k
same_words_written v w (call.Store place word value) id k names blocks caches =
    ap (λ t. is_this id t && word == k) (same_block v w place names blocks)
same_words_written v w (call.CacheAlloc cache words place) id k names blocks caches =
    ap (is_this id) (same_taken v w cache words names caches)
same_words_written v w _ id k names blocks caches = refl
