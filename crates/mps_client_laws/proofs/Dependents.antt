-- A move makes a key null only with its value: a splat clears both, and no other move writes a cell.
use Rattle.std.proofs.Common.{◌≡◌, ◌∙◌, inl, inr, ℕ, Bool, true, false, refl, sym, ap, subst, List, [], ◌∷◌, Option, Some, None}
use Rattle.std.proofs.lemmas.Bool.{and_parts, cases_eq, eqb-true, false≢true, true≢false}
use Rattle.std.proofs.lemmas.Option.{same_Some}
use Rattle.std.specs.Prelude.{◌&&◌, ◌==◌, if◌then◌else◌, not, option_and_then, option_map, slice_get, slice_set}
use Rattle.std.specs.List.{list_all}
use Rattle.std.specs.Option.{option_map_or}
use Rattle.mps_base.specs.Address.{Id}
use Rattle.mps_base.specs.Segment.{words_of_segment}
use Rattle.mps_base.specs.declared.moves.Move.{Move}
use Rattle.mps_base.specs.declared.moves.Move.TheVariants as moves
use Rattle.mps_model.specs.Step.{History}
use Rattle.mps_model.specs.Dependents.{may_depend}
use Rattle.mps_model.specs.Graph.{Graph, Object, Body, Automatic, Manual, Cell, HeadCell, NumberCell, ReferenceCell, body_with_cells, dependent_in, is_automatic, is_weak_object, object_at, object_with_cells, retargeted, with_target_cell}
use Rattle.mps_model.specs.Checked.{cells_of_body}
use Rattle.mps_model.specs.World.{World, empty_world_of, id_at, is_copying_pool, is_live, is_weak_kind, object_is, pool_is, with_tail}
use Rattle.mps_model.specs.WellFormed.{is_right_pair}
use Rattle.mps_model.specs.Effect.{after_free, after_splat, graph_nulled, graph_splatted, holding, reclaiming, segment_base_of, segment_of_move, where_one, with_collection, without_object, world_after_move, world_after_moves}
use Rattle.mps_model.specs.History.{IsLegalFrom, world_after, world_after_steps}
use Rattle.mps_laws.proofs.Entries.{slice_get-written}
use Rattle.mps_laws.proofs.Dependents.{ArePaired, dependents_after, moves_paired}
use Rattle.mps_client_laws.specs.Dependents.{ValuesGoWithTheirKeys, goes_with, value_goes_with}
use Rattle.mps_client_laws.specs.Objects.{cell_at}
use Rattle.mps_client_laws.proofs.Cells.{others_stay, target_is_one_cell, this_is_changed}

-- ---- a reference made null

-- the value is null
value_null : (key value : Option Cell) → goes_with key (option_map (λ c. retargeted c None) value) ≡ true
value_null None None = refl
value_null None (Some c) = refl
value_null (Some HeadCell) None = refl
value_null (Some HeadCell) (Some c) = refl
value_null (Some (NumberCell n)) None = refl
value_null (Some (NumberCell n)) (Some c) = refl
value_null (Some (ReferenceCell None tag)) None = refl
value_null (Some (ReferenceCell None tag)) (Some HeadCell) = refl
value_null (Some (ReferenceCell None tag)) (Some (NumberCell n)) = refl
value_null (Some (ReferenceCell None tag)) (Some (ReferenceCell target other)) = refl
value_null (Some (ReferenceCell (Some id) tag)) None = refl
value_null (Some (ReferenceCell (Some id) tag)) (Some c) = refl

written_cell : (cells : List Cell) (k : ℕ)
    → slice_get (with_target_cell cells k None) k ≡ option_map (λ c. retargeted c None) (slice_get cells k)
written_cell cells k = of_cell (slice_get cells k) refl
  where
    of_cell : (o : Option Cell) → slice_get cells k ≡ o
        → slice_get (option_map_or (λ c. slice_set cells k (retargeted c None)) o cells) k ≡ option_map (λ c. retargeted c None) o
    of_cell None e = e
    of_cell (Some c) e = slice_get-written cells k c (retargeted c None) e

module _ (g : Graph) (id k : ℕ) where
  -- the cell itself
  cell_nulled : cell_at (graph_nulled g id k) id k ≡ option_map (λ c. retargeted c None) (cell_at g id k)
  cell_nulled =
      ap (option_and_then (λ o. slice_get (cells_of_body o.body) k))
      (this_is_changed g.objects id (λ o. object_with_cells o (λ cells. with_target_cell cells k None)))
      ∙ of_object (object_at g id)
    where
      of_body : (b : Body) → slice_get (cells_of_body (body_with_cells b (λ cells. with_target_cell cells k None))) k
          ≡ option_map (λ c. retargeted c None) (slice_get (cells_of_body b) k)
      of_body (Automatic head cells is_weak) = written_cell cells k
      of_body (Manual words) = refl

      of_object : (o : Option Object)
          → option_and_then (λ x. slice_get (cells_of_body x.body) k)
          (option_map (λ (x : Object). object_with_cells x (λ cells. with_target_cell cells k None)) o)
          ≡ option_map (λ c. retargeted c None) (option_and_then (λ x. slice_get (cells_of_body x.body) k) o)
      of_object None = refl
      of_object (Some o) = of_body o.body

  -- cells of other objects, and other cells
  other_object : (n j : ℕ) → (id ≡ n → ⊥) → cell_at (graph_nulled g id k) n j ≡ cell_at g n j
  other_object n j other =
      ap (option_and_then (λ x. slice_get (cells_of_body x.body) j))
      (others_stay g.objects id n (λ o. object_with_cells o (λ cells. with_target_cell cells k None)) other)

  other_number : (n j : ℕ) → (k ≡ j → ⊥) → cell_at (graph_nulled g id k) n j ≡ cell_at g n j
  other_number n j other = elim (cases_eq id n) [
    | inl same ↦
        subst (λ (m : ℕ). cell_at (graph_nulled g id k) m j ≡ cell_at g m j) same
        (ap (option_and_then (λ x. slice_get (cells_of_body x.body) j))
        (this_is_changed g.objects id (λ o. object_with_cells o (λ cells. with_target_cell cells k None)))
        ∙ of_object (object_at g id))
    | inr differs ↦ other_object n j differs
  ]
    where
      of_body : (b : Body) → slice_get (cells_of_body (body_with_cells b (λ cells. with_target_cell cells k None))) j
          ≡ slice_get (cells_of_body b) j
      of_body (Automatic head cells is_weak) = (target_is_one_cell k None).others cells j other
      of_body (Manual words) = refl

      of_object : (o : Option Object)
          → option_and_then (λ x. slice_get (cells_of_body x.body) j)
          (option_map (λ (x : Object). object_with_cells x (λ cells. with_target_cell cells k None)) o)
          ≡ option_and_then (λ x. slice_get (cells_of_body x.body) j) o
      of_object None = refl
      of_object (Some o) = of_body o.body

-- a value that is made null goes with any key
nulled_goes : (key : Option Cell) (g : Graph) (id cell : ℕ) → goes_with key (cell_at (graph_nulled g id cell) id cell) ≡ true
nulled_goes key g id cell =
    ap (goes_with key) (cell_nulled g id cell) ∙ value_null key (cell_at g id cell)

-- what stays goes with what stays
stays : (key after : Option Cell) (value left : Option Cell) → after ≡ key → left ≡ value → goes_with key value ≡ true
    → goes_with after left ≡ true
stays key after value left same alike h =
    ap (λ o. goes_with o left) same ∙ ap (goes_with key) alike ∙ h

-- ---- pairs

-- the holder of a pair is weak, and its dependent isn't
record IsPairOf (w : World) (holder dependent : ℕ) : Type 0 where
  weak : object_is is_weak_object w holder ≡ true
  strong : object_is is_weak_object w dependent ≡ false

right_is : (w : World) (holder dependent : ℕ) → is_right_pair w (holder, dependent) ≡ true → IsPairOf w holder dependent
right_is w holder dependent h =
    let parts = and_parts (is_live w holder) (is_live w dependent && object_is (λ o. object_is (may_depend w o) w dependent) w holder) h in
    let rest = and_parts (is_live w dependent) (object_is (λ o. object_is (may_depend w o) w dependent) w holder) parts.1 in
    of_both (object_at w.graph holder) (object_at w.graph dependent) refl refl rest.1
  where
    of_not : (b : Bool) → not b ≡ true → b ≡ false
    of_not true e = absurd (false≢true e)
    of_not false e = refl

    of_both : (o p : Option Object) → object_at w.graph holder ≡ o → object_at w.graph dependent ≡ p
        → option_map_or (λ x. option_map_or (may_depend w x) p false) o false ≡ true → IsPairOf w holder dependent
    of_both None p e f g = absurd (false≢true g)
    of_both (Some x) None e f g = absurd (false≢true g)
    of_both (Some x) (Some y) e f g =
        let first = and_parts (is_weak_object x) (pool_is is_weak_kind w y.pool && not (is_weak_object y)) g in
        let second = and_parts (pool_is is_weak_kind w y.pool) (not (is_weak_object y)) first.1 in
        record {
          weak = ap (λ o. option_map_or is_weak_object o false) e ∙ first.0;
          strong = ap (λ o. option_map_or is_weak_object o false) f ∙ of_not (is_weak_object y) second.1;
        }

pair_is : (w : World) (ps : List (Id × Id)) (holder dependent : ℕ) → list_all (is_right_pair w) ps ≡ true
    → dependent_in ps holder ≡ Some dependent → IsPairOf w holder dependent
pair_is w [] holder dependent h e = absurd cc
pair_is w (p ∷ ps) holder dependent h e =
    let parts = and_parts (is_right_pair w p) (list_all (is_right_pair w) ps) h in
    of_test (p.0 == holder) refl parts.0 (pair_is w ps holder dependent parts.1) e
  where
    of_test : (b : Bool) → (p.0 == holder) ≡ b → is_right_pair w p ≡ true
        → (dependent_in ps holder ≡ Some dependent → IsPairOf w holder dependent)
        → (if b then Some p.1 else dependent_in ps holder) ≡ Some dependent → IsPairOf w holder dependent
    of_test true same right rest g =
        subst (λ (n : ℕ). IsPairOf w n dependent) (eqb-true p.0 holder same)
        (subst (λ (n : ℕ). IsPairOf w p.0 n) (same_Some p.1 dependent g) (right_is w p.0 p.1 right))
    of_test false same right rest g = rest g

-- ---- a splat

module _ (w : World) (paired : ArePaired w) (holder dependent cell : ℕ)
    (linked : dependent_in w.graph.dependents holder ≡ Some dependent)
    (goes : value_goes_with w.graph holder dependent cell ≡ true) where
  abbrev g : Graph
  g = w.graph

  -- another cell is splatted
  other_cell : (id k : ℕ) → (k ≡ cell → ⊥) → (o : Option ℕ)
      → value_goes_with (record g {
        objects = option_map_or (λ d. (graph_nulled (graph_nulled g id k) d k).objects) o (graph_nulled g id k).objects;
      }) holder dependent cell ≡ true
  other_cell id k other None =
      stays (cell_at g holder cell) (cell_at (graph_nulled g id k) holder cell) (cell_at g dependent cell)
      (cell_at (graph_nulled g id k) dependent cell) (other_number g id k holder cell other) (other_number g id k dependent cell other) goes
  other_cell id k other (Some d) =
      let first = graph_nulled g id k in
      stays (cell_at g holder cell) (cell_at (graph_nulled first d k) holder cell) (cell_at g dependent cell)
      (cell_at (graph_nulled first d k) dependent cell)
      (other_number first d k holder cell other ∙ other_number g id k holder cell other)
      (other_number first d k dependent cell other ∙ other_number g id k dependent cell other) goes

  -- the same cell of another holder, which has no dependent
  other_alone : (id : ℕ) → (id ≡ holder → ⊥) → value_goes_with (graph_nulled g id cell) holder dependent cell ≡ true
  other_alone id other = elim (cases_eq id dependent) [
    | inl same ↦
        subst (λ (n : ℕ). goes_with (cell_at (graph_nulled g id cell) holder cell) (cell_at (graph_nulled g id cell) n cell) ≡ true) same
        (nulled_goes (cell_at (graph_nulled g id cell) holder cell) g id cell)
    | inr differs ↦
        stays (cell_at g holder cell) (cell_at (graph_nulled g id cell) holder cell) (cell_at g dependent cell)
        (cell_at (graph_nulled g id cell) dependent cell) (other_object g id cell holder cell other)
        (other_object g id cell dependent cell differs) goes
  ]

  -- or has one
  other_holder : (id : ℕ) → (id ≡ holder → ⊥) → (o : Option ℕ) → ((d : ℕ) → o ≡ Some d → d ≡ holder → ⊥)
      → value_goes_with (record g {
        objects = option_map_or (λ d. (graph_nulled (graph_nulled g id cell) d cell).objects) o (graph_nulled g id cell).objects;
      }) holder dependent cell ≡ true
  other_holder id other None no_holder = other_alone id other
  other_holder id other (Some d) no_holder = elim (cases_eq d dependent) [
    | inl same ↦
        subst (λ (n : ℕ). goes_with (cell_at (graph_nulled (graph_nulled g id cell) d cell) holder cell)
        (cell_at (graph_nulled (graph_nulled g id cell) d cell) n cell) ≡ true) same
        (nulled_goes (cell_at (graph_nulled (graph_nulled g id cell) d cell) holder cell) (graph_nulled g id cell) d cell)
    | inr differs ↦
        let first = graph_nulled g id cell in
        stays (cell_at first holder cell) (cell_at (graph_nulled first d cell) holder cell) (cell_at first dependent cell)
        (cell_at (graph_nulled first d cell) dependent cell) (other_object first d cell holder cell (no_holder d refl))
        (other_object first d cell dependent cell differs) (other_alone id other)
  ]

  -- the key itself
  own_cell : value_goes_with (graph_splatted g holder cell) holder dependent cell ≡ true
  own_cell =
      subst (λ o. value_goes_with (record g {
        objects = option_map_or (λ d. (graph_nulled (graph_nulled g holder cell) d cell).objects) o (graph_nulled g holder cell).objects;
      }) holder dependent cell ≡ true) (sym linked)
      (nulled_goes (cell_at (graph_nulled (graph_nulled g holder cell) dependent cell) holder cell) (graph_nulled g holder cell) dependent
      cell)

  splat_keeps : (id k : ℕ) → value_goes_with (after_splat w id k).graph holder dependent cell ≡ true
  splat_keeps id k = elim (cases_eq k cell) [
    | inl same ↦
        subst (λ (j : ℕ). value_goes_with (graph_splatted g id j) holder dependent cell ≡ true) (sym same)
        (elim (cases_eq id holder) [
          | inl own ↦ subst (λ (n : ℕ). value_goes_with (graph_splatted g n cell) holder dependent cell ≡ true) (sym own) own_cell
          | inr other ↦
              other_holder id other (dependent_in g.dependents id) (λ d e is.
              let key = pair_is w g.dependents holder dependent paired linked in
              let value = pair_is w g.dependents id d paired e in
              true≢false (sym key.weak ∙ ap (object_is is_weak_object w) (sym is) ∙ value.strong))
        ])
    | inr other ↦ other_cell id k other (dependent_in g.dependents id)
  ]

  -- ---- any move

  one_keeps : (change : ℕ → World) → ((id : ℕ) → value_goes_with (change id).graph holder dependent cell ≡ true) → (o : Option ℕ)
      → value_goes_with (where_one w o change).graph holder dependent cell ≡ true
  one_keeps change each None = goes
  one_keeps change each (Some id) = each id

  move_keeps : (m : Move) → value_goes_with (world_after_move w m).graph holder dependent cell ≡ true
  move_keeps (moves.Seg base grains pool generation) =
      let s = segment_of_move base.0 grains pool generation in
      elim (is_copying_pool w s.pool) as (λ b. value_goes_with
      (if b then with_tail (holding w s) s.pool s.generation (words_of_segment s) else holding w s).graph holder dependent cell ≡ true) [
        | true ↦ goes
        | false ↦ goes
      ]
  move_keeps (moves.Unseg base) = goes
  move_keeps (moves.Flip zones chain generation) = goes
  move_keeps moves.End = goes
  move_keeps (moves.Moved from to) = one_keeps _ (λ id. goes) (id_at w from.0)
  move_keeps (moves.Stay at) = one_keeps _ (λ id. goes) (id_at w at.0)
  move_keeps (moves.Splat at k) = one_keeps (λ id. after_splat w id k) (λ id. splat_keeps id k) (id_at w at.0)
  move_keeps (moves.Post at) = one_keeps _ (λ id. goes) (id_at w at.0)
  move_keeps (moves.Commit at words pool) = goes
  move_keeps (moves.Alloc at words pool) = goes
  move_keeps (moves.Free at) =
      one_keeps (λ id. after_free w id at.0) (λ id.
      elim (object_is is_automatic w id) as (λ b. value_goes_with
      (if b then with_collection (without_object w id) (reclaiming (segment_base_of w at.0)) else without_object w id).graph
      holder dependent cell ≡ true) [
        | true ↦ goes
        | false ↦ goes
      ]) (id_at w at.0)

-- ---- histories

paired_from : (w : World) (steps : History) → ArePaired w → IsLegalFrom w steps → ArePaired (world_after_steps w steps)
paired_from w [] h legal = h
paired_from w (s ∷ ss) h legal = paired_from (world_after w s) ss (dependents_after w s h legal.0) legal.1

pub values_go_with_their_keys : ValuesGoWithTheirKeys
values_go_with_their_keys formats steps before m holder dependent cell legal linked goes =
    let w = world_after_steps (empty_world_of formats) steps in
    let paired = moves_paired w before (paired_from (empty_world_of formats) steps refl legal) in
    move_keeps (world_after_moves w before) paired holder dependent cell linked goes m
