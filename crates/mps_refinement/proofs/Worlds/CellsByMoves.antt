-- What moves leave of the cells of objects: each that is a reference stays one, and no other becomes one.
use Rattle.std.proofs.Common.{◌≡◌, ◌∙◌, ℕ, Bool, true, false, refl, sym, ap, List, [], ◌∷◌, map, Option, Some, None, Ok}
use Rattle.std.proofs.lemmas.Option.{none-some, same_Some, slice_get-map}
use Rattle.std.specs.Prelude.{if◌then◌else◌, option_map, slice_get, slice_set}
use Rattle.std.specs.Option.{option_map_or}
use Rattle.mps_base.specs.Segment.{Segment, words_of_segment}
use Rattle.mps_base.specs.declared.moves.Move.{Move}
use Rattle.mps_base.specs.declared.moves.Move.TheVariants as moves
use Rattle.mps_base.specs.declared.refusal.Refusal.TheVariants as refusal
use Rattle.mps_laws.proofs.Lookups.{map-slice_set, slice_set-same}
use Rattle.mps_model.specs.Checked.{Numbered, ◌>>=◌, cells_of_body, object_in, reference_at, reference_in, required}
use Rattle.mps_model.specs.Effect.{world_after_move, world_after_moves, after_segment, after_free, after_moved, after_post, after_splat, holding, where_one, with_collection, reclaiming, segment_base_of, segment_of_move, placing, graph_nulled, without_object}
use Rattle.mps_model.specs.Graph.{Automatic, Body, Cell, Graph, HeadCell, Manual, NumberCell, Object, ReferenceCell, body_with_cells, is_automatic, is_reference_cell, object_at, object_with_cells, retargeted, with_target_cell}
use Rattle.mps_model.specs.World.{World, id_at, is_copying_pool, object_is, with_tail}
use Rattle.mps_model.proofs.Nulled.{splatted_holds}

-- which cells of a body are references
abbrev pub references_of : Body → List Bool
references_of b = map is_reference_cell (cells_of_body b)

abbrev pub references_in : List Object → List (List Bool)
references_in os = map (λ (o : Object). references_of o.body) os

-- ---- a cell that gets another target

retargeted_kept : (c : Cell) (target : Option ℕ) → is_reference_cell (retargeted c target) ≡ is_reference_cell c
retargeted_kept HeadCell target = refl
retargeted_kept (NumberCell number) target = refl
retargeted_kept (ReferenceCell old tag) target = refl

target_kept : (cells : List Cell) (k : ℕ) (target : Option ℕ)
    → map is_reference_cell (with_target_cell cells k target) ≡ map is_reference_cell cells
target_kept cells k target = of_cell (slice_get cells k) refl
  where
    of_cell : (o : Option Cell) → slice_get cells k ≡ o
        → map is_reference_cell (option_map_or (λ cell. slice_set cells k (retargeted cell target)) o cells) ≡ map is_reference_cell cells
    of_cell None e = refl
    of_cell (Some c) e =
        map-slice_set is_reference_cell cells k (retargeted c target)
        ∙ slice_set-same (map is_reference_cell cells) k (is_reference_cell (retargeted c target))
        (slice_get-map is_reference_cell cells k ∙ ap (option_map is_reference_cell) e ∙ ap Some (sym (retargeted_kept c target)))

body_kept : (b : Body) (k : ℕ) (target : Option ℕ)
    → references_of (body_with_cells b (λ cells. with_target_cell cells k target)) ≡ references_of b
body_kept (Automatic head cells is_weak) k target = target_kept cells k target
body_kept (Manual words) k target = refl

abbrev nulling : (k : ℕ) → List Cell → List Cell
nulling k cells = with_target_cell cells k None

nulled_kept : (g : Graph) (id k : ℕ) → references_in (graph_nulled g id k).objects ≡ references_in g.objects
nulled_kept g id k = of_one (object_at g id) refl
  where
    of_one : (o : Option Object) → object_at g id ≡ o
        → references_in (option_map_or (λ (x : Object). slice_set g.objects id (object_with_cells x (nulling k))) o g.objects)
        ≡ references_in g.objects
    of_one None e = refl
    of_one (Some o) e =
        map-slice_set (λ (x : Object). references_of x.body) g.objects id (object_with_cells o (nulling k))
        ∙ slice_set-same (references_in g.objects) id (references_of (body_with_cells o.body (nulling k)))
        (slice_get-map (λ (x : Object). references_of x.body) g.objects id
        ∙ ap (option_map (λ (x : Object). references_of x.body)) e ∙ ap Some (sym (body_kept o.body k None)))

splat_kept : (w : World) (id k : ℕ) → references_in (after_splat w id k).graph.objects ≡ references_in w.graph.objects
splat_kept w id k =
    splatted_holds (λ g. references_in g.objects ≡ references_in w.graph.objects) w.graph id k (nulled_kept w.graph id k) (λ dependent.
    nulled_kept (graph_nulled w.graph id k) dependent k ∙ nulled_kept w.graph id k)

-- ---- moves

one_kept : (w : World) (o : Option ℕ) (change : ℕ → World)
    → ((id : ℕ) → references_in (change id).graph.objects ≡ references_in w.graph.objects)
    → references_in (where_one w o change).graph.objects ≡ references_in w.graph.objects
one_kept w None change each = refl
one_kept w (Some id) change each = each id

free_kept : (w : World) (id at : ℕ) → (after_free w id at).graph.objects ≡ w.graph.objects
free_kept w id at =
    elim (object_is is_automatic w id) as (λ b. (if b then with_collection (without_object w id) (reclaiming (segment_base_of w at))
    else without_object w id).graph.objects ≡ w.graph.objects) [
      | true ↦ refl
      | false ↦ refl
    ]

segment_kept : (w : World) (s : Segment) → (after_segment w s).graph.objects ≡ w.graph.objects
segment_kept w s =
    elim (is_copying_pool w s.pool) as (λ b. (if b then with_tail (holding w s) s.pool s.generation (words_of_segment s)
    else holding w s).graph.objects ≡ w.graph.objects) [
      | true ↦ refl
      | false ↦ refl
    ]

move_kept : (w : World) (m : Move) → references_in (world_after_move w m).graph.objects ≡ references_in w.graph.objects
move_kept w (moves.Seg base grains pool generation) = ap references_in (segment_kept w (segment_of_move base.0 grains pool generation))
move_kept w (moves.Unseg base) = refl
move_kept w (moves.Flip zones chain generation) = refl
move_kept w moves.End = refl
move_kept w (moves.Moved from to) = one_kept w (id_at w from.0) (λ id. after_moved w id to.0) (λ id. refl)
move_kept w (moves.Stay at) = one_kept w (id_at w at.0) (λ id. with_collection w (placing id)) (λ id. refl)
move_kept w (moves.Splat holder cell) = one_kept w (id_at w holder.0) (λ id. after_splat w id cell) (λ id. splat_kept w id cell)
move_kept w (moves.Post at) = one_kept w (id_at w at.0) (after_post w) (λ id. refl)
move_kept w (moves.Commit at words pool) = refl
move_kept w (moves.Alloc at words pool) = refl
move_kept w (moves.Free at) =
    one_kept w (id_at w at.0) (λ id. after_free w id at.0) (λ id. ap references_in (free_kept w id at.0))

pub references_kept : (w : World) (ms : List Move) → references_in (world_after_moves w ms).graph.objects ≡ references_in w.graph.objects
references_kept w [] = refl
references_kept w (m ∷ ms) = references_kept (world_after_move w m) ms ∙ move_kept w m

-- ---- a reference is found again

-- a cell that is a reference in one list is one in another that has references in the same places
reference_again : (cells others : List Cell) (k : ℕ) (target : Option ℕ) → map is_reference_cell others ≡ map is_reference_cell cells
    → reference_at cells k ≡ Ok target → (now : Option ℕ) × (reference_at others k ≡ Ok now)
reference_again cells others k target same e =
    of_cells (slice_get cells k) (slice_get others k) e
    (sym (slice_get-map is_reference_cell others k) ∙ ap (λ bs. slice_get bs k) same ∙ slice_get-map is_reference_cell cells k)
  where
    of_other : (o : Option Cell) → option_map is_reference_cell o ≡ Some true
        → (now : Option ℕ) × ((required o refusal.BadIndex >>= reference_in) ≡ Ok now)
    of_other None e = absurd (none-some true e)
    of_other (Some HeadCell) e = absurd cc
    of_other (Some (NumberCell number)) e = absurd cc
    of_other (Some (ReferenceCell now tag)) e = (now, refl)

    of_cells : (o other : Option Cell) → (required o refusal.BadIndex >>= reference_in) ≡ Ok target
        → option_map is_reference_cell other ≡ option_map is_reference_cell o
        → (now : Option ℕ) × ((required other refusal.BadIndex >>= reference_in) ≡ Ok now)
    of_cells None other e same = absurd cc
    of_cells (Some HeadCell) other e same = absurd cc
    of_cells (Some (NumberCell number)) other e same = absurd cc
    of_cells (Some (ReferenceCell old tag)) other e same = of_other other same

-- an object that is found, with a reference in cell k, is found after moves, and has one there
pub found_again : (w v : World) (target : Option ℕ) (n : Numbered Object) (k : ℕ) (old : Option ℕ)
    → references_in v.graph.objects ≡ references_in w.graph.objects → object_in w target ≡ Ok n
    → target ≡ Some n.number → object_at w.graph n.number ≡ Some n.value → reference_at (cells_of_body n.value.body) k ≡ Ok old
    → (now : Numbered Object) × (object_in v target ≡ Ok now)
    × ((read : Option ℕ) × (reference_at (cells_of_body now.value.body) k ≡ Ok read))
found_again w v target n k old same found is there reads =
    of_object (object_at v.graph n.number) refl
    (sym (slice_get-map (λ (x : Object). references_of x.body) v.graph.objects n.number)
    ∙ ap (λ xs. slice_get xs n.number) same ∙ slice_get-map (λ (x : Object). references_of x.body) w.graph.objects n.number
    ∙ ap (option_map (λ (x : Object). references_of x.body)) there)
  where
    of_object : (o : Option Object) → object_at v.graph n.number ≡ o
        → option_map (λ (x : Object). references_of x.body) o ≡ Some (references_of n.value.body)
        → (now : Numbered Object) × (object_in v target ≡ Ok now)
        × ((read : Option ℕ) × (reference_at (cells_of_body now.value.body) k ≡ Ok read))
    of_object None e h = absurd (none-some (references_of n.value.body) h)
    of_object (Some o) e h =
        let now : Numbered Object = record { number = n.number; value = o } in
        let alike : references_of o.body ≡ references_of n.value.body = same_Some (references_of o.body) (references_of n.value.body) h in (
          now,
          ap (object_in v) is
              ∙ ap (λ x. required x refusal.NullRef >>= (λ (value : Object). Ok (record { number = n.number; value = value }))) e,
          reference_again (cells_of_body n.value.body) (cells_of_body o.body) k old alike reads,
        )
