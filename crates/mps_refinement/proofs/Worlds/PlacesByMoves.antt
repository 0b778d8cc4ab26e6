-- What moves leave of the places of tables of blocks, of how many objects there are and of the pools.
use Rattle.std.proofs.Common.{◌≡◌, ◌∙◌, ℕ, true, false, refl, ap, List, [], ◌∷◌, length, Option, Some, None}
use Rattle.std.specs.Prelude.{if◌then◌else◌, slice_set}
use Rattle.std.specs.Option.{option_map_or}
use Rattle.mps_base.specs.Segment.{Segment, words_of_segment}
use Rattle.mps_base.specs.declared.moves.Move.{Move}
use Rattle.mps_base.specs.declared.moves.Move.TheVariants as moves
use Rattle.mps_model.specs.declared.call.Call.{Call}
use Rattle.mps_model.specs.declared.call.Call.TheVariants as call
use Rattle.mps_model.specs.Graph.{Graph, Object, Cell, Slots, ids_in_caches, object_at, object_with_cells, graph_with_cells, is_automatic, with_target_cell}
use Rattle.mps_model.specs.World.{World, Pool, id_at, is_copying_pool, object_is, with_tail}
use Rattle.mps_model.specs.Checked.{as_point, number_named}
use Rattle.mps_model.specs.Effect.{world_after_move, world_after_moves, after_segment, after_free, after_moved, after_post, after_splat, holding, where_one, with_collection, reclaiming, segment_base_of, segment_of_move, placing, graph_nulled, without_object}
use Rattle.mps_model.specs.Policy.{units_asked}
use Rattle.mps_model.specs.History.{after_own_segment, asking, moved_world, moves_of_poll, own_segment, rank_of_point, with_buffer}
use Rattle.mps_laws.proofs.Lookups.{length-slice_set}
use Rattle.mps_model.proofs.Nulled.{splatted_holds}

-- the places of tables of blocks, the blocks in caches, how many objects were made, and the pools
pub record Places : Type 0 where
  pub blocks : List Slots
  pub cached : List ℕ
  pub made : ℕ
  pub pools : List Pool

abbrev pub places_of : World → Places
places_of w = record { blocks = w.graph.blocks; cached = ids_in_caches w.graph; made = length w.graph.objects; pools = w.pools }

-- ---- moves

one_kept : (w : World) (o : Option ℕ) (change : ℕ → World) → ((id : ℕ) → places_of (change id) ≡ places_of w)
    → places_of (where_one w o change) ≡ places_of w
one_kept w None change each = refl
one_kept w (Some id) change each = each id

free_kept : (w : World) (id at : ℕ) → places_of (after_free w id at) ≡ places_of w
free_kept w id at =
    elim (object_is is_automatic w id) as (λ b. places_of (if b then with_collection (without_object w id) (reclaiming
    (segment_base_of w at))
    else without_object w id) ≡ places_of w) [
      | true ↦ refl
      | false ↦ refl
    ]

segment_kept : (w : World) (s : Segment) → places_of (after_segment w s) ≡ places_of w
segment_kept w s =
    elim (is_copying_pool w s.pool) as (λ b. places_of (if b then with_tail (holding w s) s.pool s.generation (words_of_segment s)
    else holding w s) ≡ places_of w) [
      | true ↦ refl
      | false ↦ refl
    ]

-- a change of cells makes no object
cells_made : (g : Graph) (id : ℕ) (change : List Cell → List Cell) → length (graph_with_cells g id change).objects ≡ length g.objects
cells_made g id change = of_one (object_at g id)
  where
    of_one : (o : Option Object)
        → length (option_map_or (λ (x : Object). slice_set g.objects id (object_with_cells x change)) o g.objects) ≡ length g.objects
    of_one None = refl
    of_one (Some x) = length-slice_set g.objects id (object_with_cells x change)

splat_kept : (w : World) (id cell : ℕ) → places_of (after_splat w id cell) ≡ places_of w
splat_kept w id cell =
    let first = cells_made w.graph id (λ cells. with_target_cell cells cell None) in
    ap (λ n. record (places_of w) { made = n })
    (splatted_holds (λ g. length g.objects ≡ length w.graph.objects) w.graph id cell first (λ dependent.
    cells_made (graph_nulled w.graph id cell) dependent (λ cells. with_target_cell cells cell None) ∙ first))

move_kept : (w : World) (m : Move) → places_of (world_after_move w m) ≡ places_of w
move_kept w (moves.Seg base grains pool generation) = segment_kept w (segment_of_move base.0 grains pool generation)
move_kept w (moves.Unseg base) = refl
move_kept w (moves.Flip zones chain generation) = refl
move_kept w moves.End = refl
move_kept w (moves.Moved from to) = one_kept w (id_at w from.0) (λ id. after_moved w id to.0) (λ id. refl)
move_kept w (moves.Stay at) = one_kept w (id_at w at.0) (λ id. with_collection w (placing id)) (λ id. refl)
move_kept w (moves.Splat holder cell) = one_kept w (id_at w holder.0) (λ id. after_splat w id cell) (λ id. splat_kept w id cell)
move_kept w (moves.Post at) = one_kept w (id_at w at.0) (after_post w) (λ id. refl)
move_kept w (moves.Commit at words pool) = refl
move_kept w (moves.Alloc at words pool) = refl
move_kept w (moves.Free at) = one_kept w (id_at w at.0) (λ id. after_free w id at.0) (λ id. free_kept w id at.0)

moves_kept : (w : World) (ms : List Move) → places_of (world_after_moves w ms) ≡ places_of w
moves_kept w [] = refl
moves_kept w (m ∷ ms) = moves_kept (world_after_move w m) ms ∙ move_kept w m

asked_kept : (units : Option ℕ) (w : World) → places_of (asking units w) ≡ places_of w
asked_kept None w = refl
asked_kept (Some units) w = refl

own_kept : (w : World) (ms : List Move) (number : Option ℕ) → places_of (after_own_segment w ms number) ≡ places_of w
own_kept w (moves.Seg base grains pool generation ∷ ms) (Some point) =
    elim (is_copying_pool w pool) as (λ b. places_of (if b then record (holding w
    (record (segment_of_move base.0 grains pool generation) { rank = rank_of_point w point })) {
      point_memories = with_buffer w.point_memories point (words_of_segment (segment_of_move base.0 grains pool generation));
    } else holding w (record (segment_of_move base.0 grains pool generation) { rank = rank_of_point w point })) ≡ places_of w) [
      | true ↦ refl
      | false ↦ refl
    ]
own_kept w _ _ = refl

pub moved_kept : (w : World) (c : Call) (ms : List Move) → places_of (moved_world w c ms) ≡ places_of w
moved_kept w (call.Reserve name head) ms =
    asked_kept (units_asked w (call.Reserve name head))
    (after_own_segment (world_after_moves w (moves_of_poll ms)) (own_segment ms) (number_named w name as_point))
    ∙ own_kept (world_after_moves w (moves_of_poll ms)) (own_segment ms) (number_named w name as_point)
    ∙ moves_kept w (moves_of_poll ms)
moved_kept w (call.Step units) ms = asked_kept (units_asked w (call.Step units)) (world_after_moves w ms) ∙ moves_kept w ms
moved_kept w _ ms = moves_kept w ms
