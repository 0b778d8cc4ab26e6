-- A point keeps its rank over a step whose call neither makes points nor drops them.
use Rattle.std.proofs.Common.{◌≡◌, ℕ, zero, suc, Bool, true, false, refl, sym, ◌∙◌, ap, List, [], ◌∷◌, map, Option, Some, None}
use Rattle.std.specs.Prelude.{if◌then◌else◌, option_and_then, option_map}
use Rattle.mps_base.specs.Segment.{Segment, words_of_segment}
use Rattle.mps_base.specs.declared.moves.Move.{Move}
use Rattle.mps_base.specs.declared.moves.Move.TheVariants as moves
use Rattle.mps_base.specs.declared.names.Name.{Name}
use Rattle.mps_base.specs.declared.names.Rank.{Rank}
use Rattle.mps_base.specs.declared.refusal.Refusal.TheVariants as refusal
use Rattle.mps_model.specs.Graph.{Graph, NamedThing, Point, Reservation, entry_at, is_automatic, thing_in}
use Rattle.mps_model.specs.World.{World, id_at, is_copying_pool, object_is, with_tail}
use Rattle.mps_model.specs.Allocating.{with_reservation}
use Rattle.mps_model.specs.Checked.{Numbered, ◌>>=◌, as_point, numbered, number_named, point_named, required}
use Rattle.mps_model.specs.Effect.{doomed, holding, reclaiming, segment_base_of, segment_of_move, where_one, with_collection, without_object, world_after_move, world_after_moves}
use Rattle.mps_laws.proofs.Lookups.{entry_is_there, map-slice_set, slice_set-same}
use Rattle.mps_client_laws.proofs.WritesOfMoves.{moves_leave_objects}
use Rattle.mps_heap_examples.specs.Listed.{rank_found}

abbrev pub rank_of_one : Option Point → Option Rank
rank_of_one p = option_map (λ (q : Point). q.rank) p

-- the rank of each point
abbrev pub ranks : Graph → List (Option Rank)
ranks g = map rank_of_one g.points

pub entry_rank : (ps : List (Option Point)) (n : ℕ) → entry_at (map rank_of_one ps) n ≡ rank_of_one (entry_at ps n)
entry_rank [] n = refl
entry_rank (p ∷ ps) zero = refl
entry_rank (p ∷ ps) (suc n) = entry_rank ps n

pub rank_is : (w : World) (name : Name)
    → rank_found (point_named w name) ≡ option_and_then (λ n. entry_at (ranks w.graph) n) (number_named w name as_point)
rank_is w name = by_number (number_named w name as_point)
  where
    by_point : (n : ℕ) (o : Option Point) → rank_found (numbered n o) ≡ rank_of_one o
    by_point n None = refl
    by_point n (Some p) = refl

    by_number : (o : Option ℕ) → rank_found (required o refusal.BadName >>= (λ n. numbered n (entry_at w.graph.points n)))
        ≡ option_and_then (λ n. entry_at (ranks w.graph) n) o
    by_number None = refl
    by_number (Some n) = by_point n (entry_at w.graph.points n) ∙ sym (entry_rank w.graph.points n)

-- points keep their ranks, and names what they name
pub record KeepsRanks (before after : Graph) : Type 0 where
  pub names : after.names ≡ before.names
  pub same : ranks after ≡ ranks before

pub same_rank : (before after : World) (name : Name) → KeepsRanks before.graph after.graph
    → rank_found (point_named after name) ≡ rank_found (point_named before name)
same_rank before after name keeps =
    rank_is after name
    ∙ ap (λ rs. option_and_then (λ n. entry_at rs n) (number_named after name as_point)) keeps.same
    ∙ ap (λ (ns : List NamedThing). option_and_then (λ n. entry_at (ranks before.graph) n) (option_and_then as_point (thing_in ns name)))
    keeps.names
    ∙ sym (rank_is before name)

pub ranks_then : (a b c : Graph) → KeepsRanks a b → KeepsRanks b c → KeepsRanks a c
ranks_then a b c first second = record { names = second.names ∙ first.names; same = second.same ∙ first.same }

-- ---- moves

doomed_ranks : (ps : List (Option Point)) → map rank_of_one (map doomed ps) ≡ map rank_of_one ps
doomed_ranks [] = refl
doomed_ranks (None ∷ ps) = ap (λ rs. None ∷ rs) (doomed_ranks ps)
doomed_ranks (Some p ∷ ps) = ap (λ rs. Some p.rank ∷ rs) (doomed_ranks ps)

module _ (w : World) where
  where_one_ranks : (found : Option ℕ) (change : ℕ → World) → ((id : ℕ) → ranks (change id).graph ≡ ranks w.graph)
      → ranks (where_one w found change).graph ≡ ranks w.graph
  where_one_ranks None change same = refl
  where_one_ranks (Some id) change same = same id

  segment_ranks : (s : Segment) (b : Bool)
      → ranks (if b then with_tail (holding w s) s.pool s.generation (words_of_segment s) else holding w s).graph ≡ ranks w.graph
  segment_ranks s true = refl
  segment_ranks s false = refl

  free_ranks : (id at : ℕ) (b : Bool)
      → ranks (if b then with_collection (without_object w id) (reclaiming (segment_base_of w at)) else without_object w id).graph
      ≡ ranks w.graph
  free_ranks id at true = refl
  free_ranks id at false = refl

  move_ranks : (m : Move) → ranks (world_after_move w m).graph ≡ ranks w.graph
  move_ranks (moves.Seg base grains pool generation) =
      let s = segment_of_move base.0 grains pool generation in segment_ranks s (is_copying_pool w s.pool)
  move_ranks (moves.Unseg base) = refl
  move_ranks (moves.Flip zones chain generation) = doomed_ranks w.graph.points
  move_ranks moves.End = refl
  move_ranks (moves.Moved from to) = where_one_ranks (id_at w from.0) _ (λ id. refl)
  move_ranks (moves.Stay at) = where_one_ranks (id_at w at.0) _ (λ id. refl)
  move_ranks (moves.Splat holder cell) = where_one_ranks (id_at w holder.0) _ (λ id. refl)
  move_ranks (moves.Post at) = where_one_ranks (id_at w at.0) _ (λ id. refl)
  move_ranks (moves.Commit at words pool) = refl
  move_ranks (moves.Alloc at words pool) = refl
  move_ranks (moves.Free at) = where_one_ranks (id_at w at.0) _ (λ id. free_ranks id at.0 (object_is is_automatic w id))

all_ranks : (w : World) (ms : List Move) → ranks (world_after_moves w ms).graph ≡ ranks w.graph
all_ranks w [] = refl
all_ranks w (m ∷ ms) = all_ranks (world_after_move w m) ms ∙ move_ranks w m

pub moves_keep_ranks : (w : World) (ms : List Move) → KeepsRanks w.graph (world_after_moves w ms).graph
moves_keep_ranks w ms = record { names = (moves_leave_objects w ms).names; same = all_ranks w ms }

-- ---- a reservation at a point

pub reserving_keeps : (g : Graph) (p : Numbered Point) (r : Option Reservation) → entry_at g.points p.number ≡ Some p.value
    → KeepsRanks g (with_reservation g p r)
reserving_keeps g p r there = record {
  names = refl;
  same = map-slice_set rank_of_one g.points p.number (Some (record p.value { reservation = r }))
      ∙ sym (map-slice_set rank_of_one g.points p.number (Some p.value))
      ∙ ap (map rank_of_one) (slice_set-same g.points p.number (Some p.value) (entry_is_there g.points p.number p.value there));
}
