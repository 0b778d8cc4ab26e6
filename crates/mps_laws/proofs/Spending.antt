-- No more units are asked of a running collection than it may take: moves ask none, and a collection of which all were asked has ended when
-- the step ends.
use Rattle.std.proofs.Common.{◌≡◌, ◌∙◌, ℕ, true, false, refl, ap, List, [], ◌∷◌, Option, Some, None, arith}
use Rattle.std.proofs.lemmas.Bool.{le-leb, ltb-true}
use Rattle.std.specs.Prelude.{if◌then◌else◌, nat_le, nat_lt, option_map}
use Rattle.std.specs.Option.{option_map_or}
use Rattle.mps_base.specs.Segment.{Segment, words_of_segment}
use Rattle.mps_base.specs.declared.moves.Move.{Move}
use Rattle.mps_base.specs.declared.moves.Move.TheVariants as moves
use Rattle.mps_model.specs.Graph.{contains, is_automatic, without_first}
use Rattle.mps_model.specs.Collection.{Collection}
use Rattle.mps_model.specs.World.{World, id_at, is_copying_pool, object_is, with_tail}
use Rattle.mps_model.specs.Effect.{after_free, after_moved, after_post, after_segment, after_splat, giving_back, holding, placing, posting, reclaiming, registration_of, segment_base_of, segment_of_move, splatting, where_one, with_collection, without_object, world_after_move, world_after_moves}
use Rattle.mps_model.specs.History.{has_units_left}

abbrev SpendsNoMore : Option Collection → Type 0
SpendsNoMore o = option_map_or (λ c. nat_le c.spent c.units) o true ≡ true

abbrev pub SpendsWithin : World → Type 0
SpendsWithin w = SpendsNoMore w.collection

-- as each step leaves it
pub spends_within : (w : World) → has_units_left w ≡ true → SpendsWithin w
spends_within w h = of_collection w.collection h
  where
    of_collection : (o : Option Collection) → option_map_or (λ c. nat_lt c.spent c.units) o true ≡ true → SpendsNoMore o
    of_collection None k = refl
    of_collection (Some c) k = let low = ltb-true c.spent c.units k in le-leb c.spent c.units (omega (arith, low))

changed : (change : Collection → Collection) → ((c : Collection) → (change c).spent ≡ c.spent)
    → ((c : Collection) → (change c).units ≡ c.units) → (o : Option Collection) → SpendsNoMore o → SpendsNoMore (option_map change o)
changed change spent units None h = refl
changed change spent units (Some c) h = ap (λ n. nat_le n (change c).units) (spent c) ∙ ap (nat_le c.spent) (units c) ∙ h

-- a segment that is given back may be a condemned one
pub given_back : (Holds : Collection → Type 0) (base : ℕ) (c : Collection)
    → Holds (reclaiming base (record c { condemned_segments = without_first c.condemned_segments base })) → Holds c
    → Holds (giving_back base c)
given_back Holds base c h k =
    elim (contains c.condemned_segments base) as (λ b. Holds (if b then reclaiming base (record c {
      condemned_segments = without_first c.condemned_segments base;
    }) else c)) [
      | true ↦ h
      | false ↦ k
    ]

one_spends : (w : World) (o : Option ℕ) (change : ℕ → World) → SpendsWithin w → ((id : ℕ) → SpendsWithin (change id))
    → SpendsWithin (where_one w o change)
one_spends w None change h each = h
one_spends w (Some id) change h each = each id

free_spends : (w : World) (id at : ℕ) → SpendsWithin w → SpendsWithin (after_free w id at)
free_spends w id at h =
    elim (object_is is_automatic w id) as (λ b. SpendsWithin (if b then with_collection (without_object w id)
    (reclaiming (segment_base_of w at)) else without_object w id)) [
      | true ↦ changed (reclaiming (segment_base_of w at)) (λ c. refl) (λ c. refl) w.collection h
      | false ↦ h
    ]

segment_spends : (w : World) (s : Segment) → SpendsWithin w → SpendsWithin (after_segment w s)
segment_spends w s h =
    elim (is_copying_pool w s.pool) as (λ b. SpendsWithin (if b then with_tail (holding w s) s.pool s.generation (words_of_segment s)
    else holding w s)) [
      | true ↦ h
      | false ↦ h
    ]

move_spends : (w : World) (m : Move) → SpendsWithin w → SpendsWithin (world_after_move w m)
move_spends w (moves.Seg base grains pool generation) h = segment_spends w (segment_of_move base.0 grains pool generation) h
move_spends w (moves.Unseg base) h =
    changed (giving_back base.0) (λ c. given_back (λ x. x.spent ≡ c.spent) base.0 c refl refl)
    (λ c. given_back (λ x. x.units ≡ c.units) base.0 c refl refl) w.collection h
move_spends w (moves.Flip zones chain generation) h = le-leb 0 _ (omega arith)
move_spends w moves.End h = refl
move_spends w (moves.Moved from to) h =
    one_spends w (id_at w from.0) (λ id. after_moved w id to.0) h (λ id. changed (placing id) (λ c. refl) (λ c. refl) w.collection h)
move_spends w (moves.Stay at) h =
    one_spends w (id_at w at.0) (λ id. with_collection w (placing id)) h (λ id.
    changed (placing id) (λ c. refl) (λ c. refl) w.collection h)
move_spends w (moves.Splat holder cell) h =
    one_spends w (id_at w holder.0) (λ id. after_splat w id cell) h (λ id. changed splatting (λ c. refl) (λ c. refl) w.collection h)
move_spends w (moves.Post at) h =
    one_spends w (id_at w at.0) (after_post w) h (λ id.
    changed (posting id (registration_of w.graph id)) (λ c. refl) (λ c. refl) w.collection h)
move_spends w (moves.Commit at words pool) h = h
move_spends w (moves.Alloc at words pool) h = h
move_spends w (moves.Free at) h = one_spends w (id_at w at.0) (λ id. after_free w id at.0) h (λ id. free_spends w id at.0 h)

pub moves_spend : (w : World) (ms : List Move) → SpendsWithin w → SpendsWithin (world_after_moves w ms)
moves_spend w [] h = h
moves_spend w (m ∷ ms) h = moves_spend (world_after_move w m) ms (move_spends w m h)
