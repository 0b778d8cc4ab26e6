-- What the moves of one collection do where objects have dependents, told from what they do where none has one: cells of dependents
-- are cleared besides, and pairs end.
use Rattle.std.specs.Prelude.{◌≡◌, ℕ, Bool, true, false, not, Option, Some, None, option_map, option_and_then, List, [], ◌∷◌, slice_get, slice_set, IsTrue, refl}
use Rattle.std.specs.List.{list_all}
use Rattle.std.specs.Option.{option_map_or}
use Rattle.mps_base.specs.Address.{Id}
use Rattle.mps_base.specs.declared.moves.Move.{Move}
use Rattle.mps_base.specs.declared.moves.Move.TheVariants as moves
use Rattle.mps_base.specs.declared.names.Slot.{Slot}
use Rattle.mps_model.specs.Graph.{Object, Automatic, HeadCell, NumberCell, ReferenceCell, dependent_in, empty_graph, object_with_cells, with_target_cell, without_named}
use Rattle.mps_model.specs.Collection.{Collection}
use Rattle.mps_model.specs.World.{World, empty_world, id_at}
use Rattle.mps_model.specs.Answer.{Answer}
use Rattle.mps_model.specs.WellFormed.{is_right_pair}
use Rattle.mps_model.specs.Effect.{Condemnation, world_after_move, world_after_moves}
use Rattle.mps_model.specs.Flip.{flip_act}
use Rattle.mps_model.specs.LegalMove.{AreLegalMoves}
use Rattle.mps_model.specs.History.{AreMovesOfGet, AreMovesOfStep, FinishesCollection, HeldAreLive, IsFullCollection, IsPoll, are_held_kept, asking, has_units_left, with_client_remembered}
use Rattle.mps_laws.specs.Staying.{is_flip}

-- a cell of an object
abbrev pub CellOf : Type 0
CellOf = Id × ℕ

-- what moves did besides: the pairs that are left, the cells of dependents that were cleared, the last one first, and the pairs that
-- there were at the flip, if it was one of the moves
pub record Following : Type 0 where
  pub pairs : List (Id × Id)
  pub cells : List CellOf
  pub at_flip : Option (List (Id × Id))

-- the world without pairs
abbrev pub unpaired : World → World
unpaired w = record w { graph = record w.graph { dependents = [] } }

-- before any move
abbrev pub nothing_followed : World → Following
nothing_followed w = record { pairs = w.graph.dependents; cells = []; at_flip = None }

-- ---- what is cleared

-- objects, where the reference in a cell of one of them is null
abbrev pub objects_nulled : List Object → (id cell : ℕ) → List Object
objects_nulled os id cell =
    option_map_or (λ o. slice_set os id (object_with_cells o (λ cells. with_target_cell cells cell None))) (slice_get os id) os

-- objects, where the references in some cells are null
abbrev pub objects_cleared : List Object → List CellOf → List Object
objects_cleared os [] = os
objects_cleared os (c ∷ cs) = objects_nulled (objects_cleared os cs) c.0 c.1

-- the graph at the flip of a collection had these pairs, if they are given
abbrev pub paired_at_flip : Option (List (Id × Id)) → Collection → Collection
paired_at_flip pairs c =
    record c { graph_at_flip = record c.graph_at_flip { dependents = option_map_or (λ ps. ps) pairs c.graph_at_flip.dependents } }

-- a world without pairs, with what was done besides
abbrev pub followed : World → Following → World
followed w f = record w {
  graph = record w.graph { objects = objects_cleared w.graph.objects f.cells; dependents = f.pairs };
  collection = option_map (paired_at_flip f.at_flip) w.collection;
}

-- ---- moves

-- a cell of the dependent of a holder is cleared, if it has one
abbrev pub clearing : (cell : ℕ) → (dependent : Option ℕ) → Following → Following
clearing cell None f = f
clearing cell (Some dependent) f = record f { cells = (dependent, cell) ∷ f.cells }

-- the pairs of an object end, if there is one
abbrev pub ending : Option ℕ → Following → Following
ending None f = f
ending (Some id) f = record f { pairs = without_named f.pairs id }

-- what a move in a world without pairs does besides: a splat clears the cell of its holder's dependent, and a free ends the pairs of its
-- object
abbrev pub following_move : World → Following → Move → Following
following_move w f (moves.Flip zones chain generation) = record f { at_flip = Some f.pairs }
following_move w f (moves.Splat holder cell) = clearing cell (option_and_then (dependent_in f.pairs) (id_at w holder.0)) f
following_move w f (moves.Free at) = ending (id_at w at.0) f
following_move w f _ = f

-- what moves do besides, one after the other
abbrev pub following : World → Following → List Move → Following
following w f [] = f
following w f (m ∷ ms) = following (world_after_move w m) (following_move w f m) ms

-- ---- moves of one collection

-- none of these is a flip
abbrev pub none_flips : List Move → Bool
none_flips ms = list_all (λ m. not (is_flip m)) ms

-- none but the first is a flip
abbrev pub are_of_one : List Move → Bool
are_of_one [] = true
are_of_one (m ∷ ms) = none_flips ms

-- ---- the laws

-- each pair is of two live objects, the second of which may be the dependent of the first: a law of each reached world
abbrev pub ArePairsRight : World → Type 0
ArePairsRight w = IsTrue (list_all (is_right_pair w) w.graph.dependents)

-- moves are legal from a world, and lead where they lead from the world without pairs, with what they do besides
pub record AreFollowed (w : World) (before : Option Move) (ms : List Move) : Type 0 where
  pub legal : AreLegalMoves w before ms
  pub leads : world_after_moves w ms ≡ followed (world_after_moves (unpaired w) ms) (following (unpaired w) (nothing_followed w) ms)

-- so they are, if they are of one collection and legal from the world without pairs
abbrev pub SplatsFollow : Type 0
SplatsFollow =
    (w : World) (before : Option Move) (ms : List Move) → ArePairsRight w → IsTrue (are_of_one ms) → AreLegalMoves (unpaired w) before ms
    → AreFollowed w before ms

-- moves of one collection that are due of a call in the world without pairs
pub record AreDueAlike (w : World) (ms : List Move) : Type 0 where
  pub step : (units : ℕ) → AreMovesOfStep (unpaired w) units ms → IsTrue (are_of_one ms) × AreMovesOfStep w units ms
  pub get : (source : Slot) (answer : Answer) → AreMovesOfGet (unpaired w) source answer ms
      → IsTrue (are_of_one ms) × AreMovesOfGet w source answer ms
  pub poll : IsPoll (unpaired w) ms → IsTrue (are_of_one ms) × IsPoll w ms
  pub finish : FinishesCollection (unpaired w) ms → IsTrue (are_of_one ms) × FinishesCollection w ms
  pub full : IsFullCollection (unpaired w) ms → IsTrue (are_of_one ms) × IsFullCollection w ms

-- are due of it in the world too, if they are legal there
abbrev pub DueMovesFollow : Type 0
DueMovesFollow =
    (w : World) (before : Option Move) (ms : List Move) → ArePairsRight w → AreLegalMoves (unpaired w) before ms → AreDueAlike w ms

-- the act of a flip is the same with pairs and without them, and of one collection
pub record IsSameAct (w : World) (what : Condemnation) : Type 0 where
  pub same : flip_act w what ≡ flip_act (unpaired w) what
  pub of_one : IsTrue (are_of_one (flip_act w what))

abbrev pub FlipActsAreSame : Type 0
FlipActsAreSame = (w : World) (what : Condemnation) → IsSameAct w what

-- what a legal step asks of the world that it leaves is true of a world with what was done besides, if it is true of the world
pub record StaysRight (w : World) (f : Following) : Type 0 where
  pub held : HeldAreLive w → HeldAreLive (followed w f)
  pub held_kept : are_held_kept (followed w f) ≡ are_held_kept w
  pub units_left : has_units_left (followed w f) ≡ has_units_left w
  pub asked : (units : Option ℕ) → asking units (followed w f) ≡ followed (asking units w) f
  pub remembered : with_client_remembered (followed w f) ≡ followed (with_client_remembered w) f

abbrev pub FollowedWorldsStayRight : Type 0
FollowedWorldsStayRight = (w : World) (f : Following) → StaysRight w f

-- ---- vectors: object 0 is weak and refers to object 2, as does its dependent, object 1

abbrev reference_to : (target : Option ℕ) (is_weak : Bool) → Object
reference_to target is_weak =
    record { pool = 0; body = Automatic 0x100000301 (HeadCell ∷ ReferenceCell target 3 ∷ NumberCell 7 ∷ []) is_weak }

abbrev three_objects : (pairs : List (Id × Id)) → World
three_objects pairs = record empty_world {
  graph = record empty_graph {
    objects = reference_to (Some 2) true ∷ reference_to (Some 2) false ∷ reference_to None false ∷ [];
    dependents = pairs;
  };
  addresses = Some 0x1000 ∷ Some 0x2000 ∷ Some 0x3000 ∷ [];
}

-- a splat of the holder's reference, and the free of what it referred to
abbrev splat_and_free : List Move
splat_and_free = moves.Splat (record { 0 = 0x1000 }) 1 ∷ moves.Free (record { 0 = 0x3000 }) ∷ []

abbrev a_pair : World
a_pair = three_objects ((0, 1) ∷ [])

pub the_dependent_is_cleared : (following (unpaired a_pair) (nothing_followed a_pair) splat_and_free).cells ≡ (1, 1) ∷ []
the_dependent_is_cleared = refl

pub the_pair_is_left : (following (unpaired a_pair) (nothing_followed a_pair) splat_and_free).pairs ≡ (0, 1) ∷ []
the_pair_is_left = refl

pub it_leads_there : world_after_moves a_pair splat_and_free
    ≡ followed (world_after_moves (unpaired a_pair) splat_and_free) (following (unpaired a_pair) (nothing_followed a_pair) splat_and_free)
it_leads_there = refl

pub a_free_of_the_holder_ends_the_pair :
    (following (unpaired a_pair) (nothing_followed a_pair) (moves.Free (record { 0 = 0x1000 }) ∷ [])).pairs ≡ []
a_free_of_the_holder_ends_the_pair = refl

pub no_cell_is_cleared_without_a_pair :
    (following (three_objects []) (nothing_followed (three_objects [])) splat_and_free).cells ≡ (1, 1) ∷ [] → ⊥
no_cell_is_cleared_without_a_pair e = absurd cc

pub a_number_is_not_cleared : objects_cleared (reference_to (Some 2) false ∷ []) ((0, 2) ∷ (0, 0) ∷ []) ≡ reference_to (Some 2) false ∷ []
a_number_is_not_cleared = refl

pub a_second_flip_is_of_another : (f : Move) → is_flip f ≡ true → are_of_one (moves.End ∷ f ∷ []) ≡ true → ⊥
a_second_flip_is_of_another (moves.Flip zones chain generation) e h = absurd cc
a_second_flip_is_of_another (moves.Seg base grains pool generation) e h = absurd cc
a_second_flip_is_of_another (moves.Unseg base) e h = absurd cc
a_second_flip_is_of_another moves.End e h = absurd cc
a_second_flip_is_of_another (moves.Moved from to) e h = absurd cc
a_second_flip_is_of_another (moves.Stay at) e h = absurd cc
a_second_flip_is_of_another (moves.Splat holder cell) e h = absurd cc
a_second_flip_is_of_another (moves.Post at) e h = absurd cc
a_second_flip_is_of_another (moves.Commit at words pool) e h = absurd cc
a_second_flip_is_of_another (moves.Alloc at words pool) e h = absurd cc
a_second_flip_is_of_another (moves.Free at) e h = absurd cc
