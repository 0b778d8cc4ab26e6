-- A block that stands in the frames of a pool is live, and in one place.
use Rattle.std.specs.Prelude.{◌≡◌, ℕ, ◌≤◌, IsTrue, Some, None, [], ◌∷◌, refl}
use Rattle.mps_base.specs.Address.{Id}
use Rattle.mps_model.specs.Layout.{Layout}
use Rattle.mps_model.specs.Step.{History}
use Rattle.mps_model.specs.Graph.{Graph, empty_graph, ids_in_frames, ids_in_places, occurrences}
use Rattle.mps_model.specs.World.{World, is_live}
use Rattle.mps_model.specs.History.{IsLegalHistoryOf}
use Rattle.mps_laws.specs.Replay.{reached}
use Rattle.mps_laws.specs.WellFormed.{is_arena_made_once}

-- a block is live, and stands in exactly one place of a table of blocks
pub record IsStanding (w : World) (id : Id) : Type 0 where
  pub live : IsTrue (is_live w id)
  pub in_one_place : occurrences (ids_in_places w.graph) id ≡ 1

-- In each world that a legal history reaches, each block that stands in the frames of a pool is standing, if the arena is made once.
abbrev pub BlocksOfFramesStand : Type 0
BlocksOfFramesStand =
    (formats : ℕ → Layout) (history : History) (id : Id) → IsTrue (is_arena_made_once history) → IsLegalHistoryOf formats history
    → 1 ≤ occurrences (ids_in_frames (reached formats history).graph) id → IsStanding (reached formats history) id

-- ---- vectors

-- a pool of frames has the blocks 3 and 5; the one stands in a place, the other doesn't
abbrev one_of_two : Graph
one_of_two = record empty_graph {
  blocks = (None ∷ Some 3 ∷ []) ∷ [];
  frames = record { pool = 0; blocks = 3 ∷ 5 ∷ []; opened = 1 ∷ [] } ∷ [];
}

pub both_stand_in_frames : (occurrences (ids_in_frames one_of_two) 3 ≡ 1) × (occurrences (ids_in_frames one_of_two) 5 ≡ 1)
both_stand_in_frames = (refl, refl)

pub one_stands_in_a_place : occurrences (ids_in_places one_of_two) 3 ≡ 1
one_stands_in_a_place = refl

pub the_other_stands_in_none : occurrences (ids_in_places one_of_two) 5 ≡ 0
the_other_stands_in_none = refl
