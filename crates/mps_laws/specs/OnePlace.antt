-- A manual block is in one place of a table of blocks, or in one cache, and in no other.
use Rattle.std.specs.Prelude.{◌≡◌, ℕ, ◌≤◌, Some, None, [], ◌∷◌, ◌++◌, refl}
use Rattle.mps_base.specs.Address.{Id}
use Rattle.mps_model.specs.Layout.{Layout}
use Rattle.mps_model.specs.Step.{History}
use Rattle.mps_model.specs.Graph.{Graph, empty_graph, ids_in_blocks, occurrences}
use Rattle.mps_model.specs.History.{IsLegalHistoryOf}
use Rattle.mps_laws.specs.Replay.{reached}

-- After each step of a legal history no block is in two of the places of tables of blocks and of caches.
abbrev pub BlocksAreInOnePlace : Type 0
BlocksAreInOnePlace =
    (formats : ℕ → Layout) (steps later : History) (id : Id) → IsLegalHistoryOf formats (steps ++ later)
    → occurrences (ids_in_blocks (reached formats steps).graph) id ≤ 1

-- ---- vectors

-- the block 3 in a place, and the blocks 5 and this one in a cache
abbrev two_blocks : (cached : Id) → Graph
two_blocks cached = record empty_graph {
  blocks = (None ∷ Some 3 ∷ []) ∷ [];
  caches = record { pool = 0; classes = record { words = 4; limit = 2; cached = 5 ∷ cached ∷ [] } ∷ [] } ∷ [];
}

pub in_a_place_alone : occurrences (ids_in_blocks (two_blocks 4)) 3 ≡ 1
in_a_place_alone = refl

pub in_a_place_and_in_a_cache : occurrences (ids_in_blocks (two_blocks 3)) 3 ≡ 2
in_a_place_and_in_a_cache = refl

pub twice_in_a_cache : occurrences (ids_in_blocks (two_blocks 5)) 5 ≡ 2
twice_in_a_cache = refl
