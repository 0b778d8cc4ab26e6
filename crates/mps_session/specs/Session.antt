-- What a session has: a heap and the moves of its last call, once the arena was made.
use Rattle.std.specs.Prelude.{ℕ, ◌+◌, ◌*◌, ◌≤◌, List, [], length, Option, Some, None}
use Rattle.mps_base.specs.Trail.{Moves}
use Rattle.mps_base.specs.declared.moves.Move.{Move}
use Rattle.mps_format.specs.declared.any.AnyFormat.{AnyFormat}
use Rattle.mps_refinement.specs.State.{HeapState}
use Rattle.mps_refinement.specs.TraceCollect.{most_moves}

pub record MadeState : Type 0 where
  pub heap : HeapState AnyFormat
  pub trail : Moves

-- the trail has room for the moves of one call in an arena of these grains: a `collect` makes the most, those of two collections
abbrev pub HasRoomForMoves : (grains : ℕ) → Moves → Type 0
HasRoomForMoves grains trail = 2 * most_moves grains ≤ trail.spare + length trail.moves

abbrev pub last_moves : Option MadeState → List Move
last_moves None = []
last_moves (Some made) = made.trail.moves

-- the words of the arena
abbrev pub arena_words : Option MadeState → List ℕ
arena_words None = []
arena_words (Some made) = made.heap.segs.words
