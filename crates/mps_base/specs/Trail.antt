-- A trail of moves in memory that was reserved.
use Rattle.std.specs.Prelude.{ℕ, ◌≡◌, ◌+◌, ◌-◌, List, [], ◌∷◌, ◌++◌, length, refl}
use Rattle.mps_base.specs.declared.moves.Move.{Move}
use Rattle.mps_base.specs.declared.moves.Move.TheVariants.{End}

pub record Moves : Type 0 where
  pub moves : List Move
  -- how many more it takes
  pub spare : ℕ

-- one move more at the end
abbrev pub with_move : Moves → Move → Moves
with_move trail m = record { moves = trail.moves ++ m ∷ []; spare = trail.spare - 1 }

-- no move, and all of the room spare
abbrev pub emptied : Moves → Moves
emptied trail = record { moves = []; spare = trail.spare + length trail.moves }

pub a_move_takes_its_room : with_move (record { moves = []; spare = 2 }) End ≡ record { moves = End ∷ []; spare = 1 }
a_move_takes_its_room = refl

pub and_gives_it_back : emptied (record { moves = End ∷ []; spare = 1 }) ≡ record { moves = []; spare = 2 }
and_gives_it_back = refl
