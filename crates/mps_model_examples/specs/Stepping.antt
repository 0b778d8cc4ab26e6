-- A collection of which one unit is asked at a time, and which takes as many as it may.
use Rattle.std.specs.Prelude.{Some, [], ◌∷◌, ◌++◌}
use Rattle.mps_base.specs.declared.moves.Move.TheVariants as moves
use Rattle.mps_model.specs.declared.reply.Reply.TheVariants as reply
use Rattle.mps_model.specs.Step.{History}
use Rattle.mps_model.specs.World.{World}
use Rattle.mps_model.specs.History.{IsLegalHistory}
use Rattle.mps_model_examples.specs.Script.{address, tail}
use Rattle.mps_model_examples.specs.ReadingOn.{three_in_a_row, row_started, row_collected}
use Rattle.mps_model_examples.specs.Reclaiming.{one_unit}

-- the first unit scans the block in the slot, the second the one that was moved then, the third the last one
abbrev pub row_scanned : History
row_scanned =
    one_unit 15 (moves.Moved (address 0x1018) (address 0x2018) ∷ []) reply.More
    ∷ one_unit 16 (moves.Moved (address 0x1000) (address 0x2030) ∷ []) reply.More
    ∷ []

-- three blocks and a segment: the fourth unit is the last
abbrev pub row_ended : History
row_ended = one_unit 17 [] reply.More ∷ one_unit 18 (moves.Unseg (address 0x1000) ∷ moves.End ∷ []) reply.Idle ∷ []

abbrev pub stepping : History
stepping = three_in_a_row ++ (row_started ++ (row_scanned ++ row_ended))

-- the world in which all three were moved
abbrev pub row_moved_world : World
row_moved_world = row_collected (Some 0x2030 ∷ Some 0x2018 ∷ Some 0x2000 ∷ []) (tail 1033 503) (0 ∷ 1 ∷ 2 ∷ []) (2 ∷ 2 ∷ 2 ∷ []) 2

-- the history is legal
abbrev pub SteppingIsLegal : Type 0
SteppingIsLegal = IsLegalHistory stepping
