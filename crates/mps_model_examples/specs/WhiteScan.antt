-- Neither a unit nor a read barrier scans a block of a copying pool that nothing keeps, and moves what it refers to.
use Rattle.std.specs.Prelude.{List, [], ◌∷◌, ◌++◌}
use Rattle.mps_base.specs.declared.moves.Move.{Move}
use Rattle.mps_base.specs.declared.moves.Move.TheVariants as moves
use Rattle.mps_base.specs.declared.names.Kind.TheVariants as kind
use Rattle.mps_base.specs.declared.names.Rank.TheVariants as rank
use Rattle.mps_model.specs.declared.call.Call.TheVariants as call
use Rattle.mps_model.specs.declared.reply.Reply.TheVariants as reply
use Rattle.mps_model.specs.Step.{Step, History}
use Rattle.mps_model_examples.specs.Script.{a, t, w, x, y, at_index, address, zones, step}
use Rattle.mps_model_examples.specs.OneBlock.{prelude}
use Rattle.mps_model_examples.specs.KeptReferences.{link_head, IsTwin}

-- of two dropped blocks the second, at 0x1010, refers to the first, and a weak object at 0x2000 to the second
abbrev pub garbage_chain : History
garbage_chain =
    prelude
    ++ step 5 (call.Reserve x 0x201) (moves.Seg (address 0x1000) 1 0 0 ∷ []) reply.Ok
    ∷ step 6 (call.Commit x (at_index t 0)) (moves.Commit (address 0x1000) 2 0 ∷ []) reply.Ok
    ∷ step 7 (call.Reserve x link_head) [] reply.Ok
    ∷ step 8 (call.InitReference x 1 (at_index t 0)) [] reply.Ok
    ∷ step 9 (call.Commit x (at_index t 0)) (moves.Commit (address 0x1010) 2 0 ∷ []) reply.Ok
    ∷ step 10 (call.Pool w kind.Awl 1) [] reply.Ok
    ∷ step 11 (call.Point y w rank.Weak) [] reply.Ok
    ∷ step 12 (call.Reserve y link_head) (moves.Seg (address 0x2000) 1 1 0 ∷ []) reply.Ok
    ∷ step 13 (call.InitReference y 1 (at_index t 0)) [] reply.Ok
    ∷ step 14 (call.Commit y (at_index t 1)) (moves.Commit (address 0x2000) 2 1 ∷ []) reply.Ok
    ∷ step 15 (call.Clear (at_index t 0)) [] reply.Ok
    ∷ []

-- and a collection was begun
abbrev pub garbage_condemned : History
garbage_condemned = garbage_chain ++ step 16 call.Start (moves.Flip (zones 2) 16 0 ∷ []) reply.Ok ∷ []

abbrev pub white_scanned : Step
white_scanned =
    step 17 (call.Step 1) (moves.Seg (address 0x3000) 1 0 0 ∷ moves.Moved (address 0x1000) (address 0x3000) ∷ []) reply.More

abbrev pub reference_splatted : Step
reference_splatted = step 17 (call.Step 1) (moves.Splat (address 0x2000) 1 ∷ []) reply.More

-- a unit scans the second block and moves the first, and it splats the weak reference
abbrev pub ScanOfWhite : Type 0
ScanOfWhite = IsTwin garbage_condemned white_scanned reference_splatted

-- beside the two dropped blocks a third, at 0x1020, is pinned and in slot 0, and a collection was begun
abbrev pub pinned_beside : History
pinned_beside =
    step 16 (call.Reserve x link_head) [] reply.Ok
    ∷ step 17 (call.Commit x (at_index t 0)) (moves.Commit (address 0x1020) 2 0 ∷ []) reply.Ok
    ∷ step 18 (call.Area a 1) [] reply.Ok
    ∷ step 19 (call.Pin (at_index a 0) (at_index t 0)) [] reply.Ok
    ∷ step 20 call.Start (moves.Flip (zones 2) 16 0 ∷ []) reply.Ok
    ∷ []

abbrev pub read_beside : History
read_beside = garbage_chain ++ pinned_beside

-- the third block is read
abbrev pub read_pinned : List Move → Step
read_pinned made = step 21 (call.Get (at_index t 2) (at_index t 0) 1) made reply.Ok

abbrev pub white_read : Step
white_read = read_pinned (moves.Seg (address 0x3000) 1 0 0 ∷ moves.Moved (address 0x1000) (address 0x3000) ∷ [])

-- the read barrier scans the second block and moves the first, and it scans the third one alone
abbrev pub BarrierOverWhite : Type 0
BarrierOverWhite = IsTwin read_beside white_read (read_pinned [])
