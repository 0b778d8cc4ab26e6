-- A pool of frames frees its blocks frame by frame, the latest first: a pop frees what was made since its push.
use Rattle.std.specs.Prelude.{[], ◌∷◌, ◌++◌}
use Rattle.mps_base.specs.declared.moves.Move.TheVariants as moves
use Rattle.mps_base.specs.declared.refusal.Refusal.TheVariants as refusal
use Rattle.mps_model.specs.declared.call.Call.TheVariants as call
use Rattle.mps_model.specs.declared.reply.Reply.TheVariants as reply
use Rattle.mps_model.specs.Step.{Step, History}
use Rattle.mps_model.specs.History.{IsLegalHistory}
use Rattle.mps_model_examples.specs.Script.{b, s, at_index, address, step}
use Rattle.mps_model_examples.specs.WrongAnswers.{CannotFollow}

-- a block, and two more, each in a frame of its own
abbrev pub three_made : History
three_made =
    step 1 (call.Arena 8 8) [] reply.Ok
    ∷ step 2 (call.PoolFrames s) [] reply.Ok
    ∷ step 3 (call.Blocks b 4) [] reply.Ok
    ∷ step 4 (call.Alloc s 4 (at_index b 0)) (moves.Seg (address 0x1000) 1 0 0 ∷ moves.Alloc (address 0x1000) 4 0 ∷ []) reply.Ok
    ∷ step 5 (call.Push s) [] (reply.Number 0)
    ∷ step 6 (call.Alloc s 4 (at_index b 1)) (moves.Alloc (address 0x1020) 4 0 ∷ []) reply.Ok
    ∷ step 7 (call.Push s) [] (reply.Number 1)
    ∷ step 8 (call.Alloc s 4 (at_index b 2)) (moves.Alloc (address 0x1040) 4 0 ∷ []) reply.Ok
    ∷ []

-- the two go, and their places are empty. A block of this pool isn't freed alone, and no frame is open any more
abbrev pub popped_and_refused : History
popped_and_refused =
    step 9 (call.Pop s 0) (moves.Free (address 0x1040) ∷ moves.Free (address 0x1020) ∷ []) reply.Ok
    ∷ step 10 call.Live [] (reply.Pair 1 4)
    ∷ step 11 (call.Load (at_index b 1) 0) [] (reply.Refused refusal.NotABlock)
    ∷ step 12 (call.Alloc s 4 (at_index b 1)) (moves.Alloc (address 0x1020) 4 0 ∷ []) reply.Ok
    ∷ step 13 (call.Free (at_index b 1)) [] (reply.Refused refusal.WrongPool)
    ∷ step 14 (call.Pop s 0) [] (reply.Refused refusal.BadIndex)
    ∷ []

abbrev pub framed : History
framed = three_made ++ popped_and_refused

abbrev pub FramedIsLegal : Type 0
FramedIsLegal = IsLegalHistory framed

-- two blocks of one frame, each in its own segment
abbrev pub two_segments : History
two_segments =
    step 1 (call.Arena 8 8) [] reply.Ok
    ∷ step 2 (call.PoolFrames s) [] reply.Ok
    ∷ step 3 (call.Blocks b 4) [] reply.Ok
    ∷ step 4 (call.Push s) [] (reply.Number 0)
    ∷ step 5 (call.Alloc s 512 (at_index b 0)) (moves.Seg (address 0x1000) 1 0 0 ∷ moves.Alloc (address 0x1000) 512 0 ∷ []) reply.Ok
    ∷ step 6 (call.Alloc s 512 (at_index b 1)) (moves.Seg (address 0x2000) 1 0 0 ∷ moves.Alloc (address 0x2000) 512 0 ∷ []) reply.Ok
    ∷ []

-- each is given back with its last block, before the next block is freed
abbrev pub given_back : History
given_back =
    step 7 (call.Pop s 0)
    (moves.Free (address 0x2000)
    ∷ moves.Unseg (address 0x2000)
    ∷ moves.Free (address 0x1000)
    ∷ moves.Unseg (address 0x1000)
    ∷ []) reply.Ok
    ∷ step 8 call.Committed [] (reply.Number 0)
    ∷ step 9 call.Live [] (reply.Pair 0 0)
    ∷ []

abbrev pub FrameSegmentsIsLegal : Type 0
FrameSegmentsIsLegal = IsLegalHistory (two_segments ++ given_back)

-- ---- histories that aren't legal

abbrev pub pop_of_one_more : Step
pop_of_one_more = step 9 (call.Pop s 1) (moves.Free (address 0x1040) ∷ moves.Free (address 0x1020) ∷ []) reply.Ok

-- a pop frees no block that was made before its push
abbrev pub NoPopFreesOneMore : Type 0
NoPopFreesOneMore = CannotFollow three_made pop_of_one_more

abbrev pub pop_of_one_less : Step
pop_of_one_less = step 9 (call.Pop s 0) (moves.Free (address 0x1040) ∷ []) reply.Ok

-- a pop leaves no block that was made since its push
abbrev pub NoPopFreesOneLess : Type 0
NoPopFreesOneLess = CannotFollow three_made pop_of_one_less

abbrev pub pop_in_order : Step
pop_in_order = step 9 (call.Pop s 0) (moves.Free (address 0x1020) ∷ moves.Free (address 0x1040) ∷ []) reply.Ok

-- a pop doesn't free the first block first
abbrev pub NoPopInOrder : Type 0
NoPopInOrder = CannotFollow three_made pop_in_order

abbrev pub pop_that_keeps : Step
pop_that_keeps =
    step 7 (call.Pop s 0) (moves.Free (address 0x2000) ∷ moves.Free (address 0x1000) ∷ moves.Unseg (address 0x1000) ∷ []) reply.Ok

-- a pop keeps no segment in which nothing is left
abbrev pub NoPopKeepsASegment : Type 0
NoPopKeepsASegment = CannotFollow two_segments pop_that_keeps
