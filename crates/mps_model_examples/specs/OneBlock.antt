-- A script that commits one block and prints 7.
use Rattle.std.specs.Prelude.{ℕ, [], ◌∷◌, ◌++◌}
use Rattle.mps_base.specs.declared.moves.Move.TheVariants as moves
use Rattle.mps_base.specs.declared.names.Kind.TheVariants as kind
use Rattle.mps_base.specs.declared.names.Rank.TheVariants as rank
use Rattle.mps_model.specs.declared.call.Call.TheVariants as call
use Rattle.mps_model.specs.declared.reply.Reply.TheVariants as reply
use Rattle.mps_model.specs.Step.{History}
use Rattle.mps_model.specs.History.{IsLegalHistory}
use Rattle.mps_model_examples.specs.Script.{p, t, x, at_index, address, step}

-- an arena of 8 grains, a table of 4 slots, a copying pool and a point of it
abbrev pub prelude : History
prelude =
    step 1 (call.Arena 8 8) [] reply.Ok
    ∷ step 2 (call.Table t 4) [] reply.Ok
    ∷ step 3 (call.Pool p kind.Amc 1) [] reply.Ok
    ∷ step 4 (call.Point x p rank.Exact) [] reply.Ok
    ∷ []

-- the head of a block of 3 words whose cell 1 is a reference
abbrev pub pair_head : ℕ
pair_head = 0x100000301

abbrev pub one_block : History
one_block =
    prelude
    ++ step 5 (call.Reserve x pair_head) (moves.Seg (address 0x1000) 1 0 0 ∷ []) reply.Ok
    ∷ step 6 (call.InitNumber x 2 7) [] reply.Ok
    ∷ step 7 (call.Commit x (at_index t 0)) (moves.Commit (address 0x1000) 3 0 ∷ []) reply.Ok
    ∷ step 8 (call.Number (at_index t 0) 2) [] (reply.Number 7)
    ∷ []

-- the history is legal
abbrev pub OneBlockIsLegal : Type 0
OneBlockIsLegal = IsLegalHistory one_block
