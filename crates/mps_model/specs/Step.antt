-- Histories: what a client did, what moved meanwhile, and the replies.
use Rattle.std.specs.Prelude.{ℕ, List}
use Rattle.mps_base.specs.declared.moves.Move.{Move}
use Rattle.mps_model.specs.declared.call.Call.{Call}
use Rattle.mps_model.specs.Answer.{Answer}

-- one command: its line in the script, counted from 1, the call, the moves that it made, and its answer
pub record Step : Type 0 where
  pub line : ℕ
  pub call : Call
  pub moves : List Move
  pub answer : Answer

-- the steps of a run, in order
abbrev pub History : Type 0
History = List Step
