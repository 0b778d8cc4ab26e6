-- What determines a history: the commands with their lines, the answers that were printed, and the log.
use Rattle.std.specs.Prelude.{◌≡◌, ℕ, Bool, true, false, IsTrue, List, [], ◌∷◌, map, refl}
use Rattle.mps_model.specs.declared.call.Call.{Call}
use Rattle.mps_model.specs.declared.call.Call.TheVariants as call
use Rattle.mps_model.specs.declared.reply.Reply.TheVariants as reply
use Rattle.mps_model.specs.Answer.{Answer, Replied}
use Rattle.mps_model.specs.Step.{Step, History}
use Rattle.mps_model.specs.Log.{log_of}
use Rattle.mps_model.specs.Units.{is_ascending}

-- what a script and its printed answers show of a step: all but its moves
pub record AnsweredCommand : Type 0 where
  pub line : ℕ
  pub call : Call
  pub answer : Answer

abbrev pub answered_command_of : Step → AnsweredCommand
answered_command_of s = record { line = s.line; call = s.call; answer = s.answer }

abbrev pub answered_commands : History → List AnsweredCommand
answered_commands history = map answered_command_of history

abbrev pub lines_of : History → List ℕ
lines_of history = map (λ (s : Step). s.line) history

-- whether each command stands on a later line than the one before it, as in any script. Lines are counted from 1
abbrev pub is_line_by_line : History → Bool
is_line_by_line history = is_ascending 0 (lines_of history)

-- two histories of the same commands and answers, each command on its line, are one if their logs are
abbrev pub LogTellsOneHistory : Type 0
LogTellsOneHistory =
    (these those : History) → IsTrue (is_line_by_line these) → answered_commands these ≡ answered_commands those
    → log_of these ≡ log_of those → these ≡ those

-- ---- vectors

abbrev clamp_in : (line : ℕ) → Step
clamp_in line = record { line = line; call = call.Clamp; moves = []; answer = Replied reply.Ok }

pub lines_may_be_left_out : is_line_by_line (clamp_in 2 ∷ clamp_in 5 ∷ []) ≡ true
lines_may_be_left_out = refl

pub no_line_has_two_commands : is_line_by_line (clamp_in 2 ∷ clamp_in 2 ∷ []) ≡ false
no_line_has_two_commands = refl

pub lines_are_counted_from_one : is_line_by_line (clamp_in 0 ∷ []) ≡ false
lines_are_counted_from_one = refl
