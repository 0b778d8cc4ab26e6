-- The commands of a script, each with its line, and the history that answers them.
use Rattle.std.specs.Prelude.{ℕ, ◌≡◌, ◌+◌, ◌≤◌, true, All, Option, Some, None, Result, Ok, Err, List, [], ◌∷◌, ◌++◌, map, length, codes, refl}
use Rattle.std.specs.List.{flat_map}
use Rattle.mps_base.specs.Address.{last_u32}
use Rattle.mps_event.specs.declared.version.Version.TheVariants.{Two}
use Rattle.mps_event.specs.Grammar.{IsRecord}
use Rattle.mps_model.specs.declared.call.Call.{Call}
use Rattle.mps_model.specs.declared.call.Call.TheVariants as call
use Rattle.mps_model.specs.Answer.{Answer}
use Rattle.mps_model.specs.Step.{Step, History}
use Rattle.mps_model.specs.Log.{written_log}
use Rattle.mps_model.specs.Replayed as model
use Rattle.mps_model.specs.History.{IsLegalHistory, world_after_history}
use Rattle.mps_laws.specs.Replay.{replayed_state}
use Rattle.mps_model.specs.Text.{line_of_answer}
use Rattle.mps_script.specs.declared.line.BadLine.{BadLine}
use Rattle.mps_script.specs.Line.{call_of_line}
use Rattle.mps_script.specs.Script.{is_grammatical}

-- a line, without its line feed
abbrev pub Line : Type 0
Line = List ℕ

-- a command: its line in the script, counted from 1, and its call
pub record ScriptCommand : Type 0 where
  pub line : ℕ
  pub call : Call

-- the command of one line, where it has one
abbrev pub commands_of_call : (line : ℕ) → Result (Option Call) BadLine → List ScriptCommand
commands_of_call line (Ok (Some c)) = record { line = line; call = c } ∷ []
commands_of_call line (Ok None) = []
commands_of_call line (Err bad) = []

-- the commands of lines, of which the first has this number
abbrev pub commands_from : (line : ℕ) → List Line → List ScriptCommand
commands_from line [] = []
commands_from line (l ∷ ls) = commands_of_call line (call_of_line l) ++ commands_from (line + 1) ls

-- the commands that a history answers
abbrev pub command_of_step : Step → ScriptCommand
command_of_step s = record { line = s.line; call = s.call }

abbrev pub commands_of : History → List ScriptCommand
commands_of history = map command_of_step history

-- what a step is answered
abbrev pub answer_of_step : Step → Answer
answer_of_step s = s.answer

-- what is printed for a history: the answer line of each step, in order
abbrev pub answers_of : History → List ℕ
answers_of history = flat_map (λ (s : Step). line_of_answer s.answer) history

-- the most lines of a script that a run answers
abbrev pub max_lines : ℕ
max_lines = last_u32

-- these lines were run, and a history answers their commands
pub record HasRun (ran : List Line) (history : History) : Type 0 where
  -- there are fewer than 2^32 of them
  pub bounded : length ran ≤ max_lines
  -- they are a script
  pub grammatical : is_grammatical ran ≡ true
  -- the history answers their commands, in order and each with its line
  pub commands : commands_of history ≡ commands_from 1 ran
  -- it is a legal history of the model
  pub legal : IsLegalHistory history
  -- the blocks that replaying its log gives are those that are live in the world after it, and as many names are interned as it has labels
  pub replayed : model.replayed (written_log history) ≡ Some (replayed_state (world_after_history history))
  -- its records are such as a log may hold
  pub recorded : All (IsRecord Two) (written_log history)

pub a_comment_has_no_command : commands_from 1 (codes "# x" ∷ codes "live" ∷ []) ≡ record { line = 2; call = call.Live } ∷ []
a_comment_has_no_command = refl
