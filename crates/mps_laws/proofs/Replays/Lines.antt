-- The records of one line in a log.
use Rattle.std.proofs.Common.{◌≡◌, ◌∙◌, ◌<◌, ◌+◌, ℕ, Bool, true, false, refl, ap, List, [], ◌∷◌, ◌++◌, arith}
use Rattle.std.specs.Prelude.{◌==◌, if◌then◌else◌, filter}
use Rattle.std.specs.List.{AllByRecursion}
use Rattle.std.proofs.lemmas.Bool.{eq-eqb}
use Rattle.std.proofs.lemmas.List.Elements.{filter-append}
use Rattle.mps_base.specs.Record.{Record}
use Rattle.mps_base.specs.declared.moves.Move.{Move}
use Rattle.mps_base.specs.declared.moves.Move.TheVariants as moves
use Rattle.mps_model.specs.declared.call.Call.{Call}
use Rattle.mps_model.specs.declared.call.Call.TheVariants as call
use Rattle.mps_model.specs.Answer.{is_accepted}
use Rattle.mps_model.specs.Step.{Step, History}
use Rattle.mps_model.specs.Log.{record_of, records_of, records_of_accepted, records_of_command, records_of_step, log_from, pools_made_by}

-- the records of one line
abbrev pub on_line : ℕ → List Record → List Record
on_line line records = filter (λ (r : Record). r.line == line) records

abbrev pub AreOnLine : ℕ → List Record → Type 0
AreOnLine line records = AllByRecursion (λ (r : Record). r.line ≡ line) records

-- ---- records that are all of one line

pub on_line-own : (line : ℕ) (records : List Record) → AreOnLine line records → on_line line records ≡ records
on_line-own line [] own = refl
on_line-own line (r ∷ rs) own = rw (eq-eqb r.line line own.0) (ap (λ kept. r ∷ kept) (on_line-own line rs own.1))

is_other_line : (this other : ℕ) → this < other → (other == this) ≡ false
is_other_line this other later = grind arith

pub on_line-other : (line other : ℕ) (records : List Record) → line < other → AreOnLine other records → on_line line records ≡ []
on_line-other line other [] later own = refl
on_line-other line other (r ∷ rs) later own = rw (own.0, is_other_line line other later) (on_line-other line other rs later own.1)

pub AreOnLine-append : (line : ℕ) (xs ys : List Record) → AreOnLine line xs → AreOnLine line ys → AreOnLine line (xs ++ ys)
AreOnLine-append line [] ys these those = those
AreOnLine-append line (x ∷ xs) ys these those = (these.0, AreOnLine-append line xs ys these.1 those)

-- ---- the records of a step are of its line

line_of_record : (m : Move) (line : ℕ) → (record_of m line).line ≡ line
line_of_record (moves.Seg base grains pool generation) line = refl
line_of_record (moves.Unseg base) line = refl
line_of_record (moves.Flip zones chain generation) line = refl
line_of_record moves.End line = refl
line_of_record (moves.Moved from to) line = refl
line_of_record (moves.Stay at) line = refl
line_of_record (moves.Splat holder cell) line = refl
line_of_record (moves.Post at) line = refl
line_of_record (moves.Commit at words pool) line = refl
line_of_record (moves.Alloc at words pool) line = refl
line_of_record (moves.Free at) line = refl

pub records_of_line : (ms : List Move) (line : ℕ) → AreOnLine line (records_of ms line)
records_of_line [] line = tt
records_of_line (m ∷ ms) line = (line_of_record m line, records_of_line ms line)

accepted_line : (pools : ℕ) (call : Call) (line : ℕ) → AreOnLine line (records_of_accepted pools call line)
accepted_line pools (call.Arena grains limit) line = (refl, tt)
accepted_line pools (call.Limit limit) line = (refl, tt)
accepted_line pools (call.Pool pool kind format) line = (refl, tt)
accepted_line pools (call.PoolOnChain pool kind format chain) line = (refl, tt)
accepted_line pools (call.PoolMfs pool words) line = (refl, tt)
accepted_line pools (call.PoolMvff pool) line = (refl, tt)
accepted_line pools (call.PoolFrames pool) line = (refl, tt)
accepted_line pools _ line = tt

command_line : (pools : ℕ) (call : Call) (line : ℕ) (b : Bool) → AreOnLine line (if b then records_of_accepted pools call line else [])
command_line pools call line true = accepted_line pools call line
command_line pools call line false = tt

step_line : (pools : ℕ) (s : Step) → AreOnLine s.line (records_of_step pools s)
step_line pools s =
    AreOnLine-append s.line (records_of s.moves s.line) (records_of_command pools s.call s.answer s.line) (records_of_line s.moves s.line)
    (command_line pools s.call s.line (is_accepted s.answer))

-- what later steps log is of no earlier line
pub on_line-later : (line pools : ℕ) (ss : History) → AllByRecursion (λ later. line < later.line) ss
    → on_line line (log_from pools ss) ≡ []
on_line-later line pools [] later = refl
on_line-later line pools (s ∷ ss) later =
    filter-append (λ (r : Record). r.line == line) (records_of_step pools s) (log_from (pools + pools_made_by s.call s.answer) ss)
    ∙ ap (λ kept. kept ++ on_line line (log_from (pools + pools_made_by s.call s.answer) ss))
    (on_line-other line s.line (records_of_step pools s) later.0 (step_line pools s))
    ∙ on_line-later line (pools + pools_made_by s.call s.answer) ss later.1
