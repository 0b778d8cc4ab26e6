-- A history is told by its log, where its commands and answers are known.
use Rattle.std.proofs.Common.{◌≡◌, ◌∙◌, ◌<◌, ◌+◌, ℕ, refl, sym, ap, List, [], ◌∷◌, ◌++◌, append-nil, subst, arith}
use Rattle.std.specs.Prelude.{◌==◌, true, nat_lt}
use Rattle.std.specs.List.{AllByRecursion}
use Rattle.std.proofs.lemmas.List.{append_cancel_left, append_cancel_right}
use Rattle.std.proofs.lemmas.List.Elements.{filter-append}
use Rattle.std.proofs.lemmas.Bool.{ltb-true, and_parts}
use Rattle.mps_base.specs.Record.{Record}
use Rattle.mps_base.specs.declared.moves.Move.{Move}
use Rattle.mps_model.specs.Step.{Step, History}
use Rattle.mps_model.specs.Units.{is_ascending}
use Rattle.mps_model.specs.Log.{records_of, records_of_command, records_of_step, log_from, pools_made_by}
use Rattle.mps_laws.specs.OneHistory.{AnsweredCommand, answered_command_of, answered_commands, lines_of}
use Rattle.mps_laws.proofs.Replays.RecordsOfMoves.{records_of-injective}
use Rattle.mps_laws.proofs.Replays.Lines.{on_line, on_line-own, on_line-later, records_of_line}

-- ---- one step

-- the records of moves in one line, then those of the command, then records of other lines: what is of this line
first_part : (line : ℕ) (ms : List Move) (command rest : List Record) → on_line line rest ≡ []
    → on_line line ((records_of ms line ++ command) ++ rest) ≡ records_of ms line ++ on_line line command
first_part line ms command rest none =
    filter-append (λ (r : Record). r.line == line) (records_of ms line ++ command) rest
    ∙ ap (λ kept. on_line line (records_of ms line ++ command) ++ kept) none
    ∙ append-nil (on_line line (records_of ms line ++ command))
    ∙ filter-append (λ (r : Record). r.line == line) (records_of ms line) command
    ∙ ap (λ kept. kept ++ on_line line command) (on_line-own line (records_of ms line) (records_of_line ms line))

-- moves that are logged before the same records of a command, and before records of other lines, are told by the log
cut : (line : ℕ) (ms ns : List Move) (command these those : List Record) → on_line line these ≡ [] → on_line line those ≡ []
    → (records_of ms line ++ command) ++ these ≡ (records_of ns line ++ command) ++ those → (ms ≡ ns) × (these ≡ those)
cut line ms ns command these those none none' same =
    let first : records_of ms line ++ on_line line command ≡ records_of ns line ++ on_line line command =
    sym (first_part line ms command these none) ∙ ap (on_line line) same ∙ first_part line ns command those none' in
    let moves : ms ≡ ns =
    records_of-injective ms ns line (append_cancel_right (records_of ms line) (records_of ns line) (on_line line command) first) in (
      moves,
      append_cancel_left (records_of ns line ++ command) these those
          (subst (λ (now : List Move). (records_of now line ++ command) ++ these ≡ (records_of ns line ++ command) ++ those) moves same),
    )

-- the step that shows this and makes these moves
abbrev with_moves : AnsweredCommand → List Move → Step
with_moves answered ms = record { line = answered.line; call = answered.call; moves = ms; answer = answered.answer }

-- ---- all steps

abbrev AreLater : ℕ → History → Type 0
AreLater line steps = AllByRecursion (λ (later : Step). line < later.line) steps

later_still : (line next : ℕ) (steps : History) → line < next → AreLater next steps → AreLater line steps
later_still line next [] before later = tt
later_still line next (s ∷ ss) before later = (omega (arith, later.0), later_still line next ss before later.1)

later_lines : (line : ℕ) (steps : History) → is_ascending line (lines_of steps) ≡ true → AreLater line steps
later_lines line [] ascend = tt
later_lines line (s ∷ ss) ascend =
    let parts = and_parts (nat_lt line s.line) (is_ascending s.line (lines_of ss)) ascend in
    let before : line < s.line = omega (arith, ltb-true line s.line parts.0) in
    (before, later_still line s.line ss before (later_lines s.line ss parts.1))

later_alike : (line : ℕ) (hs ks : History) → answered_commands hs ≡ answered_commands ks → AreLater line hs
    → AreLater line ks
later_alike line [] [] same later = tt
later_alike line [] (k ∷ ks) same later = absurd (cc)
later_alike line (h ∷ hs) [] same later = tt
later_alike line (h ∷ hs) (k ∷ ks) same later =
    let heads : answered_command_of h ≡ answered_command_of k = cc in
    let tails : answered_commands hs ≡ answered_commands ks = cc in
    (subst (λ (answered : AnsweredCommand). line < answered.line) heads later.0, later_alike line hs ks tails later.1)

-- histories from where n pools were made, on lines above one, are told by their logs
pub told_from : (pools above : ℕ) (hs ks : History) → is_ascending above (lines_of hs) ≡ true
    → answered_commands hs ≡ answered_commands ks → log_from pools hs ≡ log_from pools ks → hs ≡ ks
told_from pools above [] [] ascend same logs = refl
told_from pools above [] (k ∷ ks) ascend same logs = cc
told_from pools above (h ∷ hs) [] ascend same logs = cc
told_from pools above (h ∷ hs) (k ∷ ks) ascend same logs =
    let parts = and_parts (nat_lt above h.line) (is_ascending h.line (lines_of hs)) ascend in
    let later : AreLater h.line hs = later_lines h.line hs parts.1 in
    let heads : answered_command_of h ≡ answered_command_of k = cc in
    let tails : answered_commands hs ≡ answered_commands ks = cc in
    let rest = pools + pools_made_by h.call h.answer in
    let alike : records_of_step pools h ++ log_from rest hs
    ≡ records_of_step pools (with_moves (answered_command_of h) k.moves) ++ log_from rest ks =
    subst (λ (answered : AnsweredCommand). records_of_step pools h ++ log_from rest hs
    ≡ records_of_step pools (with_moves answered k.moves) ++ log_from (pools + pools_made_by answered.call answered.answer) ks)
    (sym heads) logs in
    let told = cut h.line h.moves k.moves (records_of_command pools h.call h.answer h.line) (log_from rest hs) (log_from rest ks)
    (on_line-later h.line rest hs later)
    (on_line-later h.line rest ks (later_alike h.line hs ks tails later)) alike in
    let steps : h ≡ k = ap (with_moves (answered_command_of h)) told.0 ∙ ap (λ answered. with_moves answered k.moves) heads in
    ap (λ step. step ∷ hs) steps ∙ ap (λ steps. k ∷ steps) (told_from rest h.line hs ks parts.1 tails told.1)
