-- What was printed and logged of a run tells its history.
use Rattle.std.proofs.Common.{◌≡◌, ◌<◌, ◌≤◌, ◌+◌, ℕ, Bool, true, false, List, [], ◌∷◌, ◌++◌, Option, Some, None, Ok, Err, get_or, refl, sym, ap, ◌∙◌, subst, arith, append-nil}
use Rattle.std.specs.Prelude.{◌==◌, nat_le, filter, if◌then◌else◌, All, Result}
use Rattle.std.specs.List.{AllByRecursion}
use Rattle.std.proofs.lemmas.List.{append_cancel_left}
use Rattle.std.proofs.lemmas.List.Elements.{filter-append, All-tail, All-head}
use Rattle.mps_base.specs.Record.{Record, record_bytes, records_bytes, header_bytes}
use Rattle.mps_base.specs.declared.moves.Move.{Move}
use Rattle.mps_base.specs.declared.moves.Move.TheVariants as moves
use Rattle.mps_event.specs.declared.version.Version.TheVariants.{Two}
use Rattle.mps_event.specs.Grammar.{IsRecord}
use Rattle.mps_event.proofs.Records.{one_beginning}
use Rattle.mps_model.specs.declared.call.Call.{Call}
use Rattle.mps_model.specs.declared.call.Call.TheVariants as call
use Rattle.mps_model.specs.Answer.{Answer, is_accepted, is_block}
use Rattle.mps_model.specs.Step.{Step, History}
use Rattle.mps_model.specs.World.{World, empty_world, block_of_word}
use Rattle.mps_model.specs.Graph.{AreaWord}
use Rattle.mps_model.specs.Checked.{Checked, Found, ◌>>=◌, word_in}
use Rattle.mps_model.specs.Accessing.{Poked, AsBlock, AsNumber, AsMarked, act_poked, act_poke_in, poked}
use Rattle.mps_model.specs.Reply.{answer_from, reply_to}
use Rattle.mps_model.specs.History.{IsLegalStep, IsLegalFrom, judged_world, moved_world, world_after}
use Rattle.mps_model.specs.Log.{record_of, records_of, records_of_accepted, records_of_command, records_of_step, log_from, log_of, log_bytes, pools_made_by, written_log, written_version}
use Rattle.mps_model.specs.Text.{line_of_answer}
use Rattle.mps_commands.specs.RightAnswer.{step_in}
use Rattle.mps_laws.proofs.Replays.RecordsOfMoves.{records_of-injective}
use Rattle.mps_laws.proofs.Replays.LabelledLogs.{is_unlabelled, without_labels}
use Rattle.mps_laws.proofs.Replays.Lines.{on_line, on_line-own, on_line-later, records_of_line}
use Rattle.mps_script.specs.declared.line.BadLine.{BadLine}
use Rattle.mps_script.specs.Line.{call_of_line}
use Rattle.mps_run.specs.Script.{Line, ScriptCommand, HasRun, answers_of, commands_of, commands_from, commands_of_call, command_of_step}

-- ---- bytes tell records

no_bytes : (r : Record) (rest : List ℕ) → [] ≡ record_bytes r ++ rest → ⊥
no_bytes r rest e = absurd cc

pub records_told : (rs qs : List Record) → All (IsRecord Two) rs → All (IsRecord Two) qs → records_bytes rs ≡ records_bytes qs → rs ≡ qs
records_told [] [] h k e = refl
records_told [] (q ∷ qs) h k e = absurd (no_bytes q (records_bytes qs) e)
records_told (r ∷ rs) [] h k e = absurd (no_bytes r (records_bytes rs) (sym e))
records_told (r ∷ rs) (q ∷ qs) h k e =
    let first = All-head (IsRecord Two) r rs h in
    let first' = All-head (IsRecord Two) q qs k in
    let both = one_beginning Two r q (records_bytes rs) (records_bytes qs) first first' e in
    let rest : rs ≡ qs = records_told rs qs (All-tail (IsRecord Two) r rs h) (All-tail (IsRecord Two) q qs k) both.1 in
    λ j. both.0 j ∷ rest j

-- ---- the records of a line tell its moves

-- whether a record is of a move
abbrev is_of_move : Record → Bool
is_of_move r = nat_le 32 r.code

of_moves : (ms : List Move) (line : ℕ) → filter is_of_move (records_of ms line) ≡ records_of ms line
of_moves [] line = refl
of_moves (moves.Seg base grains pool generation ∷ ms) line =
    ap (λ rs. record_of (moves.Seg base grains pool generation) line ∷ rs) (of_moves ms line)
of_moves (moves.Unseg base ∷ ms) line = ap (λ rs. record_of (moves.Unseg base) line ∷ rs) (of_moves ms line)
of_moves (moves.Flip zones chain generation ∷ ms) line =
    ap (λ rs. record_of (moves.Flip zones chain generation) line ∷ rs) (of_moves ms line)
of_moves (moves.End ∷ ms) line = ap (λ rs. record_of moves.End line ∷ rs) (of_moves ms line)
of_moves (moves.Moved from to ∷ ms) line = ap (λ rs. record_of (moves.Moved from to) line ∷ rs) (of_moves ms line)
of_moves (moves.Stay at ∷ ms) line = ap (λ rs. record_of (moves.Stay at) line ∷ rs) (of_moves ms line)
of_moves (moves.Splat holder cell ∷ ms) line = ap (λ rs. record_of (moves.Splat holder cell) line ∷ rs) (of_moves ms line)
of_moves (moves.Post at ∷ ms) line = ap (λ rs. record_of (moves.Post at) line ∷ rs) (of_moves ms line)
of_moves (moves.Commit at words pool ∷ ms) line = ap (λ rs. record_of (moves.Commit at words pool) line ∷ rs) (of_moves ms line)
of_moves (moves.Alloc at words pool ∷ ms) line = ap (λ rs. record_of (moves.Alloc at words pool) line ∷ rs) (of_moves ms line)
of_moves (moves.Free at ∷ ms) line = ap (λ rs. record_of (moves.Free at) line ∷ rs) (of_moves ms line)

-- of a line and of a move
abbrev moves_on : (line : ℕ) → List Record → List Record
moves_on line rs = filter is_of_move (on_line line rs)

none_by_line : (line : ℕ) (b : Bool) (r : Record) → is_of_move r ≡ false → filter is_of_move (if b then r ∷ [] else []) ≡ []
none_by_line line true r h = ap (λ c. if c then r ∷ [] else []) h
none_by_line line false r h = refl

none_of_accepted : (pools : ℕ) (c : Call) (line at : ℕ) → moves_on at (records_of_accepted pools c line) ≡ []
none_of_accepted pools (call.Arena grains limit) line at = none_by_line at (line == at) _ refl
none_of_accepted pools (call.Limit limit) line at = none_by_line at (line == at) _ refl
none_of_accepted pools (call.Pool pool kind format) line at = none_by_line at (line == at) _ refl
none_of_accepted pools (call.PoolOnChain pool kind format chain) line at = none_by_line at (line == at) _ refl
none_of_accepted pools (call.PoolMfs pool words) line at = none_by_line at (line == at) _ refl
none_of_accepted pools (call.PoolMvff pool) line at = none_by_line at (line == at) _ refl
none_of_accepted pools (call.PoolFrames pool) line at = none_by_line at (line == at) _ refl
none_of_accepted pools _ line at = refl

none_of_command : (pools : ℕ) (c : Call) (b : Bool) (line at : ℕ)
    → moves_on at (if b then records_of_accepted pools c line else []) ≡ []
none_of_command pools c true line at = none_of_accepted pools c line at
none_of_command pools c false line at = refl

moves_on-append : (line : ℕ) (xs ys : List Record) → moves_on line (xs ++ ys) ≡ moves_on line xs ++ moves_on line ys
moves_on-append line xs ys =
    ap (filter is_of_move) (filter-append (λ (r : Record). r.line == line) xs ys)
    ∙ filter-append is_of_move (on_line line xs) (on_line line ys)

moves_of_line : (line pools : ℕ) (c : Call) (ms : List Move) (a : Answer) (later : List Record) → on_line line later ≡ []
    → moves_on line ((records_of ms line ++ records_of_command pools c a line) ++ later) ≡ records_of ms line
moves_of_line line pools c ms a later none =
    moves_on-append line (records_of ms line ++ records_of_command pools c a line) later
    ∙ ap (λ kept. moves_on line (records_of ms line ++ records_of_command pools c a line) ++ filter is_of_move kept) none
    ∙ append-nil (moves_on line (records_of ms line ++ records_of_command pools c a line))
    ∙ moves_on-append line (records_of ms line) (records_of_command pools c a line)
    ∙ ap (λ kept. moves_on line (records_of ms line) ++ kept) (none_of_command pools c (is_accepted a) line line)
    ∙ append-nil (moves_on line (records_of ms line))
    ∙ ap (filter is_of_move) (on_line-own line (records_of ms line) (records_of_line ms line))
    ∙ of_moves ms line

-- ---- a call and its moves tell the answer, but for what is printed of a `poke`

-- `block` and `number` begin with other letters
two_texts : ◌≡◌ {A = ℕ} 98 110 → ⊥
two_texts e = omega arith

module _ (w : World) (at : Found AreaWord) (word : ℕ) (x y : List ℕ) where
  -- what is printed tells whether a block was marked
  poked_told : (id : ℕ) (p : Poked) (m n : Bool)
      → line_of_answer (answer_from (act_poked w at id word p m)) ++ x ≡ line_of_answer (answer_from (act_poked w at id word p n)) ++ y
      → answer_from (act_poked w at id word p m) ≡ answer_from (act_poked w at id word p n)
  poked_told id AsBlock m n e = refl
  poked_told id AsNumber m n e = refl
  poked_told id AsMarked true true e = refl
  poked_told id AsMarked true false e = absurd (two_texts (ap (λ (text : List ℕ). get_or text 0 0) e))
  poked_told id AsMarked false true e = absurd (two_texts (sym (ap (λ (text : List ℕ). get_or text 0 0) e)))
  poked_told id AsMarked false false e = refl

  poke_in_told : (o : Option ℕ) (m n : Bool)
      → line_of_answer (answer_from (act_poke_in w at word m o)) ++ x ≡ line_of_answer (answer_from (act_poke_in w at word n o)) ++ y
      → answer_from (act_poke_in w at word m o) ≡ answer_from (act_poke_in w at word n o)
  poke_in_told None m n e = refl
  poke_in_told (Some id) m n e = poked_told id (poked w id) m n e

module _ (w : World) (word : ℕ) (x y : List ℕ) (m n : Bool) where
  poke_case : (c : Checked (Found AreaWord)) (o : Option ℕ)
      → line_of_answer (answer_from (c >>= (λ at. act_poke_in w at word m o))) ++ x
      ≡ line_of_answer (answer_from (c >>= (λ at. act_poke_in w at word n o))) ++ y
      → answer_from (c >>= (λ at. act_poke_in w at word m o)) ≡ answer_from (c >>= (λ at. act_poke_in w at word n o))
  poke_case (Ok at) o e = poke_in_told w at word x y o m n e
  poke_case (Err why) o e = refl

answer_told : (m n : Bool) (judged after : World) (c : Call) (x y : List ℕ)
    → line_of_answer (reply_to m judged after c) ++ x ≡ line_of_answer (reply_to n judged after c) ++ y
    → reply_to m judged after c ≡ reply_to n judged after c
answer_told m n judged after (call.Poke place word) x y e =
    poke_case after word x y m n (word_in after place) (block_of_word after word) e
answer_told m n judged after _ x y e = refl

module _ (w : World) (line : ℕ) (c : Call) (ms : List Move) (a b : Answer) (x y : List ℕ) where
  -- the answer, where the moves are known
  told_answer : IsLegalStep w (step_in line c ms a) → IsLegalStep w (step_in line c ms b)
      → line_of_answer a ++ x ≡ line_of_answer b ++ y → a ≡ b
  told_answer legal legal' e =
      legal.answer_is_due
      ∙ answer_told (is_block a) (is_block b) (judged_world w c ms) (moved_world w c ms) c x y
      (ap (λ (said : Answer). line_of_answer said ++ x) (sym legal.answer_is_due)
      ∙ e
      ∙ ap (λ (said : Answer). line_of_answer said ++ y) legal'.answer_is_due)
      ∙ sym legal'.answer_is_due

-- ---- each command stands on a later line than the one before it

abbrev AreLater : ℕ → History → Type 0
AreLater line steps = AllByRecursion (λ (later : Step). line < later.line) steps

abbrev AscendLines : History → Type 0
AscendLines [] = Unit {0}
AscendLines (s ∷ ss) = AreLater s.line ss × AscendLines ss

later_still : (line next : ℕ) (steps : History) → line ≤ next → AreLater next steps → AreLater line steps
later_still line next [] before later = tt
later_still line next (s ∷ ss) before later = (omega (arith, later.0), later_still line next ss before later.1)

line_case : (r : Result (Option Call) BadLine) (n : ℕ) (rest : List ScriptCommand) (hs : History)
    → commands_of hs ≡ commands_of_call (n + 1) r ++ rest
    → ((ks : History) → commands_of ks ≡ rest → AreLater (n + 1) ks × AscendLines ks) → AreLater n hs × AscendLines hs
line_case (Ok (Some c)) n rest [] e later = absurd cc
line_case (Ok (Some c)) n rest (h ∷ hs) e later =
    let others : commands_of hs ≡ rest = cc in
    let command : command_of_step h ≡ record { line = n + 1; call = c } = cc in
    let line : h.line ≡ n + 1 = ap (λ (at : ScriptCommand). at.line) command in
    let after = later hs others in (
      (omega (arith, line), later_still n (n + 1) hs (omega arith) after.0),
      (subst (λ k. AreLater k hs) (sym line) after.0, after.1),
    )
line_case (Ok None) n rest hs e later = let after = later hs e in (later_still n (n + 1) hs (omega arith) after.0, after.1)
line_case (Err bad) n rest hs e later = let after = later hs e in (later_still n (n + 1) hs (omega arith) after.0, after.1)

lines_ascend : (ls : List Line) (n : ℕ) (hs : History) → commands_of hs ≡ commands_from (n + 1) ls → AreLater n hs × AscendLines hs
lines_ascend [] n [] e = (tt, tt)
lines_ascend [] n (h ∷ hs) e = absurd cc
lines_ascend (l ∷ ls) n hs e =
    line_case (call_of_line l) n (commands_from (n + 1 + 1) ls) hs e (λ ks same. lines_ascend ls (n + 1) ks same)

-- ---- all steps

module _ (pools : ℕ) (h k : Step) (hs ks : History) where
  -- the moves of a step
  told_moves : h.line ≡ k.line → AreLater h.line hs → AreLater k.line ks → log_from pools (h ∷ hs) ≡ log_from pools (k ∷ ks)
      → h.moves ≡ k.moves
  told_moves line later later' logs =
      let these = moves_of_line h.line pools h.call h.moves h.answer (log_from (pools + pools_made_by h.call h.answer) hs)
      (on_line-later h.line (pools + pools_made_by h.call h.answer) hs later) in
      let those = moves_of_line k.line pools k.call k.moves k.answer (log_from (pools + pools_made_by k.call k.answer) ks)
      (on_line-later k.line (pools + pools_made_by k.call k.answer) ks later') in
      records_of-injective h.moves k.moves h.line
      (sym these
      ∙ ap (moves_on h.line) logs
      ∙ ap (λ at. moves_on at (log_from pools (k ∷ ks))) line
      ∙ those
      ∙ ap (records_of k.moves) (sym line))

-- histories from a world on that answer the same commands are determined by what is printed and logged
told_from : (w : World) (pools : ℕ) (hs ks : History) → commands_of hs ≡ commands_of ks → AscendLines hs → AscendLines ks
    → IsLegalFrom w hs → IsLegalFrom w ks
    → log_from pools hs ≡ log_from pools ks → answers_of hs ≡ answers_of ks → hs ≡ ks
told_from w pools [] [] same up up' legal legal' logs printed = refl
told_from w pools [] (k ∷ ks) same up up' legal legal' logs printed = absurd cc
told_from w pools (h ∷ hs) [] same up up' legal legal' logs printed = absurd cc
told_from w pools (h ∷ hs) (k ∷ ks) same up up' legal legal' logs printed =
    let command : command_of_step h ≡ command_of_step k = cc in
    let others : commands_of hs ≡ commands_of ks = cc in
    let line : h.line ≡ k.line = ap (λ (c : ScriptCommand). c.line) command in
    let ms : h.moves ≡ k.moves = told_moves pools h k hs ks line up.0 up'.0 logs in
    let alike : step_in h.line h.call h.moves k.answer ≡ k =
    λ j. record { line = (command j).line; call = (command j).call; moves = ms j; answer = k.answer } in
    let said : h.answer ≡ k.answer =
    told_answer w h.line h.call h.moves h.answer k.answer (answers_of hs) (answers_of ks) legal.0
    (subst (IsLegalStep w) (sym alike) legal'.0) printed in
    let step : h ≡ k = λ j. record { line = (command j).line; call = (command j).call; moves = ms j; answer = said j } in
    let made = pools + pools_made_by h.call h.answer in
    let logs_then : records_of_step pools h ++ log_from made hs ≡ records_of_step pools h ++ log_from made ks =
    subst (λ (s : Step). records_of_step pools h ++ log_from made hs
    ≡ records_of_step pools s ++ log_from (pools + pools_made_by s.call s.answer) ks) (sym step) logs in
    let printed_then : line_of_answer h.answer ++ answers_of hs ≡ line_of_answer h.answer ++ answers_of ks =
    subst (λ (a : Answer). line_of_answer h.answer ++ answers_of hs ≡ line_of_answer a ++ answers_of ks) (sym said) printed in
    let rest : hs ≡ ks =
    told_from (world_after w h) made hs ks others up.1 up'.1 legal.1
    (subst (λ (s : Step). IsLegalFrom (world_after w s) ks) (sym step) legal'.1)
    (append_cancel_left (records_of_step pools h) (log_from made hs) (log_from made ks) logs_then)
    (append_cancel_left (line_of_answer h.answer) (answers_of hs) (answers_of ks) printed_then) in
    λ j. step j ∷ rest j

pub one_history : (ran : List Line) (these those : History) → HasRun ran these → HasRun ran those
    → answers_of these ≡ answers_of those → log_bytes these ≡ log_bytes those → these ≡ those
one_history ran these those runs runs' printed logged =
    let records : written_log these ≡ written_log those =
    records_told (written_log these) (written_log those) runs.recorded runs'.recorded
    (append_cancel_left (header_bytes written_version) (records_bytes (written_log these)) (records_bytes (written_log those)) logged) in
    let blocks : log_of these ≡ log_of those =
    sym (without_labels 0 these) ∙ ap (filter is_unlabelled) records ∙ without_labels 0 those in
    told_from empty_world 0 these those (runs.commands ∙ sym runs'.commands) (lines_ascend ran 0 these runs.commands).1
    (lines_ascend ran 0 those runs'.commands).1 runs.legal runs'.legal blocks printed
