use Rattle.std.proofs.Common.{◌≡◌, ◌∙◌, ap, sym, Bool, Option, Some, None, Result, Ok, Err, ◌∷◌, []}
use Rattle.mps_model.specs.declared.call.Call.{Call}
use Rattle.mps_model.specs.Answer.{answer_of}
use Rattle.mps_script.specs.declared.line.BadLine.{BadLine}
use Rattle.mps_script.specs.Filled.{found}
use Rattle.mps_script.specs.Line.{call_of_line}
use Rattle.mps_script.specs.Script.{in_turn}
use Rattle.mps_script.proofs.Scripts.{turn_taken}
use Rattle.mps_report.proofs.Logging.{takes_self}
use Rattle.mps_run.proofs.Asked.{asked_in_turn}
use Rattle.mps_run.proofs.InRange.{call_in_range}
use Rattle.mps_run.proofs.Steps.{empty_line, line_logged, line_stops}
use Rattle.mps_run.proofs.step.log_line.Goals as goal

-- what a line has, by what was returned of it and the call that was written
read_as : {returned : Result Bool BadLine} {own has_call : Bool} (call : Call) {line : Result (Option Call) BadLine}
    → found returned call ≡ line → returned ≡ Ok own → own ≡ has_call → line ≡ found (Ok has_call) call
read_as {returned} {own} {has_call} call {line} reads is test =
    sym reads ∙ ap (λ (r : Result Bool BadLine). found r call) is ∙ ap (λ (b : Bool). found (Ok b) call) test

pub log_call-requires-clause-range : goal.log_call-requires-clause-range
log_call-requires-clause-range g c =
    call_in_range c.args.bytes.now c.next_call.new.into
    (turn_taken _ (call_of_line c.args.bytes.now) (Some c.next_call.new.into)
    (read_as c.next_call.new.into c.next_call.ensures c.in-Ok-true.is c.in-Ok-true.field-0-test))

pub log_call-requires-clause-asked : goal.log_call-requires-clause-asked
log_call-requires-clause-asked g c =
    asked_in_turn (g.C.Commands.stands_for c.args.commands.now) c.args.progress.now c.args.bytes.now c.next_call.new.into
    (read_as c.next_call.new.into c.next_call.ensures c.in-Ok-true.is c.in-Ok-true.field-0-test) c.requires.come c.requires.bounded

pub returns-in-Ok-false-clause-logged : goal.returns-in-Ok-false-clause-logged
returns-in-Ok-false-clause-logged g c =
    let turn : in_turn c.args.progress.now.has_arena (call_of_line c.args.bytes.now) ≡ Ok None =
    read_as c.next_call.new.into c.next_call.ensures c.in-Ok-false.is c.in-Ok-false.field-0-test in
    empty_line (g.C.Commands.stands_for c.args.commands.now) (g.C.Commands.stands_for c.args.commands.now)
    c.args.progress.now c.args.bytes.now (g.D.Desk.outside c.args.desk.now) (g.D.Desk.outside c.args.desk.now) turn

pub returns-in-Ok-false-clause-takes : goal.returns-in-Ok-false-clause-takes
returns-in-Ok-false-clause-takes g c = takes_self (g.D.Desk.outside c.args.desk.now)

pub returns-in-Ok-clause-logged : goal.returns-in-Ok-clause-logged
returns-in-Ok-clause-logged g c =
    let turn : in_turn c.args.progress.now.has_arena (call_of_line c.args.bytes.now) ≡ Ok (Some c.next_call.new.into) =
    read_as c.next_call.new.into c.next_call.ensures c.in-Ok-true.is c.in-Ok-true.field-0-test in
    line_logged (g.C.Commands.stands_for c.args.commands.now) (g.C.Commands.stands_for c.log_call.new.commands)
    c.args.progress.now c.args.bytes.now (g.D.Desk.outside c.args.desk.now) (g.D.Desk.outside c.log_call.new.desk) c.next_call.new.into
    (answer_of (g.C.Commands.words c.log_call.new.commands) c.log_call.new.reply ∷ [])
    c.log_call.new.pools turn c.in-Ok.ensures.logged

pub returns-in-Err-log_call-clause-stops : goal.returns-in-Err-log_call-clause-stops
returns-in-Err-log_call-clause-stops g c =
    let turn : in_turn c.args.progress.now.has_arena (call_of_line c.args.bytes.now) ≡ Ok (Some c.next_call.new.into) =
    read_as c.next_call.new.into c.next_call.ensures c.in-Ok-true.is c.in-Ok-true.field-0-test in
    line_stops (g.C.Commands.stands_for c.args.commands.now) (g.C.Commands.stands_for c.log_call.new.commands)
    c.args.progress.now c.args.bytes.now (g.D.Desk.outside c.args.desk.now) (g.D.Desk.outside c.log_call.new.desk) g.C.Commands.takes_memory
    c.next_call.new.into (Err c.in-Err-log_call.stop) turn c.in-Err-log_call.ensures.stops

pub returns-in-Err-clause-takes : goal.returns-in-Err-clause-takes
returns-in-Err-clause-takes g c = takes_self (g.D.Desk.outside c.args.desk.now)
