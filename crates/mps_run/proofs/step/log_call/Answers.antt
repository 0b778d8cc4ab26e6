use Rattle.std.proofs.Common.{◌+◌, List, ap, arith, subst, sym}
use Rattle.mps_base.specs.declared.moves.Move.{Move}
use Rattle.mps_report.proofs.Logging.{takes_self}
use Rattle.mps_run.proofs.Steps.{IsRightAnswer, steps_logged, some_records}
use Rattle.mps_run.proofs.step.log_call.Goals as goal

pub returns-in_default-clause-takes : goal.returns-in_default-clause-takes
returns-in_default-clause-takes g c = takes_self (g.D.Desk.outside c.args.desk.now)

pub returns-in_default-log_records-clause-stops : goal.returns-in_default-log_records-clause-stops
returns-in_default-log_records-clause-stops g c =
    let e = c.in-Ok.ensures in
    let failed = c.in_default-log_records.ensures.failed in
    let stood = g.C.Commands.stands_for c.args.commands.now in
    let stands = g.C.Commands.stands_for c.answer.new.self in
    let words = g.C.Commands.words c.answer.new.self in
    some_records stood stands c.args.line c.args.call.now c.moves.result.now words c.answer.new.reply
    (subst (λ (moves : List Move). IsRightAnswer stood stands c.args.call.now moves words c.answer.new.reply)
    (sym c.moves.ensures) (record { legal = e.legal; stands = e.stands }))
    c.args.pools.now (c.args.pools.now + c.pools_made.result) (g.D.Desk.outside c.args.desk.now)
    (g.D.Desk.outside c.log_records.new.desk) g.C.Commands.takes_memory failed.count failed.logged failed.others.printed

pub returns-clause-logged : goal.returns-clause-logged
returns-clause-logged g c =
    let e = c.in-Ok.ensures in
    let logs = c.in-Ok-log_records.ensures in
    let stood = g.C.Commands.stands_for c.args.commands.now in
    let stands = g.C.Commands.stands_for c.answer.new.self in
    let words = g.C.Commands.words c.answer.new.self in
    steps_logged stood stands c.args.line c.args.call.now c.moves.result.now words c.answer.new.reply
    (subst (λ (moves : List Move). IsRightAnswer stood stands c.args.call.now moves words c.answer.new.reply)
    (sym c.moves.ensures) (record { legal = e.legal; stands = e.stands }))
    c.args.pools.now (c.args.pools.now + c.pools_made.result) (g.D.Desk.outside c.args.desk.now)
    (g.D.Desk.outside c.log_records.new.desk) (ap (λ n. c.args.pools.now + n) c.pools_made.ensures.count)
    (omega (arith, c.pools_made.ensures.count, c.pools_made.ensures.at_most)) logs.logged.logged logs.recorded
