use Rattle.std.proofs.Common.{subst}
use Rattle.mps_commands.specs.Asked.{IsAsked}
use Rattle.mps_session.specs.Standing.{SessionStands}
use Rattle.mps_session.proofs.Standing.{answers_in, asked_first, asked_other, begins_in, ok_then}
use Rattle.mps_session.proofs.machine.SessionCommands.answer.Goals as goal

pub answer-requires-clause-asked : goal.answer-requires-clause-asked
answer-requires-clause-asked c =
    subst (λ o. IsAsked (SessionStands o) c.args.call.now) c.in-Some.is c.requires.asked

pub begin-requires-clause-which : goal.begin-requires-clause-which
begin-requires-clause-which c =
    asked_first c.args.call.now (subst (λ o. IsAsked (SessionStands o) c.args.call.now) c.in_default.is c.requires.asked)

pub returns-in-Some-clause-legal : goal.returns-in-Some-clause-legal
returns-in-Some-clause-legal c =
    let asked = subst (λ o. IsAsked (SessionStands o) c.args.call.now) c.in-Some.is c.requires.asked in
    ok_then c.answer.result c.answer.ensures.right (λ answers w line stood.
    (answers_in c.in-Some.made.heap c.answer.new.self.heap c.args.call.now c.answer.new.self.trail.moves c.answer.new.reply
    (asked_other c.in-Some.made.heap c.args.call.now asked) answers w line (subst (λ o. SessionStands o w) c.in-Some.is stood)).legal)

pub returns-in-Some-clause-stands : goal.returns-in-Some-clause-stands
returns-in-Some-clause-stands c =
    let asked = subst (λ o. IsAsked (SessionStands o) c.args.call.now) c.in-Some.is c.requires.asked in
    ok_then c.answer.result c.answer.ensures.right (λ answers w line stood.
    (answers_in c.in-Some.made.heap c.answer.new.self.heap c.args.call.now c.answer.new.self.trail.moves c.answer.new.reply
    (asked_other c.in-Some.made.heap c.args.call.now asked) answers w line (subst (λ o. SessionStands o w) c.in-Some.is stood)).stands)

pub returns-clause-legal : goal.returns-clause-legal
returns-clause-legal c =
    ok_then c.begin.result c.begin.ensures.right (λ begins w line stood.
    (begins_in c.args.call.now c.begin.new.reply c.begin.new.self.made begins w line
    (subst (λ o. SessionStands o w) c.in_default.is stood)).legal)

pub returns-clause-stands : goal.returns-clause-stands
returns-clause-stands c =
    ok_then c.begin.result c.begin.ensures.right (λ begins w line stood.
    (begins_in c.args.call.now c.begin.new.reply c.begin.new.self.made begins w line
    (subst (λ o. SessionStands o w) c.in_default.is stood)).stands)
