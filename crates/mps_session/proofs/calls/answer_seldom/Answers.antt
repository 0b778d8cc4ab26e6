use Rattle.std.proofs.Common.{◌∙◌, ap}
use Rattle.std.proofs.lemmas.Result.{err_from_is_err_and}
use Rattle.mps_base.specs.Trail.{Moves}
use Rattle.mps_session.proofs.Answering.{answered_last, still_last}
use Rattle.mps_session.proofs.Groups.{left_over, making_takes_memory}
use Rattle.mps_session.proofs.calls.answer_seldom.Goals as goal

pub answer-requires-5-clause-which : goal.answer-requires-5-clause-which
answer-requires-5-clause-which c =
    left_over c.args.call.now c.requires.other c.in_default.ensures.which c.requires.seldom c.in_default-answer.ensures.which
    c.in_default-answer-2.ensures.which c.in_default-answer-3.ensures.which

pub returns-clause-right : goal.returns-clause-right
returns-clause-right c =
    let h = c.args.heap.now in
    let call = c.args.call.now in
    let same =
    c.in_default-answer-3.ensures.unchanged ∙ c.in_default-answer-2.ensures.unchanged ∙ c.in_default-answer.ensures.unchanged
    ∙ c.in_default.ensures.unchanged in
    let unmoved =
    ap (λ (t : Moves). t.moves) c.in_default.ensures.unmoved ∙ c.requires.empty in
    answered_last h c.answer-4.new.heap c.answer-5.new.heap call c.in_ok-reply.field-0 c.answer.new.trail.moves same unmoved
    c.in_ok-reply.ensures.right

pub returns-in_err-reply-clause-unchanged : goal.returns-in_err-reply-clause-unchanged
returns-in_err-reply-clause-unchanged c =
    let same =
    c.in_default-answer-3.ensures.unchanged ∙ c.in_default-answer-2.ensures.unchanged ∙ c.in_default-answer.ensures.unchanged
    ∙ c.in_default.ensures.unchanged in
    let p = err_from_is_err_and c.from_residual.result c.from_residual.ensures.1 in
    rw p.1
    (still_last c.args.heap.now c.answer-4.new.heap c.answer-5.new.heap c.args.call.now same c.in_err-reply.ensures.unchanged)

pub returns-in_err-reply-clause-memory : goal.returns-in_err-reply-clause-memory
returns-in_err-reply-clause-memory c =
    let p = err_from_is_err_and c.from_residual.result c.from_residual.ensures.1 in
    rw p.1
    (making_takes_memory c.args.call.now
    (left_over c.args.call.now c.requires.other c.in_default.ensures.which c.requires.seldom c.in_default-answer.ensures.which
    c.in_default-answer-2.ensures.which c.in_default-answer-3.ensures.which))
