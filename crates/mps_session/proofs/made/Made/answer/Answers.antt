use Rattle.std.proofs.Common.{rules, subst, sym}
use Rattle.mps_base.specs.Trail.{Moves}
use Rattle.mps_commands.specs.Asked.{IsAsked}
use Rattle.mps_refinement.specs.RightMoving.{KeepsRoom}
use Rattle.mps_session.specs.Session.{MadeState}
use Rattle.mps_session.specs.Standing.{HeapStands}
use Rattle.mps_session.proofs.Keeping.{call_keeps}
use Rattle.mps_session.proofs.Standing.{asked_few, asked_other}
use Rattle.mps_session.proofs.made.Made.answer.Goals as goal

pub answer-requires : goal.answer-requires
answer-requires c =
    let h = c.self.inside.heap in
    let asked = subst (λ (m : MadeState). IsAsked (HeapStands m.heap) c.args.call.now) (sym c.self.view_is) c.requires.asked in
    record {
      range = c.requires.range;
      other = asked_other h c.args.call.now asked;
      few_flips = asked_few h c.args.call.now asked;
      empty = search rules;
      grains = c.self.invariant.stands.heap.parts.arena.nonzero;
      fits = search rules;
    }

pub invariant_of-self : goal.invariant_of-self
invariant_of-self c =
    let h = c.self.inside.heap in
    let asked = subst (λ (m : MadeState). IsAsked (HeapStands m.heap) c.args.call.now) (sym c.self.view_is) c.requires.asked in
    let kept = subst (λ (m : Moves). KeepsRoom m c.answer.new.trail) c.clear.ensures c.answer.ensures.room in
    call_keeps h c.answer.new.heap c.self.inside.trail c.answer.new.trail kept c.args.call.now c.answer.new.trail.moves
    c.answer.new.reply (asked_other h c.args.call.now asked) c.answer.result c.answer.ensures.right c.answer.ensures.unchanged
    c.self.invariant
