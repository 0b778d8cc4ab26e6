use Rattle.std.proofs.Common.{◌∙◌, List, length, sym, ap, subst, arith}
use Rattle.std.specs.Vec.{vec_capacity}
use Rattle.mps_dep.specs.declared.dependents.Pair.{Pair}
use Rattle.mps_dep.specs.Inside.{IsSoundDependents}
use Rattle.mps_dep.specs.State.{is_of, dependent_of}
use Rattle.mps_dep.proofs.Pairs.{fewer_stay_sound, none_to_end, one_to_end}
use Rattle.mps_dep.proofs.dependents.Dependents.unlink.Goals as goal

pub returns-in_err-before-clause-state : goal.returns-in_err-before-clause-state
returns-in_err-before-clause-state c = none_to_end c.args.self.now c.args.holder.0 (sym c.in_err-before.ensures)

pub invariant_of-self : goal.invariant_of-self
invariant_of-self c =
    let pairs = c.end_pairs_of.new.pairs in
    let old = c.self.inside in
    let P : List Pair → Type 0 = λ ps. IsSoundDependents ps old.marks (vec_capacity pairs) in
    subst P (sym c.end_pairs_of.ensures.items) (fewer_stay_sound old.pairs.items old.marks (vec_capacity old.pairs)
    (vec_capacity pairs) (is_of c.args.holder.0) c.self.invariant c.end_pairs_of.ensures.capacity)

pub returns-clause-room : goal.returns-clause-room
returns-clause-room c =
    let old = c.self.inside in
    let fewer = one_to_end old.pairs.items c.args.holder.0 c.in_ok-before.before.0
    (ap (λ (pairs : List Pair). dependent_of pairs c.args.holder.0) c.self.view_is ∙ sym c.in_ok-before.ensures)
    in
    omega (arith, fewer, ap length c.end_pairs_of.ensures.items, c.self.invariant.few)
