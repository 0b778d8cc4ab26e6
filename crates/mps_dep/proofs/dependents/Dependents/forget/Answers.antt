use Rattle.std.proofs.Common.{◌≡◌, Bool, false, List, sym, subst, arith}
use Rattle.std.specs.List.{list_any}
use Rattle.std.proofs.lemmas.Grind.{common_steps}
use Rattle.std.specs.Vec.{vec_capacity}
use Rattle.mps_dep.specs.declared.dependents.Pair.{Pair}
use Rattle.mps_dep.specs.Inside.{IsSoundDependents, has_mark}
use Rattle.mps_dep.specs.State.{has_name, without_address}
use Rattle.mps_dep.proofs.Pairs.{cleared_stays_sound, fewer_stay_sound, none_of_none, unmarked_keeps_all}
use Rattle.mps_dep.proofs.dependents.Dependents.forget.Goals as goal

pub returns-then-is_empty : goal.returns-then-is_empty
returns-then-is_empty c =
    let P : List Pair → Type 0 = λ pairs. pairs ≡ without_address pairs c.args.at.0 in
    subst P c.self.view_is (none_of_none c.self.inside.pairs.items c.args.at.0
    (grind (arith, common_steps, c.is_empty.ensures, c.if-is_empty.true, c.self.inside.pairs.ok.0)))

pub returns-then-not-test : goal.returns-then-not-test
returns-then-not-test c =
    let P : List Pair → Type 0 = λ pairs. pairs ≡ without_address pairs c.args.at.0 in
    subst P c.self.view_is (unmarked_keeps_all c.self.inside.marks c.self.inside.pairs.items c.args.at.0 c.self.invariant.marked (cc))

pub invariant_of-self : goal.invariant_of-self
invariant_of-self c =
    let pairs = c.end_pairs_with.new.pairs in
    let old = c.self.inside in
    let P : List Pair → Type 0 = λ ps. IsSoundDependents ps old.marks (vec_capacity pairs) in
    let none : list_any (has_mark c.mark_of-mark.result) pairs.items ≡ false = cc in
    let Q : List Bool → Type 0 = λ marks. IsSoundDependents pairs.items marks (vec_capacity pairs) in
    let sound = subst P (sym c.end_pairs_with.ensures.items) (fewer_stay_sound old.pairs.items old.marks (vec_capacity old.pairs)
    (vec_capacity pairs) (has_name c.args.at.0) c.self.invariant c.end_pairs_with.ensures.capacity)
    in
    subst Q (sym c.clear.ensures.state) (cleared_stays_sound pairs.items old.marks (vec_capacity pairs) c.mark_of-mark.result sound none)

pub invariant_of-self-else-not-has_mark : goal.invariant_of-self-else-not-has_mark
invariant_of-self-else-not-has_mark c =
    let pairs = c.end_pairs_with.new.pairs in
    let old = c.self.inside in
    let P : List Pair → Type 0 = λ ps. IsSoundDependents ps old.marks (vec_capacity pairs) in
    subst P (sym c.end_pairs_with.ensures.items) (fewer_stay_sound old.pairs.items old.marks (vec_capacity old.pairs)
    (vec_capacity pairs) (has_name c.args.at.0) c.self.invariant c.end_pairs_with.ensures.capacity)
