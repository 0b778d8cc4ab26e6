use Rattle.std.proofs.Common.{◌≤◌, ◌≡◌, [], not, length, sym, ap, ◌∙◌, subst, arith}
use Rattle.std.proofs.lemmas.Bool.{true≢false, not-false}
use Rattle.mps_extents.specs.Extents.{ExtentLists}
use Rattle.mps_extents.specs.Lost.{lost_runs}
use Rattle.mps_extents.proofs.AnyLost.{none_lost, all_kept}
use Rattle.mps_extents.proofs.extents.Extents.is_any_lost.Goals as goal

pub returns-clause-some : goal.returns-clause-some
returns-clause-some c = λ known none.
    let t = c.self.inside in
    let within : c.args.high ≤ length t.blocks =
    omega (arith, c.requires.in_table, ap (λ (e : ExtentLists). e.size) c.self.view_is, c.self.invariant.0.same_size.2)
    in
    let P : ExtentLists → Type 0 = λ e. lost_runs c.args.low c.args.high c.args.kept.now e.blocks ≡ [] in
    let subset =
    c.is_subset_of.ensures.complete
    (all_kept t.blocks t.ends c.args.kept.now c.args.low c.args.high c.requires.ordered within (subst P (sym c.self.view_is) none))
    in
    true≢false (sym known ∙ ap not subset)

pub returns-clause-none : goal.returns-clause-none
returns-clause-none c = λ known.
    let t = c.self.inside in
    let within : c.args.high ≤ length t.blocks =
    omega (arith, c.requires.in_table, ap (λ (e : ExtentLists). e.size) c.self.view_is, c.self.invariant.0.same_size.2)
    in
    let P : ExtentLists → Type 0 = λ e. lost_runs c.args.low c.args.high c.args.kept.now e.blocks ≡ [] in
    subst P c.self.view_is
    (none_lost t.blocks t.ends c.args.kept.now c.args.low c.args.high c.requires.ordered within
    (c.is_subset_of.ensures.sound (not-false c.is_subset_of.result known)))
