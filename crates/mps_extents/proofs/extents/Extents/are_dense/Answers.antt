use Rattle.std.proofs.Common.{ℕ, ◌≡◌, ◌<◌, ◌≤◌, true, not, Option, None, is_some, sym, ap, ◌∙◌, subst}
use Rattle.std.proofs.lemmas.Bool.{false≢true}
use Rattle.mps_base.specs.Run.{runs_within}
use Rattle.mps_extents.specs.Extents.{ExtentLists, AreWhole, is_covered}
use Rattle.mps_extents.proofs.Dense.{none_of, none_set, dense, no_set, none_opens, each_covered}
use Rattle.mps_extents.proofs.extents.Extents.are_dense.Goals as goal

-- blocks have all words between the bounds
abbrev AreCovered : ℕ → ℕ → ExtentLists → Type 0
AreCovered low high e = (word : ℕ) → low ≤ word → word < high → is_covered (runs_within low high e.blocks) word ≡ true

pub returns-then-high-eq0-clause-sound : goal.returns-then-high-eq0-clause-sound
returns-then-high-eq0-clause-sound c = λ known.
    let t = c.self.inside in
    let low = c.args.low in
    let high = c.args.high in
    let P : ExtentLists → Type 0 = λ e. AreWhole low high e.covered in
    let Q : ExtentLists → Type 0 = λ e. AreCovered low high e in
    subst Q c.self.view_is
    (dense t.covered t.opens t.ends t.blocks low high c.self.invariant.0 (subst P (sym c.self.view_is) c.requires.whole)
    (c.are_all_set_unless.ensures.sound known))

pub returns-then-high-eq0-clause-complete : goal.returns-then-high-eq0-clause-complete
returns-then-high-eq0-clause-complete c = λ all.
    let t = c.self.inside in
    let low = c.args.low in
    let high = c.args.high in
    let P : ExtentLists → Type 0 = λ e. AreCovered low high e in
    let own = subst P (sym c.self.view_is) all in
    c.are_all_set_unless.ensures.complete (λ i above below. (
      each_covered t.covered t.opens t.ends t.blocks low high c.self.invariant.0 c.self.invariant.1 own i above below,
      none_opens t.covered t.opens t.ends t.blocks low high c.self.invariant.0 c.self.invariant.1 own i above below,
    ))

pub returns-then-is_none-clause-sound : goal.returns-then-is_none-clause-sound
returns-then-is_none-clause-sound c = λ known.
    let t = c.self.inside in
    let low = c.args.low in
    let high = c.args.high in
    let P : ExtentLists → Type 0 = λ e. AreWhole low high e.covered in
    let Q : ExtentLists → Type 0 = λ e. AreCovered low high e in
    let no_open = none_of c.next_set_below.result (c.is_none.ensures ∙ ap not c.if-is_none.true) ∙ c.next_set_below.ensures in
    subst Q c.self.view_is
    (dense t.covered t.opens t.ends t.blocks low high c.self.invariant.0 (subst P (sym c.self.view_is) c.requires.whole)
    (λ i above below. (c.are_all_set.ensures.sound known i above below, none_set t.opens low high no_open i above below)))

pub returns-then-is_none-clause-complete : goal.returns-then-is_none-clause-complete
returns-then-is_none-clause-complete c = λ all.
    let t = c.self.inside in
    let low = c.args.low in
    let high = c.args.high in
    let P : ExtentLists → Type 0 = λ e. AreCovered low high e in
    c.are_all_set.ensures.complete
    (each_covered t.covered t.opens t.ends t.blocks low high c.self.invariant.0 c.self.invariant.1 (subst P (sym c.self.view_is) all))

pub returns-else-is_none-clause-complete : goal.returns-else-is_none-clause-complete
returns-else-is_none-clause-complete c = λ all.
    let t = c.self.inside in
    let low = c.args.low in
    let high = c.args.high in
    let P : ExtentLists → Type 0 = λ e. AreCovered low high e in
    let clear =
    none_opens t.covered t.opens t.ends t.blocks low high c.self.invariant.0 c.self.invariant.1 (subst P (sym c.self.view_is) all)
    in
    let none : c.next_set_below.result ≡ None = c.next_set_below.ensures ∙ no_set t.opens low high clear in
    absurd (false≢true (sym (ap (λ (o : Option ℕ). is_some o) none) ∙ c.is_none.ensures ∙ ap not c.if-is_none.false))
