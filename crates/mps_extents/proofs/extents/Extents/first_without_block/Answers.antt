use Rattle.std.proofs.Common.{ℕ, ◌<◌, ◌≤◌, ◌≡◌, true, Option, IfSome, IfNone, sym, ap, ◌∙◌, subst, arith}
use Rattle.std.specs.Option.{unwrap_or}
use Rattle.mps_bits.specs.Table.{lowest_clear_run}
use Rattle.mps_extents.specs.Extents.{ExtentLists, AreWhole, IsLowestUncovered, is_covered}
use Rattle.mps_extents.proofs.EitherBits.{search_ends}
use Rattle.mps_extents.proofs.Uncovered.{IsFound, first_is_found}
use Rattle.mps_extents.proofs.extents.Extents.first_without_block.Goals as goal

pub lowest_clear_run-requires-clause-in_table : goal.lowest_clear_run-requires-clause-in_table
lowest_clear_run-requires-clause-in_table c =
    let t = c.self.inside in
    omega (
      arith,
      c.requires.in_table,
      ap (λ (e : ExtentLists). e.size) c.self.view_is,
      c.self.invariant.0.same_size.0,
      c.unwrap_or-end.ensures,
      ap (λ (o : Option ℕ). unwrap_or o c.args.high) c.next_set_below-open.ensures,
      search_ends t.opens c.args.low c.args.high,
    )

pub returns-clause-sound : goal.returns-clause-sound
returns-clause-sound c =
    let t = c.self.inside in
    let low = c.args.low in
    let high = c.args.high in
    let P : ExtentLists → Type 0 = λ e. AreWhole low high e.covered in
    let found =
    first_is_found t.covered t.opens t.ends t.blocks low high c.self.invariant.0 c.self.invariant.1
    (subst P (sym c.self.view_is) c.requires.whole)
    c.next_set_below-open.result
    c.lowest_clear_run.result
    c.next_set_below-open.ensures
    (c.lowest_clear_run.ensures ∙ ap (λ (end : ℕ). lowest_clear_run t.covered low end 1) c.unwrap_or-end.ensures)
    in
    let Q : ExtentLists → Type 0 = λ e. IfSome c.or.result (IsLowestUncovered low high e.blocks) in
    let R : Option ℕ → Type 0 = IsFound low high t.blocks t.ends in
    subst Q c.self.view_is (subst R (sym c.or.ensures) found).0

pub returns-clause-complete : goal.returns-clause-complete
returns-clause-complete c =
    let t = c.self.inside in
    let low = c.args.low in
    let high = c.args.high in
    let P : ExtentLists → Type 0 = λ e. AreWhole low high e.covered in
    let found =
    first_is_found t.covered t.opens t.ends t.blocks low high c.self.invariant.0 c.self.invariant.1
    (subst P (sym c.self.view_is) c.requires.whole)
    c.next_set_below-open.result
    c.lowest_clear_run.result
    c.next_set_below-open.ensures
    (c.lowest_clear_run.ensures ∙ ap (λ (end : ℕ). lowest_clear_run t.covered low end 1) c.unwrap_or-end.ensures)
    in
    let Q : ExtentLists → Type 0 =
    λ e. IfNone c.or.result ((word : ℕ) → low ≤ word → word < high → is_covered e.blocks word ≡ true)
    in
    let R : Option ℕ → Type 0 = IsFound low high t.blocks t.ends in
    subst Q c.self.view_is (subst R (sym c.or.ensures) found).1
