use Rattle.std.proofs.Common.{ℕ, ◌≤◌, ◌≡◌, Option, length, ap, ◌∙◌, subst, arith}
use Rattle.std.specs.Option.{unwrap_or}
use Rattle.mps_extents.specs.Extents.{ExtentLists, first_run}
use Rattle.mps_extents.specs.Inside.{extents}
use Rattle.mps_extents.proofs.EitherBits.{begins_of, length-either, lowest_of_both, search_ends}
use Rattle.mps_extents.proofs.extents.Extents.first_covered.Goals as goal
use Rattle.mps_extents.proofs.FirstRun.{first_block_is, first_within, none_within, IfFirst, IfNoneWithin}

pub next_set_below-open-requires : goal.next_set_below-open-requires
next_set_below-open-requires c =
    let t = c.self.inside in
    omega (
      arith,
      c.requires,
      ap (λ (e : ExtentLists). e.size) c.self.view_is,
      length-either t.opens t.blocks,
      c.unwrap_or.ensures,
      ap (λ (o : Option ℕ). unwrap_or o c.args.high) c.next_set_below-block.ensures,
      search_ends t.blocks c.args.low c.args.high,
    )

pub returns-clause-value : goal.returns-clause-value
returns-clause-value c =
    let t = c.self.inside in
    let within : c.args.high ≤ length t.opens =
    omega (arith, c.requires, ap (λ (e : ExtentLists). e.size) c.self.view_is, length-either t.opens t.blocks)
    in
    let is : c.or.result ≡ first_run c.args.low c.args.high (extents (begins_of t) t.ends) =
    lowest_of_both t.opens t.blocks c.args.low c.args.high c.unwrap_or.result c.next_set_below-open.result c.next_set_below-block.result
    c.or.result within c.next_set_below-block.ensures c.unwrap_or.ensures c.next_set_below-open.ensures c.or.ensures
    ∙ first_block_is t.ends (begins_of t) c.args.low c.args.high
    in
    is ∙ ap (λ (e : ExtentLists). first_run c.args.low c.args.high e.covered) c.self.view_is

pub returns-clause-first : goal.returns-clause-first
returns-clause-first c =
    let t = c.self.inside in
    let within : c.args.high ≤ length t.opens =
    omega (arith, c.requires, ap (λ (e : ExtentLists). e.size) c.self.view_is, length-either t.opens t.blocks)
    in
    let is : c.or.result ≡ first_run c.args.low c.args.high (extents (begins_of t) t.ends) =
    lowest_of_both t.opens t.blocks c.args.low c.args.high c.unwrap_or.result c.next_set_below-open.result c.next_set_below-block.result
    c.or.result within c.next_set_below-block.ensures c.unwrap_or.ensures c.next_set_below-open.ensures c.or.ensures
    ∙ first_block_is t.ends (begins_of t) c.args.low c.args.high
    in
    let P : ExtentLists → Type 0 = λ e. IfFirst c.args.low c.args.high e.covered c.or.result in
    subst P c.self.view_is
    (first_within 0 _ c.args.low c.args.high (extents (begins_of t) t.ends) c.or.result c.self.invariant.0.ascending is)

pub returns-clause-none : goal.returns-clause-none
returns-clause-none c =
    let t = c.self.inside in
    let within : c.args.high ≤ length t.opens =
    omega (arith, c.requires, ap (λ (e : ExtentLists). e.size) c.self.view_is, length-either t.opens t.blocks)
    in
    let is : c.or.result ≡ first_run c.args.low c.args.high (extents (begins_of t) t.ends) =
    lowest_of_both t.opens t.blocks c.args.low c.args.high c.unwrap_or.result c.next_set_below-open.result c.next_set_below-block.result
    c.or.result within c.next_set_below-block.ensures c.unwrap_or.ensures c.next_set_below-open.ensures c.or.ensures
    ∙ first_block_is t.ends (begins_of t) c.args.low c.args.high
    in
    let P : ExtentLists → Type 0 = λ e. IfNoneWithin c.args.low c.args.high e.covered c.or.result in
    subst P c.self.view_is (none_within c.args.low c.args.high (extents (begins_of t) t.ends) c.or.result is)
