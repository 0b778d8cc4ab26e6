use Rattle.std.proofs.Common.{ap, ◌∙◌, subst}
use Rattle.mps_extents.specs.Extents.{ExtentLists, first_run}
use Rattle.mps_extents.specs.Inside.{extents}
use Rattle.mps_extents.proofs.extents.Extents.first_block.Goals as goal
use Rattle.mps_extents.proofs.FirstRun.{first_block_is, first_within, none_within, IfFirst, IfNoneWithin}
use Rattle.mps_extents.proofs.EitherBits.{begins_of}
use Rattle.mps_extents.proofs.Tally.{blocks_ascend}

pub returns-clause-value : goal.returns-clause-value
returns-clause-value c =
    let t = c.self.inside in
    c.next_set_below.ensures ∙ first_block_is t.ends t.blocks c.args.low c.args.high
    ∙ ap (λ (e : ExtentLists). first_run c.args.low c.args.high e.blocks) c.self.view_is

pub returns-clause-first : goal.returns-clause-first
returns-clause-first c =
    let t = c.self.inside in
    let is = c.next_set_below.ensures ∙ first_block_is t.ends t.blocks c.args.low c.args.high in
    let P : ExtentLists → Type 0 = λ e. IfFirst c.args.low c.args.high e.blocks c.next_set_below.result in
    subst P c.self.view_is
    (first_within 0 _ c.args.low c.args.high (extents t.blocks t.ends) c.next_set_below.result
    (blocks_ascend t.covered (begins_of t) t.ends t.blocks c.self.invariant.0) is)

pub returns-clause-none : goal.returns-clause-none
returns-clause-none c =
    let t = c.self.inside in
    let is = c.next_set_below.ensures ∙ first_block_is t.ends t.blocks c.args.low c.args.high in
    let P : ExtentLists → Type 0 = λ e. IfNoneWithin c.args.low c.args.high e.blocks c.next_set_below.result in
    subst P c.self.view_is (none_within c.args.low c.args.high (extents t.blocks t.ends) c.next_set_below.result is)
