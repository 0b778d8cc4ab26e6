use Rattle.std.proofs.Common.{sym, Contains, ap, ◌∙◌, subst, arith}
use Rattle.mps_base.specs.Run.{Run, without_run}
use Rattle.mps_extents.specs.Extents.{ExtentLists}
use Rattle.mps_extents.specs.Inside.{extents}
use Rattle.mps_extents.proofs.EitherBits.{begins_of}
use Rattle.mps_extents.proofs.Tally.{blocks_ascend, tally_taken, tally_has}
use Rattle.mps_extents.proofs.TakenExtent.{block_fits}
use Rattle.mps_extents.proofs.Tables.{dropped_is_sound, dropped_apart, dropped_lists}
use Rattle.mps_extents.proofs.extents.Extents.drop_block.Goals as goal

pub overflow_add-at : goal.overflow_add-at
overflow_add-at c =
    let fits = (block_fits c.self.inside c.args.self.now c.args.at c.args.words c.self.invariant.0 c.self.view_is c.requires).fits in
    omega arith

pub clear_range-requires-clause-in_table : goal.clear_range-requires-clause-in_table
clear_range-requires-clause-in_table c =
    let fits = (block_fits c.self.inside c.args.self.now c.args.at c.args.words c.self.invariant.0 c.self.view_is c.requires).fits in
    omega arith

pub clear-requires : goal.clear-requires
clear-requires c =
    let fits = (block_fits c.self.inside c.args.self.now c.args.at c.args.words c.self.invariant.0 c.self.view_is c.requires).fits in
    omega arith

pub invariant_of-self : goal.invariant_of-self
invariant_of-self c =
    let t = c.self.inside in
    let r : Run = record { from = c.args.at; count = c.args.words } in
    let taken = block_fits t c.args.self.now c.args.at c.args.words c.self.invariant.0 c.self.view_is c.requires in
    let ascend = blocks_ascend t.covered (begins_of t) t.ends t.blocks c.self.invariant.0 in
    let P : ExtentLists → Type 0 = λ e. Contains e.blocks r in
    rw (c.clear_range.ensures.state, c.clear.ensures.state) (
      dropped_is_sound t.covered t.opens t.ends t.blocks r c.self.invariant.1 taken.fits.taken taken.block,
      dropped_apart t.covered t.opens t.ends t.blocks r c.self.invariant.1 taken.fits.taken taken.block,
      tally_taken 0 _ r (extents t.blocks t.ends) _ t.live_blocks t.live_words c.self.invariant.2 ascend
          (subst P (sym c.self.view_is) c.requires)
          (ap (λ (e : ExtentLists). e.blocks)
          (dropped_lists t.covered t.opens t.ends t.blocks r c.self.invariant.1 taken.fits.taken taken.block)),
    )

pub overflow_sub-self : goal.overflow_sub-self
overflow_sub-self c =
    let t = c.self.inside in
    let r : Run = record { from = c.args.at; count = c.args.words } in
    let ascend = blocks_ascend t.covered (begins_of t) t.ends t.blocks c.self.invariant.0 in
    let P : ExtentLists → Type 0 = λ e. Contains e.blocks r in
    let some = tally_has 0 _ (extents t.blocks t.ends) r t.live_blocks t.live_words c.self.invariant.2 ascend
    (subst P (sym c.self.view_is) c.requires)
    in
    omega (arith, some.0)

pub overflow_sub-self-2 : goal.overflow_sub-self-2
overflow_sub-self-2 c =
    let t = c.self.inside in
    let r : Run = record { from = c.args.at; count = c.args.words } in
    let ascend = blocks_ascend t.covered (begins_of t) t.ends t.blocks c.self.invariant.0 in
    let P : ExtentLists → Type 0 = λ e. Contains e.blocks r in
    let some = tally_has 0 _ (extents t.blocks t.ends) r t.live_blocks t.live_words c.self.invariant.2 ascend
    (subst P (sym c.self.view_is) c.requires)
    in
    omega (arith, some.1)

pub returns-clause-state : goal.returns-clause-state
returns-clause-state c =
    let t = c.self.inside in
    let r : Run = record { from = c.args.at; count = c.args.words } in
    let taken = block_fits t c.args.self.now c.args.at c.args.words c.self.invariant.0 c.self.view_is c.requires in
    rw (c.clear.ensures.state)
    (dropped_lists t.covered t.opens t.ends t.blocks r c.self.invariant.1 taken.fits.taken taken.block
    ∙ ap (λ (e : ExtentLists). record e { covered = without_run c.args.at e.covered; blocks = without_run c.args.at e.blocks })
    c.self.view_is)

pub returns-clause-was_covered : goal.returns-clause-was_covered
returns-clause-was_covered c =
    let taken = block_fits c.self.inside c.args.self.now c.args.at c.args.words c.self.invariant.0 c.self.view_is c.requires in
    let P : ExtentLists → Type 0 = λ e. Contains e.covered (record { from = c.args.at; count = c.args.words }) in
    subst P c.self.view_is taken.fits.taken.there
