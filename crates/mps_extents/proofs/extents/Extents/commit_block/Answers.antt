use Rattle.std.proofs.Common.{ap, ◌∙◌, arith}
use Rattle.mps_base.specs.Run.{Run, with_run}
use Rattle.mps_extents.specs.Extents.{ExtentLists}
use Rattle.mps_extents.specs.Inside.{extents}
use Rattle.mps_extents.proofs.EitherBits.{begins_of}
use Rattle.mps_extents.proofs.Tally.{blocks_ascend, tally_put, tally_fits}
use Rattle.mps_extents.proofs.PutExtent.{put_fits}
use Rattle.mps_extents.proofs.Tables.{commit_block_is_sound, commit_block_apart, commit_block_lists}
use Rattle.mps_extents.proofs.extents.Extents.commit_block.Goals as goal

pub overflow_add-at : goal.overflow_add-at
overflow_add-at c =
    let fits =
    put_fits c.self.inside c.args.self.now c.args.at c.args.words c.self.invariant.0 c.self.view_is c.requires.nonzero c.requires.free
    in
    omega arith

pub set_range-requires-clause-in_table : goal.set_range-requires-clause-in_table
set_range-requires-clause-in_table c =
    let fits =
    put_fits c.self.inside c.args.self.now c.args.at c.args.words c.self.invariant.0 c.self.view_is c.requires.nonzero c.requires.free
    in
    omega arith

pub overflow_add-at-2 : goal.overflow_add-at-2
overflow_add-at-2 c =
    let fits =
    put_fits c.self.inside c.args.self.now c.args.at c.args.words c.self.invariant.0 c.self.view_is c.requires.nonzero c.requires.free
    in
    omega arith

pub end_run-requires-clause-in_table : goal.end_run-requires-clause-in_table
end_run-requires-clause-in_table c =
    let fits =
    put_fits c.self.inside c.args.self.now c.args.at c.args.words c.self.invariant.0 c.self.view_is c.requires.nonzero c.requires.free
    in
    omega arith

pub set-requires : goal.set-requires
set-requires c =
    let fits =
    put_fits c.self.inside c.args.self.now c.args.at c.args.words c.self.invariant.0 c.self.view_is c.requires.nonzero c.requires.free
    in
    omega arith

pub invariant_of-self : goal.invariant_of-self
invariant_of-self c =
    let t = c.self.inside in
    let fits = put_fits t c.args.self.now c.args.at c.args.words c.self.invariant.0 c.self.view_is c.requires.nonzero c.requires.free in
    let r : Run = record { from = c.args.at; count = c.args.words } in
    rw (c.set_range.ensures.state, c.end_run.ensures.state, c.set.ensures.state) (
      commit_block_is_sound t.covered t.opens t.ends t.blocks c.args.at c.args.words c.self.invariant.1 fits.put,
      commit_block_apart t.covered t.opens t.ends t.blocks c.args.at c.args.words c.self.invariant.1 fits.put,
      tally_put r (extents t.blocks t.ends) _ t.live_blocks t.live_words c.self.invariant.2
          (ap (λ (e : ExtentLists). e.blocks)
          (commit_block_lists t.covered t.opens t.ends t.blocks c.args.at c.args.words c.self.invariant.1 fits.put)),
    )

pub overflow_add-self : goal.overflow_add-self
overflow_add-self c =
    let t = c.self.inside in
    let ascend = blocks_ascend t.covered (begins_of t) t.ends t.blocks c.self.invariant.0 in
    let fits = tally_fits 0 _ (extents t.blocks t.ends) t.live_blocks t.live_words c.self.invariant.2 ascend in
    omega (arith, fits.0, c.self.invariant.0.small)

pub overflow_add-self-2 : goal.overflow_add-self-2
overflow_add-self-2 c =
    let t = c.self.inside in
    let ascend = blocks_ascend t.covered (begins_of t) t.ends t.blocks c.self.invariant.0 in
    let fits = tally_fits 0 _ (extents t.blocks t.ends) t.live_blocks t.live_words c.self.invariant.2 ascend in
    let mine = put_fits t c.args.self.now c.args.at c.args.words c.self.invariant.0 c.self.view_is c.requires.nonzero c.requires.free in
    omega (arith, fits.1, c.self.invariant.0.small, mine.at_most)

pub returns : goal.returns
returns c =
    let t = c.self.inside in
    let fits = put_fits t c.args.self.now c.args.at c.args.words c.self.invariant.0 c.self.view_is c.requires.nonzero c.requires.free in
    let r : Run = record { from = c.args.at; count = c.args.words } in
    rw (c.end_run.ensures.state, c.set.ensures.state)
    (commit_block_lists t.covered t.opens t.ends t.blocks c.args.at c.args.words c.self.invariant.1 fits.put
    ∙ ap (λ (e : ExtentLists). record e { covered = with_run r e.covered; blocks = with_run r e.blocks }) c.self.view_is)
