use Rattle.std.proofs.Common.{Contains, ap, ◌∙◌, subst, arith}
use Rattle.mps_base.specs.Run.{Run, with_run, without_run}
use Rattle.mps_extents.specs.Extents.{ExtentLists}
use Rattle.mps_extents.specs.Inside.{extents}
use Rattle.mps_extents.proofs.EitherBits.{begins_of}
use Rattle.mps_extents.proofs.Tables.{committed_is_sound, committed_apart, committed_lists}
use Rattle.mps_extents.proofs.Tally.{blocks_ascend, tally_put, tally_fits}
use Rattle.mps_extents.proofs.TakenExtent.{reservation_fits}
use Rattle.mps_extents.proofs.extents.Extents.commit.Goals as goal

pub clear-requires : goal.clear-requires
clear-requires c =
    let fits = (reservation_fits c.self.inside c.args.self.now c.args.at c.args.words c.self.invariant.0 c.self.view_is c.requires).fits in
    omega arith

pub set-requires : goal.set-requires
set-requires c =
    let fits = (reservation_fits c.self.inside c.args.self.now c.args.at c.args.words c.self.invariant.0 c.self.view_is c.requires).fits in
    omega arith

pub overflow_add-self : goal.overflow_add-self
overflow_add-self c =
    let t = c.self.inside in
    let ascend = blocks_ascend t.covered (begins_of t) t.ends t.blocks c.self.invariant.0 in
    let fits = tally_fits 0 _ (extents t.blocks t.ends) t.live_blocks t.live_words c.self.invariant.2 ascend in
    omega (arith, fits.0, c.self.invariant.0.small)

pub overflow_add-self-2 : goal.overflow_add-self-2
overflow_add-self-2 c =
    let t = c.self.inside in
    let ascend = blocks_ascend t.covered (begins_of t) t.ends t.blocks c.self.invariant.0 in
    let fits = tally_fits 0 _ (extents t.blocks t.ends) t.live_blocks t.live_words c.self.invariant.2 ascend in
    let mine = (reservation_fits t c.args.self.now c.args.at c.args.words c.self.invariant.0 c.self.view_is c.requires).fits in
    omega (arith, fits.1, c.self.invariant.0.small, mine.at_most)

pub invariant_of-self : goal.invariant_of-self
invariant_of-self c =
    let t = c.self.inside in
    let r : Run = record { from = c.args.at; count = c.args.words } in
    let reserved = (reservation_fits t c.args.self.now c.args.at c.args.words c.self.invariant.0 c.self.view_is c.requires).reserved in
    rw (c.clear.ensures.state, c.set.ensures.state) (
      committed_is_sound t.covered t.opens t.ends t.blocks r c.self.invariant.1 c.self.invariant.0 reserved,
      committed_apart t.covered t.opens t.ends t.blocks r c.self.invariant.1 c.self.invariant.0 reserved,
      tally_put r (extents t.blocks t.ends) _ t.live_blocks t.live_words c.self.invariant.2
          (ap (λ (e : ExtentLists). e.blocks)
          (committed_lists t.covered t.opens t.ends t.blocks r c.self.invariant.1 c.self.invariant.0 reserved)),
    )

pub returns-clause-state : goal.returns-clause-state
returns-clause-state c =
    let t = c.self.inside in
    let r : Run = record { from = c.args.at; count = c.args.words } in
    let reserved = (reservation_fits t c.args.self.now c.args.at c.args.words c.self.invariant.0 c.self.view_is c.requires).reserved in
    rw (c.clear.ensures.state, c.set.ensures.state)
    (committed_lists t.covered t.opens t.ends t.blocks r c.self.invariant.1 c.self.invariant.0 reserved
    ∙ ap (λ (e : ExtentLists). record e
    { blocks = with_run r e.blocks; reservations = without_run c.args.at e.reservations }) c.self.view_is)

pub returns-clause-covered : goal.returns-clause-covered
returns-clause-covered c =
    let taken = reservation_fits c.self.inside c.args.self.now c.args.at c.args.words c.self.invariant.0 c.self.view_is c.requires in
    let P : ExtentLists → Type 0 = λ e. Contains e.covered (record { from = c.args.at; count = c.args.words }) in
    subst P c.self.view_is taken.fits.taken.there
