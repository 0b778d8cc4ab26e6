use Rattle.std.proofs.Common.{List, sym, Contains, ap, ◌∙◌, subst, arith}
use Rattle.mps_base.specs.Run.{Run, without_run}
use Rattle.mps_extents.specs.Extents.{ExtentLists}
use Rattle.mps_extents.specs.Inside.{IsTally}
use Rattle.mps_extents.proofs.TakenExtent.{reservation_fits}
use Rattle.mps_extents.proofs.Tables.{uncovered_is_sound, uncovered_apart, uncovered_lists}
use Rattle.mps_extents.proofs.extents.Extents.uncover.Goals as goal

pub overflow_add-at : goal.overflow_add-at
overflow_add-at c =
    let fits = (reservation_fits c.self.inside c.args.self.now c.args.at c.args.words c.self.invariant.0 c.self.view_is c.requires).fits in
    omega arith

pub clear_range-requires-clause-in_table : goal.clear_range-requires-clause-in_table
clear_range-requires-clause-in_table c =
    let fits = (reservation_fits c.self.inside c.args.self.now c.args.at c.args.words c.self.invariant.0 c.self.view_is c.requires).fits in
    omega arith

pub clear-requires : goal.clear-requires
clear-requires c =
    let fits = (reservation_fits c.self.inside c.args.self.now c.args.at c.args.words c.self.invariant.0 c.self.view_is c.requires).fits in
    omega arith

pub invariant_of-self : goal.invariant_of-self
invariant_of-self c =
    let t = c.self.inside in
    let r : Run = record { from = c.args.at; count = c.args.words } in
    let taken = reservation_fits t c.args.self.now c.args.at c.args.words c.self.invariant.0 c.self.view_is c.requires in
    let P : List Run → Type 0 = λ rs. IsTally rs t.live_blocks t.live_words in
    rw (c.clear_range.ensures.state, c.clear.ensures.state) (
      uncovered_is_sound t.covered t.opens t.ends t.blocks r c.self.invariant.1 taken.fits.taken taken.reserved,
      uncovered_apart t.covered t.opens t.ends t.blocks r c.self.invariant.1 taken.fits.taken,
      subst P (sym (ap (λ (e : ExtentLists). e.blocks)
          (uncovered_lists t.covered t.opens t.ends t.blocks r c.self.invariant.1 taken.fits.taken taken.reserved)))
          c.self.invariant.2,
    )

pub returns-clause-state : goal.returns-clause-state
returns-clause-state c =
    let t = c.self.inside in
    let r : Run = record { from = c.args.at; count = c.args.words } in
    let taken = reservation_fits t c.args.self.now c.args.at c.args.words c.self.invariant.0 c.self.view_is c.requires in
    rw (c.clear.ensures.state)
    (uncovered_lists t.covered t.opens t.ends t.blocks r c.self.invariant.1 taken.fits.taken taken.reserved
    ∙ ap (λ (e : ExtentLists). record e
    { covered = without_run c.args.at e.covered; reservations = without_run c.args.at e.reservations }) c.self.view_is)

pub returns-clause-was_covered : goal.returns-clause-was_covered
returns-clause-was_covered c =
    let taken = reservation_fits c.self.inside c.args.self.now c.args.at c.args.words c.self.invariant.0 c.self.view_is c.requires in
    let P : ExtentLists → Type 0 = λ e. Contains e.covered (record { from = c.args.at; count = c.args.words }) in
    subst P c.self.view_is taken.fits.taken.there
