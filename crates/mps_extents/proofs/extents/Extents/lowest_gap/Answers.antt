use Rattle.std.proofs.Common.{sym, ap, ◌∙◌, subst}
use Rattle.mps_base.specs.Run.{gaps, lowest_fitting, runs_within}
use Rattle.mps_extents.specs.Extents.{ExtentLists, AreWhole}
use Rattle.mps_extents.proofs.EitherBits.{begins_of}
use Rattle.mps_extents.proofs.extents.Extents.lowest_gap.Goals as goal
use Rattle.mps_extents.proofs.LowestGap.{lowest_gap_is, lowest_gap_below}

pub returns-clause-value : goal.returns-clause-value
returns-clause-value c =
    let covered = c.self.inside.covered in
    let begins = begins_of c.self.inside in
    let ends = c.self.inside.ends in
    let blocks = c.self.inside.blocks in
    let sound = c.self.invariant.0 in
    let P : ExtentLists → Type 0 = λ e. AreWhole c.args.low c.args.high e.covered in
    c.lowest_clear_run.ensures
    ∙ lowest_gap_is covered begins ends blocks c.args.low c.args.high c.args.words sound c.requires.nonzero c.requires.ordered
    (subst P (sym c.self.view_is) c.requires.whole)
    ∙ ap (λ (e : ExtentLists). lowest_fitting c.args.words
    (gaps c.args.low c.args.high (runs_within c.args.low c.args.high e.covered))) c.self.view_is

pub returns-clause-fits : goal.returns-clause-fits
returns-clause-fits c =
    let covered = c.self.inside.covered in
    let begins = begins_of c.self.inside in
    let ends = c.self.inside.ends in
    let blocks = c.self.inside.blocks in
    let P : ExtentLists → Type 0 = λ e. AreWhole c.args.low c.args.high e.covered in
    lowest_gap_below covered begins ends blocks c.args.low c.args.high c.args.words c.self.invariant.0 c.requires.nonzero
    c.requires.ordered (subst P (sym c.self.view_is) c.requires.whole) c.lowest_clear_run.result c.lowest_clear_run.ensures
