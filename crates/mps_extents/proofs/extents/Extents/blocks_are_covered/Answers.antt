use Rattle.std.proofs.Common.{Contains, subst}
use Rattle.mps_extents.specs.Extents.{ExtentLists}
use Rattle.mps_extents.proofs.TakenExtent.{block_fits}
use Rattle.mps_extents.proofs.extents.Extents.blocks_are_covered.Goals as goal

pub returns : goal.returns
returns c = λ r there.
    let block = block_fits c.self.inside c.args.self.now r.from r.count c.self.invariant.0 c.self.view_is there in
    let P : ExtentLists → Type 0 = λ e. Contains e.covered r in
    subst P c.self.view_is block.fits.taken.there
