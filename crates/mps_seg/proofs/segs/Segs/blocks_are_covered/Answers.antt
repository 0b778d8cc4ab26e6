use Rattle.std.proofs.Common.{Contains, subst}
use Rattle.mps_base.specs.Run.{Run}
use Rattle.mps_seg.specs.Segs.{SegsState}
use Rattle.mps_seg.proofs.segs.Segs.blocks_are_covered.Goals as goal

pub returns : goal.returns
returns c =
    let P : SegsState → Type 0 = λ s. (r : Run) → Contains s.blocks r → Contains s.covered r in
    subst P c.self.view_is c.blocks_are_covered.ensures
