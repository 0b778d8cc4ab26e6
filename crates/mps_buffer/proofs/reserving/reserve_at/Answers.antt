use Rattle.std.proofs.Common.{refl, sym, subst}
use Rattle.mps_base.specs.Address.{word_of}
use Rattle.mps_base.specs.Placement.{Place}
use Rattle.mps_base.specs.Run.{Run}
use Rattle.mps_seg.specs.Segs.{SegsState, CanCover}
use Rattle.mps_buffer.proofs.StillOpen.{still_open}
use Rattle.mps_buffer.proofs.reserving.reserve_at.Goals as goal

pub returns-then-words-p-clause-others : goal.returns-then-words-p-clause-others
returns-then-words-p-clause-others c = λ r free apart.
    let s = c.args.segs.now in
    let p = c.args.p.now in
    let q : Run = record { from = word_of c.front-placed.result.at.0; count = c.args.words } in
    let P : SegsState → Type 0 = λ x. CanCover x r in
    subst P (sym c.hold.ensures.state) (still_open s s p (Place p.buffer.from) r q free c.front-placed.ensures.free refl apart)
