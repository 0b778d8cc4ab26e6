use Rattle.std.proofs.Common.{sym, subst}
use Rattle.mps_base.specs.Address.{word_of}
use Rattle.mps_base.specs.Run.{Run}
use Rattle.mps_seg.specs.Segs.{SegsState, CanCover}
use Rattle.mps_buffer.specs.Points.{placement_at}
use Rattle.mps_buffer.proofs.StillOpen.{still_open}
use Rattle.mps_buffer.proofs.reserving.reserve_apart.Goals as goal

pub returns-clause-others : goal.returns-clause-others
returns-clause-others c = λ r free apart.
    let s = c.args.segs.now in
    let p = c.args.p.now in
    let q : Run = record { from = word_of c.in_ok-placed.placed.at.0; count = c.args.words } in
    let P : SegsState → Type 0 = λ x. CanCover x r in
    subst P (sym c.hold.ensures.state)
    (still_open s c.place.new.segs p (placement_at p s c.args.words) r q free c.in_ok-placed.ensures.free c.in_ok-placed.ensures.state
    apart)
