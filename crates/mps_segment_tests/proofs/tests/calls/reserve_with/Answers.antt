use Rattle.std.proofs.Common.{Contains, sym, subst}
use Rattle.mps_base.specs.Run.{Run}
use Rattle.mps_seg.specs.Segs.{SegsState}
use Rattle.mps_extents.proofs.ApartRuns.{contains_put}
use Rattle.mps_segment_tests.proofs.tests.calls.reserve_with.Goals as goal
use Rattle.mps_base.specs.Address.{word_of}

pub uncover-requires : goal.uncover-requires
uncover-requires c =
    let r : Run = record { from = word_of c.in_ok-at.at.0; count = c.args.words } in
    let P : SegsState → Type 0 = λ s. Contains s.reservations r in
    subst P (sym c.cover.ensures) (contains_put r _)

pub commit-requires : goal.commit-requires
commit-requires c =
    let r : Run = record { from = word_of c.in_ok-at.at.0; count = c.args.words } in
    let P : SegsState → Type 0 = λ s. Contains s.reservations r in
    subst P (sym c.cover-2.ensures) (contains_put r _)
