use Rattle.std.proofs.Common.{◌≡◌, Some, sym, subst}
use Rattle.mps_base.specs.Segment.{Segment, segment_over}
use Rattle.mps_seg.specs.Segs.{SegsState}
use Rattle.mps_seg.proofs.HeldWords.{segment_there}
use Rattle.mps_segment_tests.proofs.tests.calls.write_held.Goals as goal

pub held_word-requires : goal.held_word-requires
held_word-requires c =
    let P : SegsState → Type 0 = λ s. (t : Segment) × (segment_over s.segments c.args.at.0 ≡ Some t) in
    subst P (sym c.set_held_word.ensures) (segment_there _ c.in-Some.field-0 c.in-Some.ensures)
