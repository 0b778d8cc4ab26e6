use Rattle.std.proofs.Common.{ℕ, sym, subst}
use Rattle.mps_format.specs.Front.{front_layout}
use Rattle.mps_seg.specs.Segs.{SegsState}
use Rattle.mps_xform.specs.Applying.{CanApply}
use Rattle.mps_transform_tests.specs.Full.{AreFull}
use Rattle.mps_transform_tests.proofs.applying.agree.Goals as goal
use Rattle.mps_transform_tests.proofs.applying.agree.Goals.{in-0, in-2-to-19, in-20-to-49, in-50-to-149+else-not-written_alike, in_default+in_ok-added_alike-in_default+else-not-branch}

pub returns-clause-can : goal.returns-clause-can
returns-clause-can c =
    let P : SegsState → Type 0 = λ s. (pool : ℕ) → CanApply front_layout s pool in
    elim c.if-choice-lt2.branch [
      | in-0 w ↦ subst P (sym w.segs-is) c.requires.can
      | in-2-to-19 w ↦ subst P (sym w.segs-is) w.apply_to.ensures.can
      | in-20-to-49 w ↦ subst P (sym w.segs-is) w.apply_to-in-20-to-49.ensures.can
      | in-50-to-149+else-not-written_alike w ↦ subst P (sym w.segs-is) w.written_alike.ensures.can
      | in_default+in_ok-added_alike-in_default+else-not-branch w ↦ subst P (sym w.segs-is) c.requires.can
    ]

pub returns-clause-full : goal.returns-clause-full
returns-clause-full c =
    elim c.if-choice-lt2.branch [
      | in-0 w ↦ subst AreFull (sym w.segs-is) c.requires.full
      | in-2-to-19 w ↦ subst AreFull (sym w.segs-is) w.apply_to.ensures.full
      | in-20-to-49 w ↦ subst AreFull (sym w.segs-is) w.apply_to-in-20-to-49.ensures.full
      | in-50-to-149+else-not-written_alike w ↦ subst AreFull (sym w.segs-is) w.written_alike.ensures.full
      | in_default+in_ok-added_alike-in_default+else-not-branch w ↦ subst AreFull (sym w.segs-is) c.requires.full
    ]
