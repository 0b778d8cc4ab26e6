use Rattle.std.proofs.Common.{◌≡◌, false, Option, Some, IfNone, sym, ap, ◌∙◌, subst}
use Rattle.mps_seg.specs.Collecting.{is_condemned_at}
use Rattle.mps_seg.specs.declared.segment_info.Owner.{Owner}
use Rattle.mps_seg.specs.declared.entry.CondemnedSegment.{CondemnedSegment}
use Rattle.mps_seg.proofs.CondemnedOver.{none_asked, some_asked, one_condemned}
use Rattle.mps_seg.proofs.segs.Segs.policy_at.Goals as goal

pub returns-in_err-asked-clause-value : goal.returns-in_err-asked-clause-value
returns-in_err-asked-clause-value c =
    c.from_residual.ensures ∙ sym (none_asked c.args.self.now c.args.at.0 c.in_err-asked.ensures).0

pub returns-in_err-asked-clause-none : goal.returns-in_err-asked-clause-none
returns-in_err-asked-clause-none c =
    let P : Option Owner → Type 0 = λ o. IfNone o (is_condemned_at c.args.self.now c.args.at.0 ≡ false) in
    subst P (sym c.from_residual.ensures) (none_asked c.args.self.now c.args.at.0 c.in_err-asked.ensures).1

pub returns-clause-value : goal.returns-clause-value
returns-clause-value c =
    let found = some_asked c.args.self.now c.args.at.0 c.in_ok-asked.asked c.in_ok-asked.ensures in
    ap (λ (x : CondemnedSegment). Some x.owner) found.is
    ∙ sym (one_condemned c.args.self.now c.args.at.0 found.segment found.over found.condemned).0

pub returns-clause-over : goal.returns-clause-over
returns-clause-over c =
    let found = some_asked c.args.self.now c.args.at.0 c.in_ok-asked.asked c.in_ok-asked.ensures in
    (found.segment, found.over, ap (λ (x : CondemnedSegment). x.owner) found.is)

pub returns-clause-condemned : goal.returns-clause-condemned
returns-clause-condemned c =
    let found = some_asked c.args.self.now c.args.at.0 c.in_ok-asked.asked c.in_ok-asked.ensures in
    (one_condemned c.args.self.now c.args.at.0 found.segment found.over found.condemned).1
