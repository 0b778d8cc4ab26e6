use Rattle.std.proofs.Common.{sym, ◌∙◌}
use Rattle.mps_seg.specs.Collecting.{summary_at}
use Rattle.mps_xform.proofs.Skipped.{none_in}
use Rattle.mps_xform.proofs.applying.may_refer_to_old.Goals as goal

pub returns-else-may_have : goal.returns-else-may_have
returns-else-may_have c = record {
  none = λ is.
      none_in c.args.replacements.now c.zones.result.0 (summary_at c.args.segs.now c.args.base.0)
      (c.may_have.ensures c.if-may_have.false) (sym c.may_lead_to.ensures ∙ is) c.zones.ensures;
}
