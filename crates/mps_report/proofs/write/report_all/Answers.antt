use Rattle.std.proofs.Common.{ℕ, arith}
use Rattle.std.proofs.lemmas.List.{length-take, length-drop}
use Rattle.mps_report.proofs.Outside.{reports_more}
use Rattle.mps_report.proofs.write.report_all.Goals as goal

pub loop-at-preserved : goal.loop-at-preserved
loop-at-preserved g c =
    let i = c.loop-at.invariant in (
      omega (arith, i.0, c.in-Ok.ensures.at_most, length-take {A = ℕ}, length-drop {A = ℕ}),
      reports_more _ _ _ c.args.bytes.now c.loop-at.at c.in-Ok.count i.1 c.in-Ok.ensures.reported c.in-Ok.ensures.counted
          c.in-Ok.ensures.others,
    )
