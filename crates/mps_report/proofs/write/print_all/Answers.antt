use Rattle.std.proofs.Common.{ℕ, arith}
use Rattle.std.proofs.lemmas.List.{length-take, length-drop}
use Rattle.mps_report.proofs.Outside.{prints_more}
use Rattle.mps_report.proofs.write.print_all.Goals as goal

pub loop-at-preserved : goal.loop-at-preserved
loop-at-preserved g c =
    let i = c.loop-at.invariant in (
      omega (arith, i.0, c.in_ok-count.ensures.at_most, length-take {A = ℕ}, length-drop {A = ℕ}),
      prints_more _ _ _ c.args.bytes.now c.loop-at.at c.in_ok-count.count i.1 c.in_ok-count.ensures.printed c.in_ok-count.ensures.steady
          c.in_ok-count.ensures.others,
    )
