use Rattle.std.proofs.Common.{ℕ, arith}
use Rattle.std.proofs.lemmas.List.{length-take, length-drop}
use Rattle.mps_report.proofs.Outside.{prints-none, prints_more}
use Rattle.mps_gathering.proofs.prefix.print_prefix.Goals as goal

pub loop-at-init : goal.loop-at-init
loop-at-init g c = (omega arith, prints-none (g.D.Desk.outside c.args.desk.now))

pub loop-at-preserved : goal.loop-at-preserved
loop-at-preserved g c =
    let i = c.loop-at.invariant in (
      omega (arith, i.0, c.in-Ok.ensures.at_most, length-take {A = ℕ}, length-drop {A = ℕ}),
      prints_more _ _ _ c.args.bytes.now c.loop-at.at c.in-Ok.count i.1 c.in-Ok.ensures.printed c.in-Ok.ensures.steady
          c.in-Ok.ensures.others,
    )
