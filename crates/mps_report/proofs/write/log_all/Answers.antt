use Rattle.std.proofs.Common.{ℕ, arith}
use Rattle.std.proofs.lemmas.List.{length-take, length-drop}
use Rattle.mps_report.proofs.Logging.{logs_none, logs_more}
use Rattle.mps_report.proofs.write.log_all.Goals as goal

pub loop-at-init : goal.loop-at-init
loop-at-init g c = (omega arith, logs_none (g.D.Desk.outside c.args.desk.now))

pub loop-at-preserved : goal.loop-at-preserved
loop-at-preserved g c =
    let i = c.loop-at.invariant in (
      omega (arith, i.0, c.in_ok-count.ensures.at_most, length-take {A = ℕ}, length-drop {A = ℕ}),
      logs_more _ _ _ c.args.bytes.now c.loop-at.at c.in_ok-count.count i.1
          (record {
            logged = c.in_ok-count.ensures.logged;
            filed = c.in_ok-count.ensures.filed;
            steady = c.in_ok-count.ensures.steady;
            others = c.in_ok-count.ensures.others;
          }),
    )
