use Rattle.std.proofs.Common.{ℕ, arith}
use Rattle.std.proofs.lemmas.List.{length-take, length-drop}
use Rattle.mps_gathering.proofs.Prefixes.{logging_none, logging_more}
use Rattle.mps_gathering.proofs.prefix.log_prefix.Goals as goal

pub loop-at-init : goal.loop-at-init
loop-at-init g c = (omega arith, logging_none (g.D.Desk.outside c.args.desk.now))

pub loop-at-preserved : goal.loop-at-preserved
loop-at-preserved g c =
    let i = c.loop-at.invariant in (
      omega (arith, i.0, c.in-Ok.ensures.at_most, length-take {A = ℕ}, length-drop {A = ℕ}),
      logging_more _ _ _ c.args.bytes.now c.loop-at.at c.in-Ok.count i.1
          (record {
            logged = c.in-Ok.ensures.logged;
            filed = c.in-Ok.ensures.filed;
            steady = c.in-Ok.ensures.steady;
            others = c.in-Ok.ensures.others;
          })
          c.in-Ok.ensures.text,
    )
