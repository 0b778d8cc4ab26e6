use Rattle.std.proofs.Common.{refl}
use Rattle.std.specs.Fn.{FnOnceReturnsAtMut}
use Rattle.mps_heap_manual.proofs.Borrowing.{written}
use Rattle.mps_heap_manual.proofs.lending.lend_mut.Goals as goal

pub returns : goal.returns
returns g c =
    written c.args.state.now _ c.args.place (λ words left. FnOnceReturnsAtMut g.W.FnOnce c.args.write words c.write.result left)
    c.in_ok-at.at.0 c.lend_mut.result.now c.write.new.arg2 c.state.view_is c.in_ok-at.ensures.value c.lend_mut.ensures.whole
    c.lend_mut.ensures.value c.write.auto.arg2
    (record { shown = _; shows = refl; left = _; met = c.write.ensures; leaves = refl })
