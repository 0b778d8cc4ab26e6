use Rattle.std.proofs.Common.{sym, subst, Option}
use Rattle.mps_model.specs.Replay.{Store}
use Rattle.mps_blocks.specs.Entries.{store_of}
use Rattle.mps_blocks.specs.Replaying.{Gives}
use Rattle.mps_blocks.proofs.Entries.{moved_none, moved}
use Rattle.mps_blocks.proofs.replay.relocate.Goals as goal

pub returns-in-None : goal.returns-in-None
returns-in-None c = moved_none c.args.live.now c.args.from c.args.to (sym c.in-None.ensures.value)

pub returns-in-Some : goal.returns-in-Some
returns-in-Some c =
    subst (λ (due : Option Store). Gives due (store_of c.make.new.live) c.make.result)
    (moved c.args.live.now c.remove.new.self c.args.from c.args.to c.in-Some.extent c.if-from-to.false
    (sym c.in-Some.ensures.value) c.remove.ensures.changes)
    c.make.ensures
