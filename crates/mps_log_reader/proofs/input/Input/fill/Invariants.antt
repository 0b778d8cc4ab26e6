use Rattle.std.proofs.Common.{◌≡◌, ◌+◌, ◌-◌, true, length, cond, ◌||◌}
use Rattle.mps_log_reader.specs.Input.{ReadsMore}
use Rattle.mps_log_reader.proofs.input.Input.fill.Given as goal

abbrev pub invariant-loop-self : goal.invariant-loop-self
invariant-loop-self g l = record {
  read : ReadsMore (g.D.Desk.outside l.initial.desk) (g.D.Desk.outside l.desk) l.initial.self l.self;
  still : l.initial.self.ended ≡ true → l.self ≡ l.initial.self;
}

abbrev pub decreases-loop-self : goal.decreases-loop-self
decreases-loop-self g l = cond (l.self.ended || l.self.failed) 0 (1 + (l.count - length l.self.pending))
