use Rattle.std.proofs.Common.{◌≡◌, ◌≤◌, ◌-◌, length}
use Rattle.mps_desk.specs.Desk.{OnlyReads}
use Rattle.mps_lines.specs.Buffer.{rest_of_script}
use Rattle.mps_lines.proofs.lines.Lines.next.Given as goal

abbrev pub invariant-loop-next : goal.invariant-loop-next
invariant-loop-next g l = record {
  left : rest_of_script l.self (g.D.Desk.outside l.desk).input ≡ rest_of_script l.initial.self (g.D.Desk.outside l.initial.desk).input;
  counted : (g.D.Desk.outside l.initial.desk).in_faults ≤ (g.D.Desk.outside l.desk).in_faults;
  steady : (g.D.Desk.outside l.desk).in_faults ≡ (g.D.Desk.outside l.initial.desk).in_faults;
  others : OnlyReads (g.D.Desk.outside l.initial.desk) (g.D.Desk.outside l.desk);
}

abbrev pub decreases-loop-next : goal.decreases-loop-next
decreases-loop-next g l = 4097 - length l.self.waiting
