use Rattle.std.proofs.Common.{◌≡◌, true, false, List, ℕ, length, ap, ◌∙◌}
use Rattle.mps_workload.proofs.Counted.{not_two_left}
use Rattle.mps_workload.proofs.lines.GenLines.are_two_left.Goals as goal

pub returns-in_default : goal.returns-in_default
returns-in_default c =
    let at = c.self.inside.standing in
    record {
      two = λ e. absurd (let wrong : false ≡ true = e in cc);
      others = λ e two.
          not_two_left at.position at.state at.step at.count c.self.invariant (λ is. c.in_default.not-Ending 1 is)
          (ap (λ (ls : List (List ℕ)). length ls) c.self.view_is ∙ two);
    }
