use Rattle.std.proofs.Common.{sym, ◌∙◌}
use Rattle.std.proofs.lemmas.Bool.{true≢false}
use Rattle.mps_trace.specs.Finding.{lies}
use Rattle.mps_trace.proofs.finding.find_in.Goals as goal

pub returns-else-policy : goal.returns-else-policy
returns-else-policy g c =
    record { found = lies (λ moves. absurd (true≢false (sym moves ∙ c.if-policy.false))) c.find_kept.ensures }
