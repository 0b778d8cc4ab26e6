use Rattle.std.proofs.Common.{refl}
use Rattle.mps_trace.specs.Finding.{has_moved, lies}
use Rattle.mps_trace.proofs.finding.find_moved.Goals as goal

pub returns-in-Some : goal.returns-in-Some
returns-in-Some g c = record { found = has_moved c.in-Some.to refl c.in-Some.ensures.sound }

pub returns-in-None : goal.returns-in-None
returns-in-None g c = record { found = lies (λ moves. c.in-None.ensures.complete) c.find_kept.ensures }
