-- What the collector does with an address that means an object leaves each word summed.
use Rattle.mps_trace_laws.specs.Summaries.Laws.{AFixKeepsSummaries}
use Rattle.mps_trace_laws.proofs.Fix.CanFix.{target_can_be_fixed}
use Rattle.mps_trace_laws.proofs.Summaries.Keeps.{fix_summed}
use Rattle.mps_trace_laws.proofs.Summaries.StatesHeld.{runs_held, tails_home}

pub fix_keeps : {F : Type 0} → AFixKeepsSummaries F
fix_keeps layout formats of at_flip done x z y at answer t now o shaped stands target summed fixed =
    let st = stands.state in
    fix_summed layout formats of x st.held st.tables st.covered (runs_held layout formats of at_flip done x y st)
    (tails_home layout formats of at_flip done x y st) summed at
    (target_can_be_fixed layout formats of at_flip done x y at t now o shaped stands target) fixed
