use Rattle.mps_trace_laws.proofs.Barrier.Accessed.{an_access_is_a_barrier, an_access_can_be_done, a_reclaim_needs_no_barrier}
use Rattle.mps_trace_laws.proofs.an_access_is_a_barrier.Goals as goal

pub returns-clause-barrier : goal.returns-clause-barrier
returns-clause-barrier g c = an_access_is_a_barrier

pub returns-clause-ready : goal.returns-clause-ready
returns-clause-ready g c = an_access_can_be_done

pub returns-clause-none_while_reclaiming : goal.returns-clause-none_while_reclaiming
returns-clause-none_while_reclaiming g c = a_reclaim_needs_no_barrier
