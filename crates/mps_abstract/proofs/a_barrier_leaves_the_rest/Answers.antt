use Rattle.mps_abstract.proofs.BarrierLeavings.{a_barrier_leaves_the_rest, a_kept_object_stays_at_a_barrier}
use Rattle.mps_abstract.proofs.a_barrier_leaves_the_rest.Goals as goal

pub returns-clause-rest : goal.returns-clause-rest
returns-clause-rest c = a_barrier_leaves_the_rest

pub returns-clause-in_place : goal.returns-clause-in_place
returns-clause-in_place c = a_kept_object_stays_at_a_barrier
