use Rattle.mps_trace_laws.proofs.Units.CallsLeave.{a_flip_leaves_these, no_call_leaves_more, units_go_on_below}
use Rattle.mps_trace_laws.proofs.units_only_run_out.Goals as goal

pub returns-clause-flip : goal.returns-clause-flip
returns-clause-flip c = a_flip_leaves_these

pub returns-clause-calls : goal.returns-clause-calls
returns-clause-calls c = no_call_leaves_more

pub returns-clause-below : goal.returns-clause-below
returns-clause-below c = units_go_on_below
