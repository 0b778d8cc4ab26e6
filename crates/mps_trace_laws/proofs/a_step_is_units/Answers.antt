use Rattle.mps_trace_laws.proofs.Units.Ready.{units_are_ready}
use Rattle.mps_trace_laws.proofs.Units.Rows.{units_are_done, the_end_is_done, units_run_out}
use Rattle.mps_trace_laws.proofs.Units.Scanning.{scans_are_done}
use Rattle.mps_trace_laws.proofs.a_step_is_units.Goals as goal

pub returns-clause-goes_on : goal.returns-clause-goes_on
returns-clause-goes_on g c = λ layout formats of at_flip x z f f' run run' y count.
    units_are_done layout formats of at_flip x z f f' run run' y count (scans_are_done layout formats of at_flip)

pub returns-clause-ended : goal.returns-clause-ended
returns-clause-ended g c = λ layout formats of at_flip x z f f' run y most.
    the_end_is_done layout formats of at_flip x z f f' run y most (scans_are_done layout formats of at_flip)

pub returns-clause-fewer : goal.returns-clause-fewer
returns-clause-fewer g c = λ layout formats of at_flip x z f f' run run' y count.
    units_run_out layout formats of at_flip x z f f' run run' y count (scans_are_done layout formats of at_flip)

pub returns-clause-ready : goal.returns-clause-ready
returns-clause-ready g c = λ layout t s m at_flip f run y most.
    units_are_ready layout t s m at_flip f run y most (scans_are_done layout t.formats t.chains at_flip)
