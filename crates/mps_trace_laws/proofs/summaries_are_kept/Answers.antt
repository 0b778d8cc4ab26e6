use Rattle.mps_trace_laws.proofs.Summaries.Accesses.{access_keeps}
use Rattle.mps_trace_laws.proofs.Summaries.AtRest.{words_tell_at_rest}
use Rattle.mps_trace_laws.proofs.Summaries.FixKeeps.{fix_keeps}
use Rattle.mps_trace_laws.proofs.Summaries.Flips.{begin_keeps}
use Rattle.mps_trace_laws.proofs.Summaries.Scans.{scan_keeps}
use Rattle.mps_trace_laws.proofs.Summaries.Splats.{splat_scan_keeps}
use Rattle.mps_trace_laws.proofs.Summaries.UnitRows.{the_end_keeps, units_keep}
use Rattle.mps_trace_laws.proofs.summaries_are_kept.Goals as goal

pub returns-clause-fix : goal.returns-clause-fix
returns-clause-fix g c = fix_keeps

pub returns-clause-scan : goal.returns-clause-scan
returns-clause-scan g c = scan_keeps

pub returns-clause-splat : goal.returns-clause-splat
returns-clause-splat g c = splat_scan_keeps

pub returns-clause-begin : goal.returns-clause-begin
returns-clause-begin g c = begin_keeps

pub returns-clause-units : goal.returns-clause-units
returns-clause-units g c = units_keep

pub returns-clause-ended : goal.returns-clause-ended
returns-clause-ended g c = the_end_keeps

pub returns-clause-access : goal.returns-clause-access
returns-clause-access g c = access_keeps

pub returns-clause-at_rest : goal.returns-clause-at_rest
returns-clause-at_rest g c = words_tell_at_rest
