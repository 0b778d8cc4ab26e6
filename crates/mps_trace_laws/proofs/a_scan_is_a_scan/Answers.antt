use Rattle.mps_trace_laws.proofs.Fix.Scanned.{scan_is_a_scan}
use Rattle.mps_trace_laws.proofs.a_scan_is_a_scan.Goals as goal

pub returns : goal.returns
returns g c = scan_is_a_scan
