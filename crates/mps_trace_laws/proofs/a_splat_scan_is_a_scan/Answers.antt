use Rattle.mps_trace_laws.proofs.Splats.Scanned.{a_splat_scan_is_a_scan}
use Rattle.mps_trace_laws.proofs.a_splat_scan_is_a_scan.Goals as goal

pub returns : goal.returns
returns g c = a_splat_scan_is_a_scan
