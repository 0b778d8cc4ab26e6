use Rattle.std.proofs.Common.{◌≤◌, ◌*◌, length}
use Rattle.mps_event.specs.KindSet.{bits_of}
use Rattle.mps_cnv.specs.Skipping.{SkipsUnwanted}
use Rattle.mps_cnv.proofs.unwanted.unwanted_in_front.Given as goal

abbrev pub invariant-loop-count : goal.invariant-loop-count
invariant-loop-count l = record {
  skipped : SkipsUnwanted l.version (bits_of l.kinds) l.count l.size l.bytes;
  at_most : l.size ≤ 40 * l.count;
  within : l.size ≤ length l.bytes;
}
