use Rattle.std.proofs.Common.{Some, arith}
use Rattle.mps_seg.specs.declared.segment_info.Owner.{Owner}
use Rattle.mps_trace.specs.Trace.{TraceState}
use Rattle.mps_trace.proofs.Keeping.{can_there}
use Rattle.mps_trace.proofs.Known.{owner_read, pool_within}
use Rattle.mps_trace.proofs.trace.Trace.keep.Goals as goal

pub index-requires : goal.index-requires
index-requires g c =
    let s = c.args.segs.now in
    let m = c.args.trail.now in
    let t : TraceState g.row.F.Denot =
    record { formats = c.self.inside.formats.items; amc = c.self.inside.amc; chains = c.self.inside.chains }
    in
    let can = can_there g.F.Format.layout c.args.self.now t s m c.args.at c.self.view_is c.requires in
    let info = c.in-Some.field-0 in
    let owner : Owner = record { pool = c.in-Some.field-0.pool; generation = c.in-Some.field-0.generation } in
    let owned = owner_read s c.args.at info c.in-Some.ensures.found in
    omega (
      arith,
      pool_within t.formats t.chains s c.args.at owner can.segment can.format can.over can.listed owned,
      c.self.inside.formats.ok,
    )
