use Rattle.std.proofs.Common.{ℕ, length, ap, arith}
use Rattle.mps_trace.specs.Begin.{marked_at_flip}
use Rattle.mps_trace.specs.Trace.{traced}
use Rattle.mps_trace.specs.declared.running.Running.{Running}
use Rattle.mps_trace.specs.declared.running.Band.TheVariants.{Exact}
use Rattle.mps_trace.proofs.Beginning.{ascending_still, flip_same, ordered_then, zones_then, marked_is, same_on, tables_still, tables_ready, messages_ready, messages_still}
use Rattle.mps_trace.proofs.trace.Trace.begin.Goals as goal

pub nail_areas-requires : goal.nail_areas-requires
nail_areas-requires g c =
    let x = traced c.args.self.now c.args.segs.now c.args.trail.now in
    let f = c.flip-condemned.new in
    let y = traced f.self f.segs f.trail in
    ascending_still x.segs f.segs
    (flip_same c.args.self.now.formats c.args.self.now.chains c.args.what c.args.points.now x y c.flip-condemned.ensures.flipped)
    c.requires.blocks

pub remember-requires-clause-ordered : goal.remember-requires-clause-ordered
remember-requires-clause-ordered g c =
    let t = c.args.self.now in
    let f = c.flip-condemned.new in
    let flipped = c.flip-condemned.ensures in
    ordered_then t f.self flipped.unchanged c.args.what c.args.points.now c.args.roots.now
    (traced t c.args.segs.now c.args.trail.now) (traced f.self f.segs f.trail) c.nail_areas.new.segs flipped.flipped
    c.nail_areas.ensures c.requires.ordered

pub remember-requires-clause-zones : goal.remember-requires-clause-zones
remember-requires-clause-zones g c =
    let t = c.args.self.now in
    let f = c.flip-condemned.new in
    let flipped = c.flip-condemned.ensures in
    zones_then t f.self flipped.unchanged c.args.what c.args.points.now c.args.roots.now
    (traced t c.args.segs.now c.args.trail.now) (traced f.self f.segs f.trail) c.nail_areas.new.segs flipped.flipped
    c.nail_areas.ensures c.flip-condemned.result.zones.0 flipped.zones

pub fix_messages-requires : goal.fix_messages-requires
fix_messages-requires g c =
    let layout = g.F.Format.layout in
    let t = c.args.self.now in
    let x = traced t c.args.segs.now c.args.trail.now in
    let f = c.flip-condemned.new in
    let flipped = c.flip-condemned.ensures in
    let z = c.fix_slots.new in
    let y = traced z.self z.segs z.trail in
    let roots = c.args.roots.now in
    let start = traced f.self c.remember.new.segs f.trail in
    let marked =
    marked_is t f.self flipped.unchanged c.args.what c.args.points.now roots x (traced f.self f.segs f.trail) c.nail_areas.new.segs
    flipped.flipped c.nail_areas.ensures c.remember.new.segs c.remember.ensures
    in
    messages_ready layout t z.self (same_on layout t f.self flipped.unchanged z.self c.fix_slots.ensures.unchanged) z.segs z.trail
    c.args.finals.now
    (c.requires.can.messages z.roots y
    (tables_still layout t f.self flipped.unchanged start (marked_at_flip t.formats t.chains c.args.what c.args.points.now roots x) y
    (length roots.order) roots z.roots marked c.fix_slots.ensures.fixed))

pub fix_slots-requires : goal.fix_slots-requires
fix_slots-requires g c =
    let t = c.args.self.now in
    let f = c.flip-condemned.new in
    let flipped = c.flip-condemned.ensures in
    let x = traced t c.args.segs.now c.args.trail.now in
    let marked =
    marked_is t f.self flipped.unchanged c.args.what c.args.points.now c.args.roots.now x (traced f.self f.segs f.trail)
    c.nail_areas.new.segs flipped.flipped c.nail_areas.ensures c.remember.new.segs c.remember.ensures
    in
    tables_ready g.F.Format.layout t f.self flipped.unchanged c.remember.new.segs f.trail
    (marked_at_flip t.formats t.chains c.args.what c.args.points.now c.args.roots.now x) c.args.roots.now marked c.requires.can.slots

pub returns-clause-begun : goal.returns-clause-begun
returns-clause-begun g c =
    let layout = g.F.Format.layout in
    let t = c.args.self.now in
    let f = c.flip-condemned.new in
    let flipped = c.flip-condemned.ensures in
    let roots = c.args.roots.now in
    let finals = c.args.finals.now in
    let x = traced t c.args.segs.now c.args.trail.now in
    let z = c.fix_slots.new in
    let y = traced z.self z.segs z.trail in
    let last = c.fix_messages.new in
    let marked =
    marked_is t f.self flipped.unchanged c.args.what c.args.points.now roots x (traced f.self f.segs f.trail) c.nail_areas.new.segs
    flipped.flipped c.nail_areas.ensures c.remember.new.segs c.remember.ensures
    in
    record {
      some = omega (arith, flipped.count, c.if-condemned-eq0.false);
      before = y;
      slots =
          tables_still layout t f.self flipped.unchanged (traced f.self c.remember.new.segs f.trail)
          (marked_at_flip t.formats t.chains c.args.what c.args.points.now roots x) y (length roots.order) roots z.roots marked
          c.fix_slots.ensures.fixed;
      messages =
          messages_still layout t z.self (same_on layout t f.self flipped.unchanged z.self c.fix_slots.ensures.unchanged) finals
          last.finals y (traced last.self last.segs last.trail) (length finals.messages) c.fix_messages.ensures.fixed;
      run_is =
          ap (λ (n : ℕ). let r : Running = record { band = Exact; cursor = record { 0 = 0 }; next = 0; registered_before = n } in r)
          c.registered-registered_before.ensures;
    }
