use Rattle.std.proofs.Common.{refl}
use Rattle.mps_trace.specs.Trace.{traced}
use Rattle.mps_trace.specs.Unit.{ReclaimsNext, reclaims}
use Rattle.mps_trace.proofs.Units.{room_left}
use Rattle.mps_trace.proofs.trace.Trace.reclaim_next.Goals as goal

pub returns-in-Some-left-clause-goes_on : goal.returns-in-Some-left-clause-goes_on
returns-in-Some-left-clause-goes_on g c =
    let x = traced c.args.self.now c.args.segs.now c.args.trail.now in
    let y = traced c.args.self.now c.reclaim.new.segs c.reclaim.new.trail in
    let next : ReclaimsNext g.F.Format.layout c.args.self.now.formats x c.args.running c.in-Some.base y =
    record {
      scanned = c.requires.scanned;
      examined = c.requires.examined;
      lowest = c.in-Some.ensures.sound;
      reclaimed =
          c.reclaim.ensures;
      at_hand = refl;
    }
    in
    λ finals. reclaims c.in-Some.base c.in-Some-left.field-0 next c.in-Some-left.ensures.sound refl

pub end-requires : goal.end-requires
end-requires g c =
    room_left c.args.segs.now c.reclaim.new.segs c.args.trail.now c.reclaim.new.trail c.in-Some.base
    (c.requires.can.room c.in-Some.base c.in-Some.ensures.sound) c.reclaim.ensures.swept

pub returns-clause-ended : goal.returns-clause-ended
returns-clause-ended g c =
    let x = traced c.args.self.now c.args.segs.now c.args.trail.now in
    let y = traced c.args.self.now c.reclaim.new.segs c.reclaim.new.trail in
    record {
      base = c.in-Some.base;
      before = y;
      reclaimed =
          record {
            scanned = c.requires.scanned;
            examined = c.requires.examined;
            lowest = c.in-Some.ensures.sound;
            reclaimed =
                c.reclaim.ensures;
            at_hand = refl;
          };
      last = c.in_default-left.ensures.complete;
      over = cc;
    }

pub reclaim-requires : goal.reclaim-requires
reclaim-requires g c = c.requires.can.can c.in-Some.base c.in-Some.ensures.sound
