use Rattle.std.proofs.Common.{◌<◌, ◌≡◌, length, sym, arith}
use Rattle.mps_base.specs.Address.{grain_of}
use Rattle.mps_base.specs.Segment.{segment_over}
use Rattle.mps_seg.proofs.FirstGrain.{no_first_grain, first_grain_is, first_grain_within}
use Rattle.mps_seg.proofs.SegmentOver.{no_segment_past, segment_of_first}
use Rattle.mps_seg.proofs.segs.Segs.first_grain.Goals as goal

pub returns-then-grain-len-clause-value : goal.returns-then-grain-len-clause-value
returns-then-grain-len-clause-value c =
    let s = c.self.inside in
    no_first_grain (segment_over c.args.self.now.segments c.args.at.0)
    (no_segment_past s c.args.self.now c.args.at.0 c.self.invariant c.self.view_is
    (omega (arith, c.if-grain-len.true, c.len.ensures, c.grain-grain.ensures, s.firsts.ok.0)))

pub returns-then-first-eq0-clause-value : goal.returns-then-first-eq0-clause-value
returns-then-first-eq0-clause-value c =
    let s = c.self.inside in
    let grain : c.grain-grain.result ≡ grain_of c.args.at.0 = c.grain-grain.ensures in
    let within : grain_of c.args.at.0 < length s.firsts.items = omega (arith, grain, c.if-grain-len.false, c.len.ensures, s.firsts.ok.0) in
    let read = c.index-first.ensures in
    no_first_grain (segment_over c.args.self.now.segments c.args.at.0)
    ((segment_of_first s c.args.self.now c.args.at.0 c.self.invariant c.self.view_is c.index-first.result.now within
    (rw (sym grain) read)).0 c.if-first-eq0.true)

pub returns-else-first-eq0-clause-value : goal.returns-else-first-eq0-clause-value
returns-else-first-eq0-clause-value c =
    let s = c.self.inside in
    let grain : c.grain-grain.result ≡ grain_of c.args.at.0 = c.grain-grain.ensures in
    let within : grain_of c.args.at.0 < length s.firsts.items = omega (arith, grain, c.if-grain-len.false, c.len.ensures, s.firsts.ok.0) in
    let read = c.index-first.ensures in
    first_grain_is (segment_over c.args.self.now.segments c.args.at.0) c.index-first.result.now
    ((segment_of_first s c.args.self.now c.args.at.0 c.self.invariant c.self.view_is c.index-first.result.now within
    (rw (sym grain) read)).1 c.if-first-eq0.false)

pub returns-else-first-eq0-clause-in_arena : goal.returns-else-first-eq0-clause-in_arena
returns-else-first-eq0-clause-in_arena c =
    let s = c.self.inside in
    let grain : c.grain-grain.result ≡ grain_of c.args.at.0 = c.grain-grain.ensures in
    let within : grain_of c.args.at.0 < length s.firsts.items = omega (arith, grain, c.if-grain-len.false, c.len.ensures, s.firsts.ok.0) in
    first_grain_within s c.args.self.now c.args.at.0 c.index-first.result.now c.self.invariant c.self.view_is within
    (rw (sym grain) c.index-first.ensures) c.if-first-eq0.false
