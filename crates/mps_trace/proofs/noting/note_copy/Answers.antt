use Rattle.std.proofs.Common.{◌<◌, ◌*◌, ◌+◌, arith}
use Rattle.mps_base.specs.Address.{word_of, words_of_grain}
use Rattle.mps_seg.proofs.HeldWords.{segment_there}
use Rattle.mps_trace.proofs.FirstGrains.{grain_in_arena}
use Rattle.mps_trace.proofs.noting.note_copy.Goals as goal

pub summary-known-requires : goal.summary-known-requires
summary-known-requires g c =
    let s = c.args.segs.now in
    let within = c.requires.stands.within in
    let some = ((g.met.F.Format.lawful c.args.format.now).sizes _ c.requires.stands.valid).0 in
    let in_arena : word_of c.args.to.0 < words_of_grain * (s.grains + 1) = omega (arith, within, some, c.grains.ensures.size) in
    grain_in_arena s.segments c.args.to.0 c.in-Some-segment_of.new s.grains c.in-Some-segment_of.ensures in_arena

pub summary-requires : goal.summary-requires
summary-requires g c =
    let s = c.args.segs.now in
    let within = c.requires.in_arena in
    let in_arena : word_of c.args.from.0 < words_of_grain * (s.grains + 1) = omega (arith, within, c.grains.ensures.size) in
    grain_in_arena s.segments c.args.from.0 c.in-Some.old s.grains c.in-Some.ensures in_arena

pub zones_of_block-zones-requires-clause-held : goal.zones_of_block-zones-requires-clause-held
zones_of_block-zones-requires-clause-held g c = segment_there _ c.in-Some-segment_of.new c.in-Some-segment_of.ensures

pub set_summary-requires : goal.set_summary-requires
set_summary-requires g c =
    let s = c.args.segs.now in
    let within = c.requires.stands.within in
    let some = ((g.met.F.Format.lawful c.args.format.now).sizes _ c.requires.stands.valid).0 in
    let in_arena : word_of c.args.to.0 < words_of_grain * (s.grains + 1) = omega (arith, within, some, c.grains.ensures.size) in
    grain_in_arena s.segments c.args.to.0 c.in-Some-segment_of.new s.grains c.in-Some-segment_of.ensures in_arena
