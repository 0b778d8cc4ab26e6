use Rattle.std.proofs.Common.{◌∙◌, sym, ap}
use Rattle.std.proofs.lemmas.Option.{none-some}
use Rattle.mps_base.specs.Segment.{segment_over}
use Rattle.mps_seg.specs.Segs.{SegsState}
use Rattle.mps_memory_tests.proofs.pools.access_in_each_band.Goals as goal

pub access-requires : goal.access-requires
access-requires c t over = absurd (none-some t (sym (ap (λ (s : SegsState). segment_over s.segments 4096) c.loop-band.invariant) ∙ over))

pub loop-band-preserved : goal.loop-band-preserved
loop-band-preserved c =
    (c.access.ensures.idle (ap (λ (s : SegsState). segment_over s.segments 4096) c.loop-band.invariant)).0 ∙ c.loop-band.invariant
