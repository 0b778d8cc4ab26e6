-- Segments whose summaries have all zones, so that whatever is written in their blocks is summed.
use Rattle.std.specs.Prelude.{◌≡◌, ℕ, ◌<◌, true, Contains}
use Rattle.mps_base.specs.Segment.{Segment}
use Rattle.mps_base.specs.Zones.{zones_meet, zone_bit}
use Rattle.mps_seg.specs.Collecting.{summary_at}
use Rattle.mps_seg.specs.Segs.{SegsState}

-- each zone is in the summary of each segment
abbrev pub AreFull : SegsState → Type 0
AreFull s = (t : Segment) (zone : ℕ) → Contains s.segments t → zone < 64 → zones_meet (zone_bit zone) (summary_at s t.base) ≡ true
