-- Summaries by words: the summary of a segment has the zone of each reference word of its blocks and reservations. Words that aren't
-- scanned yet may hold the addresses that blocks had at the flip, so this holds in the middle of a collection too.
use Rattle.std.specs.Prelude.{◌≡◌, ◌+◌, Option, Some, List, Contains, length, slice_get}
use Rattle.mps_base.specs.Address.{address_of_word}
use Rattle.mps_base.specs.Run.{Run}
use Rattle.mps_base.specs.Segment.{Segment, segment_over}
use Rattle.mps_format.specs.Layout.{Layout}
use Rattle.mps_format.specs.declared.pool.Policy.{Policy}
use Rattle.mps_seg.specs.Segs.{SegsState}
use Rattle.mps_seg.specs.Collecting.{summary_at}
use Rattle.mps_xform.specs.Summed.{IsRunSummed}

-- each block and each reservation in a segment of an automatic pool is summed in its summary
abbrev pub AreRunsSummed : {F : Type 0} → (F → Layout) → (formats : List (Option (Policy F))) → SegsState → Type 0
AreRunsSummed {F} layout formats s =
    (r : Run) (t : Segment) (format : Policy F) → Contains s.covered r → segment_over s.segments (address_of_word r.from) ≡ Some t
    → slice_get formats t.pool ≡ Some (Some format) → IsRunSummed (layout format.format) s.words (summary_at s t.base) r

-- summaries have the zones of what words refer to, and there is one for each grain
pub record AreWordsSummed {F : Type 0} (layout : F → Layout) (formats : List (Option (Policy F))) (s : SegsState) : Type 0 where
  pub sized : length s.summaries ≡ s.grains + 1
  pub each : AreRunsSummed layout formats s
