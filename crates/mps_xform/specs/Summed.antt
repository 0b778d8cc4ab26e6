-- Summaries by words: the summary of a segment has the zone of each reference word of what lies in it.
use Rattle.std.specs.Prelude.{◌≡◌, ℕ, zero, suc, ◌+◌, ◌<◌, ◌≤◌, true, false, IsTrue, List, [], ◌∷◌, Contains, slice_index, refl}
use Rattle.std.proofs.Common.{arith}
use Rattle.mps_base.specs.Address.{word_of}
use Rattle.mps_base.specs.Run.{Run}
use Rattle.mps_base.specs.Segment.{Segment, end_of_segment}
use Rattle.mps_base.specs.Zones.{zones_meet, zone_bit_of}
use Rattle.mps_format.specs.Layout.{Layout}
use Rattle.mps_format.specs.Front.{front_layout}
use Rattle.mps_seg.specs.Segs.{SegsState}
use Rattle.mps_seg.specs.Collecting.{summary_at}

-- these zones have that of each reference of a run, of which the first word is the head
abbrev pub IsRunSummed : Layout → (words : List ℕ) → (zones : ℕ) → Run → Type 0
IsRunSummed f words zones r =
    (k : ℕ) → k < r.count → IsTrue (f.is_reference (slice_index words r.from) k) → 0 < f.target (slice_index words (r.from + k))
    → zones_meet (zone_bit_of (f.target (slice_index words (r.from + k)))) zones ≡ true

-- each block in a segment of this pool is summed in the segment's summary, by this format
abbrev pub AreBlocksSummed : Layout → SegsState → (pool : ℕ) → Type 0
AreBlocksSummed f s pool = (t : Segment) (r : Run) → Contains s.segments t → t.pool ≡ pool → Contains s.blocks r → word_of t.base ≤ r.from
    → r.from < word_of (end_of_segment t) → IsRunSummed f s.words (summary_at s t.base) r

-- ---- vectors: a run of two words, whose reference leads to zone 2

abbrev words : List ℕ
words = 0x100000201 ∷ 0x42005 ∷ []

pub its_zone_is_there : IsRunSummed front_layout words 6 (record { from = 0; count = 2 })
its_zone_is_there zero few is some = let never : false ≡ true = is in cc
its_zone_is_there (suc zero) few is some = refl
its_zone_is_there (suc (suc k)) few is some = absurd (omega (arith, few))

pub its_zone_is_missing : IsRunSummed front_layout words 3 (record { from = 0; count = 2 }) → ⊥
its_zone_is_missing summed =
    let inside : 1 < 2 = omega arith in
    let some : 0 < 0x42000 = omega arith in
    let never : false ≡ true = summed 1 inside refl some in cc
