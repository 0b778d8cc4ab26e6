-- What a copy notes: the zones to which the references of a block lead, in the summary of the segment to which it moved.
use Rattle.std.specs.Prelude.{◌≡◌, ℕ, zero, suc, ◌+◌, ◌==◌, nat_lt, if◌then◌else◌, Option, Some, None, List, [], ◌∷◌, bit_or, slice_index, slice_set, refl}
use Rattle.mps_base.specs.Address.{Address, Grain, word_of}
use Rattle.mps_base.specs.Zones.{zone_bit_of}
use Rattle.mps_format.specs.Front.{front_layout}
use Rattle.mps_format.specs.Layout.{Layout}
use Rattle.mps_seg.specs.Segs.{SegsState}
use Rattle.mps_seg.specs.Collecting.{first_grain_over}

-- the set of the zone to which an address leads; null leads to none
abbrev pub zones_of_target : (target : Address) → ℕ
zones_of_target target = if nat_lt 0 target then zone_bit_of target else 0

-- the set of the zone to which cell k of the block at an address leads, with this head
abbrev pub zones_of_cell : Layout → (words : List ℕ) → (head : ℕ) → (at : Address) → (k : ℕ) → ℕ
zones_of_cell f words head at k =
    if f.is_reference head k then zones_of_target (f.target (slice_index words (word_of at + k))) else 0

-- the zones to which the first n cells of a block lead
abbrev pub zones_of_cells : Layout → (words : List ℕ) → (head : ℕ) → (at : Address) → (n : ℕ) → ℕ
zones_of_cells f words head at zero = 0
zones_of_cells f words head at (suc n) = bit_or (zones_of_cells f words head at n) (zones_of_cell f words head at n)

-- the zones to which the block at an address leads
abbrev pub zones_of_block : Layout → (words : List ℕ) → (at : Address) → ℕ
zones_of_block f words at =
    zones_of_cells f words (slice_index words (word_of at)) at (f.size (slice_index words (word_of at)))

-- the summaries after a block moved from the segment that begins at one grain to that at another: unless the other has all zones of
-- the first, it has those to which the block leads too
abbrev pub summaries_of_copy : List ℕ → (from to : Option Grain) → (zones : ℕ) → List ℕ
summaries_of_copy summaries (Some from) (Some to) zones =
    if bit_or (slice_index summaries from) (slice_index summaries to) == slice_index summaries to then summaries
    else slice_set summaries to (bit_or (slice_index summaries to) zones)
summaries_of_copy summaries (Some from) None zones = summaries
summaries_of_copy summaries None to zones = summaries

-- the segments after a block that was at one address and is at another was noted
abbrev pub copy_noted : Layout → SegsState → (from to : Address) → SegsState
copy_noted f s from to = record s {
  summaries =
      summaries_of_copy s.summaries (first_grain_over s from) (first_grain_over s to) (zones_of_block f s.words to);
}

-- ---- vectors: a block of three words at 24, whose references lead to zone 2 and to none

abbrev words : List ℕ
words = 0 ∷ 0 ∷ 0 ∷ 0x200000301 ∷ 0x42005 ∷ 5 ∷ []

pub a_zone_for_each_reference : zones_of_block front_layout words 24 ≡ 4
a_zone_for_each_reference = refl

pub no_zone_for_null : zones_of_cell front_layout words 0x200000301 24 2 ≡ 0
no_zone_for_null = refl

pub no_zone_for_a_head : zones_of_cell front_layout words 0x200000301 24 0 ≡ 0
no_zone_for_a_head = refl

pub the_zones_are_noted : summaries_of_copy (0 ∷ 6 ∷ 1 ∷ []) (Some 1) (Some 2) 4 ≡ 0 ∷ 6 ∷ 5 ∷ []
the_zones_are_noted = refl

pub a_summary_that_has_them_all : summaries_of_copy (0 ∷ 6 ∷ 7 ∷ []) (Some 1) (Some 2) 8 ≡ 0 ∷ 6 ∷ 7 ∷ []
a_summary_that_has_them_all = refl

pub a_block_that_stays : summaries_of_copy (0 ∷ 6 ∷ 1 ∷ []) (Some 1) (Some 1) 8 ≡ 0 ∷ 6 ∷ 1 ∷ []
a_block_that_stays = refl
