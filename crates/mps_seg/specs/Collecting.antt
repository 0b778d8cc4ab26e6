-- What a collection knows of blocks and segments: which are condemned, kept and grey, and where the references of a segment may lead.
use Rattle.std.specs.Prelude.{◌≡◌, ℕ, Bool, true, false, not, ◌&&◌, ◌||◌, if◌then◌else◌, Option, Some, None, option_map, List, [], ◌∷◌, length, replicate, slice_index, slice_set, bit_or, refl}
use Rattle.mps_base.specs.Address.{Address, Grain, grain_of, word_of}
use Rattle.mps_base.specs.Segment.{Segment, segment_over, end_of_segment}
use Rattle.mps_base.specs.Run.{Run, runs_within}
use Rattle.mps_base.specs.Zones.{zone_bit_of}
use Rattle.mps_base.specs.declared.address.Addr.{Addr}
use Rattle.mps_base.specs.declared.names.Rank.{Rank}
use Rattle.mps_base.specs.declared.names.Rank.TheVariants.{Exact, Weak}
use Rattle.mps_bits.specs.Table.{bit, next_set_below, lowest_from}
use Rattle.mps_marks.specs.Marks.{MarkTables, no_marks, grey_of, with_grey, after_blacken}
use Rattle.mps_seg.specs.Segs.{SegsState, new_segments, at_word}
use Rattle.mps_seg.specs.declared.segment_info.SegmentInfo.{SegmentInfo}
use Rattle.mps_seg.specs.declared.segment_info.Owner.{Owner}
use Rattle.mps_seg.specs.declared.entry.CondemnedSegment.{CondemnedSegment}

-- the first grain of the segment in which an address lies
abbrev pub first_grain_over : SegsState → Address → Option Grain
first_grain_over s at = option_map (λ t. grain_of t.base) (segment_over s.segments at)

-- the bit of a grain, if there is one
abbrev pub bit_of : List Bool → Option Grain → Bool
bit_of bits None = false
bit_of bits (Some grain) = bit bits grain

-- whether an address lies in a condemned segment
abbrev pub is_condemned_at : SegsState → Address → Bool
is_condemned_at s at = bit_of s.condemned (first_grain_over s at)

-- whether the block that begins at an address is kept
abbrev pub is_kept_at : SegsState → Address → Bool
is_kept_at s at = bit s.marks.kept (word_of at)

-- whether the block that begins at an address is grey: still to be scanned
abbrev pub is_grey_at : SegsState → Address → Bool
is_grey_at s at = bit s.marks.exact (word_of at) || bit s.marks.weak (word_of at)

-- whether a block at an address is white: in a condemned segment, and not kept
abbrev pub is_white_at : SegsState → Address → Bool
is_white_at s at = is_condemned_at s at && not (is_kept_at s at)

-- whether a block at an address is black: neither white nor grey
abbrev pub is_black_at : SegsState → Address → Bool
is_black_at s at = not (is_white_at s at) && not (is_grey_at s at)

-- the rank of a segment, exact if there is none
abbrev pub rank_of : Option Segment → Rank
rank_of None = Exact
rank_of (Some t) = t.rank

-- the rank of the segment in which an address lies
abbrev pub rank_at : SegsState → Address → Rank
rank_at s at = rank_of (segment_over s.segments at)

-- what is known of a segment
abbrev pub info_of : SegsState → Segment → SegmentInfo
info_of s t = record {
  grains = t.grains;
  pool = t.pool;
  generation = t.generation;
  rank = t.rank;
  is_condemned = bit s.condemned (grain_of t.base);
}

-- the pool and the generation of a segment
abbrev pub owner_of : Segment → Owner
owner_of t = record { pool = t.pool; generation = t.generation }

-- the same of a segment that is condemned
abbrev pub owner_if_condemned : SegsState → Option Segment → Option Owner
owner_if_condemned s None = None
owner_if_condemned s (Some t) = if bit s.condemned (grain_of t.base) then Some (owner_of t) else None

-- the pool and the generation of the condemned segment in which an address lies
abbrev pub condemned_owner_at : SegsState → Address → Option Owner
condemned_owner_at s at = owner_if_condemned s (segment_over s.segments at)

-- what a fix asks of a segment
abbrev pub asked_of : Segment → CondemnedSegment
asked_of t = record { owner = owner_of t; rank = t.rank }

-- the same of one that is condemned
abbrev pub asked_if_condemned : SegsState → Option Segment → Option CondemnedSegment
asked_if_condemned s None = None
asked_if_condemned s (Some t) = if bit s.condemned (grain_of t.base) then Some (asked_of t) else None

-- the lowest grey block of a segment
abbrev pub lowest_grey_in : SegsState → Segment → Option Addr
lowest_grey_in s t = option_map at_word (next_set_below (grey_of t.rank s.marks) (word_of t.base) (word_of (end_of_segment t)))

-- one more condemned segment
abbrev pub condemning : SegsState → (base : Address) → SegsState
condemning s base = record s { condemned = slice_set s.condemned (grain_of base) true }

-- the collection is over: nothing is condemned, kept or grey
abbrev pub collected : SegsState → SegsState
collected s = record s { marks = no_marks (length s.marks.kept); condemned = replicate (length s.condemned) false }

-- one more block is kept
abbrev pub keeping : SegsState → Address → SegsState
keeping s at = record s { marks = record s.marks { kept = slice_set s.marks.kept (word_of at) true } }

-- one more block is grey, as one of the rank of its segment
abbrev pub greying : SegsState → Address → SegsState
greying s at = record s { marks = with_grey (rank_at s at) (word_of at) s.marks }

-- the blocks at these runs are grey too, as blocks of a rank
abbrev pub all_grey : Rank → List Run → MarkTables → MarkTables
all_grey rank [] marks = marks
all_grey rank (r ∷ rs) marks = all_grey rank rs (with_grey rank r.from marks)

-- all blocks of a segment are grey
abbrev pub greying_all : SegsState → Segment → SegsState
greying_all s t = record s {
  marks = all_grey t.rank (runs_within (word_of t.base) (word_of (end_of_segment t)) s.blocks) s.marks;
}

-- a block that is grey no longer
abbrev pub blackening : SegsState → Address → SegsState
blackening s at = record s { marks = after_blacken (word_of at) s.marks }

-- the summary of the segment that begins at an address
abbrev pub summary_at : SegsState → (base : Address) → ℕ
summary_at s base = slice_index s.summaries (grain_of base)

-- a segment with another summary
abbrev pub summarizing : SegsState → (base : Address) → (zones : ℕ) → SegsState
summarizing s base zones = record s { summaries = slice_set s.summaries (grain_of base) zones }

-- the summary of a segment with the zone of an address too, if there is a segment
abbrev pub noting_in : SegsState → Option Grain → (target : Address) → SegsState
noting_in s None target = s
noting_in s (Some grain) target =
    record s { summaries = slice_set s.summaries grain (bit_or (slice_index s.summaries grain) (zone_bit_of target)) }

-- the summary of the segment in which the holder lies has the zone of the target too
abbrev pub noting : SegsState → (holder target : Address) → SegsState
noting s holder target = noting_in s (first_grain_over s holder) target

-- ---- vectors

-- two grains: a condemned segment at 0x1000, where the block at 0x1010 is kept, and one of weak blocks at 0x2000, where the first
-- block is grey
abbrev exact_segment : Segment
exact_segment = record { base = 0x1000; grains = 1; pool = 0; generation = 0; rank = Exact }

abbrev weak_segment : Segment
weak_segment = record { base = 0x2000; grains = 1; pool = 1; generation = 0; rank = Weak }

abbrev held : SegsState
held = record (new_segments 2 2) { segments = exact_segment ∷ weak_segment ∷ [] }

abbrev example : SegsState
example = greying (keeping (condemning held 0x1000) 0x1010) 0x2000

pub a_white_block : is_white_at example 0x1000 ≡ true
unfolding bit
a_white_block = refl

pub a_kept_block_is_black : is_black_at example 0x1010 ≡ true
unfolding bit
a_kept_block_is_black = refl

pub a_grey_block_is_not_black : is_black_at example 0x2000 ≡ false
unfolding bit
a_grey_block_is_not_black = refl

pub nothing_is_white_outside_segments : is_white_at example 0x3000 ≡ false
nothing_is_white_outside_segments = refl

pub a_grey_block_has_the_rank_of_its_segment : lowest_grey_in example weak_segment ≡ Some (record { 0 = 0x2000 })
unfolding next_set_below lowest_from bit
a_grey_block_has_the_rank_of_its_segment = refl

pub the_other_segment_has_none : lowest_grey_in example exact_segment ≡ None
unfolding next_set_below lowest_from bit
the_other_segment_has_none = refl

pub none_is_grey_any_longer : lowest_grey_in (blackening example 0x2000) weak_segment ≡ None
unfolding next_set_below lowest_from bit
none_is_grey_any_longer = refl

pub all_blocks_of_a_segment_are_grey :
    lowest_grey_in (greying_all (record held { blocks = record { from = 512; count = 2 } ∷ record { from = 1024; count = 2 } ∷ [] })
    exact_segment) exact_segment
    ≡ Some (record { 0 = 0x1000 })
unfolding next_set_below lowest_from bit
all_blocks_of_a_segment_are_grey = refl

pub a_collection_that_is_over : collected example ≡ held
a_collection_that_is_over = refl

pub a_zone_is_noted : (noting example 0x1018 0x43008).summaries ≡ 0 ∷ 8 ∷ 0 ∷ []
a_zone_is_noted = refl

pub a_holder_in_no_segment : noting example 0x3000 0x43008 ≡ example
a_holder_in_no_segment = refl

pub a_condemned_segment_has_its_owner : condemned_owner_at example 0x1ff8 ≡ Some (record { pool = 0; generation = 0 })
unfolding bit
a_condemned_segment_has_its_owner = refl

pub none_in_the_next_grain : condemned_owner_at example 0x2000 ≡ None
unfolding bit
none_in_the_next_grain = refl

pub what_is_known_of_a_segment :
    info_of example exact_segment ≡ record { grains = 1; pool = 0; generation = 0; rank = Exact; is_condemned = true }
unfolding bit
what_is_known_of_a_segment = refl
