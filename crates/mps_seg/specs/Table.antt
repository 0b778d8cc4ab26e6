-- How the tables by grain represent the segments.
use Rattle.std.specs.Prelude.{ℕ, zero, suc, ◌==◌, ◌&&◌, if◌then◌else◌, ◌+◌, ◌-◌, ◌*◌, ◌^◌, ◌≤◌, ◌<◌, ◌≡◌, ◌≢◌, ◌⊎◌, Bool, true, false, Option, Some, None, List, [], ◌∷◌, length, get_or, slice_set, map, Contains}
use Rattle.mps_base.specs.declared.names.Rank.{Rank}
use Rattle.mps_base.specs.Run.{Run, end_of, gaps, IsAscending, runs_within}
use Rattle.mps_base.specs.Address.{Address, Grain, words_of_grain, grain_of, address_of_grain, max_grains}
use Rattle.mps_base.specs.Segment.{Segment, grains_of_segment, same_rank}
use Rattle.mps_bits.specs.Table.{bit}
use Rattle.mps_arena.specs.Arena.{ArenaMemory}
use Rattle.mps_marks.specs.Marks.{MarkTables}
use Rattle.mps_seg.specs.declared.entry.CondemnedSegment.{CondemnedSegment}
use Rattle.mps_seg.specs.declared.entry.Entry.{Entry}
use Rattle.mps_seg.specs.declared.entry.Entry.TheVariants.{Free, First}
use Rattle.mps_seg.specs.Segs.{SegsState, LiesIn}
use Rattle.mps_extents.specs.Extents.{ExtentLists, run_over, AreWhole}

-- the segments of the entries, where the first entry is that of a grain
unfoldable pub segments_of_entries : ℕ → List Entry → List Segment
segments_of_entries grain [] = []
segments_of_entries grain (Free ∷ entries) = segments_of_entries (suc grain) entries
segments_of_entries grain (First grains pool generation rank ∷ entries) =
    record { base = address_of_grain grain; grains = grains; pool = pool; generation = generation; rank = rank } ∷ segments_of_entries
    (suc grain) entries

-- the first grain at which a segment begins, where the first entry is that of a grain
abbrev pub first_entry : ℕ → List Entry → Option ℕ
first_entry grain [] = None
first_entry grain (Free ∷ entries) = first_entry (suc grain) entries
first_entry grain (First grains pool generation rank ∷ entries) = Some grain

unfoldable pub segments_in : List Entry → List Segment
segments_in table = segments_of_entries 0 table

-- what a caller sees of an arena with these tables
abbrev pub segs_state : ArenaMemory → List Entry → ExtentLists → MarkTables → (condemned : List Bool) → (summaries : List ℕ) → SegsState
segs_state arena table extents marks condemned summaries = record {
  words = arena.words;
  grains = arena.grains;
  limit = arena.limit;
  segments = segments_in table;
  covered = extents.covered;
  blocks = extents.blocks;
  reservations = extents.reservations;
  marks = marks;
  condemned = condemned;
  summaries = summaries;
}

-- the segments are the held runs, and each extent lies in one
pub record IsHeld (arena : ArenaMemory) (table : List Entry) (extents : ExtentLists) : Type 0 where
  pub held : arena.held ≡ map grains_of_segment (segments_in table)
  pub ascending : IsAscending 1 (arena.grains + 1) arena.held
  pub at_most : arena.grains ≤ max_grains
  pub size : length table ≡ arena.grains + 1
  pub covered_size : extents.size ≡ words_of_grain * (arena.grains + 1)
  pub covered_ascending : IsAscending 0 extents.size extents.covered
  pub nonempty : (r : Run) → Contains extents.covered r → 0 < r.count
  pub inside : (r : Run) → Contains extents.covered r → LiesIn arena.held r

-- the tables of marks have a bit for each word, and the others an entry for each grain
pub record IsMarked (grains : ℕ) (marks : MarkTables) (condemned : List Bool) (summaries : List ℕ) : Type 0 where
  pub kept_size : length marks.kept ≡ words_of_grain * (grains + 1)
  pub exact_size : length marks.exact ≡ words_of_grain * (grains + 1)
  pub weak_size : length marks.weak ≡ words_of_grain * (grains + 1)
  pub condemned_size : length condemned ≡ grains + 1
  pub summaries_size : length summaries ≡ grains + 1

abbrev pub or_zero : Option ℕ → ℕ
or_zero None = 0
or_zero (Some n) = n

-- where the run of grains begins in which a grain lies, or 0
abbrev pub first_over : List Run → ℕ → ℕ
first_over held grain = or_zero (run_over held grain)

-- a run has no number in common with any of these runs
abbrev pub IsClearOf : Run → List Run → Type 0
IsClearOf r others = (t : Run) → Contains others t → (end_of r ≤ t.from) ⊎ (end_of t ≤ r.from)

-- a run of words lies in a run of grains
abbrev pub LiesInGrains : Run → (grains : Run) → Type 0
LiesInGrains words grains = (words_of_grain * grains.from ≤ words.from) × (end_of words ≤ words_of_grain * end_of grains)

-- the tables by grain have, for each grain, the first grain of the run in which it lies, and for each run a number than which no
-- gap among its words is longer
pub record AreGapsBounded (held : List Run) (size : ℕ) (firsts bounds : List ℕ) (covered : List Run) : Type 0 where
  pub firsts_size : length firsts ≡ size
  pub bounds_size : length bounds ≡ size
  pub firsts_are : (grain : ℕ) → grain < size → get_or firsts grain 0 ≡ first_over held grain
  pub bounded : (r gap : Run) → Contains held r → LiesInGrains gap r → IsClearOf gap covered → gap.count ≤ get_or bounds r.from 0

-- the runs that begin in the words of n grains from a grain on, and the gaps between them
abbrev pub runs_in_grains : (grain grains : ℕ) → List Run → List Run
runs_in_grains grain grains rs = runs_within (words_of_grain * grain) (words_of_grain * grain + words_of_grain * grains) rs

abbrev pub gaps_in_grains : (grain grains : ℕ) → List Run → List Run
gaps_in_grains grain grains rs =
    gaps (words_of_grain * grain) (words_of_grain * grain + words_of_grain * grains) (runs_in_grains grain grains rs)

-- the gaps of the segment that begins at a grain, if one does and it is of the pool and the rank
abbrev pub gaps_at : (grain : ℕ) → Entry → (pool : ℕ) → Rank → ExtentLists → List Run
gaps_at grain Free pool rank extents = []
gaps_at grain (First grains of generation at) pool rank extents =
    if of == pool && same_rank at rank then gaps_in_grains grain grains extents.covered else []

-- whether a segment begins at a grain with this entry, of the pool and the rank
abbrev pub is_open_entry : (pool : ℕ) → Rank → Entry → Bool
is_open_entry pool rank Free = false
is_open_entry pool rank (First grains of generation at) = of == pool && same_rank at rank

-- no extent has words on both sides of a bound of the segment that begins at a grain, and the segment lies in the arena
abbrev pub IsWholeAt : (grain : ℕ) → Entry → ExtentLists → Type 0
IsWholeAt grain Free extents = Unit {0}
IsWholeAt grain (First grains pool generation rank) extents =
    AreWhole (words_of_grain * grain) (words_of_grain * grain + words_of_grain * grains) extents.covered
    × (words_of_grain * grain + words_of_grain * grains ≤ extents.size)

-- the first grain of the segment in which an address lies
abbrev pub first_at : (firsts : List ℕ) → Address → Grain
first_at firsts at = get_or firsts (grain_of at) 0

-- no gap is longer than this: an arena has fewer words
abbrev pub any_gap : ℕ
any_gap = 2 ^ 32 - 1

-- words of that segment are free again, and may be a part of a longer gap
abbrev pub with_any_gap : (firsts bounds : List ℕ) → Address → List ℕ
with_any_gap firsts bounds at = slice_set bounds (first_at firsts at) any_gap

-- what a fix asks of a segment with this entry
abbrev pub asked_of_entry : Entry → Option CondemnedSegment
asked_of_entry Free = None
asked_of_entry (First grains pool generation rank) = Some (record { owner = record { pool = pool; generation = generation }; rank = rank })

-- the same of a grain whose segment begins at a first grain, none if it isn't condemned, or if that grain is 0
abbrev pub asked_of_first : List Entry → (condemned : List Bool) → (first : Grain) → Option CondemnedSegment
asked_of_first table condemned zero = None
asked_of_first table condemned (suc k) = if bit condemned (suc k) then asked_of_entry (get_or table (suc k) Free) else None

-- a table by grain has what a fix asks of the condemned segment in which the grain lies, none where it lies in no condemned segment
pub record AreAskedNoted (size : ℕ) (firsts : List ℕ) (table : List Entry) (condemned : List Bool) (white : List (Option CondemnedSegment))
    : Type 0 where
  pub white_size : length white ≡ size
  pub white_are : (grain : Grain) → grain < size → get_or white grain None ≡ asked_of_first table condemned (get_or firsts grain 0)

-- of the grains from one on and below another none is the first of a condemned segment
abbrev pub NoneCondemnedFirst : List Entry → (condemned : List Bool) → (from to : Grain) → Type 0
NoneCondemnedFirst table condemned from to =
    (grain : Grain) → from ≤ grain → grain < to → bit condemned grain ≡ true → get_or table grain Free ≡ Free

-- the lowest grain from one on that is the first of a condemned segment
pub record IsCondemnedFirst (table : List Entry) (condemned : List Bool) (from grain : Grain) : Type 0 where
  pub above : from ≤ grain
  pub within : grain < length table
  pub condemned_there : bit condemned grain ≡ true
  pub begins : get_or table grain Free ≢ Free
  pub first : NoneCondemnedFirst table condemned from grain
