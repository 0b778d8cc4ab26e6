-- What a caller sees of the segments, and the results of their calls.
use Rattle.std.specs.Prelude.{ℕ, ◌+◌, ◌*◌, ◌≤◌, ◌≡◌, ◌≢◌, Bool, true, false, nat_le, Option, find, List, [], map, replicate, slice_set, Contains}
use Rattle.mps_base.specs.Run.{Run, end_of, IsAscending, with_run, runs_within}
use Rattle.mps_base.specs.Address.{words_of_grain, word_of, grains_needed, address_of_grain, address_of_word}
use Rattle.mps_base.specs.Segment.{Segment, end_of_segment, grains_of_segment, with_segment, is_open_to, is_in_segment}
use Rattle.mps_base.specs.Placement.{Placement, Place, NewSegment, OverLimit, NoFreeRun, run_placement}
use Rattle.mps_base.specs.Trail.{Moves, with_move}
use Rattle.mps_base.specs.declared.address.Addr.{Addr}
use Rattle.mps_base.specs.declared.moves.Move.TheVariants.{Seg}
use Rattle.mps_base.specs.declared.names.Rank.{Rank}
use Rattle.mps_marks.specs.Marks.{MarkTables, no_marks}

-- The words of the arena, its size and its limit in grains, the segments that it holds in ascending order, and the runs of words that
-- blocks and reservations cover, in ascending order.
pub record SegsState : Type 0 where
  pub words : List ℕ
  pub grains : ℕ
  pub limit : ℕ
  pub segments : List Segment
  -- blocks and reservations together
  pub covered : List Run
  pub blocks : List Run
  pub reservations : List Run
  -- which blocks the running collection keeps and which are grey, by the word at which a block begins
  pub marks : MarkTables
  -- whether the segment is condemned that begins at a grain
  pub condemned : List Bool
  -- the zones to which references in the segment may lead that begins at a grain
  pub summaries : List ℕ

abbrev pub new_segments : (grains limit : ℕ) → SegsState
new_segments grains limit = record {
  words = replicate (words_of_grain * (grains + 1)) 0;
  grains = grains;
  limit = limit;
  segments = [];
  covered = [];
  blocks = [];
  reservations = [];
  marks = no_marks (words_of_grain * (grains + 1));
  condemned = replicate (grains + 1) false;
  summaries = replicate (grains + 1) 0;
}

-- the runs of grains that are held
abbrev pub held_runs : SegsState → List Run
held_runs s = map grains_of_segment s.segments

-- where a new segment for n words is placed
abbrev pub placement_for : SegsState → ℕ → Placement
placement_for s words = run_placement s.grains s.limit (held_runs s) (grains_needed words)

-- the segments after a placement
abbrev pub segments_after : Placement → (pool generation : ℕ) → Rank → List Segment → List Segment
segments_after (NewSegment grain grains) pool generation rank ss =
    with_segment (record { base = address_of_grain grain; grains = grains; pool = pool; generation = generation; rank = rank }) ss
segments_after (Place word) pool generation rank ss = ss
segments_after (OverLimit committed need limit) pool generation rank ss = ss
segments_after (NoFreeRun need longest) pool generation rank ss = ss

-- a table by grain after a placement: it has this value for a new segment
abbrev pub noted_for : {X : Type 0} → Placement → X → List X → List X
noted_for (NewSegment grain grains) x xs = slice_set xs grain x
noted_for (Place word) x xs = xs
noted_for (OverLimit committed need limit) x xs = xs
noted_for (NoFreeRun need longest) x xs = xs

-- the moves after a placement
abbrev pub moves_after : Placement → (pool generation : ℕ) → Moves → Moves
moves_after (NewSegment grain grains) pool generation moves =
    with_move moves (Seg (record { 0 = address_of_grain grain }) grains pool generation)
moves_after (Place word) pool generation moves = moves
moves_after (OverLimit committed need limit) pool generation moves = moves
moves_after (NoFreeRun need longest) pool generation moves = moves

-- the address of a word
abbrev pub at_word : ℕ → Addr
at_word word = record { 0 = address_of_word word }

-- a segment that begins at an address and has no block and no reservation
pub record IsEmptyAt (state : SegsState) (base : ℕ) (s : Segment) : Type 0 where
  pub begins : s.base ≡ base
  pub empty : runs_within (word_of s.base) (word_of (end_of_segment s)) state.covered ≡ []

-- a segment that has a block or a reservation
abbrev pub IsUsed : SegsState → Segment → Type 0
IsUsed state s = runs_within (word_of s.base) (word_of (end_of_segment s)) state.covered ≢ []

-- a run of words that lies in one of the runs of grains
pub record LiesIn (held : List Run) (r : Run) : Type 0 where
  pub grains : Run
  pub there : Contains held grains
  pub after : words_of_grain * grains.from ≤ r.from
  pub before : end_of r ≤ words_of_grain * end_of grains

-- a run of words that lies in one of the runs of grains and of which no word is covered
pub record IsOpenRun (grains : ℕ) (held : List Run) (covered : List Run) (r : Run) : Type 0 where
  pub free : IsAscending 0 (words_of_grain * (grains + 1)) (with_run r covered)
  pub inside : LiesIn held r

-- a run of words that lies in a segment and of which no word is covered
abbrev pub CanCover : SegsState → Run → Type 0
CanCover state r = IsOpenRun state.grains (held_runs state) state.covered r

-- an address lies in a segment that is open to a pool and a rank
pub record LiesInOpen (ss : List Segment) (pool : ℕ) (rank : Rank) (at : ℕ) : Type 0 where
  pub segment : Segment
  pub there : Contains ss segment
  pub opened : is_open_to pool rank segment ≡ true
  pub inside : is_in_segment segment at ≡ true

-- the lowest segment that begins at an address or above
abbrev pub segment_from : List Segment → ℕ → Option Segment
segment_from ss from = find (λ s. nat_le from s.base) ss

-- the address at which a segment begins
abbrev pub base_address : Segment → Addr
base_address s = record { 0 = s.base }
