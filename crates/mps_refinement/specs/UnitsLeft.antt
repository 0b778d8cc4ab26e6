-- How many units the collection of a heap has left, and how many at most after a flip. A unit scans a block, examines a registration or
-- reclaims a condemned segment.
use Rattle.std.specs.Prelude.{◌≡◌, ℕ, ◌+◌, ◌-◌, ◌<◌, ◌≤◌, Bool, ◌&&◌, ◌||◌, nat_le, count_by, Option, Some, None, Ok, Err, List, [], ◌∷◌, length, map, refl}
use Rattle.std.specs.List.{list_any}
use Rattle.std.specs.Option.{option_map_or}
use Rattle.mps_base.specs.Address.{Address, grain_of}
use Rattle.mps_base.specs.Generation.{Due}
use Rattle.mps_base.specs.Run.{Run}
use Rattle.mps_base.specs.Segment.{Segment}
use Rattle.mps_base.specs.declared.names.Rank.TheVariants as rank
use Rattle.mps_extents.specs.Table.{bit}
use Rattle.mps_format.specs.Layout.{Layout}
use Rattle.mps_format.specs.Pools.{policy_of_pool}
use Rattle.mps_format.specs.declared.pool.Policy.{Policy}
use Rattle.mps_model.specs.Checked.{Checked}
use Rattle.mps_model.specs.Collection.{Collection}
use Rattle.mps_model.specs.World.{World, begins_in}
use Rattle.mps_seg.specs.Collecting.{condemning, greying, keeping}
use Rattle.mps_seg.specs.Segs.{SegsState, new_segments}
use Rattle.mps_trace.specs.Flip.{condemned_of, remembered_of}
use Rattle.mps_trace.specs.GenState.{ChainsState}
use Rattle.mps_trace.specs.declared.condemn.Condemn.{Condemn}
use Rattle.mps_trace.specs.declared.condemn.Condemn.TheVariants.{Everything, Generations}
use Rattle.mps_trace.specs.declared.running.Band.TheVariants as band
use Rattle.mps_trace.specs.declared.running.Running.{Running}
use Rattle.mps_trace_laws.specs.Flip.Condemned.{known_formats, segment_at}
use Rattle.mps_trace_laws.specs.Image.Image.{is_white_over}
use Rattle.mps_trace_laws.specs.Image.Memory.{is_condemned_word}
use Rattle.mps_heap_spec.specs.Polling.{condemned_by, due_in}
use Rattle.mps_heap_spec.specs.State.{HeapState}
use Rattle.mps_heap_spec.specs.declared.arena.ArenaState.TheVariants as arena
use Rattle.mps_heap_spec.specs.declared.arena.Progress.{Progress}
use Rattle.mps_heap_spec.specs.declared.arena.Progress.TheVariants.{More}
use Rattle.mps_refinement.specs.StandsFor.{StandsFor}

-- ---- what is left

-- whether a block may still have to be scanned: it is white or grey
abbrev pub is_block_to_scan : SegsState → Run → Bool
is_block_to_scan s r =
    is_white_over (is_condemned_word s) (bit s.marks.kept) r.from || (bit s.marks.exact r.from || bit s.marks.weak r.from)

-- how many blocks may still have to be scanned
abbrev pub blocks_left : SegsState → ℕ
blocks_left s = count_by (is_block_to_scan s) s.blocks

-- how many condemned segments are to be reclaimed: those from the cursor on
abbrev pub condemned_left : SegsState → (cursor : Address) → ℕ
condemned_left s cursor = count_by (λ (t : Segment). bit s.condemned (grain_of t.base) && nat_le cursor t.base) s.segments

-- how many units a collection that is so far may take from here on
abbrev pub units_from : SegsState → Running → ℕ
units_from s run = blocks_left s + (run.registered_before - run.next) + condemned_left s run.cursor.0

-- ---- after a flip

-- how many blocks lie in one of these segments
abbrev pub blocks_in : List Segment → SegsState → ℕ
blocks_in ts s = count_by (λ r. list_any (λ t. begins_in t r) ts) s.blocks

-- the most units that a collection may take of which this is condemned: one for each block in a condemned segment and in one that may
-- refer to those, for each registration, and for each condemned segment
abbrev pub most_units_of : {F : Type 0} → (formats : List (Option (Policy F))) → ChainsState → Condemn → (registered : ℕ) → SegsState
    → ℕ
most_units_of formats chains what registered s =
    blocks_in (condemned_of formats chains what s.segments) s + blocks_in (remembered_of formats chains what s) s + registered
    + length (condemned_of formats chains what s.segments)

-- ---- of a heap

module _ {F : Type 0} where
  -- none is left where no collection runs
  abbrev pub units_left : HeapState F → ℕ
  units_left h = option_map_or (units_from h.segs) h.running 0

  abbrev pub most_units_after : Condemn → HeapState F → ℕ
  most_units_after what h = most_units_of (map policy_of_pool h.pools) h.chains what (length h.finals.registered) h.segs

  -- a `step` of n units leaves no more than there were. In an unclamped arena a collection goes on only after fewer units than were left,
  -- and each of them is one less
  pub record StepsDown (h : HeapState F) (n : ℕ) (answer : Progress) (h' : HeapState F) : Type 0 where
    pub no_more : units_left h' ≤ units_left h
    pub below : h.arena ≡ arena.Unclamped → answer ≡ More → n < units_left h
    pub fewer : h.arena ≡ arena.Unclamped → answer ≡ More → n + units_left h' ≤ units_left h

  -- a `start` whose checks gave this leaves at most as many as the flip may, and a refused one leaves as many as there were
  abbrev pub BeginsWithin : Checked Condemn → (h h' : HeapState F) → Type 0
  BeginsWithin (Ok what) h h' = units_left h' ≤ most_units_after what h
  BeginsWithin (Err why) h h' = units_left h' ≡ units_left h

  -- if this is due, at most as many are left as its flip may leave
  abbrev pub FlipsWithin : Option Due → (h h' : HeapState F) → Type 0
  FlipsWithin None h h' = units_left h' ≡ 0
  FlipsWithin (Some due) h h' = units_left h' ≤ most_units_after (condemned_by due) h

  -- a `reserve` leaves no more of a collection that ran, and of one that it began at most as many as the flip may leave
  abbrev pub ReservesWithin : Option Running → (h h' : HeapState F) → Type 0
  ReservesWithin None h h' = FlipsWithin (due_in h) h h'
  ReservesWithin (Some run) h h' = units_left h' ≤ units_left h

-- ---- at any time

-- whatever calls came since the flip: the units that were asked of a collection, and those that a heap has left of it, are together no more
-- than the collection may take
abbrev pub UnitsStayWithin : (F : Type 0) → Type 0
UnitsStayWithin F =
    (layout : F → Layout) (h : HeapState F) (w : World) (c : Collection) → StandsFor layout h w → w.collection ≡ Some c
    → c.spent + units_left h ≤ c.units

-- ---- vectors: a condemned segment with a grey block, a black one and a white one

abbrev half_scanned : SegsState
half_scanned = keeping (greying (keeping (condemning (record (new_segments 2 2) {
  segments = record { base = 0x1000; grains = 1; pool = 0; generation = 0; rank = rank.Exact } ∷ [];
  blocks = record { from = 512; count = 2 } ∷ record { from = 514; count = 2 } ∷ record { from = 516; count = 2 } ∷ [];
}) 0x1000) 0x1000) 0x1000) 0x1010

pub a_grey_block_and_a_white_one_are_left : blocks_left half_scanned ≡ 2
unfolding bit
a_grey_block_and_a_white_one_are_left = refl

pub its_segment_is_left : condemned_left half_scanned 0x1000 ≡ 1
unfolding bit
its_segment_is_left = refl

pub a_segment_below_the_cursor_is_not : condemned_left half_scanned 0x1001 ≡ 0
unfolding bit
a_segment_below_the_cursor_is_not = refl

-- two of three registrations are still to be examined
abbrev in_between : {F : Type 0} → HeapState F → HeapState F
in_between h = record h {
  segs = half_scanned;
  running = Some (record { band = band.Exact; cursor = record { 0 = 0 }; next = 1; registered_before = 3 });
}

pub five_units_are_left : {F : Type 0} (h : HeapState F) → units_left (in_between h) ≡ 5
unfolding bit
five_units_are_left h = refl

pub none_is_left_at_rest : {F : Type 0} (h : HeapState F) → units_left (record (in_between h) { running = None }) ≡ 0
none_is_left_at_rest h = refl

-- two young blocks, and an old one in a segment that may refer to them
abbrev young_and_old : SegsState
young_and_old = record (new_segments 7 7) {
  segments = segment_at 0x1000 1 ∷ record (segment_at 0x3000 1) { generation = 1 } ∷ [];
  summaries = 0 ∷ 0 ∷ 0 ∷ 2 ∷ 0 ∷ 0 ∷ 0 ∷ 0 ∷ [];
  blocks = record { from = 512; count = 2 } ∷ record { from = 520; count = 2 } ∷ record { from = 1536; count = 2 } ∷ [];
}

abbrev chain_of_two : ChainsState
chain_of_two = record { chains = (4 ∷ 8 ∷ []) ∷ []; of_pool = None ∷ Some 0 ∷ [] }

pub three_blocks_a_registration_and_a_segment : most_units_of known_formats chain_of_two (Generations 0 0) 1 young_and_old ≡ 5
three_blocks_a_registration_and_a_segment = refl

pub an_old_block_that_refers_nowhere_is_none :
    most_units_of known_formats chain_of_two (Generations 0 0) 1 (record young_and_old { summaries = [] }) ≡ 4
an_old_block_that_refers_nowhere_is_none = refl

pub everything_is_both_segments : most_units_of known_formats chain_of_two Everything 1 young_and_old ≡ 6
everything_is_both_segments = refl
