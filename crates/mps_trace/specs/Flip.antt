-- What a flip condemns and drops, and the blocks that area words nail.
use Rattle.std.specs.Prelude.{◌≡◌, ℕ, ◌+◌, ◌&&◌, ◌||◌, ◌==◌, nat_le, not, Bool, true, false, is_some, option_map, if◌then◌else◌, Option, Some, None, List, [], ◌∷◌, filter, get_or, map, refl}
use Rattle.std.specs.Option.{option_map_or}
use Rattle.mps_base.specs.Address.{Address, Word, word_of, address_of_word}
use Rattle.mps_base.specs.Segment.{Segment, grains_of_segment, segment_over}
use Rattle.mps_base.specs.Trail.{with_move}
use Rattle.mps_base.specs.Zones.{zones_of_runs, zones_meet}
use Rattle.mps_base.specs.declared.moves.Move.TheVariants.{Flip}
use Rattle.mps_base.specs.declared.names.Rank.TheVariants.{Exact}
use Rattle.mps_amc.specs.Amc as amc
use Rattle.mps_amc.specs.Moving.{nailed}
use Rattle.mps_buffer.specs.Points.{PointsState, after_all_end}
use Rattle.mps_seg.specs.Extents.{run_over}
use Rattle.mps_gen.specs.State.{ChainsState, is_on_chain, max_chains}
use Rattle.mps_root.specs.declared.roots.Stored.{Stored}
use Rattle.mps_seg.specs.BitsTable.{bit}
use Rattle.mps_seg.specs.Segs.{SegsState, new_segments}
use Rattle.mps_seg.specs.Collecting.{condemning, greying_all, is_condemned_at, summary_at}
use Rattle.mps_trace.specs.Trace.{Traced}
use Rattle.mps_trace.specs.declared.condemn.Condemn.{Condemn}
use Rattle.mps_trace.specs.declared.condemn.Condemn.TheVariants.{Everything, Generations}
use Rattle.mps_format.specs.declared.pool.Policy.{Policy}

-- ---- what is condemned

-- whether a pool is automatic: it has a format
abbrev pub is_automatic : {F : Type 0} → (formats : List (Option (Policy F))) → (pool : ℕ) → Bool
is_automatic formats pool = is_some (get_or formats pool None)

-- whether a collection moves the blocks of a pool
abbrev pub moves_blocks : {F : Type 0} → (formats : List (Option (Policy F))) → (pool : ℕ) → Bool
moves_blocks {F = F} formats pool = option_map_or (λ (p : Policy F). p.moves) (get_or formats pool None) false

-- the segments of automatic pools
abbrev pub automatic_of : {F : Type 0} → (formats : List (Option (Policy F))) → List Segment → List Segment
automatic_of formats ts = filter (λ t. is_automatic formats t.pool) ts

-- whether a flip condemns the segments of a pool in a generation
abbrev pub condemns : {F : Type 0} → (formats : List (Option (Policy F))) → ChainsState → Condemn → (pool generation : ℕ) → Bool
condemns formats chains Everything pool generation = is_automatic formats pool
condemns formats chains (Generations chain oldest) pool generation = is_on_chain chains chain pool && nat_le generation oldest

-- the segments that a flip condemns
abbrev pub condemned_of : {F : Type 0} → (formats : List (Option (Policy F))) → ChainsState → Condemn → List Segment → List Segment
condemned_of formats chains what ts = filter (λ t. condemns formats chains what t.pool t.generation) ts

-- the numbers of a flip in the log
abbrev pub chain_of : Condemn → ℕ
chain_of Everything = max_chains
chain_of (Generations chain oldest) = chain

abbrev pub oldest_of : Condemn → ℕ
oldest_of Everything = 0
oldest_of (Generations chain oldest) = oldest

-- those of pools whose blocks move
abbrev pub moving_of : {F : Type 0} → (formats : List (Option (Policy F))) → List Segment → List Segment
moving_of formats ts = filter (λ t. moves_blocks formats t.pool) ts

-- these segments are condemned too
abbrev pub condemning_all : List Segment → SegsState → SegsState
condemning_all [] s = s
condemning_all (t ∷ ts) s = condemning_all ts (condemning s t.base)

-- the zones of all grains of these segments
abbrev pub zones_of : List Segment → ℕ
zones_of ts = zones_of_runs (map grains_of_segment ts)

-- the zones of what may move: of all grains of the condemned segments whose blocks do
abbrev pub zones_at_flip : {F : Type 0} → (formats : List (Option (Policy F))) → ChainsState → Condemn → List Segment → ℕ
zones_at_flip formats chains what ts = zones_of (moving_of formats (condemned_of formats chains what ts))

-- each segment that a flip condemns is condemned
abbrev pub all_condemned : {F : Type 0} → (formats : List (Option (Policy F))) → ChainsState → Condemn → SegsState → SegsState
all_condemned formats chains what s = condemning_all (condemned_of formats chains what s.segments) s

-- ---- a flip

-- what a flip leaves: reservations are ended, tails are empty, what is condemned is so, and the flip is logged with the zones of
-- the condemned segments whose blocks move
abbrev pub at_flip : {F : Type 0} → (formats : List (Option (Policy F))) → ChainsState → Condemn → PointsState → Traced → Traced
at_flip formats chains what points x = record {
  amc = amc.tails_after_flip x.amc;
  segs = all_condemned formats chains what (after_all_end points.flips points.points x.segs);
  moves = with_move x.moves (Flip (record { 0 = zones_at_flip formats chains what x.segs.segments }) (chain_of what) (oldest_of what));
}

-- ---- what isn't condemned

-- whether a segment that a flip doesn't condemn may refer to what it does: it is of an automatic pool, and its summary has one of the
-- zones of the flip
abbrev pub may_refer : {F : Type 0} → (formats : List (Option (Policy F))) → ChainsState → Condemn → (zones : ℕ) → SegsState → Segment
    → Bool
may_refer formats chains what zones s t =
    is_automatic formats t.pool && (not (condemns formats chains what t.pool t.generation) && zones_meet (summary_at s t.base) zones)

-- the segments whose blocks are still to be scanned, though they aren't condemned. A full flip leaves none
abbrev pub remembered_of : {F : Type 0} → (formats : List (Option (Policy F))) → ChainsState → Condemn → SegsState → List Segment
remembered_of formats chains Everything s = []
remembered_of formats chains (Generations chain oldest) s =
    filter (may_refer formats chains (Generations chain oldest) (zones_at_flip formats chains (Generations chain oldest) s.segments) s)
    s.segments

-- all blocks of these segments are grey
abbrev pub greying_each : List Segment → SegsState → SegsState
greying_each [] s = s
greying_each (t ∷ ts) s = greying_each ts (greying_all s t)

-- ---- area words

-- whether a collection moves the blocks of the segment over an address
abbrev pub moves_at : {F : Type 0} → (formats : List (Option (Policy F))) → SegsState → (at : Address) → Bool
moves_at formats s at = option_map_or (moves_blocks formats) (option_map (λ (t : Segment). t.pool) (segment_over s.segments at)) false

-- whether a number in the bytes of the block at an address pins it: it does if the block is condemned and may move, and if it doesn't
-- move only if the number is its address
abbrev pub pins : {F : Type 0} → (formats : List (Option (Policy F))) → SegsState → (word : ℕ) → (at : Address) → Bool
pins formats s word at = is_condemned_at s at && (moves_at formats s at || word == at)

-- the block that begins at a word is nailed, if a number in its bytes pins it
abbrev pub nailed_in : {F : Type 0} → (formats : List (Option (Policy F))) → SegsState → (word : ℕ) → Option Word → SegsState
nailed_in formats s word None = s
nailed_in formats s word (Some n) = if pins formats s word (address_of_word n) then nailed s (address_of_word n) else s

-- the block that a word of an area pins is nailed
abbrev pub nailed_by : {F : Type 0} → (formats : List (Option (Policy F))) → SegsState → (word : ℕ) → SegsState
nailed_by formats s word = nailed_in formats s word (run_over s.blocks (word_of word))

-- the blocks that these words pin are nailed, one after the other
abbrev pub nailed_by_all : {F : Type 0} → (formats : List (Option (Policy F))) → List Stored → SegsState → SegsState
nailed_by_all formats [] s = s
nailed_by_all formats (w ∷ ws) s = nailed_by_all formats ws (nailed_by formats s w.word)

-- ---- vectors: pool 0 isn't collected, the blocks of pool 1 move, and those of pool 2 don't

abbrev formats : List (Option (Policy ℕ))
formats = None ∷ Some (record { format = 0; moves = true }) ∷ Some (record { format = 0; moves = false }) ∷ []

abbrev segment_of_pool : (base pool : ℕ) → Segment
segment_of_pool base pool = record { base = base; grains = 2; pool = pool; generation = 0; rank = Exact }

abbrev one_of_each : List Segment
one_of_each = segment_of_pool 0x1000 0 ∷ segment_of_pool 0x3000 1 ∷ segment_of_pool 0x5000 2 ∷ []

pub only_automatic_pools_are_collected : automatic_of formats one_of_each ≡ segment_of_pool 0x3000 1 ∷ segment_of_pool 0x5000 2 ∷ []
only_automatic_pools_are_collected = refl

pub only_one_of_them_moves : moving_of formats one_of_each ≡ segment_of_pool 0x3000 1 ∷ []
only_one_of_them_moves = refl

-- pool 1 is on chain 0
abbrev one_on_a_chain : ChainsState
one_on_a_chain = record { chains = (4 ∷ 8 ∷ []) ∷ []; of_pool = None ∷ Some 0 ∷ None ∷ [] }

-- a segment of pool 1 in each of two generations, and one of pool 2
abbrev three_segments : SegsState
three_segments = record (new_segments 7 7) {
  segments = segment_of_pool 0x1000 1 ∷ record (segment_of_pool 0x3000 1) { generation = 1 } ∷ segment_of_pool 0x5000 2 ∷ [];
  summaries = 0 ∷ 0 ∷ 0 ∷ 2 ∷ 0 ∷ 8 ∷ 0 ∷ 0 ∷ [];
}

pub everything_is_both_generations :
    condemned_of formats one_on_a_chain Everything three_segments.segments ≡ three_segments.segments
everything_is_both_generations = refl

pub the_youngest_generation_alone : condemned_of formats one_on_a_chain (Generations 0 0) three_segments.segments
    ≡ segment_of_pool 0x1000 1 ∷ []
the_youngest_generation_alone = refl

pub no_segment_of_another_chain : condemned_of formats one_on_a_chain (Generations 1 0) three_segments.segments ≡ []
no_segment_of_another_chain = refl

-- its zones are 1 and 2. The summary of the second segment has zone 1, that of the third zone 3 alone
pub the_second_may_refer_to_it : remembered_of formats one_on_a_chain (Generations 0 0) three_segments
    ≡ record (segment_of_pool 0x3000 1) { generation = 1 } ∷ []
the_second_may_refer_to_it = refl

pub nothing_is_left_by_a_full_flip : remembered_of formats one_on_a_chain Everything three_segments ≡ []
nothing_is_left_by_a_full_flip = refl

pub a_zone_for_each_grain : zones_of (segment_of_pool 0x3000 1 ∷ []) ≡ 8 + 16
a_zone_for_each_grain = refl

pub a_pool_that_is_not_known : is_automatic formats 3 ≡ false
a_pool_that_is_not_known = refl

-- one block of three words in a condemned segment of a pool
abbrev one_block : (pool : ℕ) → SegsState
one_block pool = condemning (record (new_segments 2 2) {
  segments = record (segment_of_pool 0x1000 pool) { grains = 1 } ∷ [];
  blocks = record { from = 512; count = 3 } ∷ [];
}) 0x1000

pub any_byte_pins_what_moves : pins formats (one_block 1) 0x1009 0x1000 ≡ true
unfolding bit
any_byte_pins_what_moves = refl

pub its_address_pins_what_stays : pins formats (one_block 2) 0x1000 0x1000 ≡ true
unfolding bit
its_address_pins_what_stays = refl

pub the_byte_after_does_not : pins formats (one_block 2) 0x1001 0x1000 ≡ false
unfolding bit
the_byte_after_does_not = refl

pub nor_does_its_next_word : nailed_by formats (one_block 2) 0x1008 ≡ one_block 2
unfolding bit
nor_does_its_next_word = refl
