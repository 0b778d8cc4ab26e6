-- The tails of copying pools, and what a fix does.
use Rattle.std.specs.Prelude.{ℕ, ◌≡◌, ◌<◌, true, false, Some, Result, Ok, Err, List, [], ◌∷◌, ◌++◌, length, map, replicate, get_or, slice_set, refl}
use Rattle.mps_base.specs.Address.{Address}
use Rattle.mps_base.specs.Segment.{Segment, segment_over}
use Rattle.mps_base.specs.Placement.{Placement, Place, NewSegment, OverLimit, NoFreeRun}
use Rattle.mps_base.specs.Trail.{Moves, with_move}
use Rattle.mps_base.specs.declared.address.Addr.{Addr}
use Rattle.mps_base.specs.declared.moves.Move.TheVariants.{Moved, Stay}
use Rattle.mps_base.specs.declared.names.Rank.TheVariants.{Exact}
use Rattle.mps_base.specs.declared.refusal.Refusal.{Refusal}
use Rattle.mps_base.specs.declared.refusal.Refusal.TheVariants.{NoRun}
use Rattle.mps_format.specs.Layout.{Layout}
use Rattle.mps_arena.specs.Arena.{answer_of_placement}
use Rattle.mps_seg.specs.Segs.{SegsState, new_segments, moves_after}
use Rattle.mps_seg.specs.Collecting.{is_kept_at}
use Rattle.mps_seg.specs.Buffer as placed
use Rattle.mps_seg.specs.declared.buffer.Buffer.{Buffer}
use Rattle.mps_seg.specs.Buffer.{empty_buffer, placement_at_front, rest_at_hand}
use Rattle.mps_amc.specs.Moving.{AreCopied, IsForwarded, IsUnforwarded, size_at, moved_to, kept_in_place}

-- by pool and generation, the rest of the last segment that the running collection took for them
pub record AmcState : Type 0 where
  pub tails : List (List Buffer)

abbrev pub no_pools : AmcState
no_pools = record { tails = [] }

-- one pool more, with an empty tail for each of its generations
abbrev pub with_pool : AmcState → (generations : ℕ) → AmcState
with_pool amc generations = record { tails = amc.tails ++ replicate generations empty_buffer ∷ [] }

-- as many tails, all empty
abbrev pub row_after_flip : List Buffer → List Buffer
row_after_flip row = replicate (length row) empty_buffer

-- the tails after a flip
abbrev pub tails_after_flip : AmcState → AmcState
tails_after_flip amc = record { tails = map row_after_flip amc.tails }

-- the tails of a pool
abbrev pub tails_of : AmcState → (pool : ℕ) → List Buffer
tails_of amc pool = get_or amc.tails pool []

abbrev pub tail_of : AmcState → (pool generation : ℕ) → Buffer
tail_of amc pool generation = get_or (tails_of amc pool) generation empty_buffer

abbrev pub with_tail : AmcState → (pool generation : ℕ) → Buffer → AmcState
with_tail amc pool generation tail =
    record { tails = slice_set amc.tails pool (slice_set (tails_of amc pool) generation tail) }

-- there is a tail for a pool and a generation
pub record HasTail (amc : AmcState) (pool generation : ℕ) : Type 0 where
  pub pool_listed : pool < length amc.tails
  pub generation_listed : generation < length (tails_of amc pool)

-- ---- where a block moves

-- to a prefix of the tail, if it fits there, else to a new segment
abbrev pub placement_of_copy : AmcState → SegsState → (pool generation size : ℕ) → Placement
placement_of_copy amc s pool generation size = placement_at_front s (tail_of amc pool generation) size

-- the segments with a new one, if the placement is one
abbrev pub with_place : SegsState → (pool generation : ℕ) → Placement → SegsState
with_place s pool generation placement = placed.with_place s pool generation Exact placement

-- the tails after a block of n words was placed
abbrev pub tails_after : AmcState → (pool generation size : ℕ) → Placement → AmcState
tails_after amc pool generation size placement =
    with_tail amc pool generation (rest_at_hand (tail_of amc pool generation) placement size)

-- ---- a fix of a block that isn't kept yet. Where it is placed decides: it moves, or if no room was found it stays

-- where it lies then
abbrev pub answer_of_fix : Result Addr Refusal → (at : Addr) → Addr
answer_of_fix (Ok to) at = to
answer_of_fix (Err why) at = at

-- the segments, but for their words
abbrev pub segs_fixed : Result Addr Refusal → SegsState → (at : Address) → (size : ℕ) → SegsState
segs_fixed (Ok to) s at size = moved_to s at to.0 size
segs_fixed (Err why) s at size = kept_in_place s at

-- the moves
abbrev pub moves_fixed : Result Addr Refusal → Moves → (at : Addr) → Moves
moves_fixed (Ok to) moves at = with_move moves (Moved at to)
moves_fixed (Err why) moves at = with_move moves (Stay at)

-- the words: a forwarded block leaves some open
abbrev pub AreWordsFixed : Result Addr Refusal → Layout → (words words' : List ℕ) → (at : Address) → (size : ℕ) → Type 0
AreWordsFixed (Ok to) f words words' at size = AreCopied f words words' at to.0 size
AreWordsFixed (Err why) f words words' at size = words' ≡ words

-- what is known after a block of n words of a pool, which wasn't kept, was fixed
pub record IsFixed (f : Layout) (amc amc' : AmcState) (s s' : SegsState) (moves moves' : Moves) (at : Addr)
    (pool generation size : ℕ) (answer : Addr)
    : Type 0 where
  pub answer_is : answer ≡ answer_of_fix (answer_of_placement (placement_of_copy amc s pool generation size)) at
  pub state : s' ≡ record (segs_fixed (answer_of_placement (placement_of_copy amc s pool generation size))
      (with_place s pool generation (placement_of_copy amc s pool generation size)) at.0 size) { words = s'.words }
  pub words : AreWordsFixed (answer_of_placement (placement_of_copy amc s pool generation size)) f s.words s'.words at.0 size
  pub tails : amc' ≡ tails_after amc pool generation size (placement_of_copy amc s pool generation size)
  pub trail : moves' ≡ moves_fixed (answer_of_placement (placement_of_copy amc s pool generation size))
      (moves_after (placement_of_copy amc s pool generation size) pool generation moves) at

-- what a fix does with an address, and where the block lies then
pub data FixesAt (f : Layout) (amc : AmcState) (s : SegsState) (moves : Moves) (at : Addr) (generation : ℕ)
    : AmcState → SegsState → Moves → (answer : Addr) → Type 0
  where
    -- the block has moved
    forwards : (to : Addr) → IsForwarded f s.words at.0 to.0 → FixesAt f amc s moves at generation amc s moves to
    -- it is kept already
    is_kept : IsUnforwarded f s.words at.0 → is_kept_at s at.0 ≡ true → FixesAt f amc s moves at generation amc s moves at
    -- it is kept from now on
    keeps : {amc' : AmcState} {s' : SegsState} {moves' : Moves} (t : Segment) (answer : Addr) → IsUnforwarded f s.words at.0
        → is_kept_at s at.0 ≡ false → segment_over s.segments at.0 ≡ Some t
        → IsFixed f amc amc' s s' moves moves' at t.pool generation (size_at f s.words at.0) answer
        → FixesAt f amc s moves at generation amc' s' moves' answer

-- ---- vectors

abbrev amc : AmcState
amc = record { tails = (record { from = 520; count = 8 } ∷ empty_buffer ∷ []) ∷ [] }

pub a_tail_that_is_long_enough : placement_of_copy amc (new_segments 2 2) 0 0 8 ≡ Place 520
a_tail_that_is_long_enough = refl

pub a_tail_one_word_short : placement_of_copy amc (new_segments 2 2) 0 0 9 ≡ NewSegment 1 1
a_tail_one_word_short = refl

pub another_generation : placement_of_copy amc (new_segments 2 2) 0 1 2 ≡ NewSegment 1 1
another_generation = refl

pub no_room_within_the_limit : placement_of_copy amc (new_segments 2 2) 0 1 1025 ≡ OverLimit 0 3 2
no_room_within_the_limit = refl

pub no_free_run : placement_of_copy amc (new_segments 2 9) 0 1 1025 ≡ NoFreeRun 3 2
no_free_run = refl

pub the_rest_of_a_tail : (tails_after amc 0 0 3 (Place 520)).tails ≡ (record { from = 523; count = 5 } ∷ empty_buffer ∷ []) ∷ []
the_rest_of_a_tail = refl

pub the_rest_of_a_new_segment : (tails_after amc 0 1 2 (NewSegment 3 1)).tails
    ≡ (record { from = 520; count = 8 } ∷ record { from = 1538; count = 510 } ∷ []) ∷ []
the_rest_of_a_new_segment = refl

pub where_none_was_found_tails_are_as_before : tails_after amc 0 0 9 (OverLimit 2 1 2) ≡ amc
where_none_was_found_tails_are_as_before = refl

pub nothing_at_hand_after_a_flip : (tails_after_flip amc).tails ≡ (empty_buffer ∷ empty_buffer ∷ []) ∷ []
nothing_at_hand_after_a_flip = refl

pub a_block_that_stays : answer_of_fix (Err (NoRun 3 2)) (record { 0 = 0x1000 }) ≡ record { 0 = 0x1000 }
a_block_that_stays = refl
