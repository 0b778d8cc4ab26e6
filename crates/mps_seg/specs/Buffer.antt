-- The free words of a buffer, and where a block or a reservation is placed in them.
use Rattle.std.specs.Prelude.{ℕ, ◌+◌, ◌-◌, ◌*◌, ◌<◌, ◌≡◌, nat_le, if◌then◌else◌, false, refl}
use Rattle.mps_base.specs.Address.{words_of_grain}
use Rattle.mps_base.specs.Placement.{Placement, Place, NewSegment, OverLimit, NoFreeRun}
use Rattle.mps_base.specs.Run.{Run}
use Rattle.mps_base.specs.declared.names.Rank.{Rank}
use Rattle.mps_base.specs.declared.names.Rank.TheVariants.{Exact}
use Rattle.mps_seg.specs.Segs.{SegsState, new_segments, placement_for, segments_after, noted_for, CanCover}
use Rattle.mps_seg.specs.declared.buffer.Buffer.{Buffer}

abbrev pub run_of : Buffer → Run
run_of b = record { from = b.from; count = b.count }

-- no words at hand
abbrev pub empty_buffer : Buffer
empty_buffer = record { from = 0; count = 0 }

-- the words at hand, where there are any, lie in a segment, and nothing covers one of them
abbrev pub IsAtHand : SegsState → Buffer → Type 0
IsAtHand s b = 0 < b.count → CanCover s (run_of b)

-- at a prefix of the words at hand, where there are enough, else in a new segment
abbrev pub placement_at_front : SegsState → Buffer → (words : ℕ) → Placement
placement_at_front s b words = if nat_le words b.count then Place b.from else placement_for s words

-- what is at hand after n words were placed: the rest of what was, or of the new segment
abbrev pub rest_at_hand : Buffer → Placement → (words : ℕ) → Buffer
rest_at_hand b (Place word) words = record { from = word + words; count = b.count - words }
rest_at_hand b (NewSegment grain grains) words =
    record { from = words_of_grain * grain + words; count = words_of_grain * grains - words }
rest_at_hand b (OverLimit committed need limit) words = b
rest_at_hand b (NoFreeRun need longest) words = b

-- the segments with a new one, where the placement is one
abbrev pub with_place : SegsState → (pool generation : ℕ) → Rank → Placement → SegsState
with_place s pool generation rank placement = record s {
  segments = segments_after placement pool generation rank s.segments;
  condemned = noted_for placement false s.condemned;
  summaries = noted_for placement 0 s.summaries;
}

-- ---- vectors: eight words at hand

abbrev eight_words : Buffer
eight_words = record { from = 520; count = 8 }

pub at_a_prefix : placement_at_front (new_segments 2 2) eight_words 8 ≡ Place 520
at_a_prefix = refl

pub one_word_too_many : placement_at_front (new_segments 2 2) eight_words 9 ≡ NewSegment 1 1
one_word_too_many = refl

pub no_room_within_the_limit : placement_at_front (new_segments 2 2) eight_words 1025 ≡ OverLimit 0 3 2
no_room_within_the_limit = refl

pub no_free_run : placement_at_front (new_segments 2 9) eight_words 1025 ≡ NoFreeRun 3 2
no_free_run = refl

pub the_rest_of_a_prefix : rest_at_hand eight_words (Place 520) 3 ≡ record { from = 523; count = 5 }
the_rest_of_a_prefix = refl

pub the_rest_of_a_new_segment : rest_at_hand eight_words (NewSegment 1 1) 9 ≡ record { from = 521; count = 503 }
the_rest_of_a_new_segment = refl

pub a_refusal_leaves_the_words : rest_at_hand eight_words (OverLimit 2 1 2) 9 ≡ eight_words
a_refusal_leaves_the_words = refl

pub a_place_takes_no_segment : with_place (new_segments 2 2) 0 0 Exact (Place 520) ≡ new_segments 2 2
a_place_takes_no_segment = refl
