-- Points, their reservations, and where a reservation is placed.
use Rattle.std.specs.Prelude.{ℕ, ◌+◌, ◌<◌, ◌≤◌, ◌≡◌, ◌⊎◌, ◌==◌, Bool, true, false, option_map, map, length, if◌then◌else◌, Option, Some, None, is_some, List, [], ◌∷◌, replicate, get_or, slice_set, Contains, refl}
use Rattle.std.proofs.Common.{arith}
use Rattle.std.specs.List.{list_any}
use Rattle.std.specs.Option.{option_map_or}
use Rattle.mps_base.specs.Address.{word_of}
use Rattle.mps_base.specs.Run.{Run, end_of, with_run, without_run}
use Rattle.mps_base.specs.Placement.{Placement, Place, NewSegment, OverLimit, NoFreeRun}
use Rattle.mps_seg.specs.Arena.{cleared_words}
use Rattle.mps_base.specs.declared.names.Rank.{Rank}
use Rattle.mps_base.specs.declared.names.Rank.TheVariants.{Exact, Weak}
use Rattle.mps_seg.specs.Segs.{SegsState, new_segments, held_runs, IsOpenRun}
use Rattle.mps_seg.specs.Placing.{placement_in_gaps}
use Rattle.mps_seg.specs.declared.buffer.Buffer.{Buffer}
use Rattle.mps_seg.specs.Buffer.{empty_buffer, placement_at_front, rest_at_hand}
use Rattle.mps_seg.specs.Buffer as placed
use Rattle.mps_buffer.specs.declared.point.Held.{Held}
use Rattle.mps_buffer.specs.declared.point.Point.{Point}

-- the points by their keys, and how many flips there were
pub record PointsState : Type 0 where
  pub points : List (Option Point)
  pub flips : ℕ

-- how many points there may be
abbrev pub max_points : ℕ
max_points = 256

abbrev pub no_points : PointsState
no_points = record { points = replicate max_points None; flips = 0 }

abbrev pub point_at : PointsState → (key : ℕ) → Option Point
point_at s key = get_or s.points key None

-- the state with this under a key
abbrev pub with_point : PointsState → (key : ℕ) → Option Point → PointsState
with_point s key p = record s { points = slice_set s.points key p }

abbrev pub run_of_held : Held → Run
run_of_held h = record { from = word_of h.at.0; count = h.words }

-- the words lie in a segment, and nothing covers one of them once these others are covered
abbrev pub CanCoverAfter : SegsState → Run → Run → Type 0
CanCoverAfter s others r = IsOpenRun s.grains (held_runs s) (with_run others s.covered) r

-- one of two runs ends where the other begins, or before
abbrev pub AreApart : Run → Run → Type 0
AreApart r q = (end_of r ≤ q.from) ⊎ (end_of q ≤ r.from)

-- a point with an empty buffer and no reservation
abbrev pub new_point : (pool : ℕ) → Rank → (is_copying : Bool) → Point
new_point pool rank is_copying =
    record { pool = pool; rank = rank; is_copying = is_copying; buffer = empty_buffer; reservation = None }

-- a point was made under a key that was free
pub record IsMade (s s' : PointsState) (key : ℕ) (p : Point) : Type 0 where
  pub within : key < length s.points
  pub was_free : point_at s key ≡ None
  pub made : s' ≡ with_point s key (Some p)

-- there is a point under each of the 256 keys
abbrev pub AllTaken : List (Option Point) → Type 0
AllTaken points = (key : ℕ) → key < max_points → key < length points → is_some (get_or points key None) ≡ true

-- a point has a reservation that no flip ended
abbrev pub is_reserved_now : (flips : ℕ) → Option Point → Bool
is_reserved_now flips None = false
is_reserved_now flips (Some p) = option_map_or (λ h. h.flips == flips) p.reservation false

-- some point has one
abbrev pub has_live_reservation : PointsState → Bool
has_live_reservation s = list_any (is_reserved_now s.flips) s.points

-- ---- where a reservation is placed

-- where a reservation of n words at a point is placed
abbrev pub placement_at : Point → SegsState → (words : ℕ) → Placement
placement_at p s words =
    if p.is_copying then placement_at_front s p.buffer words else placement_in_gaps s p.pool p.rank words

-- whether it lies in what is held already
abbrev pub is_place : Placement → Bool
is_place (Place word) = true
is_place (NewSegment grain grains) = false
is_place (OverLimit committed need limit) = false
is_place (NoFreeRun need longest) = false

-- the segments with a new one, if the placement is one
abbrev pub with_place : SegsState → Point → Placement → SegsState
with_place s p placement = placed.with_place s p.pool 0 p.rank placement

-- what is at hand after a reservation of n words
abbrev pub buffer_after : Point → Placement → (words : ℕ) → Buffer
buffer_after p placement words = if p.is_copying then rest_at_hand p.buffer placement words else p.buffer

-- ---- reservations

-- the segments with a reservation, whose words are 0 but for its head
abbrev pub with_reservation : SegsState → Held → SegsState
with_reservation s h = record s {
  covered = with_run (run_of_held h) s.covered;
  reservations = with_run (run_of_held h) s.reservations;
  words = slice_set (cleared_words s.words (word_of h.at.0) h.words) (word_of h.at.0) h.head;
}

-- a reservation that became a block, and one whose words are free again
abbrev pub with_block : SegsState → Held → SegsState
with_block s h = record s {
  blocks = with_run (run_of_held h) s.blocks;
  reservations = without_run (word_of h.at.0) s.reservations;
}

abbrev pub without_reservation : SegsState → Held → SegsState
without_reservation s h = record s {
  covered = without_run (word_of h.at.0) s.covered;
  reservations = without_run (word_of h.at.0) s.reservations;
}

-- a point without its reservation
abbrev pub after_close : Point → Point
after_close p = record p { reservation = None }

-- a point after a reservation of n words was placed
abbrev pub after_open : Point → Placement → Held → Point
after_open p placement h = record p { buffer = buffer_after p placement h.words; reservation = Some h }

-- the point under a key has this open reservation
pub record IsOpenAt (s : PointsState) (key : ℕ) (h : Held) : Type 0 where
  pub within : key < length s.points
  pub point : Point
  pub there : point_at s key ≡ Some point
  pub reserved : point.reservation ≡ Some h

-- ---- a flip

-- the segments where a reservation is ended that still covers its words
abbrev pub after_end : (flips : ℕ) → Option Held → SegsState → SegsState
after_end flips None s = s
after_end flips (Some h) s = if h.flips == flips then without_reservation s h else s

abbrev pub after_end_at : (flips : ℕ) → Option Point → SegsState → SegsState
after_end_at flips None s = s
after_end_at flips (Some p) s = after_end flips p.reservation s

-- the segments where all reservations are ended, one after the other
abbrev pub after_all_end : (flips : ℕ) → List (Option Point) → SegsState → SegsState
after_all_end flips [] s = s
after_all_end flips (p ∷ ps) s = after_all_end flips ps (after_end_at flips p s)

-- a reservation that still covers its words is one of the segments
abbrev pub IsReserved : (flips : ℕ) → Option Held → SegsState → Type 0
IsReserved flips None s = Unit {0}
IsReserved flips (Some h) s = h.flips ≡ flips → Contains s.reservations (run_of_held h)

abbrev pub IsReservedAt : (flips : ℕ) → Option Point → SegsState → Type 0
IsReservedAt flips None s = Unit {0}
IsReservedAt flips (Some p) s = IsReserved flips p.reservation s

-- each of the reservations is one of the segments when it is its turn to be ended
abbrev pub AreReserved : (flips : ℕ) → List (Option Point) → SegsState → Type 0
AreReserved flips [] s = Unit {0}
AreReserved flips (p ∷ ps) s = IsReservedAt flips p s × AreReserved flips ps (after_end_at flips p s)

-- a point with an empty buffer
abbrev pub without_free_words : Point → Point
without_free_words p = record p { buffer = empty_buffer }

-- the points after a flip
abbrev pub points_after_flip : PointsState → PointsState
points_after_flip s = record { points = map (option_map without_free_words) s.points; flips = s.flips + 1 }

-- no reservation was made after more flips than these
pub record WereMadeBefore (flips : ℕ) (s : PointsState) : Type 0 where
  pub before : (key : ℕ) (p : Point) (held : Held) → point_at s key ≡ Some p → p.reservation ≡ Some held → held.flips ≤ flips

-- ---- vectors

-- a point of a pool that moves blocks, with eight free words in its buffer
abbrev a_point : Point
a_point = record { pool = 0; rank = Exact; is_copying = true; buffer = record { from = 520; count = 8 }; reservation = None }

pub at_a_prefix : placement_at a_point (new_segments 2 2) 8 ≡ Place 520
at_a_prefix = refl

pub one_word_too_many : placement_at a_point (new_segments 2 2) 9 ≡ NewSegment 1 1
one_word_too_many = refl

pub the_rest_of_a_prefix : buffer_after a_point (Place 520) 3 ≡ record { from = 523; count = 5 }
the_rest_of_a_prefix = refl

pub the_rest_of_a_new_segment : buffer_after a_point (NewSegment 1 1) 9 ≡ record { from = 521; count = 503 }
the_rest_of_a_new_segment = refl

pub no_rest_in_other_pools : buffer_after (record a_point { is_copying = false }) (NewSegment 1 1) 9 ≡ a_point.buffer
no_rest_in_other_pools = refl

-- a weak point of a pool that doesn't move blocks, where an exact segment and a weak one are held of the pool
abbrev a_weak_point : Point
a_weak_point = new_point 3 Weak false

abbrev two_ranks : SegsState
two_ranks = record (new_segments 3 2) {
  segments =
      record { base = 0x1000; grains = 1; pool = 3; generation = 0; rank = Exact }
      ∷ record { base = 0x2000; grains = 1; pool = 3; generation = 0; rank = Weak } ∷ [];
  covered = record { from = 1024; count = 500 } ∷ [];
}

pub the_lowest_gap_of_its_rank : placement_at a_weak_point two_ranks 12 ≡ Place 1524
the_lowest_gap_of_its_rank = refl

pub the_lowest_gap_of_the_other : placement_at (record a_weak_point { rank = Exact }) two_ranks 12 ≡ Place 512
the_lowest_gap_of_the_other = refl

pub the_limit_refuses : placement_at a_weak_point two_ranks 13 ≡ OverLimit 2 1 2
the_limit_refuses = refl

pub no_run_refuses : placement_at a_weak_point (record two_ranks { limit = 9 }) 513 ≡ NoFreeRun 2 1
no_run_refuses = refl

pub a_new_segment_beside_a_short_gap : placement_at a_weak_point (record two_ranks { limit = 9 }) 13 ≡ NewSegment 3 1
a_new_segment_beside_a_short_gap = refl

-- a reservation that was made after three flips, where there were two
abbrev too_early : PointsState
too_early = record {
  points = Some (record a_point { reservation = Some (record { at = record { 0 = 0x1040 }; head = 1; words = 2; flips = 3 }) }) ∷ [];
  flips = 2;
}

abbrev reserved_after : (flips : ℕ) → PointsState
reserved_after flips = record {
  points = None
      ∷ Some (record a_point { reservation = Some (record { at = record { 0 = 0x1040 }; head = 1; words = 2; flips = flips }) }) ∷ [];
  flips = 2;
}

pub a_reservation_since_the_last_flip : has_live_reservation (reserved_after 2) ≡ true
a_reservation_since_the_last_flip = refl

pub one_that_a_flip_ended : has_live_reservation (reserved_after 1) ≡ false
one_that_a_flip_ended = refl

pub no_reservation_is_to_come : WereMadeBefore 2 too_early → ⊥
no_reservation_is_to_come made = let most = made.before 0 _ _ refl refl in omega (arith, most)
