-- Points by their keys, and the tokens of their open reservations.
use Rattle.std.specs.Prelude.{ℕ, ◌≡◌, true, false, Option, Some, None, option_map, List, [], ◌∷◌, refl}
use Rattle.mps_seg.specs.Segs.{SegsState}
use Rattle.mps_buffer.specs.declared.point.Held.{Held}
use Rattle.mps_buffer.specs.declared.point.Point.{Point}
use Rattle.mps_buffer.specs.declared.point.Reserved.{Reserved}
use Rattle.mps_base.specs.declared.names.Rank.TheVariants.{Exact}
use Rattle.mps_buffer.specs.Points.{PointsState, point_at, new_point}
use Rattle.mps_seg.specs.Buffer.{IsAtHand}

-- the token of the open reservation of the point under a key
abbrev pub token_of : (key : ℕ) → Option Point → Option Reserved
token_of key None = None
token_of key (Some p) = option_map (λ h. record { point = key; held = h }) p.reservation

-- under a key there is this point, with this open reservation
pub record HasOpen (s : PointsState) (key : ℕ) (p : Point) (h : Held) : Type 0 where
  pub there : point_at s key ≡ Some p
  pub reserved : p.reservation ≡ Some h

-- under a key there is this point, without a reservation
pub record IsClosedAt (s : PointsState) (key : ℕ) (p : Point) : Type 0 where
  pub there : point_at s key ≡ Some p
  pub closed : p.reservation ≡ None

-- no reservation is open at any of the points
unfoldable pub NoneIsOpen : List (Option Point) → Type 0
NoneIsOpen [] = Unit {0}
NoneIsOpen (p ∷ ps) = (token_of 0 p ≡ None) × NoneIsOpen ps

-- no reservation is open, and words may be reserved at the point under a key, whose pool moves blocks
pub record IsReady (s : PointsState) (segs : SegsState) (key : ℕ) : Type 0 where
  pub point : Point
  pub there : IsClosedAt s key point
  pub is_copying : point.is_copying ≡ true
  pub at_hand : IsAtHand segs point.buffer
  pub none_open : NoneIsOpen s.points

-- ---- vectors

-- a point without a reservation, and one with a reservation of two words
abbrev free_point : Point
free_point = new_point 0 Exact false

abbrev held : Held
held = record { at = record { 0 = 0x1000 }; head = 5; words = 2; flips = 3 }

abbrev open_point : Point
open_point = record free_point { reservation = Some held }

pub a_point_without_a_reservation_has_no_token : token_of 7 (Some free_point) ≡ None
a_point_without_a_reservation_has_no_token = refl

pub a_token_has_the_key_of_its_point : token_of 2 (Some open_point) ≡ Some (record { point = 2; held = held })
a_token_has_the_key_of_its_point = refl
