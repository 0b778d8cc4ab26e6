-- What a flip does to reservations, and what it leaves as it is.
use Rattle.std.specs.Prelude.{◌≡◌, ℕ, false, Option, Some, List, [], ◌∷◌, refl}
use Rattle.mps_base.specs.declared.names.Rank.TheVariants.{Exact}
use Rattle.mps_trace_laws.specs.Image.Memory.{live_reservation}
use Rattle.mps_model.specs.Graph.{HeadCell, Point, Reservation, entry_at}
use Rattle.mps_model.specs.World.{PointMemory, reserved_extents, empty_run}
use Rattle.mps_seg.specs.Segs.{SegsState}

-- no reservation of these points is live, so none covers words
pub record AreNoneLive (points : List (Option Point)) (memories : List PointMemory) : Type 0 where
  pub not_live : (point : ℕ) (r : Reservation) → live_reservation (entry_at points point) ≡ Some r → ⊥
  pub extents : reserved_extents points memories ≡ []

-- words, blocks and marks are as before, and so are summaries and the size of the arena
pub record IsNothingMoved (s after : SegsState) : Type 0 where
  pub words : after.words ≡ s.words
  pub blocks : after.blocks ≡ s.blocks
  pub marks : after.marks ≡ s.marks
  pub grains : after.grains ≡ s.grains
  pub limit : after.limit ≡ s.limit
  pub summaries : after.summaries ≡ s.summaries

-- ---- vectors: a point with an open reservation

abbrev open_point : List (Option Point)
open_point =
    Some (record { pool = 0; rank = Exact; reservation = Some (record { head = 0x101; cells = HeadCell ∷ []; is_doomed = false }) }) ∷ []

pub an_open_reservation_is_live : AreNoneLive open_point [] → ⊥
an_open_reservation_is_live none = none.not_live 0 (record { head = 0x101; cells = HeadCell ∷ []; is_doomed = false }) refl

pub it_covers_words : AreNoneLive open_point (record { reserved_at = 0x1008; buffer = empty_run } ∷ []) → ⊥
it_covers_words none =
    let e : record { from = 513; count = 1 } ∷ [] ≡ [] = none.extents in absurd cc
