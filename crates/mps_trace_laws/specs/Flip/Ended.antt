-- A flip ends all open reservations: what is covered then is blocks alone.
use Rattle.std.specs.Prelude.{◌≡◌, ◌≢◌, ℕ, ◌==◌, if◌then◌else◌, Option, Some, None, List, [], ◌∷◌, ◌++◌, refl}
use Rattle.std.specs.List.{AllByRecursion}
use Rattle.mps_base.specs.Run.{Run, in_order}
use Rattle.mps_buffer.specs.declared.point.Held.{Held}
use Rattle.mps_buffer.specs.declared.point.Point.{Point}
use Rattle.mps_buffer.specs.Points.{run_of_held}
use Rattle.mps_seg.specs.Segs.{SegsState, new_segments}

-- the run of a reservation that still covers its words
abbrev pub open_run : (flips : ℕ) → Option Held → List Run
open_run flips None = []
open_run flips (Some h) = if h.flips == flips then run_of_held h ∷ [] else []

abbrev pub open_run_at : (flips : ℕ) → Option Point → List Run
open_run_at flips None = []
open_run_at flips (Some p) = open_run flips p.reservation

-- the runs of the reservations of points that still cover their words
abbrev pub open_runs : (flips : ℕ) → List (Option Point) → List Run
open_runs flips [] = []
open_runs flips (p ∷ ps) = open_run_at flips p ++ open_runs flips ps

-- each of these begins where no block does, and no other one of them
abbrev pub BeginApart : (blocks : List Run) → List Run → Type 0
BeginApart blocks [] = Unit {0}
BeginApart blocks (r ∷ rs) =
    AllByRecursion (λ (q : Run). q.from ≢ r.from) blocks × AllByRecursion (λ (q : Run). q.from ≢ r.from) rs × BeginApart blocks rs

-- blocks and these reservations are what is covered
pub record AreCovered (s : SegsState) (extents reserved : List Run) : Type 0 where
  pub blocks : s.blocks ≡ in_order extents
  pub reservations : s.reservations ≡ in_order reserved
  pub covered : s.covered ≡ in_order (extents ++ reserved)

-- ---- vectors

pub two_that_begin_together : (r : Run) → BeginApart (r ∷ []) (r ∷ []) → ⊥
two_that_begin_together r apart = apart.0.0 refl

pub nothing_is_covered_at_first : AreCovered (new_segments 2 2) [] []
nothing_is_covered_at_first = record { blocks = refl; reservations = refl; covered = refl }
