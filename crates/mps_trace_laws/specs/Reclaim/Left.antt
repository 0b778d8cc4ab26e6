-- What is left of an arena once a condemned segment is reclaimed.
use Rattle.std.specs.Prelude.{◌≡◌, ◌⊎◌, ℕ, ◌<◌, ◌≤◌, true, Option, List, [], slice_index}
use Rattle.mps_base.specs.Address.{Address, Id, Word, word_of}
use Rattle.mps_base.specs.Segment.{Segment, end_of_segment, without_segment}
use Rattle.mps_format.specs.Layout.{Layout}
use Rattle.mps_seg.specs.Segs.{SegsState}
use Rattle.mps_amc.specs.Reclaiming.{lost_of}
use Rattle.mps_model.specs.Graph.{Object, Point, Reservation}
use Rattle.mps_model.specs.World.{PointMemory}
use Rattle.mps_abstract.specs.Colours.{Colours}
use Rattle.mps_trace_laws.specs.Image.Memory.{Setting, LiesReserved, memory_in, setting_in}
use Rattle.mps_trace_laws.specs.Image.Image.{Stands}
use Rattle.mps_trace_laws.specs.Image.Bands.{setting_freeing}
use Rattle.mps_trace_laws.specs.Image.SegmentWords.{AreSegmentsInOrder}
use Rattle.mps_trace_laws.specs.Fix.Housed.{AreHoused}
use Rattle.mps_trace_laws.specs.Reclaim.Freed.{addresses_of, addresses_without}

-- no word of a live reservation lies in a segment
abbrev pub IsUnreserved : List (Option Point) → List PointMemory → Segment → Type 0
IsUnreserved points memories t =
    (point l : ℕ) (r : Reservation) (n : Word) → LiesReserved points memories point l r n
    → (n < word_of t.base) ⊎ (word_of (end_of_segment t) ≤ n)

-- the words of live reservations are as they were
abbrev pub AreReservationsUnwritten : List (Option Point) → List PointMemory → (words words' : List ℕ) → Type 0
AreReservationsUnwritten points memories words words' =
    (point l : ℕ) (r : Reservation) (n : Word) → LiesReserved points memories point l r n → slice_index words' n ≡ slice_index words n

-- the setting of objects and points in an arena in the last band of a collection that condemned these objects
abbrev pub setting_freeing_in : SegsState → List Object → List (Option Point) → List PointMemory → (layout : ℕ → Layout)
    → (condemned : List Id) → Colours → Setting
setting_freeing_in g objects points memories layout condemned k =
    setting_freeing (setting_in g objects points memories layout [] condemned (λ id. true)) k

-- the segments of an arena represent objects in the last band
pub record StandsFreeing (g : SegsState) (objects : List Object) (points : List (Option Point)) (memories : List PointMemory)
    (layout : ℕ → Layout) (condemned : List Id) (k : Colours) (addresses : List (Option Address)) : Type 0 where
  pub image : Stands (setting_freeing_in g objects points memories layout condemned k) (memory_in g) addresses k
  pub order : AreSegmentsInOrder g.segments
  pub housed : AreHoused objects g.segments addresses

-- the segments after a reclaim of one: it is held, or it isn't any more
abbrev pub AreSegmentsLeft : SegsState → Segment → SegsState → Type 0
AreSegmentsLeft g t g' = (g'.segments ≡ g.segments) ⊎ (g'.segments ≡ without_segment g.segments t.base)

-- what is shown of a reclaim of a segment
pub record IsReclaimShown (g : SegsState) (objects : List Object) (points : List (Option Point)) (memories : List PointMemory)
    (layout : ℕ → Layout) (condemned : List Id) (k : Colours) (addresses : List (Option Address)) (t : Segment) (g' : SegsState)
    : Type 0 where
  pub swept : StandsFreeing g' objects points memories layout condemned k (addresses_without (addresses_of (lost_of g t)) addresses)
  pub segments : AreSegmentsLeft g t g'
  pub condemned_same : g'.condemned ≡ g.condemned
  pub grains_same : g'.grains ≡ g.grains
