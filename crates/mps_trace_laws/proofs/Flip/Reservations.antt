-- Doomed reservations aren't live, and a flip changes no word, block or mark.
use Rattle.std.proofs.Common.{◌≡◌, ◌∙◌, ℕ, zero, suc, true, refl, sym, ap, List, [], ◌∷◌, map, Option, Some, None}
use Rattle.std.specs.Prelude.{◌++◌, if◌then◌else◌, option_map, option_and_then}
use Rattle.mps_base.specs.Run.{Run}
use Rattle.mps_buffer.specs.Points.{PointsState}
use Rattle.mps_trace_laws.specs.Image.Memory.{live_reservation}
use Rattle.mps_model.specs.Graph.{Point, Reservation, entry_at, is_live_reservation}
use Rattle.mps_model.specs.World.{PointMemory, extent_of_reservation, reserved_extents}
use Rattle.mps_model.specs.Effect.{doomed, without_buffer}
use Rattle.mps_trace.specs.GenState.{ChainsState}
use Rattle.mps_trace.specs.declared.condemn.Condemn.{Condemn}
use Rattle.mps_trace.specs.Flip.{at_flip}
use Rattle.mps_trace_laws.specs.Flip.Reservations.{IsNothingMoved, AreNoneLive}
use Rattle.mps_trace.specs.Trace.{Traced}
use Rattle.mps_trace.proofs.Remembering.{flip_leaves}
use Rattle.mps_format.specs.declared.pool.Policy.{Policy}

-- ---- doomed reservations

abbrev with_doom : Option Reservation → Option Reservation
with_doom o = option_map (λ (r : Reservation). record r { is_doomed = true }) o

doomed_is_not_live : (o : Option Reservation)
    → option_and_then (λ (r : Reservation). if is_live_reservation r then Some r else None) (with_doom o) ≡ None
doomed_is_not_live None = refl
doomed_is_not_live (Some r) = refl

doomed_covers_none : (o : Option Reservation) (memory : PointMemory) → extent_of_reservation (with_doom o) memory ≡ []
doomed_covers_none None memory = refl
doomed_covers_none (Some r) memory = refl

doomed_not_live : (o : Option Point) → live_reservation (doomed o) ≡ None
doomed_not_live None = refl
doomed_not_live (Some p) = doomed_is_not_live p.reservation

none_live : (points : List (Option Point)) (point : ℕ) → live_reservation (entry_at (map doomed points) point) ≡ None
none_live [] point = refl
none_live (p ∷ ps) zero = doomed_not_live p
none_live (p ∷ ps) (suc point) = none_live ps point

no_extents : (points : List (Option Point)) (memories : List PointMemory)
    → reserved_extents (map doomed points) (map without_buffer memories) ≡ []
no_extents [] memories = refl
no_extents (p ∷ ps) [] = refl
no_extents (None ∷ ps) (memory ∷ memories) = no_extents ps memories
no_extents (Some p ∷ ps) (memory ∷ memories) =
    ap (λ (rs : List Run). rs ++ reserved_extents (map doomed ps) (map without_buffer memories))
    (doomed_covers_none p.reservation (without_buffer memory))
    ∙ no_extents ps memories

-- the points that the model's flip leaves
pub no_reservation_is_live : (points : List (Option Point)) (memories : List PointMemory) → AreNoneLive (map doomed points)
    (map without_buffer memories)
no_reservation_is_live points memories = record {
  not_live = λ point r live. let e : None ≡ Some r = sym (none_live points point) ∙ live in absurd cc;
  extents = no_extents points memories;
}

-- ---- what stays

pub flip_moves_nothing : {F : Type 0}
    → (formats : List (Option (Policy F))) (chains : ChainsState) (what : Condemn) (points : PointsState) (x : Traced)
    → IsNothingMoved x.segs (at_flip formats chains what points x).segs
flip_moves_nothing formats chains what points x =
    record {
      words = flip_leaves (λ s. s.words) (λ s c r. refl) (λ s c. refl) formats chains what points x;
      blocks = flip_leaves (λ s. s.blocks) (λ s c r. refl) (λ s c. refl) formats chains what points x;
      marks = flip_leaves (λ s. s.marks) (λ s c r. refl) (λ s c. refl) formats chains what points x;
      grains = flip_leaves (λ s. s.grains) (λ s c r. refl) (λ s c. refl) formats chains what points x;
      limit = flip_leaves (λ s. s.limit) (λ s c r. refl) (λ s c. refl) formats chains what points x;
      summaries = flip_leaves (λ s. s.summaries) (λ s c r. refl) (λ s c. refl) formats chains what points x;
    }
