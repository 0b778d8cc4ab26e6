-- What a collection of everything begins from: a heap that represents a world at rest, in which no object has a dependent.
use Rattle.std.proofs.Common.{◌≡◌, None, subst, sym}
use Rattle.mps_format.specs.Layout.{Layout}
use Rattle.mps_model.specs.World.{World}
use Rattle.mps_heap_spec.specs.State.{HeapState}
use Rattle.mps_refinement.specs.Following.{unpaired}
use Rattle.mps_refinement.specs.StandsFor.{AreParts, IsInTime, Past, Rests, Time, collector_of}
use Rattle.mps_refinement.proofs.Following.Times.{unpaired_in_time}
use Rattle.mps_refinement.proofs.Following.WithoutPairs.{alone, parts_alone}
use Rattle.mps_refinement.proofs.Worlds.Known.{IsKnown, known_of}
use Rattle.mps_refinement.proofs.Worlds.LikeReached.{IsBare, IsLikeReached, bare_of}
use Rattle.mps_refinement.proofs.Worlds.RunningNow.{rests_now}
use Rattle.mps_refinement.proofs.Worlds.Steps.{HasParts}

pub record HasFinished {F : Type 0} (layout : F → Layout) (h : HeapState F) (w : World) : Type 0 where
  pub past : Past
  pub parts : AreParts layout past h w
  pub rest : Rests past.time (collector_of h) w
  pub known : IsKnown past.time w
  pub bare : IsBare w

-- so does a heap at rest without its pairs
pub finished_alone : {F : Type 0} {layout : F → Layout} {h : HeapState F} {t : Time} (w : World) → HasParts layout t h w
    → IsInTime t (collector_of h) w → h.running ≡ None → IsLikeReached w → HasFinished layout (alone h) (unpaired w)
finished_alone {h = h} w has now none like =
    let bare = bare_of w like in
    let l = bare.like in
    let there = unpaired_in_time has.past.time (collector_of h) w (subst (λ u. IsInTime u (collector_of h) w) (sym has.timed) now) in
    record {
      past = has.past;
      parts = parts_alone has.parts;
      rest = rests_now there none;
      known = known_of has.past.time (collector_of h) (unpaired w) l.formed l.kept.held l.kept.layout l.kept.sound l.pools l.once there;
      bare = bare;
    }
