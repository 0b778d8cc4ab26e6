-- A heap that has a collection represents a world in which one runs, and one that has none represents a world at rest. What the collector
-- does is told of the heap and the world without their pairs of dependents.
use Rattle.std.proofs.Common.{◌≡◌, ◌∙◌, sym, subst, Some, None}
use Rattle.std.proofs.lemmas.Option.{none-some, same_Some}
use Rattle.mps_format.specs.Layout.{Layout}
use Rattle.mps_model.specs.World.{World}
use Rattle.mps_trace.specs.declared.running.Running.{Running as RunningState}
use Rattle.mps_abstract.specs.Collecting.{Collecting}
use Rattle.mps_heap_spec.specs.State.{HeapState}
use Rattle.mps_refinement.specs.Following.{unpaired}
use Rattle.mps_refinement.specs.StandsFor.{AreParts, CollectorState, IsInTime, Past, Rests, Runs, StandsFor, Time, collector_of, rests, runs}
use Rattle.mps_refinement.proofs.Following.Times.{unpaired_in_time}
use Rattle.mps_refinement.proofs.Following.WithoutPairs.{alone, parts_alone}
use Rattle.mps_refinement.proofs.Worlds.Known.{IsKnown, known_now, known_of}
use Rattle.mps_refinement.proofs.Worlds.LikeReached.{IsBare, bare_of, like_reached}

-- without its pairs a heap with this collection represents that world without them, in which it runs: that of a state of the abstract
-- collector
pub record IsRunning {F : Type 0} (layout : F → Layout) (h : HeapState F) (w : World) (run : RunningState) : Type 0 where
  pub past : Past
  pub collecting : Collecting
  pub world : collecting.world ≡ unpaired w
  pub parts : AreParts layout past (alone h) collecting.world
  pub bare : IsBare collecting.world
  pub runs : Runs past.time (collector_of h) collecting.world collecting
  pub same : runs.run ≡ run
  -- with them it represents the world
  pub parts_paired : AreParts layout past h w
  pub known_paired : IsKnown past.time w

-- a collector without a collection is at rest
pub rests_now : {t : Time} {s : CollectorState} {w : World} → IsInTime t s w → s.running ≡ None → Rests t s w
rests_now (rests rest) none = rest
rests_now (runs x r) none = absurd (none-some r.run (sym none ∙ r.running))

module _ {F : Type 0} (layout : F → Layout) (h : HeapState F) (w : World) (st : StandsFor layout h w) where
  pub running_now : (run : RunningState) → h.running ≡ Some run → IsRunning layout h w run
  running_now run is = of_time (unpaired_in_time st.past.time (collector_of h) w st.time)
    where
      there : (x : Collecting) → Runs st.past.time (collector_of h) (unpaired w) x → IsRunning layout h w run
      there x r =
          let runs_there : Runs st.past.time (collector_of h) x.world x =
          subst (λ v. Runs st.past.time (collector_of h) v x) (sym r.world) r in
          record {
            past = st.past;
            collecting = x;
            world = r.world;
            parts = subst (AreParts layout st.past (alone h)) (sym r.world) (parts_alone st.parts);
            bare = subst IsBare (sym r.world) (bare_of w (like_reached w st.reached));
            runs = runs_there;
            same = same_Some runs_there.run run (sym runs_there.running ∙ is);
            parts_paired = st.parts;
            known_paired = known_now st;
          }

      of_time : IsInTime st.past.time (collector_of h) (unpaired w) → IsRunning layout h w run
      of_time (rests rest) = absurd (none-some run (sym rest.not_running ∙ is))
      of_time (runs x r) = there x r

  pub resting_now : h.running ≡ None → Rests st.past.time (collector_of h) w
  resting_now none = rests_now st.time none

  -- the same without pairs
  pub rests_bare : h.running ≡ None → Rests st.past.time (collector_of h) (unpaired w)
  rests_bare none = rests_now (unpaired_in_time st.past.time (collector_of h) w st.time) none

  pub known_bare : IsKnown st.past.time (unpaired w)
  known_bare =
      let like = (bare_of w (like_reached w st.reached)).like in
      known_of st.past.time (collector_of h) (unpaired w) like.formed like.kept.held like.kept.layout like.kept.sound like.pools like.once
      (unpaired_in_time st.past.time (collector_of h) w st.time)
