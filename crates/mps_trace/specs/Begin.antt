-- How a collection begins.
use Rattle.std.specs.Prelude.{ℕ, ◌*◌, ◌+◌, ◌≡◌, ◌<◌, Option, Some, None, List, [], ◌∷◌, length, refl}
use Rattle.mps_base.specs.Address.{words_of_grain}
use Rattle.mps_base.specs.Run.{IsAscending}
use Rattle.mps_base.specs.Trail.{Moves}
use Rattle.mps_buffer.specs.Points.{PointsState, AreReserved}
use Rattle.mps_final.specs.State.{FinalsState}
use Rattle.mps_format.specs.Layout.{Layout}
use Rattle.mps_gen.specs.State.{ChainsState}
use Rattle.mps_root.specs.State.{RootsState}
use Rattle.mps_root.specs.declared.roots.Stored.{Stored}
use Rattle.mps_seg.specs.Segs.{SegsState, new_segments}
use Rattle.mps_trace.specs.Condemned.{AreInOrder}
use Rattle.mps_trace.specs.Flip.{condemned_of, at_flip, nailed_by_all, remembered_of, greying_each}
use Rattle.mps_trace.specs.Roots.{FixesTables, FixesMessages, AreTablesReady, AreMessagesReady}
use Rattle.mps_trace.specs.Trace.{TraceState, Traced, traced}
use Rattle.mps_trace.specs.Unit.{traced_after_end}
use Rattle.mps_trace.specs.declared.condemn.Condemn.{Condemn}
use Rattle.mps_trace.specs.declared.condemn.Condemn.TheVariants.{Everything}
use Rattle.mps_trace.specs.declared.running.Running.{Running}
use Rattle.mps_trace.specs.declared.running.Band.TheVariants.{Exact}
use Rattle.mps_format.specs.declared.pool.Policy.{Policy}

-- the blocks that words of an area pin are nailed
abbrev pub nailed_by_area : {F : Type 0} → (formats : List (Option (Policy F))) → Option (List Stored) → SegsState → SegsState
nailed_by_area formats None s = s
nailed_by_area formats (Some words) s = nailed_by_all formats words s

-- the blocks that words of these areas pin are nailed, area by area
abbrev pub nailed_by_areas : {F : Type 0} → (formats : List (Option (Policy F))) → List (Option (List Stored)) → SegsState → SegsState
nailed_by_areas formats [] s = s
nailed_by_areas formats (a ∷ areas) s = nailed_by_areas formats areas (nailed_by_area formats a s)

-- what a flip leaves, with the blocks nailed that area words pin
abbrev pub nailed_at_flip : {F : Type 0} → (formats : List (Option (Policy F))) → ChainsState → Condemn → PointsState → RootsState
    → Traced → Traced
nailed_at_flip formats chains what points roots x = record (at_flip formats chains what points x) {
  segs = nailed_by_areas formats roots.areas (at_flip formats chains what points x).segs;
}

-- and then the blocks are grey that aren't condemned and may refer to what is
abbrev pub marked_at_flip : {F : Type 0} → (formats : List (Option (Policy F))) → ChainsState → Condemn → PointsState → RootsState
    → Traced → Traced
marked_at_flip formats chains what points roots x = record (nailed_at_flip formats chains what points roots x) {
  segs = greying_each (remembered_of formats chains what x.segs) (nailed_at_flip formats chains what points roots x).segs;
}

-- a collection begins: after the flip, slots and then messages are fixed, and no unit is done
pub record Begins {F : Type 0} (layout : F → Layout) (formats : List (Option (Policy F))) (chains : ChainsState) (what : Condemn)
    (points : PointsState) (roots : RootsState) (finals : FinalsState) (x : Traced) (roots' : RootsState) (finals' : FinalsState)
    (z : Traced) (run : Running) : Type 0 where
  pub some : 0 < length (condemned_of formats chains what x.segs.segments)
  pub before : Traced
  pub slots : FixesTables layout formats chains roots (marked_at_flip formats chains what points roots x) (length roots.order) roots'
      before
  pub messages : FixesMessages layout formats chains finals before (length finals.messages) finals' z
  pub run_is : run ≡ record { band = Exact; cursor = record { 0 = 0 }; next = 0; registered_before = length finals.registered }

-- nothing is condemned: a collection is over at once
pub record EndsAtOnce {F : Type 0} (formats : List (Option (Policy F))) (chains : ChainsState) (what : Condemn) (points : PointsState)
    (roots : RootsState) (finals : FinalsState) (x : Traced) (roots' : RootsState) (finals' : FinalsState) (z : Traced) : Type 0 where
  pub none : length (condemned_of formats chains what x.segs.segments) ≡ 0
  pub roots_are : roots' ≡ roots
  pub finals_are : finals' ≡ finals
  pub over : z ≡ traced_after_end (at_flip formats chains what points x)

-- slots can be fixed after a flip, and messages after them
pub record CanFixRoots {F : Type 0} (layout : F → Layout) (t : TraceState F) (roots : RootsState) (finals : FinalsState) (x : Traced)
    : Type 0 where
  pub slots : AreTablesReady layout (record t { amc = x.amc }) x.segs x.moves roots
  pub messages : (roots' : RootsState) (y : Traced) → FixesTables layout t.formats t.chains roots x (length roots.order) roots' y
      → AreMessagesReady layout (record t { amc = y.amc }) y.segs y.moves finals

-- a full collection can begin
pub record CanBegin {F : Type 0} (layout : F → Layout) (t : TraceState F) (points : PointsState) (roots : RootsState)
    (finals : FinalsState) (s : SegsState) (m : Moves) : Type 0 where
  pub ordered : AreInOrder s
  pub blocks : IsAscending 0 (words_of_grain * (s.grains + 1)) s.blocks
  pub reserved : AreReserved points.flips points.points s
  -- the flip and the end are logged, if nothing is condemned
  pub fits : 1 < m.spare
  pub roots_ready : CanFixRoots layout t roots finals (marked_at_flip t.formats t.chains Everything points roots (traced t s m))

-- ---- vectors

pub no_area_nails_nothing : nailed_by_areas {F = ℕ} [] (None ∷ Some [] ∷ []) (new_segments 1 1) ≡ new_segments 1 1
no_area_nails_nothing = refl
