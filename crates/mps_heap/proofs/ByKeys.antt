-- What is right of a call by a name is right of the call by a key of that name.
use Rattle.std.proofs.Common.{◌≡◌, false, Option, Some, List, [], subst}
use Rattle.std.specs.Prelude.{IfNone, IfSome}
use Rattle.mps_base.specs.declared.moves.Move.{Move}
use Rattle.mps_laws.specs.Change.{makes_arena}
use Rattle.mps_format.specs.Layout.{Layout}
use Rattle.mps_model.specs.Answer.{Answer}
use Rattle.mps_model.specs.declared.call.Call.{Call}
use Rattle.mps_names.specs.Keys.{KeysState}
use Rattle.mps_heap_spec.specs.State.{HeapState}
use Rattle.mps_heap_spec.proofs.ByKeys.{not_stale, when_good}
use Rattle.mps_refinement.specs.RightMoving.{IsRightMoving}
use Rattle.mps_refinement.specs.RightStep.{IsRight}
use Rattle.mps_refinement.specs.StandsForSome.{StandsForSome}
use Rattle.mps_refinement.proofs.Worlds.Staying.{grains_stay}

module _ {F : Type 0} (layout : F → Layout) {h seen : HeapState F} (view : h ≡ seen) {X : Type 0} (found : KeysState → Option X) {x : X}
    (is : found h.names.keys ≡ Some x) where
  -- a key that is good isn't stale
  pub good : (P : Type 0) → IfNone (found seen.names.keys) P
  good P = subst (λ (v : HeapState F). IfNone (found v.names.keys) P) view (not_stale P is)

  module _ (c : X → Call) (answer : Answer) where
    pub read : IsRight layout h (c x) [] answer h → IfSome (found seen.names.keys) (λ at. IsRight layout seen (c at) [] answer seen)
    read right =
        subst (λ (v : HeapState F). IfSome (found v.names.keys) (λ at. IsRight layout v (c at) [] answer v)) view
        (when_good (λ at. IsRight layout h (c at) [] answer h) is right)

    pub written : (after : HeapState F) → IsRight layout h (c x) [] answer after
        → IfSome (found seen.names.keys) (λ at. IsRight layout seen (c at) [] answer after)
    written after right =
        subst (λ (v : HeapState F). IfSome (found v.names.keys) (λ at. IsRight layout v (c at) [] answer after)) view
        (when_good (λ at. IsRight layout h (c at) [] answer after) is right)

    pub moved : (before now : List Move) (after : HeapState F) → IsRightMoving layout h (c x) before now answer after
        → IfSome (found seen.names.keys) (λ at. IsRightMoving layout seen (c at) before now answer after)
    moved before now after right =
        subst (λ (v : HeapState F). IfSome (found v.names.keys) (λ at. IsRightMoving layout v (c at) before now answer after)) view
        (when_good (λ at. IsRightMoving layout h (c at) before now answer after) is right)

    -- the arena has as many grains
    pub grains : (moves : List Move) (after : HeapState F) → StandsForSome layout h → IsRight layout h (c x) moves answer after
        → makes_arena (c x) ≡ false → after.segs.grains ≡ seen.segs.grains
    grains moves after some right other =
        subst (λ (v : HeapState F). after.segs.grains ≡ v.segs.grains) view
        (grains_stay layout h after (c x) moves answer some right other)

-- the keys are those that were there
pub same_keys : {F : Type 0} {h seen : HeapState F} → h ≡ seen → (after : HeapState F) → after.names.keys ≡ h.names.keys
    → after.names.keys ≡ seen.names.keys
same_keys {F} view after same = subst (λ (v : HeapState F). after.names.keys ≡ v.names.keys) view same
