-- From what was found to the outcomes of a call that applies a transform.
use Rattle.std.proofs.Common.{◌≡◌, ◌≢◌, ◌∙◌, ℕ, ◌+◌, Bool, true, false, length, None, Ok, Err, sym, ap, subst, arith}
use Rattle.std.specs.Prelude.{not}
use Rattle.mps_base.specs.declared.names.Name.{Name}
use Rattle.mps_base.specs.declared.refusal.Refusal.{Refusal}
use Rattle.mps_base.specs.declared.refusal.Refusal.TheVariants as refusal
use Rattle.mps_buffer.specs.Points.{has_live_reservation}
use Rattle.mps_format.specs.Layout.{Layout}
use Rattle.mps_model.specs.Checked.{Checked, ◌>>=◌, ◌>>◌, refuse_when}
use Rattle.mps_names.specs.State.{Updates}
use Rattle.mps_neighbours.specs.Transforms.{TransformsState, new_address, without_transform}
use Rattle.mps_root.specs.State.{RootsState}
use Rattle.mps_seg.specs.Segs.{SegsState}
use Rattle.mps_xform.specs.Applying.{CanApply}
use Rattle.mps_xform.specs.Slots.{slots_after_apply}
use Rattle.mps_xform.specs.Summed.{AreBlocksSummed}
use Rattle.mps_heap_spec.specs.Finding.{transform_named}
use Rattle.mps_heap_spec.specs.State.{HeapState}
use Rattle.mps_heap_spec.specs.Transforming.{Applied, CanTransformFrom, IsApplying, KeptFromApplying, NotApplied, check_apply, is_blocked_by, is_parked, with_pools_applied, with_segs, with_transforms}

-- ---- checks

module _ {F : Type 0} (was h : HeapState F) (name : Name) (number : ℕ) (same : was ≡ h) (found : Ok number ≡ transform_named h name)
    (parked : is_parked was.arena ≡ true) where
  -- what is left to check of a transform that is found in a parked arena
  left_to_check : check_apply was name ≡ (refuse_when (has_live_reservation was.points) refusal.Open >> Ok number)
  left_to_check =
      let there : transform_named was name ≡ Ok number =
      ap (λ (x : HeapState F). transform_named x name) same ∙ sym found in
      ap (λ (x : Checked ℕ). x >>= (λ (n : ℕ). refuse_when (not (is_parked was.arena)) refusal.NotParked
      >> (refuse_when (has_live_reservation was.points) refusal.Open >> Ok n))) there
      ∙ ap (λ (b : Bool). refuse_when (not b) refusal.NotParked
      >> (refuse_when (has_live_reservation was.points) refusal.Open >> Ok number)) parked

  checked : check_apply h name ≡ (refuse_when (has_live_reservation was.points) refusal.Open >> Ok number)
  checked = ap (λ (x : HeapState F). check_apply x name) (sym same) ∙ left_to_check

  pub open_refused : has_live_reservation was.points ≡ true → Err refusal.Open ≡ check_apply h name
  open_refused live =
      sym (checked ∙ ap (λ (b : Bool). refuse_when b refusal.Open >> Ok number) live)

  pub may_apply : has_live_reservation was.points ≡ false → Ok number ≡ check_apply h name
  may_apply none =
      sym (checked ∙ ap (λ (b : Bool). refuse_when b refusal.Open >> Ok number) none)

-- ---- what another pool may have applied after one

pub still_can : {F : Type 0} {layout : F → Layout} {was h : HeapState F} {segs : SegsState} {t : TransformsState} {pool : ℕ} → was ≡ h
    → CanTransformFrom layout h pool
    → ((f : Layout) (other : ℕ) → CanApply f was.segs other → CanApply f segs other)
    → ((f : Layout) (other : ℕ) → other ≢ pool → AreBlocksSummed f was.segs other → AreBlocksSummed f segs other)
    → t ≡ was.beside.transforms
    → CanTransformFrom layout (with_segs (with_transforms was t) segs) (pool + 1)
still_can {F} {layout} {was} {h} {segs} {t} {pool} same can again summed unchanged =
    subst (λ (x : TransformsState). CanTransformFrom layout (with_segs (with_transforms was x) segs) (pool + 1)) (sym unchanged)
    (let could = subst (λ (x : HeapState F). CanTransformFrom layout x pool) (sym same) can in
    record {
      pools = λ number format has. again (layout format) number (could.pools number format has);
      summed = λ number format past has.
          summed (layout format) number (λ same. omega (arith, past, same))
          (could.summed number format (omega (arith, past)) has);
      aligned = could.aligned;
      slots = could.slots;
    })

-- ---- outcomes

pub not_applied : {F : Type 0} {layout : F → Layout} {h : HeapState F} {name : Name} {why : Refusal} → Err why ≡ check_apply h name
    → IsApplying layout h name (Err why) h
not_applied fails = NotApplied (sym fails)

module _ {F : Type 0} {layout : F → Layout} {was h : HeapState F} {name : Name} {number : ℕ} {t : TransformsState} {blocked : Bool}
    (same : was ≡ h) (passes : Ok number ≡ check_apply h name) (unchanged : t ≡ was.beside.transforms)
    (value : blocked ≡ is_blocked_by was number) where
  -- what is so of the state as it was is so of the state that a caller sees
  of_was : {result : Checked Bool} {after : HeapState F} → (check_apply was name ≡ Ok number → IsApplying layout was name result after)
      → IsApplying layout h name result after
  of_was {result} {after} f =
      subst (λ (x : HeapState F). IsApplying layout x name result after) same
      (f (ap (λ (x : HeapState F). check_apply x name) same ∙ sym passes))

  pub kept_from : blocked ≡ true → IsApplying layout h name (Ok false) (with_transforms was t)
  kept_from lies =
      of_was (λ e. subst (λ (x : TransformsState). IsApplying layout was name (Ok false) (with_transforms was x)) (sym unchanged)
      (KeptFromApplying e (sym value ∙ lies)))

  pub is_applied : {next mid after : HeapState F} {roots : RootsState} {t2 t3 : TransformsState} → blocked ≡ false
      → next ≡ with_segs (with_transforms was t) (with_pools_applied layout (new_address t number) was.pools (length was.pools) was.segs)
      → mid ≡ next → roots ≡ slots_after_apply (new_address mid.beside.transforms number) mid.roots → t2 ≡ mid.beside.transforms
      → t3 ≡ without_transform t2 number → Updates mid.names after.names name None
      → after ≡ record (with_transforms (record mid { roots = roots }) t3) { names = after.names }
      → IsApplying layout h name (Ok true) after
  is_applied {next} {mid} {after} {roots} {t2} {t3} free applied view slots same_transforms dropped names state =
      of_was (λ e. Applied e (sym value ∙ free) (record {
        names = subst (λ (x : HeapState F). Updates x.names after.names name None) mid_is names;
        state = state
            ∙ ap (λ (r : RootsState). record (with_transforms (record mid { roots = r }) t3) { names = after.names }) slots
            ∙ ap (λ (x : TransformsState).
            record (with_transforms (record mid { roots = slots_after_apply (new_address mid.beside.transforms number) mid.roots }) x)
            { names = after.names }) (dropped ∙ ap (λ (x : TransformsState). without_transform x number) same_transforms)
            ∙ ap (λ (x : HeapState F).
            record (with_transforms (record x { roots = slots_after_apply (new_address x.beside.transforms number) x.roots })
            (without_transform x.beside.transforms number)) { names = after.names }) mid_is;
      }))
    where
      mid_is : mid ≡ with_segs was
          (with_pools_applied layout (new_address was.beside.transforms number) was.pools (length was.pools) was.segs)
      mid_is =
          view ∙ applied
          ∙ ap (λ (x : TransformsState).
          with_segs (with_transforms was x) (with_pools_applied layout (new_address x number) was.pools (length was.pools) was.segs))
          unchanged
