-- The arena of a heap has as many grains after a call that makes something, or is out of memory.
use Rattle.std.proofs.Common.{◌≡◌, ◌≢◌, ◌∙◌, ℕ, false, refl, sym, ap, [], Option, Result, Ok, Err}
use Rattle.mps_base.specs.declared.names.Name.{Name}
use Rattle.mps_base.specs.declared.refusal.Refusal.{Refusal}
use Rattle.mps_base.specs.declared.refusal.Refusal.TheVariants as refusal
use Rattle.mps_laws.specs.Change.{makes_arena}
use Rattle.mps_format.specs.Layout.{Layout}
use Rattle.mps_format.specs.declared.pool.Pool.{Pool}
use Rattle.mps_model.specs.declared.call.Call.{Call}
use Rattle.mps_model.specs.Checked.{Checked}
use Rattle.mps_heap_spec.specs.Making.{IsMaking, IsUntouched, Refused, OutOfMemory, Made, MakesPool, MakesPoolOn}
use Rattle.mps_heap_spec.specs.State.{HeapState}
use Rattle.mps_refinement.specs.Making.{IsRightMaking, answer_of_making}
use Rattle.mps_refinement.specs.StandsForSome.{StandsForSome}
use Rattle.mps_refinement.proofs.Worlds.Staying.{grains_stay, one_world}

module _ {F : Type 0} (layout : F → Layout) where
  pub making_grains_stay : {A : Type 0} (h after : HeapState F) (c : Call) (result : Result A Refusal) → StandsForSome layout h
      → IsRightMaking layout h c result after → makes_arena c ≡ false → after.segs.grains ≡ h.segs.grains
  making_grains_stay {A} h after c result some right other = of_result result refl
    where
      answered : result ≢ Err refusal.OutOfMemory → after.segs.grains ≡ h.segs.grains
      answered there = grains_stay layout h after c [] (answer_of_making result) some (right.answered there) other

      of_result : (r : Result A Refusal) → result ≡ r → after.segs.grains ≡ h.segs.grains
      of_result (Ok a) is = answered (λ e. absurd (let f : Ok a ≡ Err refusal.OutOfMemory = sym is ∙ e in absurd cc))
      of_result (Err refusal.OutOfMemory) is =
          let s = one_world layout h some in
          (right.out_of_memory is s.0 s.1).parts.grains ∙ sym s.1.parts.grains
      of_result (Err _) is = answered (λ e. absurd (let f = sym is ∙ e in absurd cc))

module _ {F : Type 0} {h : HeapState F} where
  same_grains : {x : HeapState F} → IsUntouched h x → x.segs.grains ≡ h.segs.grains
  same_grains untouched = ap (λ (y : HeapState F). y.segs.grains) untouched.state

module _ {F : Type 0} {h : HeapState F} {name : Name} {p : Pool F} where
  made_grains : {chain : Option ℕ} {number : ℕ} {x : HeapState F} → MakesPool h name p chain number x → x.segs.grains ≡ h.segs.grains
  made_grains makes = ap (λ (y : HeapState F). y.segs.grains) makes.state

  pub pool_grains_stay : {checks : Checked (Unit {0})} {chain : Option ℕ} {result : Result ℕ Refusal} {after : HeapState F}
      → IsMaking h checks (MakesPool h name p chain) result after → after.segs.grains ≡ h.segs.grains
  pool_grains_stay (Refused {after = x} {why = why} e untouched) = same_grains untouched
  pool_grains_stay (OutOfMemory {after = x} e untouched) = same_grains untouched
  pool_grains_stay (Made {after = x} {key = key} e makes) = made_grains makes

  pub pool_on_chain_grains_stay : {checks : Checked (Unit {0})} {chain : Name} {result : Result ℕ Refusal} {after : HeapState F}
      → IsMaking h checks (MakesPoolOn h name chain p) result after → after.segs.grains ≡ h.segs.grains
  pool_on_chain_grains_stay (Refused {after = x} {why = why} e untouched) = same_grains untouched
  pool_on_chain_grains_stay (OutOfMemory {after = x} e untouched) = same_grains untouched
  pool_on_chain_grains_stay (Made {after = x} {key = key} e makes) = made_grains makes.makes
