-- From checks and the name that is taken to the outcome of a call that makes a label.
use Rattle.std.proofs.Common.{◌≡◌, ℕ, Some, Ok, sym, subst}
use Rattle.mps_base.specs.declared.names.Name.{Name}
use Rattle.mps_names.specs.State.{Updates}
use Rattle.mps_names.specs.declared.names.Thing.TheVariants as thing
use Rattle.mps_heap_spec.specs.Labelling.{Interned, IsInterning, check_label}
use Rattle.mps_heap_spec.specs.State.{HeapState}

pub is_interned : {F : Type 0} {was h after : HeapState F} {name : Name} {number : ℕ} → was ≡ h → Ok tt ≡ check_label h name
    → number ≡ was.names.counts.labels → Updates was.names after.names name (Some (thing.Label number))
    → after ≡ record was { names = after.names } → IsInterning h name (Ok number) after
is_interned {F} {was} {h} {after} {name} {number} same passes number_is names state =
    subst (λ (x : HeapState F). Ok tt ≡ check_label x name → IsInterning x name (Ok number) after) same
    (λ p. Interned (sym p) (record { number_is = number_is; names = names; state = state })) passes
