-- From what was found to the outcomes of calls that make and drop a transform.
use Rattle.std.proofs.Common.{◌≡◌, ◌∙◌, ℕ, Some, None, Ok, Err, sym, ap, subst}
use Rattle.mps_base.specs.declared.names.Name.{Name}
use Rattle.mps_base.specs.declared.refusal.Refusal.{Refusal}
use Rattle.mps_names.specs.State.{NamesState, Updates}
use Rattle.mps_names.specs.declared.names.Thing.TheVariants as thing
use Rattle.mps_neighbours.specs.Transforms.{TransformsState, free_number, with_transform, without_transform}
use Rattle.mps_heap_spec.specs.Checked.{Checked, ◌>>=◌}
use Rattle.mps_heap_spec.specs.Finding.{transform_named}
use Rattle.mps_heap_spec.specs.Making.{Dropped, IsDropping, NotDropped}
use Rattle.mps_heap_spec.specs.State.{HeapState}
use Rattle.mps_heap_spec.specs.Transforming.{IsTransforming, Transformed, check_transform, transform_dropped, with_transforms}

pub is_transformed : {F : Type 0} {was h after : HeapState F} {name : Name} {number : ℕ} {now : TransformsState} → was ≡ h
    → Ok tt ≡ check_transform h name → free_number was.beside.transforms ≡ Some number
    → now ≡ with_transform was.beside.transforms number → Updates was.names after.names name (Some (thing.Transform number))
    → after ≡ record (with_transforms was now) { names = after.names } → IsTransforming h name (Ok tt) after
is_transformed {F} {was} {h} {after} {name} {number} {now} same passes number_is made names state =
    subst (λ (x : HeapState F). Ok tt ≡ check_transform x name → IsTransforming x name (Ok tt) after) same
    (λ p. Transformed (sym p) (record {
      number_is = number_is;
      names = names;
      state = state ∙ ap (λ t. record (with_transforms was t) { names = after.names }) made;
    })) passes

-- the heap without a transform
abbrev rest_of : {F : Type 0} → HeapState F → ℕ → Checked (NamesState → HeapState F)
rest_of h number = Ok (λ names. record (with_transforms h (without_transform h.beside.transforms number)) { names = names })

pub no_transform : {F : Type 0} (h : HeapState F) (name : Name) {why : Refusal} → Err why ≡ transform_named h name
    → IsDropping h name (transform_dropped h name) (Err why) h
no_transform h name fails = NotDropped (ap (λ x. x >>= rest_of h) (sym fails))

pub a_transform : {F : Type 0} {was h after : HeapState F} {name : Name} {number : ℕ} {now : TransformsState} → was ≡ h
    → Ok number ≡ transform_named h name → now ≡ without_transform was.beside.transforms number → Updates was.names after.names name None
    → after ≡ record (with_transforms was now) { names = after.names } → IsDropping h name (transform_dropped h name) (Ok tt) after
a_transform {F} {was} {h} {after} {name} {number} {now} same found dropped names state =
    subst (λ (x : HeapState F). Ok number ≡ transform_named x name → IsDropping x name (transform_dropped x name) (Ok tt) after) same
    (λ p. Dropped (ap (λ x. x >>= rest_of was) (sym p)) names
    (state ∙ ap (λ t. record (with_transforms was t) { names = after.names }) dropped)) found
