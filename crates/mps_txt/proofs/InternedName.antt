-- What a record does to the names.
use Rattle.std.proofs.Common.{◌≡◌, ℕ, Bool, true, if◌then◌else◌, Some, None, List, ◌++◌, length, slice_index, eq-eqb, ap, ◌∙◌, refl}
use Rattle.std.specs.Bool.{◌==◌}
use Rattle.mps_base.specs.Record.{number_bytes}
use Rattle.mps_event.specs.declared.event.Event.TheVariants.{Intern}
use Rattle.mps_event.specs.Name.{name_in, interned_bytes}
use Rattle.mps_txt.specs.Labels.{Naming, after_event, with_name}

taken : {T : Type 0} (test : Bool) (x y : T) → test ≡ true → y ≡ x → (if test then Some x else None) ≡ Some y
taken test x y holds y-is = rw (holds, y-is) refl

pub interned : (fields : List ℕ) (old new : Naming) (name : List ℕ) → slice_index fields 0 ≡ length old.names
    → name ≡ number_bytes 8 (slice_index fields 1) ++ number_bytes 8 (slice_index fields 2) → new ≡ with_name old (name_in name)
    → after_event Intern fields old ≡ Some new
interned fields old new name id name-is new-is =
    taken (slice_index fields 0 == length old.names) (with_name old (name_in (interned_bytes fields))) new
    (eq-eqb (slice_index fields 0) (length old.names) id)
    (new-is ∙ ap (λ (x : List ℕ). with_name old (name_in x)) name-is)
