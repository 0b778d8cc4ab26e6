-- What is made once the checks of a call have passed.
use Rattle.std.specs.Prelude.{ℕ, ◌≡◌, Result, Ok, Err}
use Rattle.mps_base.specs.declared.refusal.Refusal.{Refusal}
use Rattle.mps_base.specs.declared.refusal.Refusal.TheVariants as refusal
use Rattle.mps_heap_spec.specs.State.{HeapState}
use Rattle.mps_heap_spec.specs.Making.{IsUntouched}

-- something was made under a key, or there was no memory
abbrev pub IsMade : {F : Type 0} → (h : HeapState F) (Makes : ℕ → HeapState F → Type 0) → Result ℕ Refusal → HeapState F → Type 0
IsMade h Makes (Ok key) after = Makes key after
IsMade h Makes (Err why) after = (why ≡ refusal.OutOfMemory) × IsUntouched h after
