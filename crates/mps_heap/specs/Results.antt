-- What is said of a result.
use Rattle.std.specs.Prelude.{◌≡◌, Option, IfNone, Result, Err}
use Rattle.mps_base.specs.declared.refusal.Refusal.{Refusal}
use Rattle.mps_base.specs.declared.refusal.Refusal.TheVariants as refusal

-- a call by keys is refused if they stand for nothing, and changes nothing
abbrev pub RefusesStale : {X A S : Type 0} → (found : Option X) → Result A Refusal → (before after : S) → Type 0
RefusesStale found result before after = IfNone found ((result ≡ Err refusal.BadName) × (after ≡ before))
