-- What was put out: printed, or gathered to be printed.
use Rattle.std.specs.Prelude.{◌≡◌, ℕ, ◌⊎◌, Option, Result, Err, List, ◌++◌, take}
use Rattle.std.specs.Option.{option_map}
use Rattle.mps_desk.specs.Desk.{Outside, HasRisen}
use Rattle.mps_report.specs.declared.stop.Stop.{Stop}
use Rattle.mps_report.specs.declared.stop.Stop.TheVariants as stop

-- what was put out: what was printed, and then what was gathered
abbrev pub put_out : Outside → List ℕ → Option (List ℕ)
put_out o gathered = option_map (λ printed. printed ++ gathered) o.printed

-- one more text was put out
abbrev pub PutsOut : (before after : Option (List ℕ)) → (text : List ℕ) → Type 0
PutsOut before after text = after ≡ option_map (λ all. all ++ text) before

-- more was printed than before
abbrev pub Grows : (old new : Option (List ℕ)) → Type 0
Grows old new = (front : List ℕ) × (new ≡ option_map (λ before. before ++ front) old)

-- a prefix of what was gathered was printed
abbrev pub PutsPart : (old new : Option (List ℕ)) → (gathered : List ℕ) → Type 0
PutsPart old new gathered = (count : ℕ) × (new ≡ option_map (λ before. before ++ take count gathered) old)

-- a text was printed, or, where a write failed, a prefix of it
abbrev pub PrintsAsFar : (old new : Outside) → (text : List ℕ) → Type 0
PrintsAsFar old new text =
    (new.printed ≡ option_map (λ before. before ++ text) old.printed)
    ⊎ (HasRisen old.out_faults new.out_faults × PutsPart old.printed new.printed text)

-- an ending at which all that was put out is to be printed
abbrev pub IsToFlush : {T E : Type 0} → Result T (Stop E) → Type 0
IsToFlush (Err stop.ReadFailed) = ⊥
IsToFlush (Err stop.WriteFailed) = ⊥
IsToFlush ending = Unit {0}
