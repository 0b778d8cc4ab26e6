-- What is left of an input, and the end of it.
use Rattle.std.specs.Prelude.{◌≡◌, ℕ, ◌<◌, false, Option, IfSome, Result, Ok, Err, List, [], ◌++◌, length}
use Rattle.std.specs.Option.{option_map}
use Rattle.mps_desk.specs.Desk.{Outside}
use Rattle.mps_report.specs.declared.stop.Stop.{Stop}
use Rattle.mps_report.specs.declared.stop.Stop.TheVariants as stop
use Rattle.mps_log_reader.specs.Input.{Buffered}

-- what is left of the input: what is pending, and then what was not read yet
abbrev pub left_of : Outside → Buffered → Option (List ℕ)
left_of o b = option_map (λ rest. b.pending ++ rest) o.input

-- the end after the last record that can be counted
abbrev pub LastGives : {T E : Type 0} → (left : Option (List ℕ)) → Result T (Stop E) → Type 0
LastGives left (Ok value) = IfSome left (λ bytes. bytes ≡ [])
LastGives left (Err stop.TooLong) = IfSome left (λ bytes. 0 < length bytes)
LastGives left (Err stop.ReadFailed) = Unit {0}
LastGives left result = ⊥

-- the same of what is pending
abbrev pub EndGives : {T E : Type 0} → Buffered → Result T (Stop E) → Type 0
EndGives b (Ok value) = (b.pending ≡ []) × (b.failed ≡ false)
EndGives b (Err stop.TooLong) = 0 < length b.pending
EndGives b (Err stop.ReadFailed) = Unit {0}
EndGives b result = ⊥
