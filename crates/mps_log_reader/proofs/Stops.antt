-- Stops that are handed on.
use Rattle.std.proofs.Common.{◌≡◌, ℕ, true, false, Option, List, Result, Err, refl, sym, ap, subst, ◌∙◌, arith}
use Rattle.mps_report.specs.declared.stop.Stop.{Stop}
use Rattle.mps_report.specs.declared.stop.Stop.TheVariants as stop
use Rattle.mps_report.specs.Reports.{status_of}
use Rattle.mps_log_reader.specs.Left.{LastGives}
use Rattle.mps_log_reader.specs.Ending.{is_input_verdict}

-- a stop in place of a value of a type
abbrev pub stopped : {E : Type 0} (T : Type 0) → Stop E → Result T (Stop E)
stopped T why = Err why

pub err_is : {E : Type 0} (T : Type 0) (x y : Stop E) → stopped T x ≡ stopped T y → x ≡ y
err_is T x y e = cc

-- a stop that was handed on
pub handed_on : {E : Type 0} (T U : Type 0) (r : Result T (Stop E)) (y why other : Stop E) → r ≡ stopped T y → y ≡ why
    → r ≡ stopped T other → stopped U why ≡ stopped U other
handed_on T U r y why other e f g = ap (stopped U) (sym f ∙ err_is T y other (sym e ∙ g))

pub not_at_the_end : {E : Type 0} (P : Type 0) (left : Option (List ℕ)) (result : Result (Unit {0}) (Stop E)) → LastGives left result
    → result ≡ Err stop.WriteFailed → P
not_at_the_end {E = E} P left result h e = absurd (subst (λ (r : Result (Unit {0}) (Stop E)). LastGives left r) e h)

pub is_read_failed : {E : Type 0} (why : Stop E) → status_of why ≡ 3 → why ≡ stop.ReadFailed
is_read_failed stop.ReadFailed e = refl
is_read_failed why e = absurd (omega (arith, e))

pub is_write_failed : {E : Type 0} (why : Stop E) → status_of why ≡ 4 → why ≡ stop.WriteFailed
is_write_failed stop.WriteFailed e = refl
is_write_failed why e = absurd (omega (arith, e))

pub is_out_of_memory : {E : Type 0} (why : Stop E) → status_of why ≡ 8 → why ≡ stop.OutOfMemory
is_out_of_memory stop.OutOfMemory e = refl
is_out_of_memory why e = absurd (omega (arith, e))

-- a verdict on the input is no other status
pub other_than_verdict : (status other : ℕ) → status ≡ other → is_input_verdict status ≡ true → is_input_verdict other ≡ false → ⊥
other_than_verdict status other is verdict none = absurd (let e : true ≡ false = sym verdict ∙ ap is_input_verdict is ∙ none in cc)
