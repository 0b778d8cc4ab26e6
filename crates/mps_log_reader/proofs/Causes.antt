-- Runs that leave the log alone, one after the other, and the causes of their stops.
use Rattle.std.proofs.Common.{◌≡◌, true, Result, Ok, Err, refl, ◌∙◌, arith, inl, inr}
use Rattle.mps_desk.specs.Desk.{Outside}
use Rattle.mps_report.specs.declared.stop.Stop.{Stop}
use Rattle.mps_report.specs.declared.stop.Stop.TheVariants as stop
use Rattle.mps_log_reader.specs.Input.{Buffered}
use Rattle.mps_report.specs.Streams.{LeavesLogAlone}
use Rattle.mps_log_reader.specs.Causes.{IsFaulty, CauseFrom, IsCausedFrom, PrintsSafely, KeepsPrinting, WorksOnInput}
use Rattle.mps_report.proofs.Outside.{risen_later, risen_earlier}

pub runs-then : (a b c : Outside) → LeavesLogAlone a b → LeavesLogAlone b c → LeavesLogAlone a c
runs-then a b c e f = record {
  in_counted = omega (arith, e.in_counted, f.in_counted);
  out_counted = omega (arith, e.out_counted, f.out_counted);
  err_counted = omega (arith, e.err_counted, f.err_counted);
  files = f.files ∙ e.files;
  text = f.text ∙ e.text;
  logged = f.logged ∙ e.logged;
  log_faults = f.log_faults ∙ e.log_faults;
}

-- ---- causes

-- what is still to be read cannot have failed before
pub faulty_since : (a b c : Outside) (x y z : Buffered) → LeavesLogAlone a b → (y.failed ≡ true → IsFaulty a b x) → LeavesLogAlone b c
    → (z.failed ≡ true → IsFaulty b c y) → z.failed ≡ true → IsFaulty a c x
faulty_since a b c x y z r f s g failed = first (g failed)
  where
    earlier : IsFaulty a b x → IsFaulty a c x
    earlier (inl h) = inl h
    earlier (inr h) = inr (risen_later a.in_faults b.in_faults c.in_faults h s.in_counted)

    first : IsFaulty b c y → IsFaulty a c x
    first (inl h) = earlier (f h)
    first (inr h) = inr (risen_earlier a.in_faults b.in_faults c.in_faults r.in_counted h)

-- ---- work

cause_after : {E : Type 0} (a b c : Outside) (x y : Buffered) (why : Stop E) → LeavesLogAlone a b → (y.failed ≡ true → IsFaulty a b x)
    → LeavesLogAlone b c → CauseFrom b c y why → CauseFrom a c x why
cause_after a b c x y stop.ReadFailed r f s h = faulty_since a b c x y (record y { failed = true }) r f s (λ _. h) refl
cause_after a b c x y stop.WriteFailed r f s h = risen_earlier a.out_faults b.out_faults c.out_faults r.out_counted h
cause_after a b c x y stop.LogFailed r f s h = absurd h
cause_after a b c x y why r f s h = tt

caused_after : {E : Type 0} (T : Type 0) (a b c : Outside) (x y : Buffered) (ending : Result T (Stop E)) → LeavesLogAlone a b
    → (y.failed ≡ true → IsFaulty a b x) → LeavesLogAlone b c → IsCausedFrom b c y ending → IsCausedFrom a c x ending
caused_after T a b c x y (Ok value) r f s h = tt
caused_after T a b c x y (Err why) r f s h = cause_after a b c x y why r f s h

pub safely_then : (a b c : Outside) → PrintsSafely a b → PrintsSafely b c → PrintsSafely a c
safely_then a b c e f = record { steady = f.steady ∙ e.steady; written = λ none. f.written (e.written none) }

keeps_printing_after : {T E : Type 0} (a b c : Outside) (ending : Result T (Stop E)) → PrintsSafely a b
    → KeepsPrinting b c ending → KeepsPrinting a c ending
keeps_printing_after a b c (Ok value) e f = safely_then a b c e f
keeps_printing_after a b c (Err stop.ReadFailed) e f = tt
keeps_printing_after a b c (Err stop.WriteFailed) e f = tt
keeps_printing_after a b c (Err stop.LogFailed) e f = safely_then a b c e f
keeps_printing_after a b c (Err stop.TooLong) e f = safely_then a b c e f
keeps_printing_after a b c (Err stop.OutOfMemory) e f = safely_then a b c e f
keeps_printing_after a b c (Err (stop.Bad place)) e f = safely_then a b c e f

-- one piece of work after another
pub works-then : {T U E : Type 0} (a b c : Outside) (x y z : Buffered) (first : U) (ending : Result T (Stop E))
    → WorksOnInput {E = E} a b x y (Ok first) → WorksOnInput b c y z ending → WorksOnInput a c x z ending
works-then {T = T} a b c x y z first ending e f = record {
  runs = runs-then a b c e.runs f.runs;
  fault = faulty_since a b c x y z e.runs e.fault f.runs f.fault;
  cause = caused_after T a b c x y ending e.runs e.fault f.runs f.cause;
  asked = f.asked ∙ e.asked;
  steady = λ h.
      let later = f.steady h in
      let earlier = e.steady later.0 in
      (earlier.0, later.1 ∙ earlier.1);
  printing = keeps_printing_after a b c ending e.printing f.printing;
}

pub works_value : {T U E : Type 0} (a b : Outside) (x y : Buffered) (v : T) (u : U) → WorksOnInput {E = E} a b x y (Ok v)
    → WorksOnInput {E = E} a b x y (Ok u)
works_value a b x y v u e = record {
  runs = e.runs;
  fault = e.fault;
  cause = tt;
  asked = e.asked;
  steady = e.steady;
  printing = e.printing;
}
