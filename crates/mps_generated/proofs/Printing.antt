-- Two answers printed one after the other, and then written.
use Rattle.std.proofs.Common.{◌≡◌, ◌⊎◌, ℕ, ◌+◌, ◌++◌, Ok, Err, List, length, take, min, sym, ◌∙◌, ap, arith, inl, inr}
use Rattle.std.proofs.Math.Seq.{take-append-add, take-length}
use Rattle.std.proofs.lemmas.List.{take-append-le, take_min}
use Rattle.std.specs.Prelude.{IfErr}
use Rattle.mps_desk.specs.Desk.{Outside}
use Rattle.mps_report.specs.Streams.{appended}
use Rattle.mps_report.specs.declared.stop.Stop.{Stop}
use Rattle.mps_report.specs.declared.stop.Stop.TheVariants as stop
use Rattle.mps_report.proofs.Appended.{appended_both}
use Rattle.mps_run.specs.declared.bad_script_line.BadScriptLine.{BadScriptLine}
use Rattle.mps_run.specs.Ending.{Ending}
use Rattle.mps_run.specs.Running.{PrintsSomeAnswer}
use Rattle.mps_generated.specs.Printing.{PrintsOrFails}

blamed : (why : Stop BadScriptLine) → (let ends : Ending = Err why in (ends ≡ Err stop.WriteFailed) ⊎ (ends ≡ Err stop.LogFailed))
    → (why ≡ stop.WriteFailed) ⊎ (why ≡ stop.LogFailed)
blamed why (inl is) = inl (let ends : Ending = Err why in let same : ends ≡ Err stop.WriteFailed = is in cc)
blamed why (inr is) = inr (let ends : Ending = Err why in let same : ends ≡ Err stop.LogFailed = is in cc)

-- the first was printed only in part
pub first_cut : (first second : List ℕ) (why : Stop BadScriptLine) (a b : Outside) → PrintsSomeAnswer first why a b → b.logged ≡ a.logged
    → PrintsOrFails (first ++ second) (Err why) a b
first_cut first second why a b some logged =
    let count = min some.count (length first) in
    let front : take count (first ++ second) ≡ take some.count first =
    take-append-le count first second (omega arith) ∙ take_min some.count first in (
      record {
        count = count;
        printed = some.printed ∙ ap (appended a.printed) (sym front);
        blames = blamed why some.stops.blames;
      },
      logged,
    )

-- the second was
pub second_cut : (first second : List ℕ) (why : Stop BadScriptLine) (a b c : Outside) → b.printed ≡ appended a.printed first
    → b.logged ≡ a.logged → PrintsSomeAnswer second why b c → c.logged ≡ b.logged → PrintsOrFails (first ++ second) (Err why) a c
second_cut first second why a b c printed before some logged = (
  record {
    count = length first + some.count;
    printed = appended_both first (take some.count second) a.printed b.printed c.printed printed some.printed
        ∙ ap (appended a.printed) (sym (take-append-add first second some.count));
    blames = blamed why some.stops.blames;
  },
  logged ∙ before,
)

-- both were printed; then what waits was written, or wasn't
pub both_printed : (first second : List ℕ) (a b c d : Outside) → b.printed ≡ appended a.printed first → b.logged ≡ a.logged
    → c.printed ≡ appended b.printed second → c.logged ≡ b.logged → d.printed ≡ c.printed → d.logged ≡ c.logged → (ends : Ending)
    → IfErr ends (λ why. (why ≡ stop.LogFailed) ⊎ (why ≡ stop.WriteFailed)) → PrintsOrFails (first ++ second) ends a d
both_printed first second a b c d printed logged printed' logged' same same' (Ok done) failed =
    (same ∙ appended_both first second a.printed b.printed c.printed printed printed', same' ∙ (logged' ∙ logged))
both_printed first second a b c d printed logged printed' logged' same same' (Err why) failed = (
  record {
    count = length (first ++ second);
    printed = same ∙ (appended_both first second a.printed b.printed c.printed printed printed'
        ∙ ap (appended a.printed) (sym (take-length (first ++ second))));
    blames = turned why failed;
  },
  same' ∙ (logged' ∙ logged),
)
  where
    turned : (why : Stop BadScriptLine) → (why ≡ stop.LogFailed) ⊎ (why ≡ stop.WriteFailed)
        → (why ≡ stop.WriteFailed) ⊎ (why ≡ stop.LogFailed)
    turned why (inl is) = inr is
    turned why (inr is) = inl is
