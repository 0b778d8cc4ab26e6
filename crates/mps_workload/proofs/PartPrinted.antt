-- What was printed where a write failed: a prefix of a text.
use Rattle.std.proofs.Common.{◌≡◌, ℕ, zero, suc, Result, Ok, Err, ◌+◌, List, [], ◌∷◌, ◌++◌, length, take, refl, sym, ap, subst, ◌∙◌, append_assoc}
use Rattle.std.specs.Prelude.{OnErr}
use Rattle.std.proofs.Math.Seq.{take-append-add}
use Rattle.mps_desk.specs.Desk.{Outside}
use Rattle.mps_report.specs.Streams.{Prints, PrintsPart, Gathers, appended}
use Rattle.mps_report.proofs.Outside.{part_after_front}
use Rattle.mps_report.proofs.Gathering.{IsGathered, joined}

-- a prefix of a text is one of a longer text
prefix_of_longer : (text more : List ℕ) (n : ℕ) → (m : ℕ) × (take n text ≡ take m (text ++ more))
prefix_of_longer [] more zero = (0, refl)
prefix_of_longer [] more (suc n) = (0, refl)
prefix_of_longer (x ∷ xs) more zero = (0, refl)
prefix_of_longer (x ∷ xs) more (suc n) =
    let front = prefix_of_longer xs more n in
    (suc front.0, ap (λ (t : List ℕ). x ∷ t) front.1)

part_of_longer : (a b : Outside) (text more : List ℕ) → PrintsPart a b text → PrintsPart a b (text ++ more)
part_of_longer a b text more p =
    let front = prefix_of_longer text more p.count in
    record {
      count = front.0;
      printed = p.printed ∙ ap (appended a.printed) front.1;
      counted = p.counted;
      fault = p.fault;
      others = p.others;
    }

part_after : (a b c : Outside) (front text : List ℕ) → Prints a b front → PrintsPart b c text → PrintsPart a c (front ++ text)
part_after a b c front text before p =
    part_after_front a b c front text (front ++ text) (length front + p.count) before p (sym (take-append-add front text p.count))

-- a write failed after what was printed of what was gathered
pub gathers_failed : (a b c : Outside) (x y text : List ℕ) → Gathers a b x y text → PrintsPart b c y → PrintsPart a c (x ++ text)
gathers_failed a b c x y text g p = subst (λ (t : List ℕ). PrintsPart a c t) (sym g.same) (part_after a b c g.front y g.printed p)

-- the same before all lines were gathered
pub gathered_failed : (a b c : Outside) (x y : List ℕ) (all left : List (List ℕ)) → IsGathered a b x y all left → PrintsPart b c y
    → PrintsPart a c (x ++ joined all)
gathered_failed a b c x y all left e p =
    subst (λ (t : List ℕ). PrintsPart a c t)
    (append_assoc x e.text (joined left) ∙ sym (ap (λ (t : List ℕ). x ++ t) e.lines))
    (part_of_longer a c (x ++ e.text) (joined left) (gathers_failed a b c x y e.text e.gathers p))

-- what holds holds at an error
pub at_an_error : {T E : Type 0} (r : Result T E) (P : Type 0) → P → OnErr r P
at_an_error (Ok v) P h = tt
at_an_error (Err e) P h = h

-- the same after all lines, where nothing was gathered before them
pub all_failed : {T E : Type 0} (r : Result T E) (a b c : Outside) (x y text : List ℕ) → x ≡ [] → Gathers a b x y text
    → OnErr r (PrintsPart b c y) → OnErr r (PrintsPart a c text)
all_failed (Ok v) a b c x y text empty g p = tt
all_failed (Err e) a b c x y text empty g p =
    subst (λ (t : List ℕ). PrintsPart a c t) (ap (λ (t : List ℕ). t ++ text) empty) (gathers_failed a b c x y text g p)
