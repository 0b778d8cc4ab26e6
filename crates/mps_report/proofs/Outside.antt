-- What is printed and reported piece by piece.
use Rattle.std.proofs.Common.{◌≡◌, ℕ, ◌+◌, ◌-◌, ◌≤◌, List, [], ◌++◌, length, take, drop, refl, sym, ap, subst, ◌∙◌, arith, inl, inr}
use Rattle.std.specs.Option.{option_map}
use Rattle.std.proofs.lemmas.List.{take_all, take_rest}
use Rattle.std.proofs.Math.Seq.{take-add}
use Rattle.mps_desk.specs.Desk.{Outside, HasRisen, OnlyPrints, OnlyReports, added}
use Rattle.mps_report.specs.Streams.{Prints, PrintsPart}
use Rattle.mps_report.proofs.Appended.{appended_empty, appended_both}

-- ---- counts

pub risen_later : (a b c : ℕ) → HasRisen a b → b ≤ c → HasRisen a c
risen_later a b c (inl up) le = inl (omega arith)
risen_later a b c (inr last) le = inr (omega arith)

pub risen_earlier : (a b c : ℕ) → a ≤ b → HasRisen b c → HasRisen a c
risen_earlier a b c le (inl up) = inl (omega arith)
risen_earlier a b c le (inr last) = inr last

-- ---- printing

prints_only-same : (o : Outside) → OnlyPrints o o
prints_only-same o = record {
  files = refl;
  text = refl;
  input = refl;
  in_faults = refl;
  asked = refl;
  logged = refl;
  log_faults = refl;
  reported = refl;
  err_faults = refl;
  log_waits = λ e. e;
}

pub prints_only-then : (a b c : Outside) → OnlyPrints a b → OnlyPrints b c → OnlyPrints a c
prints_only-then a b c e f = record {
  files = f.files ∙ e.files;
  text = f.text ∙ e.text;
  asked = f.asked ∙ e.asked;
  input = f.input ∙ e.input;
  in_faults = f.in_faults ∙ e.in_faults;
  logged = f.logged ∙ e.logged;
  log_faults = f.log_faults ∙ e.log_faults;
  reported = f.reported ∙ e.reported;
  err_faults = f.err_faults ∙ e.err_faults;
  log_waits = λ w. e.log_waits (f.log_waits w);
}

pub prints-none : (o : Outside) → Prints o o []
prints-none o = record { printed = appended_empty o.printed; steady = refl; others = prints_only-same o }

pub prints-then : (a b c : Outside) (x y : List ℕ) → Prints a b x → Prints b c y → Prints a c (x ++ y)
prints-then a b c x y e f = record {
  printed = appended_both x y a.printed b.printed c.printed e.printed f.printed;
  steady = f.steady ∙ e.steady;
  others = prints_only-then a b c e.others f.others;
}

pub prints-as : (a b : Outside) (x y : List ℕ) → x ≡ y → Prints a b x → Prints a b y
prints-as a b x y e p = subst (λ (z : List ℕ). Prints a b z) e p

-- one more piece of the bytes was taken
pub prints_more : (a b c : Outside) (bytes : List ℕ) (at count : ℕ) → Prints a b (take at bytes)
    → c.printed ≡ added b.printed (take (length bytes - at) (drop at bytes)) count → c.out_faults ≡ b.out_faults → OnlyPrints b c
    → Prints a c (take (at + count) bytes)
prints_more a b c bytes at count before printed steady others =
    let piece : Prints b c (take count (take (length bytes - at) (drop at bytes))) =
    record { printed = printed; steady = steady; others = others } in
    let text : take at bytes ++ take count (take (length bytes - at) (drop at bytes)) ≡ take (at + count) bytes =
    ap (λ (x : List ℕ). take at bytes ++ take count x) (take_rest bytes at) ∙ sym (take-add at count bytes) in
    prints-as a c _ _ text (prints-then a b c (take at bytes) _ before piece)

-- a fault after a prefix of the bytes was printed
pub part_printed : (a b c : Outside) (bytes : List ℕ) (at : ℕ) → Prints a b (take at bytes) → c.printed ≡ b.printed
    → b.out_faults ≤ c.out_faults → OnlyPrints b c
    → HasRisen b.out_faults c.out_faults → PrintsPart a c bytes
part_printed a b c bytes at before printed counted others fault = record {
  count = at;
  printed = printed ∙ before.printed;
  counted = omega (arith, before.steady, counted);
  fault = risen_earlier a.out_faults b.out_faults c.out_faults (omega (arith, before.steady)) fault;
  others = prints_only-then a b c before.others others;
}

-- some of a text was printed, and of the rest a prefix
pub part_after_front : (a b c : Outside) (front text all : List ℕ) (n : ℕ) → Prints a b front → (p : PrintsPart b c text)
    → front ++ take p.count text ≡ take n all → PrintsPart a c all
part_after_front a b c front text all n before p same = record {
  count = n;
  printed = appended_both front (take p.count text) a.printed b.printed c.printed before.printed p.printed
      ∙ ap (λ (x : List ℕ). option_map (λ known. known ++ x) a.printed) same;
  counted = omega (arith, before.steady, p.counted);
  fault = risen_earlier a.out_faults b.out_faults c.out_faults (omega (arith, before.steady)) p.fault;
  others = prints_only-then a b c before.others p.others;
}

-- all was printed, and then what waited was written
pub settled_all : (a b c : Outside) (text : List ℕ) → Prints a b text → c.printed ≡ b.printed → c.out_faults ≡ b.out_faults
    → OnlyPrints b c → Prints a c text
settled_all a b c text before printed steady others = record {
  printed = printed ∙ before.printed;
  steady = steady ∙ before.steady;
  others = prints_only-then a b c before.others others;
}

-- all was printed, and then a fault came as what waited was written
pub settled_part : (a b c : Outside) (text : List ℕ) → Prints a b text → c.printed ≡ b.printed → b.out_faults ≤ c.out_faults
    → OnlyPrints b c → HasRisen b.out_faults c.out_faults → PrintsPart a c text
settled_part a b c text before printed counted others fault =
    part_printed a b c text (length text) (prints-as a b _ _ (sym (take_all (length text) text (omega arith))) before) printed counted
    others fault

-- ---- reporting

pub reports_only-same : (o : Outside) → OnlyReports o o
reports_only-same o = record {
  files = refl;
  text = refl;
  asked = refl;
  input = refl;
  in_faults = refl;
  logged = refl;
  log_faults = refl;
  printed = refl;
  out_faults = refl;
  log_waits = refl;
  out_waits = refl;
}

pub reports_only-then : (a b c : Outside) → OnlyReports a b → OnlyReports b c → OnlyReports a c
reports_only-then a b c e f = record {
  files = f.files ∙ e.files;
  text = f.text ∙ e.text;
  asked = f.asked ∙ e.asked;
  input = f.input ∙ e.input;
  in_faults = f.in_faults ∙ e.in_faults;
  logged = f.logged ∙ e.logged;
  log_faults = f.log_faults ∙ e.log_faults;
  printed = f.printed ∙ e.printed;
  out_faults = f.out_faults ∙ e.out_faults;
  log_waits = f.log_waits ∙ e.log_waits;
  out_waits = f.out_waits ∙ e.out_waits;
}

-- so far no fault came
pub record IsReporting (old new : Outside) (text : List ℕ) : Type 0 where
  pub reported : new.reported ≡ option_map (λ before. before ++ text) old.reported
  pub counted : old.err_faults ≤ new.err_faults
  pub others : OnlyReports old new

pub reports_more : (a b c : Outside) (bytes : List ℕ) (at count : ℕ) → IsReporting a b (take at bytes)
    → c.reported ≡ added b.reported (take (length bytes - at) (drop at bytes)) count → b.err_faults ≤ c.err_faults → OnlyReports b c
    → IsReporting a c (take (at + count) bytes)
reports_more a b c bytes at count before reported counted others =
    let text : take at bytes ++ take count (take (length bytes - at) (drop at bytes)) ≡ take (at + count) bytes =
    ap (λ (x : List ℕ). take at bytes ++ take count x) (take_rest bytes at) ∙ sym (take-add at count bytes) in
    record {
      reported = appended_both (take at bytes) (take count (take (length bytes - at) (drop at bytes))) a.reported b.reported c.reported
          before.reported reported
          ∙ ap (λ (x : List ℕ). option_map (λ front. front ++ x) a.reported) text;
      counted = omega (arith, before.counted);
      others = reports_only-then a b c before.others others;
    }
