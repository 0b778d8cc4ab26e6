-- What was printed where a write failed.
use Rattle.std.proofs.Common.{◌≡◌, ℕ, ◌≤◌, List, [], ◌++◌, length, take, drop, Option, Some, None, refl, sym, ap, subst, ◌∙◌, append_assoc, inl, inr}
use Rattle.std.specs.Option.{option_map}
use Rattle.std.proofs.lemmas.List.{append_cancel_left, take-append-drop}
use Rattle.std.proofs.Math.Seq.{take-append_seam}
use Rattle.mps_desk.specs.Desk.{Outside}
use Rattle.mps_report.specs.Streams.{PrintsPart}
use Rattle.mps_report.proofs.Outside.{risen_earlier}
use Rattle.mps_log_reader.specs.PutOut.{put_out, Grows, PutsOut, PutsPart, PrintsAsFar}
use Rattle.mps_report.proofs.Appended.{appended_empty, appended_twice, appended_both, some_is}

-- ---- what was printed grows

pub grows_none : (o p : Option (List ℕ)) → p ≡ o → Grows o p
grows_none o p e = ([], e ∙ appended_empty o)

pub grows_then : (o p q : Option (List ℕ)) → Grows o p → Grows p q → Grows o q
grows_then o p q e f = (e.0 ++ f.0, appended_both e.0 f.0 o p q e.1 f.1)

pub grows_by : (text : List ℕ) (o p q : Option (List ℕ)) → p ≡ o → q ≡ option_map (λ before. before ++ text) p → Grows o q
grows_by text o p q same e = (text, e ∙ ap (λ (x : Option (List ℕ)). option_map (λ before. before ++ text) x) same)

pub puts_part : (a b c : Outside) (gathered : List ℕ) → b.printed ≡ a.printed → PrintsPart b c gathered
    → PutsPart a.printed c.printed gathered
puts_part a b c gathered same p = (
  p.count,
  p.printed
      ∙ ap (λ (x : Option (List ℕ)). option_map (λ before. before ++ take p.count gathered) x) same,
)

-- ---- a prefix of the whole text

pub part_of_text : (front gathered out lines : List ℕ) (n : ℕ) (o c d : Option (List ℕ)) → c ≡ option_map (λ before. before ++ front) o
    → option_map (λ printed. printed ++ gathered) c ≡ option_map (λ all. all ++ lines) (option_map (λ printed. printed ++ out) o)
    → d ≡ option_map (λ before. before ++ take n gathered) c → PutsPart o d (out ++ lines)
part_of_text front gathered out lines n None c d grown put part = (0, rw (part, grown) refl)
part_of_text front gathered out lines n (Some before) c d grown put part =
    let all : Some ((before ++ front) ++ gathered) ≡ Some ((before ++ out) ++ lines) =
    ap (λ (x : Option (List ℕ)). option_map (λ printed. printed ++ gathered) x) (sym grown) ∙ put in
    let text : front ++ gathered ≡ out ++ lines =
    append_cancel_left before (front ++ gathered) (out ++ lines)
    (sym (append_assoc before front gathered) ∙ some_is ((before ++ front) ++ gathered) ((before ++ out) ++ lines) all
    ∙ append_assoc before out lines) in
    let some = front ++ take n gathered in
    let parts : out ++ lines ≡ some ++ drop n gathered =
    sym text ∙ ap (λ (x : List ℕ). front ++ x) (sym (take-append-drop n gathered))
    ∙ sym (append_assoc front (take n gathered) (drop n gathered)) in
    let taken : take (length some) (out ++ lines) ≡ some = ap (take (length some)) parts ∙ take-append_seam some (drop n gathered) in (
      length some,
      appended_both front (take n gathered) (Some before) c d grown part ∙ ap (λ (x : List ℕ). Some (before ++ x)) (sym taken),
    )

-- ---- all of it, or a prefix

-- what was gathered was printed as far as it went: so was the whole text, whose first line was gathered first
pub as_far_of_text : (out line text gathered : List ℕ) (a b c d : Outside) → b.printed ≡ a.printed → out ≡ line
    → PutsOut (put_out b out) (put_out c gathered) text
    → Grows b.printed c.printed → a.out_faults ≤ c.out_faults → PrintsAsFar c d gathered → PrintsAsFar a d (line ++ text)
as_far_of_text out line text gathered a b c d same is put grown counted (inl all) =
    inl (all ∙ put ∙ appended_twice b.printed out text
    ∙ ap (λ (x : List ℕ). option_map (λ before. before ++ (x ++ text)) b.printed) is
    ∙ ap (λ (o : Option (List ℕ)). option_map (λ before. before ++ (line ++ text)) o) same)
as_far_of_text out line text gathered a b c d same is put grown counted (inr part) =
    let front = part_of_text grown.0 gathered out text part.1.0 b.printed c.printed d.printed grown.1 put part.1.1 in
    inr (
      risen_earlier a.out_faults c.out_faults d.out_faults counted part.0,
      subst (λ (o : Option (List ℕ)). PutsPart o d.printed (line ++ text)) same
          (subst (λ (x : List ℕ). PutsPart b.printed d.printed (x ++ text)) is front),
    )

-- the same up to an outside with as much printed
pub as_far_later : (text : List ℕ) (a b c : Outside) → PrintsAsFar a b text → c.printed ≡ b.printed → c.out_faults ≡ b.out_faults
    → PrintsAsFar a c text
as_far_later text a b c h printed faults = rw (printed, faults) h
