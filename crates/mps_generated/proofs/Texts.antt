-- The lines of a generated script, each with its line feed.
use Rattle.std.proofs.Common.{◌≡◌, ℕ, ◌+◌, ◌-◌, ◌^◌, ◌<◌, ◌≤◌, codes, List, [], ◌∷◌, ◌++◌, length, take, drop, refl, sym, ap, ◌∙◌, arith, append_assoc}
use Rattle.std.proofs.Math.Seq.{take-append_seam}
use Rattle.std.proofs.lemmas.List.{length-append}
use Rattle.mps_script.specs.Line.{lines_of}
use Rattle.mps_workload.specs.Script.{lines_from, script_lines}
use Rattle.mps_run.specs.Script.{Line}
use Rattle.mps_generated.specs.Texts.{line_of, first_line, text_of, IsLineText, AreLineTexts}
use Rattle.mps_generated.proofs.Separated.{line_first}
use Rattle.mps_generated.proofs.Generated.{AreGood, are_good_more, from_is_good, later_making, making_is_good}

of_good : (texts : List (List ℕ)) → AreGood texts → AreLineTexts texts
of_good [] good = tt
of_good (text ∷ texts) good =
    (record { line = good.0.line; is = good.0.is; none = good.0.none }, of_good texts good.1)

-- all lines of a generated script are such
pub generated_texts : (seed count : ℕ) → count ≤ 2 ^ 64 → AreLineTexts (script_lines seed count)
generated_texts seed count fits =
    let later : List (List ℕ) = later_making ++ lines_from count 0 seed in
    let good : AreGood later = are_good_more later_making (lines_from count 0 seed) making_is_good (from_is_good count 0 seed
    (omega arith)) in
    (record { line = codes "arena 1024 1024"; is = refl; none = refl }, of_good later good)

line_is : (text : List ℕ) (t : IsLineText text) → line_of text ≡ t.line
line_is text t =
    let size : length (t.line ++ 10 ∷ []) ≡ length t.line + 1 = length-append t.line (10 ∷ []) in
    let count : length text - 1 ≡ length t.line = omega (arith, size, ap length t.is) in
    ap (λ n. take n text) count ∙ (ap (take (length t.line)) t.is ∙ take-append_seam t.line (10 ∷ []))

-- the first of the lines that are left, and the lines after it
pub lines_more : (texts : List (List ℕ)) → AreLineTexts texts → 0 < length texts
    → lines_of (text_of texts) ≡ first_line texts ∷ lines_of (text_of (drop 1 texts))
lines_more [] all some = absurd (omega arith)
lines_more (text ∷ texts) all some =
    let t = all.0 in
    ap (λ (x : List ℕ). lines_of (x ++ text_of texts)) t.is
    ∙ (ap lines_of (append_assoc t.line (10 ∷ []) (text_of texts))
    ∙ (line_first t.line (text_of texts) t.none ∙ ap (λ (l : Line). l ∷ lines_of (text_of texts)) (sym (line_is text t))))

pub texts_later : (texts : List (List ℕ)) → AreLineTexts texts → AreLineTexts (drop 1 texts)
texts_later [] all = tt
texts_later (text ∷ texts) all = all.1
