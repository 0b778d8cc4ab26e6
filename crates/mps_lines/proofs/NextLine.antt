-- What comes next of what waits comes next of all that is left.
use Rattle.std.proofs.Common.{◌≡◌, ℕ, ◌+◌, ◌<◌, ◌≤◌, not, Option, Some, None, List, ◌++◌, length, take, drop, refl, sym, ◌∙◌, ap, arith, length-append}
use Rattle.std.proofs.lemmas.List.{drop-append-le, take-append-le}
use Rattle.std.proofs.lemmas.List.Folds.{prefix_len-append}
use Rattle.std.proofs.lemmas.List.Sums.{prefix_len-le-length}
use Rattle.std.proofs.lemmas.Grind.{common_steps}
use Rattle.mps_line_words.specs.Lines.{is_line_feed}
use Rattle.mps_lines.specs.Buffer.{LineBuffer, HeldGives, ComesNextOf, rest_of_script, length_of_line}
use Rattle.mps_lines.specs.declared.next.Next.{Next}
use Rattle.mps_lines.specs.declared.next.Next.TheVariants.{Line, TooLong, End}

pub line_bound : (xs : List ℕ) → length_of_line xs ≤ length xs
line_bound xs = prefix_len-le-length (λ b. not (is_line_feed b)) xs

-- a line that ends in the front is the line of the whole
line_same : (xs ys : List ℕ) → length_of_line xs < length xs → length_of_line (xs ++ ys) ≡ length_of_line xs
line_same xs ys h =
    let e = prefix_len-append (λ b. not (is_line_feed b)) xs ys in grind (arith, common_steps, e)

line_grows : (xs ys : List ℕ) → length_of_line xs ≤ length_of_line (xs ++ ys)
line_grows xs ys =
    let e = prefix_len-append (λ b. not (is_line_feed b)) xs ys in
    let b = line_bound xs in grind (arith, common_steps, e)

-- what the bytes that wait tell is what comes next
pub held_comes : (old new : LineBuffer) (input : Option (List ℕ)) (next : Next)
    → HeldGives old new (Some next) → ComesNextOf next (rest_of_script old input) new.line (rest_of_script new input)
held_comes old new None next h = refl
held_comes old new (Some rest) Line h =
    let same : length_of_line (old.waiting ++ rest) ≡ length_of_line old.waiting = line_same old.waiting rest h.0 in
    let size : length (old.waiting ++ rest) ≡ length old.waiting + length rest = length-append old.waiting rest in
    let within : length_of_line old.waiting ≤ length old.waiting = line_bound old.waiting in
    let later : length_of_line old.waiting + 1 ≤ length old.waiting = omega (arith, h.0) in (
      omega (arith, h.0),
      h.1 ∙ (sym (take-append-le (length_of_line old.waiting) old.waiting rest within) ∙ ap (λ n. take n (old.waiting ++ rest)) (sym same)),
      ap Some (ap (λ w. w ++ rest) h.2
          ∙ (sym (drop-append-le (length_of_line old.waiting + 1) old.waiting rest later)
          ∙ ap (λ n. drop (n + 1) (old.waiting ++ rest)) (sym same))),
    )
held_comes old new (Some rest) TooLong h = let grows = line_grows old.waiting rest in omega (arith, h, line_grows old.waiting rest)
held_comes old new (Some rest) End h = absurd h
