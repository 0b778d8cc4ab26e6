-- The first of eight numbers, of which the others are 0.
use Rattle.std.proofs.Common.{◌≡◌, ℕ, ◌+◌, ◌-◌, ◌<◌, ◌≤◌, List, ◌++◌, length, take, drop, set, replicate, sym, ap, ◌∙◌, arith}
use Rattle.std.proofs.lemmas.Grind.{common_steps}
use Rattle.std.proofs.lemmas.List.{drop-set-lt, drop-drop, drop-replicate, take-append-drop}
use Rattle.mps_grammar.specs.Form.{padded}

fewer_zeros : (count : ℕ) (numbers : List ℕ) → count < 8 → drop count numbers ≡ replicate (8 - count) 0
    → drop (count + 1) numbers ≡ replicate (8 - (count + 1)) 0
fewer_zeros count numbers less zeros =
    let one_less : 8 - count - 1 ≡ 8 - (count + 1) = omega arith in
    sym (drop-drop 1 count numbers) ∙ ap (drop 1) zeros ∙ drop-replicate 1 (8 - count) 0
    ∙ ap (λ (k : ℕ). replicate k 0) one_less

-- one more number stands there
pub zeros_after : (count : ℕ) (numbers : List ℕ) (n : ℕ) → count < 8 → drop count numbers ≡ replicate (8 - count) 0
    → drop (count + 1) (set numbers count n) ≡ replicate (8 - (count + 1)) 0
zeros_after count numbers n less zeros =
    drop-set-lt (count + 1) numbers count n (omega arith) ∙ fewer_zeros count numbers less zeros

-- the first of them, and how many they are
pub first_length : (count : ℕ) (numbers : List ℕ) → count ≤ 8 → length numbers ≡ 8 → length (take count numbers) ≡ count
first_length count numbers few room = grind (arith, common_steps, room, few)

-- they are the first with zeros after them
pub padded_first : (count : ℕ) (numbers : List ℕ) → count ≤ 8 → length numbers ≡ 8 → drop count numbers ≡ replicate (8 - count) 0
    → padded (take count numbers) ≡ numbers
padded_first count numbers few room zeros =
    ap (λ (k : ℕ). take count numbers ++ replicate (8 - k) 0) (first_length count numbers few room)
    ∙ ap (λ (tail : List ℕ). take count numbers ++ tail) (sym zeros) ∙ take-append-drop count numbers
