-- The bytes of a buffer after writes to its start.
use Rattle.std.proofs.Common.{◌≡◌, ℕ, ◌+◌, ◌-◌, ◌≤◌, List, [], ◌∷◌, length, take, drop, refl, ap, ◌∙◌, sym, arith}
use Rattle.std.proofs.Math.ListN.{set}
use Rattle.std.proofs.lemmas.List.{drop-drop}

-- the first two bytes after they were written
pub first_two : (out : List ℕ) (a b : ℕ) → 2 ≤ length out → take 2 (set (set out 0 a) 1 b) ≡ a ∷ b ∷ []
first_two [] a b long = absurd (omega arith)
first_two (x ∷ []) a b long = absurd (omega arith)
first_two (x ∷ y ∷ ys) a b long = refl

-- two buffers with the same bytes from one index on have the same bytes from each later index on
pub same_from_later : (xs ys : List ℕ) (m n : ℕ) → m ≤ n → drop m xs ≡ drop m ys → drop n xs ≡ drop n ys
same_from_later xs ys m n le e =
    let apart : m + (n - m) ≡ n = omega arith in
    ap (λ (k : ℕ). drop k xs) (sym apart) ∙ sym (drop-drop (n - m) m xs) ∙ ap (drop (n - m)) e ∙ drop-drop (n - m) m ys
    ∙ ap (λ (k : ℕ). drop k ys) apart
