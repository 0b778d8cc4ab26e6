-- Words are cleared from both ends, by two runs that overlap.
use Rattle.std.proofs.Common.{ℕ, ◌≡◌, ◌+◌, ◌-◌, ◌≤◌, ◌++◌, List, length, take, drop, replicate, sym, ap, ◌∙◌, arith}
use Rattle.std.proofs.Math.Seq.{paste, length_paste_head}
use Rattle.std.proofs.lemmas.List.{drop-drop, length-replicate, length-take, replicate-append-replicate, take-append-le, take_all}
use Rattle.std.proofs.lemmas.List.Edits.{drop-paste, length-paste, paste-paste}
use Rattle.mps_arena.specs.Arena.{cleared_words}

-- what is pasted hides fewer that were pasted at the same place
module _ (d : List ℕ) (at : ℕ) (s t : List ℕ) (i k : ℕ) (within : at ≤ length d) (some : i ≤ length s) (fewer : i ≤ k) where
  front_kept : take at (paste d at s i) ≡ take at d
  front_kept =
      let head = length_paste_head d at s i within some in
      let long = length-take at d in
      take-append-le at (take at d ++ take i s) (drop (at + i) d) (omega (arith, head))
      ∙ take-append-le at (take at d) (take i s) (omega (arith, long, within))
      ∙ take_all at (take at d) (omega (arith, long, within))

  rest_kept : drop (at + k) (paste d at s i) ≡ drop (at + k) d
  rest_kept =
      let more = k - i in
      let after : at + k ≡ at + i + more = omega (arith, fewer) in
      ap (λ (j : ℕ). drop j (paste d at s i)) after ∙ sym (drop-drop more (at + i) (paste d at s i))
      ∙ ap (λ (l : List ℕ). drop more l) (drop-paste d at s i within some) ∙ drop-drop more (at + i) d
      ∙ sym (ap (λ (j : ℕ). drop j d) after)

  hidden : paste (paste d at s i) at t k ≡ paste d at t k
  hidden =
      ap (λ (l : List ℕ). (l ++ take k t) ++ drop (at + k) (paste d at s i)) front_kept
      ∙ ap (λ (l : List ℕ). (take at d ++ take k t) ++ l) rest_kept

abbrev zeros : ℕ → List ℕ
zeros n = replicate n 0

zeros_long : (n : ℕ) → n ≡ length (zeros n)
zeros_long n = sym (length-replicate {A = ℕ} n 0)

-- two runs of zeros, one after the other
after_zeros : (d : List ℕ) (at m n : ℕ) → at ≤ length d → cleared_words (cleared_words d at m) (at + m) n ≡ cleared_words d at (m + n)
after_zeros d at m n within =
    paste-paste d at (zeros m) (zeros n) m n (zeros_long m) (zeros_long n) within
    ∙ ap (λ (l : List ℕ). paste d at l (m + n)) (replicate-append-replicate m n 0)

pub cleared_from_both_ends : (d : List ℕ) (at n k : ℕ) → at + n ≤ length d → k ≤ n → n ≤ k + k
    → cleared_words (cleared_words d at k) (at + (n - k)) k ≡ cleared_words d at n
cleared_from_both_ends d at n k within fewer enough =
    let m = n - k in
    let i = k - m in
    let inside : at ≤ length d = omega (arith, within) in
    let first = cleared_words d at m in
    let long = length-paste d at (zeros m) m (omega (arith, within, fewer)) (let z = zeros_long m in omega (arith, z)) in
    let split : k ≡ m + i = omega (arith, fewer, enough) in
    let all : m + k ≡ n = omega (arith, fewer) in
    ap (λ (j : ℕ). cleared_words (cleared_words d at j) (at + m) k) split
    ∙ ap (λ (l : List ℕ). cleared_words l (at + m) k) (sym (after_zeros d at m i inside))
    ∙ hidden first (at + m) (zeros i) (zeros k) i k (omega (arith, long, within, fewer)) (let z = zeros_long i in omega (arith, z))
    (omega (arith, split))
    ∙ after_zeros d at m k inside
    ∙ ap (λ (j : ℕ). cleared_words d at j) all
