-- Words that were borrowed to be written, all that are stored from one on.
use Rattle.std.proofs.Common.{ℕ, ◌+◌, ◌-◌, ◌<◌, ◌≤◌, ◌≡◌, ◌⊎◌, List, length, get_or, take, drop, sym, ap, ◌∙◌, inl, inr, arith}
use Rattle.std.proofs.Math.ListN.{length-take, length-drop}
use Rattle.std.proofs.lemmas.Bool.{cases_lt}
use Rattle.std.proofs.lemmas.List.{ext_get_or, get_or-take, get_or-drop, get_or_past, take_all}
use Rattle.std.specs.Prelude.{slice_range}
use Rattle.mps_arena.specs.Arena.{with_words}
use Rattle.mps_arena.proofs.Loans.{with_words_long, written_before, written_inside, written_after}

module _ (words loan left : List ℕ) (at : ℕ) (part : loan ≡ take (length loan) (drop at words)) (inside : at ≤ length words)
    (long : length left ≡ length loan)
  where
    abbrev pub written : List ℕ
    written = with_words words at (take (length loan) left)

    within : at + length loan ≤ length words
    within = omega (arith, ap (λ (ws : List ℕ). length ws) part, length-take (length loan) (drop at words), length-drop at words, inside)

    all_taken : take (length loan) left ≡ left
    all_taken = take_all (length loan) left (omega (arith, long))

    pub written_long : length written ≡ length words
    written_long = with_words_long words (take (length loan) left) at

    -- the first n words that were borrowed
    pub first_borrowed : (n : ℕ) → n ≤ length loan → take n loan ≡ slice_range words at (at + n)
    first_borrowed n few =
        ext_get_or 0 (take n loan) (slice_range words at (at + n))
        (omega (
          arith,
          length-take n loan,
          length-take (at + n - at) (drop at words),
          length-drop at words,
          within,
          few,
        ))
        (λ i lt.
        let short : i < n = omega (arith, lt, length-take n loan) in
        get_or-take n loan i 0 short ∙ ap (λ (ws : List ℕ). get_or ws i 0) part
        ∙ get_or-take (length loan) (drop at words) i 0 (omega (arith, short, few))
        ∙ sym (get_or-take (at + n - at) (drop at words) i 0 (omega (arith, short))))

    -- a word that was left
    pub word_left : (k : ℕ) → k < length loan → get_or written (at + k) 0 ≡ get_or left k 0
    word_left k few =
        written_inside words (take (length loan) left) at inside (at + k) (omega arith)
        (omega (arith, few, length-take (length loan) left, long)) (omega (arith, few, within))
        ∙ ap (λ (i : ℕ). get_or (take (length loan) left) i 0) (let e : at + k - at ≡ k = omega arith in e)
        ∙ ap (λ (ws : List ℕ). get_or ws k 0) all_taken

    -- the first n words that were left
    pub first_left : (n : ℕ) → n ≤ length loan → slice_range written at (at + n) ≡ take n left
    first_left n few =
        ext_get_or 0 (slice_range written at (at + n)) (take n left)
        (omega (
          arith,
          length-take n left,
          length-take (at + n - at) (drop at written),
          length-drop at written,
          written_long,
          within,
          few,
          long,
        ))
        (λ i lt.
        let short : i < n = omega (arith, lt, length-take (at + n - at) (drop at written)) in
        get_or-take (at + n - at) (drop at written) i 0 (omega (arith, short))
        ∙ get_or-drop at written i 0
        ∙ word_left i (omega (arith, short, few))
        ∙ sym (get_or-take n left i 0 short))

    -- where only the first n words that were borrowed have changed, no other word has
    pub others_left : (n : ℕ) → ((i : ℕ) → n ≤ i → get_or left i 0 ≡ get_or loan i 0) → (i : ℕ) → (i < at) ⊎ (at + n ≤ i)
        → get_or written i 0 ≡ get_or words i 0
    others_left n same i (inl before) = written_before words (take (length loan) left) at inside i before
    others_left n same i (inr after) =
        elim (cases_lt i (at + length loan)) [
          | inl below ↦
              let k : ℕ = i - at in
              let here : at + k ≡ i = omega (arith, after) in
              let few : k < length loan = omega (arith, below, after) in
              ap (λ (j : ℕ). get_or written j 0) (sym here) ∙ word_left k few ∙ same k (omega (arith, after))
              ∙ ap (λ (ws : List ℕ). get_or ws k 0) part ∙ get_or-take (length loan) (drop at words) k 0 few
              ∙ get_or-drop at words k 0 ∙ ap (λ (j : ℕ). get_or words j 0) here
          | inr past ↦ elim (cases_lt i (length words)) [
            | inl there ↦
                written_after words (take (length loan) left) at inside i (omega (arith, past, length-take (length loan) left, long)) there
            | inr outside ↦
                get_or_past written i 0 (omega (arith, outside, written_long)) ∙ sym (get_or_past words i 0 outside)
          ]
        ]
