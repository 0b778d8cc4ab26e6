-- A word that is written among words that were borrowed.
use Rattle.std.proofs.Common.{ℕ, ◌+◌, ◌-◌, ◌<◌, ◌≤◌, ◌≡◌, ◌≢◌, List, length, get_or, set, take, drop, sym, ap, ◌∙◌, inl, inr, arith, length-set, get_or-set_same, get_or-set_other}
use Rattle.std.proofs.Math.ListN.{length-take, length-drop}
use Rattle.std.proofs.lemmas.Bool.{cases_lt, cases_eq}
use Rattle.std.proofs.lemmas.List.{ext_get_or, get_or-take, get_or-drop, take_all}
use Rattle.mps_arena.specs.Arena.{with_words}
use Rattle.mps_arena.proofs.Loans.{with_words_long, written_before, written_inside, written_after}

module _ (words loan : List ℕ) (at : ℕ) (part : loan ≡ take (length loan) (drop at words)) (inside : at ≤ length words) where
  within : at + length loan ≤ length words
  within = omega (arith, ap (λ (ws : List ℕ). length ws) part, length-take (length loan) (drop at words), length-drop at words, inside)

  module _ (cell word : ℕ) (few : cell < length loan) where
    abbrev new : List ℕ
    new = take (length loan) (set loan cell word)

    new_is : new ≡ set loan cell word
    new_is = take_all (length loan) (set loan cell word) (omega (arith, length-set loan cell word))

    new_long : length new ≡ length loan
    new_long = ap (λ (ws : List ℕ). length ws) new_is ∙ length-set loan cell word

    -- a word of the loan
    left : (k : ℕ) → k < length loan → get_or (with_words words at new) (at + k) 0 ≡ get_or (set loan cell word) k 0
    left k short =
        written_inside words new at inside (at + k) (omega arith) (omega (arith, short, new_long)) (omega (arith, short, within))
        ∙ ap (λ (i : ℕ). get_or new i 0) (let e : at + k - at ≡ k = omega arith in e)
        ∙ ap (λ (ws : List ℕ). get_or ws k 0) new_is

    other : (k : ℕ) → k < length loan → k ≢ cell → get_or (set loan cell word) k 0 ≡ get_or words (at + k) 0
    other k short apart =
        get_or-set_other loan cell k word 0 apart ∙ ap (λ (ws : List ℕ). get_or ws k 0) part
        ∙ get_or-take (length loan) (drop at words) k 0 short ∙ get_or-drop at words k 0

    same : (i : ℕ) → i < length words → get_or (with_words words at new) i 0 ≡ get_or (set words (at + cell) word) i 0
    same i short =
        elim (cases_eq i (at + cell)) [
          | inl here ↦
              ap (λ (j : ℕ). get_or (with_words words at new) j 0) here ∙ left cell few ∙ get_or-set_same loan cell word 0 few
              ∙ sym (ap (λ (j : ℕ). get_or (set words (at + cell) word) j 0) here
              ∙ get_or-set_same words (at + cell) word 0 (omega (arith, few, within)))
          | inr apart ↦
              unchanged i short apart ∙ sym (get_or-set_other words (at + cell) i word 0 apart)
        ]
      where
        unchanged : (i : ℕ) → i < length words → i ≢ at + cell → get_or (with_words words at new) i 0 ≡ get_or words i 0
        unchanged i short apart =
            elim (cases_lt i at) [
              | inl before ↦ written_before words new at inside i before
              | inr from ↦ elim (cases_lt i (at + length loan)) [
                | inl below ↦
                    let k : ℕ = i - at in
                    let there : at + k ≡ i = omega (arith, from) in
                    ap (λ (j : ℕ). get_or (with_words words at new) j 0) (sym there)
                    ∙ left k (omega (arith, from, below))
                    ∙ other k (omega (arith, from, below)) (λ e. apart (sym there ∙ ap (λ (j : ℕ). at + j) e))
                    ∙ ap (λ (j : ℕ). get_or words j 0) there
                | inr past ↦ written_after words new at inside i (omega (arith, past, new_long)) short
              ]
            ]

    pub cell_written : with_words words at (take (length loan) (set loan cell word)) ≡ set words (at + cell) word
    cell_written =
        ext_get_or 0 (with_words words at new) (set words (at + cell) word)
        (with_words_long words new at ∙ sym (length-set words (at + cell) word))
        (λ i lt. same i (omega (arith, lt, with_words_long words new at)))
