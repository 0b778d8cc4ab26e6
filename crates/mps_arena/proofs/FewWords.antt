-- A few words are copied by as many writes, once all of them were read.
use Rattle.std.proofs.Common.{ℕ, ◌+◌, ◌-◌, ◌<◌, ◌≤◌, ◌≡◌, ◌≢◌, ◌⊎◌, ◌++◌, List, length, take, drop, get_or, set, sym, ap, ◌∙◌, inl, inr, arith, length-drop}
use Rattle.std.proofs.Math.Seq.{length_paste_head}
use Rattle.std.proofs.lemmas.Bool.{cases_eq, cases_lt}
use Rattle.std.proofs.lemmas.Grind.{get_or-set_at}
use Rattle.std.proofs.lemmas.List.{ext_get_or, get_or-append_right, get_or-drop, get_or-set_other, get_or-take, get_or_append_left, length-set, length-take}
use Rattle.std.proofs.lemmas.List.Edits.{length-paste}
use Rattle.mps_arena.specs.Arena.{copied_words}

-- the value that is wanted at i stands there after a write at j, if it is the one that was written or stood there before
written : (words : List ℕ) (j i y want : ℕ) → j < length words → (i ≡ j → y ≡ want) → (i ≢ j → get_or words i 0 ≡ want)
    → get_or (set words j y) i 0 ≡ want
written words j i y want within here other =
    elim (cases_eq i j) [
      | inl same ↦ get_or-set_at words j i y 0 same within ∙ here same
      | inr differs ↦ get_or-set_other words j i y 0 differs ∙ other differs
    ]

module _ (words : List ℕ) (from to n : ℕ) (from_in : from + n ≤ length words) (to_in : to + n ≤ length words) where
  source_long : n ≤ length (drop from words)
  source_long = omega (arith, length-drop from words, from_in)

  head_long : length (take to words ++ take n (drop from words)) ≡ to + n
  head_long = length_paste_head words to (drop from words) n (omega (arith, to_in)) source_long

  prefix_long : length (take to words) ≡ to
  prefix_long = omega (arith, length-take to words, to_in)

  copied_long : length (copied_words words from to n) ≡ length words
  copied_long = length-paste words to (drop from words) n to_in source_long

  copied_inside : (i : ℕ) → to ≤ i → i < to + n → get_or (copied_words words from to n) i 0 ≡ get_or words (from + (i - to)) 0
  copied_inside i above below =
      get_or_append_left (take to words ++ take n (drop from words)) (drop (to + n) words) 0 i (omega (arith, head_long, below))
      ∙ get_or-append_right (take to words) (take n (drop from words)) to i 0 prefix_long above
      ∙ get_or-take n (drop from words) (i - to) 0 (omega (arith, above, below))
      ∙ get_or-drop from words (i - to) 0

  copied_outside : (i : ℕ) → (i < to) ⊎ (to + n ≤ i) → get_or (copied_words words from to n) i 0 ≡ get_or words i 0
  copied_outside i (inl below) =
      get_or_append_left (take to words ++ take n (drop from words)) (drop (to + n) words) 0 i (omega (arith, head_long, below))
      ∙ get_or_append_left (take to words) (take n (drop from words)) 0 i (omega (arith, prefix_long, below))
      ∙ get_or-take to words i 0 below
  copied_outside i (inr above) =
      get_or-append_right (take to words ++ take n (drop from words)) (drop (to + n) words) (to + n) i 0 head_long above
      ∙ get_or-drop (to + n) words (i - (to + n)) 0
      ∙ ap (λ (j : ℕ). get_or words j 0) (let e : to + n + (i - (to + n)) ≡ i = omega (arith, above) in e)

  module _ (two : 2 ≤ n) (four : n ≤ 4) where
    abbrev one : List ℕ
    one = set words to (get_or words from 0)

    abbrev both : List ℕ
    both = set one (to + 1) (get_or words (from + 1) 0)

    abbrev three : List ℕ
    three = set both (to + (n - 2)) (get_or words (from + (n - 2)) 0)

    abbrev all : List ℕ
    all = set three (to + (n - 1)) (get_or words (from + (n - 1)) 0)

    one_long : length one ≡ length words
    one_long = length-set words to (get_or words from 0)

    both_long : length both ≡ length words
    both_long = length-set one (to + 1) (get_or words (from + 1) 0) ∙ one_long

    three_long : length three ≡ length words
    three_long = length-set both (to + (n - 2)) (get_or words (from + (n - 2)) 0) ∙ both_long

    all_long : length all ≡ length words
    all_long = length-set three (to + (n - 1)) (get_or words (from + (n - 1)) 0) ∙ three_long

    outside : (i : ℕ) → (i < to) ⊎ (to + n ≤ i) → get_or all i 0 ≡ get_or words i 0
    outside i apart =
        get_or-set_other three (to + (n - 1)) i (get_or words (from + (n - 1)) 0) 0 (λ e. elim apart [
          | inl below ↦ omega (arith, e, below, two)
          | inr above ↦ omega (arith, e, above, two)
        ])
        ∙ get_or-set_other both (to + (n - 2)) i (get_or words (from + (n - 2)) 0) 0 (λ e. elim apart [
          | inl below ↦ omega (arith, e, below, two)
          | inr above ↦ omega (arith, e, above, two)
        ])
        ∙ get_or-set_other one (to + 1) i (get_or words (from + 1) 0) 0 (λ e. elim apart [
          | inl below ↦ omega (arith, e, below, two)
          | inr above ↦ omega (arith, e, above, two)
        ])
        ∙ get_or-set_other words to i (get_or words from 0) 0 (λ e. elim apart [
          | inl below ↦ omega (arith, e, below, two)
          | inr above ↦ omega (arith, e, above, two)
        ])

    inside : (k : ℕ) → k < n → get_or all (to + k) 0 ≡ get_or words (from + k) 0
    inside k few =
        let at : ℕ → ℕ = λ j. get_or words j 0 in
        written three (to + (n - 1)) (to + k) (at (from + (n - 1))) (at (from + k)) (omega (arith, three_long, to_in, two))
        (λ e. ap at (let f : from + (n - 1) ≡ from + k = omega (arith, e) in f))
        (λ not_last. written both (to + (n - 2)) (to + k) (at (from + (n - 2))) (at (from + k)) (omega (arith, both_long, to_in, two))
        (λ e. ap at (let f : from + (n - 2) ≡ from + k = omega (arith, e) in f))
        (λ not_third. written one (to + 1) (to + k) (at (from + 1)) (at (from + k)) (omega (arith, one_long, to_in, two))
        (λ e. ap at (let f : from + 1 ≡ from + k = omega (arith, e) in f))
        (λ not_second. written words to (to + k) (at from) (at (from + k)) (omega (arith, to_in, two))
        (λ e. ap at (let f : from ≡ from + k = omega (arith, e) in f))
        (λ not_first. absurd (omega (arith, few, two, four, not_last, not_third, not_second, not_first))))))

    pub few_copied : all ≡ copied_words words from to n
    few_copied = ext_get_or 0 all (copied_words words from to n) (all_long ∙ sym copied_long) (λ i within. at_place i)
      where
        at_place : (i : ℕ) → get_or all i 0 ≡ get_or (copied_words words from to n) i 0
        at_place i =
            elim (cases_lt i to) [
              | inl below ↦ outside i (inl below) ∙ sym (copied_outside i (inl below))
              | inr above ↦ elim (cases_lt i (to + n)) [
                | inl within ↦
                    ap (λ (j : ℕ). get_or all j 0) (let e : i ≡ to + (i - to) = omega (arith, above) in e)
                    ∙ inside (i - to) (omega (arith, above, within)) ∙ sym (copied_inside i above within)
                | inr past ↦ outside i (inr past) ∙ sym (copied_outside i (inr past))
              ]
            ]
