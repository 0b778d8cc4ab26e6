-- Words that are written over others.
use Rattle.std.proofs.Common.{ℕ, ◌+◌, ◌-◌, ◌<◌, ◌≤◌, ◌≡◌, List, ◌++◌, length, get_or, take, drop, refl, ap, ◌∙◌, arith, length-append, length-drop}
use Rattle.std.proofs.lemmas.List.{length-take, take-append-le, drop-drop, get_or-append_right, get_or-drop, get_or-take, get_or_append_left}
use Rattle.mps_arena.specs.Arena.{with_words}

pub written_over : (words new : List ℕ) (at n : ℕ) → n ≡ length words
    → (let whole = take at words ++ (new ++ drop (length new) (drop at words)) in take n (whole ++ drop (length whole) words))
    ≡ with_words words at new
written_over words new at n size =
    let whole = take at words ++ (new ++ drop (length new) (drop at words)) in
    let long : n ≤ length whole =
    omega (
      arith,
      size,
      length-append (take at words) (new ++ drop (length new) (drop at words)),
      length-take at words,
      length-append new (drop (length new) (drop at words)),
      length-drop (length new) (drop at words),
      length-drop at words,
    )
    in
    take-append-le n whole (drop (length whole) words) long
    ∙ ap (λ (k : ℕ). take k whole) size
    ∙ ap (λ (ws : List ℕ). take (length words) (take at words ++ (new ++ ws))) (drop-drop (length new) at words)

pub with_words_long : (words new : List ℕ) (at : ℕ) → length (with_words words at new) ≡ length words
with_words_long words new at =
    let rest : List ℕ = drop (at + length new) words in
    omega (
      arith,
      length-take (length words) (take at words ++ (new ++ rest)),
      length-append (take at words) (new ++ rest),
      length-append new rest,
      length-take at words,
      length-drop (at + length new) words,
    )

-- the words before those written, those written and those after them
module _ (words new : List ℕ) (at : ℕ) (inside : at ≤ length words) where
  abbrev rest : List ℕ
  rest = drop (at + length new) words

  first_long : length (take at words) ≡ at
  first_long = omega (arith, length-take at words, inside)

  pub written_before : (i : ℕ) → i < at → get_or (with_words words at new) i 0 ≡ get_or words i 0
  written_before i before =
      get_or-take (length words) (take at words ++ (new ++ rest)) i 0 (omega (arith, inside))
      ∙ get_or_append_left (take at words) (new ++ rest) 0 i (omega (arith, before, first_long))
      ∙ get_or-take at words i 0 before

  pub written_inside : (i : ℕ) → at ≤ i → i < at + length new → i < length words → get_or (with_words words at new) i 0
      ≡ get_or new (i - at) 0
  written_inside i after within there =
      get_or-take (length words) (take at words ++ (new ++ rest)) i 0 there
      ∙ get_or-append_right (take at words) (new ++ rest) at i 0 first_long after
      ∙ get_or_append_left new rest 0 (i - at) (omega (arith, within, after))

  pub written_after : (i : ℕ) → at + length new ≤ i → i < length words → get_or (with_words words at new) i 0 ≡ get_or words i 0
  written_after i past there =
      get_or-take (length words) (take at words ++ (new ++ rest)) i 0 there
      ∙ get_or-append_right (take at words) (new ++ rest) at i 0 first_long (omega (arith, past))
      ∙ get_or-append_right new rest (length new) (i - at) 0 refl (omega (arith, past))
      ∙ get_or-drop (at + length new) words (i - at - length new) 0
      ∙ ap (λ (n : ℕ). get_or words n 0) (let e : at + length new + (i - at - length new) ≡ i = omega (arith, past) in e)
