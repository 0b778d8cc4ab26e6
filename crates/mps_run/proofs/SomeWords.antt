-- Some of the words of an arena, read one after another by their numbers.
use Rattle.std.proofs.Common.{ℕ, zero, suc, ◌≡◌, ◌+◌, ◌-◌, ◌<◌, ◌≤◌, List, [], ◌∷◌, Some, None, length, get_or, take, drop, min, slice_get, ⊎_elim, sym, ◌∙◌, ap, subst, arith}
use Rattle.std.proofs.lemmas.List.{take_all, length-take, length-drop, get_or-take, get_or-drop, drop_more}
use Rattle.std.proofs.lemmas.Option.{none-some, slice_get_within, slice_get_cases, get_or_from_slice_get}
use Rattle.std.specs.List.{flat_map}
use Rattle.mps_desk.specs.Desk.{Outside}
use Rattle.mps_model.specs.Answer.{Dumped}
use Rattle.mps_model.specs.Text.{line_of_answer}
use Rattle.mps_report.specs.Streams.{Prints, PrintsPart}
use Rattle.mps_report.proofs.Outside.{prints-then}
use Rattle.mps_run.specs.Pieces.{and_word}
use Rattle.mps_run.proofs.Pieces.{one_more, prints_part_of_words}

-- the words from a number on, as many as are asked for or as there are
abbrev some_words : (words : List ℕ) (from count : ℕ) → List ℕ
some_words words from count = take count (drop from words)

-- a first word, and some of those after it
take_first : (word : ℕ) (words : List ℕ) (count : ℕ) → 0 < count → word ∷ take (count - 1) words ≡ take count (word ∷ words)
take_first word words zero some = absurd (omega (arith, some))
take_first word words (suc count) some =
    let rest : suc count - 1 ≡ count = omega arith in
    ap (λ n. word ∷ take n words) rest

module _ (words : List ℕ) (from count : ℕ) where
  abbrev these : List ℕ
  these = some_words words from count

  length_of_these : length these ≡ min count (length words - from)
  length_of_these = length-take count (drop from words) ∙ ap (min count) (length-drop from words)

  -- a word that is there is one of them
  is_there : (k word : ℕ) → k < count → slice_get words (from + k) ≡ Some word → k < length these
  is_there k word below is =
      let within : from + k < length words = slice_get_within words (from + k) word is in
      omega (arith, below, within, length_of_these)

  word_of_these : (k word : ℕ) → k < count → slice_get words (from + k) ≡ Some word → get_or these k 0 ≡ word
  word_of_these k word below is =
      get_or-take count (drop from words) k 0 below
      ∙ (get_or-drop from words k 0 ∙ get_or_from_slice_get words (from + k) word 0 is)

  past_the_words : (k : ℕ) → slice_get words (from + k) ≡ None → length words ≤ from + k
  past_the_words k none =
      ⊎_elim (λ p. absurd (none-some p.0 (sym none ∙ p.2))) (λ p. p.0) (slice_get_cases words (from + k)).1

  -- where no word is, those before it are all
  these_are_all : (k : ℕ) → slice_get words (from + k) ≡ None → take k these ≡ these
  these_are_all k none = take_all k these (omega (arith, past_the_words k none, length_of_these))

  pub prints_one_more : (k word : ℕ) (a b c : Outside) → k < count → slice_get words (from + k) ≡ Some word
      → Prints a b (flat_map and_word (take k these)) → Prints b c (and_word word)
      → Prints a c (flat_map and_word (take (k + 1) these))
  prints_one_more k word a b c below is before next =
      subst (λ (t : List ℕ). Prints a c t) (one_more and_word these k 0 (is_there k word below is))
      (prints-then a b c _ _ before (subst (λ (w : ℕ). Prints b c (and_word w)) (sym (word_of_these k word below is)) next))

  pub part_of_these : (k word : ℕ) (a b c : Outside) → k < count → slice_get words (from + k) ≡ Some word
      → Prints a b (flat_map and_word (take k these)) → PrintsPart b c (and_word word) → PrintsPart a c (flat_map and_word these)
  part_of_these k word a b c below is before next =
      prints_part_of_words these k a b c (is_there k word below is) before
      (subst (λ (w : ℕ). PrintsPart b c (and_word w)) (sym (word_of_these k word below is)) next)

  -- their first word, and those after it
  first_of_these : (word : ℕ) → 0 < count → slice_get words from ≡ Some word
      → word ∷ some_words words (from + 1) (count - 1) ≡ these
  first_of_these word some is =
      let there : from < length words = slice_get_within words from word is in
      let begins : drop from words ≡ get_or words from 0 ∷ drop (from + 1) words = drop_more words from 0 there in
      let given : get_or words from 0 ≡ word = get_or_from_slice_get words from word 0 is in
      take_first word (drop (from + 1) words) count some
      ∙ (ap (λ w. take count (w ∷ drop (from + 1) words)) (sym given) ∙ ap (take count) (sym begins))

  -- none, where there is no first word
  none_of_these : slice_get words from ≡ None → [] ≡ these
  none_of_these none =
      let here : from + 0 ≡ from = omega arith in
      these_are_all 0 (ap (slice_get words) here ∙ none)

  pub part_of_some_words : (word : ℕ) (a b : Outside) → 0 < count → slice_get words from ≡ Some word
      → PrintsPart a b (line_of_answer (Dumped (word ∷ some_words words (from + 1) (count - 1))))
      → PrintsPart a b (line_of_answer (Dumped these))
  part_of_some_words word a b some is p =
      subst (λ (t : List ℕ). PrintsPart a b (line_of_answer (Dumped t))) (first_of_these word some is) p

  pub prints_some_words : (word : ℕ) (a b : Outside) → 0 < count → slice_get words from ≡ Some word
      → Prints a b (line_of_answer (Dumped (word ∷ some_words words (from + 1) (count - 1))))
      → Prints a b (line_of_answer (Dumped these))
  prints_some_words word a b some is p =
      subst (λ (t : List ℕ). Prints a b (line_of_answer (Dumped t))) (first_of_these word some is) p

  pub part_of_no_words : (a b : Outside) → slice_get words from ≡ None → PrintsPart a b (10 ∷ [])
      → PrintsPart a b (line_of_answer (Dumped these))
  part_of_no_words a b none p = subst (λ (t : List ℕ). PrintsPart a b (line_of_answer (Dumped t))) (none_of_these none) p
