use Rattle.std.proofs.Common.{ℕ, ◌≡◌, ◌+◌, ◌*◌, ◌≤◌, length, ap, ◌∙◌, arith}
use Rattle.std.proofs.lemmas.List.{length-replicate, length-set}
use Rattle.mps_arena.specs.Arena.{ArenaMemory, copied_words, new_arena}
use Rattle.mps_arena.proofs.Padded.{copied_long}
use Rattle.mps_arena.proofs.tests.copies_words_that_are_not_stored.Goals as goal
use Rattle.std.specs.Prelude.{slice_set}

after_set : (a b : ArenaMemory) (at word : ℕ) → a ≡ new_arena 255 255 → b ≡ record a { words = slice_set a.words at word }
    → length b.words ≡ 131072
after_set a b at word fresh is =
    ap (λ (c : ArenaMemory). length c.words) is
    ∙ length-set a.words at word
    ∙ ap (λ (c : ArenaMemory). length c.words) fresh
    ∙ length-replicate {A = ℕ} (512 * (255 + 1)) 0

after_copy : (a b : ArenaMemory) (from to n : ℕ) → b ≡ record a { words = copied_words a.words from to n } → length a.words ≡ 131072
    → from + n ≤ 131072 → to + n ≤ 131072 → length b.words ≡ 131072
after_copy a b from to n is long from_in to_in =
    ap (λ (c : ArenaMemory). length c.words) is
    ∙ copied_long a.words from to n (omega (arith, long, from_in)) (omega (arith, long, to_in))
    ∙ long

pub copy-requires-clause-from_in_arena : goal.copy-requires-clause-from_in_arena
copy-requires-clause-from_in_arena c = λ c'.
    let long = after_set c'.in_ok-arena.arena c'.set_word.new.self 600 7 c'.in_ok-arena.ensures c'.set_word.ensures in
    omega (arith, long)

pub copy-requires-clause-to_in_arena : goal.copy-requires-clause-to_in_arena
copy-requires-clause-to_in_arena c = λ c'.
    let long = after_set c'.in_ok-arena.arena c'.set_word.new.self 600 7 c'.in_ok-arena.ensures c'.set_word.ensures in
    omega (arith, long)

pub copy-requires-2-clause-from_in_arena : goal.copy-requires-2-clause-from_in_arena
copy-requires-2-clause-from_in_arena c = λ c'.
    let long = after_set c'.in_ok-arena.arena c'.set_word.new.self 600 7 c'.in_ok-arena.ensures c'.set_word.ensures in
    omega (arith, after_copy c'.set_word.new.self c'.copy.new.self 600 90000 2 c'.copy.ensures long (omega arith) (omega arith))

pub copy-requires-2-clause-to_in_arena : goal.copy-requires-2-clause-to_in_arena
copy-requires-2-clause-to_in_arena c = λ c'.
    let long = after_set c'.in_ok-arena.arena c'.set_word.new.self 600 7 c'.in_ok-arena.ensures c'.set_word.ensures in
    omega (arith, after_copy c'.set_word.new.self c'.copy.new.self 600 90000 2 c'.copy.ensures long (omega arith) (omega arith))

pub clear-requires : goal.clear-requires
clear-requires c = λ c'.
    let long = after_set c'.in_ok-arena.arena c'.set_word.new.self 600 7 c'.in_ok-arena.ensures c'.set_word.ensures in
    let once = after_copy c'.set_word.new.self c'.copy.new.self 600 90000 2 c'.copy.ensures long (omega arith) (omega arith) in
    omega (arith, after_copy c'.copy.new.self c'.copy-2.new.self 100000 600 1 c'.copy-2.ensures once (omega arith) (omega arith))
