use Rattle.std.proofs.Common.{ℕ, ◌≡◌, ◌+◌, ◌*◌, ◌≤◌, length, ap, ◌∙◌, arith}
use Rattle.std.proofs.lemmas.List.{length-replicate}
use Rattle.mps_arena.specs.Arena.{ArenaMemory, cleared_words, new_arena}
use Rattle.mps_arena.proofs.Padded.{cleared_long}
use Rattle.mps_arena.proofs.tests.reads_zeros_after_what_was_written.Goals as goal

fresh_long : (a : ArenaMemory) (grains limit : ℕ) → a ≡ new_arena grains limit → length a.words ≡ 512 * (grains + 1)
fresh_long a grains limit is = ap (λ (b : ArenaMemory). length b.words) is ∙ length-replicate (512 * (grains + 1)) 0

after_clear : (a b : ArenaMemory) (from n : ℕ) → b ≡ record a { words = cleared_words a.words from n } → from + n ≤ length a.words
    → length b.words ≡ length a.words
after_clear a b from n is fits = ap (λ (c : ArenaMemory). length c.words) is ∙ cleared_long a.words from n fits

pub set_word-requires : goal.set_word-requires
set_word-requires c = λ c'.
    let fresh = fresh_long c'.in_ok-arena.arena 255 255 c'.in_ok-arena.ensures in
    let taken = ap (λ (a : ArenaMemory). length a.words) c'.take_run.ensures.state in
    let cleared = after_clear c'.take_run.new.self c'.clear.new.self 66000 2000 c'.clear.ensures (omega (arith, fresh, taken)) in
    omega (arith, fresh, taken, cleared)
