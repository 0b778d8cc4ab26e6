use Rattle.std.proofs.Common.{ℕ, ◌≡◌, ◌+◌, max, ap, ◌∙◌, arith}
use Rattle.mps_arena.specs.Memory.{StoredWords, memory_with, with_stored_word}
use Rattle.mps_arena.proofs.Padded.{state_set}
use Rattle.mps_arena.proofs.memory.Memory.store_word.Goals as goal

pub returns : goal.returns
returns c =
    let inside = c.self.inside in
    let old = c.args.self.now in
    let word = c.args.word in
    let grown : memory_with inside.size inside.stored.items ≡ record old { stored = max old.stored (word + 1) } =
    c.self.view_is ∙ c.grow.ensures
    in
    state_set inside.size inside.stored.items word c.args.value (omega (arith, ap (λ (m : StoredWords). m.stored) grown))
    ∙ ap (λ (m : StoredWords). with_stored_word m word c.args.value) grown
    ∙ ap (λ (n : ℕ). record (with_stored_word old word c.args.value) { stored = n })
    (let e : max (max old.stored (word + 1)) (word + 1) ≡ max old.stored (word + 1) = omega arith in e)
