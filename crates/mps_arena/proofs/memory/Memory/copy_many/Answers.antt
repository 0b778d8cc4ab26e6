use Rattle.std.proofs.Common.{ℕ, ◌≡◌, ◌+◌, ◌-◌, List, ap, ◌∙◌, arith}
use Rattle.mps_arena.specs.Arena.{copied_words}
use Rattle.mps_arena.specs.Memory.{StoredWords, memory_with}
use Rattle.mps_arena.proofs.Padded.{state_copied_stored}
use Rattle.mps_arena.proofs.memory.Memory.copy_many.Goals as goal

pub returns : goal.returns
returns c =
    let inside = c.self.inside in
    let from = c.args.from in
    let to = c.args.to in
    let n = c.args.count in
    let stored = ap (λ (m : StoredWords). m.stored) c.self.view_is in
    let count : from + n - from ≡ n = omega arith in
    ap (λ (ws : List ℕ). memory_with inside.size ws)
    (c.copy_within.ensures.items ∙ ap (λ (k : ℕ). copied_words inside.stored.items from to k) count)
    ∙ state_copied_stored inside.size inside.stored.items from to n (omega (arith, stored, c.requires.from_stored))
    (omega (arith, stored, c.requires.to_stored))
    ∙ ap (λ (m : StoredWords). record m { words = copied_words m.words from to n }) c.self.view_is
