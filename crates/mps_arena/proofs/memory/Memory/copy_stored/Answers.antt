use Rattle.std.proofs.Common.{ℕ, ◌≡◌, ◌≤◌, ◌+◌, List, length, drop, sym, ap, ◌∙◌, arith}
use Rattle.std.proofs.lemmas.List.{take_at}
use Rattle.mps_arena.specs.Arena.{copied_words}
use Rattle.mps_arena.specs.Memory.{StoredWords, memory_with}
use Rattle.mps_arena.proofs.Padded.{copied_long, state_copied_stored}
use Rattle.mps_arena.proofs.memory.Memory.copy_stored.Goals as goal

pub returns-else-count-gt4 : goal.returns-else-count-gt4
returns-else-count-gt4 c =
    let inside = c.self.inside in
    let from = c.args.from in
    let to = c.args.to in
    let n = c.args.count in
    let items : List ℕ = inside.stored.items in
    let stored = ap (λ (m : StoredWords). m.stored) c.self.view_is in
    let from_in : from + n ≤ length items = omega (arith, stored, c.requires.from_stored) in
    let to_in : to + n ≤ length items = omega (arith, stored, c.requires.to_stored) in
    let copied : c.copy_few.new.words ≡ copied_words items from to n =
    c.copy_few.ensures ∙ ap (λ (ws : List ℕ). copied_words ws from to n) c.deref_mut.ensures.value
    in
    let long : length c.copy_few.new.words ≡ inside.stored.len =
    ap (λ (ws : List ℕ). length ws) copied ∙ copied_long items from to n from_in to_in ∙ sym inside.stored.ok.0
    in
    ap (λ (ws : List ℕ). memory_with inside.size ws)
    (take_at c.copy_few.new.words (drop (length c.copy_few.new.words) items) inside.stored.len long ∙ copied)
    ∙ state_copied_stored inside.size items from to n from_in to_in
    ∙ ap (λ (m : StoredWords). record m { words = copied_words m.words from to n }) c.self.view_is
