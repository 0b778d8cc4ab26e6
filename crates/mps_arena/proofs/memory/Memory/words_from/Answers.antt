use Rattle.std.proofs.Common.{ℕ, ◌≡◌, List, length, take, drop, sym, ap, ◌∙◌, subst, arith}
use Rattle.mps_arena.specs.Memory.{StoredWords}
use Rattle.mps_arena.proofs.Padded.{padded_tail, tail_of}
use Rattle.mps_arena.proofs.memory.Memory.words_from.Goals as goal

pub returns-clause-value : goal.returns-clause-value
returns-clause-value c =
    let inside = c.self.inside in
    let from = c.args.from in
    let P : List ℕ → Type 0 = λ ws. tail_of ws from ≡ take (length (tail_of ws from)) (drop from c.args.self.now.words) in
    subst P (sym c.deref.ensures.value)
    (padded_tail inside.size inside.stored.items from (omega (arith, ap (λ (m : StoredWords). m.stored) c.self.view_is, c.requires))
    ∙ ap (λ (m : StoredWords). take (length (tail_of inside.stored.items from)) (drop from m.words)) c.self.view_is)
