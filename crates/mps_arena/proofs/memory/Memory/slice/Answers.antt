use Rattle.std.proofs.Common.{ℕ, ◌-◌, List, take, drop, sym, ap, ◌∙◌, arith, slice_range}
use Rattle.mps_arena.specs.Memory.{StoredWords}
use Rattle.mps_arena.proofs.Padded.{padded_part}
use Rattle.mps_arena.proofs.memory.Memory.slice.Goals as goal

pub returns : goal.returns
returns c =
    let inside = c.self.inside in
    let n = c.args.end - c.args.from in
    ap (λ (ws : List ℕ). take n (drop c.args.from ws)) c.deref.ensures.value
    ∙ sym (padded_part inside.size inside.stored.items c.args.from n
    (omega (arith, ap (λ (m : StoredWords). m.stored) c.self.view_is, c.requires.ordered, c.requires.stored)))
    ∙ ap (λ (m : StoredWords). slice_range m.words c.args.from c.args.end) c.self.view_is
