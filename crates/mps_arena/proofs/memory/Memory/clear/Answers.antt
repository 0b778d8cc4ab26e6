use Rattle.std.proofs.Common.{ℕ, ◌≡◌, ◌+◌, ◌-◌, List, length, drop, min, sym, ap, ◌∙◌, arith}
use Rattle.mps_arena.specs.Arena.{cleared_words}
use Rattle.mps_arena.specs.Memory.{StoredWords, memory_with}
use Rattle.mps_arena.proofs.Padded.{sizes_of, state_cleared, state_clear, cleared_long}
use Rattle.std.proofs.lemmas.List.{take_at}
use Rattle.mps_arena.proofs.memory.Memory.clear.Goals as goal

pub overflow_add-from : goal.overflow_add-from
overflow_add-from c =
    let inside = c.self.inside in
    let sizes = sizes_of inside.size inside.stored (c.args.self.now) c.self.view_is c.self.invariant.0 in
    omega (arith, sizes.all, c.requires, c.self.invariant.1, inside.stored.small)

pub returns-then-from-end : goal.returns-then-from-end
returns-then-from-end c =
    let inside = c.self.inside in
    let sizes = sizes_of inside.size inside.stored (c.args.self.now) c.self.view_is c.self.invariant.0 in
    let from = c.args.from in
    let m = c.min-end.result - from in
    let items : List ℕ = inside.stored.items in
    let ends : from + m ≡ min (length items) (from + c.args.count) =
    omega (arith, c.if-from-end.true, c.min-end.ensures, c.len.ensures, inside.stored.ok.0)
    in
    let cleared : c.write_zeros.new.words ≡ cleared_words items from m =
    c.write_zeros.ensures ∙ ap (λ (ws : List ℕ). cleared_words ws from m) c.deref_mut.ensures.value
    in
    let long : length c.write_zeros.new.words ≡ inside.stored.len =
    ap (λ (ws : List ℕ). length ws) cleared ∙ cleared_long items from m (omega (arith, ends)) ∙ sym inside.stored.ok.0
    in
    ap (λ (ws : List ℕ). memory_with inside.size ws)
    (take_at c.write_zeros.new.words (drop (length c.write_zeros.new.words) items) inside.stored.len long ∙ cleared)
    ∙ state_cleared inside.size items from c.args.count m sizes.few (omega (arith, sizes.all, c.requires)) ends
    ∙ ap (λ (s : StoredWords). record s { words = cleared_words s.words from c.args.count }) c.self.view_is

pub returns-else-from-end : goal.returns-else-from-end
returns-else-from-end c =
    let inside = c.self.inside in
    let sizes = sizes_of inside.size inside.stored (c.args.self.now) c.self.view_is c.self.invariant.0 in
    sym c.self.view_is
    ∙ state_clear inside.size inside.stored.items c.args.from c.args.count sizes.few (omega (arith, sizes.all, c.requires))
    (omega (arith, c.if-from-end.false, c.min-end.ensures, c.len.ensures, inside.stored.ok.0))
    ∙ ap (λ (m : StoredWords). record m { words = cleared_words m.words c.args.from c.args.count }) c.self.view_is
