use Rattle.std.proofs.Common.{ℕ, ◌+◌, ◌-◌, ◌++◌, take, replicate, max, ap, ◌∙◌, arith}
use Rattle.mps_arena.specs.Memory.{StoredWords}
use Rattle.mps_arena.proofs.Padded.{sizes_of, state_grown}
use Rattle.mps_arena.proofs.memory.Memory.grow.Goals as goal

pub overflow_add-end : goal.overflow_add-end
overflow_add-end c =
    let inside = c.self.inside in
    let sizes = sizes_of inside.size inside.stored (c.args.self.now) c.self.view_is c.self.invariant.0 in
    omega (arith, sizes.all, c.requires, c.self.invariant.1, inside.stored.small)

pub invariant_of-self : goal.invariant_of-self
invariant_of-self c =
    let inside = c.self.inside in
    let sizes = sizes_of inside.size inside.stored (c.args.self.now) c.self.view_is c.self.invariant.0 in
    (omega (arith, sizes.all, c.requires, c.in-Ok.ensures.len), omega (arith, c.self.invariant.1, c.resize.ensures.capacity))

pub unreachable-requires : goal.unreachable-requires
unreachable-requires c =
    let inside = c.self.inside in
    let sizes = sizes_of inside.size inside.stored (c.args.self.now) c.self.view_is c.self.invariant.0 in
    omega (arith, sizes.all, c.requires, c.self.invariant.1, c.in_default.ensures.full)

pub returns-in-Ok : goal.returns-in-Ok
returns-in-Ok c =
    let inside = c.self.inside in
    let sizes = sizes_of inside.size inside.stored (c.args.self.now) c.self.view_is c.self.invariant.0 in
    state_grown inside.size (c.args.from + c.args.count) inside.stored.items c.resize.new.self.items
    (omega (arith, inside.stored.ok.0, c.if-stored-end.true, c.len-stored.ensures)) (omega (arith, sizes.all, c.requires))
    (c.in-Ok.ensures.items
    ∙ ap (λ (n : ℕ). take (c.args.from + c.args.count) inside.stored.items ++ replicate (c.args.from + c.args.count - n) 0)
    inside.stored.ok.0)
    ∙ ap (λ (m : StoredWords). record m { stored = max m.stored (c.args.from + c.args.count) }) c.self.view_is
