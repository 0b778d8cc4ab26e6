use Rattle.std.proofs.Common.{ℕ, ◌≡◌, ◌+◌, length, min, max, ap, ◌∙◌, arith}
use Rattle.mps_base.specs.Address.{max_block_words}
use Rattle.mps_arena.proofs.Padded.{sizes_of}
use Rattle.mps_arena.proofs.memory.Memory.store_run.Goals as goal

pub overflow_add-end : goal.overflow_add-end
overflow_add-end c =
    let inside = c.self.inside in
    let sizes = sizes_of inside.size inside.stored (c.args.self.now) c.self.view_is c.self.invariant.0 in
    omega (arith, sizes.all, c.requires, c.self.invariant.1, inside.stored.small)

pub grow-requires : goal.grow-requires
grow-requires c =
    let inside = c.self.inside in
    let sizes = sizes_of inside.size inside.stored (c.args.self.now) c.self.view_is c.self.invariant.0 in
    omega (arith, sizes.all, c.min-end.ensures)

pub returns : goal.returns
returns c =
    let inside = c.self.inside in
    let sizes = sizes_of inside.size inside.stored (c.args.self.now) c.self.view_is c.self.invariant.0 in
    let end : 0 + c.min-end.result ≡ min (length c.args.self.now.words) (c.args.end + max_block_words) =
    omega (arith, sizes.all, c.min-end.ensures)
    in
    c.grow.ensures ∙ ap (λ (n : ℕ). record c.args.self.now { stored = max c.args.self.now.stored n }) end
