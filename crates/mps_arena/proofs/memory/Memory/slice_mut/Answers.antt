use Rattle.std.proofs.Common.{ℕ, List, refl, sym, ap, ◌∙◌, arith, slice_range}
use Rattle.mps_arena.specs.Memory.{memory_with}
use Rattle.mps_arena.proofs.Padded.{sizes_of, all_grown, padded_all, state_borrowed}
use Rattle.mps_arena.proofs.Loans.{written_over}
use Rattle.mps_arena.proofs.memory.Memory.slice_mut.Goals as goal

pub grow-requires : goal.grow-requires
grow-requires c =
    let inside = c.self.inside in
    let sizes = sizes_of inside.size inside.stored (c.args.self.now) c.self.view_is c.self.invariant.0 in
    omega (arith, sizes.all)

pub slice_mut-requires-clause-in_bounds : goal.slice_mut-requires-clause-in_bounds
slice_mut-requires-clause-in_bounds c =
    let old = c.args.self.now in
    let inside = c.self-2.inside in
    let first = sizes_of c.self.inside.size c.self.inside.stored old c.self.view_is c.self.invariant.0 in
    let grown = all_grown inside.size c.self.inside.size inside.stored old first.all
    (c.self-2.view_is ∙ c.grow.ensures) c.self-2.invariant.0
    in
    omega (arith, grown.all, grown.seen, inside.stored.ok.0, c.requires.within)

pub returns : goal.returns
returns c =
    let old = c.args.self.now in
    let inside = c.self-2.inside in
    let first = sizes_of c.self.inside.size c.self.inside.stored old c.self.view_is c.self.invariant.0 in
    let grown = all_grown inside.size c.self.inside.size inside.stored old first.all
    (c.self-2.view_is ∙ c.grow.ensures) c.self-2.invariant.0
    in (
      (
        refl,
        λ w. ap (λ (ws : List ℕ). memory_with inside.size ws)
            (written_over inside.stored.items w c.args.from inside.stored.len inside.stored.ok.0)
            ∙ state_borrowed inside.size inside.stored.items old.words w c.args.from grown.all grown.same,
      ),
      record {
        writes_back = tt;
        value = c.slice_mut.ensures.value ∙ ap (λ (ws : List ℕ). slice_range ws c.args.from c.args.end)
            (sym (padded_all inside.size inside.stored.items grown.all) ∙ grown.same);
      },
    )
