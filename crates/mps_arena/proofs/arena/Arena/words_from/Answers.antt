use Rattle.std.proofs.Common.{length, sym, subst, ap, arith}
use Rattle.mps_base.specs.Address.{word_of}
use Rattle.mps_arena.specs.Arena.{ArenaMemory, AreHeldWords}
use Rattle.mps_arena.specs.Grains.{runs_in}
use Rattle.mps_arena.proofs.Held.{held_in_arena, held_are_stored, block_is_stored}
use Rattle.mps_arena.proofs.arena.Arena.words_from.Goals as goal

pub words_from-requires : goal.words_from-requires
words_from-requires c =
    let inside = c.self.inside in
    let from = word_of c.args.at.0 in
    let held = subst (λ (a : ArenaMemory). AreHeldWords a.held from 1) (sym c.self.view_is) c.requires.held in
    let fits = held_in_arena inside.memory.words inside.runs.items inside.committed inside.limit from 1 c.self.invariant.0 held in
    omega (
      arith,
      c.word.ensures,
      held_are_stored (runs_in inside.runs.items) (length inside.memory.words) inside.memory.stored from 1 c.self.invariant.1 held fits,
    )

pub returns-clause-complete : goal.returns-clause-complete
returns-clause-complete c = λ n few within.
    let inside = c.self.inside in
    let from = word_of c.args.at.0 in
    let held = subst (λ (a : ArenaMemory). AreHeldWords a.held from 1) (sym c.self.view_is) c.requires.held in
    let long = ap (λ (a : ArenaMemory). length a.words) c.self.view_is in
    omega (
      arith,
      c.word.ensures,
      c.words_from.ensures.len,
      block_is_stored (runs_in inside.runs.items) (length inside.memory.words) inside.memory.stored from n c.self.invariant.1 held few
          (omega (arith, long, within)),
    )
