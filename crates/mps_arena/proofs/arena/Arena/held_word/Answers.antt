use Rattle.std.proofs.Common.{length, sym, subst, arith}
use Rattle.mps_base.specs.Address.{word_of}
use Rattle.mps_arena.specs.Arena.{ArenaMemory, AreHeldWords}
use Rattle.mps_arena.specs.Grains.{runs_in}
use Rattle.mps_arena.proofs.Held.{held_in_arena, held_are_stored}
use Rattle.mps_arena.proofs.arena.Arena.held_word.Goals as goal

pub stored_word-requires : goal.stored_word-requires
stored_word-requires c =
    let inside = c.self.inside in
    let at = word_of c.args.at.0 in
    let held = subst (λ (a : ArenaMemory). AreHeldWords a.held at 1) (sym c.self.view_is) c.requires in
    let fits = held_in_arena inside.memory.words inside.runs.items inside.committed inside.limit at 1 c.self.invariant.0 held in
    omega (
      arith,
      c.word.ensures,
      held_are_stored (runs_in inside.runs.items) (length inside.memory.words) inside.memory.stored at 1 c.self.invariant.1 held fits,
    )
