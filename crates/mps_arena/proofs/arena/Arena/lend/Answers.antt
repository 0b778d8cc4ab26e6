use Rattle.std.proofs.Common.{length, sym, subst}
use Rattle.mps_base.specs.Address.{word_of}
use Rattle.mps_arena.specs.Arena.{ArenaMemory, AreHeldWords}
use Rattle.mps_arena.specs.Grains.{runs_in}
use Rattle.mps_arena.proofs.Held.{held_in_arena, held_are_stored}
use Rattle.mps_arena.proofs.arena.Arena.lend.Goals as goal

pub slice-requires-clause-stored : goal.slice-requires-clause-stored
slice-requires-clause-stored c =
    let inside = c.self.inside in
    let from = word_of c.args.at.0 in
    let held = subst (λ (a : ArenaMemory). AreHeldWords a.held from c.args.words) (sym c.self.view_is) c.requires.held in
    let fits =
    held_in_arena inside.memory.words inside.runs.items inside.committed inside.limit from c.args.words c.self.invariant.0 held
    in
    held_are_stored (runs_in inside.runs.items) (length inside.memory.words) inside.memory.stored from c.args.words c.self.invariant.1
    held fits
