use Rattle.std.proofs.Common.{ℕ, ◌≡◌, min, set, sym, ap, ◌∙◌, arith, Contains, length, subst}
use Rattle.std.proofs.lemmas.Bool.Decides.{nat_tests}
use Rattle.std.proofs.lemmas.Grind.{common_steps}
use Rattle.mps_arena.specs.Inside.{AreHeldBelow}
use Rattle.mps_arena.proofs.Below.{held_after_give}
use Rattle.mps_base.specs.Run.{Run, without_run}
use Rattle.mps_base.proofs.Runs.{contained_bounds}
use Rattle.mps_arena.specs.Grains.{runs_in}
use Rattle.mps_arena.specs.Arena.{ArenaMemory}
use Rattle.mps_arena.proofs.Held.{stored_after_give}
use Rattle.mps_arena.proofs.Scan.{entry_of, sound_after_give, state_after_give}
use Rattle.mps_arena.proofs.arena.Arena.give_run.Goals as goal
use Rattle.mps_base.specs.Address.{grain_of}

pub index_mut-requires : goal.index_mut-requires
index_mut-requires c =
    let run : Run = record { from = grain_of c.args.base.0; count = c.args.grains } in
    let P : ArenaMemory → Type 0 = λ a. Contains a.held run in
    let there = subst P (sym c.self.view_is) c.requires.held in
    omega (arith, (entry_of c.self.inside.runs.items run there).0, c.self.inside.runs.ok.0)

pub overflow_cast-grain : goal.overflow_cast-grain
overflow_cast-grain c =
    let run : Run = record { from = grain_of c.args.base.0; count = c.args.grains } in
    let P : ArenaMemory → Type 0 = λ a. Contains a.held run in
    let there = subst P (sym c.self.view_is) c.requires.held in
    omega (arith, (entry_of c.self.inside.runs.items run there).0, c.self.invariant.0.at_most)

pub invariant_of-self : goal.invariant_of-self
invariant_of-self c =
    let run : Run = record { from = grain_of c.args.base.0; count = c.args.grains } in
    let P : ArenaMemory → Type 0 = λ a. Contains a.held run in
    let there = subst P (sym c.self.view_is) c.requires.held in
    let inside = c.self.inside in
    let entry = entry_of inside.runs.items run there in
    let bounds = contained_bounds 1 (length inside.runs.items) (runs_in inside.runs.items) run c.self.invariant.0.ascending there in
    let lower : min inside.held_below run.from ≡ c.min-self-inside.result = grind (arith, nat_tests, common_steps) in (
      sound_after_give inside.memory.words inside.runs.items inside.committed inside.limit run c.self.invariant.0 there,
      stored_after_give inside.runs.items run (length inside.memory.words) inside.memory.stored there c.self.invariant.1,
      subst (λ (g : ℕ). AreHeldBelow (set inside.runs.items run.from 0) g) lower
          (held_after_give inside.runs.items run.from inside.held_below c.self.invariant.0.ascending
          (omega (arith, c.self.invariant.0.nonempty)) (omega (arith, entry.1, entry.2)) (omega (arith, bounds.0)) c.self.invariant.2),
    )

pub returns : goal.returns
returns c =
    let run : Run = record { from = grain_of c.args.base.0; count = c.args.grains } in
    let P : ArenaMemory → Type 0 = λ a. Contains a.held run in
    let there = subst P (sym c.self.view_is) c.requires.held in
    state_after_give c.self.inside.memory.words c.self.inside.runs.items c.self.inside.limit run there
    ∙ ap (λ (a : ArenaMemory). record a { held = without_run run.from a.held }) c.self.view_is
