use Rattle.std.proofs.Common.{List, refl, sym, ap, ◌∙◌, subst, arith}
use Rattle.mps_base.specs.Run.{Run}
use Rattle.mps_arena.specs.Arena.{ArenaMemory, AreHeldWords, held_after, placement_in}
use Rattle.mps_arena.proofs.tests.lends_what_is_given_back_later.Goals as goal

first : Run
first = record { from = 1; count = 1 }

pub lend-all-requires-clause-held : goal.lend-all-requires-clause-held
unfolding first
lend-all-requires-clause-held c = λ c'.
    subst (λ (held : List Run). AreHeldWords held 512 4)
    (sym
    (ap (λ (a : ArenaMemory). a.held) c'.take_run.ensures.state
    ∙ ap (λ (a : ArenaMemory). held_after (placement_in a 1) a.held) c'.in_ok-arena.ensures))
    (record { run = first; listed = (0, omega arith, refl); after = omega arith; before = omega arith })
