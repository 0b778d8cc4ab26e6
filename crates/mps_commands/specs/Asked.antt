-- When a machine is asked for a call.
use Rattle.std.specs.Prelude.{◌≡◌, ◌<◌, ◌^◌, Bool, true, false, not, nat_lt, length, refl}
use Rattle.std.proofs.Common.{ap, lit<}
use Rattle.mps_model.specs.declared.call.Call.{Call}
use Rattle.mps_model.specs.declared.call.Call.TheVariants as call
use Rattle.mps_model.specs.FirstCall.{is_arena}
use Rattle.mps_model.specs.World.{World, empty_world}

-- whether the arena was made
abbrev pub has_arena : World → Bool
has_arena w = nat_lt 0 w.grains

-- fewer flips came than 2^32. A run asks for no call in a world of more: it has fewer lines, and a line flips at most once
abbrev pub HasFewFlips : World → Type 0
HasFewFlips w = length w.flips < 2 ^ 32

-- a machine is asked for a call in its turn: it represents some world of few flips, in which the arena was made unless this call makes it
pub record IsAsked (stood : World → Type 0) (c : Call) : Type 0 where
  pub world : World
  pub stands : stood world
  pub few : HasFewFlips world
  pub turn : is_arena c ≡ not (has_arena world)

-- the machine represents this world alone
abbrev only : World → World → Type 0
only this w = w ≡ this

-- the world after `arena 1 1`
abbrev example_world : World
example_world = record empty_world { grains = 1; limit = 1 }

pub the_arena_comes_first : IsAsked (only empty_world) (call.Arena 1 1)
the_arena_comes_first = record { world = empty_world; stands = refl; few = lit< tt; turn = refl }

pub nothing_else_does : ¬ IsAsked (only empty_world) call.Live
nothing_else_does asked =
    let turn : false ≡ not (has_arena asked.world) = asked.turn in
    let none : has_arena asked.world ≡ false = ap has_arena asked.stands in
    absurd cc

pub then_another_call : IsAsked (only example_world) call.Live
then_another_call = record { world = example_world; stands = refl; few = lit< tt; turn = refl }

pub no_second_arena : ¬ IsAsked (only example_world) (call.Arena 1 1)
no_second_arena asked =
    let turn : true ≡ not (has_arena asked.world) = asked.turn in
    let made : has_arena asked.world ≡ true = ap has_arena asked.stands in
    absurd cc
