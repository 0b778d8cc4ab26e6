-- The lines that a generator has left.
use Rattle.std.specs.Prelude.{◌≡◌, ℕ, ◌+◌, ◌-◌, ◌<◌, ◌≤◌, List, ◌++◌, [], ◌∷◌, drop, codes, refl}
use Rattle.std.proofs.Common.{arith}
use Rattle.mps_workload.specs.declared.lines.Position.{Position}
use Rattle.mps_workload.specs.declared.lines.Position.TheVariants as position
use Rattle.mps_workload.specs.declared.lines.Standing.{Standing}
use Rattle.mps_workload.specs.Script.{making_lines, ending_lines, allocating_lines, lines_from, script_lines}

abbrev pub lines_after : Position → (state step count : ℕ) → List (List ℕ)
lines_after (position.Making written) state step count = drop written making_lines ++ lines_from (count - step) step state
lines_after position.Stepping state step count = lines_from (count - step) step state
lines_after (position.Allocating written slot target) state step count =
    drop written (allocating_lines step slot target) ++ lines_from (count - (step + 1)) (step + 1) state
lines_after (position.Ending written) state step count = drop written ending_lines

abbrev pub lines_left : Standing → List (List ℕ)
lines_left at = lines_after at.position at.state at.step at.count

-- where a generator may stand
abbrev pub IsPosition : Position → (step count : ℕ) → Type 0
IsPosition (position.Making written) step count = (written ≤ 4) × (step ≤ count)
IsPosition position.Stepping step count = step ≤ count
IsPosition (position.Allocating written slot target) step count = (written ≤ 3) × (step < count)
IsPosition (position.Ending written) step count = written ≤ 3

abbrev pub CanStand : Standing → Type 0
CanStand at = IsPosition at.position at.step at.count

pub a_new_generator_has_the_whole_script :
    lines_left (record { state = 1; step = 0; count = 0; position = position.Making 0 }) ≡ script_lines 1 0
a_new_generator_has_the_whole_script = refl

pub the_last_line_is_left : lines_left (record { state = 1; step = 0; count = 0; position = position.Ending 2 }) ≡ codes "committed\n" ∷ []
the_last_line_is_left = refl

pub before_the_last_step : IsPosition (position.Allocating 3 6 9) 2 3
before_the_last_step = (omega arith, omega arith)

pub no_step_after_the_last : IsPosition (position.Allocating 3 6 9) 3 3 → ⊥
no_step_after_the_last stands = omega arith

pub a_generator_may_have_ended : CanStand (record { state = 1; step = 3; count = 3; position = position.Ending 3 })
a_generator_may_have_ended = omega arith

pub no_fourth_line_at_the_end : CanStand (record { state = 1; step = 3; count = 3; position = position.Ending 4 }) → ⊥
no_fourth_line_at_the_end stands = omega arith
