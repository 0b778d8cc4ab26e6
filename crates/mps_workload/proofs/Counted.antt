-- How many lines a generated script has, and how many a generator has left.
use Rattle.std.proofs.Common.{◌≡◌, ◌≢◌, ℕ, zero, suc, ◌+◌, ◌-◌, ◌*◌, ◌≤◌, ◌==◌, Bool, true, false, if◌then◌else◌, List, [], ◌++◌, length, drop, ap, arith}
use Rattle.std.proofs.lemmas.List.{length-append, length-drop}
use Rattle.mps_workload.specs.declared.lines.Position.{Position}
use Rattle.mps_workload.specs.declared.lines.Position.TheVariants as position
use Rattle.mps_workload.specs.Script.{making_lines, ending_lines, allocating_lines, lines_of_kind, step_lines, state_after_step, lines_from, script_lines, next_state, number_below}
use Rattle.mps_workload.specs.GenLines.{lines_after, IsPosition}

few_chosen : (b : Bool) (xs ys : List (List ℕ)) → length xs ≤ 4 → length ys ≤ 4 → length (if b then xs else ys) ≤ 4
few_chosen true xs ys few few' = few
few_chosen false xs ys few few' = few'

few_of_kind : (kind step slot target : ℕ) → length (lines_of_kind kind step slot target) ≤ 4
few_of_kind kind step slot target =
    few_chosen (kind == 4) _ _ (omega arith)
    (few_chosen (kind == 5) _ _ (omega arith)
    (few_chosen (kind == 6) _ _ (omega arith) (few_chosen (kind == 7) _ _ (omega arith) (omega arith))))

few_from : (count step state : ℕ) → length (lines_from count step state) ≤ 4 * count + 3
unfolding lines_from
few_from zero step state = omega arith
few_from (suc count) step state =
    let both = length-append (step_lines step state) (lines_from count (step + 1) (state_after_step state)) in
    let few = few_of_kind (number_below 8 (state_after_step state)) step (number_below 16 (next_state state))
    (number_below 16 (next_state (next_state state))) in
    omega (arith, both, few, few_from count (step + 1) (state_after_step state))

-- a script of n steps has no more lines than this
pub few_lines : (seed count : ℕ) → length (script_lines seed count) ≤ 4 * count + 8
few_lines seed count = omega (arith, length-append making_lines (lines_from count 0 seed), few_from count 0 seed)

-- before the last lines at least three are left
some_from : (count step state : ℕ) → 3 ≤ length (lines_from count step state)
unfolding lines_from
some_from zero step state = omega arith
some_from (suc count) step state =
    omega (
      arith,
      length-append (step_lines step state) (lines_from count (step + 1) (state_after_step state)),
      some_from count (step + 1) (state_after_step state),
    )

some_later : (xs : List (List ℕ)) (count step state : ℕ) → length (xs ++ lines_from count step state) ≢ 2
some_later xs count step state two =
    omega (arith, two, length-append xs (lines_from count step state), some_from count step state)

-- two are left only after the first of the last lines
pub not_two_left : (at : Position) (state step count : ℕ) → IsPosition at step count → (at ≡ position.Ending 1 → ⊥)
    → length (lines_after at state step count) ≢ 2
not_two_left (position.Making written) state step count is other = some_later (drop written making_lines) (count - step) step state
not_two_left position.Stepping state step count is other = some_later [] (count - step) step state
not_two_left (position.Allocating written slot target) state step count is other =
    some_later (drop written (allocating_lines step slot target)) (count - (step + 1)) (step + 1) state
not_two_left (position.Ending written) state step count is other =
    λ two. other (ap position.Ending (omega (arith, two, length-drop written ending_lines)))

-- and more than the last two
pub some_lines : (seed count : ℕ) → 2 ≤ length (script_lines seed count)
some_lines seed count = omega (arith, length-append making_lines (lines_from count 0 seed))
