-- The generated script of a seed. A state is a number below 2^64, and the seed is the first one.
use Rattle.std.specs.Prelude.{◌≡◌, ℕ, zero, suc, ◌+◌, ◌-◌, ◌*◌, ◌/◌, ◌%◌, ◌^◌, Bool, false, ◌==◌, if◌then◌else◌, codes, decimal, List, [], ◌∷◌, ◌++◌, refl}
use Rattle.std.specs.Fmt.{digits}
use Rattle.std.specs.List.{flat_map}
use Rattle.std.specs.Str.{bytes_eq}

-- the state after one
abbrev pub next_state : ℕ → ℕ
next_state state = (state * 6364136223846793005 + 1442695040888963407) % 2 ^ 64

-- the number below a bound that a state gives
abbrev pub number_below : (bound state : ℕ) → ℕ
number_below bound state = state / 2 ^ 33 % bound

-- the lines that make things
abbrev pub making_lines : List (List ℕ)
making_lines =
    codes "arena 1024 1024\n" ∷ codes "chain c 4 8\n" ∷ codes "pool p amc front c\n" ∷ codes "table t 16\n" ∷ codes "ap x p exact\n" ∷ []

-- the last two lines, whose answers are those that a run prints
abbrev pub last_two_lines : List (List ℕ)
last_two_lines = codes "live\n" ∷ codes "committed\n" ∷ []

-- the last lines
abbrev pub ending_lines : List (List ℕ)
ending_lines = codes "collect\n" ∷ last_two_lines

-- the lines that make an object, which refers to what one slot refers to, and put it into another
abbrev pub allocating_lines : (step slot target : ℕ) → List (List ℕ)
allocating_lines step slot target =
    codes "reserve x f:8:3\n" ∷ (codes "init x 4 " ++ decimal step ++ codes "\n") ∷ (codes "init x 1 t." ++ decimal target ++ codes "\n")
    ∷ (codes "commit x t." ++ decimal slot ++ codes "\n") ∷ []

-- the lines of a step: of its eight kinds four make an object
abbrev pub lines_of_kind : (kind step slot target : ℕ) → List (List ℕ)
lines_of_kind kind step slot target =
    if kind == 4 then (codes "put t." ++ decimal slot ++ codes " 2 t." ++ decimal target ++ codes "\n") ∷ []
    else (if kind == 5 then (codes "get t." ++ decimal slot ++ codes " t." ++ decimal target ++ codes " 1\n") ∷ []
    else (if kind == 6 then (codes "num t." ++ decimal slot ++ codes " 4\n") ∷ []
    else (if kind == 7 then codes "step 7\n" ∷ []
    else allocating_lines step slot target)))

-- the lines of a step, with the three numbers that its states give
abbrev pub step_lines : (step state : ℕ) → List (List ℕ)
step_lines step state =
    lines_of_kind (number_below 8 third) step (number_below 16 first) (number_below 16 second)
  where
    first : ℕ
    first = next_state state

    second : ℕ
    second = next_state first

    third : ℕ
    third = next_state second

-- the state after a step
abbrev pub state_after_step : ℕ → ℕ
state_after_step state = next_state (next_state (next_state state))

-- the lines of n steps from one on, and the last lines
unfoldable pub lines_from : (count step state : ℕ) → List (List ℕ)
lines_from zero step state = ending_lines
lines_from (suc count) step state = step_lines step state ++ lines_from count (step + 1) (state_after_step state)

-- the lines of the script
abbrev pub script_lines : (seed count : ℕ) → List (List ℕ)
script_lines seed count = making_lines ++ lines_from count 0 seed

-- the script
abbrev pub script : (seed count : ℕ) → List ℕ
script seed count = flat_map (λ line. line) (script_lines seed count)

-- whether the lines are this text together
abbrev is_spelled : (lines : List (List ℕ)) → (text : List ℕ) → Bool
is_spelled lines text = bytes_eq (flat_map (λ line. line) lines) text

pub the_state_after_zero : next_state 0 ≡ 1442695040888963407
the_state_after_zero = refl

pub the_state_after_one : next_state 1 ≡ 7806831264735756412
the_state_after_one = refl

pub a_state_wraps_at_its_bound : next_state (2 ^ 64 - 1) ≡ 13525302890751722018
a_state_wraps_at_its_bound = refl

pub the_state_after_three : state_after_step 1 ≡ 11960119808228829710
the_state_after_three = refl

pub the_lowest_bits_say_nothing : number_below 16 (2 ^ 33 - 1) ≡ 0
the_lowest_bits_say_nothing = refl

pub the_next_bit_says_one : number_below 16 (2 ^ 33) ≡ 1
the_next_bit_says_one = refl

pub a_bound_is_not_reached : number_below 16 (2 ^ 37) ≡ 0
a_bound_is_not_reached = refl

pub the_number_of_the_last_state : number_below 8 (2 ^ 64 - 1) ≡ 7
the_number_of_the_last_state = refl

pub kind_zero_makes_an_object :
    lines_of_kind 0 12 7 10
    ≡ codes "reserve x f:8:3\n" ∷ codes "init x 4 12\n" ∷ codes "init x 1 t.10\n" ∷ codes "commit x t.7\n" ∷ []
unfolding digits
kind_zero_makes_an_object = refl

pub kind_three_makes_one_too : lines_of_kind 3 12 7 10 ≡ lines_of_kind 0 12 7 10
kind_three_makes_one_too = refl

pub kind_four_puts_a_reference : lines_of_kind 4 12 7 10 ≡ codes "put t.7 2 t.10\n" ∷ []
unfolding digits
kind_four_puts_a_reference = refl

pub kind_five_gets_a_reference : lines_of_kind 5 12 7 10 ≡ codes "get t.7 t.10 1\n" ∷ []
unfolding digits
kind_five_gets_a_reference = refl

pub kind_six_reads_a_number : lines_of_kind 6 12 7 10 ≡ codes "num t.7 4\n" ∷ []
unfolding digits
kind_six_reads_a_number = refl

pub kind_seven_lets_the_collector_work : lines_of_kind 7 12 7 10 ≡ codes "step 7\n" ∷ []
kind_seven_lets_the_collector_work = refl

-- of state 1 come slot 6, target 9 and kind 4
pub a_step_that_puts : step_lines 0 1 ≡ codes "put t.6 2 t.9\n" ∷ []
unfolding digits
a_step_that_puts = refl

pub the_target_is_not_drawn_first : is_spelled (step_lines 0 1) (codes "put t.9 2 t.6\n") ≡ false
unfolding digits
the_target_is_not_drawn_first = refl

pub the_kind_is_not_drawn_first : is_spelled (step_lines 0 1) (codes "num t.9 4\n") ≡ false
unfolding digits
the_kind_is_not_drawn_first = refl

-- of state 0 come slot 15, target 8 and kind 1
pub a_step_that_makes_an_object :
    step_lines 3 0
    ≡ codes "reserve x f:8:3\n" ∷ codes "init x 4 3\n" ∷ codes "init x 1 t.8\n" ∷ codes "commit x t.15\n" ∷ []
unfolding digits
a_step_that_makes_an_object = refl

-- of the last state come slot 8, target 7 and kind 5
pub a_step_of_the_last_state : step_lines 0 (2 ^ 64 - 1) ≡ codes "get t.8 t.7 1\n" ∷ []
unfolding digits
a_step_of_the_last_state = refl

-- the second step has the number 1, and its states come after those of the first
pub two_steps :
    lines_from 2 0 1
    ≡ codes "put t.6 2 t.9\n"
    ∷ codes "reserve x f:8:3\n" ∷ codes "init x 4 1\n" ∷ codes "init x 1 t.10\n" ∷ codes "commit x t.6\n"
    ∷ codes "collect\n" ∷ codes "live\n" ∷ codes "committed\n" ∷ []
unfolding digits lines_from
two_steps = refl

pub a_script_of_no_steps :
    script 1 0
    ≡ codes "arena 1024 1024\nchain c 4 8\npool p amc front c\ntable t 16\nap x p exact\ncollect\nlive\ncommitted\n"
unfolding lines_from
a_script_of_no_steps = refl
