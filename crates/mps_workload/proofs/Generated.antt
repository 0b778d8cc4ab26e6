-- The lines that a generator has left, one line on.
use Rattle.std.proofs.Common.{◌≡◌, ℕ, suc, ◌+◌, ◌-◌, ◌<◌, ◌≤◌, false, eqb, List, [], ◌∷◌, ◌++◌, refl, sym, ap, ◌∙◌, arith}
use Rattle.std.proofs.lemmas.Bool.{ne_eqb}
use Rattle.mps_workload.specs.Script.{next_state, number_below, ending_lines, allocating_lines, lines_of_kind, step_lines, state_after_step, lines_from}

-- a step more
pub lines_more : (count step state : ℕ) → step < count
    → lines_from (count - step) step state ≡ step_lines step state ++ lines_from (count - (step + 1)) (step + 1) (state_after_step state)
unfolding lines_from
lines_more count step state lt =
    let n : count - step ≡ suc (count - (step + 1)) = omega arith in
    ap (λ (k : ℕ). lines_from k step state) n

pub no_lines_more : (count step state : ℕ) → count ≤ step → lines_from (count - step) step state ≡ ending_lines
unfolding lines_from
no_lines_more count step state le =
    let n : count - step ≡ 0 = omega arith in
    ap (λ (k : ℕ). lines_from k step state) n

-- the lines of a step by the three numbers that were drawn for it
step_drawn : (step state slot target kind : ℕ)
    → slot ≡ number_below 16 (next_state state) → target ≡ number_below 16 (next_state (next_state state))
    → kind ≡ number_below 8 (state_after_step state)
    → step_lines step state ≡ lines_of_kind kind step slot target
step_drawn step state slot target kind slot-is target-is kind-is = rw (slot-is, target-is, kind-is) refl

-- the kinds that make an object
pub makes_an_object : (kind step slot target : ℕ) → kind < 4 → lines_of_kind kind step slot target ≡ allocating_lines step slot target
makes_an_object kind step slot target lt =
    let a : eqb kind 4 ≡ false = ne_eqb kind 4 (λ e. omega (arith, e)) in
    let b : eqb kind 5 ≡ false = ne_eqb kind 5 (λ e. omega (arith, e)) in
    let c : eqb kind 6 ≡ false = ne_eqb kind 6 (λ e. omega (arith, e)) in
    let d : eqb kind 7 ≡ false = ne_eqb kind 7 (λ e. omega (arith, e)) in
    rw (a, b, c, d) refl

-- ---- the lines before a step, one line on

-- the first line of an object
pub object_begins : (count step state slot target kind after : ℕ) (text : List ℕ) (rest : List (List ℕ))
    → step < count
    → slot ≡ number_below 16 (next_state state) → target ≡ number_below 16 (next_state (next_state state))
    → kind ≡ number_below 8 (state_after_step state)
    → after ≡ state_after_step state → kind < 4
    → allocating_lines step slot target ≡ text ∷ rest
    → lines_from (count - step) step state ≡ text ∷ (rest ++ lines_from (count - (step + 1)) (step + 1) after)
object_begins count step state slot target kind after text rest lt slot-is target-is kind-is after-is small line =
    let lines : step_lines step state ≡ text ∷ rest =
    step_drawn step state slot target kind slot-is target-is kind-is ∙ makes_an_object kind step slot target small ∙ line in
    lines_more count step state lt
    ∙ ap (λ (x : List (List ℕ)). x ++ lines_from (count - (step + 1)) (step + 1) (state_after_step state)) lines
    ∙ ap (λ (s : ℕ). text ∷ (rest ++ lines_from (count - (step + 1)) (step + 1) s)) (sym after-is)

-- the one line of another step
pub step_ends : (count step state slot target kind after : ℕ) (text : List ℕ)
    → step < count
    → slot ≡ number_below 16 (next_state state) → target ≡ number_below 16 (next_state (next_state state))
    → kind ≡ number_below 8 (state_after_step state)
    → after ≡ state_after_step state
    → ((n : ℕ) → lines_of_kind kind n slot target ≡ text ∷ [])
    → lines_from (count - step) step state ≡ text ∷ lines_from (count - (step + 1)) (step + 1) after
step_ends count step state slot target kind after text lt slot-is target-is kind-is after-is line =
    let lines : step_lines step state ≡ text ∷ [] = step_drawn step state slot target kind slot-is target-is kind-is ∙ line step in
    lines_more count step state lt
    ∙ ap (λ (x : List (List ℕ)). x ++ lines_from (count - (step + 1)) (step + 1) (state_after_step state)) lines
    ∙ ap (λ (s : ℕ). text ∷ lines_from (count - (step + 1)) (step + 1) s) (sym after-is)
