-- The grains below the first that may be free: what is taken or given back there, and where a search begins.
use Rattle.std.proofs.Common.{ℕ, zero, suc, ◌+◌, ◌-◌, ◌<◌, ◌≤◌, ◌≡◌, ◌≢◌, max, min, List, length, get_or, set, refl, sym, ap, ◌∙◌, subst, inl, inr, arith}
use Rattle.std.proofs.lemmas.Bool.{cases_lt}
use Rattle.std.proofs.lemmas.List.{get_or-set_same, get_or-set_other, get_or_past}
use Rattle.mps_base.specs.Run.{Run, IsAscending}
use Rattle.mps_base.proofs.Runs.{IsAscending-bounds}
use Rattle.mps_arena.specs.Inside.{AreFilled, AreHeldBelow}
use Rattle.mps_arena.specs.Grains.{runs_in}
use Rattle.mps_arena.proofs.Scan.{Scan, scan_start, scan_run, run_step, held_from_one, rest}
use Rattle.mps_arena.proofs.Table.{runs_later, runs_at_run}

-- an entry that isn't 0 is one of the table
some_is_within : (table : List ℕ) (grain : ℕ) → 0 < get_or table grain 0 → grain < length table
some_is_within table grain some = elim (cases_lt grain (length table)) [
  | inl within ↦ within
  | inr past ↦ absurd (omega (arith, some, get_or_past table grain 0 past))
]

pub filled_ascends : (n : ℕ) (table : List ℕ) (low high : ℕ) → AreFilled n table low high → low ≤ high
unfolding AreFilled
filled_ascends zero table low high filled = omega (arith, filled)
filled_ascends (suc n) table low high filled =
    omega (arith, filled.0, filled_ascends n table (low + get_or table low 0) high filled.1)

-- one more run at the end
filled_next : (n : ℕ) (table : List ℕ) (low high : ℕ) → AreFilled n table low high → 0 < get_or table high 0
    → AreFilled (suc n) table low (high + get_or table high 0)
unfolding AreFilled
filled_next zero table low high filled some =
    let P : ℕ → Type 0 = λ h. (0 < get_or table low 0) × (low + get_or table low 0 ≡ h + get_or table h 0) in
    let Q : ℕ → Type 0 = λ h. 0 < get_or table h 0 in
    subst P filled (subst Q (sym filled) some, refl)
filled_next (suc n) table low high filled some = (filled.0, filled_next n table (low + get_or table low 0) high filled.1 some)

-- what is written from `high` on changes nothing below
filled_below_set : (n : ℕ) (table : List ℕ) (low high at count : ℕ) → AreFilled n table low high → high ≤ at
    → AreFilled n (set table at count) low high
unfolding AreFilled
filled_below_set zero table low high at count filled above = filled
filled_below_set (suc n) table low high at count filled above =
    let later = filled_ascends n table (low + get_or table low 0) high filled.1 in
    let apart : low ≢ at = λ e. omega (arith, e, later, filled.0, above) in
    let same : get_or (set table at count) low 0 ≡ get_or table low 0 = get_or-set_other table at low count 0 apart in
    let P : ℕ → Type 0 = λ c. (0 < c) × AreFilled n (set table at count) (low + c) high in
    subst P (sym same) (filled.0, filled_below_set n table (low + get_or table low 0) high at count filled.1 above)

-- a run that begins below `high` is one of those that fill the grains
filled_up_to : (n : ℕ) (table : List ℕ) (low high at : ℕ) → AreFilled n table low high
    → IsAscending low (length table) (rest table low) → 0 < get_or table at 0 → low ≤ at → at < high
    → (m : ℕ) × AreFilled m table low at
unfolding AreFilled
filled_up_to zero table low high at filled ascending some from below = absurd (omega (arith, filled, from, below))
filled_up_to (suc n) table low high at filled ascending some from below =
    let count = get_or table low 0 in
    elim (cases_lt low at) [
      | inr here ↦ let same : low ≡ at = omega (arith, here, from) in (0, same)
      | inl before ↦
          let within = some_is_within table low filled.0 in
          let step = run_step table low ascending within filled.0 in
          let after : low + count ≤ at = run_is_later table low at ascending within filled.0 some before in
          let found = filled_up_to n table (low + count) high at filled.1 step.1 some after below in
          (suc found.0, (filled.0, found.1))
    ]
  where
    run_is_later : (table : List ℕ) (low at : ℕ) → IsAscending low (length table) (rest table low) → low < length table
        → 0 < get_or table low 0 → 0 < get_or table at 0 → low < at → low + get_or table low 0 ≤ at
    run_is_later table low at ascending within first some before =
        let count = get_or table low 0 in
        let P : List Run → Type 0 = λ rs. IsAscending low (length table) rs in
        let split = subst P (runs_at_run table low within first) ascending in
        elim (cases_lt at (low + count)) [
          | inr after ↦ after
          | inl inside ↦
              let size = some_is_within table at some in
              let jump : suc low + (at - suc low) ≡ at = omega (arith, before) in
              let bound = run_step table low ascending within first in
              let same : rest table (suc low) ≡ rest table at =
              runs_later (at - suc low) table (suc low) (low + count) (length table) split.2 (omega (arith, inside, before))
              (omega (arith, ends (low + count) table bound.1))
              ∙ ap (λ (g : ℕ). rest table g) jump
              in
              let Q : List Run → Type 0 = λ rs. IsAscending (low + count) (length table) rs in
              let there = subst Q (same ∙ runs_at_run table at size some) split.2 in
              absurd (omega (arith, there.0, inside))
        ]
      where
        ends : (grain : ℕ) (table : List ℕ) → IsAscending grain (length table) (rest table grain) → grain ≤ length table
        ends grain table ascending = IsAscending-bounds grain (length table) (rest table grain) ascending

-- ---- a search

-- it may begin after runs that fill the grains
scan_filled : (n : ℕ) (table : List ℕ) (need low high : ℕ) → 0 < need → Scan table need low low 0 → AreFilled n table low high
    → Scan table need high high 0
unfolding AreFilled
scan_filled zero table need low high some scan filled =
    let P : ℕ → Type 0 = λ g. Scan table need g g 0 in
    subst P filled scan
scan_filled (suc n) table need low high some scan filled =
    let next = low + get_or table low 0 in
    let P : ℕ → Type 0 = λ m. Scan table need next next m in
    let none : max 0 (low - low) ≡ 0 = omega arith in
    scan_filled n table need next high some
    (subst P none (scan_run table need low low 0 some scan (some_is_within table low filled.0) filled.0)) filled.1

pub scan_from : (table : List ℕ) (need from : ℕ) → 0 < need → 0 < length table → IsAscending 1 (length table) (runs_in table)
    → AreHeldBelow table from → Scan table need from from 0
scan_from table need from some size ascending (n, filled) =
    scan_filled n table need 1 from some (scan_start table need some size ascending) filled

-- while no free grain is passed over, all grains are held
pub passed_run : (table : List ℕ) (grain low most : ℕ) → low ≤ grain → 0 < get_or table grain 0
    → (most ≡ 0 → AreHeldBelow table low) → max most (grain - low) ≡ 0 → AreHeldBelow table (grain + get_or table grain 0)
passed_run table grain low most ordered some held none =
    let below = held (omega (arith, none)) in
    let same : low ≡ grain = omega (arith, none, ordered) in
    let P : ℕ → Type 0 = λ g. AreFilled below.0 table 1 g in
    (suc below.0, filled_next below.0 table 1 grain (subst P same below.1) some)

-- ---- what is taken and given back

pub none_held_below : (table : List ℕ) → AreHeldBelow table 1
unfolding AreFilled
none_held_below table = (0, refl)

pub held_after_take_at : (table : List ℕ) (grain need : ℕ) → grain < length table → 0 < need → AreHeldBelow table grain
    → AreHeldBelow (set table grain need) (grain + need)
held_after_take_at table grain need within some (n, filled) =
    let there : get_or (set table grain need) grain 0 ≡ need = get_or-set_same table grain need 0 within in
    let P : ℕ → Type 0 = λ c. AreFilled (suc n) (set table grain need) 1 (grain + c) in
    let Q : ℕ → Type 0 = λ c. 0 < c in (
      suc n,
      subst P there (filled_next n (set table grain need) 1 grain (filled_below_set n table 1 grain grain need filled (omega arith))
          (subst Q (sym there) some)),
    )

pub held_after_take_above : (table : List ℕ) (grain need from : ℕ) → from ≤ grain → AreHeldBelow table from
    → AreHeldBelow (set table grain need) from
held_after_take_above table grain need from above (n, filled) = (n, filled_below_set n table 1 from grain need filled above)

pub held_after_give : (table : List ℕ) (grain from : ℕ) → IsAscending 1 (length table) (runs_in table) → 0 < length table
    → 0 < get_or table grain 0 → 0 < grain → AreHeldBelow table from → AreHeldBelow (set table grain 0) (min from grain)
held_after_give table grain from ascending size some first (n, filled) =
    let P : ℕ → Type 0 = λ g. AreHeldBelow (set table grain 0) g in
    elim (cases_lt grain from) [
      | inr above ↦
          let same : min from grain ≡ from = omega (arith, above) in
          subst P (sym same) (n, filled_below_set n table 1 from grain 0 filled (omega (arith, above)))
      | inl below ↦
          let same : min from grain ≡ grain = omega (arith, below) in
          let Q : List Run → Type 0 = λ rs. IsAscending 1 (length table) rs in
          let ordered = subst Q (held_from_one table ascending size) ascending in
          let found = filled_up_to n table 1 from grain filled ordered some (omega (arith, first)) below in
          subst P (sym same) (found.0, filled_below_set found.0 table 1 grain grain 0 found.1 (omega arith))
    ]
