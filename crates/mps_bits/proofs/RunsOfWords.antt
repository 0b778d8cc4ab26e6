-- Runs of a row of bits, in one of its words.
use Rattle.std.proofs.Common.{ℕ, ◌+◌, ◌-◌, ◌*◌, ◌<◌, ◌≤◌, ◌≡◌, ◌||◌, ◌&&◌, Bool, false, not, eqb, List, get_or, sym, ap, ◌∙◌, arith}
use Rattle.mps_bits.specs.Row.{bit_in}
use Rattle.mps_bits.specs.OpenRuns.{goes_on, in_run, is_one, is_one_in, is_one_unless, AreRunsApart}
use Rattle.mps_bits.proofs.Adding.{goes_on_same, goes_on_after}
use Rattle.mps_bits.proofs.Clearing.{bit_in_row}

module _
    (begins others ends : List ℕ) (from at word : ℕ) (first : Bool) (ordered : from ≤ at)
    (going : first ≡ goes_on false (is_one_unless begins others (64 * from)) (is_one_in ends (64 * from)) (64 * (at - from)))
    (unless : (i : ℕ) → i < 64 → is_one word i ≡ is_one_unless begins others (64 * at) i)
  where
    index : (i : ℕ) → 64 * from + (64 * (at - from) + i) ≡ 64 * at + i
    index i = omega (arith, ordered)

    begins_here : (i : ℕ) → i < 64 → is_one_unless begins others (64 * from) (64 * (at - from) + i) ≡ is_one word i
    begins_here i within =
        ap (λ (k : ℕ). eqb (bit_in begins k) 1 && not (eqb (bit_in others k) 1)) (index i) ∙ sym (unless i within)

    ends_here : (i : ℕ) → i < 64 → is_one_in ends (64 * from) (64 * (at - from) + i) ≡ is_one (get_or ends at 0) i
    ends_here i within =
        ap (λ (k : ℕ). eqb (bit_in ends k) 1) (index i) ∙ ap (λ (x : ℕ). eqb x 1) (bit_in_row ends at i within)

    pub goes_on_here : (i : ℕ) → i ≤ 64
        → goes_on false (is_one_unless begins others (64 * from)) (is_one_in ends (64 * from)) (64 * (at - from) + i)
        ≡ goes_on first (is_one word) (is_one (get_or ends at 0)) i
    goes_on_here i within =
        let b = is_one_unless begins others (64 * from) in
        let e = is_one_in ends (64 * from) in
        let m = 64 * (at - from) in
        goes_on_after false b e m i
        ∙ ap (λ (f : Bool). goes_on f (λ j. b (m + j)) (λ j. e (m + j)) i) (sym going)
        ∙ goes_on_same first (λ j. b (m + j)) (is_one word) (λ j. e (m + j)) (is_one (get_or ends at 0)) i
        (λ j below. begins_here j (omega arith)) (λ j below. ends_here j (omega arith))

    pub in_run_here : (i : ℕ) → i < 64 → in_run first (is_one word) (is_one (get_or ends at 0)) i
        ≡ in_run false (is_one_unless begins others (64 * from)) (is_one_in ends (64 * from)) (64 * (at - from) + i)
    in_run_here i within =
        sym (ap (λ (b : Bool). b || goes_on false (is_one_unless begins others (64 * from)) (is_one_in ends (64 * from))
        (64 * (at - from) + i))
        (begins_here i within)
        ∙ ap (λ (b : Bool). is_one word i || b) (goes_on_here i (omega arith)))

    pub apart_here : (to : ℕ) → at < to
        → AreRunsApart false (is_one_unless begins others (64 * from)) (is_one_in ends (64 * from)) (64 * (to - from))
        → AreRunsApart first (is_one word) (is_one (get_or ends at 0)) 64
    apart_here to below apart i within is =
        sym (goes_on_here i (omega arith))
        ∙ apart (64 * (at - from) + i) (omega (arith, ordered)) (begins_here i within ∙ is)
