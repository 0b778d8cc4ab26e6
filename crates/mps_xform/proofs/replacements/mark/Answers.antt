use Rattle.std.proofs.Common.{ℕ, ◌≡◌, ◌≢◌, ◌+◌, ◌-◌, ◌*◌, ◌/◌, ◌%◌, ◌^◌, ◌<◌, ◌≤◌, ◌⊎◌, ◌∙◌, bit_or, get_or, length, set, ap, sym, inl, inr, arith, w64}
use Rattle.std.specs.Int.{bit_at}
use Rattle.std.proofs.lemmas.Bool.{cases_lt}
use Rattle.std.proofs.lemmas.Nat.Bits.{bit_at_set_same, bit_at_set_other}
use Rattle.mps_bits.specs.Row.{bit_in}
use Rattle.mps_bits.proofs.Row.{bit_in_write_inside, bit_in_write_outside}
use Rattle.mps_xform.proofs.replacements.mark.Goals as goal

pub returns-clause-marked : goal.returns-clause-marked
returns-clause-marked c =
    let m = c.mark_of-mark.result in
    let marks = c.args.marks.now in
    let word = bit_or (get_or marks (m / 64) 0) (1 * 2 ^ (m % 64) % 2 ^ 64) in
    let column : m % 64 + (m - m) ≡ m % 64 = omega arith in
    let in_marks : m / 64 < length marks = omega (arith, c.requires, c.mark_of-mark.ensures.within) in
    ap (λ (i : ℕ). bit_in (set marks (m / 64) word) i) (sym c.mark_of-mark.ensures.value)
    ∙ bit_in_write_inside marks m 1 word m (omega arith) in_marks (omega arith) (omega arith)
    ∙ ap (λ (i : ℕ). bit_at word i) column
    ∙ bit_at_set_same w64 (get_or marks (m / 64) 0) (m % 64) (omega arith)

pub returns-clause-unchanged : goal.returns-clause-unchanged
returns-clause-unchanged c =
    let m = c.mark_of-mark.result in
    let marks = c.args.marks.now in
    let word = bit_or (get_or marks (m / 64) 0) (1 * 2 ^ (m % 64) % 2 ^ 64) in
    λ other apart.
    let differs : other ≢ m = λ same. apart (same ∙ c.mark_of-mark.ensures.value) in
    let out : (other < m) ⊎ (m + 1 ≤ other) =
    elim (cases_lt other m) [ inl below ↦ inl below | inr from ↦ inr (omega (arith, from, differs)) ] in
    bit_in_write_outside marks m 1 word other (omega arith) (omega (arith, c.requires, c.mark_of-mark.ensures.within))
    (λ j small apart_in_word.
    bit_at_set_other w64 (get_or marks (m / 64) 0) (m % 64) (omega arith) j
    (λ same. elim apart_in_word [ inl below ↦ omega (arith, below, same) | inr above ↦ omega (arith, above, same) ]))
    out
