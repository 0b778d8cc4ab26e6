use Rattle.std.proofs.Common.{ℕ, ◌/◌, ◌%◌, ◌∙◌, eqb, get_or, ap, sym, arith}
use Rattle.std.specs.Int.{bit_at}
use Rattle.std.proofs.lemmas.Nat.Bits.{bit_at-zero, shr_and_one}
use Rattle.mps_bits.specs.Row.{bit_in}
use Rattle.mps_xform.proofs.replacements.is_marked.Goals as goal

pub returns-in-Some : goal.returns-in-Some
unfolding bit_in
returns-in-Some c =
    let mark = c.mark_of-mark.result in
    ap (λ (x : ℕ). eqb x 1) (shr_and_one _ (mark % 64))
    ∙ ap (λ (word : ℕ). eqb (bit_at word (mark % 64)) 1) (c.in-Some.ensures.lookup.4 (omega arith) 0)
    ∙ ap (λ (n : ℕ). eqb (bit_at (get_or c.args.marks.now (n / 64) 0) (n % 64)) 1) c.mark_of-mark.ensures.value

pub returns-in-None : goal.returns-in-None
unfolding bit_in
returns-in-None c =
    let mark = c.mark_of-mark.result in
    sym (ap (λ (x : ℕ). eqb x 1) (bit_at-zero (mark % 64)))
    ∙ ap (λ (word : ℕ). eqb (bit_at word (mark % 64)) 1) (c.in-None.ensures.lookup.4 (omega arith) 0)
    ∙ ap (λ (n : ℕ). eqb (bit_at (get_or c.args.marks.now (n / 64) 0) (n % 64)) 1) c.mark_of-mark.ensures.value
