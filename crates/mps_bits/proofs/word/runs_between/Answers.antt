use mir.Val.{bool_byte}
use Rattle.std.proofs.Common.{ℕ, ◌+◌, ◌-◌, ◌/◌, ◌^◌, ◌≡◌, Bool, true, false, not, eqb, cond, bit_and, refl, ap, ◌∙◌, w64}
use Rattle.std.specs.Prelude.{bit_xor}
use Rattle.std.specs.Int.{bit_not}
use Rattle.std.proofs.lemmas.Nat.{and_mask}
use Rattle.mps_bits.specs.OpenRuns.{is_one}
use Rattle.mps_bits.proofs.Adding.{bit_inside, carried_out}
use Rattle.mps_bits.proofs.word.runs_between.Goals as goal

-- a truth value as a number
byte_is : (b : Bool) → bool_byte b ≡ cond b 1 0
byte_is true = refl
byte_is false = refl

pub returns-clause-inside : goal.returns-clause-inside
returns-clause-inside c = λ i within.
    let sum = bit_not w64 c.args.ends + c.args.begins + cond c.args.first 1 0 in
    ap (λ (k : ℕ). is_one (bit_xor (bit_and (bit_not w64 c.args.ends + c.args.begins + k) (2 ^ 64 - 1)) (bit_not w64 c.args.ends)) i)
    (byte_is c.args.first)
    ∙ ap (λ (x : ℕ). is_one (bit_xor x (bit_not w64 c.args.ends)) i) (and_mask sum 64)
    ∙ bit_inside c.args.begins c.args.ends c.args.first c.ranges.begins.fits c.ranges.ends.fits c.requires.apart i within

pub returns-clause-rest : goal.returns-clause-rest
returns-clause-rest c =
    ap (λ (k : ℕ). not (eqb ((bit_not w64 c.args.ends + c.args.begins + k) / 2 ^ 64) 0)) (byte_is c.args.first)
    ∙ carried_out c.args.begins c.args.ends c.args.first c.ranges.begins.fits c.ranges.ends.fits c.requires.apart
