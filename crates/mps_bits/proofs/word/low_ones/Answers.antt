use Rattle.std.proofs.Common.{ℕ, ◌≡◌, ◌-◌, ◌^◌, ◌∙◌, ap, arith}
use Rattle.std.proofs.lemmas.Nat.Bits.{ones_shr}
use Rattle.mps_bits.proofs.word.low_ones.Goals as goal

pub returns : goal.returns
returns c =
    let width : 64 - (64 - c.args.width) ≡ c.args.width = omega arith in
    ones_shr 64 (64 - c.args.width) (omega arith) ∙ ap (λ (k : ℕ). 2 ^ k - 1) width
