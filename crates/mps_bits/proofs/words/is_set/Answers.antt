use Rattle.std.proofs.Common.{ℕ, ◌/◌, ◌%◌, eqb, ap, get_or}
use Rattle.std.proofs.lemmas.Nat.Bits.{shr_and_one}
use Rattle.mps_bits.specs.Row.{bit_in}
use Rattle.mps_bits.proofs.words.is_set.Goals as goal

pub returns : goal.returns
unfolding bit_in
returns c = ap (λ (x : ℕ). eqb x 1) (shr_and_one (get_or c.args.words.now (c.args.at / 64) 0) (c.args.at % 64))
