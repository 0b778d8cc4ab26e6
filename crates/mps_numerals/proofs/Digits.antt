-- The digits of a number, counted, and written from the last one on.
use Rattle.std.proofs.Common.{◌≡◌, ℕ, zero, suc, ◌+◌, ◌-◌, ◌/◌, ◌^◌, ◌<◌, ◌≤◌, List, length, take, ap, sym, ◌∙◌, arith, w64, length-append, take-take}
use Rattle.std.specs.Int.{leading_zeros}
use Rattle.std.proofs.Math.Nat.{pow-suc}
use Rattle.std.proofs.lemmas.Nat.{leading_top, pow_pos}
use Rattle.mps_numerals.specs.Hexadecimal.{hexadecimal}
use Rattle.mps_numerals.proofs.Hexadecimals.{one_digit, last_digit}

pub one_long : (n : ℕ) → n < 16 → length (hexadecimal n) ≡ 1
one_long n small = ap length (one_digit n small)

pub one_longer : (n : ℕ) → 16 ≤ n → n < 2 ^ 64 → length (hexadecimal n) ≡ length (hexadecimal (n / 16)) + 1
one_longer n large fits = ap length (last_digit n large fits) ∙ length-append _ _

-- a number whose highest set bit has this index has a digit for each four bits below it, and one more
by_highest_bit : (bit n : ℕ) → n < 2 ^ 64 → 2 ^ bit ≤ n → n < 2 ^ suc bit → length (hexadecimal n) ≡ bit / 4 + 1
by_highest_bit zero n fits low high = omega (arith, one_long n (omega (arith, high)))
by_highest_bit (suc zero) n fits low high = omega (arith, one_long n (omega (arith, high)))
by_highest_bit (suc (suc zero)) n fits low high = omega (arith, one_long n (omega (arith, high)))
by_highest_bit (suc (suc (suc zero))) n fits low high = omega (arith, one_long n (omega (arith, high)))
by_highest_bit (suc (suc (suc (suc bit)))) n fits low high =
    let two = pow-suc 2 bit in
    let four = pow-suc 2 (suc bit) in
    let eight = pow-suc 2 (suc (suc bit)) in
    let sixteen = pow-suc 2 (suc (suc (suc bit))) in
    let above = pow-suc 2 (suc (suc (suc (suc bit)))) in
    let large : 16 ≤ n = omega (arith, low, two, four, eight, sixteen, pow_pos bit) in
    let rest = by_highest_bit bit (n / 16) (omega arith) (omega (arith, low, two, four, eight, sixteen))
    (omega (arith, high, two, four, eight, sixteen, above))
    in
    let next : suc (suc (suc (suc bit))) / 4 ≡ bit / 4 + 1 = omega arith in
    omega (arith, one_longer n large fits, rest, next)

pub digits_by_bits : (n : ℕ) → 0 < n → n < 2 ^ 64 → (67 - leading_zeros w64 n) / 4 ≡ length (hexadecimal n)
digits_by_bits n some fits =
    let top = leading_top 64 n some fits in
    omega (arith, top.1, by_highest_bit top.0 n fits top.2 top.3)

-- what is the same before an index is the same before one below it
pub less_of_it : (below index : ℕ) (a b : List ℕ) → below ≤ index → take index a ≡ take index b → take below a ≡ take below b
less_of_it below index a b less same = sym (take-take below index a less) ∙ ap (take below) same ∙ take-take below index b less
