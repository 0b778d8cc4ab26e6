-- The open frames of a pool ascend: after one is opened, after blocks are made, and up to one of them.
use Rattle.std.proofs.Common.{◌≡◌, ℕ, zero, suc, ◌≤◌, true, refl, List, [], ◌∷◌, Some, arith}
use Rattle.std.proofs.lemmas.Bool.{and_parts, and_from, leb-true, le-leb}
use Rattle.std.proofs.lemmas.Option.{none-some, same_Some}
use Rattle.std.specs.Prelude.{◌&&◌, nat_le, slice_get, take}
use Rattle.mps_model.specs.Graph.{with_last}
use Rattle.mps_model.specs.WellFormed.{are_rising}

-- a frame more at the end
pub rising_last : (from most : ℕ) (ns : List ℕ) → from ≤ most → are_rising from most ns ≡ true
    → are_rising from most (with_last ns most) ≡ true
rising_last from most [] low h =
    and_from (nat_le from most) (nat_le most most && true) (le-leb from most low)
    (and_from (nat_le most most) true (le-leb most most (omega arith)) refl)
rising_last from most (n ∷ ns) low h =
    let first = and_parts (nat_le from n) (nat_le n most && are_rising n most ns) h in
    let rest = and_parts (nat_le n most) (are_rising n most ns) first.1 in
    and_from (nat_le from n) (nat_le n most && are_rising n most (with_last ns most)) first.0
    (and_from (nat_le n most) (are_rising n most (with_last ns most)) rest.0
    (rising_last n most ns (leb-true n most rest.0) rest.1))

-- more blocks
pub rising_more : (from most more : ℕ) (ns : List ℕ) → most ≤ more → are_rising from most ns ≡ true → are_rising from more ns ≡ true
rising_more from most more [] high h = refl
rising_more from most more (n ∷ ns) high h =
    let first = and_parts (nat_le from n) (nat_le n most && are_rising n most ns) h in
    let rest = and_parts (nat_le n most) (are_rising n most ns) first.1 in
    let low = leb-true n most rest.0 in
    and_from (nat_le from n) (nat_le n more && are_rising n more ns) first.0
    (and_from (nat_le n more) (are_rising n more ns) (le-leb n more (omega (arith, low, high))) (rising_more n most more ns high rest.1))

pub record IsCut (from most n : ℕ) (ns : List ℕ) : Type 0 where
  pub low : from ≤ n
  pub high : n ≤ most
  pub rising : are_rising from n ns ≡ true

-- the frames before one of them
pub rising_cut : (from most : ℕ) (ns : List ℕ) (k n : ℕ) → slice_get ns k ≡ Some n → are_rising from most ns ≡ true
    → IsCut from most n (take k ns)
rising_cut from most [] k n e h = absurd (none-some n e)
rising_cut from most (m ∷ ms) zero n e h =
    let first = and_parts (nat_le from m) (nat_le m most && are_rising m most ms) h in
    let rest = and_parts (nat_le m most) (are_rising m most ms) first.1 in
    let same : m ≡ n = same_Some m n e in
    let low = leb-true from m first.0 in
    let high = leb-true m most rest.0 in
    record { low = omega (arith, same, low); high = omega (arith, same, high); rising = refl }
rising_cut from most (m ∷ ms) (suc k) n e h =
    let first = and_parts (nat_le from m) (nat_le m most && are_rising m most ms) h in
    let rest = and_parts (nat_le m most) (are_rising m most ms) first.1 in
    let cut = rising_cut m most ms k n e rest.1 in
    let low = leb-true from m first.0 in
    let above = cut.low in
    record {
      low = omega (arith, low, above);
      high = cut.high;
      rising = and_from (nat_le from m) (nat_le m n && are_rising m n (take k ms)) first.0
          (and_from (nat_le m n) (are_rising m n (take k ms)) (le-leb m n above) cut.rising);
    }
