-- The block that a search by an address finds.
use Rattle.std.proofs.Common.{ℕ, ◌%◌, ◌≡◌, List, Contains, refl, ap, subst, arith, Option, Some, None, option_map}
use Rattle.mps_base.specs.Run.{Run}
use Rattle.mps_base.specs.Address.{word_of, bytes_of_word}
use Rattle.mps_base.specs.declared.address.Addr.{Addr}
use Rattle.mps_extents.specs.Extents.{run_over}
use Rattle.mps_extents.proofs.RunOver.{run_over-contains}
use Rattle.mps_seg.specs.Segs.{at_word}

pub block_found : (rs : List Run) (word : ℕ) (at : Addr) → Some at ≡ option_map at_word (run_over rs word)
    → (n : ℕ) × Contains rs (record { from = word_of at.0; count = n })
block_found rs word at is = go (run_over rs word) refl is
  where
    go : (o : Option ℕ) → run_over rs word ≡ o → Some at ≡ option_map at_word o
        → (n : ℕ) × Contains rs (record { from = word_of at.0; count = n })
    go None found_none given = let never : Some at ≡ None = given in cc
    go (Some start) found_at given =
        let both : Some at ≡ Some (at_word start) = given in
        let same : at ≡ at_word start = cc in
        let word_is : start ≡ word_of at.0 = omega (arith, ap (λ (a : Addr). a.0) same) in
        let P : ℕ → Type 0 = λ p. (n : ℕ) × Contains rs (record { from = p; count = n }) in
        subst P word_is (run_over-contains rs word start found_at)

pub block_aligned : (rs : List Run) (word : ℕ) (at : Addr) → Some at ≡ option_map at_word (run_over rs word) → at.0 % bytes_of_word ≡ 0
block_aligned rs word at is = go (run_over rs word) is
  where
    go : (o : Option ℕ) → Some at ≡ option_map at_word o → at.0 % bytes_of_word ≡ 0
    go None given = let never : Some at ≡ None = given in cc
    go (Some start) given =
        let both : Some at ≡ Some (at_word start) = given in
        let same : at ≡ at_word start = cc in
        omega (arith, ap (λ (a : Addr). a.0) same)
