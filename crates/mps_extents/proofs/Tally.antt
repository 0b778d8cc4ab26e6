-- How many blocks there are, and how many words they have.
use Rattle.std.proofs.Common.{ℕ, suc, ◌+◌, ◌-◌, ◌≤◌, ◌≡◌, Bool, true, false, List, [], ◌∷◌, length, get_or, Contains, refl, sym, ap, ◌∙◌, inl, inr, arith}
use Rattle.std.proofs.lemmas.Bool.{false≢true, cases_lt}
use Rattle.mps_base.specs.Run.{Run, end_of, IsAscending, with_run, without_run, total}
use Rattle.mps_base.proofs.Runs.{IsAscending-lower, IsAscending-bounds, total-cons, total-le, total-with_run, total-without_run, with_run_first, with_run_later, without_run_first, without_run_later, contains_cases, contained_bounds}
use Rattle.mps_extents.specs.Inside.{runs_with, extents, AreSoundTables, IsTally}
use Rattle.mps_extents.proofs.WrittenBits.{bit_is}

-- the runs that begin at a part of the bits ascend where those of all do
part_ascends : (f : ℕ → ℕ) (at low high : ℕ) (bits all : List Bool) → ((i : ℕ) → get_or bits i false ≡ true → get_or all i false ≡ true)
    → IsAscending low high (runs_with f at all) → IsAscending low high (runs_with f at bits)
unfolding runs_with
part_ascends f at low high [] all part ascending = IsAscending-bounds low high (runs_with f at all) ascending
part_ascends f at low high (false ∷ bits) [] part ascending =
    part_ascends f (suc at) low high bits [] (λ i is. absurd (false≢true (part (suc i) is))) ascending
part_ascends f at low high (true ∷ bits) [] part ascending = absurd (false≢true (part 0 refl))
part_ascends f at low high (true ∷ bits) (false ∷ all) part ascending = absurd (false≢true (part 0 refl))
part_ascends f at low high (false ∷ bits) (false ∷ all) part ascending =
    part_ascends f (suc at) low high bits all (λ i is. part (suc i) is) ascending
part_ascends f at low high (true ∷ bits) (true ∷ all) part ascending =
    (ascending.0, ascending.1, part_ascends f (suc at) (at + f at) high bits all (λ i is. part (suc i) is) ascending.2)
part_ascends f at low high (false ∷ bits) (true ∷ all) part ascending =
    IsAscending-lower (at + f at) low high (runs_with f (suc at) bits) (omega (arith, ascending.0, ascending.1))
    (part_ascends f (suc at) (at + f at) high bits all (λ i is. part (suc i) is) ascending.2)

pub blocks_ascend : (covered begins ends blocks : List Bool) → AreSoundTables covered begins ends blocks
    → IsAscending 0 (length begins) (extents blocks ends)
blocks_ascend covered begins ends blocks sound =
    part_ascends _ 0 0 (length begins) blocks begins
    (λ i is. sym (bit_is begins i) ∙ sound.blocks_begin i (bit_is blocks i ∙ is)) sound.ascending

length-le-total : (low high : ℕ) (rs : List Run) → IsAscending low high rs → length rs ≤ total rs
length-le-total low high [] ascending = omega arith
length-le-total low high (r ∷ rs) ascending =
    omega (arith, total-cons r rs, ascending.1, length-le-total (end_of r) high rs ascending.2)

length-with_run : (r : Run) (rs : List Run) → length (with_run r rs) ≡ length rs + 1
length-with_run r [] = refl
length-with_run r (s ∷ rs) =
    elim (cases_lt r.from s.from) [
      | inl before ↦ ap (λ (xs : List Run). length xs) (with_run_first r s rs before) ∙ omega arith
      | inr after ↦ ap (λ (xs : List Run). length xs) (with_run_later r s rs after) ∙ omega (arith, length-with_run r rs)
    ]

length-without_run : (low high : ℕ) (rs : List Run) (r : Run) → IsAscending low high rs → Contains rs r
    → length (without_run r.from rs) + 1 ≡ length rs
length-without_run low high [] r ascending (k, within, is) = absurd (omega arith)
length-without_run low high (s ∷ rs) r ascending there =
    elim (contains_cases rs r s there) [
      | inl same ↦
          let gone = ap (λ (xs : List Run). length xs) (without_run_first r.from s rs (ap (λ (x : Run). x.from) (sym same))) in
          omega (arith, gone)
      | inr later ↦
          let bounds = contained_bounds (end_of s) high rs r ascending.2 later in
          let rest =
          ap (λ (xs : List Run). length xs) (without_run_later r.from s rs (λ e. omega (arith, bounds.0, ascending.1, e)))
          in
          omega (arith, rest, length-without_run (end_of s) high rs r ascending.2 later)
    ]

-- one more block is counted, and one fewer
pub tally_put : (r : Run) (rs blocks : List Run) (count words : ℕ) → IsTally rs count words → blocks ≡ with_run r rs
    → IsTally blocks (count + 1) (words + r.count)
tally_put r rs blocks count words tally is = record {
  counted = omega (arith, tally.counted, ap (λ (xs : List Run). length xs) is, length-with_run r rs);
  summed = omega (arith, tally.summed, ap total is, total-with_run r rs);
}

pub tally_taken : (low high : ℕ) (r : Run) (rs blocks : List Run) (count words : ℕ) → IsTally rs count words
    → IsAscending low high rs → Contains rs r → blocks ≡ without_run r.from rs
    → IsTally blocks (count - 1) (words - r.count)
tally_taken low high r rs blocks count words tally ascending there is = record {
  counted = omega (arith, tally.counted, ap (λ (xs : List Run). length xs) is, length-without_run low high rs r ascending there);
  summed = omega (arith, tally.summed, ap total is, total-without_run low high rs r ascending there);
}

-- the numbers of a tally fit where one more block does
pub tally_fits : (low high : ℕ) (rs : List Run) (count words : ℕ) → IsTally rs count words → IsAscending low high rs
    → (count ≤ high) × (words ≤ high)
tally_fits low high rs count words tally ascending =
    let sum = total-le low high rs ascending in
    let some = length-le-total low high rs ascending in
    (omega (arith, tally.counted), omega (arith, tally.summed))

pub tally_has : (low high : ℕ) (rs : List Run) (r : Run) (count words : ℕ) → IsTally rs count words → IsAscending low high rs
    → Contains rs r → (1 ≤ count) × (r.count ≤ words)
tally_has low high rs r count words tally ascending there =
    let one = length-without_run low high rs r ascending there in
    let sum = total-without_run low high rs r ascending there in
    (omega (arith, tally.counted), omega (arith, tally.summed))
