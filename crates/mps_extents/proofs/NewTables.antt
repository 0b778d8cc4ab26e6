-- Tables in which no bit is set.
use Rattle.std.proofs.Common.{ℕ, zero, suc, ◌<◌, ◌^◌, ◌≡◌, Bool, false, List, [], length, replicate, refl, sym, ap, ◌∙◌, subst, inl, inr, arith}
use Rattle.std.proofs.lemmas.Bool.{cases_lt, both_ways, false_from_ne_true, or_from}
use Rattle.std.proofs.lemmas.List.{length-replicate, get_or-replicate}
use Rattle.mps_base.specs.Run.{Run, IsAscending}
use Rattle.mps_bits.specs.Table.{bit}
use Rattle.mps_extents.specs.Extents.{is_covered, nothing_covered}
use Rattle.mps_extents.specs.Inside.{length_at, runs_with, minus, either, extents, lists_of, AreSoundTables, AreApart, IsTally}
use Rattle.mps_extents.proofs.EitherBits.{length-either, bit-either}
use Rattle.mps_extents.proofs.WrittenBits.{bit_is, bit_past, length-minus, minus_is_begin, same_bits}

no_bit : (n i : ℕ) → bit (replicate n false) i ≡ false
no_bit n i =
    elim (cases_lt i n) [
      | inl within ↦ bit_is (replicate n false) i ∙ get_or-replicate n i false false within
      | inr past ↦ bit_past (replicate n false) i (omega (arith, length-replicate {A = Bool} n false))
    ]

no_runs : (f : ℕ → ℕ) (at n : ℕ) → runs_with f at (replicate n false) ≡ []
unfolding runs_with
no_runs f at zero = refl
no_runs f at (suc n) = no_runs f (suc at) n

minus_nothing : (n : ℕ) → minus (replicate n false) (replicate n false) ≡ replicate n false
minus_nothing n =
    same_bits (minus (replicate n false) (replicate n false)) (replicate n false)
    (length-minus (replicate n false) (replicate n false)) (λ i h.
    false_from_ne_true (bit (minus (replicate n false) (replicate n false)) i) (λ is.
    both_ways (bit (replicate n false) i) (no_bit n i) (minus_is_begin (replicate n false) (replicate n false) i is))
    ∙ sym (no_bit n i))

pub either_nothing : (n : ℕ) → either (replicate n false) (replicate n false) ≡ replicate n false
either_nothing n =
    same_bits (either (replicate n false) (replicate n false)) (replicate n false)
    (length-either (replicate n false) (replicate n false)) (λ i h.
    bit-either (replicate n false) (replicate n false) i (omega (arith, h, length-either (replicate n false) (replicate n false)))
    ∙ or_from (bit (replicate n false) i) (bit (replicate n false) i) (no_bit n i) (no_bit n i)
    ∙ sym (no_bit n i))

pub new_is_sound : (n : ℕ) → n < 2 ^ 32 → AreSoundTables (replicate n false) (replicate n false) (replicate n false) (replicate n false)
new_is_sound n small =
    let size = length-replicate {A = Bool} n false in
    let none = no_runs (length_at (replicate n false)) 0 n in
    let P : List Run → Type 0 = λ rs. IsAscending 0 (length (replicate {A = Bool} n false)) rs in
    record {
      same_size = (refl, refl, refl);
      small = omega (arith, size, small);
      ascending = subst P (sym none) (omega arith);
      covered_is = λ word. no_bit n word ∙ ap (λ (rs : List Run). is_covered rs word) (sym none);
      blocks_begin = λ word is. is;
    }

-- what holds of tables in which no bit is set
abbrev pub AreEmptyTables : (covered blocks opens ends : List Bool) → Type 0
AreEmptyTables covered blocks opens ends =
    AreSoundTables covered (either opens blocks) ends blocks × AreApart opens blocks × IsTally (extents blocks ends) 0 0

pub new_are_empty : (n : ℕ) → n < 2 ^ 32
    → AreEmptyTables (replicate n false) (replicate n false) (replicate n false) (replicate n false)
new_are_empty n small =
    let clear : List Bool = replicate n false in
    let P : List Bool → Type 0 = λ bs. AreSoundTables clear bs clear clear in
    let Q : List Run → Type 0 = λ rs. IsTally rs 0 0 in
    let nothing : IsTally [] 0 0 = record { counted = refl; summed = refl } in (
      subst P (sym (either_nothing n)) (new_is_sound n small),
      record { same_size = refl; no_block = λ word is. no_bit n word },
      subst Q (sym (no_runs (length_at clear) 0 n)) nothing,
    )

pub new_lists : (n : ℕ) → lists_of (replicate n false) (replicate n false) (replicate n false) ≡ nothing_covered n
new_lists n =
    let none = no_runs (length_at (replicate n false)) 0 n in
    ap (λ (size : ℕ). record (lists_of (replicate n false) (replicate n false) (replicate n false)) { size = size })
    (length-replicate n false)
    ∙ ap (λ (bits : List Bool). record (nothing_covered n) {
      covered = extents (replicate n false) (replicate n false);
      blocks = extents (replicate n false)
          (replicate n false);
      reservations = extents bits (replicate n false);
    }) (minus_nothing n)
    ∙ ap (λ (rs : List Run). record (nothing_covered n) { covered = rs; blocks = rs; reservations = rs }) none
