-- The lowest word that no block has, by the tables: the lowest clear bit of a covered table, or the lowest reservation.
use Rattle.std.proofs.Common.{ℕ, ◌+◌, ◌-◌, ◌<◌, ◌≤◌, ◌≡◌, Bool, true, false, Option, Some, None, IfSome, IfNone, List, sym, ap, ◌∙◌, subst, inl, inr, arith}
use Rattle.std.specs.Option.{option_or, unwrap_or}
use Rattle.std.proofs.lemmas.Bool.{cases_Bool, both_ways, false_from_ne_true}
use Rattle.mps_bits.proofs.Ranges.{clear_run_at, clear_run_from}
use Rattle.mps_bits.proofs.Searches.{found, missing, lowest_cases}
use Rattle.mps_bits.specs.Table.{bit, is_clear_run, lowest_clear_run, next_set_below}
use Rattle.mps_extents.specs.Extents.{is_covered, AreWhole, IsLowestUncovered}
use Rattle.mps_extents.specs.Inside.{either, extents, AreApart, AreSoundTables}
use Rattle.mps_extents.proofs.ApartRuns.{covered_by, covers_contained}
use Rattle.mps_extents.proofs.Dense.{covered_in_block, no_open_in_block, block_over}

-- ---- what a search for one clear bit tells

module _ (bits : List Bool) (low high : ℕ) where
  abbrev AreSet : ℕ → Type 0
  AreSet to = (i : ℕ) → low ≤ i → i < to → bit bits i ≡ true

  set_if : (i : ℕ) → is_clear_run bits i 1 ≡ false → bit bits i ≡ true
  set_if i not_clear =
      elim (cases_Bool (bit bits i)) [
        | inl here ↦ here
        | inr clear ↦
            let alone = clear_run_from bits i 1 (λ j from to. let e : j ≡ i = omega arith in ap (λ (k : ℕ). bit bits k) e ∙ clear) in
            absurd (both_ways (is_clear_run bits i 1) not_clear alone)
      ]

  data Search (o : Option ℕ) : Type 0 where
    clear_at : (at : ℕ) → o ≡ Some at → low ≤ at → at < high → bit bits at ≡ false → AreSet at → Search o
    all_set : o ≡ None → AreSet high → Search o

  searched : Search (lowest_clear_run bits low high 1)
  unfolding lowest_clear_run
  searched =
      elim (lowest_cases (λ p. is_clear_run bits p 1) low (high + 1 - (low + 1))) [
        | missing is none ↦ all_set is (λ i above below. set_if i (none i above (omega arith)))
        | found at is lowest ↦
            clear_at at is lowest.above (omega (arith, lowest.below))
            (clear_run_at bits at 1 lowest.passes at (omega arith) (omega arith))
            (λ i above below. set_if i (lowest.lower i above below))
      ]

-- ---- and a search for one set bit

module _ (bits : List Bool) (low high : ℕ) where
  abbrev AreClear : ℕ → Type 0
  AreClear to = (i : ℕ) → low ≤ i → i < to → bit bits i ≡ false

  data OpenSearch (o : Option ℕ) : Type 0 where
    set_at : (at : ℕ) → o ≡ Some at → at < high → low ≤ at → bit bits at ≡ true → AreClear at → OpenSearch o
    none_set : o ≡ None → AreClear high → OpenSearch o

  searched_open : OpenSearch (next_set_below bits low high)
  unfolding next_set_below
  searched_open =
      elim (lowest_cases (bit bits) low (high - low)) [
        | missing is none ↦ none_set is (λ i above below. none i above (omega arith))
        | found at is lowest ↦ set_at at is (omega (arith, lowest.above, lowest.below)) lowest.above lowest.passes lowest.lower
      ]

-- ---- both

-- what is found
abbrev pub IsFound : (low high : ℕ) (blocks ends : List Bool) → Option ℕ → Type 0
IsFound low high blocks ends o =
    IfSome o (IsLowestUncovered low high (extents blocks ends))
    × IfNone o ((word : ℕ) → low ≤ word → word < high → is_covered (extents blocks ends) word ≡ true)

module _
    (covered opens ends blocks : List Bool) (low high : ℕ) (sound : AreSoundTables covered (either opens blocks) ends blocks)
    (apart : AreApart opens blocks) (whole : AreWhole low high (extents (either opens blocks) ends))
  where
    -- a covered word is a block's, unless a reservation begins there or below
    in_block : (word : ℕ) → low ≤ word → word < high → bit covered word ≡ true → AreClear opens low high (word + 1)
        → is_covered (extents blocks ends) word ≡ true
    in_block word above below set clear =
        let b = block_over covered opens ends blocks low high sound whole word above below set
        (λ i from to. clear i from (omega (arith, to))) in
        covers_contained (extents blocks ends) b.0 word b.1.0 b.1.1

    not_covered : (word : ℕ) → bit covered word ≡ false → is_covered (extents blocks ends) word ≡ false
    not_covered word clear =
        false_from_ne_true (is_covered (extents blocks ends) word) (λ is.
        let b = covered_by (extents blocks ends) word is in
        both_ways (bit covered word) clear (covered_in_block covered opens ends blocks sound apart word b.0 b.1 b.2))

    not_open : (word : ℕ) → bit opens word ≡ true → is_covered (extents blocks ends) word ≡ false
    not_open word set =
        false_from_ne_true (is_covered (extents blocks ends) word) (λ is.
        let b = covered_by (extents blocks ends) word is in
        both_ways (bit opens word) (no_open_in_block covered opens ends blocks sound apart word b.0 b.1 b.2) set)

    first_found : (reserved gap : Option ℕ) → OpenSearch opens low high reserved → Search covered low (unwrap_or reserved high) gap
        → IsFound low high blocks ends (option_or gap reserved)
    first_found reserved gap (none_set is clear) (all_set is' set) =
        let P : Option ℕ → Type 0 = IsFound low high blocks ends in
        let end : unwrap_or reserved high ≡ high = ap (λ (o : Option ℕ). unwrap_or o high) is in
        subst P (sym (ap (λ (o : Option ℕ). option_or o reserved) is' ∙ is)) (
          tt,
          λ word above below. in_block word above below (set word above (omega (arith, below, end)))
              (λ i from to. clear i from (omega (arith, to, below))),
        )
    first_found reserved gap (none_set is clear) (clear_at at is' above below bit set) =
        let P : Option ℕ → Type 0 = IsFound low high blocks ends in
        let end : unwrap_or reserved high ≡ high = ap (λ (o : Option ℕ). unwrap_or o high) is in
        let within : at < high = omega (arith, below, end) in
        subst P (sym (ap (λ (o : Option ℕ). option_or o reserved) is')) (
          record {
            above = above;
            below = within;
            uncovered = not_covered at bit;
            covered = λ word from before. in_block word from (omega (arith, before, within)) (set word from before)
                (λ i above' to. clear i above' (omega (arith, to, before, within)));
          },
          tt,
        )
    first_found reserved gap (set_at o is within from bit clear) (all_set is' set) =
        let P : Option ℕ → Type 0 = IsFound low high blocks ends in
        let end : unwrap_or reserved high ≡ o = ap (λ (o' : Option ℕ). unwrap_or o' high) is in
        subst P (sym (ap (λ (o' : Option ℕ). option_or o' reserved) is' ∙ is)) (
          record {
            above = from;
            below = within;
            uncovered = not_open o bit;
            covered = λ word above before. in_block word above (omega (arith, before, within)) (set word above (omega (arith, before, end)))
                (λ i above' to. clear i above' (omega (arith, to, before)));
          },
          tt,
        )
    first_found reserved gap (set_at o is within from bit clear) (clear_at at is' above below bit' set) =
        let P : Option ℕ → Type 0 = IsFound low high blocks ends in
        let end : unwrap_or reserved high ≡ o = ap (λ (o' : Option ℕ). unwrap_or o' high) is in
        let before_open : at < o = omega (arith, below, end) in
        subst P (sym (ap (λ (o' : Option ℕ). option_or o' reserved) is')) (
          record {
            above = above;
            below = omega (arith, before_open, within);
            uncovered = not_covered at bit';
            covered = λ word from' before. in_block word from' (omega (arith, before, before_open, within)) (set word from' before)
                (λ i above' to. clear i above' (omega (arith, to, before, before_open)));
          },
          tt,
        )

    pub first_is_found : (reserved gap : Option ℕ) → reserved ≡ next_set_below opens low high
        → gap ≡ lowest_clear_run covered low (unwrap_or reserved high) 1 → IsFound low high blocks ends (option_or gap reserved)
    first_is_found reserved gap open_is gap_is =
        let P : Option ℕ → Type 0 = λ o. OpenSearch opens low high o in
        let Q : Option ℕ → Type 0 = λ o. Search covered low (unwrap_or reserved high) o in
        first_found reserved gap (subst P (sym open_is) (searched_open opens low high))
        (subst Q (sym gap_is) (searched covered low (unwrap_or reserved high)))
