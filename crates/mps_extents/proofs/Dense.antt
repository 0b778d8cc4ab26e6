-- Blocks have all words of a range exactly if none of these is free and no reservation begins there.
use Rattle.std.proofs.Common.{ℕ, ◌-◌, ◌<◌, ◌≤◌, ◌≡◌, ◌||◌, Bool, true, false, Option, Some, None, List, length, Contains, refl, sym, ap, ◌∙◌, subst, inl, inr, is_some, arith}
use Rattle.std.proofs.lemmas.Bool.{both_ways, false_from_ne_true, false≢true}
use Rattle.mps_base.proofs.Runs.{contained_bounds}
use Rattle.mps_base.specs.Run.{Run, runs_within}
use Rattle.mps_bits.proofs.Searches.{found, missing, lowest_cases, lowest_from_none}
use Rattle.mps_bits.specs.Table.{bit, next_set_below}
use Rattle.mps_extents.specs.Extents.{has_word, is_covered, AreWhole}
use Rattle.mps_extents.specs.Inside.{either, extents, length_at, AreApart, AreSoundTables}
use Rattle.mps_extents.proofs.ApartRuns.{apart_each, covered_by, covers_contained, has_word-parts}
use Rattle.mps_extents.proofs.ContainedRuns.{begins_within, side_of}
use Rattle.mps_extents.proofs.EitherBits.{bit-either, length-either, not_open}
use Rattle.mps_extents.proofs.ExtentBits.{among_all, begin_of, extent_at}
use Rattle.mps_extents.proofs.LowestGap.{contains_within}
use Rattle.mps_extents.proofs.WrittenBits.{bit_within}

pub none_of : (o : Option ℕ) → is_some o ≡ false → None ≡ o
none_of None none = refl
none_of (Some n) none = absurd (false≢true (sym none))

pub none_set : (bits : List Bool) (low high : ℕ) → None ≡ next_set_below bits low high → (i : ℕ) → low ≤ i → i < high → bit bits i ≡ false
unfolding next_set_below
none_set bits low high none i above below =
    elim (lowest_cases (bit bits) low (high - low)) [
      | found index is lowest ↦ let never : None ≡ Some index = none ∙ is in cc
      | missing is clear ↦ clear i above (omega (arith, above, below))
    ]

-- ---- what is found where blocks have all words

pub no_set : (bits : List Bool) (low high : ℕ) → ((i : ℕ) → low ≤ i → i < high → bit bits i ≡ false) → next_set_below bits low high ≡ None
unfolding next_set_below
no_set bits low high clear = lowest_from_none (bit bits) low (high - low) (λ i above below. clear i above (omega (arith, above, below)))

module _
    (covered opens ends blocks : List Bool) (sound : AreSoundTables covered (either opens blocks) ends blocks)
    (apart : AreApart opens blocks) (word : ℕ) (r : Run) (there : Contains (extents blocks ends) r) (has : has_word r word ≡ true)
  where
    abbrev begun : List Bool
    begun = either opens blocks

    among : Contains (extents begun ends) r
    among = among_all begun blocks ends r sound.blocks_begin there

    pub covered_in_block : bit covered word ≡ true
    covered_in_block = sound.covered_is word ∙ covers_contained (extents begun ends) r word among has

    pub no_open_in_block : bit opens word ≡ false
    no_open_in_block =
        false_from_ne_true (bit opens word) (λ is.
        let parts = has_word-parts r word has in
        let begins_there : bit begun word ≡ true =
        bit-either opens blocks word (bit_within opens word is) ∙ ap (λ (x : Bool). x || bit blocks word) is
        in
        let q : Run = record { from = word; count = length_at ends word } in
        let starts = extent_at begun ends word begins_there in
        let some = (contained_bounds 0 (length begun) (extents begun ends) q sound.ascending starts).1 in
        let same : r.from ≡ word =
        elim (apart_each 0 (length begun) (extents begun ends) r q sound.ascending among starts) [
          | inl here ↦ here
          | inr elsewhere ↦ elim elsewhere [
            | inl before ↦ absurd (omega (arith, before, parts.1))
            | inr after ↦ absurd (omega (arith, after, parts.0, some))
          ]
        ]
        in
        let block : bit blocks word ≡ true = ap (λ (i : ℕ). bit blocks i) (sym same) ∙ (begin_of blocks ends r there).0 in
        both_ways (bit opens word) (not_open opens blocks word apart block) is)

module _
    (covered opens ends blocks : List Bool) (low high : ℕ) (sound : AreSoundTables covered (either opens blocks) ends blocks)
    (apart : AreApart opens blocks)
    (all : (word : ℕ) → low ≤ word → word < high → is_covered (runs_within low high (extents blocks ends)) word ≡ true)
  where
    pub each_covered : (word : ℕ) → low ≤ word → word < high → bit covered word ≡ true
    each_covered word above below =
        let over = covered_by (runs_within low high (extents blocks ends)) word (all word above below) in
        covered_in_block covered opens ends blocks sound apart word over.0 (contains_within low high (extents blocks ends) over.0 over.1)
        over.2

    pub none_opens : (word : ℕ) → low ≤ word → word < high → bit opens word ≡ false
    none_opens word above below =
        let over = covered_by (runs_within low high (extents blocks ends)) word (all word above below) in
        no_open_in_block covered opens ends blocks sound apart word over.0 (contains_within low high (extents blocks ends) over.0 over.1)
        over.2

-- ---- what blocks have where nothing is found

module _
    (covered opens ends blocks : List Bool) (low high : ℕ) (sound : AreSoundTables covered (either opens blocks) ends blocks)
    (whole : AreWhole low high (extents (either opens blocks) ends))
  where
    abbrev begins : List Bool
    begins = either opens blocks

    -- the block over a covered word, where no reservation begins from `low` up to the word
    pub block_over : (word : ℕ) → low ≤ word → word < high → bit covered word ≡ true
        → ((i : ℕ) → low ≤ i → i ≤ word → bit opens i ≡ false)
        → (r : Run) × (Contains (extents blocks ends) r × (has_word r word ≡ true)) × ((low ≤ r.from) × (r.from < high))
    block_over word above below set clear =
        let over = covered_by (extents begins ends) word (sym (sound.covered_is word) ∙ set)
        in
        let r = over.0 in
        let parts = has_word-parts r word over.2 in
        let starts = begin_of begins ends r over.1 in
        let inside : (low ≤ r.from) × (r.from < high) =
        elim (side_of low high (extents begins ends) r whole over.1) [
          | inl before ↦ absurd (omega (arith, before, parts.1, above))
          | inr rest ↦ elim rest [ inl after ↦ absurd (omega (arith, after, parts.0, below)) | inr within ↦ within ]
        ]
        in
        let place : r.from < length opens = omega (arith, bit_within begins r.from starts.0, length-either opens blocks) in
        let either_is = sym (bit-either opens blocks r.from place) ∙ starts.0 in
        let block : bit blocks r.from ≡ true =
        ap (λ (b : Bool). b || bit blocks r.from) (sym (clear r.from inside.0 parts.0)) ∙ either_is
        in
        let Q : ℕ → Type 0 = λ n. Contains (extents blocks ends) (record { from = r.from; count = n }) in
        let there : Contains (extents blocks ends) r = subst Q (sym starts.1) (extent_at blocks ends r.from block) in
        (r, (there, over.2), inside)

    pub dense : ((word : ℕ) → low ≤ word → word < high → (bit covered word ≡ true) × (bit opens word ≡ false))
        → (word : ℕ) → low ≤ word → word < high → is_covered (runs_within low high (extents blocks ends)) word ≡ true
    dense full word above below =
        let over =
        block_over word above below (full word above below).0 (λ i from to. (full i from (omega (arith, to, below))).1)
        in
        covers_contained (runs_within low high (extents blocks ends)) over.0 word
        (begins_within low high (extents blocks ends) over.0 over.1.0 over.2.0 over.2.1) over.1.1
