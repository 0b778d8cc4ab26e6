-- Bits of one table that are clear in another, as the words of both show them.
use Rattle.std.proofs.Common.{ℕ, ◌+◌, ◌*◌, ◌/◌, ◌%◌, ◌-◌, ◌^◌, ◌<◌, ◌≤◌, ◌≡◌, ◌&&◌, Bool, true, false, not, List, eqb, refl, sym, ap, ◌∙◌, arith}
use Rattle.std.proofs.lemmas.Bool.{true≢false, false≢true}
use Rattle.std.proofs.lemmas.Nat.Bits.{bit_at-zero, bit_at_ones}
use Rattle.mps_bits.specs.OpenRuns.{is_one, is_one_unless}
use Rattle.mps_bits.specs.Table.{table_of, bit}
use Rattle.mps_bits.proofs.SweptTables.{unless_is}

-- ---- one bit of each

kept_in : (a b : Bool) → (a && not b) ≡ false → a ≡ true → b ≡ true
kept_in true true none set = refl
kept_in true false none set = absurd (true≢false none)
kept_in false b none set = absurd (false≢true set)

none_left : (a b : Bool) → (a ≡ true → b ≡ true) → (a && not b) ≡ false
none_left true true kept = refl
none_left true false kept = absurd (false≢true (kept refl))
none_left false b kept = refl

set_alone : (a b : Bool) → (a && not b) ≡ true → (a ≡ true) × (b ≡ false)
set_alone true true alone = absurd (false≢true alone)
set_alone true false alone = (refl, refl)
set_alone false b alone = absurd (false≢true alone)

alone_of : (a b : Bool) → (a ≡ true) × (b ≡ false) → (a && not b) ≡ true
alone_of true false set = refl
alone_of true true (set, clear) = absurd (true≢false clear)
alone_of false b (set, clear) = absurd (false≢true set)

no_bit : (k : ℕ) → is_one 0 k ≡ false
no_bit k = ap (λ (x : ℕ). eqb x 1) (bit_at-zero k)

each_bit : (k : ℕ) → k < 64 → is_one (2 ^ 64 - 1) k ≡ true
each_bit k within = ap (λ (x : ℕ). eqb x 1) (bit_at_ones 64 k within)

-- ---- the bits of a range of whole words

module _
    (words : List ℕ) (len : ℕ) (bits : List Bool) (words' : List ℕ) (len' : ℕ) (bits' : List Bool)
    (is : table_of words len ≡ bits) (is' : table_of words' len' ≡ bits') (from to : ℕ)
    (begins : from % 64 ≡ 0) (ends : to % 64 ≡ 0) (within : to ≤ len) (within' : to ≤ len')
  where
    -- each word of the range is a number, without what is set in the other table
    abbrev AreWords : ℕ → Type 0
    AreWords value = (at k : ℕ) → from / 64 ≤ at → at < to / 64 → k < 64 → is_one_unless words words' (64 * at) k ≡ is_one value k

    shown : (value : ℕ) → AreWords value → (i : ℕ) → from ≤ i → i < to → (bit bits i && not (bit bits' i)) ≡ is_one value (i % 64)
    shown value all i above below =
        let same : 64 * (i / 64) + i % 64 ≡ i = omega arith in
        ap (λ (n : ℕ). bit bits n && not (bit bits' n)) (sym same)
        ∙ sym (unless_is words len bits words' len' bits' is is' (64 * (i / 64)) (i % 64) (omega arith) (omega arith))
        ∙ all (i / 64) (i % 64) (omega arith) (omega arith) (omega arith)

    words_of : (value : ℕ) → ((at k : ℕ) → from ≤ 64 * at + k → 64 * at + k < to → k < 64
        → (bit bits (64 * at + k) && not (bit bits' (64 * at + k))) ≡ is_one value k) → AreWords value
    words_of value all at k above below near =
        unless_is words len bits words' len' bits' is is' (64 * at) k (omega arith) (omega arith)
        ∙ all at k (omega arith) (omega arith) near

    pub subset_if_none : AreWords 0 → (i : ℕ) → from ≤ i → i < to → bit bits i ≡ true → bit bits' i ≡ true
    subset_if_none all i above below = kept_in (bit bits i) (bit bits' i) (shown 0 all i above below ∙ no_bit (i % 64))

    pub none_if_subset : ((i : ℕ) → from ≤ i → i < to → bit bits i ≡ true → bit bits' i ≡ true) → AreWords 0
    none_if_subset kept =
        words_of 0 (λ at k above below near.
        none_left (bit bits (64 * at + k)) (bit bits' (64 * at + k)) (kept (64 * at + k) above below) ∙ sym (no_bit k))

    pub set_if_full : AreWords (2 ^ 64 - 1) → (i : ℕ) → from ≤ i → i < to → (bit bits i ≡ true) × (bit bits' i ≡ false)
    set_if_full all i above below =
        set_alone (bit bits i) (bit bits' i) (shown (2 ^ 64 - 1) all i above below ∙ each_bit (i % 64) (omega arith))

    pub full_if_set : ((i : ℕ) → from ≤ i → i < to → (bit bits i ≡ true) × (bit bits' i ≡ false)) → AreWords (2 ^ 64 - 1)
    full_if_set set =
        words_of (2 ^ 64 - 1) (λ at k above below near.
        alone_of (bit bits (64 * at + k)) (bit bits' (64 * at + k)) (set (64 * at + k) above below) ∙ sym (each_bit k near))
