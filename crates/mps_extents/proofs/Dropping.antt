-- The tables after blocks were dropped one after the other.
use Rattle.std.proofs.Common.{ℕ, ◌+◌, ◌-◌, ◌<◌, ◌≤◌, ◌≡◌, ◌≢◌, ◌⊎◌, Bool, true, false, List, [], ◌∷◌, length, set, Contains, refl, sym, ap, ◌∙◌, subst, inl, inr, arith, length-set}
use Rattle.std.proofs.lemmas.Bool.{cases_lt, cases_eq, both_ways}
use Rattle.mps_base.specs.Run.{Run, end_of, IsAscending, without_run, total}
use Rattle.mps_base.proofs.Runs.{contains_cases, contains_first, contains_later, contained_bounds, total-cons}
use Rattle.mps_bits.specs.Table.{bit, with_range}
use Rattle.mps_bits.proofs.Ranges.{length-with_range}
use Rattle.mps_extents.specs.Extents.{ExtentLists, has_word}
use Rattle.mps_extents.specs.Inside.{either, extents, lists_of, AreSoundTables, AreApart, IsTally}
use Rattle.mps_extents.specs.Lost.{without_runs}
use Rattle.mps_extents.proofs.WrittenBits.{bit-set_same, bit-set_other, bit_past, bit_within, bit-with_range_inside, bit-with_range_outside}
use Rattle.mps_extents.proofs.ApartRuns.{has_word-true, has_word-parts, covers_contained}
use Rattle.mps_extents.proofs.ContainedRuns.{contains_still}
use Rattle.mps_extents.proofs.ExtentBits.{begin_of, among_all}
use Rattle.mps_extents.proofs.Tally.{blocks_ascend, tally_taken, tally_has}
use Rattle.mps_extents.proofs.TakenExtent.{Taken, taken_bounds}
use Rattle.mps_extents.proofs.Tables.{dropped_is_sound, dropped_apart, dropped_lists}
use Rattle.mps_extents.proofs.Counts.{set_bits, one_cleared, range_cleared}

-- the tables of blocks and of covered words without these
abbrev pub without_bits : List Run → List Bool → List Bool
without_bits [] bits = bits
without_bits (r ∷ rs) bits = without_bits rs (set bits r.from false)

abbrev pub without_words : List Run → List Bool → List Bool
without_words [] bits = bits
without_words (r ∷ rs) bits = without_words rs (with_range bits r.from (end_of r) false)

abbrev pub dropped : List Run → ExtentLists → ExtentLists
dropped lost e = record e { covered = without_runs lost e.covered; blocks = without_runs lost e.blocks }

pub record AreDropped (covered opens ends blocks : List Bool) (count words : ℕ) (lost : List Run) : Type 0 where
  pub sound : AreSoundTables (without_words lost covered) (either opens (without_bits lost blocks)) ends (without_bits lost blocks)
  pub apart : AreApart opens (without_bits lost blocks)
  pub lists : lists_of (either opens (without_bits lost blocks)) ends (without_bits lost blocks)
      ≡ dropped lost (lists_of (either opens blocks) ends blocks)
  pub tally : IsTally (extents (without_bits lost blocks) ends) (count - length lost) (words - total lost)
  pub few : (length lost ≤ count) × (total lost ≤ words)
  pub counted : set_bits (without_bits lost blocks) + length lost ≡ set_bits blocks
  pub summed : set_bits (without_words lost covered) + total lost ≡ set_bits covered

pub same_tally : {rs : List Run} {count count' words words' : ℕ} → count ≡ count' → words ≡ words' → IsTally rs count words
    → IsTally rs count' words'
same_tally counts sums tally = record { counted = omega (arith, tally.counted, counts); summed = omega (arith, tally.summed, sums) }

pub are_dropped : (covered opens ends blocks : List Bool) (count words : ℕ) (lost : List Run) (a b : ℕ)
    → AreSoundTables covered (either opens blocks) ends blocks → AreApart opens blocks → IsTally (extents blocks ends) count words
    → IsAscending a b lost → ((r : Run) → Contains lost r → Contains (extents blocks ends) r)
    → AreDropped covered opens ends blocks count words lost
are_dropped covered opens ends blocks count words [] a b sound apart tally ascending all = record {
  sound = sound;
  apart = apart;
  lists = refl;
  tally = same_tally (omega arith) (omega arith) tally;
  few = (omega arith, omega arith);
  counted = omega arith;
  summed = omega arith;
}
are_dropped covered opens ends blocks count words (r ∷ rs) a b sound apart tally ascending all =
    let there = all r (contains_first rs r) in
    let block = (begin_of blocks ends r there).0 in
    let listed = among_all (either opens blocks) blocks ends r sound.blocks_begin there in
    let taken : Taken covered (either opens blocks) ends blocks r = record { sound = sound; there = listed } in
    let lists1 = dropped_lists covered opens ends blocks r apart taken block in
    let is : extents (set blocks r.from false) ends ≡ without_run r.from (extents blocks ends) = ap (λ (e : ExtentLists). e.blocks)
    lists1 in
    let ascend = blocks_ascend covered (either opens blocks) ends blocks sound in
    let one = tally_has 0 _ (extents blocks ends) r count words tally ascend there in
    let bounds = taken_bounds covered (either opens blocks) ends blocks r taken in
    let sum = total-cons r rs in
    let room : end_of r ≤ length covered = omega (arith, bounds.1, sound.same_size.0) in
    let cleared = one_cleared blocks r.from (bit_within blocks r.from block) block in
    let words_cleared = range_cleared covered r.from (end_of r) (omega arith) room (λ i above below.
    sound.covered_is i ∙ covers_contained (extents (either opens blocks) ends) r i listed (has_word-true r i above below))
    in
    let rest =
    are_dropped (with_range covered r.from (end_of r) false) opens ends (set blocks r.from false) (count - 1) (words - r.count) rs
    (end_of r)
    b
    (dropped_is_sound covered opens ends blocks r apart taken block)
    (dropped_apart covered opens ends blocks r apart taken block)
    (tally_taken 0 _ r (extents blocks ends) _ count words tally ascend there is)
    ascending.2 (λ s in_rest.
    let P : List Run → Type 0 = λ xs. Contains xs s in
    let later = (contained_bounds (end_of r) b rs s ascending.2 in_rest).0 in
    subst P (sym is) (contains_still r.from s (extents blocks ends) (all s (contains_later rs s r in_rest))
    (λ e. omega (arith, later, e, ascending.1))))
    in
    record {
      sound = rest.sound;
      apart = rest.apart;
      lists = rest.lists ∙ ap (dropped rs) lists1;
      tally = same_tally (omega arith) (omega (arith, sum)) rest.tally;
      few = (omega (arith, one.0, rest.few.0), omega (arith, one.1, rest.few.1, sum));
      counted = omega (arith, rest.counted, cleared);
      summed = omega (arith, rest.summed, words_cleared, sum);
    }

-- ---- their bits

pub length-without_bits : (rs : List Run) (bits : List Bool) → length (without_bits rs bits) ≡ length bits
length-without_bits [] bits = refl
length-without_bits (r ∷ rs) bits = length-without_bits rs (set bits r.from false) ∙ length-set bits r.from false

pub bit_left : (rs : List Run) (bits : List Bool) (i : ℕ) → ((r : Run) → Contains rs r → r.from ≢ i)
    → bit (without_bits rs bits) i ≡ bit bits i
bit_left [] bits i other = refl
bit_left (r ∷ rs) bits i other =
    bit_left rs (set bits r.from false) i (λ s there. other s (contains_later rs s r there))
    ∙ bit-set_other bits r.from i false (λ e. other r (contains_first rs r) (sym e))

bit_stays_clear : (rs : List Run) (bits : List Bool) (i : ℕ) → bit bits i ≡ false → bit (without_bits rs bits) i ≡ false
bit_stays_clear [] bits i clear = clear
bit_stays_clear (r ∷ rs) bits i clear =
    bit_stays_clear rs (set bits r.from false) i (elim (cases_eq i r.from) [
      | inl here ↦ elim (cases_lt i (length bits)) [
        | inl within ↦
            ap (λ (k : ℕ). bit (set bits r.from false) k) here ∙ bit-set_same bits r.from false (omega (arith, within, here))
        | inr past ↦ bit_past (set bits r.from false) i (omega (arith, past, length-set bits r.from false))
      ]
      | inr other ↦ bit-set_other bits r.from i false other ∙ clear
    ])

pub bit_gone : (rs : List Run) (bits : List Bool) (i : ℕ) (r : Run) → Contains rs r → r.from ≡ i → i < length bits
    → bit (without_bits rs bits) i ≡ false
bit_gone [] bits i r (k, inside, is) here within = absurd (omega arith)
bit_gone (s ∷ rs) bits i r there here within =
    elim (contains_cases rs r s there) [
      | inl same ↦
          let first : s.from ≡ i = ap (λ (x : Run). x.from) same ∙ here in
          bit_stays_clear rs (set bits s.from false) i
          (ap (λ (k : ℕ). bit (set bits s.from false) k) (sym first)
          ∙ bit-set_same bits s.from false (omega (arith, within, first)))
      | inr later ↦ bit_gone rs (set bits s.from false) i r later here (omega (arith, within, length-set bits s.from false))
    ]

-- all runs end within a table
abbrev pub AreWithin : List Run → ℕ → Type 0
AreWithin rs size = (r : Run) → Contains rs r → end_of r ≤ size

ranged : (r : Run) (bits : List Bool) → end_of r ≤ length bits → length (with_range bits r.from (end_of r) false) ≡ length bits
ranged r bits within = length-with_range bits r.from (end_of r) false (omega arith) within

rest_within : (r : Run) (rs : List Run) (bits : List Bool) → AreWithin (r ∷ rs) (length bits)
    → AreWithin rs (length (with_range bits r.from (end_of r) false))
rest_within r rs bits within s there =
    omega (arith, within s (contains_later rs s r there), ranged r bits (within r (contains_first rs r)))

pub length-without_words : (rs : List Run) (bits : List Bool) → AreWithin rs (length bits)
    → length (without_words rs bits) ≡ length bits
length-without_words [] bits within = refl
length-without_words (r ∷ rs) bits within =
    length-without_words rs (with_range bits r.from (end_of r) false) (rest_within r rs bits within)
    ∙ ranged r bits (within r (contains_first rs r))

-- a word is no word of a run
apart_from : (r : Run) (i : ℕ) → has_word r i ≡ false → (i < r.from) ⊎ (end_of r ≤ i)
apart_from r i other =
    elim (cases_lt i r.from) [
      | inl before ↦ inl before
      | inr above ↦ elim (cases_lt i (end_of r)) [
        | inl below ↦ absurd (both_ways (has_word r i) other (has_word-true r i above below))
        | inr past ↦ inr past
      ]
    ]

pub word_left : (rs : List Run) (bits : List Bool) (i : ℕ) → AreWithin rs (length bits)
    → ((r : Run) → Contains rs r → has_word r i ≡ false) → bit (without_words rs bits) i ≡ bit bits i
word_left [] bits i within other = refl
word_left (r ∷ rs) bits i within other =
    word_left rs (with_range bits r.from (end_of r) false) i (rest_within r rs bits within)
    (λ s there. other s (contains_later rs s r there))
    ∙ bit-with_range_outside bits r.from (end_of r) i false (omega arith) (within r (contains_first rs r))
    (apart_from r i (other r (contains_first rs r)))

word_stays_clear : (rs : List Run) (bits : List Bool) (i : ℕ) → AreWithin rs (length bits) → bit bits i ≡ false
    → bit (without_words rs bits) i ≡ false
word_stays_clear [] bits i within clear = clear
word_stays_clear (r ∷ rs) bits i within clear =
    let mine = within r (contains_first rs r) in
    word_stays_clear rs (with_range bits r.from (end_of r) false) i (rest_within r rs bits within) (elim (cases_lt i r.from) [
      | inl before ↦ bit-with_range_outside bits r.from (end_of r) i false (omega arith) mine (inl before) ∙ clear
      | inr above ↦ elim (cases_lt i (end_of r)) [
        | inl below ↦ bit-with_range_inside bits r.from (end_of r) i false (omega arith) mine above below
        | inr past ↦ bit-with_range_outside bits r.from (end_of r) i false (omega arith) mine (inr past) ∙ clear
      ]
    ])

pub word_gone : (rs : List Run) (bits : List Bool) (i : ℕ) (r : Run) → AreWithin rs (length bits) → Contains rs r
    → has_word r i ≡ true → bit (without_words rs bits) i ≡ false
word_gone [] bits i r within (k, inside, is) has = absurd (omega arith)
word_gone (s ∷ rs) bits i r within there has =
    let mine = within s (contains_first rs s) in
    elim (contains_cases rs r s there) [
      | inl same ↦
          let parts = has_word-parts s i (ap (λ (x : Run). has_word x i) same ∙ has) in
          word_stays_clear rs (with_range bits s.from (end_of s) false) i (rest_within s rs bits within)
          (bit-with_range_inside bits s.from (end_of s) i false (omega arith) mine parts.0 parts.1)
      | inr later ↦ word_gone rs (with_range bits s.from (end_of s) false) i r (rest_within s rs bits within) later has
    ]
