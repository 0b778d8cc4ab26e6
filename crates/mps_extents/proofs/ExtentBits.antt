-- Lists of extents, by the bits where they begin.
use Rattle.std.proofs.Common.{ℕ, ◌+◌, ◌<◌, ◌≡◌, ◌≢◌, Bool, true, false, not, List, length, set, Contains, refl, sym, ap, ◌∙◌, subst, inl, inr, arith}
use Rattle.std.proofs.lemmas.Bool.{cases_eq, both_ways, and_parts, not-true}
use Rattle.mps_base.specs.Run.{Run, with_run, without_run}
use Rattle.mps_bits.specs.Table.{bit}
use Rattle.mps_extents.specs.Extents.{ExtentLists}
use Rattle.mps_extents.specs.Inside.{length_at, minus, extents}
use Rattle.mps_extents.proofs.WrittenBits.{bit_is, bit-set_same, bit-set_other, bit_within, minus_is_begin, length-minus, bit-minus}
use Rattle.mps_extents.proofs.BitRuns.{runs_with-put, runs_with-taken, runs_with_same, run_of_bit, bit_of_run}

-- the extent that begins at a bit
pub extent_at : (bits ends : List Bool) (at : ℕ) → bit bits at ≡ true
    → Contains (extents bits ends) (record { from = at; count = length_at ends at })
extent_at bits ends at is =
    let same_word : 0 + at ≡ at = omega arith in
    let P : ℕ → Type 0 = λ a. Contains (extents bits ends) (record { from = a; count = length_at ends a }) in
    subst P same_word (run_of_bit (length_at ends) 0 bits at (sym (bit_is bits at) ∙ is))

pub begin_of : (bits ends : List Bool) (r : Run) → Contains (extents bits ends) r
    → (bit bits r.from ≡ true) × (r.count ≡ length_at ends r.from)
begin_of bits ends r there =
    let b = bit_of_run (length_at ends) 0 bits r there in
    let same_word : b.0 ≡ r.from = omega (arith, b.2) in
    let count : 0 + b.0 ≡ r.from = omega (arith, b.2) in
    (ap (λ (i : ℕ). bit bits i) (sym same_word) ∙ bit_is bits b.0 ∙ b.1, b.3 ∙ ap (length_at ends) count)

-- the extents that begin where the table has a bit keep their lengths, but for one
pub record SameLengths (begins ends ends' : List Bool) (but : ℕ) : Type 0 where
  pub others : (s : ℕ) → bit begins s ≡ true → s ≢ but → length_at ends' s ≡ length_at ends s

pub no_change : (begins ends : List Bool) (but : ℕ) → SameLengths begins ends ends but
no_change begins ends but = record { others = λ s is other. refl }

pub extents_kept : (begins bits ends ends' : List Bool) (but : ℕ) → SameLengths begins ends ends' but
    → ((s : ℕ) → bit bits s ≡ true → (bit begins s ≡ true) × (s ≢ but))
    → extents bits ends' ≡ extents bits ends
extents_kept begins bits ends ends' but same part =
    runs_with_same (length_at ends') (length_at ends) 0 bits (λ i is.
    let same_word : 0 + i ≡ i = omega arith in
    let here = part i (bit_is bits i ∙ is) in
    ap (length_at ends') same_word ∙ same.others i here.0 here.1 ∙ ap (length_at ends) (sym same_word))

pub extents_put : (begins bits ends ends' : List Bool) (at words : ℕ) → SameLengths begins ends ends' at → length_at ends' at ≡ words
    → at < length bits → bit bits at ≡ false
    → ((s : ℕ) → bit bits s ≡ true → bit begins s ≡ true)
    → extents (set bits at true) ends' ≡ with_run (record { from = at; count = words }) (extents bits ends)
extents_put begins bits ends ends' at words same here within none part =
    let same_word : 0 + at ≡ at = omega arith in
    let count : length_at ends' (0 + at) ≡ words = ap (length_at ends') same_word ∙ here in
    runs_with-put (length_at ends') 0 bits at within (sym (bit_is bits at) ∙ none)
    ∙ ap (λ (a : ℕ). with_run (record { from = a; count = length_at ends' (0 + at) }) (extents bits ends')) same_word
    ∙ ap (λ (n : ℕ). with_run (record { from = at; count = n }) (extents bits ends')) count
    ∙ ap (λ (rs : List Run). with_run (record { from = at; count = words }) rs)
    (extents_kept begins bits ends ends' at same
    (λ s is. (part s is, λ e. both_ways (bit bits at) none (ap (λ (j : ℕ). bit bits j) (sym e) ∙ is))))

pub extents_taken : (begins bits ends ends' : List Bool) (at : ℕ) → SameLengths begins ends ends' at → at < length bits
    → bit bits at ≡ true
    → ((s : ℕ) → bit bits s ≡ true → bit begins s ≡ true) → extents (set bits at false) ends' ≡ without_run at (extents bits ends)
extents_taken begins bits ends ends' at same within some part =
    let same_word : 0 + at ≡ at = omega arith in
    extents_kept begins (set bits at false) ends ends' at same (λ s is.
    elim (cases_eq s at) [
      | inl here ↦
          absurd (both_ways (bit (set bits at false) at) (bit-set_same bits at false within)
          (ap (λ (j : ℕ). bit (set bits at false) j) (sym here) ∙ is))
      | inr other ↦ (part s (sym (bit-set_other bits at s false other) ∙ is), other)
    ])
    ∙ runs_with-taken (length_at ends) 0 bits at within (sym (bit_is bits at) ∙ some)
    ∙ ap (λ (a : ℕ). without_run a (extents bits ends)) same_word

-- a reservation begins at a bit of the first table that is not a bit of the blocks
pub record IsReservation (begins ends blocks : List Bool) (r : Run) : Type 0 where
  pub there : Contains (extents begins ends) r
  pub reserved : bit (minus begins blocks) r.from ≡ true
  pub no_block : bit blocks r.from ≡ false

same_run : (r s : Run) → r.from ≡ s.from → r.count ≡ s.count → r ≡ s
same_run r s from count = ap (λ (n : ℕ). make n r.count) from ∙ ap (λ (n : ℕ). make s.from n) count
  where
    make : ℕ → ℕ → Run
    make from count = record { from = from; count = count }

-- an extent of a part of the bits is one of all
pub among_all : (begins bits ends : List Bool) (r : Run) → ((s : ℕ) → bit bits s ≡ true → bit begins s ≡ true)
    → Contains (extents bits ends) r → Contains (extents begins ends) r
among_all begins bits ends r part there =
    let b = begin_of bits ends r there in
    let P : Run → Type 0 = λ x. Contains (extents begins ends) x in
    subst P (sym (same_run r (record { from = r.from; count = length_at ends r.from }) refl b.1))
    (extent_at begins ends r.from (part r.from b.0))

pub is_reservation : (begins ends blocks : List Bool) (r : Run) → Contains (extents (minus begins blocks) ends) r
    → IsReservation begins ends blocks r
is_reservation begins ends blocks r there =
    let b = begin_of (minus begins blocks) ends r there in
    let within : r.from < length begins = omega (arith, bit_within (minus begins blocks) r.from b.0, length-minus begins blocks) in
    let parts = and_parts (bit begins r.from) (not (bit blocks r.from)) (sym (bit-minus begins blocks r.from within) ∙ b.0) in
    record {
      there = among_all begins (minus begins blocks) ends r (minus_is_begin begins blocks) there;
      reserved = b.0;
      no_block = not-true (bit blocks r.from) parts.1;
    }

-- lists of extents, by their parts
unfoldable pub lists : (size : ℕ) (covered blocks reservations : List Run) → ExtentLists
lists size covered blocks reservations = record { size = size; covered = covered; blocks = blocks; reservations = reservations }

-- where one bit of a table is written, the others stay
pub others_stay : (bits : List Bool) (at : ℕ) (value : Bool) → (j : ℕ) → j ≢ at → bit (set bits at value) j ≡ bit bits j
others_stay bits at value j other = bit-set_other bits at j value other
