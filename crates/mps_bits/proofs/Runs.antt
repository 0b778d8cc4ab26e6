-- Runs of clear bits, in a word and in a row.
use Rattle.std.proofs.Common.{ℕ, ◌+◌, ◌-◌, ◌^◌, ◌<◌, ◌≤◌, ◌≡◌, ◌↔◌, List, bit_and, min, sym, ap, ◌∙◌, subst, inl, inr, arith, w64}
use Rattle.std.specs.Int.{bit_at, bit_not}
use Rattle.std.proofs.lemmas.Bool.{cases_lt}
use Rattle.std.proofs.lemmas.Nat.Bits.{bit_at_and, bit_at_not, bit_at-zero, bit_at_ones, bit_at_ones_above}
use Rattle.mps_bits.specs.OneWord.{IsClearIn, IsLowestRunIn}
use Rattle.mps_bits.specs.Row.{bit_in, IsClear, HasNoRun}
use Rattle.mps_bits.proofs.OneWord.{AreRunStarts}
use Rattle.mps_bits.proofs.Row.{IsChunk, set_at}

-- ---- in a word

-- the clear bits among the lowest `width`
free_is : (word ones width i : ℕ) → word < 2 ^ 64 → ones ≡ 2 ^ width - 1 → width ≤ 64
    → (bit_at (bit_and (bit_not w64 word) ones) i ≡ 1) ↔ ((i < width) × (bit_at word i ≡ 0))
free_is word ones width i fits is wide = (parts, whole)
  where
    both : bit_at (bit_and (bit_not w64 word) ones) i ≡ min (bit_at (bit_not w64 word) i) (bit_at ones i)
    both = bit_at_and (bit_not w64 word) ones i

    parts : bit_at (bit_and (bit_not w64 word) ones) i ≡ 1 → (i < width) × (bit_at word i ≡ 0)
    parts set =
        elim (cases_lt i width) [
          | inl within ↦ (within, omega (arith, both, set, bit_at_not w64 word i fits (omega arith)))
          | inr past ↦ absurd (omega (arith, both, set, ap (λ (x : ℕ). bit_at x i) is, bit_at_ones_above width i past))
        ]

    whole : ((i < width) × (bit_at word i ≡ 0)) → bit_at (bit_and (bit_not w64 word) ones) i ≡ 1
    whole h =
        let within : i < width = h.0 in
        omega (arith, both, h.1, bit_at_not w64 word i fits (omega arith), ap (λ (x : ℕ). bit_at x i) is, bit_at_ones width i within)

pub clear_run_none : (word ones width count starts : ℕ) → word < 2 ^ 64 → ones ≡ 2 ^ width - 1 → width ≤ 64
    → AreRunStarts (bit_and (bit_not w64 word) ones) starts count → starts ≡ 0
    → (p : ℕ) → p + count ≤ width → ¬ IsClearIn word p count
clear_run_none word ones width count starts fits is wide runs none p within clear =
    let one : bit_at starts p ≡ 1 = (runs p).1 (λ k h. (free_is word ones width (p + k) fits is wide).1 (omega arith, clear k h)) in
    absurd (omega (arith, one, ap (λ (x : ℕ). bit_at x p) none, bit_at-zero p))

pub clear_run_some : (word ones width count starts p : ℕ) → 0 < count → word < 2 ^ 64 → ones ≡ 2 ^ width - 1 → width ≤ 64
    → AreRunStarts (bit_and (bit_not w64 word) ones) starts count
    → bit_at starts p ≡ 1 → ((i : ℕ) → i < p → bit_at starts i ≡ 0) → IsLowestRunIn word width count p
clear_run_some word ones width count starts p some fits is wide runs set lower =
    let free = λ (k : ℕ) (h : k < count). (free_is word ones width (p + k) fits is wide).0 ((runs p).0 set k h) in
    let last : p + (count - 1) < width = (free (count - 1) (omega arith)).0 in
    record {
      below = omega arith;
      clear = λ k h. (free k h).1;
      lower = λ q before clear.
          let one : bit_at starts q ≡ 1 = (runs q).1 (λ k h. (free_is word ones width (q + k) fits is wide).1 (omega arith, clear k h)) in
          absurd (omega (arith, one, lower q before));
    }

-- ---- in a row

pub not_clear : (words : List ℕ) (p s count : ℕ) → bit_in words s ≡ 1 → p ≤ s → s < p + count → ¬ IsClear words p (p + count)
not_clear words p s count set from to clear = absurd (omega (arith, set, clear s from to))

-- a run in the row that lies in a chunk is a run in its word, and the other way round
pub run_in_chunk : (words : List ℕ) (at width bits p count : ℕ) → IsChunk words at width bits → p + count ≤ width
    → IsClear words (at + p) (at + p + count) → IsClearIn bits p count
run_in_chunk words at width bits p count chunk within clear k h =
    let same : at + p + k ≡ at + (p + k) = omega arith in
    chunk.inside (p + k) (omega arith) ∙ ap (λ (j : ℕ). bit_in words j) (sym same) ∙ clear (at + p + k) (omega arith) (omega arith)

pub chunk_run : (words : List ℕ) (at width bits p count : ℕ) → IsChunk words at width bits → p + count ≤ width → IsClearIn bits p count
    → IsClear words (at + p) (at + p + count)
chunk_run words at width bits p count chunk within clear i from to =
    let same : at + (i - at) ≡ i = omega arith in
    let inner : p + (i - at - p) ≡ i - at = omega arith in
    ap (λ (j : ℕ). bit_in words j) (sym same) ∙ sym (chunk.inside (i - at) (omega arith))
    ∙ ap (λ (j : ℕ). bit_at bits j) (sym inner) ∙ clear (i - at - p) (omega arith)

-- a run that begins before the chunk ends at the lowest set bit of the chunk, so it is too short
pub no_run_more : (words : List ℕ) (from start at width bits l count bound : ℕ) → IsChunk words at width bits → bit_at bits l ≡ 1
    → at + l < start + count → HasNoRun words from start count
    → ((q : ℕ) → at + q < bound → ¬ IsClear words (at + q) (at + q + count)) → HasNoRun words from bound count
no_run_more words from start at width bits l count bound chunk set short none inner p above below =
    elim (cases_lt p start) [
      | inl before ↦ none p above before
      | inr after ↦ elim (cases_lt (at + l) p) [
        | inl past ↦
            let same : at + (p - at) ≡ p = omega arith in
            subst (λ (j : ℕ). ¬ IsClear words j (j + count)) same (inner (p - at) (omega arith))
        | inr upto ↦ not_clear words p (at + l) count (set_at words at width bits l chunk set) upto (omega arith)
      ]
    ]

-- where the word of the chunk has no run, none begins up to its highest set bit
pub no_run_upto_highest : (words : List ℕ) (at width bits h count : ℕ) → IsChunk words at width bits → bit_at bits h ≡ 1 → h < width
    → ((q : ℕ) → q + count ≤ width → ¬ IsClearIn bits q count)
    → (q : ℕ) → at + q < at + h + 1 → ¬ IsClear words (at + q) (at + q + count)
no_run_upto_highest words at width bits h count chunk set within none q below clear =
    elim (cases_lt h (q + count)) [
      | inl past ↦ not_clear words (at + q) (at + h) count (set_at words at width bits h chunk set) (omega arith) (omega arith) clear
      | inr upto ↦ none q (omega arith) (run_in_chunk words at width bits q count chunk (omega arith) clear)
    ]

-- the bits above the highest set one are fewer than a run
pub short_above : (width bits h count : ℕ) → ((q : ℕ) → q + count ≤ width → ¬ IsClearIn bits q count)
    → ((i : ℕ) → h < i → bit_at bits i ≡ 0) → width < h + 1 + count
short_above width bits h count none above =
    elim (cases_lt width (h + 1 + count))
    [ inl short ↦ short | inr long ↦ absurd (none (h + 1) long (λ k i. above (h + 1 + k) (omega arith))) ]
