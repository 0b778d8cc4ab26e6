-- What the summaries are after a block was copied: each has what it had, and that of its new segment has the zones of the block.
use Rattle.std.proofs.Common.{◌≡◌, ◌∙◌, ℕ, ◌<◌, Bool, true, sym, ap, List, length, Some, subst, inl, inr}
use Rattle.std.proofs.lemmas.Bool.{cases_Bool, cases_eq, eqb-true}
use Rattle.std.proofs.lemmas.List.{get_or-set_same, get_or-set_other, length-set}
use Rattle.std.specs.Prelude.{if◌then◌else◌, slice_index, slice_set, bit_or, ◌==◌}
use Rattle.mps_base.specs.Address.{Address, Grain, word_of}
use Rattle.mps_base.specs.Zones.{zones_meet, zone_bit}
use Rattle.mps_format.specs.Layout.{Layout}
use Rattle.mps_seg.specs.Moving.{run_at}
use Rattle.mps_trace.specs.Noting.{zones_of_block, summaries_of_copy}
use Rattle.mps_xform.specs.Summed.{IsRunSummed}
use Rattle.mps_xform.proofs.Zones.{AreZonesOf, more_zones, nothing_new}
use Rattle.mps_trace_laws.proofs.Summaries.Runs.{block_noted}
use Rattle.mps_xform.proofs.SummedRuns.{summed_in}

module _ (summaries : List ℕ) (from to : Grain) (zones : ℕ) (within : to < length summaries) where
  abbrev before : Grain → ℕ
  before grain = slice_index summaries grain

  abbrev more : List ℕ
  more = slice_set summaries to (bit_or (before to) zones)

  abbrev known : Bool
  known = bit_or (before from) (before to) == before to

  own : slice_index more to ≡ bit_or (before to) zones
  own = get_or-set_same summaries to (bit_or (before to) zones) 0 within

  set_more : (grain : Grain) → AreZonesOf (before grain) (slice_index more grain)
  set_more grain k h =
      elim (cases_eq grain to) [
        | inl same ↦
            let Q : ℕ → Type 0 = λ g. AreZonesOf (before g) (slice_index more g) in
            let there : AreZonesOf (before to) (slice_index more to) =
            λ j g. subst (λ z. zones_meet (zone_bit j) z ≡ true) (sym own)
            (more_zones (before to) zones j g)
            in
            subst Q (sym same) there k h
        | inr other ↦
            subst (λ z. zones_meet (zone_bit k) z ≡ true)
            (sym (get_or-set_other summaries to grain (bit_or (before to) zones) 0 other)) h
      ]

  pub still_there : (grain : Grain)
      → AreZonesOf (before grain) (slice_index (summaries_of_copy summaries (Some from) (Some to) zones) grain)
  still_there grain =
      elim (cases_Bool known) [
        | inl has ↦
            let is = ap (λ b. if b then summaries else more) has in
            subst (λ ss. AreZonesOf (before grain) (slice_index ss grain)) (sym is) (λ k h. h)
        | inr lacks ↦
            let is = ap (λ b. if b then summaries else more) lacks in
            subst (λ ss. AreZonesOf (before grain) (slice_index ss grain)) (sym is) (set_more grain)
      ]

  pub same_length : length (summaries_of_copy summaries (Some from) (Some to) zones) ≡ length summaries
  same_length =
      elim (cases_Bool known) [
        | inl has ↦ ap (λ b. length (if b then summaries else more)) has
        | inr lacks ↦
            ap (λ b. length (if b then summaries else more)) lacks
            ∙ length-set summaries to (bit_or (before to) zones)
      ]

-- a block that was summed where it was is so where it moved
pub copy_is_noted : (summaries : List ℕ) (from to : Grain) (f : Layout) (words : List ℕ) (at : Address) (size : ℕ)
    → to < length summaries → size ≡ f.size (slice_index words (word_of at))
    → IsRunSummed f words (slice_index summaries from) (run_at at size)
    → IsRunSummed f words (slice_index (summaries_of_copy summaries (Some from) (Some to) (zones_of_block f words at)) to) (run_at at size)
copy_is_noted summaries from to f words at size within whole summed =
    let zones = zones_of_block f words at in
    let more = slice_set summaries to (bit_or (slice_index summaries to) zones) in
    let P : List ℕ → Type 0 = λ ss. IsRunSummed f words (slice_index ss to) (run_at at size) in
    let known : Bool = bit_or (slice_index summaries from) (slice_index summaries to) == slice_index summaries to in
    elim (cases_Bool known) [
      | inl has ↦
          subst P (sym (ap (λ b. if b then summaries else more) has))
          (summed_in f words (slice_index summaries from) (slice_index summaries to) (run_at at size)
          (nothing_new (slice_index summaries from) (slice_index summaries to)
          (eqb-true (bit_or (slice_index summaries from) (slice_index summaries to)) (slice_index summaries to) has))
          summed)
      | inr lacks ↦
          let Q : ℕ → Type 0 = λ z. IsRunSummed f words z (run_at at size) in
          subst P (sym (ap (λ b. if b then summaries else more) lacks))
          (subst Q (sym (own summaries from to zones within)) (block_noted f words at size (slice_index summaries to) whole))
    ]
