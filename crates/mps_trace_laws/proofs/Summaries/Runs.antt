-- What is noted of a block has the zones of its references.
use Rattle.std.proofs.Common.{◌≡◌, ◌∙◌, ℕ, zero, suc, ◌+◌, ◌<◌, true, ap, List, subst, inl, inr, arith}
use Rattle.std.proofs.lemmas.Bool.{cases_lt, lt-ltb}
use Rattle.std.specs.Prelude.{IsTrue, if◌then◌else◌, slice_index, bit_or}
use Rattle.mps_base.specs.Address.{Address, word_of, zone_of}
use Rattle.mps_base.specs.Zones.{zones_meet, zone_bit_of}
use Rattle.mps_format.specs.Layout.{Layout}
use Rattle.mps_seg.specs.Moving.{run_at}
use Rattle.mps_trace.specs.Noting.{zones_of_target, zones_of_cell, zones_of_cells, zones_of_block}
use Rattle.mps_xform.specs.Summed.{IsRunSummed}
use Rattle.mps_xform.proofs.Zones.{own_zone, more_zones, zones_before}

-- ---- the zones of a block

module _ (f : Layout) (words : List ℕ) (head : ℕ) (at : Address) where
  abbrev target : ℕ → Address
  target k = f.target (slice_index words (word_of at + k))

  own_target : (k : ℕ) → IsTrue (f.is_reference head k) → 0 < target k
      → zones_meet (zone_bit_of (target k)) (zones_of_cell f words head at k) ≡ true
  own_target k reference some =
      let cell : zones_of_cell f words head at k ≡ zones_of_target (target k) =
      ap (λ b. if b then zones_of_target (target k) else 0) reference
      in
      let zone : zones_of_target (target k) ≡ zone_bit_of (target k) =
      ap (λ b. if b then zone_bit_of (target k) else 0) (lt-ltb 0 (target k) some)
      in
      ap (λ z. zones_meet (zone_bit_of (target k)) z) (cell ∙ zone) ∙ own_zone (zone_of (target k))

  own_cells : (n k : ℕ) → k < n → IsTrue (f.is_reference head k) → 0 < target k
      → zones_meet (zone_bit_of (target k)) (zones_of_cells f words head at n) ≡ true
  own_cells zero k few reference some = absurd (omega (arith, few))
  own_cells (suc n) k few reference some =
      let before = zones_of_cells f words head at n in
      elim (cases_lt k n) [
        | inl below ↦
            more_zones before (zones_of_cell f words head at n) (zone_of (target k)) (own_cells n k below reference some)
        | inr last ↦
            let same : k ≡ n = omega (arith, few, last) in
            let P : ℕ → Type 0 = λ m. zones_meet (zone_bit_of (target k)) (zones_of_cell f words head at m) ≡ true in
            zones_before before (zones_of_cell f words head at n) (zone_of (target k)) (subst P same (own_target k reference some))
      ]

-- a block is summed in what was noted of it
pub block_noted : (f : Layout) (words : List ℕ) (at : Address) (size zones : ℕ) → size ≡ f.size (slice_index words (word_of at))
    → IsRunSummed f words (bit_or zones (zones_of_block f words at)) (run_at at size)
block_noted f words at size zones whole k few reference some =
    zones_before zones (zones_of_block f words at) (zone_of (target f words (slice_index words (word_of at)) at k))
    (own_cells f words (slice_index words (word_of at)) at (f.size (slice_index words (word_of at))) k (omega (arith, few, whole)) reference
    some)
