-- The zones to which a block leads, as its own words have them.
use Rattle.std.proofs.Common.{ℕ, zero, suc, ◌+◌, ◌<◌, ◌≤◌, ◌≡◌, ◌∙◌, List, length, refl, ap, ap₂, arith}
use Rattle.std.proofs.lemmas.List.{get_or-drop}
use Rattle.std.specs.Prelude.{if◌then◌else◌, slice_index, bit_or}
use Rattle.mps_base.specs.Address.{Address, word_of}
use Rattle.mps_format.specs.Layout.{Layout}
use Rattle.mps_amc.proofs.PartSeen.{IsPart, same_word}
use Rattle.mps_trace.specs.Noting.{zones_of_target, zones_of_cells, zones_of_block}

module _ (f : Layout) (words mem : List ℕ) (at : Address) (part : IsPart words mem (word_of at)) where
  same_cell : (k : ℕ) → k < length mem → slice_index mem (word_of 0 + k) ≡ slice_index words (word_of at + k)
  same_cell k within =
      let e : word_of 0 + k ≡ k = omega arith in
      ap (λ (i : ℕ). slice_index mem i) e ∙ same_word f words mem (word_of at) part k within ∙ get_or-drop (word_of at) words k 0

  same_zones : (head n : ℕ) → n ≤ length mem → zones_of_cells f mem head 0 n ≡ zones_of_cells f words head at n
  same_zones head zero few = refl
  same_zones head (suc n) few =
      ap₂ bit_or (same_zones head n (omega (arith, few)))
      (ap (λ (w : ℕ). if f.is_reference head n then zones_of_target (f.target w) else 0) (same_cell n (omega (arith, few))))

  pub first_word : 0 < length mem → slice_index mem 0 ≡ slice_index words (word_of at)
  first_word some =
      let e : word_of at + 0 ≡ word_of at = omega arith in
      same_word f words mem (word_of at) part 0 some ∙ get_or-drop (word_of at) words 0 0 ∙ ap (λ (i : ℕ). slice_index words i) e

  same_head : 0 < length mem → slice_index mem (word_of 0) ≡ slice_index words (word_of at)
  same_head some =
      let e : word_of 0 ≡ word_of 0 + 0 = omega arith in
      let e' : word_of at + 0 ≡ word_of at = omega arith in
      ap (λ (i : ℕ). slice_index mem i) e ∙ same_cell 0 some ∙ ap (λ (i : ℕ). slice_index words i) e'

  pub own_zones : 0 < length mem → f.size (slice_index words (word_of at)) ≤ length mem
      → zones_of_block f mem 0 ≡ zones_of_block f words at
  own_zones some whole =
      ap (λ (h : ℕ). zones_of_cells f mem h 0 (f.size h)) (same_head some)
      ∙ same_zones (slice_index words (word_of at)) (f.size (slice_index words (word_of at))) whole
