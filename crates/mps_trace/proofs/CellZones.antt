-- The zones to which the cells of a block lead, reference by reference.
use Rattle.std.proofs.Common.{ℕ, zero, suc, ◌+◌, ◌-◌, ◌<◌, ◌≤◌, ◌≡◌, ◌∙◌, false, List, ap, arith}
use Rattle.std.specs.Prelude.{if◌then◌else◌, slice_index, bit_or}
use Rattle.std.specs.Int.Bits.{or_zero_r}
use Rattle.mps_base.specs.Address.{Address, word_of}
use Rattle.mps_format.specs.Layout.{Layout}
use Rattle.mps_format.specs.References.{IsFirstReference, HasNoReference}
use Rattle.mps_trace.specs.Noting.{zones_of_target, zones_of_cell, zones_of_cells}

module _ (f : Layout) (words : List ℕ) (head : ℕ) (at : Address) where
  abbrev zones : ℕ → ℕ
  zones n = zones_of_cells f words head at n

  abbrev target : ℕ → ℕ
  target k = zones_of_target (f.target (slice_index words (word_of at + k)))

  -- a cell that is no reference leads to no zone
  no_zone : (k : ℕ) → f.is_reference head k ≡ false → zones_of_cell f words head at k ≡ 0
  no_zone k none = ap (λ b. if b then target k else 0) none

  skipped : (n k : ℕ) → ((j : ℕ) → n ≤ j → j < n + k → f.is_reference head j ≡ false) → zones (n + k) ≡ zones n
  skipped n zero none = let e : n + 0 ≡ n = omega arith in ap zones e
  skipped n (suc k) none =
      let e : n + suc k ≡ suc (n + k) = omega arith in
      ap zones e
      ∙ ap (λ z. bit_or (zones (n + k)) z) (no_zone (n + k) (none (n + k) (omega arith) (omega arith)))
      ∙ or_zero_r (zones (n + k))
      ∙ skipped n k (λ j from below. none j from (omega (arith, below)))

  between : (n m : ℕ) → n ≤ m → ((j : ℕ) → n ≤ j → j < m → f.is_reference head j ≡ false) → zones m ≡ zones n
  between n m up none =
      let e : m ≡ n + (m - n) = omega (arith, up) in
      ap zones e ∙ skipped n (m - n) (λ j from below. none j from (omega (arith, below, up)))

  -- with the next reference
  pub next_zone : (from cell : ℕ) → IsFirstReference f head from cell → zones (cell + 1) ≡ bit_or (zones from) (target cell)
  next_zone from cell first =
      let e : cell + 1 ≡ suc cell = omega arith in
      ap zones e
      ∙ ap (λ z. bit_or z (zones_of_cell f words head at cell)) (between from cell first.not_before first.none_between)
      ∙ ap (λ b. bit_or (zones from) (if b then target cell else 0)) first.reference

  -- all of them
  pub no_zone_left : (from size : ℕ) → from ≤ size → HasNoReference f head from → zones size ≡ zones from
  no_zone_left from size up none = between from size up (λ j after below. none j after)
