-- What the passes over segments, blocks and cells keep while a transform is applied.
use Rattle.std.specs.Prelude.{ℕ, ◌≡◌, ◌+◌, ◌<◌, ◌≤◌, ◌%◌, true, IsTrue, Option, Some, None, List, option_map, slice_index, nat_eq, Contains}
use Rattle.std.specs.Map.{lookup}
use Rattle.mps_base.specs.Address.{Address, Word, bytes_of_word}
use Rattle.mps_base.specs.Segment.{Segment, end_of_segment}
use Rattle.mps_base.specs.Zones.{zones_meet, zone_bit_of}
use Rattle.mps_format.specs.Layout.{Layout}
use Rattle.mps_seg.specs.Extents.{run_over}
use Rattle.mps_seg.specs.Segs.{SegsState}
use Rattle.mps_xform.specs.Applying.{CanApply, after_apply_below, is_in_pool}
use Rattle.mps_xform.specs.Summed.{AreBlocksSummed}
use Rattle.mps_xform.specs.declared.transforms.Pair.{Pair}

-- the new address that a table of pairs has for an old one
abbrev pub new_in : List (ℕ × Pair) → (old : Address) → Option Address
new_in entries old = option_map (λ p. p.new.0) (lookup (nat_eq old) entries)

-- each new address in a table of pairs is that of a word
abbrev pub AreAligned : List (ℕ × Pair) → Type 0
AreAligned entries = (old : Address) (p : Pair) → lookup (nat_eq old) entries ≡ Some p → p.new.0 % bytes_of_word ≡ 0

-- null is no old address, and none lies in one of these zones
pub record AreNoneIn (to : Address → Option Address) (zones : ℕ) : Type 0 where
  pub null : to 0 ≡ None
  pub each : (old : Address) → zones_meet (zone_bit_of old) zones ≡ true → to old ≡ None

-- the references of a pool below a word lead to their replacements; all else is as it was in `before`
pub record IsAppliedBelow (f : Layout) (to : Address → Option Address) (pool : ℕ) (before now : SegsState) (word : Word) : Type 0 where
  pub can : CanApply f before pool
  pub summed : AreBlocksSummed f before pool
  pub state : now ≡ after_apply_below f to before pool word

-- no reference among the first cells of a block with this head leads to an old address
abbrev pub LeadsToNone : Layout → (to : Address → Option Address) → SegsState → (at : Word) → (head cells : ℕ) → Type 0
LeadsToNone f to s at head cells =
    (cell : ℕ) → cell < cells → IsTrue (f.is_reference head cell) → to (f.target (slice_index s.words (at + cell))) ≡ None

-- the addresses from one to another are those of a segment of this pool
pub record IsSpanOf (segments : List Segment) (pool : ℕ) (base end : Address) : Type 0 where
  pub segment : Segment
  pub there : Contains segments segment
  pub of_pool : segment.pool ≡ pool
  pub begins : segment.base ≡ base
  pub ends : end_of_segment segment ≡ end

-- a block of this pool with this head begins at a word
pub record IsBlockOf (f : Layout) (s : SegsState) (pool : ℕ) (at : Word) (head : ℕ) : Type 0 where
  pub has_head : slice_index s.words at ≡ head
  pub in_pool : (word : Word) → at ≤ word → word < at + f.size head → is_in_pool s pool word ≡ true
  pub over : (word : Word) → at ≤ word → word < at + f.size head → run_over s.blocks word ≡ Some at
