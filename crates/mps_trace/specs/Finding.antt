-- Where a block lies now to which an address leads.
use Rattle.std.specs.Prelude.{◌≡◌, ◌%◌, ◌<◌, Bool, if◌then◌else◌, true, false, Option, Some, None, List, [], ◌∷◌, length, slice_get, refl}
use Rattle.std.proofs.Common.{arith}
use Rattle.mps_base.specs.Address.{Address, word_of, bytes_of_word}
use Rattle.mps_base.specs.Segment.{Segment, segment_over}
use Rattle.mps_base.specs.declared.address.Addr.{Addr}
use Rattle.mps_format.specs.Front.{front_layout}
use Rattle.mps_format.specs.Layout.{Layout}
use Rattle.mps_format.specs.declared.pool.Policy.{Policy}
use Rattle.mps_seg.specs.BitsTable as table
use Rattle.mps_seg.specs.Segs.{SegsState, new_segments}
use Rattle.mps_seg.specs.Collecting.{is_condemned_at, is_kept_at}
use Rattle.mps_amc.specs.Moving.{IsForwarded, IsUnforwarded}

-- the address of a block that hasn't moved, None if it isn't kept
abbrev pub kept_at : SegsState → (at : Addr) → Option Addr
kept_at s at = if is_kept_at s at.0 then Some at else None

-- where a block of a condemned segment lies now whose pool moves its blocks, or doesn't; None if it is white
pub data FindsIn (f : Layout) (moves : Bool) (s : SegsState) (at : Addr) : Option Addr → Type 0 where
  -- a forwarded block leads to where it moved
  has_moved : (to : Addr) → moves ≡ true → IsForwarded f s.words at.0 to.0 → FindsIn f moves s at (Some to)
  -- it hasn't moved
  lies : {found : Option Addr} → (moves ≡ true → IsUnforwarded f s.words at.0) → found ≡ kept_at s at → FindsIn f moves s at found

-- where the block lies now to which an address leads; None if it is white
pub data FindsTo {F : Type 0} (layout : F → Layout) (formats : List (Option (Policy F))) (s : SegsState) (at : Addr)
    : Option Addr → Type 0
  where
    -- the segment isn't condemned
    passes : is_condemned_at s at.0 ≡ false → FindsTo layout formats s at (Some at)
    -- or its pool knows
    in_pool : (t : Segment) (format : Policy F) {found : Option Addr} → is_condemned_at s at.0 ≡ true
        → segment_over s.segments at.0 ≡ Some t → slice_get formats t.pool ≡ Some (Some format)
        → FindsIn (layout format.format) format.moves s at found → FindsTo layout formats s at found

-- the pool of the segment over an address is known, and a forwarded block there leads to a word
pub record IsOfKnownPool {F : Type 0} (layout : F → Layout) (formats : List (Option (Policy F))) (s : SegsState) (at : Addr) : Type 0
  where
    pub segment : Segment
    pub over : segment_over s.segments at.0 ≡ Some segment
    pub format : Policy F
    pub listed : slice_get formats segment.pool ≡ Some (Some format)
    pub leads : format.moves ≡ true → (to : Address) → IsForwarded (layout format.format) s.words at.0 to → to % bytes_of_word ≡ 0

-- an address on a word of the arena, where a block can be found
pub record CanFind {F : Type 0} (layout : F → Layout) (formats : List (Option (Policy F))) (s : SegsState) (at : Addr) : Type 0 where
  pub aligned : at.0 % bytes_of_word ≡ 0
  pub in_arena : word_of at.0 < length s.words
  pub condemned : is_condemned_at s at.0 ≡ true → IsOfKnownPool layout formats s at

-- ---- vectors: a block at 24, and a forwarded one that leads to 40. Neither has a mark

abbrev held : SegsState
held = record (new_segments 1 1) { words = 0 ∷ 0 ∷ 0 ∷ 0x201 ∷ 7 ∷ 0 ∷ 0 ∷ [] }

abbrev moved : SegsState
moved = record held { words = 0 ∷ 0 ∷ 0 ∷ 0x204 ∷ 40 ∷ 0x201 ∷ 7 ∷ [] }

pub a_block_without_a_mark : FindsIn front_layout false held (record { 0 = 24 }) None
unfolding table.bit
a_block_without_a_mark = lies (λ never. absurd cc) refl

pub a_block_that_moved : FindsIn front_layout true moved (record { 0 = 24 }) (Some (record { 0 = 40 }))
a_block_that_moved =
    has_moved (record { 0 = 40 }) refl
    (record { size = 2; begins = record { in_range = (omega arith, omega arith); whole = omega arith; head = refl }; leads = refl })

-- a forwarded block has no mark, and isn't white for that
pub a_block_that_moved_is_not_white : FindsIn front_layout true moved (record { 0 = 24 }) None → ⊥
a_block_that_moved_is_not_white (lies unforwarded is) =
    unforwarded refl 2 (record { in_range = (omega arith, omega arith); whole = omega arith; head = refl })

-- if no pool is known nothing is found white
pub nothing_is_white_without_a_pool : {F : Type 0} (layout : F → Layout) (s : SegsState) (at : Addr) → FindsTo layout [] s at None → ⊥
nothing_is_white_without_a_pool layout s at (in_pool t format condemned over listed finds) =
    let never : None ≡ Some (Some format) = listed in absurd cc
