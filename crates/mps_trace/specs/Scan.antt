-- What a collection does with the references of one block.
use Rattle.std.specs.Prelude.{◌≡◌, ℕ, ◌+◌, ◌%◌, ◌<◌, ◌≤◌, true, false, Option, Some, List, [], ◌∷◌, IsTrue, length, slice_get, slice_index, slice_set, refl}
use Rattle.mps_base.specs.Address.{Address, Word, word_of, bytes_of_word}
use Rattle.mps_base.specs.Segment.{Segment, segment_over}
use Rattle.mps_base.specs.Trail.{Moves}
use Rattle.mps_base.specs.declared.address.Addr.{Addr}
use Rattle.mps_format.specs.Layout.{Layout}
use Rattle.mps_format.specs.Front.{front_layout}
use Rattle.mps_format.specs.References.{IsFirstReference, HasNoReference}
use Rattle.mps_seg.specs.BitsTable.{bit}
use Rattle.mps_seg.specs.Segs.{SegsState, at_word, new_segments}
use Rattle.mps_seg.specs.Collecting.{noting, blackening}
use Rattle.mps_amc.specs.Amc as amc
use Rattle.mps_gen.specs.State.{ChainsState}
use Rattle.mps_trace.specs.Trace.{TraceState, Traced, traced, CanFixAt, FixesTo}
use Rattle.mps_format.specs.declared.pool.Policy.{Policy}

-- the word of a cell, and the address to which it leads
abbrev pub word_at : Traced → (at : Addr) → (cell : ℕ) → ℕ
word_at x at cell = slice_index x.segs.words (word_of at.0 + cell)

abbrev pub target_at : Layout → Traced → (at : Addr) → (cell : ℕ) → Address
target_at f x at cell = f.target (word_at x at cell)

-- the reference of a cell leads to an address, where it led elsewhere. The summary of the segment of its block has the zone
abbrev pub after_redirect : Layout → (word : ℕ) → (at : Addr) → (cell : ℕ) → (to : Addr) → Traced → Traced
after_redirect f word at cell to x = record x {
  segs = noting (record x.segs { words = slice_set x.segs.words (word_of at.0 + cell) (f.retarget word to.0) }) at.0 to.0;
}

-- what is done with the reference of a cell
pub data FixesCell {F : Type 0} (layout : F → Layout) (f : Layout) (formats : List (Option (Policy F))) (chains : ChainsState) (at : Addr)
    (cell : ℕ) (x : Traced) : Traced → Type 0
  where
    is_null : target_at f x at cell ≡ 0 → FixesCell layout f formats chains at cell x x
    leads : {y z : Traced} (to : Addr) → 0 < target_at f x at cell
        → FixesTo layout formats chains x (record { 0 = target_at f x at cell }) y to
        → z ≡ after_redirect f (word_at x at cell) at cell to y
        → FixesCell layout f formats chains at cell x z

-- the reference of a cell is null, or leads to what can be fixed
abbrev pub CanFixCellAt : {F : Type 0} → (F → Layout) → (f : Layout) → (formats : List (Option (Policy F))) → ChainsState → Traced
    → (at : Addr)
    → (cell : ℕ) → Type 0
CanFixCellAt layout f formats chains x at cell = 0 < target_at f x at cell
    → CanFixAt layout formats chains x (record { 0 = target_at f x at cell })

abbrev pub CanFixCell : {F : Type 0} → (F → Layout) → (f : Layout) → TraceState F → SegsState → Moves → (at : Addr) → (cell : ℕ) → Type 0
CanFixCell layout f t s m at cell = CanFixCellAt layout f t.formats t.chains (traced t s m) at cell

-- the references of a block with this head are fixed in ascending order, up to a cell
pub data ScansTo {F : Type 0} (layout : F → Layout) (f : Layout) (formats : List (Option (Policy F))) (chains : ChainsState) (head : ℕ)
    (at : Addr) (x : Traced) : (from : ℕ) → Traced → Type 0
  where
    begins : ScansTo layout f formats chains head at x 0 x
    goes_on : {y z : Traced} (from cell : ℕ) → ScansTo layout f formats chains head at x from y → IsFirstReference f head from cell
        → FixesCell layout f formats chains at cell y z
        → ScansTo layout f formats chains head at x (cell + 1) z

-- each reference can be fixed when its turn comes
abbrev pub AreReady : {F : Type 0} → (F → Layout) → (f : Layout) → (formats : List (Option (Policy F))) → ChainsState → (head : ℕ)
    → (at : Addr)
    → Traced → Type 0
AreReady layout f formats chains head at x = (from cell : ℕ) (y : Traced) → ScansTo layout f formats chains head at x from y
    → IsFirstReference f head from cell → CanFixCellAt layout f formats chains y at cell

abbrev pub AreReadyIn : {F : Type 0} → (F → Layout) → (f : Layout) → TraceState F → SegsState → Moves → (head : ℕ) → (at : Addr) → Type 0
AreReadyIn layout f t s m head at = AreReady layout f t.formats t.chains head at (traced t s m)

-- all references of a block with this head are fixed
pub record ScansAll {F : Type 0} (layout : F → Layout) (f : Layout) (formats : List (Option (Policy F))) (chains : ChainsState) (head : ℕ)
    (at : Addr) (x y : Traced) : Type 0 where
  pub from : ℕ
  pub run : ScansTo layout f formats chains head at x from y
  pub done : HasNoReference f head from

-- a block lies at an address, in an automatic pool, and each of its references can be fixed when its turn comes
pub record CanScan {F : Type 0} (layout : F → Layout) (t : TraceState F) (s : SegsState) (m : Moves) (at : Addr) : Type 0 where
  pub aligned : at.0 % bytes_of_word ≡ 0
  pub segment : Segment
  pub over : segment_over s.segments at.0 ≡ Some segment
  pub format : Policy F
  pub listed : slice_get t.formats segment.pool ≡ Some (Some format)
  pub valid : IsTrue ((layout format.format).is_valid (slice_index s.words (word_of at.0)))
  pub within : word_of at.0 + (layout format.format).size (slice_index s.words (word_of at.0)) ≤ length s.words
  pub ready : AreReadyIn layout (layout format.format) t s m (slice_index s.words (word_of at.0)) at

-- a block was scanned: its references are fixed, and it is grey no longer
pub record Scanned {F : Type 0} (layout : F → Layout) (formats : List (Option (Policy F))) (chains : ChainsState) (x : Traced) (at : Addr)
    (z : Traced) : Type 0 where
  pub segment : Segment
  pub over : segment_over x.segs.segments at.0 ≡ Some segment
  pub format : Policy F
  pub listed : slice_get formats segment.pool ≡ Some (Some format)
  pub before : Traced
  pub all : ScansAll layout (layout format.format) formats chains (slice_index x.segs.words (word_of at.0)) at x before
  pub black : z ≡ record before { segs = blackening before.segs at.0 }

-- every grey block that isn't weak can be scanned
abbrev pub CanScanGrey : {F : Type 0} → (F → Layout) → TraceState F → SegsState → Moves → Type 0
CanScanGrey layout t s m = (word : Word) → bit s.marks.exact word ≡ true → CanScan layout t s m (at_word word)

-- one of them was scanned
pub record ScansOne {F : Type 0} (layout : F
    → Layout) (formats : List (Option (Policy F))) (chains : ChainsState) (x z : Traced) : Type 0 where
  pub word : Word
  pub grey : bit x.segs.marks.exact word ≡ true
  pub scanned : Scanned layout formats chains x (at_word word) z

-- nothing but weak blocks is grey
abbrev pub IsDrained : SegsState → Type 0
IsDrained s = (word : Word) → bit s.marks.exact word ≡ false

-- ---- vectors: two words, the second of which leads to 0x2000 and has the tag 5

abbrev pub two_words : Traced
two_words = record {
  amc = amc.no_pools;
  segs = record (new_segments 1 1) { words = 0x201 ∷ 0x2005 ∷ [] };
  moves = record { moves = []; spare = 1 };
}

pub a_tag_is_no_part_of_a_target : target_at front_layout two_words (record { 0 = 0 }) 1 ≡ 0x2000
a_tag_is_no_part_of_a_target = refl

pub a_tag_stays : (after_redirect front_layout 0x2005 (record { 0 = 0 }) 1 (record { 0 = 0x3008 }) two_words).segs.words
    ≡ 0x201 ∷ 0x300d ∷ []
a_tag_stays = refl
