-- What a collection does with the references of one weak block.
use Rattle.std.specs.Prelude.{◌≡◌, ℕ, ◌+◌, ◌%◌, ◌<◌, ◌≤◌, true, false, Option, Some, None, List, [], ◌∷◌, IsTrue, length, slice_get, slice_index, slice_set, refl}
use Rattle.mps_base.specs.Address.{Word, word_of, bytes_of_word}
use Rattle.mps_base.specs.Segment.{Segment, segment_over}
use Rattle.mps_base.specs.Trail.{Moves, with_move}
use Rattle.mps_base.specs.declared.address.Addr.{Addr}
use Rattle.mps_base.specs.declared.moves.Move.TheVariants as move
use Rattle.mps_format.specs.Layout.{Layout}
use Rattle.mps_format.specs.Front.{front_layout}
use Rattle.mps_format.specs.References.{IsFirstReference, HasNoReference}
use Rattle.mps_format.specs.declared.pool.Policy.{Policy}
use Rattle.mps_seg.specs.BitsTable.{bit}
use Rattle.mps_seg.specs.Segs.{SegsState, at_word}
use Rattle.mps_seg.specs.Collecting.{blackening}
use Rattle.mps_trace.specs.Finding.{CanFind, FindsTo}
use Rattle.mps_trace.specs.Scan.{word_at, target_at, after_redirect, IsDrained, two_words}
use Rattle.mps_trace.specs.Trace.{TraceState, Traced, traced}

-- the reference of a cell is null, and keeps its tag. The splat is logged
abbrev pub after_splat : Layout → (at : Addr) → (cell : ℕ) → Traced → Traced
after_splat f at cell x = record x {
  segs = record x.segs { words = slice_set x.segs.words (word_of at.0 + cell) (f.retarget (word_at x at cell) 0) };
  moves = with_move x.moves (move.Splat at cell);
}

-- what is done with the reference of a cell of a weak block
pub data SplatsCell {F : Type 0} (layout : F → Layout) (f : Layout) (formats : List (Option (Policy F))) (at : Addr) (cell : ℕ) (x : Traced)
    : Traced → Type 0
  where
    is_null : target_at f x at cell ≡ 0 → SplatsCell layout f formats at cell x x
    -- what it leads to is kept, and may have moved
    updates : {z : Traced} (to : Addr) → 0 < target_at f x at cell
        → FindsTo layout formats x.segs (record { 0 = target_at f x at cell }) (Some to)
        → z ≡ after_redirect f (word_at x at cell) at cell to x → SplatsCell layout f formats at cell x z
    -- or is white
    splats : {z : Traced} → 0 < target_at f x at cell → FindsTo layout formats x.segs (record { 0 = target_at f x at cell }) None
        → z ≡ after_splat f at cell x → SplatsCell layout f formats at cell x z

-- the reference of a cell is null, or what it leads to can be found, and there is room for the splat
pub record CanSplatCell {F : Type 0} (layout : F → Layout) (f : Layout) (formats : List (Option (Policy F))) (x : Traced) (at : Addr)
    (cell : ℕ) : Type 0 where
  pub find : 0 < target_at f x at cell → CanFind layout formats x.segs (record { 0 = target_at f x at cell })
  pub room : 0 < x.moves.spare

-- this is done with the references of a block with this head, in ascending order, up to a cell
pub data SplatsTo {F : Type 0} (layout : F → Layout) (f : Layout) (formats : List (Option (Policy F))) (head : ℕ) (at : Addr) (x : Traced)
    : (from : ℕ) → Traced → Type 0
  where
    begins : SplatsTo layout f formats head at x 0 x
    goes_on : {y z : Traced} (from cell : ℕ) → SplatsTo layout f formats head at x from y → IsFirstReference f head from cell
        → SplatsCell layout f formats at cell y z → SplatsTo layout f formats head at x (cell + 1) z

-- it can be done with each when its turn comes
abbrev pub AreSplatsReady : {F : Type 0} → (F → Layout) → (f : Layout) → (formats : List (Option (Policy F))) → (head : ℕ) → (at : Addr)
    → Traced → Type 0
AreSplatsReady layout f formats head at x = (from cell : ℕ) (y : Traced) → SplatsTo layout f formats head at x from y
    → IsFirstReference f head from cell → CanSplatCell layout f formats y at cell

-- it was done with all references of a block with this head
pub record SplatsAll {F : Type 0} (layout : F → Layout) (f : Layout) (formats : List (Option (Policy F))) (head : ℕ) (at : Addr)
    (x y : Traced) : Type 0 where
  pub from : ℕ
  pub run : SplatsTo layout f formats head at x from y
  pub done : HasNoReference f head from

-- a block lies at an address, in an automatic pool, and its references can be splatted when their turns come
pub record CanSplat {F : Type 0} (layout : F → Layout) (t : TraceState F) (s : SegsState) (m : Moves) (at : Addr) : Type 0 where
  pub aligned : at.0 % bytes_of_word ≡ 0
  pub segment : Segment
  pub over : segment_over s.segments at.0 ≡ Some segment
  pub format : Policy F
  pub listed : slice_get t.formats segment.pool ≡ Some (Some format)
  pub valid : IsTrue ((layout format.format).is_valid (slice_index s.words (word_of at.0)))
  pub within : word_of at.0 + (layout format.format).size (slice_index s.words (word_of at.0)) ≤ length s.words
  pub ready : AreSplatsReady layout (layout format.format) t.formats (slice_index s.words (word_of at.0)) at (traced t s m)

-- a weak block was scanned: its references to white blocks are null, and it is grey no longer
pub record Splatted {F : Type 0} (layout : F → Layout) (formats : List (Option (Policy F))) (x : Traced) (at : Addr) (z : Traced) : Type 0
  where
    pub segment : Segment
    pub over : segment_over x.segs.segments at.0 ≡ Some segment
    pub format : Policy F
    pub listed : slice_get formats segment.pool ≡ Some (Some format)
    pub before : Traced
    pub all : SplatsAll layout (layout format.format) formats (slice_index x.segs.words (word_of at.0)) at x before
    pub black : z ≡ record before { segs = blackening before.segs at.0 }

-- every weak grey block can be scanned
abbrev pub CanSplatGrey : {F : Type 0} → (F → Layout) → TraceState F → SegsState → Moves → Type 0
CanSplatGrey layout t s m = (word : Word) → bit s.marks.weak word ≡ true → CanSplat layout t s m (at_word word)

-- one of them was scanned
pub record SplatsOne {F : Type 0} (layout : F → Layout) (formats : List (Option (Policy F))) (x z : Traced) : Type 0 where
  pub word : Word
  pub grey : bit x.segs.marks.weak word ≡ true
  pub splatted : Splatted layout formats x (at_word word) z

-- no weak block is grey
abbrev pub HasNoWeakMark : SegsState → Type 0
HasNoWeakMark s = (word : Word) → bit s.marks.weak word ≡ false

-- no block is grey
pub record HasNoMark (s : SegsState) : Type 0 where
  pub exact : IsDrained s
  pub weak : HasNoWeakMark s

-- ---- vectors: the second word leads to 0x2000 and has the tag 5

pub a_splat_leaves_the_tag : (after_splat front_layout (record { 0 = 0 }) 1 two_words).segs.words ≡ 0x201 ∷ 5 ∷ []
a_splat_leaves_the_tag = refl

pub a_splat_is_logged : (after_splat front_layout (record { 0 = 0 }) 1 two_words).moves.moves ≡ move.Splat (record { 0 = 0 }) 1 ∷ []
a_splat_is_logged = refl
