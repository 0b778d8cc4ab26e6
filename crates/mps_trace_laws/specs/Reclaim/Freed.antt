-- The blocks that the reclaim of a condemned segment frees, against the objects of an image in the last band of a collection.
use Rattle.std.specs.Prelude.{◌≡◌, true, false, IsTrue, Option, Some, None, if◌then◌else◌, List, [], ◌∷◌, map, Contains, refl}
use Rattle.mps_base.specs.Address.{Address, Id, Word, word_of, address_of_word, grain_of}
use Rattle.mps_base.specs.Run.{Run}
use Rattle.mps_base.specs.Segment.{Segment, segment_over, is_in_segment}
use Rattle.mps_extents.specs.Table.{bit}
use Rattle.mps_seg.specs.Segs.{SegsState}
use Rattle.mps_model.specs.Graph.{contains, entry_at}
use Rattle.mps_model.specs.Units.{is_ascending}
use Rattle.mps_abstract.specs.Colours.{Colours, is_white}
use Rattle.mps_trace_laws.specs.Image.Memory.{Setting, is_condemned_word}
use Rattle.mps_trace_laws.specs.Image.SegmentWords.{AreSegmentsInOrder}

-- the addresses at which runs of words begin
abbrev pub addresses_of : List Run → List Address
addresses_of rs = map (λ (r : Run). address_of_word r.from) rs

-- a held condemned segment of an arena, whose condemned words are those of an image
pub record IsCondemnedSegment (s : Setting) (g : SegsState) (t : Segment) : Type 0 where
  pub order : AreSegmentsInOrder g.segments
  pub held : Contains g.segments t
  pub condemned : bit g.condemned (grain_of t.base) ≡ true
  pub same : (n : Word) → s.is_condemned_over n ≡ is_condemned_word g n

-- a white object lies at an address in a segment
pub record IsWhiteIn (s : Setting) (g : SegsState) (addresses : List (Option Address)) (k : Colours) (t : Segment) (at : Address) : Type 0
  where
    pub id : Id
    pub address : entry_at addresses id ≡ Some at
    pub white : is_white s.condemned k id ≡ true
    pub over : segment_over g.segments at ≡ Some t
    pub inside : is_in_segment t at ≡ true

-- exactly the white objects of a segment are freed, in ascending order, and they lie in no other segment
pub record AreWhiteFreed (s : Setting) (g : SegsState) (addresses : List (Option Address)) (k : Colours) (t : Segment)
    (freed : List Address) : Type 0 where
  pub ascending : IsTrue (is_ascending 0 freed)
  pub white : (at : Address) → IsTrue (contains freed at) → IsWhiteIn s g addresses k t at
  pub all : (id : Id) (at : Address) → entry_at addresses id ≡ Some at → is_white s.condemned k id ≡ true
      → segment_over g.segments at ≡ Some t → IsTrue (contains freed at)
  pub apart : (other : Segment) (at : Address) → Contains g.segments other → (other.base ≡ t.base → ⊥) → IsTrue (contains freed at)
      → is_in_segment other (address_of_word (word_of at)) ≡ false

-- ---- what is left

-- an address once objects at these addresses have gone
abbrev pub unless_gone : (freed : List Address) → Option Address → Option Address
unless_gone freed None = None
unless_gone freed (Some at) = if contains freed at then None else Some at

-- the addresses of objects, without those that are freed
abbrev pub addresses_without : (freed : List Address) → List (Option Address) → List (Option Address)
addresses_without freed addresses = map (unless_gone freed) addresses

-- white objects aren't read any more
abbrev pub AreWhiteUnread : Setting → Colours → Type 0
AreWhiteUnread s k = (id : Id) → IsTrue (s.is_read id) → is_white s.condemned k id ≡ false

-- ---- vectors

pub addresses_in_order : addresses_of (record { from = 512; count = 2 } ∷ record { from = 600; count = 3 } ∷ []) ≡ 4096 ∷ 4800 ∷ []
addresses_in_order = refl

pub one_is_gone : addresses_without (4096 ∷ []) (Some 4096 ∷ None ∷ Some 4800 ∷ []) ≡ None ∷ None ∷ Some 4800 ∷ []
one_is_gone = refl
