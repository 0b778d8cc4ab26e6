-- Grey marks have the rank of their segments, and objects lie in segments of their rank.
use Rattle.std.specs.Prelude.{◌≡◌, Bool, true, false, if◌then◌else◌, Some}
use Rattle.mps_base.specs.Address.{Address, Id, Word, word_of, address_of_word}
use Rattle.mps_base.specs.declared.names.Rank.TheVariants.{Exact, Weak}
use Rattle.mps_extents.specs.Table.{bit}
use Rattle.mps_seg.specs.Segs.{SegsState}
use Rattle.mps_seg.specs.Collecting.{rank_at, greying}
use Rattle.mps_model.specs.Graph.{entry_at, is_weak_object}
use Rattle.mps_model.specs.World.{World, is_live, object_is}
use Rattle.mps_abstract.specs.Colours.{AreGreyKept, AreColoursDrained}
use Rattle.mps_abstract.specs.Collecting.{Collecting}
use Rattle.mps_trace.specs.Scan.{IsDrained}
use Rattle.mps_trace_laws.specs.Image.Memory.{Setting, memory_in}
use Rattle.mps_trace_laws.specs.Image.Image.{MarksStand}

-- each grey block has the mark of its segment's rank
pub record AreMarksRanked (s : SegsState) : Type 0 where
  pub exact : (n : Word) → bit s.marks.exact n ≡ true → rank_at s (address_of_word n) ≡ Exact
  pub weak : (n : Word) → bit s.marks.weak n ≡ true → rank_at s (address_of_word n) ≡ Weak

-- weak objects lie in weak segments, and no others do
abbrev pub AreObjectsRanked : SegsState → World → Type 0
AreObjectsRanked s w = (id : Id) (at : Address) → entry_at w.addresses id ≡ Some at
    → rank_at s (address_of_word (word_of at)) ≡ (if object_is is_weak_object w id then Weak else Exact)

-- a block that becomes grey gets the mark of its segment's rank
abbrev pub GreyingKeepsRanks : Type 0
GreyingKeepsRanks = (s : SegsState) (at : Address) → address_of_word (word_of at) ≡ at → AreMarksRanked s → AreMarksRanked (greying s at)

-- if no block has an exact mark nothing but weak objects is grey, and an object whose block has one isn't weak
pub record DoMarksShow (s : SegsState) (y : Collecting) : Type 0 where
  pub drained : IsDrained s → AreColoursDrained (object_is is_weak_object y.world) y.colours
  pub strong : (id : Id) (at : Address) → entry_at y.world.addresses id ≡ Some at → bit s.marks.exact (word_of at) ≡ true
      → object_is is_weak_object y.world id ≡ false

abbrev pub RankedMarksShow : Type 0
RankedMarksShow =
    (s : SegsState) (set : Setting) (y : Collecting) (automatic : Id → Bool) → AreMarksRanked s → AreObjectsRanked s y.world
    → MarksStand set (memory_in s).kept (memory_in s).grey y.world.addresses y.colours
    → AreGreyKept automatic (is_live y.world) y.running.condemned y.colours → DoMarksShow s y
