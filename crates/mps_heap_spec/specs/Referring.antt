-- A cell of a block refers to an address: what becomes of its word, and of the summary of its segment.
use Rattle.std.specs.Prelude.{◌≡◌, ◌==◌, if◌then◌else◌, [], ◌∷◌, slice_set, refl}
use Rattle.mps_base.specs.Address.{Address}
use Rattle.mps_base.specs.declared.names.Rank.TheVariants.{Exact}
use Rattle.mps_format.specs.Front.{front_layout}
use Rattle.mps_format.specs.Layout.{Layout}
use Rattle.mps_seg.specs.Collecting.{noting}
use Rattle.mps_seg.specs.Segs.{SegsState, new_segments}
use Rattle.mps_heap_spec.specs.Finding.{retargeted}
use Rattle.mps_heap_spec.specs.declared.found.CellFound.{CellFound}

-- the summary of the segment of a block has the zone of what the block refers to; null has no zone
abbrev pub noting_reference : SegsState → (block to : Address) → SegsState
noting_reference s block to = if to == 0 then s else noting s block to

-- a cell of a block leads to an address and keeps its tag, and the summary has its zone
abbrev pub referring : Layout → SegsState → (block : Address) → CellFound → (to : Address) → SegsState
referring f s block cell to = noting_reference (record s { words = slice_set s.words cell.word (retargeted f cell.value to) }) block to

-- ---- vectors: a block at 0x1000, whose word 1 is a reference to null with tag 5

abbrev example : SegsState
example = record (new_segments 2 2) {
  segments = record { base = 0x1000; grains = 1; pool = 0; generation = 0; rank = Exact } ∷ [];
  words = 0x100000201 ∷ 5 ∷ [];
}

abbrev cell : CellFound
cell = record { word = 1; value = 5 }

pub a_reference_is_noted : (referring front_layout example 0x1000 cell 0x43008).summaries ≡ 0 ∷ 8 ∷ 0 ∷ []
a_reference_is_noted = refl

pub it_keeps_its_tag : (referring front_layout example 0x1000 cell 0x43008).words ≡ 0x100000201 ∷ 0x4300d ∷ []
it_keeps_its_tag = refl

pub null_notes_nothing : (referring front_layout example 0x1000 cell 0).summaries ≡ 0 ∷ 0 ∷ 0 ∷ []
null_notes_nothing = refl
