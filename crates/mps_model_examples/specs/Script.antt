-- Short words for the histories of this crate.
use Rattle.std.specs.Prelude.{ℕ, List, [], ◌∷◌, replicate}
use Rattle.mps_base.specs.Run.{Run}
use Rattle.mps_base.specs.declared.address.Addr.{Addr}
use Rattle.mps_base.specs.declared.address.ZoneSet.{ZoneSet}
use Rattle.mps_base.specs.declared.names.Name.{Name}
use Rattle.mps_base.specs.declared.names.Slot.{Slot}
use Rattle.mps_base.specs.declared.names.Rank.TheVariants as rank
use Rattle.mps_base.specs.declared.moves.Move.{Move}
use Rattle.mps_model.specs.declared.call.Call.{Call}
use Rattle.mps_model.specs.declared.reply.Reply.{Reply}
use Rattle.mps_model.specs.Answer.{Replied}
use Rattle.mps_model.specs.Step.{Step}
use Rattle.mps_base.specs.Segment.{Segment}
use Rattle.mps_model.specs.World.{Tail}

-- the name of one letter
abbrev pub name_of_letter : (code : ℕ) → Name
name_of_letter code = record { bytes = code ∷ replicate 15 0 }

abbrev pub a : Name
a = name_of_letter 97

abbrev pub b : Name
b = name_of_letter 98

abbrev pub d : Name
d = name_of_letter 100

abbrev pub p : Name
p = name_of_letter 112

abbrev pub q : Name
q = name_of_letter 113

abbrev pub s : Name
s = name_of_letter 115

abbrev pub t : Name
t = name_of_letter 116

abbrev pub v : Name
v = name_of_letter 118

abbrev pub w : Name
w = name_of_letter 119

abbrev pub x : Name
x = name_of_letter 120

abbrev pub y : Name
y = name_of_letter 121

-- a slot, word or place
abbrev pub at_index : Name → ℕ → Slot
at_index name index = record { name = name; index = index }

abbrev pub address : ℕ → Addr
address n = record { 0 = n }

-- a step that said this
abbrev pub step : (line : ℕ) → Call → List Move → Reply → Step
step line call moves said = record { line = line; call = call; moves = moves; answer = Replied said }

abbrev pub zones : ℕ → ZoneSet
zones set = record { 0 = set }

-- a segment of one grain, for blocks of the exact rank
abbrev pub grain_segment : (base pool : ℕ) → Segment
grain_segment base pool = record { base = base; grains = 1; pool = pool; generation = 0; rank = rank.Exact }

abbrev pub words : (from count : ℕ) → Run
words from count = record { from = from; count = count }

-- these words are the tail for blocks of pool 0 that move
abbrev pub tail : (from count : ℕ) → List Tail
tail from count = record { pool = 0; generation = 0; words = words from count } ∷ []
