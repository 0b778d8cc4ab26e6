-- What is shown of the image, each law a statement.
use Rattle.std.specs.Prelude.{IsTrue, Option, List}
use Rattle.mps_base.specs.Address.{Address, Id}
use Rattle.mps_abstract.specs.Colours.{Colours, blackened}
use Rattle.mps_trace_laws.specs.Image.Memory.{Setting, Memory}
use Rattle.mps_trace_laws.specs.Image.Image.{Stands}
use Rattle.mps_trace_laws.specs.Image.Scanning.{LeavesOthers}

-- all words are read: blocks aren't freed yet
abbrev pub AreAllRead : Setting → Type 0
AreAllRead s = (id : Id) → IsTrue (s.is_read id)

-- what is shown of a scan of an object
pub record IsScanned (s : Setting) (m : Memory) (addresses : List (Option Address)) (k : Colours) (id : Id) : Type 0 where
  pub addresses_after : List (Option Address)
  pub colours_after : Colours
  pub leaves : LeavesOthers s.condemned addresses addresses_after k colours_after
  -- the object is black then, and the words stand for the objects as before
  pub stands : Stands s m addresses_after (blackened colours_after id)
