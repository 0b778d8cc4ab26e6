-- The bits of a set of kinds.
use Rattle.std.specs.Prelude.{ℕ}
use Rattle.mps_event.specs.declared.kinds.Kinds.{Kinds}

abbrev pub bits_of : Kinds → ℕ
bits_of kinds = kinds.0
