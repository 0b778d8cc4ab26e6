-- The marks of addresses in pairs.
use Rattle.std.specs.Prelude.{ℕ}

-- how many there are: addresses 1 MiB apart have the same
abbrev pub marks_count : ℕ
marks_count = 131072
