-- Where a line ends, and how long it may be.
use Rattle.std.specs.Prelude.{ℕ, ◌==◌, Bool}

-- the byte ends a line
abbrev pub is_line_feed : ℕ → Bool
is_line_feed b = b == 10

-- the most bytes of a line, without its line feed
abbrev pub max_line_bytes : ℕ
max_line_bytes = 4096
