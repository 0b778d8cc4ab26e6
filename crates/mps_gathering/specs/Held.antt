-- Bytes that wait to be handed on.
use Rattle.std.specs.Prelude.{ℕ, ◌≡◌, ◌+◌, ◌≤◌, Bool, false, List, length}

pub record Waiting : Type 0 where
  pub bytes : List ℕ
  -- handing on such bytes failed
  pub failed : Bool
  -- how many bytes the memory holds that was taken for them
  pub room : ℕ

-- the most bytes that wait
abbrev pub max_held_bytes : ℕ
max_held_bytes = 65536

-- n bytes more need no memory and aren't too many, and nothing failed
pub record HasRoom (before : Waiting) (count : ℕ) : Type 0 where
  pub going : before.failed ≡ false
  pub memory : length before.bytes + count ≤ before.room
  pub most : length before.bytes + count ≤ max_held_bytes
