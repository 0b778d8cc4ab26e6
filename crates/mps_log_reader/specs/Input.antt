-- The input of a tool: what was read and not taken yet, and how it goes on.
use Rattle.std.specs.Prelude.{◌≡◌, ℕ, ◌≤◌, ◌⊎◌, Bool, true, false, IfSome, List, [], ◌++◌}
use Rattle.std.specs.Option.{option_map}
use Rattle.mps_desk.specs.Desk.{Outside, HasRisen, OnlyReads}

-- what was read and not taken yet, whether all was read, and whether a read failed
pub record Buffered : Type 0 where
  pub pending : List ℕ
  pub ended : Bool
  pub failed : Bool

-- where all was read, nothing is left
abbrev pub IsAtEnd : Outside → Buffered → Type 0
IsAtEnd o b = b.ended ≡ true → IfSome o.input (λ left. left ≡ [])

-- there may be more to read
abbrev pub IsReadable : Buffered → Type 0
IsReadable b = (b.ended ≡ false) × (b.failed ≡ false)

-- all was read, and no read failed; so none can fail any more
abbrev pub IsComplete : Buffered → Type 0
IsComplete b = (b.ended ≡ true) × (b.failed ≡ false)

-- more was read
pub record ReadsMore (old new : Outside) (before after : Buffered) : Type 0 where
  pub read : List ℕ
  pub pending : after.pending ≡ before.pending ++ read
  pub input : old.input ≡ option_map (λ left. read ++ left) new.input
  pub end : IsAtEnd old before → IsAtEnd new after
  pub fault : after.failed ≡ true → (before.failed ≡ true) ⊎ HasRisen old.in_faults new.in_faults
  pub counted : old.in_faults ≤ new.in_faults
  pub steady : after.failed ≡ false → (before.failed ≡ false) × (new.in_faults ≡ old.in_faults)
  pub others : OnlyReads old new
