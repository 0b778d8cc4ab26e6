-- The lines of the input: what waits to be given, and what comes next.
use Rattle.std.specs.Prelude.{ℕ, ◌≡◌, ◌+◌, ◌-◌, ◌<◌, ◌≤◌, zero, suc, Option, Some, None, List, [], ◌∷◌, ◌++◌, length, take, drop, refl}
use Rattle.std.specs.List.{position_or_len}
use Rattle.std.specs.Option.{option_map}
use Rattle.mps_line_words.specs.Lines.{is_line_feed, max_line_bytes}
use Rattle.mps_lines.specs.declared.next.Next.{Next}
use Rattle.mps_lines.specs.declared.next.Next.TheVariants.{Line, TooLong, End}

-- the line that was given last, and the bytes that were read and wait after it
pub record LineBuffer : Type 0 where
  pub line : List ℕ
  pub waiting : List ℕ
  -- how many more bytes may be read after them
  pub room : ℕ

-- nothing was given, and nothing waits
abbrev pub nothing_read : LineBuffer
nothing_read = record { line = []; waiting = []; room = 65536 }

-- the bytes from one index up to and without another
abbrev pub bytes_between : ℕ → ℕ → List ℕ → List ℕ
bytes_between from to bytes = take (to - from) (drop from bytes)

-- how many bytes the first line has
abbrev pub length_of_line : List ℕ → ℕ
length_of_line bytes = position_or_len is_line_feed bytes

-- what is left after the first line and its line feed
abbrev pub without_line : List ℕ → List ℕ
without_line bytes = drop (length_of_line bytes + 1) bytes

-- what is left after n lines
abbrev pub after_lines : (lines : ℕ) → List ℕ → List ℕ
after_lines zero bytes = bytes
after_lines (suc n) bytes = without_line (after_lines n bytes)

-- what is left: what waits, and after it the input that is left to read
abbrev pub rest_of_script : LineBuffer → Option (List ℕ) → Option (List ℕ)
rest_of_script w input = option_map (λ rest. w.waiting ++ rest) input

-- what waits has a whole line, or more bytes than a line may have; or neither
abbrev pub HeldGives : LineBuffer → LineBuffer → Option Next → Type 0
HeldGives old new None =
    (new.waiting ≡ old.waiting) × (length_of_line old.waiting ≡ length old.waiting) × (length old.waiting ≤ max_line_bytes)
HeldGives old new (Some Line) =
    (length_of_line old.waiting < length old.waiting)
    × (new.line ≡ take (length_of_line old.waiting) old.waiting) × (new.waiting ≡ drop (length_of_line old.waiting + 1) old.waiting)
HeldGives old new (Some TooLong) = max_line_bytes < length_of_line old.waiting
HeldGives old new (Some End) = ⊥

-- a read put n bytes of the input after what waits
pub record TakesIn (old new : LineBuffer) (before after : Option (List ℕ)) (count : ℕ) : Type 0 where
  pub chunk : List ℕ
  pub counted : length chunk ≡ count
  pub waits : new.waiting ≡ old.waiting ++ chunk
  pub from : before ≡ option_map (λ rest. chunk ++ rest) after

-- a read failed: what waits has no line feed, and together with the input that is left it is what was left before
pub record KeepsUnread (old new : LineBuffer) (before after : Option (List ℕ)) : Type 0 where
  pub unfinished : length_of_line new.waiting ≡ length new.waiting
  pub left : rest_of_script new after ≡ rest_of_script old before

-- what comes next of the bytes that are left
abbrev pub ComesNext : Next → (left line : List ℕ) → (left_after : Option (List ℕ)) → Type 0
ComesNext Line left line left_after =
    (0 < length left) × (line ≡ take (length_of_line left) left) × (left_after ≡ Some (drop (length_of_line left + 1) left))
ComesNext TooLong left line left_after = max_line_bytes < length_of_line left
ComesNext End left line left_after = left ≡ []

-- the same, where what is left is known
abbrev pub ComesNextOf : Next → (left : Option (List ℕ)) → (line : List ℕ) → (left_after : Option (List ℕ)) → Type 0
ComesNextOf next None line left_after = left_after ≡ None
ComesNextOf next (Some left) line left_after = ComesNext next left line left_after

-- at the end of the input: the last line, which has no line feed, or nothing
abbrev pub IsLast : LineBuffer → LineBuffer → Next → Type 0
IsLast old new Line = (0 < length old.waiting) × (new.line ≡ old.waiting) × (new.waiting ≡ [])
IsLast old new TooLong = ⊥
IsLast old new End = old.waiting ≡ []

pub after_two_lines : after_lines 2 (97 ∷ 10 ∷ 10 ∷ 98 ∷ []) ≡ 98 ∷ []
after_two_lines = refl

pub after_a_last_line_without_line_feed : after_lines 1 (97 ∷ []) ≡ []
after_a_last_line_without_line_feed = refl
