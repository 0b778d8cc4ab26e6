-- The marks of blocks that are freed.
use Rattle.std.specs.Prelude.{false, true, List, [], ◌∷◌, ◌≡◌, refl}
use Rattle.mps_base.specs.Run.{Run}
use Rattle.mps_marks.specs.Marks.{MarkTables, no_marks, without_marks}

-- the marks without those of the blocks at these runs
abbrev pub unmarked : List Run → MarkTables → MarkTables
unmarked [] marks = marks
unmarked (r ∷ rs) marks = unmarked rs (without_marks r.from marks)

-- ---- a vector

pub no_mark_is_left : unmarked (record { from = 1; count = 2 } ∷ []) (record (no_marks 2) { exact = false ∷ true ∷ [] }) ≡ no_marks 2
no_mark_is_left = refl
