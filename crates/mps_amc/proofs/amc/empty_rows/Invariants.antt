use Rattle.std.proofs.Common.{◌≡◌, ◌++◌, map, take, drop}
use Rattle.mps_amc.specs.Amc.{row_after_flip}
use Rattle.mps_amc.proofs.amc.empty_rows.Given as goal

-- nothing is at hand in the rows before this one, and the others are as they were
abbrev pub invariant-loop-i : goal.invariant-loop-i
invariant-loop-i l = map (λ row. row.items) l.rows
    ≡ map row_after_flip (take l.i (map (λ row. row.items) l.initial.rows)) ++ drop l.i (map (λ row. row.items) l.initial.rows)
