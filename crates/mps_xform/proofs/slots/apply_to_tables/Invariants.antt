use Rattle.std.proofs.Common.{◌≡◌}
use Rattle.mps_xform.specs.Passing.{new_in}
use Rattle.mps_xform.proofs.Mapped.{AreMapped}
use Rattle.mps_xform.proofs.slots.apply_to_tables.Given as goal

-- the tables before this one lead to new addresses
abbrev pub invariant-loop-index : goal.invariant-loop-index
invariant-loop-index l =
    (l.roots ≡ record l.initial.roots { tables = l.roots.tables })
    × AreMapped (new_in l.replacements) l.initial.roots l.index l.roots.tables
