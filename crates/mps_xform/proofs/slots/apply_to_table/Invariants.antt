use Rattle.std.proofs.Common.{◌≡◌}
use Rattle.std.specs.Prelude.{slice_set}
use Rattle.mps_root.specs.State.{kept}
use Rattle.mps_xform.specs.Passing.{new_in}
use Rattle.mps_xform.specs.Slots.{slot_after_apply}
use Rattle.mps_xform.proofs.Mapped.{partly}
use Rattle.mps_xform.proofs.slots.apply_to_table.Given as goal

-- the slots before this one lead to new addresses
abbrev pub invariant-loop-index : goal.invariant-loop-index
invariant-loop-index l =
    l.roots
    ≡ record l.initial.roots {
      tables = slice_set l.initial.roots.tables l.key
          (partly (slot_after_apply (new_in l.replacements)) l.index (kept l.initial.roots.tables l.key));
    }
