use Rattle.std.proofs.Common.{◌≡◌, ◌+◌, drop}
use Rattle.mps_desk.specs.MemDesk.{index_of_file}
use Rattle.mps_desk.proofs.stored_file.index_of.Given as goal

-- the index is the same, counted from where the search stands
abbrev pub invariant-loop-index : goal.invariant-loop-index
invariant-loop-index l = index_of_file l.files l.name ≡ index_of_file (drop l.index l.files) l.name + l.index
