use Rattle.std.proofs.Common.{rules}
use Rattle.mps_heap_spec.specs.Arena.{none_begins, runs}
use Rattle.mps_heap_code.proofs.arena.dump.Goals as goal

pub returns-then-is_some : goal.returns-then-is_some
returns-then-is_some g c = runs (search rules)

pub returns-then-not-begins_block : goal.returns-then-not-begins_block
returns-then-not-begins_block g c = none_begins (search rules) (search rules)
