use Rattle.std.proofs.Common.{◌≡◌, false, is_some, slice_get, ap}
use Rattle.mps_heap_spec.proofs.Writing.{nothing_written}
use Rattle.mps_heap_spec.proofs.cells.write_word.Goals as goal

pub returns-else-is_some : goal.returns-else-is_some
returns-else-is_some c =
    let absent : is_some (slice_get c.args.segs.now.words c.args.word) ≡ false = cc in
    ap (λ words. record c.args.segs.now { words = words }) (nothing_written c.args.segs.now.words c.args.word c.args.value absent)
