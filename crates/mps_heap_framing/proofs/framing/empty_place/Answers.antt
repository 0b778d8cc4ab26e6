use Rattle.std.proofs.Common.{ap, sym}
use Rattle.mps_heap_framing.proofs.Closing.{has_place, no_index}
use Rattle.mps_heap_framing.proofs.framing.empty_place.Goals as goal

pub returns-then-place-row : goal.returns-then-place-row
returns-then-place-row c =
    ap (λ bs. record c.args.roots.now { blocks = bs })
    (sym (no_index c.args.roots.now.blocks c.args.place.table c.args.place.index c.places-row.result.now c.places-row.ensures
    c.if-place-row.true))

pub set_place-requires : goal.set_place-requires
set_place-requires c =
    has_place c.args.roots.now.blocks c.args.place.table c.args.place.index c.places-row.result.now c.places-row.ensures
    c.if-place-row.false
