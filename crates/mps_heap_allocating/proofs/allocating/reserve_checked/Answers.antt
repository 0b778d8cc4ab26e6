use Rattle.std.proofs.Common.{sym, subst}
use Rattle.mps_heap_spec.specs.State.{HeapState}
use Rattle.mps_heap_allocating.proofs.Ready.{MayReserve, may_reserve}
use Rattle.mps_heap_allocating.proofs.allocating.reserve_checked.Goals as goal

pub reserve-requires-clause-there : goal.reserve-requires-clause-there
reserve-requires-clause-there g c =
    let passed = c.requires.checked in
    let P : HeapState g.row.F.Denot → Type 0 = λ h. MayReserve h c.args.key in
    subst P (sym c.state.view_is) (may_reserve c.args.state.now c.args.key passed.0 c.requires.ready passed.1)
