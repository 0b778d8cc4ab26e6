use Rattle.std.proofs.Common.{◌∙◌, ap, sym, length}
use Rattle.std.proofs.lemmas.Bool.{eqb-true}
use Rattle.std.proofs.lemmas.List.{nil_from_length}
use Rattle.std.specs.Prelude.{drop}
use Rattle.mps_heap_spec.proofs.Following.{nothing_followed}
use Rattle.mps_heap_spec.specs.State.{HeapState}
use Rattle.mps_heap_state.proofs.following.follow.Goals as goal

pub returns-then-is_empty : goal.returns-then-is_empty
returns-then-is_empty g c =
    let pairs = c.state.inside.beside.dependents in
    let none = ap (λ (h : HeapState g.row.F.Denot). h.beside.dependents) (sym c.state.view_is)
    ∙ nil_from_length pairs (eqb-true (length pairs) 0 (sym c.is_empty.ensures ∙ c.if-is_empty.true)) in
    sym (nothing_followed g.F.Format.layout c.args.state.now none (drop c.args.first c.args.trail.now.moves))
