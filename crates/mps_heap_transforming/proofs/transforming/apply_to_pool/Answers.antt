use Rattle.std.proofs.Common.{◌∙◌, subst, sym, arith}
use Rattle.mps_heap_spec.specs.State.{HeapState}
use Rattle.mps_xform.specs.Applying.{CanApply}
use Rattle.mps_xform.specs.Summed.{AreBlocksSummed}
use Rattle.mps_heap_transforming.proofs.Applying.{still_can}
use Rattle.mps_heap_transforming.proofs.transforming.apply_to_pool.Goals as goal

pub apply-requires-clause-can : goal.apply-requires-clause-can
apply-requires-clause-can g c =
    subst (λ (x : HeapState g.row.F.Denot). CanApply (g.F.Format.layout c.in-Some.format) x.segs c.args.pool) (sym c.state.view_is)
    (c.requires.pools c.args.pool c.in-Some.format (sym c.format_of.ensures ∙ c.in-Some.is))

pub apply-requires-clause-summed : goal.apply-requires-clause-summed
apply-requires-clause-summed g c =
    subst (λ (x : HeapState g.row.F.Denot). AreBlocksSummed (g.F.Format.layout c.in-Some.format) x.segs c.args.pool) (sym c.state.view_is)
    (c.requires.summed c.args.pool c.in-Some.format (omega arith) (sym c.format_of.ensures ∙ c.in-Some.is))

pub returns-clause-again : goal.returns-clause-again
returns-clause-again g c =
    still_can c.state.view_is c.requires c.apply.ensures.again c.apply.ensures.summed c.apply.ensures.unchanged
