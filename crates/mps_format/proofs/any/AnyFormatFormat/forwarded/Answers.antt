-- A forwarded block of this format is one of the format that it is.
use Rattle.std.proofs.Common.{ap, subst}
use Rattle.mps_format.specs.Layout.{Layout}
use Rattle.mps_format.specs.AnyFormat.{any_layout}
use Rattle.mps_format.specs.Blocks.{BeginsForwarded}
use Rattle.mps_format.proofs.any.AnyFormatFormat.forwarded.Goals as goal

pub returns-in-Front-clause-complete : goal.returns-in-Front-clause-complete
returns-in-Front-clause-complete c = λ size b. c.forwarded.ensures.complete size
    (subst (λ (l : Layout). BeginsForwarded l c.args.mem.now size) (ap any_layout c.in-Front.is) b)

pub returns-in-Mapped-clause-complete : goal.returns-in-Mapped-clause-complete
returns-in-Mapped-clause-complete c = λ size b. c.forwarded-in-Mapped.ensures.complete size
    (subst (λ (l : Layout). BeginsForwarded l c.args.mem.now size) (ap any_layout c.in-Mapped.is) b)

pub returns-in-Leaf-clause-complete : goal.returns-in-Leaf-clause-complete
returns-in-Leaf-clause-complete c = λ size b. c.forwarded-in-Leaf.ensures.complete size
    (subst (λ (l : Layout). BeginsForwarded l c.args.mem.now size) (ap any_layout c.in-Leaf.is) b)
