-- What the words begin with by this format is what they begin with by the format that it is.
use Rattle.std.proofs.Common.{ap, subst}
use Rattle.mps_format.specs.Layout.{Layout}
use Rattle.mps_format.specs.AnyFormat.{any_layout}
use Rattle.mps_format.specs.Blocks.{BeginsWhole, BeginsForwarded, BeginsPad}
use Rattle.mps_format.proofs.any.AnyFormatFormat.skip.Goals as goal

pub skip-requires : goal.skip-requires
skip-requires c = subst (λ (l : Layout). BeginsWhole l c.args.mem.now) (ap any_layout c.in-Front.is) c.requires

pub returns-in-Front-clause-forwarded : goal.returns-in-Front-clause-forwarded
returns-in-Front-clause-forwarded c = λ size b. c.skip.ensures.forwarded size
    (subst (λ (l : Layout). BeginsForwarded l c.args.mem.now size) (ap any_layout c.in-Front.is) b)

pub returns-in-Front-clause-pad : goal.returns-in-Front-clause-pad
returns-in-Front-clause-pad c = λ pad b. c.skip.ensures.pad pad
    (subst (λ (l : Layout). BeginsPad l c.args.mem.now pad) (ap any_layout c.in-Front.is) b)

pub skip-requires-in-Mapped : goal.skip-requires-in-Mapped
skip-requires-in-Mapped c = subst (λ (l : Layout). BeginsWhole l c.args.mem.now) (ap any_layout c.in-Mapped.is) c.requires

pub returns-in-Mapped-clause-forwarded : goal.returns-in-Mapped-clause-forwarded
returns-in-Mapped-clause-forwarded c = λ size b. c.skip-in-Mapped.ensures.forwarded size
    (subst (λ (l : Layout). BeginsForwarded l c.args.mem.now size) (ap any_layout c.in-Mapped.is) b)

pub returns-in-Mapped-clause-pad : goal.returns-in-Mapped-clause-pad
returns-in-Mapped-clause-pad c = λ pad b. c.skip-in-Mapped.ensures.pad pad
    (subst (λ (l : Layout). BeginsPad l c.args.mem.now pad) (ap any_layout c.in-Mapped.is) b)

pub skip-requires-in-Leaf : goal.skip-requires-in-Leaf
skip-requires-in-Leaf c = subst (λ (l : Layout). BeginsWhole l c.args.mem.now) (ap any_layout c.in-Leaf.is) c.requires

pub returns-in-Leaf-clause-forwarded : goal.returns-in-Leaf-clause-forwarded
returns-in-Leaf-clause-forwarded c = λ size b. c.skip-in-Leaf.ensures.forwarded size
    (subst (λ (l : Layout). BeginsForwarded l c.args.mem.now size) (ap any_layout c.in-Leaf.is) b)

pub returns-in-Leaf-clause-pad : goal.returns-in-Leaf-clause-pad
returns-in-Leaf-clause-pad c = λ pad b. c.skip-in-Leaf.ensures.pad pad
    (subst (λ (l : Layout). BeginsPad l c.args.mem.now pad) (ap any_layout c.in-Leaf.is) b)
