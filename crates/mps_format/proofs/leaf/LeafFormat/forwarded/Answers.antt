-- What begins the words is a forwarded block of the shared kind.
use Rattle.mps_format.proofs.leaf.LeafFormat.forwarded.Goals as goal

pub returns-clause-complete : goal.returns-clause-complete
returns-clause-complete c = λ size b. c.target_of_forwarded.ensures.complete size b.in_range b.whole b.head
