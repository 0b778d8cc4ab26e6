use Rattle.mps_heap_spec.proofs.References.{has_none, has_some}
use Rattle.mps_heap_spec.proofs.cells.any_references.Goals as goal

pub returns-in-Some : goal.returns-in-Some
returns-in-Some g c =
    has_some (g.F.Format.layout c.args.format.now) c.args.head c.in-Some.field-0 (g.met.F.Format.lawful c.args.format.now) c.requires
    c.in-Some.ensures.sound

pub returns-in-None : goal.returns-in-None
returns-in-None g c = has_none (g.F.Format.layout c.args.format.now) c.args.head c.in-None.ensures.none
