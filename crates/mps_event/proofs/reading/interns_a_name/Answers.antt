use Rattle.std.proofs.Common.{arith}
use Rattle.mps_event.proofs.Names.{intern_named, interns_nothing}
use Rattle.mps_event.proofs.reading.interns_a_name.Goals as goal

pub returns-in-Intern : goal.returns-in-Intern
returns-in-Intern c =
    intern_named c.args.event c.args.bytes.now c.is_padded_name.result c.in-Intern.is c.requires.count c.requires.size
    (λ i. omega (arith, c.type_inv.bytes i)) c.is_padded_name.ensures

pub returns-in_default : goal.returns-in_default
returns-in_default c = interns_nothing _ _ c.in_default.not-Intern
