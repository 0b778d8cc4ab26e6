use Rattle.std.proofs.lemmas.Result.{on_ok_weaker}
use Rattle.mps_txt.proofs.InternedName.{interned}
use Rattle.mps_txt.proofs.labels.Labels.apply.Goals as goal

pub returns-in-Intern-clause-state : goal.returns-in-Intern-clause-state
returns-in-Intern-clause-state c = rw c.in-Intern.is
    (on_ok_weaker c.intern.result
    (λ w. interned c.args.entry.now.fields c.args.self.now c.intern.new.self c.name_of.result w.0 c.name_of.ensures w.1)
    c.intern.ensures.state)
