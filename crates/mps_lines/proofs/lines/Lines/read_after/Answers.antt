use Rattle.std.proofs.Common.{◌∙◌, ap, ◌++◌, take, arith}
use Rattle.std.proofs.lemmas.Grind.{common_steps}
use Rattle.mps_lines.proofs.Between.{between_grown, between_kept, at_an_error}
use Rattle.mps_lines.proofs.lines.Lines.read_after.Goals as goal

pub returns-clause-read : goal.returns-clause-read
returns-clause-read g c = record {
  chunk = take c.in_ok-count.count c.read.new.buf;
  counted = grind (arith, common_steps, c.in_ok-count.ensures.at_most);
  waits = rw c.deref_mut.ensures.value (between_grown c.self.inside.bytes.items c.read.new.buf _ _ c.self.inside.start c.self.inside.end
      c.in_ok-count.count
      c.self.inside.bytes.len (grind arith) (grind (arith, common_steps)) (grind (arith, common_steps, c.in_ok-count.ensures.at_most))
      (grind (arith, common_steps, c.in_ok-count.ensures.at_most)))
      ∙ ap (λ v. v.waiting ++ take c.in_ok-count.count c.read.new.buf) c.self.view_is;
  from = c.in_ok-count.ensures.prefix;
}

pub returns-in_err-count-clause-waits : goal.returns-in_err-count-clause-waits
returns-in_err-count-clause-waits g c =
    at_an_error c.from_residual.result _
    (rw c.deref_mut.ensures.value (between_kept c.self.inside.bytes.items c.read.new.buf _ _ c.self.inside.start c.self.inside.end
    c.self.inside.bytes.len (grind arith) (grind (arith, common_steps)) (grind (arith, common_steps)))
    ∙ ap (λ v. v.waiting) c.self.view_is)
