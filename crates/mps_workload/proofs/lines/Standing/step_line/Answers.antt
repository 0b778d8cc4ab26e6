use Rattle.std.proofs.Common.{◌∙◌, ◌+◌, ◌∷◌, take, sym, ap}
use Rattle.mps_workload.specs.GenLines.{lines_after}
use Rattle.mps_workload.proofs.Generated.{object_begins, step_ends}
use Rattle.mps_workload.specs.declared.lines.Position.{Position}
use Rattle.mps_workload.proofs.lines.Standing.step_line.Goals as goal

pub returns-then-makes_an_object-clause-line : goal.returns-then-makes_an_object-clause-line
returns-then-makes_an_object-clause-line c =
    let at = c.args.self.now in
    let d = c.draw-slot in
    ap (λ (p : Position). lines_after p at.state at.step at.count) c.requires.here
    ∙ object_begins at.count at.step at.state d.result.slot d.result.target d.result.kind d.result.state _ _ c.requires.more
    d.ensures.slot d.ensures.target d.ensures.kind d.ensures.after c.if-makes_an_object.true c.put_allocating.ensures.line

pub returns-else-makes_an_object-clause-line : goal.returns-else-makes_an_object-clause-line
returns-else-makes_an_object-clause-line c =
    let at = c.args.self.now in
    let d = c.draw-slot in
    let text = take c.put_step.result c.put_step.new.line in
    ap (λ (p : Position). lines_after p at.state at.step at.count) c.requires.here
    ∙ step_ends at.count at.step at.state d.result.slot d.result.target d.result.kind d.result.state text c.requires.more
    d.ensures.slot d.ensures.target d.ensures.kind d.ensures.after c.put_step.ensures.line
    ∙ ap (λ (p : Position). text ∷ lines_after p d.result.state (at.step + 1) at.count) (sym c.requires.here)
