use Rattle.std.proofs.Common.{ℕ, List, filter, sym, ap, ◌∙◌}
use Rattle.mps_base.specs.Segment.{Segment}
use Rattle.mps_trace.specs.Flip.{may_refer, greying_each}
use Rattle.mps_trace.proofs.Remembering.{remembered_when}
use Rattle.mps_trace.proofs.trace.Trace.remember.Goals as goal

pub returns-in-Generations : goal.returns-in-Generations
returns-in-Generations g c =
    let t = c.args.self.now in
    let s = c.args.segs.now in
    let what = c.args.what in
    c.grey_what_may_refer.ensures
    ∙ ap (λ (z : ℕ). greying_each (filter (may_refer t.formats t.chains what z s) s.segments) s) c.requires.zones
    ∙ ap (λ (ts : List Segment). greying_each ts s)
    (sym (remembered_when t.formats t.chains what c.in-Generations.chain c.in-Generations.oldest c.in-Generations.is s))
