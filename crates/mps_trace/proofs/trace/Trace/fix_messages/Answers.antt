use Rattle.std.proofs.Common.{ℕ, length, refl, ap, subst, ◌∙◌}
use Rattle.std.proofs.lemmas.List.{length-set}
use Rattle.mps_final.specs.State.{FinalsState}
use Rattle.mps_trace.specs.Roots.{FixesRoot, begins, goes_on}
use Rattle.mps_trace.specs.Trace.{TraceState, traced}
use Rattle.mps_trace.proofs.Rooted.{root_still}
use Rattle.mps_trace.proofs.trace.Trace.fix_messages.Goals as goal

pub loop-position-init : goal.loop-position-init
loop-position-init g c = (begins, refl, refl)

pub loop-position-preserved : goal.loop-position-preserved
loop-position-preserved g c =
    let l = c.loop-position in
    let y = traced l.self l.segs l.trail in
    let z = traced c.fix_root-to.new.self c.fix_root-to.new.segs c.fix_root-to.new.trail in
    let t = c.args.self.now in
    let P : ℕ → Type 0 = λ at. FixesRoot g.F.Format.layout t.formats t.chains y at z c.fix_root-to.result in
    let Q : TraceState g.row.F.Denot → TraceState g.row.F.Denot = λ u. record u { amc = c.fix_root-to.new.self.amc } in (
      goes_on l.position c.fix_root-to.result l.invariant.0
          (subst P c.message-at.ensures
          (root_still g.F.Format.layout t l.self l.invariant.1 y z c.message-at.result.0 c.fix_root-to.result c.fix_root-to.ensures.fixed))
          c.set_message.ensures,
      c.fix_root-to.ensures.unchanged ∙ ap Q l.invariant.1,
      ap (λ (f : FinalsState). length f.messages) c.set_message.ensures
          ∙ length-set l.finals.messages l.position c.fix_root-to.result ∙ l.invariant.2,
    )
