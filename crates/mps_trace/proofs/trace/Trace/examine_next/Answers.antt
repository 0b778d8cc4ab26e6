use Rattle.std.proofs.Common.{ℕ, ◌≡◌, ◌∙◌, Option, refl, ap, subst}
use Rattle.mps_base.specs.Trail.{Moves}
use Rattle.mps_base.specs.declared.address.Addr.{Addr}
use Rattle.mps_final.specs.State.{FinalsState, with_registered_at, finals_after_post}
use Rattle.mps_trace.specs.Examine.{registration_of}
use Rattle.mps_trace.specs.Finding.{FindsTo}
use Rattle.mps_trace.specs.Trace.{Traced, traced, KeepsTo, finds, keeps}
use Rattle.mps_trace.specs.Unit.{examines, posts}
use Rattle.mps_trace.proofs.trace.Trace.examine_next.Goals as goal

pub set-requires-clause-nonzero : goal.set-requires-clause-nonzero
set-requires-clause-nonzero g c =
    let layout = g.F.Format.layout in
    let t = c.args.self.now in
    let s = c.args.segs.now in
    let f = c.args.finals.now in
    let n = c.args.running.next in
    let at = registration_of f n in
    let at_is : c.at-at.result ≡ at = ap (λ (k : ℕ). let a : Addr = record { 0 = k } in a) c.at-at.ensures.value in
    let P : Addr → Type 0 = λ a. FindsTo layout t.formats s a c.find.result in
    let Q : Option Addr → Type 0 = λ o. FindsTo layout t.formats s at o in
    let found = subst Q c.in-Some.is (subst P at_is c.find.ensures.found) in
    c.requires.can.can.leads (traced t s c.args.trail.now) c.in-Some.to (finds c.in-Some.to found)

pub set-requires-in-None-clause-nonzero : goal.set-requires-in-None-clause-nonzero
set-requires-in-None-clause-nonzero g c =
    let layout = g.F.Format.layout in
    let t = c.args.self.now in
    let s = c.args.segs.now in
    let f = c.args.finals.now in
    let n = c.args.running.next in
    let at = registration_of f n in
    let at_is : c.at-at.result ≡ at = ap (λ (k : ℕ). let a : Addr = record { 0 = k } in a) c.at-at.ensures.value in
    let P : Addr → Type 0 = λ a. FindsTo layout t.formats s a c.find.result in
    let Q : Option Addr → Type 0 = λ o. FindsTo layout t.formats s at o in
    let nowhere = subst Q c.in-None.is (subst P at_is c.find.ensures.found) in
    let x = traced t s c.args.trail.now in
    let y = traced c.keep-to.new.self c.keep-to.new.segs c.keep-to.new.trail in
    let R : Addr → Type 0 = λ a. KeepsTo layout t.formats t.chains x a y c.keep-to.result in
    let kept = subst R at_is c.keep-to.ensures.kept in
    c.requires.can.can.leads y c.keep-to.result (keeps c.keep-to.result nowhere kept)

pub returns-in-Some-clause-examined : goal.returns-in-Some-clause-examined
returns-in-Some-clause-examined g c =
    let layout = g.F.Format.layout in
    let t = c.args.self.now in
    let s = c.args.segs.now in
    let f = c.args.finals.now in
    let n = c.args.running.next in
    let at = registration_of f n in
    let at_is : c.at-at.result ≡ at = ap (λ (k : ℕ). let a : Addr = record { 0 = k } in a) c.at-at.ensures.value in
    let P : Addr → Type 0 = λ a. FindsTo layout t.formats s a c.find.result in
    let Q : Option Addr → Type 0 = λ o. FindsTo layout t.formats s at o in
    let found = subst Q c.in-Some.is (subst P at_is c.find.ensures.found) in
    examines c.in-Some.to c.requires.drained c.requires.due found
    (c.set.ensures ∙ ap (λ (u : FinalsState). with_registered_at u n c.in-Some.to.0) c.at-at.ensures.unchanged) refl

pub returns-in-None-clause-examined : goal.returns-in-None-clause-examined
returns-in-None-clause-examined g c =
    let layout = g.F.Format.layout in
    let t = c.args.self.now in
    let s = c.args.segs.now in
    let f = c.args.finals.now in
    let n = c.args.running.next in
    let at = registration_of f n in
    let at_is : c.at-at.result ≡ at = ap (λ (k : ℕ). let a : Addr = record { 0 = k } in a) c.at-at.ensures.value in
    let P : Addr → Type 0 = λ a. FindsTo layout t.formats s a c.find.result in
    let Q : Option Addr → Type 0 = λ o. FindsTo layout t.formats s at o in
    let nowhere = subst Q c.in-None.is (subst P at_is c.find.ensures.found) in
    let x = traced t s c.args.trail.now in
    let y = traced c.keep-to.new.self c.keep-to.new.segs c.keep-to.new.trail in
    let R : Addr → Type 0 = λ a. KeepsTo layout t.formats t.chains x a y c.keep-to.result in
    let kept = subst R at_is c.keep-to.ensures.kept in
    posts c.keep-to.result c.requires.drained c.requires.due nowhere kept
    (ap (λ (m : Moves). let z : Traced = record y { moves = m } in z) c.push.ensures)
    (c.post.ensures
    ∙ ap (λ (u : FinalsState). finals_after_post u n)
    (c.set-in-None.ensures ∙ ap (λ (u : FinalsState). with_registered_at u n c.keep-to.result.0) c.at-at.ensures.unchanged))
    refl
