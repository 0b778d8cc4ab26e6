use Rattle.std.proofs.Common.{ℕ, ◌+◌, ◌*◌, ◌≡◌, List, Option, sym, ap, ◌∙◌, subst, arith}
use Rattle.std.specs.Prelude.{slice_index, slice_set}
use Rattle.mps_base.specs.Address.{word_of}
use Rattle.mps_base.specs.Trail.{Moves}
use Rattle.mps_base.specs.declared.address.Addr.{Addr}
use Rattle.mps_seg.specs.Segs.{SegsState}
use Rattle.mps_seg.specs.Collecting.{noting}
use Rattle.mps_trace.specs.Finding.{FindsTo}
use Rattle.mps_trace.specs.Scan.{target_at}
use Rattle.mps_trace.specs.Splat.{after_splat, is_null, updates, splats}
use Rattle.mps_trace.specs.Trace.{Traced, traced}
use Rattle.mps_trace.proofs.trace.Trace.splat_cell.Goals as goal

pub returns-then-target-eq0-clause-splatted : goal.returns-then-target-eq0-clause-splatted
returns-then-target-eq0-clause-splatted g c =
    let f = g.F.Format.layout c.args.format.now in
    let words = c.args.segs.now.words in
    let place_is : word_of (c.args.at.0 + 8 * c.from.result) ≡ word_of c.args.at.0 + c.args.cell =
    omega (arith, c.from.ensures, c.requires.aligned)
    in
    let word_is = c.word-word.ensures ∙ ap (λ (n : ℕ). slice_index words n) place_is in
    is_null (sym (ap f.target word_is) ∙ sym c.target-target.ensures ∙ c.if-target-eq0.true)

pub returns-in-Some-clause-splatted : goal.returns-in-Some-clause-splatted
returns-in-Some-clause-splatted g c =
    let f = g.F.Format.layout c.args.format.now in
    let s = c.args.segs.now in
    let x = traced c.args.self.now s c.args.trail.now in
    let at = c.args.at in
    let cell = c.args.cell in
    let to = c.in-Some.to in
    let place_is : word_of (at.0 + 8 * c.from.result) ≡ word_of at.0 + cell = omega (arith, c.from.ensures, c.requires.aligned) in
    let word_is = c.word-word.ensures ∙ ap (λ (n : ℕ). slice_index s.words n) place_is in
    let target_is = c.target-target.ensures ∙ ap f.target word_is in
    let target : c.target-target.result ≡ record { 0 = target_at f x at cell } =
    ap (λ (n : ℕ). let a : Addr = record { 0 = n } in a) target_is
    in
    let P : Addr → Type 0 = λ a. FindsTo g.F.Format.layout c.args.self.now.formats s a c.find.result in
    let Q : Option Addr → Type 0 =
    λ o. FindsTo g.F.Format.layout c.args.self.now.formats s (record { 0 = target_at f x at cell }) o
    in
    let written =
    ap (λ (n : ℕ). slice_set s.words n c.retarget.result) place_is
    ∙ ap (λ (w : ℕ). slice_set s.words (word_of at.0 + cell) w) (c.retarget.ensures ∙ ap (λ (w : ℕ). f.retarget w to.0) word_is)
    in
    let segs_is =
    c.note_write.ensures
    ∙ ap (λ (u : SegsState). noting u at.0 to.0)
    (c.set_word.ensures ∙ ap (λ (ws : List ℕ). let u : SegsState = record s { words = ws } in u) written)
    in
    updates to (omega (arith, c.if-target-eq0.false, target_is)) (subst Q c.in-Some.is (subst P target c.find.ensures.found))
    (ap (λ (u : SegsState). let z : Traced = record x { segs = u } in z) segs_is)

pub returns-in-None-clause-splatted : goal.returns-in-None-clause-splatted
returns-in-None-clause-splatted g c =
    let f = g.F.Format.layout c.args.format.now in
    let s = c.args.segs.now in
    let x = traced c.args.self.now s c.args.trail.now in
    let at = c.args.at in
    let cell = c.args.cell in
    let place_is : word_of (at.0 + 8 * c.from.result) ≡ word_of at.0 + cell = omega (arith, c.from.ensures, c.requires.aligned) in
    let word_is = c.word-word.ensures ∙ ap (λ (n : ℕ). slice_index s.words n) place_is in
    let target_is = c.target-target.ensures ∙ ap f.target word_is in
    let target : c.target-target.result ≡ record { 0 = target_at f x at cell } =
    ap (λ (n : ℕ). let a : Addr = record { 0 = n } in a) target_is
    in
    let P : Addr → Type 0 = λ a. FindsTo g.F.Format.layout c.args.self.now.formats s a c.find.result in
    let Q : Option Addr → Type 0 =
    λ o. FindsTo g.F.Format.layout c.args.self.now.formats s (record { 0 = target_at f x at cell }) o
    in
    let written =
    ap (λ (n : ℕ). slice_set s.words n c.retarget-in-None.result) place_is
    ∙ ap (λ (w : ℕ). slice_set s.words (word_of at.0 + cell) w) (c.retarget-in-None.ensures ∙ ap (λ (w : ℕ). f.retarget w 0) word_is)
    in
    let segs_is =
    c.set_word-in-None.ensures ∙ ap (λ (ws : List ℕ). let u : SegsState = record s { words = ws } in u) written
    in
    let after : Traced = after_splat f at cell x in
    splats (omega (arith, c.if-target-eq0.false, target_is)) (subst Q c.in-None.is (subst P target c.find.ensures.found))
    (ap (λ (u : SegsState). let z : Traced = record x { segs = u; moves = c.push.new.self } in z) segs_is
    ∙ ap (λ (m : Moves). let z : Traced = record after { moves = m } in z) c.push.ensures)
