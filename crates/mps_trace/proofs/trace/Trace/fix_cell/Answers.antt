use Rattle.std.proofs.Common.{ℕ, ◌+◌, ◌<◌, ◌≡◌, length, sym, ap, ◌∙◌, subst, arith}
use Rattle.std.specs.Prelude.{slice_set}
use Rattle.mps_base.specs.Address.{word_of}
use Rattle.mps_base.specs.declared.address.Addr.{Addr}
use Rattle.mps_seg.specs.Segs.{SegsState}
use Rattle.mps_seg.specs.Collecting.{noting}
use Rattle.mps_trace.specs.Trace.{Traced, traced, FixesTo}
use Rattle.mps_trace.specs.Scan.{target_at, is_null, leads}
use Rattle.mps_trace.proofs.Cells.{borrowed_word}
use Rattle.mps_trace.proofs.Held.{over_fixed}
use Rattle.mps_trace.proofs.trace.Trace.fix_cell.Goals as goal

pub bounds-words-cell : goal.bounds-words-cell
bounds-words-cell g c =
    let enough =
    c.words_from-words.ensures.complete (c.args.cell + 1) (omega (arith, c.requires.at_most)) (omega (arith, c.requires.inside))
    in
    omega (arith, enough)

pub returns-then-target-eq0-clause-fixed : goal.returns-then-target-eq0-clause-fixed
returns-then-target-eq0-clause-fixed g c =
    let f = g.F.Format.layout c.args.format.now in
    let loan = c.words_from-words.result.now in
    let enough =
    c.words_from-words.ensures.complete (c.args.cell + 1) (omega (arith, c.requires.at_most)) (omega (arith, c.requires.inside))
    in
    let few : c.args.cell < length loan = omega (arith, enough) in
    let word_is =
    borrowed_word c.args.segs.now.words loan (word_of c.args.at.0) c.args.cell c.words_from-words.ensures.value few
    in
    is_null (sym (ap f.target word_is) ∙ sym c.target-target.ensures ∙ c.if-target-eq0.true)

pub set_reference-requires-clause-held : goal.set_reference-requires-clause-held
set_reference-requires-clause-held g c =
    over_fixed g.F.Format.layout c.args.self.now.formats c.args.self.now.chains c.args.at.0 c.fix-to.ensures.fixed c.requires.held

pub set_reference-requires-clause-inside : goal.set_reference-requires-clause-inside
set_reference-requires-clause-inside g c = omega (arith, c.requires.inside, c.fix-to.ensures.size)

pub returns-clause-fixed : goal.returns-clause-fixed
returns-clause-fixed g c =
    let f = g.F.Format.layout c.args.format.now in
    let x = traced c.args.self.now c.args.segs.now c.args.trail.now in
    let y = traced c.fix-to.new.self c.fix-to.new.segs c.fix-to.new.trail in
    let at = c.args.at in
    let cell = c.args.cell in
    let to = c.fix-to.result in
    let loan = c.words_from-words.result.now in
    let enough =
    c.words_from-words.ensures.complete (cell + 1) (omega (arith, c.requires.at_most)) (omega (arith, c.requires.inside))
    in
    let few : cell < length loan = omega (arith, enough) in
    let word_is = borrowed_word c.args.segs.now.words loan (word_of at.0) cell c.words_from-words.ensures.value few in
    let target_is = c.target-target.ensures ∙ ap f.target word_is in
    let target : c.target-target.result ≡ record { 0 = target_at f x at cell } =
    ap (λ (n : ℕ). let a : Addr = record { 0 = n } in a) target_is
    in
    let P : Addr → Type 0 =
    λ a. FixesTo g.F.Format.layout c.args.self.now.formats c.args.self.now.chains x a y to
    in
    let Q : ℕ → Traced =
    λ w. let s : SegsState = record y.segs { words = slice_set y.segs.words (word_of at.0 + cell) w } in
    record y { segs = noting s at.0 to.0 }
    in
    leads to (omega (arith, c.if-target-eq0.false, target_is)) (subst P target c.fix-to.ensures.fixed)
    (ap (λ (s : SegsState). let z : Traced = record y { segs = s } in z) c.set_reference.ensures.state
    ∙ ap Q (c.retarget.ensures ∙ ap (λ (w : ℕ). f.retarget w to.0) word_is))
