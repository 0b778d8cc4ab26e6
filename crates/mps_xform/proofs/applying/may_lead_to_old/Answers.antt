use Rattle.std.proofs.Common.{ℕ, ◌<◌, ◌∙◌, Option, length, sym, ap, arith}
use Rattle.std.specs.Option.{option_map}
use Rattle.mps_base.specs.Address.{word_of}
use Rattle.mps_xform.specs.declared.transforms.Pair.{Pair}
use Rattle.mps_xform.specs.Passing.{new_in}
use Rattle.mps_xform.proofs.Leading.{borrowed_word, one_more_to_none, all_to_none}
use Rattle.mps_xform.proofs.applying.may_lead_to_old.Goals as goal

pub loop-cell-init : goal.loop-cell-init
loop-cell-init g c = (omega arith, λ k below reference. absurd (omega (arith, below)))

pub bounds-words-cell : goal.bounds-words-cell
bounds-words-cell g c =
    let f = g.F.Format.layout c.args.format.now in
    let laws = g.met.F.Format.lawful c.args.format.now in
    let within : c.in-Some.cell < f.size c.args.head =
    (laws.references c.args.head c.in-Some.cell c.requires.valid c.in-Some.ensures.sound.reference).1 in
    omega (
      arith,
      within,
      c.words_from-words.ensures.complete (f.size c.args.head) (laws.sizes c.args.head c.requires.valid).1 c.requires.inside,
    )

pub loop-cell-preserved : goal.loop-cell-preserved
loop-cell-preserved g c =
    let f = g.F.Format.layout c.args.format.now in
    let laws = g.met.F.Format.lawful c.args.format.now in
    let to = new_in c.args.replacements.now in
    let l = c.loop-cell in
    let cell = c.in-Some.cell in
    let first = c.in-Some.ensures.sound in
    let words = c.words_from-words.result.now in
    let within : cell < f.size c.args.head = (laws.references c.args.head cell c.requires.valid first.reference).1 in
    let few : cell < length words =
    omega (
      arith,
      within,
      c.words_from-words.ensures.complete (f.size c.args.head) (laws.sizes c.args.head c.requires.valid).1 c.requires.inside,
    )
    in
    let word = borrowed_word c.args.segs.now.words words (word_of c.args.at.0) cell c.words_from-words.ensures.value few in
    let none = ap (λ (o : Option Pair). option_map (λ p. p.new.0) o) (c.may_have.ensures c.if-may_have.false) in (
      omega (arith, within),
      one_more_to_none f to c.args.segs.now (word_of c.args.at.0) c.args.head l.from l.invariant.1 cell first.none_between
          (ap (λ (a : ℕ). to a) (ap (λ (w : ℕ). f.target w) (sym word) ∙ sym c.target.ensures) ∙ none),
    )

pub returns : goal.returns
returns g c = λ is.
    let f = g.F.Format.layout c.args.format.now in
    let l = c.loop-cell in
    all_to_none f (new_in c.args.replacements.now) c.args.segs.now (word_of c.args.at.0) c.args.head l.from l.invariant.1
    (f.size c.args.head) (λ k above. c.in_default.ensures.none k above)
