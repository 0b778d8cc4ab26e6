use Rattle.std.proofs.Common.{ℕ, ◌≡◌, ◌+◌, ◌*◌, ◌<◌, ◌∙◌, length, sym, ap, arith}
use Rattle.std.specs.Prelude.{slice_index}
use Rattle.mps_base.specs.Address.{word_of}
use Rattle.mps_seg.specs.Segs.{SegsState}
use Rattle.mps_xform.specs.Applying.{after_replace}
use Rattle.mps_xform.specs.Passing.{new_in}
use Rattle.mps_xform.proofs.Applied.{replaced_parts}
use Rattle.mps_xform.proofs.Blocks.{numbers_passed, reference_done}
use Rattle.mps_xform.proofs.applying.apply_to_block.Goals as goal

pub loop-cell-preserved : goal.loop-cell-preserved
loop-cell-preserved g c =
    let f = g.F.Format.layout c.args.format.now in
    let to = new_in c.args.replacements.now in
    let l = c.loop-cell in
    let cell = c.in-Some.cell in
    let first = c.in-Some.ensures.sound in
    let within : cell < f.size c.args.head =
    ((g.met.F.Format.lawful c.args.format.now).references c.args.head cell c.requires.valid first.reference).1 in
    let at : ℕ = word_of c.args.at.0 in
    let place : word_of (c.args.at.0 + 8 * c.from.result) ≡ at + cell = omega (arith, c.from.ensures, c.requires.begins) in
    let written : c.apply_to_cell.new.segs
    ≡ after_replace f (at + cell) (slice_index l.segs.words (at + cell)) (to (f.target (slice_index l.segs.words (at + cell)))) l.segs =
    c.apply_to_cell.ensures
    ∙ ap (λ (w : ℕ). after_replace f w (slice_index l.segs.words w) (to (f.target (slice_index l.segs.words w))) l.segs) place
    in
    let parts = replaced_parts f (at + cell) (slice_index l.segs.words (at + cell))
    (to (f.target (slice_index l.segs.words (at + cell)))) l.segs in (
      ap (λ (s : SegsState). length s.words) written ∙ parts.size ∙ l.invariant.0,
      omega (arith, within),
      λ s pool before block.
          reference_done f to s pool at c.args.head block cell l.segs c.apply_to_cell.new.segs within first.reference
          (l.invariant.2 s pool before block
          ∙ sym (numbers_passed f to s pool at c.args.head block l.from cell first.not_before (omega (arith, within)) first.none_between))
          written,
    )

pub returns : goal.returns
returns g c = λ s pool before block.
    let f = g.F.Format.layout c.args.format.now in
    let l = c.loop-cell in
    l.invariant.2 s pool before block
    ∙ sym (numbers_passed f (new_in c.args.replacements.now) s pool (word_of c.args.at.0) c.args.head block l.from (f.size c.args.head)
    l.invariant.1 (omega arith) (λ k above below. c.in_default.ensures.none k above))
