use Rattle.std.proofs.Common.{ℕ, ◌+◌, ◌≡◌, ◌∙◌, ap, ap₂, sym, arith}
use Rattle.std.specs.Prelude.{bit_or, slice_index}
use Rattle.mps_base.specs.Address.{word_of}
use Rattle.mps_trace.specs.Noting.{zones_of_target, zones_of_cells}
use Rattle.mps_trace.proofs.CellZones.{next_zone, no_zone_left}
use Rattle.mps_trace.proofs.noting.zones_of_words.Goals as goal

pub loop-cell-preserved : goal.loop-cell-preserved
loop-cell-preserved g c =
    let f = g.F.Format.layout c.args.format.now in
    let words = c.args.block.now in
    let head = slice_index words 0 in
    let cell = c.in-Some.cell in
    let place : word_of 0 + cell ≡ cell = omega arith in
    let here = ap (λ (i : ℕ). zones_of_target (f.target (slice_index words i))) (sym place) in
    let inside = ((g.met.F.Format.lawful c.args.format.now).references head cell c.requires.valid c.in-Some.ensures.sound.reference).1
    in (
      ap₂ bit_or c.loop-cell.invariant.0 (c.zones_of_cell-zones.ensures ∙ here)
          ∙ sym (next_zone f words head 0 c.loop-cell.from cell c.in-Some.ensures.sound),
      omega (arith, inside),
    )

pub returns : goal.returns
returns g c =
    let f = g.F.Format.layout c.args.format.now in
    let words = c.args.block.now in
    let head = slice_index words 0 in
    let first : word_of 0 ≡ 0 = omega arith in
    c.loop-cell.invariant.0
    ∙ sym (no_zone_left f words head 0 c.loop-cell.from (f.size head) c.loop-cell.invariant.1 c.in_default.ensures.none)
    ∙ ap (λ (h : ℕ). zones_of_cells f words h 0 (f.size h)) (ap (λ (i : ℕ). slice_index words i) (sym first))
