use Rattle.std.proofs.Common.{ℕ, ◌≡◌, ◌<◌, List, length, map, set, replicate, sym, ap, ◌∙◌, arith}
use Rattle.std.proofs.lemmas.List.{map-set, length-map, get_or-map}
use Rattle.std.proofs.lemmas.List.Edits.{map_over_more}
use Rattle.mps_seg.specs.declared.buffer.Buffer.{Buffer}
use Rattle.mps_amc.specs.Amc.{row_after_flip}
use Rattle.mps_seg.specs.Buffer.{empty_buffer}
use Rattle.std.specs.Vec.{vec_len}
use Rattle.mps_amc.proofs.amc.empty_rows.Goals as goal

pub loop-i-preserved : goal.loop-i-preserved
loop-i-preserved c =
    let rows = c.loop-i.rows in
    let i = c.loop-i.i in
    let row = c.index-rows-i.result in
    let within : i < length rows = omega (arith, c.loop-i-test.true, c.loop-i.auto.rows) in
    let here = get_or-map (λ r. r.items) rows i row row.items within ∙ ap (λ r. r.items) (sym c.index-rows-i.is) in
    let filled : c.fill.new.self.items ≡ row_after_flip row.items =
    c.fill.ensures.items (λ y same. same)
    ∙ ap (λ r. replicate (vec_len r) empty_buffer) (sym c.index-rows-i.is)
    ∙ ap (λ (n : ℕ). replicate n empty_buffer) (omega (arith, row.ok))
    in
    map-set (λ r. r.items) rows i c.fill.new.self
    ∙ ap (λ (x : List Buffer). set (map (λ r. r.items) rows) i x) filled
    ∙ map_over_more row_after_flip (map (λ r. r.items) c.args.rows.now) (map (λ r. r.items) rows) i row.items
    (omega (arith, c.loop-i-test.true, length-map c.args.rows.now (λ r. r.items))) c.loop-i.invariant (sym here)
