use Rattle.std.proofs.Common.{None, Option, option_map, get_or, set, ap, ◌∙◌, ◌<◌, length, arith}
use Rattle.std.proofs.lemmas.List.{get_or_default}
use Rattle.std.proofs.lemmas.List.Edits.{map_over_more}
use Rattle.mps_buffer.specs.declared.point.Point.{Point}
use Rattle.mps_buffer.specs.Points.{without_free_words}
use Rattle.mps_buffer.proofs.points.empty_all.Goals as goal

pub loop-i-preserved : goal.loop-i-preserved
loop-i-preserved c =
    let now = c.loop-i.points in
    let i = c.loop-i.i in
    let here = get_or now i None in
    let within : i < length now = omega (arith, c.loop-i-test.true, c.loop-i.auto.points) in
    ap (λ (x : Option Point). set now i x) c.emptied_point.ensures
    ∙ map_over_more (option_map without_free_words) c.args.points.now now i here c.loop-i-test.true c.loop-i.invariant
    (get_or_default now i None here within)
