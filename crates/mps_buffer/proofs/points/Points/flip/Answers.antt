use Rattle.std.proofs.Common.{◌≡◌, ◌+◌, ◌∙◌, sym, ap, subst, List, Option, map, option_map, length, take, drop, ◌++◌, arith}
use Rattle.std.proofs.lemmas.List.{take-append-le, take_all, length-map}
use Rattle.mps_buffer.specs.declared.point.Point.{Point}
use Rattle.mps_buffer.specs.Points.{WereMadeBefore, without_free_words}
use Rattle.mps_buffer.proofs.MadeBefore.{made_before_then}
use Rattle.mps_buffer.proofs.points.Points.flip.Goals as goal

pub invariant_of-self : goal.invariant_of-self
invariant_of-self c =
    let p = c.self.inside in
    let all = p.points.items in
    let now = c.empty_all.new.points in
    let now_is : now ≡ map (option_map without_free_words) all =
    c.empty_all.ensures ∙ ap (λ (ps : List (Option Point)). map (option_map without_free_words) ps) c.deref_mut.ensures.value in
    let same_length = ap (λ (ps : List (Option Point)). length ps) now_is in
    let as_many = length-map all (option_map without_free_words) in
    let many : length now ≡ p.points.len = omega (arith, same_length, as_many, p.points.ok.0) in
    let whole : take p.points.len (now ++ drop (length now) all) ≡ map (option_map without_free_words) all =
    take-append-le p.points.len now (drop (length now) all) (omega (arith, many))
    ∙ take_all p.points.len now (omega (arith, many))
    ∙ now_is in
    let P : List (Option Point) → Type 0 = λ ps. WereMadeBefore (p.flips + 1) (record { points = ps; flips = p.flips + 1 }) in
    subst P (sym whole) (made_before_then p.flips (record { points = all; flips = p.flips }) c.self.invariant)
