use Rattle.std.proofs.Common.{ap, ◌∙◌, arith}
use Rattle.mps_base.specs.Segment.{segment_over}
use Rattle.mps_seg.specs.Segs.{SegsState}
use Rattle.mps_seg.proofs.FirstGrain.{no_base, base_over}
use Rattle.mps_seg.proofs.segs.Segs.segment_of.Goals as goal

pub overflow_mul-result : goal.overflow_mul-result
overflow_mul-result c =
    let grains = ap (λ (x : SegsState). x.grains) c.self.view_is in
    omega (arith, c.in_ok-first.ensures.in_arena, grains, c.self.invariant.0.at_most)

pub returns-in_err-first : goal.returns-in_err-first
returns-in_err-first c =
    c.from_residual.ensures ∙ no_base (segment_over c.args.self.now.segments c.args.at.0) c.in_err-first.ensures.value

pub returns : goal.returns
returns c = base_over c.self.inside c.args.self.now c.args.at.0 c.in_ok-first.first c.self.view_is c.in_ok-first.ensures.value
