use Rattle.std.proofs.Common.{ℕ, ◌+◌, ◌-◌, ◌%◌, ◌≡◌, subst, arith}
use Rattle.mps_bits.specs.Row.{IsClear}
use Rattle.mps_bits.proofs.Row.{IsChunk, index_below_width, set_at, clear_join, clear_above, clear_of_zero}
use Rattle.mps_bits.proofs.words.highest_set.Goals as goal

pub returns-then-bits-ne0 : goal.returns-then-bits-ne0
returns-then-bits-ne0 c =
    let words = c.args.words.now in
    let end = c.loop-end.end in
    let at = end - 1 - (end - 1) % 64 in
    let width = end - at in
    let bits = c.chunk-bits.result in
    let p = c.highest_one.result in
    let chunk : IsChunk words at width bits = record { inside = c.chunk-bits.ensures.inside; above = c.chunk-bits.ensures.above } in
    let within = index_below_width words at width bits p chunk c.highest_one.ensures.set in
    let whole : at + width ≡ end = omega arith in
    let higher : IsClear words (at + p + 1) end =
    subst (λ (k : ℕ). IsClear words (at + p + 1) k) whole (clear_above words at width bits p chunk c.highest_one.ensures.above)
    in
    record {
      below = omega (arith, within);
      set = set_at words at width bits p chunk c.highest_one.ensures.set;
      higher = clear_join words (at + p + 1) end c.args.to higher c.loop-end.invariant.clear;
    }

pub loop-end-preserved : goal.loop-end-preserved
loop-end-preserved c =
    let words = c.args.words.now in
    let end = c.loop-end.end in
    let at = end - 1 - (end - 1) % 64 in
    let width = end - at in
    let chunk : IsChunk words at width c.chunk-bits.result =
    record { inside = c.chunk-bits.ensures.inside; above = c.chunk-bits.ensures.above }
    in
    let whole : at + width ≡ end = omega arith in
    let here : IsClear words at end =
    subst (λ (k : ℕ). IsClear words at k) whole (clear_of_zero words at width c.chunk-bits.result chunk c.if-bits-ne0.false)
    in
    record { within = omega arith; clear = clear_join words at end c.args.to here c.loop-end.invariant.clear }
