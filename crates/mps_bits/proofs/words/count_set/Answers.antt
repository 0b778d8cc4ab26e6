use Rattle.std.proofs.Common.{ℕ, ◌-◌, ◌≡◌, refl, sym, ap, ◌∙◌, inl, inr, arith}
use Rattle.mps_bits.specs.Row.{bit_in, sum_over}
use Rattle.mps_bits.proofs.Row.{IsChunk, chunk_ones, sum_over_upto, sum_over_le, sum_over-none, bit_in-lt}
use Rattle.mps_bits.proofs.words.count_set.Goals as goal

pub loop-at-init : goal.loop-at-init
loop-at-init c =
    let none : c.args.from - c.args.from ≡ 0 = omega arith in
    record {
      from_on = omega arith;
      within = inr refl;
      counted =
          sym (ap (λ (k : ℕ). sum_over (bit_in c.args.words.now) c.args.from k) none ∙ sum_over-none (bit_in c.args.words.now)
          c.args.from);
    }

pub overflow_add-count : goal.overflow_add-count
overflow_add-count c =
    let words = c.args.words.now in
    let at = c.loop-at.at in
    let width = c.width_at-width.result in
    let chunk : IsChunk words at width c.chunk.result = record { inside = c.chunk.ensures.inside; above = c.chunk.ensures.above } in
    let ones = chunk_ones words at width c.chunk.result chunk (omega (arith, c.width_at-width.ensures.in_word)) c.chunk.type_inv in
    let most = sum_over_le (bit_in words) c.args.from (at - c.args.from) (bit_in-lt words) in
    let here = sum_over_le (bit_in words) at width (bit_in-lt words) in
    omega (arith, ones, most, here, c.loop-at.invariant.counted, c.width_at-width.ensures.in_range)

pub loop-at-preserved : goal.loop-at-preserved
loop-at-preserved c =
    let words = c.args.words.now in
    let at = c.loop-at.at in
    let width = c.width_at-width.result in
    let chunk : IsChunk words at width c.chunk.result = record { inside = c.chunk.ensures.inside; above = c.chunk.ensures.above } in
    let ones = chunk_ones words at width c.chunk.result chunk (omega (arith, c.width_at-width.ensures.in_word)) c.chunk.type_inv in
    record {
      from_on = omega arith;
      within = inl c.width_at-width.ensures.in_range;
      counted = omega (arith, ones, sum_over_upto words c.args.from at width c.loop-at.invariant.from_on, c.loop-at.invariant.counted);
    }
