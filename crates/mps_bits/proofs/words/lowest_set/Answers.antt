use Rattle.std.proofs.Common.{◌+◌, ◌*◌, ◌/◌, arith}
use Rattle.mps_bits.proofs.Row.{IsChunk, index_below_width, set_at, clear_below, clear_of_zero, search_on}
use Rattle.mps_bits.proofs.words.lowest_set.Goals as goal

pub returns-then-bits-ne0 : goal.returns-then-bits-ne0
returns-then-bits-ne0 c =
    let words = c.args.words.now in
    let at = c.args.from in
    let width = c.width_at-width.result in
    let bits = c.chunk-bits.result in
    let p = c.lowest_one.result in
    let chunk : IsChunk words at width bits = record { inside = c.chunk-bits.ensures.inside; above = c.chunk-bits.ensures.above } in
    let within = index_below_width words at width bits p chunk c.lowest_one.ensures.set in
    record {
      above = omega arith;
      below = omega (arith, within, c.width_at-width.ensures.in_range);
      set = set_at words at width bits p chunk c.lowest_one.ensures.set;
      lower = clear_below words at width bits p chunk (omega (arith, within)) c.lowest_one.ensures.below;
    }

pub returns : goal.returns
returns c =
    let words = c.args.words.now in
    let at = c.args.from in
    let to = c.args.to in
    let width = c.width_at-width.result in
    let chunk : IsChunk words at width c.chunk-bits.result =
    record { inside = c.chunk-bits.ensures.inside; above = c.chunk-bits.ensures.above }
    in
    let clear = clear_of_zero words at width c.chunk-bits.result chunk c.if-bits-ne0.false in
    search_on words at (64 * (at / 64 + 1)) to (at + width) c.lowest_in_words.result (omega arith) c.width_at-width.ensures.whole clear
    c.lowest_in_words.ensures
