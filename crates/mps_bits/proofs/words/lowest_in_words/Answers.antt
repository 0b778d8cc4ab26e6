use Rattle.std.proofs.Common.{◌+◌, ◌*◌, arith}
use Rattle.mps_bits.proofs.Row.{IsChunk, set_at, clear_join, clear_below, clear_of_zero}
use Rattle.mps_bits.proofs.words.lowest_in_words.Goals as goal

pub returns-then-found-to : goal.returns-then-found-to
returns-then-found-to c =
    let words = c.args.words.now in
    let at = 64 * c.loop-at.at in
    let bits = c.chunk-bits.result in
    let p = c.lowest_one.result in
    let chunk : IsChunk words at 64 bits = record { inside = c.chunk-bits.ensures.inside; above = c.chunk-bits.ensures.above } in
    record {
      above = omega (arith, c.loop-at.invariant.first_on);
      below = c.if-found-to.true;
      set = set_at words at 64 bits p chunk c.lowest_one.ensures.set;
      lower =
          clear_join words (64 * c.args.first) at (at + p) c.loop-at.invariant.clear
          (clear_below words at 64 bits p chunk (omega (arith, c.lowest_one.ensures.in_word)) c.lowest_one.ensures.below);
    }

pub returns-then-bits-ne0 : goal.returns-then-bits-ne0
returns-then-bits-ne0 c =
    let words = c.args.words.now in
    let at = 64 * c.loop-at.at in
    let bits = c.chunk-bits.result in
    let p = c.lowest_one.result in
    let chunk : IsChunk words at 64 bits = record { inside = c.chunk-bits.ensures.inside; above = c.chunk-bits.ensures.above } in
    λ i from below. clear_join words (64 * c.args.first) at (at + p) c.loop-at.invariant.clear
    (clear_below words at 64 bits p chunk (omega (arith, c.lowest_one.ensures.in_word)) c.lowest_one.ensures.below) i from
    (omega (arith, c.if-found-to.false, below))

pub loop-at-preserved : goal.loop-at-preserved
loop-at-preserved c =
    let words = c.args.words.now in
    let at = 64 * c.loop-at.at in
    let chunk : IsChunk words at 64 c.chunk-bits.result =
    record { inside = c.chunk-bits.ensures.inside; above = c.chunk-bits.ensures.above }
    in
    record {
      first_on = omega (arith, c.loop-at.invariant.first_on);
      clear = λ i from below.
          clear_join words (64 * c.args.first) at (at + 64) c.loop-at.invariant.clear
          (clear_of_zero words at 64 c.chunk-bits.result chunk c.if-bits-ne0.false) i from (omega (arith, below));
    }
