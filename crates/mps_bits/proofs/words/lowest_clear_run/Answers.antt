use Rattle.std.proofs.Common.{◌+◌, arith}
use Rattle.mps_bits.proofs.Row.{IsChunk, index_below_width, clear_join, clear_below, clear_above, clear_of_zero}
use Rattle.mps_bits.proofs.Runs.{chunk_run, run_in_chunk, no_run_more, no_run_upto_highest, short_above}
use Rattle.mps_bits.proofs.words.lowest_clear_run.Goals as goal
use Rattle.mps_bits.proofs.words.lowest_clear_run.Goals.{then-bits-eq0+else-at-width, else-bits-eq0+else-at-lowest_one+in_default}

pub returns-then-at-width : goal.returns-then-at-width
returns-then-at-width c =
    let words = c.args.words.now in
    let at = c.loop-at.at in
    let start = c.loop-at.start in
    let width = c.width_at-width.result in
    let chunk : IsChunk words at width c.chunk-bits.result =
    record { inside = c.chunk-bits.ensures.inside; above = c.chunk-bits.ensures.above }
    in
    let clear =
    clear_join words start at (at + width) c.loop-at.invariant.clear
    (clear_of_zero words at width c.chunk-bits.result chunk c.if-bits-eq0.true)
    in
    record {
      above = c.loop-at.invariant.from_on;
      below = omega (arith, c.width_at-width.ensures.in_range);
      clear = λ i from to. clear i from (omega arith);
      lower = c.loop-at.invariant.none;
    }

pub returns-then-at-lowest_one : goal.returns-then-at-lowest_one
returns-then-at-lowest_one c =
    let words = c.args.words.now in
    let at = c.loop-at.at in
    let start = c.loop-at.start in
    let width = c.width_at-width.result in
    let bits = c.chunk-bits.result in
    let l = c.lowest_one.result in
    let chunk : IsChunk words at width bits = record { inside = c.chunk-bits.ensures.inside; above = c.chunk-bits.ensures.above } in
    let within = index_below_width words at width bits l chunk c.lowest_one.ensures.set in
    let clear =
    clear_join words start at (at + l) c.loop-at.invariant.clear
    (clear_below words at width bits l chunk (omega (arith, within)) c.lowest_one.ensures.below)
    in
    record {
      above = c.loop-at.invariant.from_on;
      below = omega (arith, within, c.width_at-width.ensures.in_range);
      clear = λ i from to. clear i from (omega arith);
      lower = c.loop-at.invariant.none;
    }

pub returns-in-Some : goal.returns-in-Some
returns-in-Some c =
    let words = c.args.words.now in
    let at = c.loop-at.at in
    let width = c.width_at-width.result in
    let bits = c.chunk-bits.result in
    let index = c.in-Some.index in
    let found = c.in-Some.ensures in
    let chunk : IsChunk words at width bits = record { inside = c.chunk-bits.ensures.inside; above = c.chunk-bits.ensures.above } in
    record {
      above = omega arith;
      below = omega (arith, found.below, c.width_at-width.ensures.in_range);
      clear = chunk_run words at width bits index c.args.count chunk found.below found.clear;
      lower =
          no_run_more words c.args.from c.loop-at.start at width bits c.lowest_one.result c.args.count (at + index) chunk
          c.lowest_one.ensures.set (omega arith) c.loop-at.invariant.none
          (λ q below clear. found.lower q (omega arith)
          (run_in_chunk words at width bits q c.args.count chunk (omega (arith, found.below)) clear));
    }

pub loop-at-preserved : goal.loop-at-preserved
loop-at-preserved c =
    let words = c.args.words.now in
    let at = c.loop-at.at in
    let start = c.loop-at.start in
    let width = c.width_at-width.result in
    let bits = c.chunk-bits.result in
    let chunk : IsChunk words at width bits = record { inside = c.chunk-bits.ensures.inside; above = c.chunk-bits.ensures.above } in
    elim c.if-bits-eq0.branch [
      | then-bits-eq0+else-at-width w ↦
          rw w.start-is (record {
            from_on = c.loop-at.invariant.from_on;
            ordered = omega arith;
            short = omega arith;
            clear =
                clear_join words start at (at + width) c.loop-at.invariant.clear
                (clear_of_zero words at width bits chunk w.if-bits-eq0.true);
            none = c.loop-at.invariant.none;
          })
      | else-bits-eq0+else-at-lowest_one+in_default w ↦
          let h = w.highest_one.result in
          let within = index_below_width words at width bits h chunk w.highest_one.ensures.set in
          let none = w.in_default.ensures in
          rw w.start-is (record {
            from_on = omega arith;
            ordered = omega (arith, within);
            short = omega (arith, short_above width bits h c.args.count none w.highest_one.ensures.above);
            clear = clear_above words at width bits h chunk w.highest_one.ensures.above;
            none =
                no_run_more words c.args.from start at width bits w.lowest_one.result c.args.count (at + h + 1) chunk
                w.lowest_one.ensures.set (omega arith) c.loop-at.invariant.none
                (no_run_upto_highest words at width bits h c.args.count chunk w.highest_one.ensures.set within none);
          })
    ]
