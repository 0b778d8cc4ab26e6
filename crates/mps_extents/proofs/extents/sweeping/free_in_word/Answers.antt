use Rattle.std.proofs.Common.{ℕ, ◌-◌, List, length, sym, ap, ◌∙◌, arith}
use Rattle.mps_base.specs.Trail.{Moves}
use Rattle.mps_bits.specs.OpenRuns.{is_one}
use Rattle.mps_extents.specs.Lost.{freed_at, passing}
use Rattle.mps_extents.proofs.Passing.{word_first, word_none}
use Rattle.mps_extents.proofs.extents.sweeping.free_in_word.Goals as goal

pub push-requires : goal.push-requires
push-requires c =
    let from = c.args.from in
    let found = c.lowest_one-index.ensures in
    let left = c.without_bit-left.result in
    let first = word_first c.loop-left.left left from c.lowest_one-index.result found.in_word found.set found.below
    c.without_bit-left.ensures.gone c.without_bit-left.ensures.others
    in
    omega (arith, ap (λ (xs : List ℕ). length xs) first, c.loop-left.invariant.room)

pub loop-left-smaller : goal.loop-left-smaller
loop-left-smaller c =
    let from = c.args.from in
    let found = c.lowest_one-index.ensures in
    let left = c.without_bit-left.result in
    let first = word_first c.loop-left.left left from c.lowest_one-index.result found.in_word found.set found.below
    c.without_bit-left.ensures.gone c.without_bit-left.ensures.others
    in
    omega (arith, ap (λ (xs : List ℕ). length xs) first)

pub loop-left-preserved : goal.loop-left-preserved
loop-left-preserved c =
    let from = c.args.from in
    let found = c.lowest_one-index.ensures in
    let left = c.without_bit-left.result in
    let first = word_first c.loop-left.left left from c.lowest_one-index.result found.in_word found.set found.below
    c.without_bit-left.ensures.gone c.without_bit-left.ensures.others
    in
    record {
      to_go =
          ap (λ (m : Moves). freed_at (passing (λ i. is_one left (i - from)) from 64) m) c.push.ensures
          ∙ sym (ap (λ (xs : List ℕ). freed_at xs c.loop-left.trail) first)
          ∙ c.loop-left.invariant.to_go;
      room = omega (arith, ap (λ (xs : List ℕ). length xs) first, c.loop-left.invariant.room, ap (λ (m : Moves). m.spare) c.push.ensures);
    }

pub returns : goal.returns
returns c =
    sym (ap (λ (xs : List ℕ). freed_at xs c.loop-left.trail) (word_none c.loop-left.left c.args.from (omega arith)))
    ∙ c.loop-left.invariant.to_go
