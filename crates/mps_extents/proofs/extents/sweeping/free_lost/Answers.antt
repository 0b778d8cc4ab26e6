use Rattle.std.proofs.Common.{ℕ, ◌+◌, ◌-◌, ◌≤◌, ◌≡◌, List, length, sym, ap, ◌∙◌, arith, length-append}
use Rattle.mps_base.specs.Trail.{Moves}
use Rattle.mps_extents.specs.Lost.{freed_at, passing, begins_lost}
use Rattle.mps_extents.proofs.Passing.{none_of_none, word_is, word_and_rest, freed_more, spare_freed}
use Rattle.mps_extents.proofs.extents.sweeping.free_lost.Goals as goal

pub free_in_word-requires-clause-fits : goal.free_in_word-requires-clause-fits
free_in_word-requires-clause-fits c =
    let at = c.loop-at.at in
    let high = c.args.high in
    let p = begins_lost c.args.blocks.now c.args.kept.now in
    let room : at + 64 ≤ high = omega (arith, c.loop-at.invariant.whole, c.loop-at.invariant.upto, c.requires.in_words.1) in
    let parts = word_and_rest p at high room in
    let here = word_is c.args.blocks.now c.args.kept.now c.word_unless.result at c.word_unless.ensures in
    let xs = passing p at 64 in
    let ys = passing p (at + 64) (high - (at + 64)) in
    omega (
      arith,
      c.loop-at.invariant.room,
      ap (λ (zs : List ℕ). length zs) parts,
      length-append xs ys,
      ap (λ (zs : List ℕ). length zs) here,
    )

pub returns : goal.returns
returns c =
    let at = c.loop-at.at in
    let p = begins_lost c.args.blocks.now c.args.kept.now in
    let none : c.args.high - at ≡ 0 = omega arith in
    sym (ap (λ (n : ℕ). freed_at (passing p at n) c.loop-at.trail) none
    ∙ ap (λ (xs : List ℕ). freed_at xs c.loop-at.trail) (none_of_none p at))
    ∙ c.loop-at.invariant.to_go

pub loop-at-preserved : goal.loop-at-preserved
loop-at-preserved c =
    let at = c.loop-at.at in
    let high = c.args.high in
    let p = begins_lost c.args.blocks.now c.args.kept.now in
    let room : at + 64 ≤ high = omega (arith, c.loop-at.invariant.whole, c.loop-at.invariant.upto, c.requires.in_words.1) in
    let parts = word_and_rest p at high room in
    let here = word_is c.args.blocks.now c.args.kept.now c.word_unless.result at c.word_unless.ensures in
    let xs = passing p at 64 in
    let ys = passing p (at + 64) (high - (at + 64)) in
    let freed = c.free_in_word.ensures ∙ ap (λ (zs : List ℕ). freed_at zs c.loop-at.trail) here in
    record {
      upto = room;
      whole = omega (arith, c.loop-at.invariant.whole);
      to_go =
          ap (λ (m : Moves). freed_at ys m) freed
          ∙ sym (freed_more xs ys c.loop-at.trail)
          ∙ sym (ap (λ (zs : List ℕ). freed_at zs c.loop-at.trail) parts)
          ∙ c.loop-at.invariant.to_go;
      room = omega (
        arith,
        c.loop-at.invariant.room,
        ap (λ (zs : List ℕ). length zs) parts,
        length-append xs ys,
        ap (λ (m : Moves). m.spare) freed,
        spare_freed xs c.loop-at.trail,
      );
    }
