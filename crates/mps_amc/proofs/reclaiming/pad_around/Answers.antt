use Rattle.std.proofs.Common.{ℕ, ◌<◌, ◌≤◌, ◌≡◌, true, List, Contains, sym, subst, arith}
use Rattle.mps_base.specs.Address.{word_of}
use Rattle.mps_base.specs.Run.{Run, runs_within}
use Rattle.mps_extents.specs.Extents.{is_covered, AreWhole}
use Rattle.mps_seg.specs.Segs.{SegsState, held_runs}
use Rattle.mps_seg.specs.Reclaiming.{IsNextHole}
use Rattle.mps_amc.proofs.Padding.{padded_past, padded_to, padded_all}
use Rattle.mps_amc.proofs.Padded.{words_written, blocks_written, span_written}
use Rattle.mps_amc.proofs.reclaiming.pad_around.Goals as goal

pub loop-hole-preserved : goal.loop-hole-preserved
loop-hole-preserved g c =
    let f = g.F.Format.layout c.args.format.now in
    let s0 = c.args.segs.now in
    let s = c.loop-hole.segs in
    let s' = c.pad_words.new.segs in
    let hole = c.in-Some.hole in
    let low = word_of c.args.base.0 in
    let high = word_of c.args.end.0 in
    let from = word_of c.loop-hole.from.0 in
    let so_far = c.loop-hole.invariant in
    let done = c.pad_words.ensures in
    let P : List Run → Type 0 = λ bs. IsNextHole from high (runs_within low high bs) hole in
    let next = subst P (blocks_written s0 s so_far.1) c.in-Some.ensures.found in
    let Q : SegsState → Type 0 = λ x. AreWhole (word_of hole.to.0) high x.covered in (
      next.aligned.1,
      words_written s0 s s' so_far.1 done.state,
      span_written s s' c.args.base.0 c.args.end.0 done.state so_far.2,
      next.below,
      subst Q (sym done.state) c.in-Some.ensures.whole,
      padded_to f low high s0.blocks s0.words s.words s'.words (word_of hole.from.0) (word_of hole.to.0)
          (padded_past f low high s0.blocks s0.words s.words from (word_of hole.from.0) so_far.5 next.above next.before)
          done.size
          done.pads
          done.others
          next.inside
          (omega (arith, next.nonempty))
          next.below,
    )

pub pad_words-requires-clause-held : goal.pad_words-requires-clause-held
pad_words-requires-clause-held g c = λ some.
    let s0 = c.args.segs.now in
    let s = c.loop-hole.segs in
    let so_far = c.loop-hole.invariant in
    let lies = c.requires.held in
    let next = c.in-Some.ensures.found in
    let P : SegsState → Type 0 = λ x. Contains (held_runs x) lies.grains in
    record {
      grains = lies.grains;
      there = subst P (sym so_far.1) lies.there;
      after = omega (arith, lies.after, so_far.5.above, next.above);
      before = omega (arith, lies.before, next.below, some, so_far.5.above, next.above);
    }

pub pad_words-requires-clause-in_arena : goal.pad_words-requires-clause-in_arena
pad_words-requires-clause-in_arena g c =
    omega (arith, c.requires.span.inside, c.loop-hole.invariant.5.long, c.grains.ensures.size, c.in-Some.ensures.found.below)

pub returns-clause-words : goal.returns-clause-words
returns-clause-words g c =
    let f = g.F.Format.layout c.args.format.now in
    let s0 = c.args.segs.now in
    let s = c.loop-hole.segs in
    let low = word_of c.args.base.0 in
    let high = word_of c.args.end.0 in
    let from = word_of c.loop-hole.from.0 in
    let so_far = c.loop-hole.invariant in
    let P : List Run → Type 0 = λ bs. (k : ℕ) → from ≤ k → k < high → is_covered (runs_within low high bs) k ≡ true in
    padded_all f low high s0.blocks s0.words s.words from so_far.5 so_far.3
    (subst P (blocks_written s0 s so_far.1) c.in_default.ensures.none)
