use Rattle.std.proofs.Common.{ℕ, ◌+◌, ◌*◌, ◌<◌, ◌≤◌, ◌≡◌, ◌⊎◌, inl, inr, sym, ◌∙◌, subst, arith}
use Rattle.mps_base.specs.Address.{word_of}
use Rattle.mps_amc.specs.Reclaiming.{LiesInPad}
use Rattle.mps_amc.proofs.Padding.{pads_go_on}
use Rattle.mps_amc.proofs.Padded.{words_written}
use Rattle.mps_amc.proofs.reclaiming.pad_words.Goals as goal

pub loop-to-preserved : goal.loop-to-preserved
loop-to-preserved g c =
    let f = g.F.Format.layout c.args.format.now in
    let s0 = c.args.segs.now in
    let s = c.loop-to.segs in
    let s' = c.pad_piece.new.segs in
    let at = word_of c.loop-to.at.0 in
    let low = word_of c.args.from.0 in
    let high = word_of c.args.to.0 in
    let n = c.min-words.result in
    let so_far = c.loop-to.invariant in
    let some : 0 < n =
    omega (
      arith,
      c.min-words.ensures,
      c.loop-to-test.true,
      c.word.ensures,
      c.word-in-loop-to.ensures,
      c.word-in-loop-to-2.ensures,
      c.word-in-loop-to-3.ensures,
    )
    in
    let few : n ≤ 65536 = omega (arith, c.min-words.ensures) in
    let below : at + n ≤ high =
    omega (
      arith,
      c.min-words.ensures,
      c.loop-to-test.true,
      c.word.ensures,
      c.word-in-loop-to.ensures,
      c.word-in-loop-to-2.ensures,
      c.word-in-loop-to-3.ensures,
    )
    in
    let ending : word_of (c.loop-to.at.0 + 8 * c.from.result) ≡ at + n = omega (arith, c.from.ensures, so_far.0) in
    let P : ℕ → Type 0 = λ k. (i : ℕ) → low ≤ i → i < k → LiesInPad f low high s'.words i in (
      omega (arith, c.from.ensures, so_far.0),
      omega (arith, ending, so_far.1),
      words_written s0 s s' so_far.2 c.pad_piece.ensures.state,
      c.pad_piece.ensures.size ∙ so_far.3,
      subst P (sym ending)
          (pads_go_on f low high at n s.words s'.words c.pad_piece.ensures.size c.pad_piece.ensures.others some few so_far.1 below
          (omega (arith, below, c.requires.in_arena, so_far.3)) c.pad_piece.ensures.head so_far.4),
      λ i out. c.pad_piece.ensures.others i (outer n out so_far.1 below) ∙ so_far.5 i out,
    )
  where
    outer : {i low high at : ℕ} (n : ℕ) → (i < low) ⊎ (high ≤ i) → low ≤ at → at + n ≤ high → (i < at) ⊎ (at + n ≤ i)
    outer n (inl before) above below = inl (omega (arith, before, above))
    outer n (inr past) above below = inr (omega (arith, past, below))
