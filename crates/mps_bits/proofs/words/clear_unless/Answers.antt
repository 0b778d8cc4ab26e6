use Rattle.std.proofs.Common.{ℕ, ◌+◌, ◌-◌, ◌*◌, ◌<◌, ◌≡◌, ◌^◌, min, get_or, sym, ap, ◌∙◌, inl, inr, arith, w64}
use Rattle.std.specs.Int.{bit_at, bit_not}
use Rattle.std.proofs.lemmas.Bool.{cases_lt}
use Rattle.std.proofs.lemmas.Nat.Bits.{bit_at-lt, bit_at_not}
use Rattle.mps_bits.specs.Row.{bit_in}
use Rattle.mps_bits.proofs.Clearing.{bit_in_row}
use Rattle.mps_bits.proofs.words.clear_unless.Goals as goal

pub overflow_add-count : goal.overflow_add-count
overflow_add-count c =
    omega (arith, c.loop-at.invariant.few, c.clear_in_word-count.ensures.at_most, c.requires.small, c.loop-at-test.true)

pub loop-at-preserved : goal.loop-at-preserved
loop-at-preserved c =
    let at = c.loop-at.at in
    let others = c.args.others.now in
    let done = c.clear_in_word-count.ensures in
    let new = c.clear_in_word-count.new.words in
    let fits : get_or others at 0 < 2 ^ 64 = omega (arith, c.type_inv.others at) in
    record {
      from_on = omega arith;
      within = inl (omega arith);
      inside = λ i above below. elim (cases_lt i (64 * at)) [
        | inl before ↦ done.outside i (λ e. omega arith) ∙ c.loop-at.invariant.inside i above before
        | inr after ↦
            let index : 64 * at + (i - 64 * at) ≡ i = omega arith in
            let k = i - 64 * at in
            let near : k < 64 = omega arith in
            let turned : 1 - bit_at (bit_not w64 (get_or others at 0)) k ≡ bit_at (get_or others at 0) k =
            omega (arith, bit_at_not w64 (get_or others at 0) k fits near, bit_at-lt (get_or others at 0) k)
            in
            ap (λ (j : ℕ). bit_in new j) (sym index) ∙ done.inside k near
            ∙ ap (λ (j : ℕ). min (bit_in c.loop-at.words j) (1 - bit_at (bit_not w64 (get_or others at 0)) k)) index
            ∙ ap (λ (x : ℕ). min x (1 - bit_at (bit_not w64 (get_or others at 0)) k)) (c.loop-at.invariant.outside i (inr after))
            ∙ ap (λ (x : ℕ). min (bit_in c.args.words.now i) x)
            (turned ∙ sym (bit_in_row others at k near) ∙ ap (λ (j : ℕ). bit_in others j) index)
      ];
      outside = λ i out.
          done.outside i (λ e. elim out [ inl before ↦ omega arith | inr after ↦ omega arith ])
          ∙ c.loop-at.invariant.outside i (elim out [ inl before ↦ inl before | inr after ↦ inr (omega arith) ]);
      counted = λ n room. omega (arith, done.counted n (omega arith), c.loop-at.invariant.counted n room);
      few = omega (arith, done.at_most, c.loop-at.invariant.few);
    }
