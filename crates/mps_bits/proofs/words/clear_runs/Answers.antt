use Rattle.std.proofs.Common.{ℕ, ◌+◌, ◌-◌, ◌*◌, ◌<◌, ◌≡◌, false, refl, sym, ap, ◌∙◌, inl, inr, arith}
use Rattle.std.specs.Prelude.{if◌then◌else◌}
use Rattle.std.specs.Int.{bit_at}
use Rattle.std.proofs.lemmas.Bool.{cases_lt}
use Rattle.std.proofs.lemmas.Nat.Bits.{bit_at-lt}
use Rattle.mps_bits.specs.Row.{bit_in}
use Rattle.mps_bits.specs.OpenRuns.{goes_on, in_run, is_one_in, is_one_unless}
use Rattle.mps_bits.proofs.Row.{bit_in-lt}
use Rattle.mps_bits.proofs.Adding.{goes_on_first}
use Rattle.mps_bits.proofs.Clearing.{cleared_bit}
use Rattle.mps_bits.proofs.RunsOfWords.{goes_on_here, in_run_here, apart_here}
use Rattle.mps_bits.proofs.words.clear_runs.Goals as goal

pub loop-at-init : goal.loop-at-init
loop-at-init c =
    let none : 64 * (c.args.from - c.args.from) ≡ 0 = omega arith in
    let b = is_one_unless c.args.begins.now c.args.others.now (64 * c.args.from) in
    let e = is_one_in c.args.ends.now (64 * c.args.from) in
    record {
      from_on = omega arith;
      upto = c.requires.ordered;
      inside = λ n below. absurd (omega arith);
      outside = λ i out. refl;
      counted = λ n room. omega arith;
      few = omega arith;
      going = sym (ap (λ (k : ℕ). goes_on false b e k) none ∙ goes_on_first false b e);
    }

pub runs_between-runs-requires : goal.runs_between-runs-requires
runs_between-runs-requires c = record {
  apart =
      apart_here c.args.begins.now c.args.others.now c.args.ends.now c.args.from c.loop-at.at c.word_unless.result c.loop-at.go_on
      c.loop-at.invariant.from_on
      c.loop-at.invariant.going
      c.word_unless.ensures
      c.args.to
      c.loop-at-test.true
      c.requires.apart;
}

pub overflow_add-count : goal.overflow_add-count
overflow_add-count c =
    omega (arith, c.loop-at.invariant.few, c.clear_in_word-count.ensures.at_most, c.requires.small, c.loop-at-test.true)

pub loop-at-preserved : goal.loop-at-preserved
loop-at-preserved c =
    let from = c.args.from in
    let at = c.loop-at.at in
    let words = c.loop-at.words in
    let new = c.clear_in_word-count.new.words in
    let done = c.clear_in_word-count.ensures in
    let mask = c.runs_between-runs.result.inside in
    let b = is_one_unless c.args.begins.now c.args.others.now (64 * from) in
    let e = is_one_in c.args.ends.now (64 * from) in
    let ordered = c.loop-at.invariant.from_on in
    record {
      from_on = omega (arith, ordered);
      upto = omega arith;
      inside = λ n below. elim (cases_lt n (64 * (at - from))) [
        | inl before ↦ done.outside (64 * from + n) (λ e. omega (arith, ordered)) ∙ c.loop-at.invariant.inside n before
        | inr after ↦
            let i = n - 64 * (at - from) in
            let near : i < 64 = omega (arith, ordered) in
            let place : 64 * at + i ≡ 64 * from + n = omega (arith, ordered) in
            let part : 64 * (at - from) + i ≡ n = omega arith in
            let tested =
            c.runs_between-runs.ensures.inside i near
            ∙ in_run_here c.args.begins.now c.args.others.now c.args.ends.now from at c.word_unless.result c.loop-at.go_on ordered
            c.loop-at.invariant.going c.word_unless.ensures i near
            ∙ ap (λ (k : ℕ). in_run false b e k) part
            in
            ap (λ (k : ℕ). bit_in new k) (sym place) ∙ done.inside i near
            ∙ cleared_bit (bit_in words (64 * at + i)) (bit_at mask i) (in_run false b e n) (bit_in-lt words (64 * at + i))
            (bit_at-lt mask i)
            tested
            ∙ ap (λ (k : ℕ). if in_run false b e n then 0 else bit_in words k) place
            ∙ ap (λ (x : ℕ). if in_run false b e n then 0 else x)
            (c.loop-at.invariant.outside (64 * from + n) (inr (omega (arith, ordered))))
      ];
      outside = λ i out.
          done.outside i (λ e. elim out [ inl before ↦ omega (arith, ordered) | inr after ↦ omega arith ])
          ∙ c.loop-at.invariant.outside i (elim out [ inl before ↦ inl before | inr after ↦ inr (omega arith) ]);
      counted = λ n room. omega (arith, done.counted n (omega arith), c.loop-at.invariant.counted n room);
      few = omega (arith, done.at_most, c.loop-at.invariant.few, ordered);
      going =
          let next : 64 * (at - from) + 64 ≡ 64 * (at + 1 - from) = omega (arith, ordered) in
          c.runs_between-runs.ensures.rest
          ∙ sym (goes_on_here c.args.begins.now c.args.others.now c.args.ends.now from at c.word_unless.result c.loop-at.go_on ordered
          c.loop-at.invariant.going c.word_unless.ensures 64 (omega arith))
          ∙ ap (λ (k : ℕ). goes_on false b e k) next;
    }
