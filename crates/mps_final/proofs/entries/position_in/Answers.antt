use Rattle.std.proofs.Common.{ℕ, ◌+◌, refl, ap, sym, ◌∙◌, arith}
use Rattle.std.specs.Prelude.{Some}
use Rattle.std.proofs.lemmas.List.Sums.{count_by_more_yes, count_by_more_no}
use Rattle.mps_final.specs.Inside.{is_live}
use Rattle.mps_final.proofs.LiveEntries.{nonzero_lives, zero_is_removed}
use Rattle.mps_final.proofs.Positions.{position_found, position_passed}
use Rattle.mps_final.proofs.entries.position_in.Goals.{then-entry-ne0, else-entry-ne0}
use Rattle.mps_final.proofs.entries.position_in.Goals as goal

pub returns-then-entry-at : goal.returns-then-entry-at
returns-then-entry-at c =
    ap (λ (k : ℕ). Some k) (sym c.loop-entry.invariant.before)
    ∙ sym (position_found c.args.entries.now c.loop-entry.entry-index c.args.at c.loop-entry-test.true c.if-entry-at.true c.requires
    c.loop-entry.invariant.none)

pub loop-entry-preserved : goal.loop-entry-preserved
loop-entry-preserved c =
    let xs = c.args.entries.now in
    let i = c.loop-entry.entry-index in
    record {
      before = elim c.if-entry-ne0.branch [
        | then-entry-ne0 w ↦
            omega (
              arith,
              w.position-is,
              c.loop-entry.invariant.before,
              count_by_more_yes is_live xs i 0 c.loop-entry-test.true (nonzero_lives _ w.if-entry-ne0.true),
            )
        | else-entry-ne0 w ↦
            omega (
              arith,
              w.position-is,
              c.loop-entry.invariant.before,
              count_by_more_no is_live xs i 0 c.loop-entry-test.true (zero_is_removed _ w.if-entry-ne0.false),
            )
      ];
      none = position_passed xs i (i + 1) c.args.at refl c.loop-entry-test.true c.if-entry-at.false c.loop-entry.invariant.none;
    }
