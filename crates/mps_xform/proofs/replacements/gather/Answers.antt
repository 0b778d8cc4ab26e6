use Rattle.std.proofs.Common.{ℕ, ◌+◌, ◌∙◌, List, Vec, Global, sym, ap, subst, arith}
use Rattle.std.specs.Prelude.{vec_capacity}
use Rattle.std.proofs.lemmas.Bool.{eq-eqb, ne_eqb}
use Rattle.mps_xform.specs.declared.replacements.Ranked.{Ranked}
use Rattle.mps_xform.specs.State.{pair_in}
use Rattle.mps_xform.proofs.Filled.{AreGathered, another_passed, one_more_gathered, none_gathered, all_gathered}
use Rattle.mps_xform.proofs.replacements.gather.Goals as goal
use Rattle.mps_xform.proofs.replacements.gather.Goals.{then-pair-transform+in-Ok, else-pair-transform}

pub loop-rank-init : goal.loop-rank-init
loop-rank-init c = record {
  room = omega arith;
  gathered = none_gathered c.args.pairs.now c.args.transform c.args.ranked.now.items c.args.marks.now c.requires.none c.requires.whole;
}

pub loop-rank-preserved : goal.loop-rank-preserved
loop-rank-preserved c =
    let pairs = c.args.pairs.now in
    let rank = c.loop-rank.rank in
    let before = c.loop-rank.invariant in
    let within = c.loop-rank-test.true in
    let d = pair_in 0 0 0 in
    let P : Vec Ranked Global → Type 0 = λ v. AreGathered pairs c.args.transform (rank + 1) v.items c.if-pair-transform.marks in
    let Q : List ℕ → Type 0 = λ bs. AreGathered pairs c.args.transform (rank + 1) c.loop-rank.ranked.items bs in
    elim c.if-pair-transform.branch [
      | then-pair-transform+in-Ok w ↦
          let R : List ℕ → Type 0 =
          λ bs. AreGathered pairs c.args.transform (rank + 1) c.if-pair-transform.ranked.items bs in
          record {
            room = omega (arith, before.room, w.in-Ok.ensures.capacity, ap (λ v. vec_capacity v) w.ranked-is);
            gathered = subst R (sym w.marks-is)
                (one_more_gathered pairs c.args.transform rank d c.loop-rank.ranked.items c.loop-rank.marks within before.gathered
                _ _ (eq-eqb _ _ w.if-pair-transform.true) (ap (λ v. v.items) w.ranked-is ∙ w.in-Ok.ensures.items)
                w.mark.ensures.whole w.mark.ensures.marked w.mark.ensures.unchanged);
          }
      | else-pair-transform w ↦ record {
        room = omega (arith, before.room, ap (λ v. vec_capacity v) w.ranked-is);
        gathered = subst P (sym w.ranked-is) (subst Q (sym w.marks-is)
            (another_passed pairs c.args.transform rank d c.loop-rank.ranked.items c.loop-rank.marks within
            before.gathered (ne_eqb _ _ w.if-pair-transform.false)));
      }
    ]

pub returns-clause-pairs : goal.returns-clause-pairs
returns-clause-pairs c =
    all_gathered c.args.pairs.now c.args.transform c.loop-rank.rank c.loop-rank.ranked.items c.loop-rank.marks c.loop-rank-test.false
    c.loop-rank.invariant.gathered
