use Rattle.std.proofs.Common.{◌≤◌, List, ℕ, length, arith, subst}
use Rattle.std.proofs.lemmas.List.{length-drop, take_rest}
use Rattle.mps_event.specs.KindSet.{bits_of}
use Rattle.mps_cnv.specs.Skipping.{BeginsWithUnwanted}
use Rattle.mps_cnv.proofs.Skipping.{one_skipped}
use Rattle.mps_cnv.proofs.unwanted.unwanted_in_front.Goals as goal

pub loop-count-preserved : goal.loop-count-preserved
loop-count-preserved c =
    let rest = take_rest c.args.bytes.now c.loop-count.size in
    let most = c.in-Some.ensures.at_most in
    let within = subst (λ (x : List ℕ). c.in-Some.more ≤ length x) rest c.in-Some.ensures.within in
    record {
      skipped = one_skipped c.args.version (bits_of c.args.kinds) c.loop-count.count c.loop-count.size c.in-Some.more c.args.bytes.now
          c.loop-count.invariant.skipped
          (subst (λ (x : List ℕ). BeginsWithUnwanted c.args.version (bits_of c.args.kinds) c.in-Some.more x) rest c.in-Some.ensures.sound);
      at_most = omega (arith, most, c.loop-count.invariant.at_most);
      within = omega (arith, within, c.loop-count.invariant.within, length-drop c.loop-count.size c.args.bytes.now);
    }
