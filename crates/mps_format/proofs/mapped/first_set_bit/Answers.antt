-- The first bit of the mask from a place on is the lowest 1 of what is left after a shift.
use Rattle.std.proofs.Common.{◌/◌, ◌^◌, ◌<◌, arith}
use Rattle.std.proofs.lemmas.Nat.{shr_le}
use Rattle.mps_format.proofs.Masks.{clear_past_32, clear_from, first_from}
use Rattle.mps_format.proofs.mapped.first_set_bit.Goals as goal

pub returns-then-from-ge32-clause-none : goal.returns-then-from-ge32-clause-none
returns-then-from-ge32-clause-none c = λ j le. clear_past_32 c.args.mask c.args.from j (omega arith) (omega arith) le

pub returns-then-rest-eq0-clause-none : goal.returns-then-rest-eq0-clause-none
returns-then-rest-eq0-clause-none c = λ j le. clear_from c.args.mask c.args.from j c.if-rest-eq0.true le

pub returns-else-rest-eq0-clause-sound : goal.returns-else-rest-eq0-clause-sound
returns-else-rest-eq0-clause-sound c =
    let fits : c.args.mask / 2 ^ c.args.from < 2 ^ 32 = omega (arith, shr_le c.args.mask c.args.from) in
    let first = first_from c.args.mask c.args.from (omega arith) fits in
    (first.not_before, first.is_set, first.clear_between)
