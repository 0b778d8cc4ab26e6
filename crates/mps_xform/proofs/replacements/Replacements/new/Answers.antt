use Rattle.std.proofs.Common.{arith}
use Rattle.mps_xform.proofs.Filled.{none_sound}
use Rattle.mps_xform.proofs.replacements.Replacements.new.Goals as goal

pub invariant_of-result : goal.invariant_of-result
invariant_of-result c =
    none_sound c.in_ok-with_capacity.field-0.items _ _ _ _ c.in_ok-with_capacity.ensures.items
    (omega (arith, c.in_ok-with_capacity.ensures.capacity)) (omega (arith, c.in_ok-with_capacity-2.ensures.capacity))
