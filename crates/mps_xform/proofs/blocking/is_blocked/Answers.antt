use Rattle.std.proofs.Common.{sym, arith}
use Rattle.std.specs.Prelude.{nat_eq, false}
use Rattle.std.specs.Map.{lookup}
use Rattle.std.specs.Option.{option_map_or}
use Rattle.mps_xform.specs.Blocking.{any_lies_in_old}
use Rattle.mps_xform.proofs.Blocked.{none_passes}
use Rattle.mps_xform.proofs.blocking.is_blocked.Goals as goal

pub returns : goal.returns
returns c =
    sym (none_passes
    (λ area. option_map_or (λ words. any_lies_in_old (λ old. lookup (nat_eq old) c.args.replacements.now) c.args.segs.now.blocks words) area
    false)
    c.args.roots.now.areas
    (λ key below. c.loop-key.invariant key (omega (arith, below, c.area_keys-key-end.ensures, c.loop-key-test.false))))
