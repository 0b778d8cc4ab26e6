use Rattle.std.proofs.Common.{ℕ, ◌≡◌, ◌<◌, false}
use Rattle.std.specs.Prelude.{nat_eq}
use Rattle.std.specs.Map.{lookup}
use Rattle.std.specs.Option.{option_map_or}
use Rattle.mps_root.specs.State.{kept}
use Rattle.mps_xform.specs.Blocking.{any_lies_in_old}
use Rattle.mps_xform.proofs.blocking.is_blocked.Given as goal

-- no word of the areas before this one lies in an old block
abbrev pub invariant-loop-key : goal.invariant-loop-key
invariant-loop-key l =
    (key : ℕ) → key < l.key
    → option_map_or (λ words. any_lies_in_old (λ old. lookup (nat_eq old) l.replacements) l.segs.blocks words)
    (kept l.roots.areas key) false
    ≡ false
