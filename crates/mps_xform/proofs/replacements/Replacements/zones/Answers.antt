use Rattle.std.proofs.Common.{ℕ, List, subst, None, ◌≡◌}
use Rattle.std.specs.Prelude.{nat_eq}
use Rattle.std.specs.Map.{lookup}
use Rattle.mps_xform.specs.declared.transforms.Pair.{Pair}
use Rattle.mps_xform.proofs.Zoned.{none_outside}
use Rattle.mps_xform.proofs.replacements.Replacements.zones.Goals as goal

pub returns : goal.returns
returns c = λ old outside.
    let P : List (ℕ × Pair) → Type 0 = λ entries. lookup (nat_eq old) entries ≡ None in
    subst P c.self.view_is
    (none_outside c.self.inside.pairs.items c.self.inside.zones.0 old c.self.invariant.zoned outside)
