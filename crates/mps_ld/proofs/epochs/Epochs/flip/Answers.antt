use Rattle.std.proofs.Common.{List, ℕ, ◌+◌, ◌++◌, ◌∷◌, [], bit_or, sym, subst}
use Rattle.mps_ld.specs.State.{EpochsState}
use Rattle.mps_ld.specs.Flips.{AreFlips}
use Rattle.mps_ld.proofs.Flips.{flips_after, one_shifted}
use Rattle.mps_ld.proofs.epochs.Epochs.flip.Goals as goal

pub returns-clause-flips : goal.returns-clause-flips
returns-clause-flips c = λ flips are.
    let z = c.args.zones.0 in
    let old = c.self.inside in
    let P : EpochsState → Type 0 = λ e. AreFlips e flips in
    let Q : List ℕ → Type 0 =
    λ recent. AreFlips (record { count = old.count + 1; recent = recent; all = bit_or old.all z }) (flips ++ z ∷ [])
    in
    subst Q (sym (one_shifted old.recent z c.self.told)) (flips_after _ flips z (subst P (sym c.self.view_is) are))
