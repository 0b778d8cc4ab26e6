use Rattle.std.proofs.Common.{◌≡◌, ◌-◌, ◌∙◌, ℕ, Bool, ap, sym, subst, drop, arith}
use Rattle.std.specs.List.{list_any}
use Rattle.std.proofs.lemmas.Grind.{common_steps}
use Rattle.mps_base.specs.Zones.{zones_meet}
use Rattle.mps_ld.specs.State.{EpochsState}
use Rattle.mps_ld.specs.Flips.{AreFlips}
use Rattle.mps_ld.proofs.Flips.{stale_all, stale_recent}
use Rattle.mps_ld.proofs.epochs.Epochs.meets_since.Goals as goal

pub returns-then-since-gt4 : goal.returns-then-since-gt4
returns-then-since-gt4 c = λ flips are.
    let P : EpochsState → Type 0 = λ e. AreFlips e flips in
    stale_all _ flips c.args.epoch c.args.zones (subst P (sym c.self.view_is) are)
    (omega (arith, c.if-since-gt4.true, c.saturating_sub-since.ensures))

pub returns : goal.returns
returns c = λ flips are.
    let P : EpochsState → Type 0 = λ e. AreFlips e flips in
    let since : c.saturating_sub-since.result ≡ c.self.inside.count - c.args.epoch = c.saturating_sub-since.ensures in
    let meets : ℕ → Bool = λ flipped. zones_meet c.args.zones flipped in
    let found : c.meets_any.result ≡ list_any meets (drop (4 - c.saturating_sub-since.result) c.self.inside.recent) =
    grind (arith, common_steps, c.meets_any.ensures) in
    found
    ∙ ap (λ (k : ℕ). list_any meets (drop (4 - k) c.self.inside.recent)) since
    ∙ stale_recent _ flips c.args.epoch c.args.zones (subst P (sym c.self.view_is) are) (omega (arith, c.if-since-gt4.false, since))
