use Rattle.std.proofs.Common.{◌≡◌, ◌&&◌, ◌==◌, ◌∙◌, List, ap}
use Rattle.std.specs.Prelude.{nat_eq}
use Rattle.std.specs.List.{find}
use Rattle.std.specs.Map.{lookup}
use Rattle.mps_base.specs.Address.{Address}
use Rattle.mps_xform.specs.declared.transforms.Pair.{Pair}
use Rattle.mps_xform.specs.State.{TransformsState, is_of, pair_of}
use Rattle.mps_xform.proofs.Blocked.{blocked_same}
use Rattle.mps_xform.proofs.transforms.Transforms.blocked.Goals as goal

pub returns-clause-value : goal.returns-clause-value
returns-clause-value c =
    let t = c.args.self.now in
    let same : (old : Address) → lookup (nat_eq old) c.fill.new.self ≡ pair_of t c.args.transform old =
    λ old. c.fill.ensures old
    ∙ ap (λ (ps : List Pair). find (λ q. is_of c.args.transform q && (q.old.0 == old)) ps)
    (c.deref.ensures.value ∙ ap (λ (u : TransformsState). u.pairs) c.self.view_is) in
    c.is_blocked.ensures
    ∙ blocked_same (λ old. lookup (nat_eq old) c.fill.new.self) (pair_of t c.args.transform) same c.args.segs.now.blocks
    c.args.roots.now.areas
