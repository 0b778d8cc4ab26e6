use Rattle.std.proofs.Common.{◌≡◌, ◌∙◌, not, sym, ap}
use Rattle.std.specs.Prelude.{Some}
use Rattle.std.specs.List.{position}
use Rattle.mps_xform.specs.State.{TransformsState, is_live}
use Rattle.mps_xform.proofs.Pairs.{free_is_not_live, none_of_free}
use Rattle.mps_xform.proofs.transforms.Transforms.make.Goals as goal

pub returns-clause-was_free : goal.returns-clause-was_free
returns-clause-was_free c =
    let free : position not c.self.inside.live ≡ Some c.in-Some.number = cc in
    ap (λ (t : TransformsState). is_live t c.in-Some.number) (sym c.self.view_is)
    ∙ free_is_not_live c.self.inside.live c.in-Some.number free

pub returns-clause-empty : goal.returns-clause-empty
returns-clause-empty c =
    let free : position not c.self.inside.live ≡ Some c.in-Some.number = cc in
    none_of_free c.self.inside.live c.self.inside.pairs.items c.in-Some.number c.self.invariant.known
    (free_is_not_live c.self.inside.live c.in-Some.number free)
