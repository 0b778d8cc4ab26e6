use Rattle.std.proofs.Common.{◌≡◌, ◌∙◌, get_or, sym, ap}
use Rattle.std.specs.Prelude.{Some, None}
use Rattle.std.specs.List.{position}
use Rattle.mps_base.specs.Name.{same_name}
use Rattle.mps_names.specs.Inside.{NumbersState, found_in}
use Rattle.mps_names.proofs.Once.{at_position, no_position}
use Rattle.mps_names.proofs.numbers.Numbers.get.Goals as goal

pub returns-in_default : goal.returns-in_default
returns-in_default c =
    let found : position (λ e. same_name c.args.name e.0) c.self.inside.entries.items ≡ None =
    cc (c.index_of.ensures, c.deref.ensures.value, c.in_default.is)
    in
    sym ((no_position (same_name c.args.name) c.self.inside.entries.items found).1)
    ∙ ap (λ (s : NumbersState). found_in s.entries c.args.name) c.self.view_is

pub returns : goal.returns
returns c =
    let found : position (λ e. same_name c.args.name e.0) c.self.inside.entries.items ≡ Some c.in-Some.index =
    cc (c.index_of.ensures, c.deref.ensures.value, c.in-Some.is)
    in
    let at = at_position (same_name c.args.name) c.self.inside.entries.items c.in-Some.index c.index.result.now found in
    let there : c.index.result.now ≡ get_or c.self.inside.entries.items c.in-Some.index c.index.result.now = cc (c.index.ensures) in
    ap (λ e. Some e.1) there ∙ sym at.1 ∙ ap (λ (s : NumbersState). found_in s.entries c.args.name) c.self.view_is
