use Rattle.std.proofs.Common.{◌≡◌, ◌∙◌, ap, sym}
use Rattle.std.specs.Prelude.{Some, None}
use Rattle.mps_names.specs.State.{NamesState, thing_named}
use Rattle.mps_names.specs.Inside.{found_in}
use Rattle.mps_names.proofs.Joined.{found_first, found_second}
use Rattle.mps_names.proofs.names.Names.get.Goals as goal

pub returns-in-Some : goal.returns-in-Some
returns-in-Some c =
    let found : found_in c.self.inside.things.entries c.args.name ≡ Some c.in-Some.thing.now = sym c.in-Some.ensures.value in
    sym (found_first c.self.inside.things.entries c.self.inside.tables.entries c.args.name c.in-Some.thing.now found)
    ∙ ap (λ (s : NamesState). thing_named s c.args.name) c.self.view_is

pub returns-in-None : goal.returns-in-None
returns-in-None c =
    let none : found_in c.self.inside.things.entries c.args.name ≡ None = sym c.in-None.ensures.value in
    c.get-in-None.ensures ∙ sym (found_second c.self.inside.things.entries c.self.inside.tables.entries c.args.name none)
    ∙ ap (λ (s : NamesState). thing_named s c.args.name) c.self.view_is
