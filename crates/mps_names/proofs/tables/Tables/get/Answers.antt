use Rattle.std.proofs.Common.{◌∙◌, sym, ap}
use Rattle.std.specs.Prelude.{Some, None}
use Rattle.mps_names.specs.Inside.{TablesState, found_in}
use Rattle.mps_names.proofs.ThreeTables.{cache_found, else_found, label_found}
use Rattle.mps_names.proofs.tables.Tables.get.Goals as goal

pub returns-in-Some : goal.returns-in-Some
returns-in-Some c =
    sym (label_found c.self.inside.labels c.self.inside.caches c.self.inside.transforms c.self.invariant c.args.name c.in-Some.number
    (sym c.get.ensures ∙ c.in-Some.is)) ∙ ap (λ (s : TablesState). found_in s.entries c.args.name) c.self.view_is

pub returns-in-Some-get : goal.returns-in-Some-get
returns-in-Some-get c =
    sym (cache_found c.self.inside.labels c.self.inside.caches c.self.inside.transforms c.self.invariant c.args.name
    (sym c.get.ensures ∙ c.in_default.is) c.in-Some-get.number (sym c.get-2.ensures ∙ c.in-Some-get.is))
    ∙ ap (λ (s : TablesState). found_in s.entries c.args.name) c.self.view_is

pub returns-in_default-get-2 : goal.returns-in_default-get-2
returns-in_default-get-2 c =
    sym (else_found c.self.inside.labels c.self.inside.caches c.self.inside.transforms c.self.invariant c.args.name
    (sym c.get.ensures ∙ c.in_default.is) None (sym c.get-2.ensures ∙ c.in_default-get.is) (sym c.get-3.ensures ∙ c.in_default-get-2.is))
    ∙ ap (λ (s : TablesState). found_in s.entries c.args.name) c.self.view_is

pub returns : goal.returns
returns c =
    sym (else_found c.self.inside.labels c.self.inside.caches c.self.inside.transforms c.self.invariant c.args.name
    (sym c.get.ensures ∙ c.in_default.is) (Some c.in-Some-get-2.number) (sym c.get-2.ensures ∙ c.in_default-get.is)
    (sym c.get-3.ensures ∙ c.in-Some-get-2.is))
    ∙ ap (λ (s : TablesState). found_in s.entries c.args.name) c.self.view_is
