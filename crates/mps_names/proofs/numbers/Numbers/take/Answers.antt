use Rattle.std.proofs.Common.{◌≡◌, ◌∙◌, ◌++◌, ◌∷◌, [], List, ℕ, sym, ap, subst}
use Rattle.std.specs.Prelude.{Some, None}
use Rattle.mps_base.specs.declared.names.Name.{Name}
use Rattle.mps_names.specs.Inside.{AreOnce, ChangesAt, NumbersState, found_in}
use Rattle.mps_names.proofs.Once.{changed_with, once_with}
use Rattle.mps_names.proofs.numbers.Numbers.take.Goals as goal

pub invariant_of-self : goal.invariant_of-self
invariant_of-self c =
    let pushed : c.push.new.self.items ≡ c.self.inside.entries.items ++ (c.args.name, c.args.number) ∷ [] = c.in-Ok.ensures.items in
    let free : found_in c.self.inside.entries.items c.args.name ≡ None =
    ap (λ (s : NumbersState). found_in s.entries c.args.name) c.self.view_is ∙ c.requires.free
    in
    subst AreOnce (sym pushed) (once_with c.args.name c.self.inside.entries.items c.args.number c.self.invariant free)

pub returns-clause-entries : goal.returns-clause-entries
returns-clause-entries c =
    let pushed : c.push.new.self.items ≡ c.self.inside.entries.items ++ (c.args.name, c.args.number) ∷ [] = c.in-Ok.ensures.items in
    let free : found_in c.self.inside.entries.items c.args.name ≡ None =
    ap (λ (s : NumbersState). found_in s.entries c.args.name) c.self.view_is ∙ c.requires.free
    in
    let P : List (Name × ℕ) → Type 0 = λ es. ChangesAt c.self.inside.entries.items es c.args.name (Some c.args.number) in
    let Q : NumbersState → Type 0 = λ s. ChangesAt s.entries c.push.new.self.items c.args.name (Some c.args.number) in
    subst Q c.self.view_is (subst P (sym pushed) (changed_with c.args.name c.self.inside.entries.items c.args.number free))
