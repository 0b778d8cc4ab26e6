use Rattle.std.proofs.Common.{◌≡◌, ◌∙◌, List, ℕ, get_or, refl, sym, ap, subst}
use Rattle.std.specs.Prelude.{Some, None}
use Rattle.std.specs.List.{position}
use Rattle.std.specs.Map.{remove_entry}
use Rattle.mps_base.specs.declared.names.Name.{Name}
use Rattle.mps_base.specs.Name.{same_name}
use Rattle.mps_names.specs.Inside.{AreOnce, ChangesAt, NumbersState, found_in}
use Rattle.mps_names.proofs.Once.{at_position, changed_without, no_position, once_without}
use Rattle.mps_names.proofs.numbers.Numbers.drop_name.Goals as goal

pub returns-in_default-clause-value : goal.returns-in_default-clause-value
returns-in_default-clause-value c =
    let found : position (λ e. same_name c.args.name e.0) c.self.inside.entries.items ≡ None =
    cc (c.index_of.ensures, c.deref.ensures.value, c.in_default.is)
    in
    sym ((no_position (same_name c.args.name) c.self.inside.entries.items found).1)
    ∙ ap (λ (s : NumbersState). found_in s.entries c.args.name) c.self.view_is

pub returns-in_default-clause-entries : goal.returns-in_default-clause-entries
returns-in_default-clause-entries c =
    let found : position (λ e. same_name c.args.name e.0) c.self.inside.entries.items ≡ None =
    cc (c.index_of.ensures, c.deref.ensures.value, c.in_default.is)
    in
    let none = (no_position (same_name c.args.name) c.self.inside.entries.items found).1 in
    record {
      named = sym (ap (λ (s : NumbersState). found_in s.entries c.args.name) c.self.view_is) ∙ none;
      others = λ other differs. refl;
    }

-- ---- it was there

found : (c : goal.After-remove) → position (λ e. same_name c.args.name e.0) c.self.inside.entries.items ≡ Some c.in-Some.index
found c = cc (c.index_of.ensures, c.deref.ensures.value, c.in-Some.is)

removed : (c : goal.After-remove) → c.remove.new.self.items ≡ remove_entry (same_name c.args.name) c.self.inside.entries.items
removed c =
    c.remove.ensures.items
    ∙ (at_position (same_name c.args.name) c.self.inside.entries.items c.in-Some.index c.remove.result (found c)).0

value : (c : goal.After-remove) → found_in c.self.inside.entries.items c.args.name ≡ Some c.remove.result.1
value c =
    let there : c.remove.result ≡ get_or c.self.inside.entries.items c.in-Some.index c.remove.result = c.remove.ensures.value in
    (at_position (same_name c.args.name) c.self.inside.entries.items c.in-Some.index c.remove.result (found c)).1
    ∙ sym (ap (λ e. Some e.1) there)

pub invariant_of-self : goal.invariant_of-self
invariant_of-self c =
    subst AreOnce (sym (removed c)) (once_without c.args.name c.self.inside.entries.items c.self.invariant)

pub returns-clause-value : goal.returns-clause-value
returns-clause-value c = sym (value c) ∙ ap (λ (s : NumbersState). found_in s.entries c.args.name) c.self.view_is

pub returns-clause-entries : goal.returns-clause-entries
returns-clause-entries c =
    let P : List (Name × ℕ) → Type 0 = λ es. ChangesAt c.self.inside.entries.items es c.args.name None in
    let Q : NumbersState → Type 0 = λ s. ChangesAt s.entries c.remove.new.self.items c.args.name None in
    subst Q c.self.view_is (subst P (sym (removed c)) (changed_without c.args.name c.self.inside.entries.items c.self.invariant))
