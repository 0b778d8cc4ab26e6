use Rattle.std.proofs.Common.{◌∙◌, refl, sym, ap, subst}
use Rattle.std.specs.Prelude.{Some, None}
use Rattle.mps_names.specs.Inside.{ChangesAt, NumbersState, TablesState, cache, found_in, label}
use Rattle.mps_names.proofs.ThreeTables.{Written, cache_found, cache_written, else_found, entries_of, kind_found, label_found, label_written, no_less, past_a_cache, past_a_label, transform_written}
use Rattle.mps_names.proofs.tables.Tables.drop_name.Goals as goal

-- ---- a label

label_dropped : (c : goal.In-Some)
    → Written (entries_of c.self.inside.labels c.self.inside.caches c.self.inside.transforms) c.drop_name.new.self c.self.inside.caches
    c.self.inside.transforms c.args.name None
label_dropped c =
    label_written c.self.inside.labels c.self.inside.caches c.self.inside.transforms c.self.invariant c.args.name c.drop_name.new.self None
    c.drop_name.ensures.entries (no_less c.drop_name.new.self.capacity c.self.inside.labels.capacity c.drop_name.ensures.capacity)
    (past_a_label c.self.inside.labels c.self.inside.caches c.self.inside.transforms c.self.invariant c.args.name c.in-Some.number
    (sym c.drop_name.ensures.value ∙ c.in-Some.is))

pub invariant_of-self : goal.invariant_of-self
invariant_of-self c = (label_dropped c).are

pub returns-in-Some-clause-value : goal.returns-in-Some-clause-value
returns-in-Some-clause-value c =
    sym (label_found c.self.inside.labels c.self.inside.caches c.self.inside.transforms c.self.invariant c.args.name c.in-Some.number
    (sym c.drop_name.ensures.value ∙ c.in-Some.is)) ∙ ap (λ (s : TablesState). found_in s.entries c.args.name) c.self.view_is

pub returns-in-Some-clause-entries : goal.returns-in-Some-clause-entries
returns-in-Some-clause-entries c =
    let now = entries_of c.drop_name.new.self c.self.inside.caches c.self.inside.transforms in
    let Q : TablesState → Type 0 = λ s. ChangesAt s.entries now c.args.name None in
    subst Q c.self.view_is (label_dropped c).changed

-- ---- a cache

cache_dropped : (c : goal.In-Some-drop_name)
    → Written (entries_of c.self.inside.labels c.self.inside.caches c.self.inside.transforms) c.drop_name.new.self c.drop_name-2.new.self
    c.self.inside.transforms c.args.name None
cache_dropped c =
    let l = c.self.inside.labels in
    let q = c.self.inside.caches in
    let x = c.self.inside.transforms in
    let P : NumbersState → Type 0 = λ m. Written (entries_of l q x) m c.drop_name-2.new.self x c.args.name None in
    subst P (sym c.in_default.ensures.unchanged)
    (cache_written l q x c.self.invariant c.args.name c.drop_name-2.new.self None c.drop_name-2.ensures.entries
    (no_less c.drop_name-2.new.self.capacity q.capacity c.drop_name-2.ensures.capacity)
    (kind_found label l.entries c.args.name None (sym c.drop_name.ensures.value ∙ c.in_default.is))
    (past_a_cache l q x c.self.invariant c.args.name c.in-Some-drop_name.number
    (sym c.drop_name-2.ensures.value ∙ c.in-Some-drop_name.is)))

pub invariant_of-self-in-Some-drop_name : goal.invariant_of-self-in-Some-drop_name
invariant_of-self-in-Some-drop_name c = (cache_dropped c).are

pub returns-in-Some-drop_name-clause-value : goal.returns-in-Some-drop_name-clause-value
returns-in-Some-drop_name-clause-value c =
    sym (cache_found c.self.inside.labels c.self.inside.caches c.self.inside.transforms c.self.invariant c.args.name
    (sym c.drop_name.ensures.value ∙ c.in_default.is) c.in-Some-drop_name.number
    (sym c.drop_name-2.ensures.value ∙ c.in-Some-drop_name.is))
    ∙ ap (λ (s : TablesState). found_in s.entries c.args.name) c.self.view_is

pub returns-in-Some-drop_name-clause-entries : goal.returns-in-Some-drop_name-clause-entries
returns-in-Some-drop_name-clause-entries c =
    let now = entries_of c.drop_name.new.self c.drop_name-2.new.self c.self.inside.transforms in
    let Q : TablesState → Type 0 = λ s. ChangesAt s.entries now c.args.name None in
    subst Q c.self.view_is (cache_dropped c).changed

-- ---- a transform

transform_dropped : (c : goal.In-Some-drop_name-2)
    → Written (entries_of c.self.inside.labels c.self.inside.caches c.self.inside.transforms) c.drop_name.new.self c.drop_name-2.new.self
    c.drop_name-3.new.self c.args.name None
transform_dropped c =
    let l = c.self.inside.labels in
    let q = c.self.inside.caches in
    let x = c.self.inside.transforms in
    let P : NumbersState → Type 0 = λ m. Written (entries_of l q x) m c.drop_name-2.new.self c.drop_name-3.new.self c.args.name None in
    let Q : NumbersState → Type 0 = λ m. Written (entries_of l q x) l m c.drop_name-3.new.self c.args.name None in
    subst P (sym c.in_default.ensures.unchanged)
    (subst Q (sym c.in_default-drop_name.ensures.unchanged)
    (transform_written l q x c.self.invariant c.args.name c.drop_name-3.new.self None c.drop_name-3.ensures.entries
    (no_less c.drop_name-3.new.self.capacity x.capacity c.drop_name-3.ensures.capacity)
    (kind_found label l.entries c.args.name None (sym c.drop_name.ensures.value ∙ c.in_default.is))
    (kind_found cache q.entries c.args.name None (sym c.drop_name-2.ensures.value ∙ c.in_default-drop_name.is))))

pub invariant_of-self-2 : goal.invariant_of-self-2
invariant_of-self-2 c = (transform_dropped c).are

pub returns-clause-value : goal.returns-clause-value
returns-clause-value c =
    sym (else_found c.self.inside.labels c.self.inside.caches c.self.inside.transforms c.self.invariant c.args.name
    (sym c.drop_name.ensures.value ∙ c.in_default.is) (Some c.in-Some-drop_name-2.number)
    (sym c.drop_name-2.ensures.value ∙ c.in_default-drop_name.is) (sym c.drop_name-3.ensures.value ∙ c.in-Some-drop_name-2.is))
    ∙ ap (λ (s : TablesState). found_in s.entries c.args.name) c.self.view_is

pub returns-clause-entries : goal.returns-clause-entries
returns-clause-entries c =
    let now = entries_of c.drop_name.new.self c.drop_name-2.new.self c.drop_name-3.new.self in
    let R : TablesState → Type 0 = λ s. ChangesAt s.entries now c.args.name None in
    subst R c.self.view_is (transform_dropped c).changed

-- ---- no such name

pub returns-in_default-drop_name-2-clause-value : goal.returns-in_default-drop_name-2-clause-value
returns-in_default-drop_name-2-clause-value c =
    sym (else_found c.self.inside.labels c.self.inside.caches c.self.inside.transforms c.self.invariant c.args.name
    (sym c.drop_name.ensures.value ∙ c.in_default.is) None (sym c.drop_name-2.ensures.value ∙ c.in_default-drop_name.is)
    (sym c.drop_name-3.ensures.value ∙ c.in_default-drop_name-2.is))
    ∙ ap (λ (s : TablesState). found_in s.entries c.args.name) c.self.view_is

pub returns-in_default-drop_name-2-clause-entries : goal.returns-in_default-drop_name-2-clause-entries
returns-in_default-drop_name-2-clause-entries c =
    let l = c.self.inside.labels in
    let q = c.self.inside.caches in
    let x = c.self.inside.transforms in
    let P : NumbersState → Type 0 =
    λ m. ChangesAt c.args.self.now.entries (entries_of m c.drop_name-2.new.self c.drop_name-3.new.self) c.args.name None
    in
    let Q : NumbersState → Type 0 = λ m. ChangesAt c.args.self.now.entries (entries_of l m c.drop_name-3.new.self) c.args.name None in
    let R : NumbersState → Type 0 = λ m. ChangesAt c.args.self.now.entries (entries_of l q m) c.args.name None in
    let S : TablesState → Type 0 = λ s. ChangesAt c.args.self.now.entries s.entries c.args.name None in
    subst P (sym c.in_default.ensures.unchanged)
    (subst Q (sym c.in_default-drop_name.ensures.unchanged)
    (subst R (sym c.in_default-drop_name-2.ensures.unchanged)
    (subst S (sym c.self.view_is)
    (record { named = sym (returns-in_default-drop_name-2-clause-value c); others = λ other differs. refl }))))
