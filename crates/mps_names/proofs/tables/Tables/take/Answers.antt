use Rattle.std.proofs.Common.{◌≡◌, ◌∙◌, sym, ap, subst}
use Rattle.std.specs.Prelude.{Some, None}
use Rattle.mps_names.specs.declared.names.Thing.{Thing}
use Rattle.mps_names.specs.Inside.{ChangesAt, TablesState, cache, found_in, label, transform}
use Rattle.mps_names.proofs.ThreeTables.{Written, cache_written, entries_of, kind_found, label_written, no_cache, no_label, no_transform, not_past, transform_written}
use Rattle.mps_names.proofs.tables.Tables.take.Goals as goal

-- ---- a label

label_free : (c : goal.After-take)
    → found_in (entries_of c.self.inside.labels c.self.inside.caches c.self.inside.transforms) c.args.name ≡ None
label_free c = ap (λ (s : TablesState). found_in s.entries c.args.name) c.self.view_is ∙ c.requires.free

label_taken : (c : goal.After-take)
    → Written (entries_of c.self.inside.labels c.self.inside.caches c.self.inside.transforms) c.take.new.self c.self.inside.caches
    c.self.inside.transforms c.args.name (Some (label c.in-Label.number))
label_taken c =
    label_written c.self.inside.labels c.self.inside.caches c.self.inside.transforms c.self.invariant c.args.name c.take.new.self
    (Some c.in-Label.number) c.take.ensures.entries c.take.ensures.capacity
    (not_past c.self.inside.labels c.self.inside.caches c.self.inside.transforms c.self.invariant c.args.name (label_free c))

pub take-requires-clause-free : goal.take-requires-clause-free
take-requires-clause-free c =
    no_label c.self.inside.labels c.self.inside.caches c.self.inside.transforms c.self.invariant c.args.name
    (ap (λ (s : TablesState). found_in s.entries c.args.name) c.self.view_is ∙ c.requires.free)

pub invariant_of-self : goal.invariant_of-self
invariant_of-self c = (label_taken c).are

pub returns-in-Label-clause-entries : goal.returns-in-Label-clause-entries
returns-in-Label-clause-entries c =
    let now = entries_of c.take.new.self c.self.inside.caches c.self.inside.transforms in
    let P : Thing → Type 0 = λ t. ChangesAt c.args.self.now.entries now c.args.name (Some t) in
    let Q : TablesState → Type 0 = λ s. ChangesAt s.entries now c.args.name (Some (label c.in-Label.number)) in
    subst P (sym c.in-Label.is) (subst Q c.self.view_is (label_taken c).changed)

-- ---- a cache

pub take-requires-in-Cache-clause-free : goal.take-requires-in-Cache-clause-free
take-requires-in-Cache-clause-free c =
    no_cache c.self.inside.labels c.self.inside.caches c.self.inside.transforms c.self.invariant c.args.name
    (ap (λ (s : TablesState). found_in s.entries c.args.name) c.self.view_is ∙ c.requires.free)

cache_taken : (c : goal.After-take-in-Cache)
    → Written (entries_of c.self.inside.labels c.self.inside.caches c.self.inside.transforms) c.self.inside.labels c.take-in-Cache.new.self
    c.self.inside.transforms c.args.name (Some (cache c.in-Cache.number))
cache_taken c =
    let l = c.self.inside.labels in
    let q = c.self.inside.caches in
    let x = c.self.inside.transforms in
    let free : found_in (entries_of l q x) c.args.name ≡ None =
    ap (λ (s : TablesState). found_in s.entries c.args.name) c.self.view_is ∙ c.requires.free
    in
    cache_written l q x c.self.invariant c.args.name c.take-in-Cache.new.self (Some c.in-Cache.number) c.take-in-Cache.ensures.entries
    c.take-in-Cache.ensures.capacity
    (kind_found label l.entries c.args.name None (no_label l q x c.self.invariant c.args.name free))
    (kind_found transform x.entries c.args.name None (no_transform l q x c.self.invariant c.args.name free))

pub invariant_of-self-in-Cache : goal.invariant_of-self-in-Cache
invariant_of-self-in-Cache c = (cache_taken c).are

pub returns-in-Cache-clause-entries : goal.returns-in-Cache-clause-entries
returns-in-Cache-clause-entries c =
    let now = entries_of c.self.inside.labels c.take-in-Cache.new.self c.self.inside.transforms in
    let P : Thing → Type 0 = λ t. ChangesAt c.args.self.now.entries now c.args.name (Some t) in
    let Q : TablesState → Type 0 = λ s. ChangesAt s.entries now c.args.name (Some (cache c.in-Cache.number)) in
    subst P (sym c.in-Cache.is) (subst Q c.self.view_is (cache_taken c).changed)

-- ---- a transform

pub take-requires-in-Transform-clause-free : goal.take-requires-in-Transform-clause-free
take-requires-in-Transform-clause-free c =
    no_transform c.self.inside.labels c.self.inside.caches c.self.inside.transforms c.self.invariant c.args.name
    (ap (λ (s : TablesState). found_in s.entries c.args.name) c.self.view_is ∙ c.requires.free)

transform_taken : (c : goal.After-take-in-Transform)
    → Written (entries_of c.self.inside.labels c.self.inside.caches c.self.inside.transforms) c.self.inside.labels c.self.inside.caches
    c.take-in-Transform.new.self c.args.name (Some (transform c.in-Transform.number))
transform_taken c =
    let l = c.self.inside.labels in
    let q = c.self.inside.caches in
    let x = c.self.inside.transforms in
    let free : found_in (entries_of l q x) c.args.name ≡ None =
    ap (λ (s : TablesState). found_in s.entries c.args.name) c.self.view_is ∙ c.requires.free
    in
    transform_written l q x c.self.invariant c.args.name c.take-in-Transform.new.self (Some c.in-Transform.number)
    c.take-in-Transform.ensures.entries c.take-in-Transform.ensures.capacity
    (kind_found label l.entries c.args.name None (no_label l q x c.self.invariant c.args.name free))
    (kind_found cache q.entries c.args.name None (no_cache l q x c.self.invariant c.args.name free))

pub invariant_of-self-in-Transform : goal.invariant_of-self-in-Transform
invariant_of-self-in-Transform c = (transform_taken c).are

pub returns-in-Transform-clause-entries : goal.returns-in-Transform-clause-entries
returns-in-Transform-clause-entries c =
    let now = entries_of c.self.inside.labels c.self.inside.caches c.take-in-Transform.new.self in
    let P : Thing → Type 0 = λ t. ChangesAt c.args.self.now.entries now c.args.name (Some t) in
    let Q : TablesState → Type 0 = λ s. ChangesAt s.entries now c.args.name (Some (transform c.in-Transform.number)) in
    subst P (sym c.in-Transform.is) (subst Q c.self.view_is (transform_taken c).changed)
