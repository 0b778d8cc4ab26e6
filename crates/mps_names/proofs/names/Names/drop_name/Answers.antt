use Rattle.std.proofs.Common.{◌≡◌, ◌∙◌, ◌++◌, List, ap, subst, sym}
use Rattle.std.specs.Prelude.{Some, None, is_some}
use Rattle.std.proofs.lemmas.Option.{none-some}
use Rattle.mps_base.specs.declared.names.Name.{Name}
use Rattle.mps_names.specs.declared.names.Thing.{Thing}
use Rattle.mps_names.specs.State.{NamesState, counts_without, thing_named}
use Rattle.mps_names.specs.Inside.{AreBeside, AreKeysOf, ChangesAt, found_in}
use Rattle.mps_keys.specs.Keys.{KeysWithout}
use Rattle.mps_names.proofs.Beside.{not_counted, tables_beside, tables_changed, things_beside, things_changed}
use Rattle.mps_names.proofs.Joined.{found_first, found_second}
use Rattle.mps_names.proofs.NamedKeys.{keys_gone, keys_left}
use Rattle.mps_names.proofs.names.Names.drop_name.Goals as goal
use Rattle.mps_names.proofs.names.Names.drop_name.Goals.{After-drop_key, After-drop_key-2}

-- ---- from the map

was : (c : After-drop_key) → found_in c.self.inside.things.entries c.args.name ≡ Some c.in-Some.thing
was c = sym c.remove.ensures.value ∙ c.in-Some.is

not_in_tables : (c : After-drop_key) → found_in c.self.inside.tables.entries c.args.name ≡ None
not_in_tables c = c.self.invariant.beside.apart c.args.name (ap is_some (was c))

gone : (c : After-drop_key) → ChangesAt c.self.inside.things.entries c.remove.new.self.entries c.args.name None
gone c = record { named = c.remove.ensures.updates.1; others = λ other apart. c.remove.ensures.updates.2 other apart }

changed : (c : After-drop_key) → ChangesAt (c.self.inside.things.entries ++ c.self.inside.tables.entries)
    (c.remove.new.self.entries ++ c.self.inside.tables.entries) c.args.name None
changed c =
    things_changed c.self.inside.things.entries c.remove.new.self.entries c.self.inside.tables c.self.invariant.beside c.args.name None
    (gone c) (not_in_tables c) (λ t never. absurd (none-some t never))

pub invariant_of-self : goal.invariant_of-self
invariant_of-self c = record {
  beside = things_beside c.self.inside.things.entries c.remove.new.self.entries c.self.inside.tables c.self.invariant.beside c.args.name
      None (gone c) (not_in_tables c) (λ t never. absurd (none-some t never));
  keys = subst (AreKeysOf (c.remove.new.self.entries ++ c.self.inside.tables.entries)) (sym c.drop_key.ensures.gone)
      (keys_left (c.self.inside.things.entries ++ c.self.inside.tables.entries)
      (c.remove.new.self.entries ++ c.self.inside.tables.entries) c.args.name None (changed c) c.self.inside.keys (Some c.in-Some.thing)
      (found_first c.self.inside.things.entries c.self.inside.tables.entries c.args.name c.in-Some.thing (was c)) c.self.invariant.keys);
}

pub returns-in-Some-clause-value : goal.returns-in-Some-clause-value
returns-in-Some-clause-value c =
    sym (found_first c.self.inside.things.entries c.self.inside.tables.entries c.args.name c.in-Some.thing (was c))
    ∙ ap (λ (s : NamesState). thing_named s c.args.name) c.self.view_is

pub returns-in-Some-clause-dropped : goal.returns-in-Some-clause-dropped
returns-in-Some-clause-dropped c =
    let now = changed c in
    record {
      named = now.named;
      others = λ other differs. now.others other differs ∙ ap (λ (s : NamesState). thing_named s other) c.self.view_is;
      counts =
          sym (not_counted c.self.inside.tables.counts c.in-Some.thing (c.self.invariant.beside.others c.args.name c.in-Some.thing (was c)))
          ∙ ap (counts_without c.self.inside.tables.counts)
          (sym (found_first c.self.inside.things.entries c.self.inside.tables.entries c.args.name c.in-Some.thing (was c)))
          ∙ ap (λ (s : NamesState). counts_without s.counts (thing_named s c.args.name)) c.self.view_is;
      keys = subst (λ (s : NamesState). KeysWithout s.keys c.drop_key.new.keys c.args.name) c.self.view_is
          (keys_gone (c.self.inside.things.entries ++ c.self.inside.tables.entries) c.args.name c.self.inside.keys
          c.drop_key.new.keys (Some c.in-Some.thing)
          (found_first c.self.inside.things.entries c.self.inside.tables.entries c.args.name c.in-Some.thing (was c))
          c.self.invariant.keys c.drop_key.ensures.gone);
    }

-- ---- from the tables

none : (c : After-drop_key-2) → found_in c.self.inside.things.entries c.args.name ≡ None
none c = sym c.remove.ensures.value ∙ c.in_default.is

others_changed : (c : After-drop_key-2) → ChangesAt (c.self.inside.things.entries ++ c.self.inside.tables.entries)
    (c.self.inside.things.entries ++ c.drop_name-dropped.new.self.entries) c.args.name None
others_changed c =
    tables_changed c.self.inside.things.entries c.self.inside.tables c.drop_name-dropped.new.self c.self.invariant.beside c.args.name None
    c.drop_name-dropped.ensures.entries (none c)

-- what had the name
it_was : (c : After-drop_key-2)
    → found_in (c.self.inside.things.entries ++ c.self.inside.tables.entries) c.args.name ≡ c.drop_name-dropped.result
it_was c =
    found_second c.self.inside.things.entries c.self.inside.tables.entries c.args.name (none c)
    ∙ sym c.drop_name-dropped.ensures.value

pub invariant_of-self-2 : goal.invariant_of-self-2
invariant_of-self-2 c = record {
  beside = subst (λ es. AreBeside es c.drop_name-dropped.new.self) (sym c.in_default.ensures.unchanged)
      (tables_beside c.self.inside.things.entries c.self.inside.tables c.drop_name-dropped.new.self c.self.invariant.beside c.args.name
      None c.drop_name-dropped.ensures.entries (none c));
  keys = subst (λ es. AreKeysOf (es ++ c.drop_name-dropped.new.self.entries) c.drop_key-2.new.keys)
      (sym c.in_default.ensures.unchanged)
      (subst (AreKeysOf (c.self.inside.things.entries ++ c.drop_name-dropped.new.self.entries)) (sym c.drop_key-2.ensures.gone)
      (keys_left (c.self.inside.things.entries ++ c.self.inside.tables.entries)
      (c.self.inside.things.entries ++ c.drop_name-dropped.new.self.entries) c.args.name None (others_changed c) c.self.inside.keys
      c.drop_name-dropped.result (it_was c) c.self.invariant.keys));
}

pub returns-clause-value : goal.returns-clause-value
returns-clause-value c =
    c.drop_name-dropped.ensures.value ∙ sym (found_second c.self.inside.things.entries c.self.inside.tables.entries c.args.name (none c))
    ∙ ap (λ (s : NamesState). thing_named s c.args.name) c.self.view_is

pub returns-clause-dropped : goal.returns-clause-dropped
returns-clause-dropped c =
    let P : List (Name × Thing) → Type 0 =
    λ es. ChangesAt (c.self.inside.things.entries ++ c.self.inside.tables.entries) (es ++ c.drop_name-dropped.new.self.entries)
    c.args.name None
    in
    let now = subst P (sym c.in_default.ensures.unchanged)
    (others_changed c) in
    record {
      named = now.named;
      others = λ other differs. now.others other differs ∙ ap (λ (s : NamesState). thing_named s other) c.self.view_is;
      counts = c.drop_name-dropped.ensures.counts
          ∙ ap (counts_without c.self.inside.tables.counts) (c.drop_name-dropped.ensures.value
          ∙ sym (found_second c.self.inside.things.entries c.self.inside.tables.entries c.args.name (none c)))
          ∙ ap (λ (s : NamesState). counts_without s.counts (thing_named s c.args.name)) c.self.view_is;
      keys = subst (λ (s : NamesState). KeysWithout s.keys c.drop_key-2.new.keys c.args.name) c.self.view_is
          (keys_gone (c.self.inside.things.entries ++ c.self.inside.tables.entries) c.args.name c.self.inside.keys
          c.drop_key-2.new.keys c.drop_name-dropped.result (it_was c) c.self.invariant.keys c.drop_key-2.ensures.gone);
    }
