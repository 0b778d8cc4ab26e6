use Rattle.std.proofs.Common.{◌≡◌, ◌∙◌, ◌++◌, false, refl, ap, sym}
use Rattle.std.specs.Prelude.{Option, Some, None}
use Rattle.std.proofs.lemmas.Option.{same_Some}
use Rattle.mps_names.specs.declared.names.Thing.{Thing}
use Rattle.mps_names.specs.State.{NamesState, counts_after, counts_with, has_own_room, thing_named}
use Rattle.mps_names.specs.Inside.{ChangesAt, found_in}
use Rattle.mps_names.proofs.Beside.{not_counted_more, tables_beside, tables_changed, things_beside, things_changed}
use Rattle.mps_names.proofs.Joined.{free_in_first, free_in_second}
use Rattle.mps_names.proofs.NamedKeys.{keys_taken}
use Rattle.mps_names.proofs.names.Names.take.Goals as goal

-- ---- in the tables

pub take-requires-clause-free : goal.take-requires-clause-free
take-requires-clause-free c =
    free_in_second c.self.inside.things.entries c.self.inside.tables.entries c.args.name
    (ap (λ (s : NamesState). thing_named s c.args.name) c.self.view_is ∙ c.requires.free)

not_in_map : (c : goal.After-take) → found_in c.self.inside.things.entries c.args.name ≡ None
not_in_map c =
    free_in_first c.self.inside.things.entries c.self.inside.tables.entries c.args.name
    (ap (λ (s : NamesState). thing_named s c.args.name) c.self.view_is ∙ c.requires.free)

free : (c : goal.After-take) → found_in (c.self.inside.things.entries ++ c.self.inside.tables.entries) c.args.name ≡ None
free c = ap (λ (s : NamesState). thing_named s c.args.name) c.self.view_is ∙ c.requires.free

pub invariant_of-self : goal.invariant_of-self
invariant_of-self c = record {
  beside = tables_beside c.self.inside.things.entries c.self.inside.tables c.take.new.self c.self.invariant.beside c.args.name
      (Some c.args.thing) c.take.ensures.entries (not_in_map c);
  keys = keys_taken (c.self.inside.things.entries ++ c.self.inside.tables.entries)
      (c.self.inside.things.entries ++ c.take.new.self.entries) c.args.name (Some c.args.thing)
      (tables_changed c.self.inside.things.entries c.self.inside.tables c.take.new.self c.self.invariant.beside c.args.name
      (Some c.args.thing) c.take.ensures.entries (not_in_map c)) c.self.inside.keys (free c) c.self.invariant.keys;
}

pub returns-then-has_own_room : goal.returns-then-has_own_room
returns-then-has_own_room c =
    let now = tables_changed c.self.inside.things.entries c.self.inside.tables c.take.new.self c.self.invariant.beside c.args.name
    (Some c.args.thing) c.take.ensures.entries (not_in_map c) in
    record {
      names = record {
        named = now.named;
        others = λ other differs. now.others other differs ∙ ap (λ (s : NamesState). thing_named s other) c.self.view_is;
        counts = c.take.ensures.counts ∙ ap (λ (s : NamesState). counts_with s.counts c.args.thing) c.self.view_is
            ∙ ap (λ (before : Option Thing). counts_after c.args.self.now.counts before (Some c.args.thing)) (sym c.requires.free);
        keys = ap (λ (s : NamesState). s.keys) c.self.view_is;
      };
    }

-- ---- in the map

not_in_tables : (c : goal.In-Ok) → found_in c.self.inside.tables.entries c.args.name ≡ None
not_in_tables c =
    free_in_second c.self.inside.things.entries c.self.inside.tables.entries c.args.name
    (ap (λ (s : NamesState). thing_named s c.args.name) c.self.view_is ∙ c.requires.free)

taken : (c : goal.In-Ok) → ChangesAt c.self.inside.things.entries c.insert.new.self.entries c.args.name (Some c.args.thing)
taken c = record { named = c.in-Ok.ensures.updates.1; others = λ other apart. c.in-Ok.ensures.updates.2 other apart }

-- what is taken has no room of its own
in_the_map : (c : goal.In-Ok) (t : Thing) → Some c.args.thing ≡ Some t → has_own_room t ≡ false
in_the_map c t same =
    ap has_own_room (sym (same_Some c.args.thing t same)) ∙ sym c.has_own_room.ensures ∙ c.if-has_own_room.false

pub invariant_of-self-in-Ok : goal.invariant_of-self-in-Ok
invariant_of-self-in-Ok c = record {
  beside = things_beside c.self.inside.things.entries c.insert.new.self.entries c.self.inside.tables c.self.invariant.beside c.args.name
      (Some c.args.thing) (taken c) (not_in_tables c) (in_the_map c);
  keys = keys_taken (c.self.inside.things.entries ++ c.self.inside.tables.entries)
      (c.insert.new.self.entries ++ c.self.inside.tables.entries) c.args.name (Some c.args.thing)
      (things_changed c.self.inside.things.entries c.insert.new.self.entries c.self.inside.tables c.self.invariant.beside c.args.name
      (Some c.args.thing) (taken c) (not_in_tables c) (in_the_map c)) c.self.inside.keys
      (ap (λ (s : NamesState). thing_named s c.args.name) c.self.view_is ∙ c.requires.free) c.self.invariant.keys;
}

pub returns-in-Ok : goal.returns-in-Ok
returns-in-Ok c =
    let now = things_changed c.self.inside.things.entries c.insert.new.self.entries c.self.inside.tables c.self.invariant.beside c.args.name
    (Some c.args.thing) (taken c) (not_in_tables c) (in_the_map c) in
    record {
      names = record {
        named = now.named;
        others = λ other differs. now.others other differs ∙ ap (λ (s : NamesState). thing_named s other) c.self.view_is;
        counts = sym (not_counted_more c.self.inside.tables.counts c.args.thing (in_the_map c c.args.thing refl))
            ∙ ap (λ (s : NamesState). counts_with s.counts c.args.thing) c.self.view_is
            ∙ ap (λ (before : Option Thing). counts_after c.args.self.now.counts before (Some c.args.thing)) (sym c.requires.free);
        keys = ap (λ (s : NamesState). s.keys) c.self.view_is;
      };
    }
