use Rattle.std.proofs.Common.{◌≡◌, ◌∙◌, ◌++◌, ap, is_some, sym}
use Rattle.mps_base.specs.declared.names.Name.{Name}
use Rattle.std.specs.Option.{option_or}
use Rattle.mps_base.specs.Name.{same_name}
use Rattle.mps_names.specs.State.{NamesState, thing_named}
use Rattle.mps_names.specs.Inside.{found_in}
use Rattle.mps_names.proofs.Joined.{looked_up}
use Rattle.mps_names.proofs.NamedKeys.{keys_still}
use Rattle.mps_names.proofs.names.Names.make_room.Goals as goal
use Rattle.mps_names.proofs.names.Names.make_room.Goals.{After-reserve}

-- each name represents what it did
same : (c : After-reserve) (name : Name) → found_in c.reserve.new.self.entries name ≡ found_in c.self.inside.things.entries name
same c name = c.reserve.ensures.entries.2 name

pub invariant_of-self : goal.invariant_of-self
invariant_of-self c = record {
  beside = record {
    apart = λ name some. c.self.invariant.beside.apart name (sym (ap is_some (same c name)) ∙ some);
    others = λ name t is. c.self.invariant.beside.others name t (sym (same c name) ∙ is);
  };
  keys = keys_still (c.self.inside.things.entries ++ c.self.inside.tables.entries)
      (c.reserve.new.self.entries ++ c.self.inside.tables.entries) c.self.inside.keys
      (λ name. looked_up (same_name name) c.reserve.new.self.entries c.self.inside.tables.entries
      ∙ ap (λ o. option_or o (found_in c.self.inside.tables.entries name)) (same c name)
      ∙ sym (looked_up (same_name name) c.self.inside.things.entries c.self.inside.tables.entries))
      c.self.invariant.keys;
}

pub returns-clause-unchanged : goal.returns-clause-unchanged
returns-clause-unchanged c = λ name.
    looked_up (same_name name) c.reserve.new.self.entries c.self.inside.tables.entries
    ∙ ap (λ o. option_or o (found_in c.self.inside.tables.entries name)) (c.reserve.ensures.entries.2 name)
    ∙ sym (looked_up (same_name name) c.self.inside.things.entries c.self.inside.tables.entries)
    ∙ ap (λ (s : NamesState). thing_named s name) c.self.view_is
