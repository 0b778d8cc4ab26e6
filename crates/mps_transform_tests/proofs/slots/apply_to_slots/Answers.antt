use Rattle.std.proofs.Common.{◌++◌, ◌∷◌, [], Some, ap, ◌∙◌}
use Rattle.std.specs.Prelude.{slice_set}
use Rattle.mps_root.specs.State.{RootsState, kept, items_of}
use Rattle.mps_xform.proofs.Listed.{IsAlone, alone_is_listed, alone_still}
use Rattle.mps_transform_tests.proofs.slots.apply_to_slots.Goals as goal

pub apply_slots-requires : goal.apply_slots-requires
apply_slots-requires c =
    let key = c.in_ok-key.key in
    let made = c.in_ok-key.ensures in
    let first = c.table.new.self in
    let second = c.set_slot.new.self in
    let third = c.set_slot-2.new.self in
    let alone : IsAlone key first = record {
      order = made.order ∙ ap (λ (r : RootsState). r.order ++ key ∷ []) c.requires;
      others = λ other apart. made.tables.others other apart ∙ ap (λ (r : RootsState). kept r.tables other) c.requires;
    } in
    let after : IsAlone key second =
    alone_still key first second (Some (slice_set (items_of first.tables key) 0 c.args.first)) alone
    (ap (λ (r : RootsState). r.order) c.set_slot.ensures) (ap (λ (r : RootsState). r.tables) c.set_slot.ensures) in
    alone_is_listed key third
    (alone_still key second third (Some (slice_set (items_of second.tables key) 1 c.args.second)) after
    (ap (λ (r : RootsState). r.order) c.set_slot-2.ensures) (ap (λ (r : RootsState). r.tables) c.set_slot-2.ensures))
