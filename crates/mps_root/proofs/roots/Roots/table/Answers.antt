use Rattle.std.proofs.Common.{ℕ, List, ap, refl, ◌++◌, ◌∷◌, [], ◌∙◌}
use Rattle.mps_root.proofs.Rows.{row_made_in_room, table_made_from}
use Rattle.mps_root.proofs.roots.Roots.table.Goals as goal

pub returns : goal.returns
returns c = table_made_from c.self.view_is (record {
  tables = row_made_in_room (λ slots. slots.items) c.self.inside.tables c.reserve.new.self c.insert_reserved-key.new.self
      c.insert_reserved-key.result c.in_ok-slots.slots _ (ap (λ s. s.slots) c.reserve.ensures.rest_kept)
      (c.in_ok-slots.ensures.items_if_clones_equal (λ y h. h)) c.insert_reserved-key.ensures.was_vacant
      c.insert_reserved-key.ensures.updates;
  order = c.in-Ok.ensures.items ∙ ap (λ (keys : List ℕ). keys ++ c.insert_reserved-key.result ∷ []) c.reserve-2.ensures.items;
  areas = refl;
  blocks = refl;
})
