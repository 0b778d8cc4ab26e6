use Rattle.std.proofs.Common.{ap, refl}
use Rattle.mps_root.proofs.Rows.{row_made_in_room, area_made_from}
use Rattle.mps_root.proofs.roots.Roots.area.Goals as goal

pub returns : goal.returns
returns c = area_made_from c.self.view_is (record {
  areas = row_made_in_room (λ words. words.items) c.self.inside.areas c.reserve.new.self c.insert_reserved.new.self c.insert_reserved.result
      c.in_ok-words.words _ (ap (λ s. s.slots) c.reserve.ensures.rest_kept) (c.in_ok-words.ensures.items_if_clones_equal (λ y h. h))
      c.insert_reserved.ensures.was_vacant c.insert_reserved.ensures.updates;
  tables = refl;
  order = refl;
  blocks = refl;
})
