-- Areas are gone through one after the other.
use Rattle.std.proofs.Common.{ℕ, zero, suc, ◌≡◌, Option, Some, None, List, [], ◌∷◌, drop, get_or, refl, ◌∙◌}
use Rattle.mps_base.specs.Address.{word_of}
use Rattle.mps_seg.specs.Extents.{run_over}
use Rattle.mps_root.specs.declared.roots.Stored.{Stored}
use Rattle.mps_seg.specs.Segs.{SegsState}
use Rattle.mps_trace.specs.Begin.{nailed_by_area, nailed_by_areas}
use Rattle.mps_trace.specs.Flip.{nailed_by, nailed_by_all}
use Rattle.mps_trace.proofs.Nailing.{AreBlocksSame, nailed_in_same}
use Rattle.mps_format.specs.declared.pool.Policy.{Policy}

module _ {F : Type 0} (formats : List (Option (Policy F))) where
  pub words_same : (words : List Stored) (s : SegsState) → AreBlocksSame s (nailed_by_all formats words s)
  words_same [] s = record { blocks = refl; grains = refl }
  words_same (w ∷ ws) s =
      let first = nailed_in_same formats s w.word (run_over s.blocks (word_of w.word)) in
      let rest = words_same ws (nailed_by formats s w.word) in
      record { blocks = rest.blocks ∙ first.blocks; grains = rest.grains ∙ first.grains }

  pub area_same : (a : Option (List Stored)) (s : SegsState) → AreBlocksSame s (nailed_by_area formats a s)
  area_same None s = record { blocks = refl; grains = refl }
  area_same (Some words) s = words_same words s

  pub next_area : (areas : List (Option (List Stored))) (key : ℕ) (s : SegsState)
      → nailed_by_areas formats (drop (suc key) areas) (nailed_by_area formats (get_or areas key None) s)
      ≡ nailed_by_areas formats (drop key areas) s
  next_area [] zero s = refl
  next_area [] (suc key) s = refl
  next_area (a ∷ areas) zero s = refl
  next_area (a ∷ areas) (suc key) s = next_area areas key s
