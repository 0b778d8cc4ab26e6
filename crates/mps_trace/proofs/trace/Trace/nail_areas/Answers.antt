use Rattle.std.proofs.Common.{ℕ, suc, ◌≡◌, Option, List, drop, get_or, None, sym, ap, ◌∙◌, add-one}
use Rattle.mps_root.specs.declared.roots.Stored.{Stored}
use Rattle.mps_seg.specs.Segs.{SegsState}
use Rattle.mps_trace.specs.Begin.{nailed_by_area, nailed_by_areas}
use Rattle.mps_trace.proofs.Nailing.{AreBlocksSame}
use Rattle.mps_trace.proofs.AreaWords.{area_same, next_area}
use Rattle.mps_trace.proofs.trace.Trace.nail_areas.Goals.{in-Some, in_default}
use Rattle.mps_trace.proofs.trace.Trace.nail_areas.Goals as goal

pub loop-key-preserved : goal.loop-key-preserved
loop-key-preserved g c =
    let formats = c.args.self.now.formats in
    let areas = c.args.roots.now.areas in
    let key = c.loop-key.key in
    let s = c.loop-key.segs in
    let s' = c.match-words.segs in
    let area = get_or areas key None in
    let now : s' ≡ nailed_by_area formats area s =
    elim c.match-words.branch [
      | in-Some w ↦ w.segs-is ∙ w.nail_words.ensures ∙ ap (λ (a : Option (List Stored)). nailed_by_area formats a s) (sym w.in-Some.ensures)
      | in_default w ↦ w.segs-is ∙ ap (λ (a : Option (List Stored)). nailed_by_area formats a s) (sym w.in_default.ensures)
    ]
    in
    let so_far : AreBlocksSame c.args.segs.now s = c.loop-key.invariant.1 in
    let same = area_same formats area s in (
      ap (λ (n : ℕ). nailed_by_areas formats (drop n areas) s') (add-one key)
          ∙ ap (λ (x : SegsState). nailed_by_areas formats (drop (suc key) areas) x) now ∙ next_area formats areas key s
          ∙ c.loop-key.invariant.0,
      record {
        blocks = ap (λ (x : SegsState). x.blocks) now ∙ same.blocks ∙ so_far.blocks;
        grains = ap (λ (x : SegsState). x.grains) now ∙ same.grains ∙ so_far.grains;
      },
    )
