use Rattle.std.proofs.Common.{ℕ, ◌+◌, ◌≡◌, Bool, false, None, List, length, replicate, ap, ◌∙◌, arith, rules}
use Rattle.std.specs.Vec.{vec_len}
use Rattle.mps_marks.specs.Marks.{MarkTables, no_marks}
use Rattle.mps_seg.specs.Segs.{SegsState}
use Rattle.mps_seg.specs.Collecting.{collected}
use Rattle.mps_seg.proofs.AskedNoted.{noted_after_end}
use Rattle.mps_seg.proofs.Marked.{marked_collected}
use Rattle.mps_seg.proofs.Seen.{seen_by}
use Rattle.mps_seg.proofs.segs.Segs.end_collection.Goals as goal

pub invariant_of-self : goal.invariant_of-self
invariant_of-self c =
    let s = c.self.inside in
    let size = c.self.invariant.2.condemned_size in
    let condemned : c.clear_all.new.self ≡ replicate (s.arena.grains + 1) false =
    c.clear_all.ensures ∙ ap (λ (n : ℕ). replicate n false) size
    in
    let white : c.fill.new.self.items ≡ replicate (vec_len s.white) None = c.fill.ensures.items (λ y same. search rules) in
    let long : s.arena.grains + 1 ≡ vec_len s.white = omega (arith, c.self.invariant.4.white_size, s.white.ok.0) in
    rw (condemned, white, c.clear_all-2.ensures) (
      c.self.invariant.0,
      c.self.invariant.1,
      marked_collected s.arena.grains s.marks s.condemned s.summaries.items c.self.invariant.2,
      c.self.invariant.3,
      noted_after_end (s.arena.grains + 1) (vec_len s.white) s.firsts.items s.table.items long,
    )

pub returns : goal.returns
returns c =
    let s = c.self.inside in
    ap (λ (m : MarkTables). record (seen_by s) { marks = m; condemned = c.clear_all.new.self }) c.clear_all-2.ensures
    ∙ ap (λ (bs : List Bool). record (seen_by s) { marks = no_marks (length s.marks.kept); condemned = bs }) c.clear_all.ensures
    ∙ ap (λ (st : SegsState). collected st) c.self.view_is
