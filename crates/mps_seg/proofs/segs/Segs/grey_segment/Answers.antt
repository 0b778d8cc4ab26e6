use Rattle.std.proofs.Common.{ℕ, ◌+◌, ◌*◌, ◌≡◌, sym, ap, ◌∙◌, subst, arith}
use Rattle.mps_base.specs.Address.{grain_of, word_of, words_of_grain}
use Rattle.mps_base.specs.Run.{runs_within}
use Rattle.mps_base.specs.Segment.{end_of_segment}
use Rattle.mps_base.specs.declared.names.Rank.{Rank}
use Rattle.mps_marks.specs.Marks.{MarkTables}
use Rattle.mps_seg.specs.Segs.{SegsState}
use Rattle.mps_seg.specs.Table.{IsMarked}
use Rattle.mps_seg.specs.Collecting.{all_grey, greying_all}
use Rattle.mps_seg.specs.declared.segment_info.SegmentInfo.{SegmentInfo}
use Rattle.mps_seg.proofs.Entries.{entry_at_seen_base}
use Rattle.mps_seg.proofs.HeldSegments.{segment_end_fits}
use Rattle.mps_seg.proofs.Marked.{marked_all_grey}
use Rattle.mps_seg.proofs.Seen.{seen_by}
use Rattle.mps_seg.proofs.segs.Segs.grey_segment.Goals as goal

pub grey_blocks-requires-clause-in_table : goal.grey_blocks-requires-clause-in_table
grey_blocks-requires-clause-in_table c =
    let s = c.self.inside in
    let t = c.requires.0 in
    let at = entry_at_seen_base s c.args.self.now c.args.base.0 t c.self.view_is c.requires.1 c.requires.2 in
    let grains : c.segment-grains.result.grains ≡ t.grains =
    ap (λ (i : SegmentInfo). i.grains) (c.segment-grains.ensures t c.requires.1 c.requires.2)
    in
    let fits =
    segment_end_fits s.arena s.table.items s.extents c.self.invariant.0 (grain_of c.args.base.0) t.grains t.pool t.generation t.rank at.is
    in
    omega (arith, fits, grains, at.aligned, c.word-low.ensures)

pub invariant_of-self : goal.invariant_of-self
invariant_of-self c =
    let s = c.self.inside in
    let low = c.word-low.result in
    let runs = runs_within low (low + words_of_grain * c.segment-grains.result.grains) s.extents.blocks in
    let P : MarkTables → Type 0 = λ m. IsMarked s.arena.grains m s.condemned s.summaries.items in (
      c.self.invariant.0,
      c.self.invariant.1,
      subst P (sym c.grey_blocks.ensures)
          (marked_all_grey s.arena.grains s.marks s.condemned s.summaries.items c.segment-grains.result.rank runs c.self.invariant.2),
      c.self.invariant.3,
      c.self.invariant.4,
    )

pub returns : goal.returns
returns c =
    record {
      state = λ t listed begins.
          let s = c.self.inside in
          let info = c.segment-grains.ensures t listed begins in
          let rank : c.segment-grains.result.rank ≡ t.rank = ap (λ (i : SegmentInfo). i.rank) info in
          let grains : c.segment-grains.result.grains ≡ t.grains = ap (λ (i : SegmentInfo). i.grains) info in
          let low : c.word-low.result ≡ word_of t.base = c.word-low.ensures ∙ ap (λ (b : ℕ). word_of b) (sym begins) in
          let end = c.word-low.result + words_of_grain * c.segment-grains.result.grains in
          let high : end ≡ word_of (end_of_segment t) = omega (arith, low, grains) in
          let marks : c.grey_blocks.new.marks ≡ (greying_all (seen_by s) t).marks =
          c.grey_blocks.ensures ∙ ap (λ (r : Rank). all_grey r (runs_within c.word-low.result end s.extents.blocks) s.marks) rank
          ∙ ap (λ (a : ℕ). all_grey t.rank (runs_within a end s.extents.blocks) s.marks) low
          ∙ ap (λ (b : ℕ). all_grey t.rank (runs_within (word_of t.base) b s.extents.blocks) s.marks) high
          in
          ap (λ (m : MarkTables). record (seen_by s) { marks = m }) marks ∙ ap (λ (st : SegsState). greying_all st t) c.self.view_is;
    }
