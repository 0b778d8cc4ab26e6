use Rattle.std.proofs.Common.{◌+◌, ◌*◌, ◌≡◌, sym, ap, ◌∙◌, arith}
use Rattle.mps_base.specs.Address.{grain_of, words_of_grain}
use Rattle.mps_marks.specs.Marks.{grey_of}
use Rattle.mps_seg.specs.declared.segment_info.SegmentInfo.{SegmentInfo}
use Rattle.mps_seg.proofs.Entries.{entry_at_seen_base}
use Rattle.mps_seg.proofs.HeldSegments.{segment_end_fits}
use Rattle.mps_seg.proofs.Marked.{next_set_below-below}
use Rattle.mps_seg.proofs.segs.Segs.grey_in.Goals as goal

pub grey_in-requires : goal.grey_in-requires
grey_in-requires c =
    let s = c.self.inside in
    let t = c.requires.0 in
    let at = entry_at_seen_base s c.args.self.now c.args.base.0 t c.self.view_is c.requires.1 c.requires.2 in
    let grains : c.segment-grains.result.grains ≡ t.grains =
    ap (λ (i : SegmentInfo). i.grains) (c.segment-grains.ensures t c.requires.1 c.requires.2)
    in
    let fits =
    segment_end_fits s.arena s.table.items s.extents c.self.invariant.0 (grain_of c.args.base.0) t.grains t.pool t.generation t.rank at.is
    in
    omega (arith, fits, grains, at.aligned, c.word-low.ensures, c.self.invariant.0.covered_size, c.self.invariant.2.kept_size)

pub overflow_mul-result : goal.overflow_mul-result
overflow_mul-result c =
    let s = c.self.inside in
    let t = c.requires.0 in
    let low = c.word-low.result in
    let high = low + words_of_grain * c.segment-grains.result.grains in
    let at = entry_at_seen_base s c.args.self.now c.args.base.0 t c.self.view_is c.requires.1 c.requires.2 in
    let grains : c.segment-grains.result.grains ≡ t.grains =
    ap (λ (i : SegmentInfo). i.grains) (c.segment-grains.ensures t c.requires.1 c.requires.2)
    in
    let fits =
    segment_end_fits s.arena s.table.items s.extents c.self.invariant.0 (grain_of c.args.base.0) t.grains t.pool t.generation t.rank at.is
    in
    let below =
    next_set_below-below (grey_of c.segment-grains.result.rank s.marks) low high c.in_ok-word.word (omega arith)
    (sym c.grey_in.ensures ∙ c.in_ok-word.was)
    in
    omega (
      arith,
      below,
      fits,
      grains,
      at.aligned,
      c.word-low.ensures,
      c.self.invariant.0.covered_size,
      c.self.invariant.0.at_most,
    )
