use Rattle.std.proofs.Common.{ℕ, ◌+◌, ◌*◌, ◌≡◌, Option, option_map, sym, ap, ◌∙◌, arith}
use Rattle.std.proofs.lemmas.List.{get_or_read}
use Rattle.mps_base.specs.Address.{words_of_grain, grain_of, word_of}
use Rattle.mps_base.specs.Segment.{end_of_segment}
use Rattle.mps_seg.specs.declared.entry.Entry.TheVariants.{Free, First}
use Rattle.mps_extents.specs.Extents.{first_run}
use Rattle.mps_seg.specs.Segs.{SegsState, at_word}
use Rattle.mps_seg.proofs.Entries.{entry_at_seen_base}
use Rattle.mps_extents.proofs.FirstRun.{first_run-below}
use Rattle.mps_seg.proofs.HeldSegments.{segment_end_fits}
use Rattle.mps_seg.proofs.Giving.{grains_read}
use Rattle.mps_seg.proofs.segs.Segs.walk.Goals as goal

pub index-requires : goal.index-requires
index-requires c =
    let s = c.self.inside in
    let at =
    entry_at_seen_base s c.args.self.now c.args.base.0 c.requires.0 c.self.view_is c.requires.1 c.requires.2
    in
    omega (arith, at.within, s.table.ok.0)

pub unreachable-requires : goal.unreachable-requires
unreachable-requires c =
    let s = c.self.inside in
    let t = c.requires.0 in
    let at =
    entry_at_seen_base s c.args.self.now c.args.base.0 t c.self.view_is c.requires.1 c.requires.2
    in
    let read = get_or_read s.table.items (grain_of c.args.base.0) c.index.result.now at.within c.index.ensures Free ∙ at.is in
    let never : Free ≡ First t.grains t.pool t.generation t.rank = sym c.in_default.is ∙ read in
    cc

pub first_block-requires : goal.first_block-requires
first_block-requires c =
    let s = c.self.inside in
    let t = c.requires.0 in
    let grain = grain_of c.args.base.0 in
    let at =
    entry_at_seen_base s c.args.self.now c.args.base.0 t c.self.view_is c.requires.1 c.requires.2
    in
    let read = get_or_read s.table.items grain c.index.result.now at.within c.index.ensures Free ∙ at.is in
    let grains = grains_read c.in-First.is read in
    omega (
      arith,
      grains,
      segment_end_fits s.arena s.table.items s.extents c.self.invariant.0 grain t.grains t.pool t.generation t.rank at.is,
    )

pub overflow_mul-result : goal.overflow_mul-result
overflow_mul-result c =
    let s = c.self.inside in
    let t = c.requires.0 in
    let grain = grain_of c.args.base.0 in
    let at =
    entry_at_seen_base s c.args.self.now c.args.base.0 t c.self.view_is c.requires.1 c.requires.2
    in
    let read = get_or_read s.table.items grain c.index.result.now at.within c.index.ensures Free ∙ at.is in
    let grains = grains_read c.in-First.is read in
    let low = word_of c.args.from.0 in
    let high = words_of_grain * (grain + c.in-First.grains) in
    let below = first_run-below low high s.extents.blocks c.in_ok-word.word (sym c.first_block.ensures.value ∙ c.in_ok-word.was) in
    omega (
      arith,
      below,
      grains,
      segment_end_fits s.arena s.table.items s.extents c.self.invariant.0 grain t.grains t.pool t.generation t.rank at.is,
      c.self.invariant.0.at_most,
      c.self.invariant.0.covered_size,
    )

pub returns-in_err-word : goal.returns-in_err-word
returns-in_err-word c =
    λ t listed begins.
    let s = c.self.inside in
    let grain = grain_of c.args.base.0 in
    let low = word_of c.args.from.0 in
    let at = entry_at_seen_base s c.args.self.now c.args.base.0 t c.self.view_is listed begins in
    let read = get_or_read s.table.items grain c.index.result.now at.within c.index.ensures Free ∙ at.is in
    let grains = grains_read c.in-First.is read in
    let high : words_of_grain * (grain + c.in-First.grains) ≡ word_of (end_of_segment t) = omega (arith, grains, at.aligned, begins) in
    let answer = c.first_block.ensures.value ∙ ap (λ (h : ℕ). first_run low h s.extents.blocks) high in
    c.from_residual.ensures ∙ ap (λ (o : Option ℕ). option_map at_word o) (sym c.in_err-word.was ∙ answer)
    ∙ ap (λ (st : SegsState). option_map at_word (first_run low (word_of (end_of_segment t)) st.blocks)) c.self.view_is

pub returns : goal.returns
returns c =
    λ t listed begins.
    let s = c.self.inside in
    let grain = grain_of c.args.base.0 in
    let low = word_of c.args.from.0 in
    let at = entry_at_seen_base s c.args.self.now c.args.base.0 t c.self.view_is listed begins in
    let read = get_or_read s.table.items grain c.index.result.now at.within c.index.ensures Free ∙ at.is in
    let grains = grains_read c.in-First.is read in
    let high : words_of_grain * (grain + c.in-First.grains) ≡ word_of (end_of_segment t) = omega (arith, grains, at.aligned, begins) in
    let answer = c.first_block.ensures.value ∙ ap (λ (h : ℕ). first_run low h s.extents.blocks) high in
    ap (λ (o : Option ℕ). option_map at_word o) (sym c.in_ok-word.was ∙ answer)
    ∙ ap (λ (st : SegsState). option_map at_word (first_run low (word_of (end_of_segment t)) st.blocks)) c.self.view_is
