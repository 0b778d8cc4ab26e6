use Rattle.std.proofs.Common.{ℕ, suc, ◌*◌, ◌≡◌, ◌<◌, List, [], Option, Some, None, option_map, length, get_or, drop, sym, ap, ◌∙◌, subst, arith, add-one}
use Rattle.std.proofs.lemmas.List.{drop_all, get_or_read}
use Rattle.mps_base.specs.Run.{Run, lowest_fitting}
use Rattle.mps_seg.specs.declared.entry.Entry.{Entry}
use Rattle.mps_seg.specs.declared.entry.Entry.TheVariants.{Free}
use Rattle.mps_seg.specs.Segs.{SegsState, at_word, CanCover, LiesInOpen}
use Rattle.mps_seg.specs.Table.{gaps_at}
use Rattle.mps_seg.proofs.GapSegment.{gap_in_open_segment}
use Rattle.mps_seg.proofs.Seen.{seen_by}
use Rattle.mps_seg.proofs.FullSegments.{gaps_passed}
use Rattle.mps_seg.proofs.HeldSegments.{whole_at, gap_at_is_free}
use Rattle.mps_seg.proofs.OpenGaps.{later_gaps, all_gaps, no_gaps, gaps_more, lowest_in_prefix, lowest_in_rest}
use Rattle.mps_base.specs.Segment.{gaps_of}
use Rattle.mps_seg.proofs.segs.Segs.lowest_gap.Goals as goal
use Rattle.mps_base.specs.Address.{word_of, bytes_of_word}

-- the entry of the grain that is found
entry_read : (table : List Entry) (grain : ℕ) (e : Entry) → grain < length table → e ≡ get_or table grain e → e ≡ get_or table grain Free
entry_read table grain e within is = get_or_read table grain e within is Free

pub gap_after-requires-clause-whole : goal.gap_after-requires-clause-whole
gap_after-requires-clause-whole c =
    let s = c.self.inside in
    let lowest = c.in-Some.ensures.sound in
    let within : c.in-Some.grain < length s.table.items =
    omega (arith, lowest.below, c.self.invariant.0.size, c.self.invariant.1.bounds_size)
    in
    let read = entry_read s.table.items c.in-Some.grain c.index-entry.result.now within c.index-entry.ensures in
    whole_at s.arena s.table.items s.extents c.self.invariant.0 c.in-Some.grain c.index-entry.result.now (sym read)

pub returns-in-Some-gap_after-clause-value : goal.returns-in-Some-gap_after-clause-value
returns-in-Some-gap_after-clause-value c =
    let s = c.self.inside in
    let table = s.table.items in
    let grain = c.in-Some.grain in
    let lowest = c.in-Some.ensures.sound in
    let within : grain < length table = omega (arith, lowest.below, c.self.invariant.0.size, c.self.invariant.1.bounds_size) in
    let read = entry_read table grain c.index-entry.result.now within c.index-entry.ensures in
    let P : Entry → Type 0 = λ e.
    Some c.in-Some-gap_after.word ≡ lowest_fitting c.args.words (gaps_at grain e c.args.pool c.args.rank s.extents)
    in
    let here = subst P read c.in-Some-gap_after.ensures.value in
    let found =
    lowest_in_prefix c.args.words c.in-Some-gap_after.word (gaps_at grain (get_or table grain Free) c.args.pool c.args.rank s.extents)
    (later_gaps s.extents.covered c.args.pool c.args.rank (suc grain) (drop (suc grain) table)) (sym here)
    in
    let passed =
    gaps_passed s.arena table s.extents s.firsts.items s.bounds c.self.invariant.0 c.self.invariant.1 c.args.pool c.args.rank c.args.words
    c.requires c.loop-grain.from grain lowest.above (omega (arith, within)) lowest.lowest
    in
    ap (λ (o : Option ℕ). option_map at_word o)
    (sym found ∙ ap (λ (rs : List Run). lowest_fitting c.args.words rs)
    (sym (gaps_more s.extents table c.args.pool c.args.rank grain within))
    ∙ sym passed
    ∙ c.loop-grain.invariant.1
    ∙ ap (λ (rs : List Run). lowest_fitting c.args.words rs) (all_gaps s.extents.covered table c.args.pool c.args.rank))
    ∙ ap (λ (x : SegsState). option_map at_word (lowest_fitting c.args.words (gaps_of x.covered x.segments c.args.pool c.args.rank)))
    c.self.view_is

pub returns-in-Some-gap_after-clause-free : goal.returns-in-Some-gap_after-clause-free
returns-in-Some-gap_after-clause-free c =
    let s = c.self.inside in
    let grain = c.in-Some.grain in
    let word = c.in-Some-gap_after.word in
    let within : grain < length s.table.items =
    omega (arith, c.in-Some.ensures.sound.below, c.self.invariant.0.size, c.self.invariant.1.bounds_size)
    in
    let read = entry_read s.table.items grain c.index-entry.result.now within c.index-entry.ensures in
    let shifted : word_of (bytes_of_word * word) ≡ word = omega arith in
    let P : ℕ → Type 0 = λ w. CanCover (seen_by s) (record { from = w; count = c.args.words }) in
    let R : SegsState → Type 0 = λ st. CanCover st (record { from = word_of (bytes_of_word * word); count = c.args.words }) in
    subst R c.self.view_is (subst P (sym shifted)
    (gap_at_is_free s.arena s.table.items s.extents c.self.invariant.0 grain c.index-entry.result.now c.args.pool c.args.rank
    c.args.words word (sym read) c.requires (sym c.in-Some-gap_after.ensures.value)))

pub returns-in-Some-gap_after-clause-in_segment : goal.returns-in-Some-gap_after-clause-in_segment
returns-in-Some-gap_after-clause-in_segment c =
    let s = c.self.inside in
    let grain = c.in-Some.grain in
    let within : grain < length s.table.items =
    omega (arith, c.in-Some.ensures.sound.below, c.self.invariant.0.size, c.self.invariant.1.bounds_size)
    in
    let read = entry_read s.table.items grain c.index-entry.result.now within c.index-entry.ensures in
    let R : SegsState → Type 0 = λ st. LiesInOpen st.segments c.args.pool c.args.rank (bytes_of_word * c.in-Some-gap_after.word) in
    subst R c.self.view_is
    (gap_in_open_segment s.arena s.table.items s.extents c.self.invariant.0 grain c.index-entry.result.now c.args.pool c.args.rank
    c.args.words c.in-Some-gap_after.word (sym read) c.requires (sym c.in-Some-gap_after.ensures.value))

pub loop-grain-preserved : goal.loop-grain-preserved
loop-grain-preserved c =
    let s = c.self.inside in
    let table = s.table.items in
    let grain = c.in-Some.grain in
    let lowest = c.in-Some.ensures.sound in
    let within : grain < length table = omega (arith, lowest.below, c.self.invariant.0.size, c.self.invariant.1.bounds_size) in
    let read = entry_read table grain c.index-entry.result.now within c.index-entry.ensures in
    let P : Entry → Type 0 = λ e. None ≡ lowest_fitting c.args.words (gaps_at grain e c.args.pool c.args.rank s.extents) in
    let here = subst P read c.in_default-gap_after.ensures.value in
    let passed =
    gaps_passed s.arena table s.extents s.firsts.items s.bounds c.self.invariant.0 c.self.invariant.1 c.args.pool c.args.rank c.args.words
    c.requires c.loop-grain.from grain lowest.above (omega (arith, within)) lowest.lowest
    in
    let R : ℕ → Type 0 =
    λ k. lowest_fitting c.args.words (later_gaps s.extents.covered c.args.pool c.args.rank k (drop k table)) ≡ lowest_fitting
    c.args.words (later_gaps s.extents.covered c.args.pool c.args.rank 0 table)
    in (
      omega (arith, within),
      subst R (sym (add-one grain))
          (sym (lowest_in_rest c.args.words (gaps_at grain (get_or table grain Free) c.args.pool c.args.rank s.extents)
          (later_gaps s.extents.covered c.args.pool c.args.rank (suc grain) (drop (suc grain) table)) (sym here))
          ∙ ap (λ (rs : List Run). lowest_fitting c.args.words rs)
          (sym (gaps_more s.extents table c.args.pool c.args.rank grain within))
          ∙ sym passed ∙ c.loop-grain.invariant.1),
    )

pub returns-clause-value : goal.returns-clause-value
returns-clause-value c =
    let s = c.self.inside in
    let table = s.table.items in
    let size = length table in
    let same : length s.bounds ≡ size = omega (arith, c.self.invariant.0.size, c.self.invariant.1.bounds_size) in
    let passed =
    gaps_passed s.arena table s.extents s.firsts.items s.bounds c.self.invariant.0 c.self.invariant.1 c.args.pool c.args.rank c.args.words
    c.requires c.loop-grain.from size c.loop-grain.invariant.0 (omega arith)
    (λ i above below inside. c.in_default.ensures.complete i above (omega (arith, same)) inside)
    in
    let none : later_gaps s.extents.covered c.args.pool c.args.rank size (drop size table) ≡ [] =
    ap (λ (es : List Entry). later_gaps s.extents.covered c.args.pool c.args.rank size es) (drop_all size table (omega arith))
    ∙ no_gaps s.extents.covered c.args.pool c.args.rank size
    in
    ap (λ (o : Option ℕ). option_map at_word o)
    (sym (ap (λ (rs : List Run). lowest_fitting c.args.words rs) none)
    ∙ sym passed
    ∙ c.loop-grain.invariant.1
    ∙ ap (λ (rs : List Run). lowest_fitting c.args.words rs) (all_gaps s.extents.covered table c.args.pool c.args.rank))
    ∙ ap (λ (x : SegsState). option_map at_word (lowest_fitting c.args.words (gaps_of x.covered x.segments c.args.pool c.args.rank)))
    c.self.view_is
