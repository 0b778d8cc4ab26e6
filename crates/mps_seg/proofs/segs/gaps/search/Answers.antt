use Rattle.std.proofs.Common.{ℕ, suc, ◌<◌, ◌≡◌, List, [], length, get_or, drop, refl, sym, ap, ◌∙◌, subst, arith, add-one}
use Rattle.std.proofs.lemmas.List.{drop_all}
use Rattle.mps_base.specs.Run.{Run, lowest_fitting}
use Rattle.mps_seg.specs.declared.entry.Entry.{Entry}
use Rattle.mps_seg.specs.declared.entry.Entry.TheVariants.{Free}
use Rattle.mps_seg.specs.Table.{gaps_at}
use Rattle.mps_seg.proofs.FullSegments.{gaps_passed, lowered}
use Rattle.mps_seg.proofs.HeldSegments.{whole_at, gap_at_is_free}
use Rattle.mps_seg.proofs.OpenGaps.{later_gaps, all_gaps, no_gaps, gaps_more, lowest_in_prefix, lowest_in_rest}
use Rattle.mps_seg.proofs.segs.gaps.search.Goals.{then-is_open, else-is_open}
use Rattle.mps_seg.proofs.segs.gaps.search.Goals as goal

pub loop-grain-init : goal.loop-grain-init
loop-grain-init c = (omega arith, refl, λ arena firsts held bounded. bounded)

pub bounds-table-grain : goal.bounds-table-grain
bounds-table-grain c =
    let sound = c.requires.sound in
    let bounded = c.loop-grain.invariant.2 sound.0 sound.1 sound.2 sound.3 in
    omega (arith, c.in-Some.ensures.sound.below, sound.2.size, bounded.bounds_size)

pub offset_bounds-table-grain : goal.offset_bounds-table-grain
offset_bounds-table-grain c =
    let sound = c.requires.sound in
    let bounded = c.loop-grain.invariant.2 sound.0 sound.1 sound.2 sound.3 in
    omega (arith, c.in-Some.ensures.sound.below, sound.2.at_most, bounded.bounds_size)

pub gap_after-requires-clause-in_arena : goal.gap_after-requires-clause-in_arena
gap_after-requires-clause-in_arena c =
    let sound = c.requires.sound in
    let bounded = c.loop-grain.invariant.2 sound.0 sound.1 sound.2 sound.3 in
    omega (arith, c.in-Some.ensures.sound.below, sound.2.at_most, bounded.bounds_size)

pub gap_after-requires-clause-whole : goal.gap_after-requires-clause-whole
gap_after-requires-clause-whole c =
    let sound = c.requires.sound in
    whole_at sound.0 c.args.table.now c.args.extents.now sound.2 c.in-Some.grain (get_or c.args.table.now c.in-Some.grain Free) refl

pub returns-in-Some-gap_after-clause-value : goal.returns-in-Some-gap_after-clause-value
returns-in-Some-gap_after-clause-value c =
    let sound = c.requires.sound in
    let table = c.args.table.now in
    let ex = c.args.extents.now in
    let grain = c.in-Some.grain in
    let lowest = c.in-Some.ensures.sound in
    let bounded = c.loop-grain.invariant.2 sound.0 sound.1 sound.2 sound.3 in
    let within : grain < length table = omega (arith, lowest.below, sound.2.size, bounded.bounds_size) in
    let found =
    lowest_in_prefix c.args.words c.in-Some-gap_after.word (gaps_at grain (get_or table grain Free) c.args.pool c.args.rank ex)
    (later_gaps ex.covered c.args.pool c.args.rank (suc grain) (drop (suc grain) table)) (sym c.in-Some-gap_after.ensures.value)
    in
    let passed =
    gaps_passed sound.0 table ex sound.1 c.loop-grain.bounds sound.2 bounded c.args.pool c.args.rank c.args.words
    c.requires.nonzero c.loop-grain.from grain lowest.above (omega (arith, within)) lowest.lowest
    in
    sym found
    ∙ ap (λ (rs : List Run). lowest_fitting c.args.words rs) (sym (gaps_more ex table c.args.pool c.args.rank grain within))
    ∙ sym passed
    ∙ c.loop-grain.invariant.1
    ∙ ap (λ (rs : List Run). lowest_fitting c.args.words rs) (all_gaps ex.covered table c.args.pool c.args.rank)

pub returns-in-Some-gap_after-clause-free : goal.returns-in-Some-gap_after-clause-free
returns-in-Some-gap_after-clause-free c = λ arena held.
    gap_at_is_free arena c.args.table.now c.args.extents.now held c.in-Some.grain (get_or c.args.table.now c.in-Some.grain Free)
    c.args.pool c.args.rank c.args.words c.in-Some-gap_after.word refl c.requires.nonzero (sym c.in-Some-gap_after.ensures.value)

pub returns-in-Some-gap_after-clause-bounded : goal.returns-in-Some-gap_after-clause-bounded
returns-in-Some-gap_after-clause-bounded c = c.loop-grain.invariant.2

pub overflow_add-from : goal.overflow_add-from
overflow_add-from c =
    let sound = c.requires.sound in
    let bounded = c.loop-grain.invariant.2 sound.0 sound.1 sound.2 sound.3 in
    omega (arith, c.in-Some.ensures.sound.below, sound.2.at_most, bounded.bounds_size)

pub loop-grain-smaller : goal.loop-grain-smaller
loop-grain-smaller c =
    let sound = c.requires.sound in
    let bounded = c.loop-grain.invariant.2 sound.0 sound.1 sound.2 sound.3 in
    omega (arith, c.in-Some.ensures.sound.below, c.in-Some.ensures.sound.above, sound.2.size, bounded.bounds_size)

pub loop-grain-preserved : goal.loop-grain-preserved
loop-grain-preserved c =
    let sound = c.requires.sound in
    let table = c.args.table.now in
    let ex = c.args.extents.now in
    let grain = c.in-Some.grain in
    let entry = get_or table grain Free in
    let lowest = c.in-Some.ensures.sound in
    let bounded = c.loop-grain.invariant.2 sound.0 sound.1 sound.2 sound.3 in
    let within : grain < length table = omega (arith, lowest.below, sound.2.size, bounded.bounds_size) in
    let here = c.in_default-gap_after.ensures.value in
    let passed =
    gaps_passed sound.0 table ex sound.1 c.loop-grain.bounds sound.2 bounded c.args.pool c.args.rank c.args.words
    c.requires.nonzero c.loop-grain.from grain lowest.above (omega (arith, within)) lowest.lowest
    in
    let R : ℕ → Type 0 =
    λ k. lowest_fitting c.args.words (later_gaps ex.covered c.args.pool c.args.rank k (drop k table)) ≡ lowest_fitting
    c.args.words (later_gaps ex.covered c.args.pool c.args.rank 0 table)
    in (
      omega (arith, within),
      subst R (sym (add-one grain))
          (sym (lowest_in_rest c.args.words (gaps_at grain entry c.args.pool c.args.rank ex)
          (later_gaps ex.covered c.args.pool c.args.rank (suc grain) (drop (suc grain) table)) (sym here))
          ∙ ap (λ (rs : List Run). lowest_fitting c.args.words rs)
          (sym (gaps_more ex table c.args.pool c.args.rank grain within))
          ∙ sym passed ∙ c.loop-grain.invariant.1),
      λ arena firsts held was.
          let still = c.loop-grain.invariant.2 arena firsts held was in
          elim c.if-is_open.branch [
            | then-is_open w ↦
                rw (w.bounds-is, w.set.ensures)
                (lowered arena table ex firsts c.loop-grain.bounds held still c.args.pool c.args.rank c.args.words c.requires.nonzero grain
                entry refl (sym c.is_open.ensures ∙ w.if-is_open.true) (sym here))
            | else-is_open w ↦ rw w.bounds-is still
          ],
    )

pub returns-clause-value : goal.returns-clause-value
returns-clause-value c =
    let sound = c.requires.sound in
    let table = c.args.table.now in
    let ex = c.args.extents.now in
    let size = length table in
    let bounded = c.loop-grain.invariant.2 sound.0 sound.1 sound.2 sound.3 in
    let passed =
    gaps_passed sound.0 table ex sound.1 c.loop-grain.bounds sound.2 bounded c.args.pool c.args.rank c.args.words
    c.requires.nonzero c.loop-grain.from size c.loop-grain.invariant.0 (omega arith)
    (λ i above below inside. c.in_default.ensures.complete i above (omega (arith, below, sound.2.size, bounded.bounds_size)) inside)
    in
    let none : later_gaps ex.covered c.args.pool c.args.rank size (drop size table) ≡ [] =
    ap (λ (es : List Entry). later_gaps ex.covered c.args.pool c.args.rank size es) (drop_all size table (omega arith))
    ∙ no_gaps ex.covered c.args.pool c.args.rank size
    in
    sym (ap (λ (rs : List Run). lowest_fitting c.args.words rs) none)
    ∙ sym passed
    ∙ c.loop-grain.invariant.1
    ∙ ap (λ (rs : List Run). lowest_fitting c.args.words rs) (all_gaps ex.covered table c.args.pool c.args.rank)

pub returns-clause-bounded : goal.returns-clause-bounded
returns-clause-bounded c = c.loop-grain.invariant.2
