use Rattle.std.proofs.Common.{ℕ, ◌+◌, ◌*◌, ◌<◌, ◌≡◌, List, refl, sym, ap, ◌∙◌, subst, arith}
use Rattle.mps_base.specs.Address.{word_of}
use Rattle.mps_base.specs.Segment.{end_of_segment}
use Rattle.mps_base.specs.Trail.{Moves, with_move}
use Rattle.mps_base.specs.declared.moves.Move.TheVariants.{Unseg}
use Rattle.mps_extents.specs.Extents.{AreWhole}
use Rattle.mps_seg.specs.Reclaiming.{freed_in}
use Rattle.mps_seg.specs.Segs.{SegsState, IsEmptyAt}
use Rattle.mps_seg.proofs.HeldWords.{over_is_in}
use Rattle.mps_amc.specs.Reclaiming.{is_given, is_padded}
use Rattle.mps_seg.proofs.Reclaimed.{listed, end_fits, still_listed, still_span, given_then, room_left}
use Rattle.mps_amc.proofs.Reclaimed.{used_then, padded_then, full_is_padded, used_if_full}
use Rattle.mps_amc.proofs.amc.Amc.reclaim_seg.Goals as goal

pub segment-requires : goal.segment-requires
segment-requires g c = (
  c.requires.segment.segment,
  listed c.args.segs.now c.args.base.0 c.args.trail.now.spare c.requires.segment,
  c.requires.segment.begins,
)

pub overflow_add-end : goal.overflow_add-end
overflow_add-end g c =
    let fits =
    end_fits c.args.segs.now c.args.base.0 c.args.trail.now.spare c.requires.segment c.segment.result c.from-bytes.result
    c.segment.ensures c.from-bytes.ensures
    in
    omega (arith, fits, c.requires.segment.inside, c.grains.ensures.at_most)

pub is_empty-requires : goal.is_empty-requires
is_empty-requires g c =
    let t = c.requires.segment in (
      t.segment,
      still_listed c.args.segs.now c.args.base.0 c.args.trail.now.spare t c.drop_lost.new.self (c.drop_lost.ensures.state t.segment t.over),
      t.begins,
    )

pub give-requires-clause-empty : goal.give-requires-clause-empty
give-requires-clause-empty g c =
    let t = c.requires.segment in
    let there =
    still_listed c.args.segs.now c.args.base.0 c.args.trail.now.spare t c.drop_lost.new.self (c.drop_lost.ensures.state t.segment t.over)
    in
    (t.segment, there, c.is_empty.ensures.sound t.segment there t.begins c.if-is_empty.true)

pub give-requires-clause-fits : goal.give-requires-clause-fits
give-requires-clause-fits g c =
    let t = c.requires.segment in
    room_left c.args.segs.now c.args.base.0 c.args.trail.now.spare t c.args.trail.now c.drop_lost.new.trail refl
    (c.drop_lost.ensures.moves t.segment t.over)

pub pad_around-requires-clause-span : goal.pad_around-requires-clause-span
pad_around-requires-clause-span g c =
    let t = c.requires.segment in
    still_span c.args.segs.now c.args.base.0 c.args.trail.now.spare t c.drop_lost.new.self (c.drop_lost.ensures.state t.segment t.over) _
    (end_fits c.args.segs.now c.args.base.0 c.args.trail.now.spare t c.segment.result c.from-bytes.result c.segment.ensures
    c.from-bytes.ensures)

pub pad_around-requires-clause-held : goal.pad_around-requires-clause-held
pad_around-requires-clause-held g c =
    let t = c.requires.segment in
    let there =
    still_listed c.args.segs.now c.args.base.0 c.args.trail.now.spare t c.drop_lost.new.self (c.drop_lost.ensures.state t.segment t.over)
    in
    let fits =
    end_fits c.args.segs.now c.args.base.0 c.args.trail.now.spare t c.segment.result c.from-bytes.result c.segment.ensures
    c.from-bytes.ensures
    in
    let lies = c.segments_are_held.ensures.held t.segment there in
    record {
      grains = lies.grains;
      there = lies.there;
      after = omega (arith, lies.after, t.begins);
      before = omega (arith, lies.before, t.begins, fits);
    }

pub pad_around-requires-clause-whole : goal.pad_around-requires-clause-whole
pad_around-requires-clause-whole g c =
    let t = c.requires.segment in
    let x = c.drop_lost.new.self in
    let there = still_listed c.args.segs.now c.args.base.0 c.args.trail.now.spare t x (c.drop_lost.ensures.state t.segment t.over) in
    let fits =
    end_fits c.args.segs.now c.args.base.0 c.args.trail.now.spare t c.segment.result c.from-bytes.result c.segment.ensures
    c.from-bytes.ensures
    in
    let P : ℕ → Type 0 = λ low. AreWhole low (word_of (end_of_segment t.segment)) x.covered in
    let Q : ℕ → Type 0 = λ high. AreWhole (word_of c.args.base.0) high x.covered in
    let begins : word_of t.segment.base ≡ word_of c.args.base.0 = ap word_of t.begins in
    subst Q (sym fits) (subst P begins (c.segments_are_held.ensures.whole t.segment there))

pub is_full-requires : goal.is_full-requires
is_full-requires g c =
    let t = c.requires.segment in
    still_span c.args.segs.now c.args.base.0 c.args.trail.now.spare t c.drop_lost.new.self (c.drop_lost.ensures.state t.segment t.over) _
    (end_fits c.args.segs.now c.args.base.0 c.args.trail.now.spare t c.segment.result c.from-bytes.result c.segment.ensures
    c.from-bytes.ensures)

-- a full segment has no words to pad
pub returns-then-is_full : goal.returns-then-is_full
returns-then-is_full g c =
    let s = c.args.segs.now in
    let t = c.requires.segment in
    let x = c.drop_lost.new.self in
    let freed = c.drop_lost.ensures.state t.segment t.over in
    let full = c.is_full.ensures.sound c.if-is_full.true in
    let fits =
    end_fits s c.args.base.0 c.args.trail.now.spare t c.segment.result c.from-bytes.result c.segment.ensures c.from-bytes.ensures
    in
    let over = over_is_in s.segments c.args.base.0 t.segment t.over in
    let begins : word_of c.args.base.0 ≡ word_of t.segment.base = ap word_of (sym t.begins) in
    let some : word_of c.args.base.0 < word_of (c.args.base.0 + 4096 * c.from-bytes.result) =
    omega (arith, fits, over.1, t.begins, c.requires.aligned) in
    let Q : List ℕ → SegsState = λ ws. record (freed_in s t.segment) { words = ws } in
    is_padded t.segment t.over
    (used_then s x t.segment freed (used_if_full x t.segment _ _ begins fits some full c.blocks_are_covered.ensures))
    (freed ∙ ap Q (sym (ap (λ (y : SegsState). y.words) freed)))
    (padded_then s x t.segment freed (g.F.Format.layout c.args.format.now) c.args.base.0 _ x.words fits
    (full_is_padded (g.F.Format.layout c.args.format.now) _ _ x.blocks x.words full))
    (c.drop_lost.ensures.moves t.segment t.over)

pub returns-then-is_empty : goal.returns-then-is_empty
returns-then-is_empty g c =
    let t = c.requires.segment in
    let x = c.drop_lost.new.self in
    let freed = c.drop_lost.ensures.state t.segment t.over in
    let there = still_listed c.args.segs.now c.args.base.0 c.args.trail.now.spare t x freed in
    let P : SegsState → Type 0 = λ y. IsEmptyAt y c.args.base.0 t.segment in
    is_given t.segment t.over
    (subst P freed (c.is_empty.ensures.sound t.segment there t.begins c.if-is_empty.true))
    (given_then c.args.segs.now c.args.base.0 c.args.trail.now.spare t x freed c.give.new.self c.give.ensures.state)
    (c.give.ensures.moves ∙ ap (λ (m : Moves). with_move m (Unseg c.args.base)) (c.drop_lost.ensures.moves t.segment t.over))

pub returns-else-is_empty : goal.returns-else-is_empty
returns-else-is_empty g c =
    let s = c.args.segs.now in
    let t = c.requires.segment in
    let x = c.drop_lost.new.self in
    let freed = c.drop_lost.ensures.state t.segment t.over in
    let there = still_listed s c.args.base.0 c.args.trail.now.spare t x freed in
    let Q : SegsState → SegsState = λ z. record z { words = c.pad_around.new.segs.words } in
    is_padded t.segment t.over
    (used_then s x t.segment freed (c.is_empty.ensures.complete t.segment there t.begins c.if-is_empty.false))
    (c.pad_around.ensures.state ∙ ap Q freed)
    (padded_then s x t.segment freed (g.F.Format.layout c.args.format.now) c.args.base.0 _ c.pad_around.new.segs.words
    (end_fits s c.args.base.0 c.args.trail.now.spare t c.segment.result c.from-bytes.result c.segment.ensures c.from-bytes.ensures)
    c.pad_around.ensures.words)
    (c.drop_lost.ensures.moves t.segment t.over)
