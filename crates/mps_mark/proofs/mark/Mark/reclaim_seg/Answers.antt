use Rattle.std.proofs.Common.{ℕ, List, length, refl, sym, ap, ◌∙◌, subst}
use Rattle.std.specs.Prelude.{slice_index}
use Rattle.mps_base.specs.Trail.{Moves, with_move}
use Rattle.mps_base.specs.declared.moves.Move.TheVariants.{Unseg}
use Rattle.mps_seg.specs.Segs.{SegsState, IsEmptyAt, IsUsed}
use Rattle.mps_seg.specs.Reclaiming.{is_given, is_used, lost_of, freed_in}
use Rattle.mps_seg.proofs.Lost.{words_after}
use Rattle.mps_seg.proofs.Reclaimed.{still_listed, given_then, room_left}
use Rattle.mps_mark.proofs.mark.Mark.reclaim_seg.Goals as goal

pub is_empty-requires : goal.is_empty-requires
is_empty-requires c =
    let t = c.requires in (
      t.segment,
      still_listed c.args.segs.now c.args.base.0 c.args.trail.now.spare t c.drop_lost.new.self (c.drop_lost.ensures.state t.segment t.over),
      t.begins,
    )

pub give-requires-clause-empty : goal.give-requires-clause-empty
give-requires-clause-empty c =
    let t = c.requires in
    let there =
    still_listed c.args.segs.now c.args.base.0 c.args.trail.now.spare t c.drop_lost.new.self (c.drop_lost.ensures.state t.segment t.over)
    in
    (t.segment, there, c.is_empty.ensures.sound t.segment there t.begins c.if-is_empty.true)

pub give-requires-clause-fits : goal.give-requires-clause-fits
give-requires-clause-fits c =
    let t = c.requires in
    room_left c.args.segs.now c.args.base.0 c.args.trail.now.spare t c.args.trail.now c.drop_lost.new.trail refl
    (c.drop_lost.ensures.moves t.segment t.over)

pub returns-then-is_empty-clause-swept : goal.returns-then-is_empty-clause-swept
returns-then-is_empty-clause-swept c =
    let t = c.requires in
    let x = c.drop_lost.new.self in
    let freed = c.drop_lost.ensures.state t.segment t.over in
    let there = still_listed c.args.segs.now c.args.base.0 c.args.trail.now.spare t x freed in
    let P : SegsState → Type 0 = λ y. IsEmptyAt y c.args.base.0 t.segment in
    is_given t.segment t.over
    (subst P freed (c.is_empty.ensures.sound t.segment there t.begins c.if-is_empty.true))
    (given_then c.args.segs.now c.args.base.0 c.args.trail.now.spare t x freed c.give.new.self c.give.ensures.state)
    (c.give.ensures.moves ∙ ap (λ (m : Moves). with_move m (Unseg c.args.base)) (c.drop_lost.ensures.moves t.segment t.over))

pub returns-then-is_empty-clause-words : goal.returns-then-is_empty-clause-words
returns-then-is_empty-clause-words c =
    let t = c.requires in
    ap (λ (x : SegsState). x.words) c.give.ensures.state
    ∙ ap (λ (x : SegsState). x.words) (c.drop_lost.ensures.state t.segment t.over)
    ∙ words_after (lost_of c.args.segs.now t.segment) c.args.segs.now

pub returns-else-is_empty-clause-words : goal.returns-else-is_empty-clause-words
returns-else-is_empty-clause-words c =
    let t = c.requires in
    ap (λ (x : SegsState). x.words) (c.drop_lost.ensures.state t.segment t.over)
    ∙ words_after (lost_of c.args.segs.now t.segment) c.args.segs.now

pub returns-else-is_empty-clause-swept : goal.returns-else-is_empty-clause-swept
returns-else-is_empty-clause-swept c =
    let s = c.args.segs.now in
    let t = c.requires in
    let x = c.drop_lost.new.self in
    let freed = c.drop_lost.ensures.state t.segment t.over in
    let there = still_listed s c.args.base.0 c.args.trail.now.spare t x freed in
    let same = ap (λ (y : SegsState). y.words) freed ∙ words_after (lost_of s t.segment) s in
    let P : SegsState → Type 0 = λ y. IsUsed y t.segment in
    let Q : List ℕ → SegsState = λ ws. record (freed_in s t.segment) { words = ws } in
    is_used t.segment t.over
    (subst P freed (c.is_empty.ensures.complete t.segment there t.begins c.if-is_empty.false))
    (freed ∙ ap Q (sym (ap (λ (y : SegsState). y.words) freed)))
    (record {
      long = ap (λ (ws : List ℕ). length ws) same;
      inside = λ i covered. ap (λ (ws : List ℕ). slice_index ws i) same;
      outside = λ i out. ap (λ (ws : List ℕ). slice_index ws i) same;
    })
    (c.drop_lost.ensures.moves t.segment t.over)
