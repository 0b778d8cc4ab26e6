use Rattle.std.proofs.Common.{ℕ, ◌<◌, ◌≡◌, Bool, List, length, sym, ap, ◌∙◌, subst, arith}
use Rattle.mps_base.specs.Address.{grain_of}
use Rattle.mps_base.specs.Run.{Run}
use Rattle.mps_extents.specs.Lost.{frees}
use Rattle.mps_extents.proofs.Dropping.{dropped}
use Rattle.mps_marks.specs.Marks.{MarkTables}
use Rattle.mps_seg.specs.Table.{first_at, with_any_gap}
use Rattle.mps_seg.proofs.Reclaimed.{listed}
use Rattle.mps_seg.proofs.Sweeping.{sweeping}
use Rattle.mps_seg.proofs.segs.Segs.drop_lost.Goals as goal

pub segment-grains-requires : goal.segment-grains-requires
segment-grains-requires c =
    (c.requires.segment, listed c.args.self.now c.args.base.0 c.args.trail.now.spare c.requires, c.requires.begins)

pub is_any_lost-requires-clause-in_words : goal.is_any_lost-requires-clause-in_words
is_any_lost-requires-clause-in_words c =
    (sweeping c.self.inside c.requires c.self.invariant c.self.view_is c.word-low.ensures c.segment-grains.ensures
    c.blocks_are_covered.ensures c.blocks_are_in_order.ensures).in_words

pub is_any_lost-requires-clause-in_table : goal.is_any_lost-requires-clause-in_table
is_any_lost-requires-clause-in_table c =
    (sweeping c.self.inside c.requires c.self.invariant c.self.view_is c.word-low.ensures c.segment-grains.ensures
    c.blocks_are_covered.ensures c.blocks_are_in_order.ensures).in_table

pub is_any_lost-requires-clause-in_kept : goal.is_any_lost-requires-clause-in_kept
is_any_lost-requires-clause-in_kept c =
    let swept = sweeping c.self.inside c.requires c.self.invariant c.self.view_is c.word-low.ensures c.segment-grains.ensures
    c.blocks_are_covered.ensures c.blocks_are_in_order.ensures
    in
    omega (arith, swept.in_kept, ap (λ (ks : List Bool). length ks) c.kept.ensures)

-- where no block is lost nothing changes
pub returns-then-not-is_any_lost-clause-state : goal.returns-then-not-is_any_lost-clause-state
returns-then-not-is_any_lost-clause-state c =
    λ t over.
    let swept = sweeping c.self.inside c.requires c.self.invariant c.self.view_is c.word-low.ensures c.segment-grains.ensures
    c.blocks_are_covered.ensures c.blocks_are_in_order.ensures
    in
    sym c.self.view_is
    ∙ swept.none_changed t over (swept.none_lost c.kept.ensures (c.is_any_lost.ensures.none c.if-not-is_any_lost.true))

pub returns-then-not-is_any_lost-clause-moves : goal.returns-then-not-is_any_lost-clause-moves
returns-then-not-is_any_lost-clause-moves c =
    λ t over.
    let swept = sweeping c.self.inside c.requires c.self.invariant c.self.view_is c.word-low.ensures c.segment-grains.ensures
    c.blocks_are_covered.ensures c.blocks_are_in_order.ensures
    in
    swept.none_freed t c.args.trail.now over (swept.none_lost c.kept.ensures (c.is_any_lost.ensures.none c.if-not-is_any_lost.true))

pub clear_lost-requires-clause-in_table : goal.clear_lost-requires-clause-in_table
clear_lost-requires-clause-in_table c =
    (sweeping c.self.inside c.requires c.self.invariant c.self.view_is c.word-low.ensures c.segment-grains.ensures
    c.blocks_are_covered.ensures c.blocks_are_in_order.ensures).in_table

pub clear_lost-requires-clause-in_kept : goal.clear_lost-requires-clause-in_kept
clear_lost-requires-clause-in_kept c =
    (sweeping c.self.inside c.requires c.self.invariant c.self.view_is c.word-low.ensures c.segment-grains.ensures
    c.blocks_are_covered.ensures c.blocks_are_in_order.ensures).in_kept

pub clear_lost-requires-clause-in_exact : goal.clear_lost-requires-clause-in_exact
clear_lost-requires-clause-in_exact c =
    omega (arith, c.self.invariant.2.kept_size, c.self.invariant.2.exact_size)

pub clear_lost-requires-clause-in_weak : goal.clear_lost-requires-clause-in_weak
clear_lost-requires-clause-in_weak c =
    omega (arith, c.self.invariant.2.kept_size, c.self.invariant.2.weak_size)

pub allow_any_gap-requires-clause-in_firsts : goal.allow_any_gap-requires-clause-in_firsts
allow_any_gap-requires-clause-in_firsts c =
    let swept = sweeping c.self.inside c.requires c.self.invariant c.self.view_is c.word-low.ensures c.segment-grains.ensures
    c.blocks_are_covered.ensures c.blocks_are_in_order.ensures
    in
    let P : List ℕ → Type 0 = λ fs. grain_of c.args.base.0 < length fs in
    subst P (sym c.deref.ensures.value) swept.in_firsts

pub allow_any_gap-requires-clause-in_bounds : goal.allow_any_gap-requires-clause-in_bounds
allow_any_gap-requires-clause-in_bounds c =
    let swept = sweeping c.self.inside c.requires c.self.invariant c.self.view_is c.word-low.ensures c.segment-grains.ensures
    c.blocks_are_covered.ensures c.blocks_are_in_order.ensures
    in
    let P : List ℕ → Type 0 = λ fs. first_at fs c.args.base.0 < length c.self.inside.bounds in
    subst P (sym c.deref.ensures.value) swept.in_bounds

pub drop_lost-requires-clause-in_words : goal.drop_lost-requires-clause-in_words
drop_lost-requires-clause-in_words c =
    (sweeping c.self.inside c.requires c.self.invariant c.self.view_is c.word-low.ensures c.segment-grains.ensures
    c.blocks_are_covered.ensures c.blocks_are_in_order.ensures).in_words

pub drop_lost-requires-clause-ordered : goal.drop_lost-requires-clause-ordered
drop_lost-requires-clause-ordered c =
    (sweeping c.self.inside c.requires c.self.invariant c.self.view_is c.word-low.ensures c.segment-grains.ensures
    c.blocks_are_covered.ensures c.blocks_are_in_order.ensures).ordered

pub drop_lost-requires-clause-in_table : goal.drop_lost-requires-clause-in_table
drop_lost-requires-clause-in_table c =
    (sweeping c.self.inside c.requires c.self.invariant c.self.view_is c.word-low.ensures c.segment-grains.ensures
    c.blocks_are_covered.ensures c.blocks_are_in_order.ensures).in_table

pub drop_lost-requires-clause-in_kept : goal.drop_lost-requires-clause-in_kept
drop_lost-requires-clause-in_kept c =
    let swept = sweeping c.self.inside c.requires c.self.invariant c.self.view_is c.word-low.ensures c.segment-grains.ensures
    c.blocks_are_covered.ensures c.blocks_are_in_order.ensures
    in
    let kept_is = c.kept-2.ensures ∙ ap (λ (m : MarkTables). m.kept) c.clear_lost.ensures in
    omega (arith, swept.in_kept, ap (λ (ks : List Bool). length ks) (swept.same_kept kept_is))

pub drop_lost-requires-clause-whole : goal.drop_lost-requires-clause-whole
drop_lost-requires-clause-whole c =
    (sweeping c.self.inside c.requires c.self.invariant c.self.view_is c.word-low.ensures c.segment-grains.ensures
    c.blocks_are_covered.ensures c.blocks_are_in_order.ensures).whole

pub drop_lost-requires-clause-fits : goal.drop_lost-requires-clause-fits
drop_lost-requires-clause-fits c =
    let swept = sweeping c.self.inside c.requires c.self.invariant c.self.view_is c.word-low.ensures c.segment-grains.ensures
    c.blocks_are_covered.ensures c.blocks_are_in_order.ensures
    in
    let kept_is = c.kept-2.ensures ∙ ap (λ (m : MarkTables). m.kept) c.clear_lost.ensures in
    omega (arith, swept.fits, ap (λ (rs : List Run). length rs) (swept.same_lost kept_is))

pub invariant_of-self : goal.invariant_of-self
invariant_of-self c =
    let swept = sweeping c.self.inside c.requires c.self.invariant c.self.view_is c.word-low.ensures c.segment-grains.ensures
    c.blocks_are_covered.ensures c.blocks_are_in_order.ensures
    in
    let kept_is = c.kept-2.ensures ∙ ap (λ (m : MarkTables). m.kept) c.clear_lost.ensures in
    let extents_are =
    c.drop_lost.ensures.state ∙ ap (λ (rs : List Run). dropped rs c.self.inside.extents) (swept.same_lost kept_is)
    in
    let now : c.allow_any_gap.new.bounds ≡ with_any_gap c.self.inside.firsts.items c.self.inside.bounds c.args.base.0 =
    c.allow_any_gap.ensures ∙ ap (λ (fs : List ℕ). with_any_gap fs c.self.inside.bounds c.args.base.0) c.deref.ensures.value
    in
    rw (extents_are, c.clear_lost.ensures, now) swept.sound

pub returns-clause-state : goal.returns-clause-state
returns-clause-state c =
    λ t over.
    let swept = sweeping c.self.inside c.requires c.self.invariant c.self.view_is c.word-low.ensures c.segment-grains.ensures
    c.blocks_are_covered.ensures c.blocks_are_in_order.ensures
    in
    let kept_is = c.kept-2.ensures ∙ ap (λ (m : MarkTables). m.kept) c.clear_lost.ensures in
    let extents_are =
    c.drop_lost.ensures.state ∙ ap (λ (rs : List Run). dropped rs c.self.inside.extents) (swept.same_lost kept_is)
    in
    rw (extents_are, c.clear_lost.ensures) (swept.state t over)

pub returns-clause-moves : goal.returns-clause-moves
returns-clause-moves c =
    λ t over.
    let swept = sweeping c.self.inside c.requires c.self.invariant c.self.view_is c.word-low.ensures c.segment-grains.ensures
    c.blocks_are_covered.ensures c.blocks_are_in_order.ensures
    in
    let kept_is = c.kept-2.ensures ∙ ap (λ (m : MarkTables). m.kept) c.clear_lost.ensures in
    let same = ap (λ (rs : List Run). frees rs c.args.trail.now) (swept.same_lost kept_is) in
    c.drop_lost.ensures.moves ∙ same ∙ swept.moves t c.args.trail.now over
