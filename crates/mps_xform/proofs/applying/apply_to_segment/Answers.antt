use Rattle.std.proofs.Common.{ℕ, ◌≡◌, ◌+◌, ◌∙◌, IsTrue, sym, ap, subst, arith}
use Rattle.mps_base.specs.Address.{word_of}
use Rattle.mps_seg.specs.Segs.{SegsState}
use Rattle.mps_xform.specs.Applying.{after_apply_below}
use Rattle.mps_xform.specs.Passing.{IsBlockOf, new_in}
use Rattle.mps_xform.proofs.Blocks.{block_passed}
use Rattle.mps_xform.proofs.Segments as segments
use Rattle.mps_xform.proofs.applying.apply_to_segment.Goals as goal
use Rattle.mps_xform.proofs.applying.apply_to_segment.Goals.{then-may_lead_to_old, else-may_lead_to_old}

pub loop-at-init : goal.loop-at-init
loop-at-init g c =
    let b = c.requires.begun in
    segments.at_first (g.F.Format.layout c.args.format.now) (new_in c.args.replacements.now) b.0 b.1 c.args.segs.now c.args.base.0
    c.args.end.0
    b.2 b.3

pub held_word-head-requires : goal.held_word-head-requires
held_word-head-requires g c =
    let b = c.requires.begun in
    let f = g.F.Format.layout c.args.format.now in
    let l = c.loop-at in (
      b.3.segment,
      segments.over_at f (new_in c.args.replacements.now) b.0 b.1 c.args.segs.now c.args.base.0 c.args.end.0 b.2 b.3 l.segs l.from.0
          l.invariant c.in-Some.at c.in-Some.ensures.found.0,
    )

pub may_lead_to_old-requires-clause-held : goal.may_lead_to_old-requires-clause-held
may_lead_to_old-requires-clause-held g c =
    let b = c.requires.begun in
    let f = g.F.Format.layout c.args.format.now in
    let l = c.loop-at in (
      b.3.segment,
      segments.over_at f (new_in c.args.replacements.now) b.0 b.1 c.args.segs.now c.args.base.0 c.args.end.0 b.2 b.3 l.segs l.from.0
          l.invariant c.in-Some.at c.in-Some.ensures.found.0,
    )

pub may_lead_to_old-requires-clause-valid : goal.may_lead_to_old-requires-clause-valid
may_lead_to_old-requires-clause-valid g c =
    let b = c.requires.begun in
    let f = g.F.Format.layout c.args.format.now in
    let l = c.loop-at in
    let P : ℕ → Type 0 = λ h. IsTrue (f.is_valid h) in
    subst P (sym c.held_word-head.ensures) (segments.valid f (new_in c.args.replacements.now) b.0 b.1 c.args.segs.now c.args.base.0
    c.args.end.0 b.2 b.3 l.segs l.from.0 l.invariant c.in-Some.at c.in-Some.ensures.found.0)

pub may_lead_to_old-requires-clause-inside : goal.may_lead_to_old-requires-clause-inside
may_lead_to_old-requires-clause-inside g c =
    let b = c.requires.begun in
    let f = g.F.Format.layout c.args.format.now in
    let to = new_in c.args.replacements.now in
    let s0 = c.args.segs.now in
    let base = c.args.base.0 in
    let end = c.args.end.0 in
    let l = c.loop-at in
    let at = c.in-Some.at in
    let is = c.in-Some.ensures.found.0 in
    omega (
      arith,
      ap (λ (h : ℕ). f.size h) c.held_word-head.ensures,
      segments.size_is f to b.0 b.1 s0 base end b.2 b.3 l.segs l.from.0 l.invariant at is,
      (segments.found f to b.0 b.1 s0 base end b.2 b.3 l.segs l.from.0 l.invariant at is).begins,
      segments.ends f to b.0 b.1 s0 base end b.2 b.3 l.segs l.from.0 l.invariant at is,
      segments.inside f to b.0 b.1 s0 base end b.2 b.3,
      l.invariant.size,
    )

pub apply_to_block-requires-clause-valid : goal.apply_to_block-requires-clause-valid
apply_to_block-requires-clause-valid g c =
    let b = c.requires.begun in
    let f = g.F.Format.layout c.args.format.now in
    let l = c.loop-at in
    let P : ℕ → Type 0 = λ h. IsTrue (f.is_valid h) in
    subst P (sym c.held_word-head.ensures) (segments.valid f (new_in c.args.replacements.now) b.0 b.1 c.args.segs.now c.args.base.0
    c.args.end.0 b.2 b.3 l.segs l.from.0 l.invariant c.in-Some.at c.in-Some.ensures.found.0)

pub apply_to_block-requires-clause-inside : goal.apply_to_block-requires-clause-inside
apply_to_block-requires-clause-inside g c =
    let b = c.requires.begun in
    let f = g.F.Format.layout c.args.format.now in
    let to = new_in c.args.replacements.now in
    let s0 = c.args.segs.now in
    let base = c.args.base.0 in
    let end = c.args.end.0 in
    let l = c.loop-at in
    let at = c.in-Some.at in
    let is = c.in-Some.ensures.found.0 in
    omega (
      arith,
      ap (λ (h : ℕ). f.size h) c.held_word-head.ensures,
      segments.size_is f to b.0 b.1 s0 base end b.2 b.3 l.segs l.from.0 l.invariant at is,
      (segments.found f to b.0 b.1 s0 base end b.2 b.3 l.segs l.from.0 l.invariant at is).begins,
      segments.ends f to b.0 b.1 s0 base end b.2 b.3 l.segs l.from.0 l.invariant at is,
      segments.inside f to b.0 b.1 s0 base end b.2 b.3,
      l.invariant.size,
    )

pub overflow_add-from : goal.overflow_add-from
overflow_add-from g c =
    let b = c.requires.begun in
    let f = g.F.Format.layout c.args.format.now in
    let to = new_in c.args.replacements.now in
    let s0 = c.args.segs.now in
    let base = c.args.base.0 in
    let end = c.args.end.0 in
    let l = c.loop-at in
    let at = c.in-Some.at in
    let is = c.in-Some.ensures.found.0 in
    omega (
      arith,
      (segments.found f to b.0 b.1 s0 base end b.2 b.3 l.segs l.from.0 l.invariant at is).below,
      segments.inside f to b.0 b.1 s0 base end b.2 b.3,
      c.grains.ensures.at_most,
      c.grains.ensures.size,
    )

pub loop-at-smaller : goal.loop-at-smaller
loop-at-smaller g c =
    let b = c.requires.begun in
    let f = g.F.Format.layout c.args.format.now in
    let to = new_in c.args.replacements.now in
    let s0 = c.args.segs.now in
    let base = c.args.base.0 in
    let end = c.args.end.0 in
    let l = c.loop-at in
    let at = c.in-Some.at in
    let is = c.in-Some.ensures.found.0 in
    let low = segments.found f to b.0 b.1 s0 base end b.2 b.3 l.segs l.from.0 l.invariant at is in
    omega (arith, low.above, low.below)

pub loop-at-preserved : goal.loop-at-preserved
loop-at-preserved g c =
    let b = c.requires.begun in
    let f = g.F.Format.layout c.args.format.now in
    let to = new_in c.args.replacements.now in
    let l = c.loop-at in
    let at = c.in-Some.at in
    let P : ℕ → Type 0 =
    λ h. (s : SegsState) (pool : ℕ) → l.segs ≡ after_apply_below f to s pool (word_of at.0) → IsBlockOf f s pool (word_of at.0) h
    → c.if-may_lead_to_old.segs ≡ after_apply_below f to s pool (word_of at.0 + f.size h)
    in
    let applied : P c.held_word-head.result =
    elim c.if-may_lead_to_old.branch [
      | then-may_lead_to_old w ↦ λ s pool so_far block. w.segs-is ∙ w.apply_to_block.ensures s pool so_far block
      | else-may_lead_to_old w ↦ λ s pool so_far block.
          w.segs-is
          ∙ block_passed f to s pool (word_of at.0) c.held_word-head.result block l.segs so_far
          (c.may_lead_to_old.ensures w.if-may_lead_to_old.false)
    ] in
    segments.walked_on f to b.0 b.1 c.args.segs.now l.segs c.if-may_lead_to_old.segs c.args.base.0 c.args.end.0 l.from.0
    (at.0 + 8) at b.2 b.3 l.invariant c.in-Some.ensures.found.0 (omega arith) (subst P c.held_word-head.ensures applied)

pub returns : goal.returns
returns g c = λ s pool begun span.
    let l = c.loop-at in
    segments.rest_passed (g.F.Format.layout c.args.format.now) (new_in c.args.replacements.now) s pool c.args.segs.now c.args.base.0
    c.args.end.0 begun span l.segs l.from.0 l.invariant c.in_default.ensures.none
