use Rattle.std.proofs.Common.{ℕ, ◌<◌, ◌≡◌, List, length, sym, ap, ◌∙◌, subst, arith}
use Rattle.mps_base.specs.Address.{word_of, grain_of}
use Rattle.mps_base.specs.Run.{without_run}
use Rattle.mps_seg.specs.Table.{first_at, with_any_gap}
use Rattle.mps_seg.proofs.Covering.{uncovering}
use Rattle.mps_seg.proofs.Marked.{marked_without}
use Rattle.mps_seg.proofs.segs.Segs.drop_block.Goals as goal

pub clear-requires : goal.clear-requires
clear-requires c =
    let s = c.self.inside in
    let facts = uncovering s c.args.at.0 c.args.words c.self.invariant c.drop_block.ensures.was_covered in
    omega (arith, facts.in_arena, c.self.invariant.2.kept_size)

pub allow_any_gap-requires-clause-in_firsts : goal.allow_any_gap-requires-clause-in_firsts
allow_any_gap-requires-clause-in_firsts c =
    let s = c.self.inside in
    let facts = uncovering s c.args.at.0 c.args.words c.self.invariant c.drop_block.ensures.was_covered in
    let P : List ℕ → Type 0 = λ fs. grain_of c.args.at.0 < length fs in
    subst P (sym c.deref.ensures.value) facts.grain_within

pub allow_any_gap-requires-clause-in_bounds : goal.allow_any_gap-requires-clause-in_bounds
allow_any_gap-requires-clause-in_bounds c =
    let s = c.self.inside in
    let facts = uncovering s c.args.at.0 c.args.words c.self.invariant c.drop_block.ensures.was_covered in
    let P : List ℕ → Type 0 = λ fs. first_at fs c.args.at.0 < length s.bounds in
    subst P (sym c.deref.ensures.value) facts.first_within

pub invariant_of-self : goal.invariant_of-self
invariant_of-self c =
    let s = c.self.inside in
    let facts = uncovering s c.args.at.0 c.args.words c.self.invariant c.drop_block.ensures.was_covered in
    let now : c.allow_any_gap.new.bounds ≡ with_any_gap s.firsts.items s.bounds c.args.at.0 =
    c.allow_any_gap.ensures ∙ ap (λ (fs : List ℕ). with_any_gap fs s.bounds c.args.at.0) c.deref.ensures.value
    in
    rw (c.drop_block.ensures.state, c.clear.ensures, now) (
      facts.held (without_run (word_of c.args.at.0) s.extents.blocks)
          s.extents.reservations,
      facts.bounded,
      marked_without s.arena.grains s.marks s.condemned s.summaries.items c.self.invariant.2 _,
      c.self.invariant.3,
      c.self.invariant.4,
    )

pub returns-clause-free : goal.returns-clause-free
returns-clause-free c =
    let s = c.self.inside in
    let facts = uncovering s c.args.at.0 c.args.words c.self.invariant c.drop_block.ensures.was_covered in
    rw c.drop_block.ensures.state (facts.can_cover (without_run (word_of c.args.at.0) s.extents.blocks) s.extents.reservations)
