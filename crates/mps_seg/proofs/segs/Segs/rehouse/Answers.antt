use Rattle.std.proofs.Common.{ℕ, ◌<◌, ◌≡◌, List, length, sym, ap, ◌∙◌, subst, arith}
use Rattle.mps_base.specs.Address.{word_of, grain_of}
use Rattle.mps_base.specs.Run.{with_run, without_run}
use Rattle.mps_arena.specs.Arena.{copied_words}
use Rattle.mps_seg.specs.Moving.{run_at}
use Rattle.mps_seg.specs.Table.{first_at, with_any_gap}
use Rattle.mps_seg.proofs.Rehousing.{leaving, coming, marked, old_words_held, new_words_held, held_with_words}
use Rattle.mps_seg.proofs.segs.Segs.rehouse.Goals as goal

pub move_block-requires-clause-free : goal.move_block-requires-clause-free
move_block-requires-clause-free c =
    let there =
    coming c.self.inside c.args.self.now c.args.at.0 c.args.to.0 c.args.words c.self.invariant c.self.view_is c.requires.nonzero
    c.requires.block c.requires.free
    in
    rw (c.word.ensures, c.word-2.ensures) there.free

pub copy_held-requires-clause-from_held : goal.copy_held-requires-clause-from_held
copy_held-requires-clause-from_held c =
    old_words_held c.self.inside c.args.self.now c.args.at.0 c.args.to.0 c.args.words c.self.invariant c.self.view_is c.requires.nonzero
    c.requires.block c.requires.free

pub copy_held-requires-clause-to_held : goal.copy_held-requires-clause-to_held
copy_held-requires-clause-to_held c =
    new_words_held c.self.inside c.args.self.now c.args.at.0 c.args.to.0 c.args.words c.self.invariant c.self.view_is c.requires.nonzero
    c.requires.block c.requires.free

pub clear-requires : goal.clear-requires
clear-requires c =
    let s = c.self.inside in
    let facts =
    leaving s c.args.self.now c.args.at.0 c.args.to.0 c.args.words c.self.invariant c.self.view_is c.requires.nonzero c.requires.block
    c.requires.free
    in
    omega (arith, facts.in_arena, c.self.invariant.2.kept_size)

pub allow_any_gap-requires-clause-in_firsts : goal.allow_any_gap-requires-clause-in_firsts
allow_any_gap-requires-clause-in_firsts c =
    let s = c.self.inside in
    let facts =
    leaving s c.args.self.now c.args.at.0 c.args.to.0 c.args.words c.self.invariant c.self.view_is c.requires.nonzero c.requires.block
    c.requires.free
    in
    let P : List ℕ → Type 0 = λ fs. grain_of c.args.at.0 < length fs in
    subst P (sym c.deref.ensures.value) facts.grain_within

pub allow_any_gap-requires-clause-in_bounds : goal.allow_any_gap-requires-clause-in_bounds
allow_any_gap-requires-clause-in_bounds c =
    let s = c.self.inside in
    let facts =
    leaving s c.args.self.now c.args.at.0 c.args.to.0 c.args.words c.self.invariant c.self.view_is c.requires.nonzero c.requires.block
    c.requires.free
    in
    let P : List ℕ → Type 0 = λ fs. first_at fs c.args.at.0 < length s.bounds in
    subst P (sym c.deref.ensures.value) facts.first_within

pub invariant_of-self : goal.invariant_of-self
invariant_of-self c =
    let s = c.self.inside in
    let there =
    coming s c.args.self.now c.args.at.0 c.args.to.0 c.args.words c.self.invariant c.self.view_is c.requires.nonzero c.requires.block
    c.requires.free
    in
    let left =
    marked s c.args.self.now c.args.at.0 c.args.to.0 c.args.words c.self.invariant c.self.view_is c.requires.nonzero c.requires.block
    c.requires.free
    in
    let now : c.allow_any_gap.new.bounds ≡ with_any_gap s.firsts.items s.bounds c.args.at.0 =
    c.allow_any_gap.ensures ∙ ap (λ (fs : List ℕ). with_any_gap fs s.bounds c.args.at.0) c.deref.ensures.value
    in
    let words = copied_words s.arena.words (word_of c.args.at.0) (word_of c.args.to.0) c.args.words in
    rw (c.move_block.ensures, c.copy_held.ensures, c.clear.ensures, now, c.word.ensures, c.word-2.ensures, c.word-3.ensures) (
      held_with_words s.arena words s.table.items _
          (there.held (with_run (run_at c.args.to.0 c.args.words) (without_run (word_of c.args.at.0) s.extents.blocks))
          s.extents.reservations),
      there.bounded,
      left.2,
      left.3,
      left.4,
    )

pub returns-clause-held : goal.returns-clause-held
returns-clause-held c =
    let s = c.self.inside in
    let facts =
    leaving s c.args.self.now c.args.at.0 c.args.to.0 c.args.words c.self.invariant c.self.view_is c.requires.nonzero c.requires.block
    c.requires.free
    in
    (facts.can_cover s.extents.blocks s.extents.reservations).inside
