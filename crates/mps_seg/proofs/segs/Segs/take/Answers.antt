use Rattle.std.proofs.Common.{ℕ, ◌*◌, Bool, false, map, List, length, get_or, set, sym, ap, ◌∙◌, subst, arith}
use Rattle.std.proofs.lemmas.List.{with_items_is}
use Rattle.mps_base.specs.Run.{Run}
use Rattle.mps_base.specs.Address.{words_of_grain, grain_of, grains_needed}
use Rattle.mps_base.specs.Segment.{Segment, grains_of_segment}
use Rattle.mps_arena.specs.Arena.{ArenaMemory, placement_in}
use Rattle.mps_seg.specs.Segs.{SegsState, IsOpenRun, placement_for, segments_after, noted_for}
use Rattle.mps_seg.specs.Table.{segments_in}
use Rattle.mps_seg.proofs.BoundedGaps.{Noted}
use Rattle.mps_seg.proofs.Placements.{refused_held}
use Rattle.mps_seg.proofs.Covering.{run_at}
use Rattle.mps_seg.proofs.Marked.{marked_taken}
use Rattle.mps_seg.proofs.Seen.{seen_by}
use Rattle.mps_seg.proofs.Taking.{taking, new_run, new_entry}
use Rattle.mps_seg.proofs.segs.Segs.take.Goals as goal

pub index_mut-requires : goal.index_mut-requires
index_mut-requires c =
    let s = c.self.inside in
    let a = c.args in
    let facts =
    taking s c.in_ok-base.base a.words a.pool a.generation a.rank c.self.invariant c.requires.nonzero c.in_ok-base.ensures.value
    in
    omega (arith, facts.in_table, s.table.ok.0)

pub set-requires : goal.set-requires
set-requires c =
    let s = c.self.inside in
    let a = c.args in
    let facts =
    taking s c.in_ok-base.base a.words a.pool a.generation a.rank c.self.invariant c.requires.nonzero c.in_ok-base.ensures.value
    in
    omega (arith, facts.in_bounds)

pub clear-requires : goal.clear-requires
clear-requires c =
    let s = c.self.inside in
    let a = c.args in
    let facts =
    taking s c.in_ok-base.base a.words a.pool a.generation a.rank c.self.invariant c.requires.nonzero c.in_ok-base.ensures.value
    in
    omega (arith, facts.in_table, c.self.invariant.0.size, c.self.invariant.2.condemned_size)

pub index_mut-requires-2 : goal.index_mut-requires-2
index_mut-requires-2 c =
    let s = c.self.inside in
    let a = c.args in
    let facts =
    taking s c.in_ok-base.base a.words a.pool a.generation a.rank c.self.invariant c.requires.nonzero c.in_ok-base.ensures.value
    in
    omega (arith, facts.in_table, c.self.invariant.0.size, c.self.invariant.2.summaries_size, s.summaries.ok.0)

pub overflow_cast-first : goal.overflow_cast-first
overflow_cast-first c =
    let s = c.self.inside in
    let a = c.args in
    let facts =
    taking s c.in_ok-base.base a.words a.pool a.generation a.rank c.self.invariant c.requires.nonzero c.in_ok-base.ensures.value
    in
    omega (arith, facts.at_most)

pub note_grains-requires : goal.note_grains-requires
note_grains-requires c =
    let s = c.self.inside in
    let a = c.args in
    let facts =
    taking s c.in_ok-base.base a.words a.pool a.generation a.rank c.self.invariant c.requires.nonzero c.in_ok-base.ensures.value
    in
    omega (arith, facts.in_firsts, c.deref_mut.ensures.len, s.firsts.ok.0)

pub add-requires : goal.add-requires
add-requires c =
    let s = c.self.inside in
    let a = c.args in
    let facts =
    taking s c.in_ok-base.base a.words a.pool a.generation a.rank c.self.invariant c.requires.nonzero c.in_ok-base.ensures.value
    in
    record { whole = c.self.invariant.3.size; fits = facts.count_fits }

pub invariant_of-self : goal.invariant_of-self
invariant_of-self c =
    let s = c.self.inside in
    let placement = placement_in s.arena (grains_needed c.args.words) in
    let none = refused_held placement c.in_err-base.field-0.0 s.arena.held c.in_err-base.ensures.value in
    rw (c.take_run.ensures.state, none) c.self.invariant

pub invariant_of-self-2 : goal.invariant_of-self-2
invariant_of-self-2 c =
    let s = c.self.inside in
    let a = c.args in
    let facts =
    taking s c.in_ok-base.base a.words a.pool a.generation a.rank c.self.invariant c.requires.nonzero c.in_ok-base.ensures.value
    in
    let now = with_items_is s.firsts c.note_grains.new.table (omega (arith, c.note_grains.auto.table, c.deref_mut.ensures.len)) in
    let noted : Noted s.firsts.items c.note_grains.new.table (new_run c.in_ok-base.base.0 a.words)
    (grain_of c.in_ok-base.base.0) = record {
      size = c.note_grains.ensures.size ∙ ap (λ (fs : List ℕ). length fs) c.deref_mut.ensures.value;
      inside = λ g. c.note_grains.ensures.written g 0;
      outside = λ g out. c.note_grains.ensures.unchanged g 0 out ∙ ap (λ (fs : List ℕ). get_or fs g 0) c.deref_mut.ensures.value;
    } in
    let marked =
    marked_taken s.arena.grains s.marks s.condemned s.summaries.items c.self.invariant.2 (grain_of c.in_ok-base.base.0)
    in
    rw (c.take_run.ensures.state, facts.held_is, now, c.set.ensures, c.clear.ensures.state, c.add.ensures) (
      facts.held,
      facts.bounded
          c.note_grains.new.table noted,
      marked,
      facts.counted,
      facts.asked c.note_grains.new.table noted,
    )

pub returns-clause-state : goal.returns-clause-state
returns-clause-state c =
    let s = c.self.inside in
    let a = c.args in
    let facts =
    taking s c.in_ok-base.base a.words a.pool a.generation a.rank c.self.invariant c.requires.nonzero c.in_ok-base.ensures.value
    in
    let after = λ (st : SegsState).
    record st {
      segments = segments_after (placement_for st a.words) a.pool a.generation a.rank st.segments;
      condemned = noted_for (placement_for st a.words) false st.condemned;
      summaries = noted_for (placement_for st a.words) 0 st.summaries;
    }
    in
    let grain = grain_of c.in_ok-base.base.0 in
    rw (c.take_run.ensures.state, c.clear.ensures.state)
    (ap (λ (ss : List Segment). record (seen_by s) {
      segments = ss;
      condemned = set s.condemned grain false;
      summaries = set s.summaries.items grain 0;
    }) facts.segments
    ∙ ap (λ (bs : List Bool). record (after (seen_by s)) { condemned = bs; summaries = set s.summaries.items grain 0 })
    facts.condemned
    ∙ ap (λ (ns : List ℕ). record (after (seen_by s)) { summaries = ns }) facts.summaries
    ∙ ap after c.self.view_is)

pub returns-clause-free : goal.returns-clause-free
returns-clause-free c =
    let s = c.self.inside in
    let a = c.args in
    let facts =
    taking s c.in_ok-base.base a.words a.pool a.generation a.rank c.self.invariant c.requires.nonzero c.in_ok-base.ensures.value
    in
    let now = c.take_run.ensures.state ∙ ap (λ (rs : List Run). record s.arena { held = rs }) facts.held_is in
    let table = set s.table.items (grain_of c.in_ok-base.base.0) (new_entry a.words a.pool a.generation a.rank) in
    let P : ArenaMemory → Type 0 = λ arena.
    IsOpenRun arena.grains (map grains_of_segment (segments_in table)) s.extents.covered (run_at c.in_ok-base.base.0 a.words)
    in
    subst P (sym now) facts.can_cover

pub returns-clause-all_free : goal.returns-clause-all_free
returns-clause-all_free c =
    let s = c.self.inside in
    let a = c.args in
    let facts =
    taking s c.in_ok-base.base a.words a.pool a.generation a.rank c.self.invariant c.requires.nonzero c.in_ok-base.ensures.value
    in
    let now = c.take_run.ensures.state ∙ ap (λ (rs : List Run). record s.arena { held = rs }) facts.held_is in
    let table = set s.table.items (grain_of c.in_ok-base.base.0) (new_entry a.words a.pool a.generation a.rank) in
    let P : ArenaMemory → Type 0 = λ arena.
    IsOpenRun arena.grains (map grains_of_segment (segments_in table)) s.extents.covered (run_at c.in_ok-base.base.0 (words_of_grain *
    grains_needed a.words))
    in
    subst P (sym now) facts.all_free
