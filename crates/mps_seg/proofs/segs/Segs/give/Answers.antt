use Rattle.std.proofs.Common.{ℕ, ◌+◌, ◌<◌, ◌≤◌, ◌⊎◌, ◌≡◌, List, length, get_or, Contains, Option, None, sym, ap, ◌∙◌, subst, arith}
use Rattle.std.proofs.lemmas.List.{get_or_read, with_items_is}
use Rattle.mps_base.specs.Address.{grain_of}
use Rattle.mps_base.specs.Segment.{Segment, without_segment}
use Rattle.mps_seg.specs.declared.entry.Entry.TheVariants.{Free, First}
use Rattle.mps_seg.specs.Segs.{SegsState}
use Rattle.mps_seg.specs.declared.entry.CondemnedSegment.{CondemnedSegment}
use Rattle.mps_seg.proofs.AskedNoted.{IsNotedFor, noted_after_give}
use Rattle.mps_seg.proofs.Seen.{seen_by}
use Rattle.mps_seg.proofs.BoundedGaps.{Noted}
use Rattle.mps_seg.proofs.Counted.{counted_enough, counted_after_give}
use Rattle.mps_seg.proofs.Giving.{giving, grains_read}
use Rattle.mps_seg.proofs.segs.Segs.give.Goals as goal

pub index-requires : goal.index-requires
index-requires c =
    let empty = c.requires.empty in
    let facts = giving c.self.inside c.args.self.now c.args.base.0 empty.0 c.self.invariant c.self.view_is empty.1 empty.2 in
    omega (arith, facts.in_table, c.self.inside.table.ok.0)

pub unreachable-requires : goal.unreachable-requires
unreachable-requires c =
    let empty = c.requires.empty in
    let t = empty.0 in
    let facts = giving c.self.inside c.args.self.now c.args.base.0 t c.self.invariant c.self.view_is empty.1 empty.2 in
    let read =
    get_or_read c.self.inside.table.items (grain_of c.args.base.0) c.index.result.now facts.in_table c.index.ensures Free ∙ facts.is
    in
    let never : Free ≡ First t.grains t.pool t.generation t.rank = sym c.in_default.is ∙ read in
    cc

pub give_run-requires-clause-aligned : goal.give_run-requires-clause-aligned
give_run-requires-clause-aligned c =
    let empty = c.requires.empty in
    let facts = giving c.self.inside c.args.self.now c.args.base.0 empty.0 c.self.invariant c.self.view_is empty.1 empty.2 in
    omega (arith, facts.aligned)

pub give_run-requires-clause-held : goal.give_run-requires-clause-held
give_run-requires-clause-held c =
    let s = c.self.inside in
    let empty = c.requires.empty in
    let facts = giving s c.args.self.now c.args.base.0 empty.0 c.self.invariant c.self.view_is empty.1 empty.2 in
    let read = get_or_read s.table.items (grain_of c.args.base.0) c.index.result.now facts.in_table c.index.ensures Free ∙ facts.is in
    let P : ℕ → Type 0 = λ n. Contains s.arena.held (record { from = grain_of c.args.base.0; count = n }) in
    subst P (sym (grains_read c.in-First.is read)) facts.listed

pub index_mut-requires : goal.index_mut-requires
index_mut-requires c =
    let empty = c.requires.empty in
    let facts = giving c.self.inside c.args.self.now c.args.base.0 empty.0 c.self.invariant c.self.view_is empty.1 empty.2 in
    omega (arith, facts.in_table, c.self.inside.table.ok.0)

pub set-requires : goal.set-requires
set-requires c =
    let empty = c.requires.empty in
    let facts = giving c.self.inside c.args.self.now c.args.base.0 empty.0 c.self.invariant c.self.view_is empty.1 empty.2 in
    omega (arith, facts.in_bounds)

pub note_grains-requires : goal.note_grains-requires
note_grains-requires c =
    let s = c.self.inside in
    let empty = c.requires.empty in
    let facts = giving s c.args.self.now c.args.base.0 empty.0 c.self.invariant c.self.view_is empty.1 empty.2 in
    let read = get_or_read s.table.items (grain_of c.args.base.0) c.index.result.now facts.in_table c.index.ensures Free ∙ facts.is in
    let grains = grains_read c.in-First.is read in
    omega (arith, grains, facts.in_arena, c.deref_mut.ensures.len, s.firsts.ok.0, c.self.invariant.1.firsts_size)

pub note_grains-requires-2 : goal.note_grains-requires-2
note_grains-requires-2 c =
    let s = c.self.inside in
    let empty = c.requires.empty in
    let facts = giving s c.args.self.now c.args.base.0 empty.0 c.self.invariant c.self.view_is empty.1 empty.2 in
    let read = get_or_read s.table.items (grain_of c.args.base.0) c.index.result.now facts.in_table c.index.ensures Free ∙ facts.is in
    let grains = grains_read c.in-First.is read in
    omega (arith, grains, facts.in_arena, c.deref_mut-2.ensures.len, s.white.ok.0, c.self.invariant.4.white_size)

pub subtract-requires : goal.subtract-requires
subtract-requires c =
    let s = c.self.inside in
    let empty = c.requires.empty in
    let grain = grain_of c.args.base.0 in
    let facts = giving s c.args.self.now c.args.base.0 empty.0 c.self.invariant c.self.view_is empty.1 empty.2 in
    let read = get_or_read s.table.items grain c.index.result.now facts.in_table c.index.ensures Free in
    let e = c.in-First in
    record {
      whole = c.self.invariant.3.size;
      held = λ inside.
          let enough =
          counted_enough s.counts s.table.items c.self.invariant.3 grain e.grains e.pool e.generation e.rank (sym read ∙ e.is) inside
          in
          omega (arith, enough);
    }

pub invariant_of-self : goal.invariant_of-self
invariant_of-self c =
    let s = c.self.inside in
    let empty = c.requires.empty in
    let grain = grain_of c.args.base.0 in
    let facts = giving s c.args.self.now c.args.base.0 empty.0 c.self.invariant c.self.view_is empty.1 empty.2 in
    let read = get_or_read s.table.items grain c.index.result.now facts.in_table c.index.ensures Free ∙ facts.is in
    let grains = grains_read c.in-First.is read in
    let e = c.in-First in
    let counted =
    counted_after_give s.counts s.table.items c.self.invariant.3 grain e.grains e.pool e.generation e.rank
    (sym (get_or_read s.table.items grain c.index.result.now facts.in_table c.index.ensures Free) ∙ e.is)
    in
    let now = with_items_is s.firsts c.note_grains.new.table (omega (arith, c.note_grains.auto.table, c.deref_mut.ensures.len)) in
    let noted : Noted s.firsts.items c.note_grains.new.table (record { from = grain; count = empty.0.grains }) 0 = record {
      size = c.note_grains.ensures.size ∙ ap (λ (fs : List ℕ). length fs) c.deref_mut.ensures.value;
      inside = λ g from below. c.note_grains.ensures.written g 0 from (omega (arith, below, grains));
      outside = λ g out.
          let out' = subst (λ (n : ℕ). (g < grain) ⊎ (grain + n ≤ g)) (sym grains) out in
          c.note_grains.ensures.unchanged g 0 out' ∙ ap (λ (fs : List ℕ). get_or fs g 0) c.deref_mut.ensures.value;
    } in
    let white = with_items_is s.white c.note_grains-2.new.table (omega (arith, c.note_grains-2.auto.table, c.deref_mut-2.ensures.len)) in
    let cleared : IsNotedFor s.white.items c.note_grains-2.new.table (record { from = grain; count = empty.0.grains }) None = record {
      size = c.note_grains-2.ensures.size
          ∙ ap (λ (xs : List (Option CondemnedSegment)). length xs) c.deref_mut-2.ensures.value;
      inside = λ g from below. c.note_grains-2.ensures.written g None from (omega (arith, below, grains));
      outside = λ g out.
          let out' = subst (λ (n : ℕ). (g < grain) ⊎ (grain + n ≤ g)) (sym grains) out in
          c.note_grains-2.ensures.unchanged g None out'
          ∙ ap (λ (xs : List (Option CondemnedSegment)). get_or xs g None) c.deref_mut-2.ensures.value;
    } in
    let asked =
    noted_after_give (s.arena.grains + 1) s.arena.held s.firsts.items s.bounds s.extents.covered s.table.items s.condemned s.white.items
    c.self.invariant.0.ascending c.self.invariant.1 c.self.invariant.4 (record { from = grain; count = empty.0.grains }) facts.listed
    c.note_grains-2.new.table c.note_grains.new.table noted cleared
    in
    rw (c.give_run.ensures, now, white, c.set.ensures, c.subtract.ensures) (
      facts.held,
      facts.bounded c.note_grains.new.table noted,
      c.self.invariant.2,
      counted,
      asked,
    )

pub returns-clause-state : goal.returns-clause-state
returns-clause-state c =
    let s = c.self.inside in
    let empty = c.requires.empty in
    let facts = giving s c.args.self.now c.args.base.0 empty.0 c.self.invariant c.self.view_is empty.1 empty.2 in
    rw c.give_run.ensures
    (ap (λ (ss : List Segment). record (seen_by s) { segments = ss }) facts.segments
    ∙ ap (λ (st : SegsState). record st { segments = without_segment st.segments c.args.base.0 }) c.self.view_is)
