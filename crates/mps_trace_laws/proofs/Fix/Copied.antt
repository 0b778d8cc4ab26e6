-- A block was copied to the first words of a tail: the state stands for the world in which its object moved.
use Rattle.std.proofs.Common.{◌≡◌, ◌∙◌, ℕ, ◌+◌, ◌-◌, ◌*◌, ◌<◌, ◌≤◌, true, false, sym, ap, List, [], ◌∷◌, ◌++◌, length, get_or, Option, Some, subst, inl, inr, arith}
use Rattle.std.proofs.lemmas.Bool.{cases_eq, true≢false}
use Rattle.std.proofs.lemmas.List.{get_or-set_same, get_or-set_other, length-set}
use Rattle.std.specs.Prelude.{◌≢◌, ◌==◌, slice_set, if◌then◌else◌, IsTrue, slice_get}
use Rattle.std.specs.List.{AllByRecursion}
use Rattle.std.specs.Option.{option_map_or}
use Rattle.mps_base.specs.Address.{Address, Id, Word, word_of, address_of_word}
use Rattle.mps_base.specs.Run.{Run, Covers, IsAscending, with_run, without_run}
use Rattle.mps_base.specs.Segment.{segment_over, end_of_segment}
use Rattle.mps_base.proofs.Runs.{IsAscending-without_run}
use Rattle.mps_format.specs.Layout.{Layout}
use Rattle.mps_seg.specs.Segs.{SegsState}
use Rattle.mps_seg.specs.declared.buffer.Buffer.{Buffer}
use Rattle.mps_seg.specs.Buffer.{empty_buffer, run_of}
use Rattle.mps_amc.specs.Moving.{AreCopied, moved_to, run_at}
use Rattle.mps_amc.specs.Amc.{AmcState, HasTail, tails_of}
use Rattle.mps_amc.specs.Amc as amc
use Rattle.mps_amc.proofs.Tails.{tail_written}
use Rattle.mps_trace.specs.GenState.{ChainsState}
use Rattle.mps_laws.proofs.Positions.ApartRuns.{AreApart, all_in_order, ascending_with_run}
use Rattle.mps_laws.proofs.Positions.Segments.{among_aligned}
use Rattle.mps_laws.proofs.Positions.Tails.{own_tail, other_tail}
use Rattle.mps_model.specs.Graph.{Object, size_of}
use Rattle.mps_model.specs.World.{pool_of, words_of, target_generation_for, tail_of, empty_run, extents_of, reserved_extents, is_copying_pool}
use Rattle.mps_model.specs.Effect.{after_moved, placing, words_after, rest_of_segment}
use Rattle.mps_abstract.specs.Colours.{keeping}
use Rattle.mps_abstract.specs.Collecting.{Collecting}
use Rattle.mps_trace_laws.specs.Image.Memory.{memory_in, pool_layout, words_of_arena}
use Rattle.mps_trace_laws.specs.Image.Image.{CellSet, ImageStands}
use Rattle.mps_trace_laws.specs.Image.Fixing.{AreMarksMoved, address_moved}
use Rattle.mps_trace_laws.proofs.Image.Copied as copying
use Rattle.mps_trace_laws.proofs.Image.Extents.{all_extents, all_reserved}
use Rattle.mps_laws.proofs.InOrder.{all_append}
use Rattle.mps_trace_laws.proofs.Image.Runs.{runs_moved}
use Rattle.mps_trace_laws.proofs.Image.SegmentMarks.{moving_marks}
use Rattle.mps_trace_laws.specs.Fix.Tracing.{StateStands, setting_of, AreStill}
use Rattle.mps_trace_laws.proofs.Fix.Growing.{over_back}
use Rattle.mps_trace_laws.proofs.Fix.Hands.{contains_among}
use Rattle.mps_trace_laws.proofs.Fix.LongTables.{tables_moved, has_marks}
use Rattle.mps_trace_laws.proofs.Fix.Taking.{IsFirstTaken, rest_of, tails_after, which}
use Rattle.mps_trace_laws.proofs.Fix.Objects.{pool_is, words_are}
use Rattle.mps_format.specs.declared.pool.Policy.{Policy}
use Rattle.mps_trace_laws.proofs.Image.Entries.{entry_at-set_other}
use Rattle.std.proofs.lemmas.Option.{same_Some}

-- ---- the collector's tails

module _ (state : AmcState) (pool generation : ℕ) (new : Buffer) where
  other_row : (q : ℕ) → q ≢ pool → tails_of (amc.with_tail state pool generation new) q ≡ tails_of state q
  other_row q other = get_or-set_other state.tails pool q (slice_set (tails_of state pool) generation new) [] other

  own_row : HasTail state pool generation
      → tails_of (amc.with_tail state pool generation new) pool ≡ slice_set (tails_of state pool) generation new
  own_row has = get_or-set_same state.tails pool (slice_set (tails_of state pool) generation new) [] has.pool_listed

  pub has_still : HasTail state pool generation → (q h : ℕ) → HasTail state q h → HasTail (amc.with_tail state pool generation new) q h
  has_still has q h listed = record {
    pool_listed = omega (arith, listed.pool_listed, length-set state.tails pool (slice_set (tails_of state pool) generation new));
    generation_listed = elim (cases_eq q pool) [
      | inl e ↦
          let long : length (tails_of (amc.with_tail state pool generation new) q) ≡ length (tails_of state q) =
          subst (λ p. length (tails_of (amc.with_tail state pool generation new) p) ≡ length (tails_of state p)) (sym e)
          (ap length (own_row has) ∙ length-set (tails_of state pool) generation new)
          in
          omega (arith, listed.generation_listed, long)
      | inr n ↦
          let long : length (tails_of (amc.with_tail state pool generation new) q) ≡ length (tails_of state q) =
          ap length (other_row q n) in omega (arith, listed.generation_listed, long)
    ];
  }

  pub other_buffer : HasTail state pool generation → (q h : ℕ) → (q ≡ pool → h ≡ generation → ⊥)
      → amc.tail_of (amc.with_tail state pool generation new) q h ≡ amc.tail_of state q h
  other_buffer has q h other =
      elim (cases_eq q pool) [
        | inl e ↦
            subst (λ p. amc.tail_of (amc.with_tail state pool generation new) p h ≡ amc.tail_of state p h) (sym e)
            (ap (λ row. get_or row h empty_buffer) (own_row has)
            ∙ get_or-set_other (tails_of state pool) generation h new empty_buffer (λ f. other e f))
        | inr n ↦ ap (λ row. get_or row h empty_buffer) (other_row q n)
      ]

-- ---- runs

all_without : (P : Run → Type 0) (from : ℕ) (rs : List Run) → AllByRecursion P rs → AllByRecursion P (without_run from rs)
all_without P from [] all = tt
all_without P from (r ∷ rs) all =
    elim (from == r.from) as (λ b. AllByRecursion P (if b then rs else r ∷ without_run from rs)) [
      | true ↦ all.1
      | false ↦ (all.0, all_without P from rs all.1)
    ]

-- the abstract collector after an object has moved, which was white
abbrev pub moved_in : Collecting → Id → (to : Address) → Collecting
moved_in y t to =
    record y { world = after_moved y.world t to; running = placing t y.running; colours = keeping y.colours t }

module _ (F : Type 0) (layout : F → Layout) (formats : List (Option (Policy F))) (of : ChainsState) (at_flip : List (Option Address))
    (done : CellSet) (state : AmcState) (s : SegsState) (y : Collecting)
    (stands : StateStands layout formats of at_flip done state s y) (t : Id) (now to : Address) (o : Object) (generation : ℕ)
    (target : target_generation_for y.world t ≡ generation) (has : HasTail state o.pool generation)
    (fits : size_of o ≤ (amc.tail_of state o.pool generation).count) (positive : 0 < size_of o)
    (begins : to ≡ address_of_word (amc.tail_of state o.pool generation).from) (words' : List ℕ)
    (copied : AreCopied (pool_layout y.world o.pool) s.words words' now to (size_of o))
    (v : copying.IsMove (setting_of s at_flip y) y.world.addresses y.colours t now to o)
    (moves : IsTrue (is_copying_pool y.world o.pool)) where
  abbrev b : Buffer
  b = amc.tail_of state o.pool generation

  abbrev state_after : AmcState
  state_after = amc.with_tail state o.pool generation (record { from = b.from + size_of o; count = b.count - size_of o })

  abbrev segs_after : SegsState
  segs_after = record (moved_to s now to (size_of o)) { words = words' }

  abbrev y' : Collecting
  y' = moved_in y t to

  -- ---- tails

  same_run : run_of b ≡ tail_of y.world o.pool generation
  same_run = stands.tails.same o.pool generation

  -- what is after the copy in its segment is the rest of the tail
  words_left : words_after y.world to (words_of y.world t) ≡ rest_of (tail_of y.world o.pool generation) (size_of o)
  words_left =
      let tail = tail_of y.world o.pool generation in
      let first : b.from ≡ tail.from = ap (λ (r : Run). r.from) same_run in
      let long : b.count ≡ tail.count = ap (λ (r : Run). r.count) same_run in
      let home = stands.hands.home o.pool generation (omega (arith, positive, fits, long)) in
      let there = contains_among s.segments home.segment home.held in
      let aligned = among_aligned home.segment s.segments stands.held.aligned there in
      let over : segment_over s.segments (address_of_word tail.from) ≡ Some home.segment =
      over_back s stands.held tail.from home.segment
      (record { among = there; covers = (omega (arith, home.above), omega (arith, home.ends, positive, fits, long, aligned)) })
      in
      let at : to ≡ address_of_word tail.from = begins ∙ ap address_of_word first in
      let found : segment_over y.world.segments to ≡ Some home.segment =
      ap (segment_over y.world.segments) at ∙ ap (λ ss. segment_over ss (address_of_word tail.from)) (sym stands.segments.same_segments)
      ∙ over
      in
      let from_is : word_of (to + 8 * size_of o) ≡ tail.from + size_of o = omega (arith, at) in
      let count_is : word_of (end_of_segment home.segment) - word_of (to + 8 * size_of o) ≡ tail.count - size_of o =
      omega (arith, from_is, home.ends)
      in
      ap (words_after y.world to) (words_are y.world t now o v.object v.there)
      ∙ ap (λ e. option_map_or (λ u. rest_of_segment u (to + 8 * size_of o)) e empty_run) found
      ∙ ap (λ n. record { from = n; count = word_of (end_of_segment home.segment) - word_of (to + 8 * size_of o) }) from_is
      ∙ ap (λ n. record { from = tail.from + size_of o; count = n }) count_is

  taken : IsFirstTaken (tail_of y.world) (tail_of y'.world) o.pool generation (size_of o)
  taken = record {
    fits = omega (arith, fits, ap (λ (r : Run). r.count) same_run);
    own =
        ap (λ p. tail_of y'.world p generation) (sym (pool_is y.world t now o v.object v.there))
        ∙ ap (tail_of y'.world (pool_of y.world t)) (sym target)
        ∙ own_tail y.world.tails (pool_of y.world t) (target_generation_for y.world t) (words_after y.world to (words_of y.world t))
        ∙ words_left;
    others = λ p g other.
        other_tail y.world.tails (pool_of y.world t) (target_generation_for y.world t) p g (words_after y.world to (words_of y.world t))
        (λ e f. other (sym e ∙ pool_is y.world t now o v.object v.there) (sym f ∙ target));
  }

  same_tails : (p g : ℕ) → run_of (amc.tail_of state_after p g) ≡ tail_of y'.world p g
  same_tails p g =
      let rest : Buffer = record { from = b.from + size_of o; count = b.count - size_of o } in
      elim (which p g o.pool generation) [
        | inl same ↦
            let own : run_of (amc.tail_of state_after o.pool generation) ≡ tail_of y'.world o.pool generation =
            ap run_of (tail_written state o.pool generation rest has) ∙ ap (λ r. rest_of r (size_of o)) same_run ∙ sym taken.own
            in
            subst (λ q. run_of (amc.tail_of state_after q g) ≡ tail_of y'.world q g) (sym same.0)
            (subst (λ h. run_of (amc.tail_of state_after o.pool h) ≡ tail_of y'.world o.pool h) (sym same.1) own)
        | inr other ↦
            ap run_of (other_buffer state o.pool generation rest has p g other) ∙ stands.tails.same p g ∙ sym (taken.others p g other)
      ]

  -- ---- runs

  apart : AllByRecursion (AreApart (run_at to (size_of o))) s.covered
  apart =
      let words = run_at to (size_of o) in
      let at : (n : Word) → Covers words n → n ≡ word_of to + (n - word_of to) = λ n c. omega (arith, c.0) in
      subst (AllByRecursion (AreApart words)) (sym stands.image.runs.covered)
      (all_in_order (AreApart words)
      (extents_of y.world.graph.objects y.world.addresses ++ reserved_extents y.world.graph.points y.world.point_memories)
      (all_append (AreApart words) (extents_of y.world.graph.objects y.world.addresses)
      (reserved_extents y.world.graph.points y.world.point_memories)
      (all_extents (AreApart words) y.world.graph.objects y.world.addresses (λ id a p e object n c d.
      v.hand.free (n - word_of to) id (n - word_of a) p (omega (arith, c.0, c.1))
      (record { at = a; address = e; object = object; within = omega (arith, d.0, d.1); is = omega (arith, d.0, at n c) })))
      (all_reserved (AreApart words) y.world.graph.points y.world.point_memories (λ i r m live has' n c d.
      v.hand.unreserved (n - word_of to) i (n - word_of m.reserved_at) r (omega (arith, c.0, c.1))
      (record { memory = m; reserved = live; has = has'; within = omega (arith, d.0, d.1); is = omega (arith, d.0, at n c) })))))

  covered_after : IsAscending 0 (words_of_arena s.grains) segs_after.covered
  covered_after =
      let within = v.hand.within in
      ascending_with_run 0 (words_of_arena s.grains) (run_at to (size_of o)) (without_run (word_of now) s.covered)
      (record { above = omega arith; below = omega (arith, within); some = positive })
      (all_without (AreApart (run_at to (size_of o))) (word_of now) s.covered apart)
      (IsAscending-without_run 0 (words_of_arena s.grains) (word_of now) s.covered stands.covered)

  -- ---- the image

  marks : AreMarksMoved (memory_in s).kept (memory_in s).grey (memory_in segs_after).kept (memory_in segs_after).grey (word_of now)
      (word_of to)
  marks =
      let apart_words : word_of now ≢ word_of to = λ e. copying.to_apart (setting_of s at_flip y) y.world.addresses y.colours t now to o
      stands.image.placed v t now v.there e in
      let within = v.hand.within in
      moving_marks (record s {
        covered = with_run (run_at to (size_of o)) (without_run (word_of now) s.covered);
        blocks = with_run (run_at to (size_of o)) (without_run (word_of now) s.blocks);
      }) now to apart_words (has_marks s (word_of to) stands.tables (omega (arith, within, positive)))

  image_after : ImageStands (setting_of s at_flip y) (memory_in segs_after) (address_moved y.world.addresses t to) (keeping y.colours t)
      done
  image_after =
      let setting = setting_of s at_flip y in
      let m = memory_in s in
      let st = stands.image in
      let m' = memory_in segs_after in
      record {
        placed = copying.placed_moved setting y.world.addresses y.colours t now to o st.placed v;
        words = copying.words_copied setting y.world.addresses y.colours t now to o st.placed v m.words words' copied st.words;
        fixed = copying.fixed_copied setting y.world.addresses y.colours t now to o st.placed v m.words words' copied done st.fixed;
        marks =
            copying.marks_moved setting y.world.addresses y.colours t now to o st.placed v m.kept m.grey m'.kept m'.grey marks st.marks;
        runs = runs_moved setting m y.world.addresses y.colours t now to o words' m'.kept m'.grey st.placed v st.runs;
      }

  -- ---- all of it

  -- what moved is of a pool that moves blocks
  still_moved : AreStill y.world.graph.objects (is_copying_pool y.world) at_flip (address_moved y.world.addresses t to)
  still_moved id p from here object isnt was is = elim (cases_eq id t) [
    | inl same ↦
        let same_object : p ≡ o = same_Some p o (sym object ∙ ap (slice_get y.world.graph.objects) same ∙ v.object) in
        absurd (true≢false (sym moves ∙ ap (λ (q : Object). is_copying_pool y.world q.pool) (sym same_object) ∙ isnt))
    | inr other ↦ stands.still id p from here object isnt was (sym (entry_at-set_other y.world.addresses t id (Some to) other) ∙ is)
  ]

  pub copied_stands : StateStands layout formats of at_flip done state_after segs_after y'
  copied_stands = record {
    segments = record {
      same_grains = stands.segments.same_grains;
      same_limit = stands.segments.same_limit;
      same_segments = stands.segments.same_segments;
    };
    held = record { small = stands.held.small; aligned = stands.held.aligned; ascending = stands.held.ascending };
    tables = tables_moved s now to (size_of o) words' stands.tables;
    covered = covered_after;
    reserved = stands.reserved;
    condemned = record { is_bit = stands.condemned.is_bit; is_held = stands.condemned.is_held };
    image = image_after;
    pools = stands.pools;
    collected = stands.collected;
    still = still_moved;
    tails = record { has = λ p g is. has_still state o.pool generation _ has p _ (stands.tails.has p g is); same = same_tails };
    hands =
        tails_after (setting_of s at_flip y) s.segments y.world.addresses y.colours (tail_of y.world)
        (tail_of y'.world) stands.hands t now to
        o generation stands.image.placed v (begins ∙ ap address_of_word (ap (λ (r : Run). r.from) same_run)) taken;
  }
