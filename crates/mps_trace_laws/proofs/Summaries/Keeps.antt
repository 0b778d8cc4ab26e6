-- A white block is kept: each run stays summed.
use Rattle.std.proofs.Common.{◌≡◌, ◌∙◌, ◌⊎◌, ℕ, ◌+◌, ◌%◌, ◌<◌, ◌≤◌, false, true, refl, sym, ap, List, Option, Some, None, Contains, subst, inl, inr, arith}
use Rattle.std.proofs.lemmas.Bool.{eq-eqb}
use Rattle.std.proofs.lemmas.Option.{same_Some}
use Rattle.std.specs.Int.Bits.{or_self}
use Rattle.std.specs.Prelude.{if◌then◌else◌, slice_get, slice_index, slice_set, bit_or}
use Rattle.mps_base.specs.Address.{Address, Grain, word_of, grain_of, address_of_word, address_of_grain, grains_needed}
use Rattle.mps_base.specs.Placement.{Placement, Place, NewSegment}
use Rattle.mps_base.specs.Run.{Run, end_of, gaps, lowest_fitting}
use Rattle.mps_base.specs.Segment.{Segment, segment_over, words_of_segment, with_segment}
use Rattle.mps_base.specs.declared.address.Addr.{Addr}
use Rattle.mps_base.specs.declared.names.Rank.TheVariants.{Exact}
use Rattle.mps_base.proofs.Runs.{contained_bounds}
use Rattle.mps_extents.proofs.ApartRuns.{apart_from_put}
use Rattle.mps_format.specs.Layout.{Layout}
use Rattle.mps_format.specs.declared.pool.Policy.{Policy}
use Rattle.mps_seg.specs.Arena.{answer_of_placement}
use Rattle.mps_seg.specs.Buffer.{run_of}
use Rattle.mps_seg.specs.Collecting.{first_grain_over}
use Rattle.mps_seg.specs.Segs.{SegsState, held_runs}
use Rattle.mps_seg.specs.declared.buffer.Buffer.{Buffer}
use Rattle.mps_amc.specs.Moving.{AreCopied, kept_in_place, moved_to, run_at, size_at}
use Rattle.mps_amc.specs.Amc.{AreWordsFixed, IsFixed, answer_of_fix, placement_of_copy, segs_fixed, tail_of, with_place}
use Rattle.mps_trace.specs.GenState.{ChainsState}
use Rattle.mps_trace.specs.Noting.{copy_noted, summaries_of_copy, zones_of_block}
use Rattle.mps_trace.specs.Trace.{Traced, CanMove, CanKeep, CanFixAt, KeepsTo, FixesTo, moves, marks, finds, keeps, target_of}
use Rattle.mps_laws.proofs.Positions.ApartRuns.{AreApart, apart_parts}
use Rattle.mps_laws.proofs.Positions.Segments.{among_new}
use Rattle.mps_trace_laws.specs.Fix.Tracing.{AreHeld, HasTables, AreCoveredInOrder}
use Rattle.mps_trace_laws.specs.Summaries.Summed.{AreWordsSummed}
use Rattle.mps_trace_laws.proofs.Fix.Growing.{IsFree, with_one, held_more, not_held, over_back, over_still}
use Rattle.mps_trace_laws.proofs.Fix.Hands.{IsPlacedAt, in_tail, in_new, is_over, has_no_run, placed_at}
use Rattle.mps_trace_laws.proofs.Summaries.Moves.{AreRunsHeld, move_summed, taken_summed}

-- a block that stays notes nothing
same_summaries : (summaries : List ℕ) (grain : Option Grain) (zones : ℕ) → summaries_of_copy summaries grain grain zones ≡ summaries
same_summaries summaries None zones = refl
same_summaries summaries (Some grain) zones =
    let own = slice_index summaries grain in
    let known = eq-eqb (bit_or own own) own (or_self own) in
    ap (λ b. if b then summaries else slice_set summaries grain (bit_or own zones)) known

-- the words of a tail lie in a segment of its pool
abbrev pub AreTailsHome : Traced → Type 0
AreTailsHome x =
    (pool generation : ℕ) → 0 < (tail_of x.amc pool generation).count
    → (u : Segment) × (segment_over x.segs.segments (address_of_word (tail_of x.amc pool generation).from) ≡ Some u) × (u.pool ≡ pool)

module _ {F : Type 0} (layout : F → Layout) (formats : List (Option (Policy F))) (of : ChainsState) (x : Traced) (held : AreHeld x.segs)
    (tables : HasTables x.segs) (ascending : AreCoveredInOrder x.segs) (runs_held : AreRunsHeld x.segs) (tails_home : AreTailsHome x)
    (summed : AreWordsSummed layout formats x.segs) (at : Addr)
  where
    abbrev IsSummed : SegsState → Type 0
    IsSummed s = AreWordsSummed layout formats s

    module _ (s : Segment) (format : Policy F) (aligned : at.0 % 8 ≡ 0) (over : segment_over x.segs.segments at.0 ≡ Some s)
        (listed : slice_get formats s.pool ≡ Some (Some format)) (can : CanMove (layout format.format) of x at.0 s) where
      abbrev f : Layout
      f = layout format.format

      abbrev size : ℕ
      size = size_at f x.segs.words at.0

      abbrev b : Buffer
      b = tail_of x.amc s.pool (target_of of s)

      some : 0 < size
      some = (contained_bounds 0 _ x.segs.covered (run_at at.0 size) ascending can.block.covered).1

      -- what the segments are after a block was placed, and noted
      abbrev after : (p : Placement) → List ℕ → SegsState
      after p ws = copy_noted f
          (record (segs_fixed (answer_of_placement p) (with_place x.segs s.pool (target_of of s) p) at.0 size) { words = ws }) at.0
          (answer_of_fix (answer_of_placement p) at).0

      -- it moves to a tail
      to_tail : size ≤ b.count → (ws : List ℕ) → AreCopied f x.segs.words ws at.0 (address_of_word b.from) size
          → IsSummed (after (Place b.from) ws)
      to_tail fits ws copied =
          let to = address_of_word b.from in
          let home = tails_home s.pool (target_of of s) (omega (arith, some, fits)) in
          let room = can.at_hand (omega (arith, some, fits)) in
          let apart : (r : Run) → Contains x.segs.covered r → (word_of to + size ≤ r.from) ⊎ (end_of r ≤ word_of to) =
          λ r there. elim (apart_from_put 0 _ x.segs.covered (run_of b) r room.free there) [
            | inl later ↦ inl (omega (arith, later, fits))
            | inr before ↦ inr (omega (arith, before))
          ]
          in
          move_summed layout formats x.segs held s home.0 format at.0 to size _ ws ascending aligned (omega arith) over home.1 home.2 listed
          can.block.covered refl apart copied summed

      -- it moves to a segment that is taken
      module _ (grain : ℕ) (lowest : lowest_fitting (grains_needed size) (gaps 1 (x.segs.grains + 1) (held_runs x.segs)) ≡ Some grain)
          (ws : List ℕ) (copied : AreCopied f x.segs.words ws at.0 (address_of_grain grain) size) where
        abbrev base : Address
        base = address_of_grain grain

        abbrev u : Segment
        u = record { base = base; grains = grains_needed size; pool = s.pool; generation = target_of of s; rank = Exact }

        number : grain_of base ≡ grain
        number = omega arith

        free : IsFree x.segs u
        free = record { some = omega (arith, some); aligned = omega arith; fits = lowest ∙ ap (λ n. Some n) (sym number) }

        over_at : segment_over (with_one x.segs u).segments at.0 ≡ Some s
        over_at =
            let e : at.0 ≡ address_of_word (word_of at.0) = omega (arith, aligned) in
            ap (segment_over (with_one x.segs u).segments) e
            ∙ over_still x.segs held tables u free (word_of at.0) s (ap (segment_over x.segs.segments) (sym e) ∙ over)

        over_to : segment_over (with_one x.segs u).segments base ≡ Some u
        over_to =
            let e : base ≡ address_of_word (word_of base) = omega arith in
            ap (segment_over (with_one x.segs u).segments) e
            ∙ over_back (with_one x.segs u) (held_more x.segs held tables u free) (word_of base) u
            (record { among = among_new u x.segs.segments; covers = (omega arith, omega (arith, some)) })

        apart : (r : Run) → Contains x.segs.covered r → (word_of base + size ≤ r.from) ⊎ (end_of r ≤ word_of base)
        apart r there =
            let words = contained_bounds 0 _ x.segs.covered r ascending there in
            let beside : AreApart (words_of_segment u) r =
            λ n covers its. let t = runs_held r n there its in not_held x.segs held tables u free n covers t.0 t.1
            in
            elim (apart_parts (words_of_segment u) r beside (omega (arith, some)) words.1) [
              | inl later ↦ inl (omega (arith, later))
              | inr before ↦ inr (omega (arith, before))
            ]

        abbrev placed : (number : ℕ) → SegsState
        placed number = copy_noted f (record (moved_to (record x.segs {
          segments = with_segment u x.segs.segments;
          condemned = slice_set x.segs.condemned number false;
          summaries = slice_set x.segs.summaries number 0;
        }) at.0 base size) { words = ws }) at.0 base

        to_new : IsSummed (after (NewSegment grain (grains_needed size)) ws)
        to_new =
            let P : ℕ → Type 0 = λ n. IsSummed (placed n) in
            subst P number
            (move_summed layout formats (with_one x.segs u) (held_more x.segs held tables u free) s u format at.0 base size _ ws ascending
            aligned (omega arith) over_at over_to refl listed can.block.covered refl apart copied
            (taken_summed layout formats x.segs held tables _ ascending runs_held u free summed))

      -- it stays
      stays : (ws : List ℕ) → ws ≡ x.segs.words
          → IsSummed (copy_noted f (record (kept_in_place x.segs at.0) { words = ws }) at.0 at.0)
      stays ws same =
          let kept = kept_in_place x.segs at.0 in
          let zones = λ (vs : List ℕ). zones_of_block f vs at.0 in
          let P : List ℕ → Type 0 = λ vs. IsSummed (copy_noted f (record kept { words = vs }) at.0 at.0) in
          let Q : List ℕ → Type 0 = λ ss. IsSummed (record kept { summaries = ss }) in
          subst P (sym same)
          (subst Q
          (sym (same_summaries x.segs.summaries (first_grain_over x.segs at.0) (zones x.segs.words)))
          (record { sized = summed.sized; each = summed.each }))

      by_place : (p : Placement) → IsPlacedAt x.segs b size p → (ws : List ℕ)
          → AreWordsFixed (answer_of_placement p) f x.segs.words ws at.0 size → IsSummed (after p ws)
      by_place p (in_tail fits) ws copied = to_tail fits ws copied
      by_place p (in_new grain lowest) ws copied = to_new grain lowest ws copied
      by_place p (is_over committed need limit) ws same = stays ws same
      by_place p (has_no_run need longest) ws same = stays ws same

      moved_summed : (w : Traced) (answer : Addr)
          → IsFixed f x.amc w.amc x.segs w.segs x.moves w.moves at s.pool (target_of of s) size answer
          → IsSummed (copy_noted f w.segs at.0 answer.0)
      moved_summed w answer fixed =
          let p = placement_of_copy x.amc x.segs s.pool (target_of of s) size in
          let P : Addr → Type 0 = λ a. IsSummed (copy_noted f w.segs at.0 a.0) in
          let Q : SegsState → Type 0 = λ g. IsSummed (copy_noted f g at.0 (answer_of_fix (answer_of_placement p) at).0) in
          subst P (sym fixed.answer_is) (subst Q (sym fixed.state) (by_place p (placed_at x.segs b size) w.segs.words fixed.words))

    pub keep_summed : {z : Traced} {answer : Addr} → CanKeep layout formats of x at → KeepsTo layout formats of x at z answer
        → AreWordsSummed layout formats z.segs
    keep_summed can (moves {y = w} s format answer over listed moving fixed noted) =
        let segment : can.segment ≡ s = same_Some can.segment s (sym can.over ∙ over) in
        let policy : can.format ≡ format =
        same_Some can.format format (same_Some (Some can.format) (Some format)
        (sym can.listed ∙ ap (λ (t : Segment). slice_get formats t.pool) segment ∙ listed))
        in
        let P : Policy F → Type 0 = λ q. q.moves ≡ true → CanMove (layout q.format) of x at.0 can.segment in
        let Q : Segment → Type 0 = λ t. CanMove (layout format.format) of x at.0 t in
        let R : Traced → Type 0 = λ v. AreWordsSummed layout formats v.segs in
        subst R (sym noted)
        (moved_summed s format can.aligned over listed (subst Q segment (subst P policy can.moving moving)) w answer fixed)
    keep_summed can (marks s format over listed stays is) =
        let R : Traced → Type 0 = λ v. AreWordsSummed layout formats v.segs in
        subst R (sym is) (record { sized = summed.sized; each = summed.each })

    pub fix_summed : {z : Traced} {answer : Addr} → CanFixAt layout formats of x at → FixesTo layout formats of x at z answer
        → AreWordsSummed layout formats z.segs
    fix_summed can (finds to found) = summed
    fix_summed can (keeps answer white kept) = keep_summed (can.keep white) kept
