-- What fixes and scans do to ranks: they take exact segments alone, and a block that becomes grey gets a mark of its segment's rank.
use Rattle.std.proofs.Common.{◌≡◌, ◌∙◌, ◌⊎◌, ℕ, ◌+◌, Bool, true, false, refl, sym, ap, subst, List, [], ◌∷◌, Option, Some, None, Result, Ok, Err, Contains, inl, inr, arith}
use Rattle.std.proofs.lemmas.Bool.{cases_Bool, cases_lt, cases_eq, true≢false, and_from, and_parts, cond-true, cond-false, le-leb, leb-true, lt-ltb, ltb-true}
use Rattle.std.proofs.lemmas.List.{get_or-set_same, get_or-set_other, get_or_past, length-set}
use Rattle.std.proofs.lemmas.Option.{none-some}
use Rattle.std.specs.Prelude.{slice_set, length, nat_le, nat_lt}
use Rattle.mps_base.specs.Address.{Address, Grain, Word, word_of, address_of_word, address_of_grain}
use Rattle.mps_base.specs.Run.{with_run, without_run}
use Rattle.mps_base.specs.Placement.{Placement, Place, NewSegment, OverLimit, NoFreeRun}
use Rattle.mps_base.specs.Segment.{Segment, end_of_segment, is_in_segment, segment_over, with_segment}
use Rattle.mps_base.specs.declared.address.Addr.{Addr}
use Rattle.mps_base.specs.declared.names.Rank.{Rank}
use Rattle.mps_base.specs.declared.names.Rank.TheVariants.{Exact, Weak}
use Rattle.mps_base.specs.declared.refusal.Refusal.{Refusal}
use Rattle.mps_extents.specs.Table.{bit}
use Rattle.mps_format.specs.Layout.{Layout}
use Rattle.mps_seg.specs.Arena.{answer_of_placement}
use Rattle.mps_seg.specs.Marks.{MarkTables, with_grey, without_marks}
use Rattle.mps_seg.specs.Segs.{SegsState, segments_after}
use Rattle.mps_seg.specs.Collecting.{rank_of, keeping, first_grain_over, noting_in}
use Rattle.mps_amc.specs.Moving.{run_at, size_at}
use Rattle.mps_amc.specs.Amc.{placement_of_copy, segs_fixed, with_place}
use Rattle.mps_trace.specs.GenState.{ChainsState}
use Rattle.mps_laws.proofs.Positions.Segments.{IsAmong, among_cases, among_with, found_among}
use Rattle.mps_trace.specs.Trace.{Traced, KeepsTo, FixesTo, moves, marks, finds, keeps, target_of}
use Rattle.mps_trace.specs.Scan.{FixesCell, is_null, leads, ScansTo, begins, goes_on, word_at, Scanned, ScansOne}
use Rattle.mps_trace_laws.specs.Fix.Ranks.{AreMarksRanked}
use Rattle.mps_trace_laws.specs.Image.SegmentWords.{AreSegmentsInOrder}
use Rattle.mps_trace_laws.proofs.Fix.Hands.{contains_among}
use Rattle.mps_trace_laws.proofs.Fix.NewTail.{among_contains}
use Rattle.mps_trace_laws.proofs.Fix.RankedMarks.{after_exact, after_weak}
use Rattle.mps_trace_laws.proofs.Reclaim.HeldSegments.{over}
use Rattle.mps_trace_laws.proofs.Reclaim.SegmentBounds.{aligned_in}
use Rattle.mps_format.specs.declared.pool.Policy.{Policy}

-- ---- bits

-- a bit that is clear stays so where one is cleared
still_clear : (bits : List Bool) (n m : Word) → bit bits m ≡ false → bit (slice_set bits n false) m ≡ false
unfolding bit
still_clear bits n m clear =
    elim (cases_eq m n) [
      | inl same ↦
          elim (cases_lt n (length bits)) [
            | inl within ↦ ap (λ k. bit (slice_set bits n false) k) same ∙ get_or-set_same bits n false false within
            | inr past ↦
                get_or_past (slice_set bits n false) m false (let long = length-set bits n false in omega (arith, past, long, same))
          ]
      | inr other ↦ get_or-set_other bits n m false false other ∙ clear
    ]

-- so one that is set then was set
pub was_set : (bits : List Bool) (n m : Word) → bit (slice_set bits n false) m ≡ true → bit bits m ≡ true
was_set bits n m is = elim (cases_Bool (bit bits m)) [
  | inl set ↦ set
  | inr clear ↦ absurd (true≢false (sym is ∙ still_clear bits n m clear))
]

-- ---- segments

-- some segments are among others, of which the rest are exact
pub record AreAllButExact (some all : List Segment) : Type 0 where
  pub held : (t : Segment) → Contains some t → Contains all t
  pub rest : (t : Segment) → Contains all t → Contains some t ⊎ (t.rank ≡ Exact)

pub all_of_them : (ss : List Segment) → AreAllButExact ss ss
all_of_them ss = record { held = λ t there. there; rest = λ t there. inl there }

-- and so are those without an exact one
without_one : (s : Segment) (ss all : List Segment) → s.rank ≡ Exact → AreAllButExact (with_segment s ss) all → AreAllButExact ss all
without_one s ss all exact but = record {
  held = λ t there.
      but.held t (among_contains (with_segment s ss) t (among_with s t ss (contains_among ss t there)));
  rest = λ t there. elim (but.rest t there) [
    | inr is ↦ inr is
    | inl among ↦ elim (among_cases s t ss (contains_among (with_segment s ss) t among)) [
      | inl same ↦ inr (ap (λ (u : Segment). u.rank) (sym same) ∙ exact)
      | inr old ↦ inl (among_contains ss t old)
    ]
  ];
}

before_placement : (p : Placement) (pool generation : ℕ) (ss all : List Segment)
    → AreAllButExact (segments_after p pool generation Exact ss) all → AreAllButExact ss all
before_placement (NewSegment grain grains) pool generation ss all but =
    without_one (record { base = address_of_grain grain; grains = grains; pool = pool; generation = generation; rank = Exact }) ss all refl
    but
before_placement (Place word) pool generation ss all but = but
before_placement (OverLimit committed need limit) pool generation ss all but = but
before_placement (NoFreeRun need longest) pool generation ss all but = but

-- if nothing is found over an address none of the segments has it
none_over : (ss : List Segment) (t : Segment) (at : Address) → IsAmong t ss → is_in_segment t at ≡ true → segment_over ss at ≡ None → ⊥
none_over [] t at there is none = absurd there
none_over (s ∷ ss) t at there is none =
    elim (cases_Bool (is_in_segment s at)) [
      | inl here ↦ none-some s (sym none ∙ cond-true (is_in_segment s at) (Some s) (segment_over ss at) here)
      | inr elsewhere ↦ elim there [
        | inl same ↦ absurd (true≢false (sym is ∙ ap (λ (u : Segment). is_in_segment u at) (sym same) ∙ elsewhere))
        | inr later ↦
            none_over ss t at later is (sym (cond-false (is_in_segment s at) (Some s) (segment_over ss at) elsewhere) ∙ none)
      ]
    ]

-- an address lies in a segment with its word
in_with_word : (t : Segment) (at : Address) → t.base ≡ address_of_grain (Rattle.mps_base.specs.Address.grain_of t.base)
    → is_in_segment t (address_of_word (word_of at)) ≡ true → is_in_segment t at ≡ true
in_with_word t at base is =
    let n = word_of at in
    let parts = and_parts (nat_le t.base (address_of_word n)) (nat_lt (address_of_word n) (end_of_segment t)) is in
    let low = leb-true t.base (address_of_word n) parts.0 in
    let high = ltb-true (address_of_word n) (end_of_segment t) parts.1 in
    and_from (nat_le t.base at) (nat_lt at (end_of_segment t)) (le-leb t.base at (omega (arith, low)))
    (lt-ltb at (end_of_segment t) (omega (arith, high, base)))

module _ (all : List Segment) (order : AreSegmentsInOrder all) where
  -- an address has the same rank among them all as it had among some of them
  rank_same : (ss : List Segment) (at : Address) → AreAllButExact ss all
      → rank_of (segment_over all (address_of_word (word_of at))) ≡ rank_of (segment_over ss at)
  rank_same ss at but = before (segment_over ss at) refl
    where
      now : segment_over ss at ≡ None → (o : Option Segment) → segment_over all (address_of_word (word_of at)) ≡ o → rank_of o ≡ Exact
      now none None e = refl
      now none (Some v) e =
          let found = found_among (λ (u : Segment). is_in_segment u (address_of_word (word_of at))) all v e in
          let there = among_contains all v found.0 in
          elim (but.rest v there) [
            | inr exact ↦ exact
            | inl among ↦
                absurd (none_over ss v at (contains_among ss v among)
                (in_with_word v at (aligned_in all v order.aligned there) found.1) none)
          ]

      before : (o : Option Segment) → segment_over ss at ≡ o
          → rank_of (segment_over all (address_of_word (word_of at))) ≡ rank_of o
      before None e = now e (segment_over all (address_of_word (word_of at))) refl
      before (Some u) e =
          let found = found_among (λ (v : Segment). is_in_segment v at) ss u e in
          let there = but.held u (among_contains ss u found.0) in
          let parts = and_parts (nat_le u.base at) (nat_lt at (end_of_segment u)) found.1 in
          let low = leb-true u.base at parts.0 in
          let high = ltb-true at (end_of_segment u) parts.1 in
          let base = aligned_in all u order.aligned there in
          ap rank_of (over all order u (word_of at) there (omega (arith, low)) (omega (arith, high, base)))

  -- ---- marks

  -- each grey block has the mark of its rank among them all
  pub record AreRanked (m : MarkTables) : Type 0 where
    pub exact : (n : Word) → bit m.exact n ≡ true → rank_of (segment_over all (address_of_word n)) ≡ Exact
    pub weak : (n : Word) → bit m.weak n ≡ true → rank_of (segment_over all (address_of_word n)) ≡ Weak

  greyed : (rank : Rank) (n : Word) (m : MarkTables) → rank_of (segment_over all (address_of_word n)) ≡ rank → AreRanked m
      → AreRanked (with_grey rank n m)
  greyed rank n m is ranked = record {
    exact = λ k set. elim (after_exact rank n k m set) [
      | inl new ↦ ap (λ w. rank_of (segment_over all (address_of_word w))) new.0 ∙ is ∙ new.1
      | inr old ↦ ranked.exact k old
    ];
    weak = λ k set. elim (after_weak rank n k m set) [
      | inl new ↦ ap (λ w. rank_of (segment_over all (address_of_word w))) new.0 ∙ is ∙ new.1
      | inr old ↦ ranked.weak k old
    ];
  }

  cleared : (n : Word) (m : MarkTables) → AreRanked m → AreRanked (without_marks n m)
  cleared n m ranked = record {
    exact = λ k set. ranked.exact k (was_set m.exact n k set);
    weak = λ k set. ranked.weak k (was_set m.weak n k set);
  }

  -- a block is no longer where it was
  abbrev moved_from : SegsState → (from to : Address) → (size : ℕ) → SegsState
  moved_from s from to size = record s {
    covered = with_run (run_at to size) (without_run (word_of from) s.covered);
    blocks = with_run (run_at to size) (without_run (word_of from) s.blocks);
    marks = without_marks (word_of from) s.marks;
  }

  -- a block is kept where it was placed, or where it lies
  fixed_ranked : (placed : Result Addr Refusal) (s : SegsState) (at : Address) (size : ℕ) → AreAllButExact s.segments all
      → AreRanked s.marks → AreRanked (segs_fixed placed s at size).marks
  fixed_ranked (Ok to) s at size but ranked =
      greyed (rank_of (segment_over s.segments to.0)) (word_of to.0) (moved_from s at to.0 size).marks (rank_same s.segments to.0 but)
      (cleared (word_of at) s.marks ranked)
  fixed_ranked (Err why) s at size but ranked =
      greyed (rank_of (segment_over s.segments at)) (word_of at) (keeping s at).marks (rank_same s.segments at but)
      (record { exact = ranked.exact; weak = ranked.weak })

  fixed_segments : (placed : Result Addr Refusal) (s : SegsState) (at : Address) (size : ℕ)
      → (segs_fixed placed s at size).segments ≡ s.segments
  fixed_segments (Ok to) s at size = refl
  fixed_segments (Err why) s at size = refl

  noted_segments : (s : SegsState) (o : Option Grain) (target : Address) → (noting_in s o target).segments ≡ s.segments
  noted_segments s None target = refl
  noted_segments s (Some grain) target = refl

  noted_marks : (s : SegsState) (o : Option Grain) (target : Address) → (noting_in s o target).marks ≡ s.marks
  noted_marks s None target = refl
  noted_marks s (Some grain) target = refl

  -- marks that are ranked in their own segments are so among them all, and the other way round
  pub ranked_among : (s : SegsState) → AreAllButExact s.segments all → AreMarksRanked s → AreRanked s.marks
  ranked_among s but ranked = record {
    exact = λ n set. same n ∙ ranked.exact n set;
    weak = λ n set. same n ∙ ranked.weak n set;
  }
    where
      same : (n : Word) → rank_of (segment_over all (address_of_word n)) ≡ rank_of (segment_over s.segments (address_of_word n))
      same n =
          let e : word_of (address_of_word n) ≡ n = omega arith in
          ap (λ w. rank_of (segment_over all (address_of_word w))) (sym e) ∙ rank_same s.segments (address_of_word n) but

  -- ---- fixes

  module _ {F : Type 0} (layout : F → Layout) (formats : List (Option (Policy F))) (of : ChainsState) where
    kept_but : {x z : Traced} {at answer : Addr} → KeepsTo layout formats of x at z answer → AreAllButExact z.segs.segments all
        → AreAllButExact x.segs.segments all
    kept_but {x} {at = at} (moves t format answer over listed is fixed noted) but =
        let size = size_at (layout format.format) x.segs.words at.0 in
        let p = placement_of_copy x.amc x.segs t.pool (target_of of t) size in
        let same =
        ap (λ (w : Traced). w.segs.segments) noted
        ∙ ap (λ (s : SegsState). s.segments) fixed.state
        ∙ fixed_segments (answer_of_placement p) (with_place x.segs t.pool (target_of of t) p) at.0 size
        in
        before_placement p t.pool (target_of of t) x.segs.segments all (subst (λ ss. AreAllButExact ss all) same but)
    kept_but {x} {at = at} (marks t format over listed stays is) but =
        subst (λ ss. AreAllButExact ss all) (ap (λ (w : Traced). w.segs.segments) is) but

    kept_ranked : {x z : Traced} {at answer : Addr} → KeepsTo layout formats of x at z answer → AreAllButExact z.segs.segments all
        → AreRanked x.segs.marks → AreRanked z.segs.marks
    kept_ranked {x} {at = at} (moves t format answer over listed is fixed noted) but ranked =
        let size = size_at (layout format.format) x.segs.words at.0 in
        let p = placement_of_copy x.amc x.segs t.pool (target_of of t) size in
        let grown = with_place x.segs t.pool (target_of of t) p in
        let same =
        ap (λ (w : Traced). w.segs.segments) noted
        ∙ ap (λ (s : SegsState). s.segments) fixed.state
        ∙ fixed_segments (answer_of_placement p) grown at.0 size
        in
        subst AreRanked (sym (ap (λ (w : Traced). w.segs.marks) noted ∙ ap (λ (s : SegsState). s.marks) fixed.state))
        (fixed_ranked (answer_of_placement p) grown at.0 size (subst (λ ss. AreAllButExact ss all) same but)
        (record { exact = ranked.exact; weak = ranked.weak }))
    kept_ranked {x} {at = at} (marks t format over listed stays is) but ranked =
        let was = subst (λ ss. AreAllButExact ss all) (ap (λ (w : Traced). w.segs.segments) is) but in
        subst AreRanked (sym (ap (λ (w : Traced). w.segs.marks) is))
        (greyed (rank_of (segment_over x.segs.segments at.0)) (word_of at.0) (keeping x.segs at.0).marks
        (rank_same x.segs.segments at.0 was) (record { exact = ranked.exact; weak = ranked.weak }))

    pub fix_but : {x z : Traced} {at answer : Addr} → FixesTo layout formats of x at z answer → AreAllButExact z.segs.segments all
        → AreAllButExact x.segs.segments all
    fix_but (finds to found) but = but
    fix_but (keeps answer white kept) but = kept_but kept but

    pub fix_ranked : {x z : Traced} {at answer : Addr} → FixesTo layout formats of x at z answer → AreAllButExact z.segs.segments all
        → AreRanked x.segs.marks → AreRanked z.segs.marks
    fix_ranked (finds to found) but ranked = ranked
    fix_ranked (keeps answer white kept) but ranked = kept_ranked kept but ranked

    -- ---- scans

    module _ (f : Layout) (at : Addr) where
      -- with the word of a cell written
      abbrev written : Traced → (cell : ℕ) → (to : Addr) → Traced → SegsState
      written x cell to y =
          record y.segs { words = slice_set y.segs.words (word_of at.0 + cell) (f.retarget (word_at x at cell) to.0) }

      cell_but : (cell : ℕ) {x z : Traced} → FixesCell layout f formats of at cell x z → AreAllButExact z.segs.segments all
          → AreAllButExact x.segs.segments all
      cell_but cell (is_null null) but = but
      cell_but cell {x} (leads {y} to positive fixed is) but =
          let s = written x cell to y in
          let same = ap (λ (w : Traced). w.segs.segments) is ∙ noted_segments s (first_grain_over s at.0) to.0 in
          fix_but fixed (subst (λ ss. AreAllButExact ss all) same but)

      cell_ranked : (cell : ℕ) {x z : Traced} → FixesCell layout f formats of at cell x z → AreAllButExact z.segs.segments all
          → AreRanked x.segs.marks → AreRanked z.segs.marks
      cell_ranked cell (is_null null) but ranked = ranked
      cell_ranked cell {x} (leads {y} to positive fixed is) but ranked =
          let s = written x cell to y in
          let same = ap (λ (w : Traced). w.segs.segments) is ∙ noted_segments s (first_grain_over s at.0) to.0 in
          subst AreRanked (sym (ap (λ (w : Traced). w.segs.marks) is ∙ noted_marks s (first_grain_over s at.0) to.0))
          (fix_ranked fixed (subst (λ ss. AreAllButExact ss all) same but) ranked)

      run_but : (head : ℕ) {x z : Traced} {from : ℕ} → ScansTo layout f formats of head at x from z → AreAllButExact z.segs.segments all
          → AreAllButExact x.segs.segments all
      run_but head begins but = but
      run_but head (goes_on from cell earlier first fixed) but = run_but head earlier (cell_but cell fixed but)

      run_ranked : (head : ℕ) {x z : Traced} {from : ℕ} → ScansTo layout f formats of head at x from z
          → AreAllButExact z.segs.segments all → AreRanked x.segs.marks → AreRanked z.segs.marks
      run_ranked head begins but ranked = ranked
      run_ranked head (goes_on from cell earlier first fixed) but ranked =
          cell_ranked cell fixed but (run_ranked head earlier (cell_but cell fixed but) ranked)

-- marks are ranked among their own segments
pub ranked_there : (s : SegsState) (order : AreSegmentsInOrder s.segments) → AreRanked s.segments order s.marks → AreMarksRanked s
ranked_there s order ranked = record { exact = ranked.exact; weak = ranked.weak }

-- where a block is kept marks are ranked if they were before
pub keeps_ranks : {F : Type 0}
    → (layout : F → Layout) (formats : List (Option (Policy F))) (of : ChainsState) {x z : Traced} {at answer : Addr}
    → KeepsTo layout formats of x at z answer → AreSegmentsInOrder z.segs.segments → AreMarksRanked x.segs → AreMarksRanked z.segs
keeps_ranks layout formats of {x} {z} kept order ranked =
    let all = z.segs.segments in
    let but = kept_but all order layout formats of kept (all_of_them all) in
    ranked_there z.segs order
    (kept_ranked all order layout formats of kept (all_of_them all) (ranked_among all order x.segs but ranked))

-- and so they are after a scan
pub scanned_keeps_ranks : {F : Type 0}
    → (layout : F → Layout) (formats : List (Option (Policy F))) (of : ChainsState) (x z : Traced) (at : Addr)
    → Scanned layout formats of x at z → AreSegmentsInOrder z.segs.segments → AreMarksRanked x.segs → AreMarksRanked z.segs
scanned_keeps_ranks layout formats of x z at is order ranked =
    let all = z.segs.segments in
    let f = layout is.format.format in
    let last = subst (λ ss. AreAllButExact ss all) (ap (λ (w : Traced). w.segs.segments) is.black) (all_of_them all) in
    let but = run_but all order layout formats of f at _ is.all.run last in
    let now = run_ranked all order layout formats of f at _ is.all.run last (ranked_among all order x.segs but ranked) in
    ranked_there z.segs order (subst (AreRanked all order) (sym (ap (λ (w : Traced). w.segs.marks) is.black)) (record {
      exact = λ n set. now.exact n (was_set is.before.segs.marks.exact (word_of at.0) n set);
      weak = λ n set. now.weak n (was_set is.before.segs.marks.weak (word_of at.0) n set);
    }))

pub scan_keeps_ranks : {F : Type 0}
    → (layout : F → Layout) (formats : List (Option (Policy F))) (of : ChainsState) (x z : Traced) → ScansOne layout formats of x z
    → AreSegmentsInOrder z.segs.segments → AreMarksRanked x.segs → AreMarksRanked z.segs
scan_keeps_ranks layout formats of x z one order ranked =
    scanned_keeps_ranks layout formats of x z (Rattle.mps_seg.specs.Segs.at_word one.word) one.scanned order ranked
