-- The blocks of segments that may refer to what a flip condemns become grey: what that changes of marks, and of the image.
use Rattle.std.proofs.Common.{◌≡◌, ◌∙◌, ℕ, suc, ◌<◌, ◌≤◌, Bool, true, false, List, [], ◌∷◌, Option, Some, Contains, refl, sym, ap, subst, inl, inr, arith}
use Rattle.std.proofs.lemmas.Bool.{false≢true, and_parts, or_cases, or_left, or_right, eqb-true, leb-true, ltb-true}
use Rattle.std.specs.Prelude.{◌||◌, ◌&&◌, ◌==◌, if◌then◌else◌, nat_le, nat_lt, not}
use Rattle.std.specs.List.{list_any}
use Rattle.mps_base.specs.Address.{Address, Id, Word, word_of, address_of_word}
use Rattle.mps_base.specs.Run.{Run, runs_within}
use Rattle.mps_base.specs.Segment.{Segment, end_of_segment, segment_over}
use Rattle.mps_base.specs.declared.names.Rank.{Rank}
use Rattle.mps_base.proofs.Runs.{contained_bounds, contains_cases, contains_first, contains_later}
use Rattle.mps_extents.specs.Table.{bit}
use Rattle.mps_extents.proofs.LowestGap.{contains_within}
use Rattle.mps_seg.specs.Marks.{MarkTables, with_grey}
use Rattle.mps_seg.specs.Segs.{SegsState}
use Rattle.mps_seg.specs.Table.{IsMarked}
use Rattle.mps_seg.specs.Collecting.{all_grey, greying_all, rank_at, rank_of}
use Rattle.mps_seg.proofs.Marked.{marked_grey, marked_all_grey, kept_stay}
use Rattle.mps_trace.specs.Flip.{greying_each}
use Rattle.mps_model.specs.Graph.{contains, entry_at}
use Rattle.mps_trace_laws.specs.Fix.Ranks.{AreMarksRanked}
use Rattle.mps_trace_laws.specs.Image.Image.{CellSet, ImageStands, WordsStand, FixedCellsStand, MarksStand}
use Rattle.mps_trace_laws.specs.Image.Memory.{Setting, BlockBegins, memory_in, words_of_arena}
use Rattle.mps_trace_laws.specs.Image.SegmentWords.{AreSegmentsInOrder}
use Rattle.mps_trace_laws.specs.Nails.Nailed.{AreTablesWhole, colours_at_flip, pinned_colours}
use Rattle.mps_trace_laws.proofs.Fix.RankedMarks.{after_exact, after_weak}
use Rattle.mps_trace_laws.proofs.Image.BlockRuns.{run_of_object}
use Rattle.mps_trace_laws.proofs.Nails.Flipped.{contains_both}
use Rattle.mps_trace_laws.proofs.Nails.Marks.{grey_more}
use Rattle.mps_trace_laws.proofs.Reclaim.HeldSegments.{over}

-- ---- where the blocks of segments begin

-- whether one of these runs begins at a word
abbrev pub begins_one : List Run → Word → Bool
begins_one rs n = list_any (λ (r : Run). r.from == n) rs

-- the blocks of a segment
abbrev pub blocks_of : List Run → Segment → List Run
blocks_of blocks t = runs_within (word_of t.base) (word_of (end_of_segment t)) blocks

-- whether a block of one of these segments begins at a word
abbrev pub begins_in : (blocks : List Run) → List Segment → Word → Bool
begins_in blocks ts n = list_any (λ (t : Segment). begins_one (blocks_of blocks t) n) ts

-- a run that begins at a word, if one does
pub run_that_begins : (rs : List Run) (n : Word) → begins_one rs n ≡ true → (r : Run) × Contains rs r × (r.from ≡ n)
run_that_begins [] n is = absurd (false≢true is)
run_that_begins (r ∷ rs) n is =
    elim (or_cases (r.from == n) (begins_one rs n) is) [
      | inl here ↦ (r, contains_first rs r, eqb-true r.from n here)
      | inr later ↦ let rest = run_that_begins rs n later in (rest.0, contains_later rs rest.0 r rest.1, rest.2)
    ]

-- ---- marks

module _ (grains : ℕ) (condemned : List Bool) (summaries : List ℕ) where
  last_of_three : (x a b : Bool) → (x || (a || b)) ≡ ((a || x) || b)
  last_of_three true true b = refl
  last_of_three true false b = refl
  last_of_three false true b = refl
  last_of_three false false b = refl

  -- these blocks become grey, and no others
  runs_grey : (rank : Rank) (rs : List Run) (m : MarkTables) → IsMarked grains m condemned summaries
      → ((r : Run) → Contains rs r → r.from < words_of_arena grains) → (n : Word)
      → (bit (all_grey rank rs m).exact n || bit (all_grey rank rs m).weak n) ≡ (begins_one rs n || (bit m.exact n || bit m.weak n))
  runs_grey rank [] m marked within n = refl
  runs_grey rank (r ∷ rs) m marked within n =
      let first = within r (contains_first rs r) in
      runs_grey rank rs (with_grey rank r.from m) (marked_grey grains m condemned summaries marked rank r.from)
      (λ q there. within q (contains_later rs q r there)) n
      ∙ ap (λ b. begins_one rs n || b)
      (grey_more rank r.from n m (omega (arith, first, marked.exact_size)) (omega (arith, first, marked.weak_size)))
      ∙ last_of_three (begins_one rs n) (r.from == n) (bit m.exact n || bit m.weak n)

  runs_kept : (rank : Rank) (rs : List Run) (m : MarkTables) → (all_grey rank rs m).kept ≡ m.kept
  runs_kept rank [] m = refl
  runs_kept rank (r ∷ rs) m = runs_kept rank rs (with_grey rank r.from m) ∙ kept_stay rank r.from m

-- nothing but marks has changed, of which the same blocks are kept, and these are grey besides those that were
pub record AreGreyToo (s s' : SegsState) (grey : Word → Bool) : Type 0 where
  pub same : s' ≡ record s { marks = s'.marks }
  pub whole : AreTablesWhole s'
  pub kept : s'.marks.kept ≡ s.marks.kept
  pub bits : (n : Word) → (bit s'.marks.exact n || bit s'.marks.weak n) ≡ (grey n || (bit s.marks.exact n || bit s.marks.weak n))

again : (a b c : Bool) → (a || (b || c)) ≡ ((b || a) || c)
again true true c = refl
again true false c = refl
again false true c = refl
again false false c = refl

pub each_grey : (ts : List Segment) (s : SegsState) → AreTablesWhole s → AreGreyToo s (greying_each ts s) (begins_in s.blocks ts)
each_grey [] s whole = record { same = refl; whole = whole; kept = refl; bits = λ n. refl }
each_grey (t ∷ ts) s whole =
    let rs = blocks_of s.blocks t in
    let s' = greying_all s t in
    let whole' : AreTablesWhole s' = record {
      sizes = marked_all_grey s.grains s.marks s.condemned s.summaries t.rank rs whole.sizes;
      order = whole.order;
    } in
    let rest = each_grey ts s' whole' in
    let last = greying_each ts s' in
    record {
      same = rest.same;
      whole = rest.whole;
      kept = rest.kept ∙ runs_kept s.grains s.condemned s.summaries t.rank rs s.marks;
      bits = λ n.
          rest.bits n
          ∙ ap (λ b. begins_in s.blocks ts n || b)
          (runs_grey s.grains s.condemned s.summaries t.rank rs s.marks whole.sizes (λ r there.
          let bounds =
          contained_bounds 0 (words_of_arena s.grains) s.blocks r whole.order
          (contains_within (word_of t.base) (word_of (end_of_segment t)) s.blocks r there)
          in
          let below : r.from < words_of_arena s.grains = omega (arith, bounds.1, bounds.2) in below) n)
          ∙ again (begins_in s.blocks ts n) (begins_one rs n) (bit s.marks.exact n || bit s.marks.weak n);
    }

-- ---- ranks

-- where a run begins within bounds
pub within_bounds : (low high : ℕ) (rs : List Run) (r : Run) → Contains (runs_within low high rs) r → (low ≤ r.from) × (r.from < high)
within_bounds low high [] r (k, within, is) = absurd (omega (arith, within))
within_bounds low high (q ∷ rs) r there =
    elim (nat_le low q.from && nat_lt q.from high) as (λ b. (nat_le low q.from && nat_lt q.from high) ≡ b
    → Contains (if b then q ∷ runs_within low high rs else runs_within low high rs) r → (low ≤ r.from) × (r.from < high)) [
      | true ↦ (λ is among. elim (contains_cases (runs_within low high rs) r q among) [
        | inl same ↦
            let parts = and_parts (nat_le low q.from) (nat_lt q.from high) is in
            let above = leb-true low q.from parts.0 in
            let below = ltb-true q.from high parts.1 in
            let from : q.from ≡ r.from = ap (λ (x : Run). x.from) same in
            (omega (arith, above, from), omega (arith, below, from))
        | inr later ↦ within_bounds low high rs r later
      ])
      | false ↦ (λ is among. within_bounds low high rs r among)
    ] refl there

module _ (ss : List Segment) (order : AreSegmentsInOrder ss) where
  -- marks at blocks of one rank
  runs_ranked : (rank : Rank) (rs : List Run) (s : SegsState) → s.segments ≡ ss
      → ((r : Run) → Contains rs r → rank_of (segment_over ss (address_of_word r.from)) ≡ rank) → AreMarksRanked s
      → AreMarksRanked (record s { marks = all_grey rank rs s.marks })
  runs_ranked rank [] s same each ranked = record { exact = ranked.exact; weak = ranked.weak }
  runs_ranked rank (r ∷ rs) s same each ranked =
      let first : rank_at s (address_of_word r.from) ≡ rank =
      ap (λ (ts : List Segment). rank_of (segment_over ts (address_of_word r.from))) same ∙ each r (contains_first rs r)
      in
      runs_ranked rank rs (record s { marks = with_grey rank r.from s.marks }) same (λ q there. each q (contains_later rs q r there))
      (record {
        exact = λ n is. elim (after_exact rank r.from n s.marks is) [
          | inl new ↦ ap (λ (m : Word). rank_at s (address_of_word m)) new.0 ∙ first ∙ new.1
          | inr old ↦ ranked.exact n old
        ];
        weak = λ n is. elim (after_weak rank r.from n s.marks is) [
          | inl new ↦ ap (λ (m : Word). rank_at s (address_of_word m)) new.0 ∙ first ∙ new.1
          | inr old ↦ ranked.weak n old
        ];
      })

  -- each block becomes grey in the rank of its segment
  pub each_ranked : (ts : List Segment) (s : SegsState) → s.segments ≡ ss → ((t : Segment) → Contains ts t → Contains ss t)
      → AreMarksRanked s → AreMarksRanked (greying_each ts s)
  each_ranked [] s same held ranked = ranked
  each_ranked (t ∷ ts) s same held ranked =
      each_ranked ts (greying_all s t) same (λ u there. held u (suc there.0, omega (arith, there.1), there.2))
      (runs_ranked t.rank (blocks_of s.blocks t) s same (λ r there.
      let bounds = within_bounds (word_of t.base) (word_of (end_of_segment t)) s.blocks r there in
      ap rank_of (over ss order t r.from (held t (0, omega arith, refl)) bounds.0 bounds.1)) ranked)

-- ---- the image

module _ (s : Setting) (g : SegsState) (addresses : List (Option Address)) (done : CellSet) (pinned remembered : List Id)
    (ts : List Segment) (st : ImageStands s (memory_in g) addresses (pinned_colours pinned) done) (whole : AreTablesWhole g)
    (there : (id : Id) (at : Address) → entry_at addresses id ≡ Some at → contains remembered id ≡ begins_in g.blocks ts (word_of at))
  where
    abbrev g' : SegsState
    g' = greying_each ts g

    now : AreGreyToo g g' (begins_in g.blocks ts)
    now = each_grey ts g whole

    -- a block of a segment is that of an object
    block_begins : (n : Word) → begins_in g.blocks ts n ≡ true → BlockBegins addresses n
    block_begins n is = of_segments ts is
      where
        of_run : (t : Segment) → begins_one (blocks_of g.blocks t) n ≡ true → BlockBegins addresses n
        of_run t begins =
            let r = run_that_begins (blocks_of g.blocks t) n begins in
            let x =
            run_of_object s.objects addresses r.0
            (subst (λ (rs : List Run). Contains rs r.0) st.runs.blocks
            (contains_within (word_of t.base) (word_of (end_of_segment t)) g.blocks r.0 r.1))
            in
            record { id = x.id; at = x.at; address = x.address; is = sym r.2 ∙ ap (λ (q : Run). q.from) x.is }

        of_segments : (us : List Segment) → begins_in g.blocks us n ≡ true → BlockBegins addresses n
        of_segments [] none = absurd (false≢true none)
        of_segments (u ∷ us) some =
            elim (or_cases (begins_one (blocks_of g.blocks u) n) (begins_in g.blocks us n) some) [
              | inl here ↦ of_run u here
              | inr later ↦ of_segments us later
            ]

    other_way : (a b : Bool) → (a || b) ≡ (b || a)
    other_way true true = refl
    other_way true false = refl
    other_way false true = refl
    other_way false false = refl

    marks : MarksStand s (memory_in g').kept (memory_in g').grey addresses (colours_at_flip pinned remembered)
    marks = record {
      white_there = λ id at e.
          st.marks.white_there id at e
          ∙ ap (λ (bits : List Bool). s.is_condemned_over (word_of at) && not (bit bits (word_of at))) (sym now.kept);
      grey_there = λ id at e.
          contains_both pinned remembered id
          ∙ ap (λ (b : Bool). b || contains remembered id) (st.marks.grey_there id at e)
          ∙ ap (λ (b : Bool). (memory_in g).grey (word_of at) || b) (there id at e)
          ∙ other_way ((memory_in g).grey (word_of at)) (begins_in g.blocks ts (word_of at)) ∙ sym (now.bits (word_of at));
      marked = λ n is.
          elim (or_cases ((memory_in g').kept n) ((memory_in g').grey n) is) [
            | inl kept ↦
                st.marks.marked n
                (or_left ((memory_in g).kept n) ((memory_in g).grey n)
                (ap (λ (bits : List Bool). bit bits n) (sym now.kept) ∙ kept))
            | inr grey ↦ elim (or_cases (begins_in g.blocks ts n) ((memory_in g).grey n) (sym (now.bits n) ∙ grey)) [
              | inl new ↦ block_begins n new
              | inr old ↦ st.marks.marked n (or_right ((memory_in g).kept n) ((memory_in g).grey n) old)
            ]
          ];
      unmoved = st.marks.unmoved;
    }

    pub image_remembered : ImageStands s (memory_in g') addresses (colours_at_flip pinned remembered) done
    image_remembered = rebuilt g' now.same marks
      where
        rebuilt : (x : SegsState) → x ≡ record g { marks = x.marks }
            → MarksStand s (memory_in x).kept (memory_in x).grey addresses (colours_at_flip pinned remembered)
            → ImageStands s (memory_in x) addresses (colours_at_flip pinned remembered) done
        rebuilt x e ms = record {
          placed = st.placed;
          words = subst (λ (ws : List ℕ). WordsStand s ws addresses) (sym (ap (λ (y : SegsState). y.words) e)) st.words;
          fixed = subst (λ (ws : List ℕ). FixedCellsStand s ws addresses (colours_at_flip pinned remembered) done)
              (sym (ap (λ (y : SegsState). y.words) e))
              (record {
                cells = λ id i o n c is lies cell.
                    let f = st.fixed.cells id i o n c is lies cell in record { holds = f.holds; not_white = f.not_white };
                reserved = λ point i r n c lies cell.
                    let f = st.fixed.reserved point i r n c lies cell in record { holds = f.holds; not_white = f.not_white };
              });
          marks = ms;
          runs = record {
            blocks = ap (λ (y : SegsState). y.blocks) e ∙ st.runs.blocks;
            reservations = ap (λ (y : SegsState). y.reservations) e ∙ st.runs.reservations;
            covered = ap (λ (y : SegsState). y.covered) e ∙ st.runs.covered;
          };
        }
