-- No gap of a segment is longer than its bound: this stays true through each call.
use Rattle.std.proofs.Common.{ℕ, ◌+◌, ◌<◌, ◌≡◌, false, List, [], ◌∷◌, length, get_or, set, Contains, sym, ap, ◌∙◌, subst, inl, inr, arith, ◌^◌, replicate, ◌≤◌, ◌⊎◌, ◌*◌, ◌≢◌, Some, None, length-set, ◌-◌, get_or-set_same, get_or-set_other}
use Rattle.std.proofs.lemmas.Bool.{cases_lt, cases_eq}
use Rattle.std.proofs.lemmas.List.{length-replicate, get_or-replicate}
use Rattle.mps_base.proofs.Runs.{contains_first, contains_later, contained_bounds, in_lowest_gap, lowest_fitting_here, lowest_fitting_later, lowest_gap_here}
use Rattle.mps_base.specs.Run.{Run, IsAscending, with_run, without_run, end_of, runs_within, gaps, lowest_fitting}
use Rattle.mps_arena.specs.Arena.{ArenaMemory}
use Rattle.mps_extents.specs.Extents.{has_word, ExtentLists}
use Rattle.mps_seg.specs.Segs.{LiesIn}
use Rattle.mps_seg.specs.Table.{IsHeld, AreGapsBounded, IsClearOf, LiesInGrains, any_gap, first_over, or_zero, gaps_in_grains, runs_in_grains}
use Rattle.mps_seg.specs.declared.entry.Entry.{Entry}
use Rattle.mps_extents.proofs.ApartRuns.{contains_put, apart_from_put, apart_each, has_word-true, has_word-below, has_word-above}
use Rattle.mps_extents.proofs.ContainedRuns.{contains_put_cases, contains_put_other, contains_without, contains_still, same_count, taken_and_put}
use Rattle.mps_extents.proofs.LowestGap.{contains_within}
use Rattle.mps_extents.proofs.RunOver.{run_over_in, run_over_put_other, run_over_taken_other, run_over_taken_has}
use Rattle.mps_base.specs.Address.{words_of_grain}

-- the segment in which a run of words lies, by the grain in which it begins
pub record OwnSegment (held : List Run) (size : ℕ) (firsts : List ℕ) (grain : ℕ) (r : Run) : Type 0 where
  pub run : Run
  pub there : Contains held run
  pub first : get_or firsts grain 0 ≡ run.from
  pub grain_within : grain < size
  pub first_within : run.from < size
  pub above : words_of_grain * run.from ≤ r.from
  pub below : r.from < words_of_grain * end_of run
  pub before : end_of r ≤ words_of_grain * end_of run

module _
    (held : List Run) (size : ℕ) (firsts bounds : List ℕ) (covered : List Run)
    (bounded : AreGapsBounded held size firsts bounds covered) (ascending : IsAscending 1 size held)
  where
    pub own_segment : (grain : ℕ) (r : Run) → LiesIn held r → 0 < r.count
        → words_of_grain * grain ≤ r.from → r.from < words_of_grain * grain + words_of_grain → OwnSegment held size firsts grain r
    own_segment grain r lies some above below =
        let bounds = contained_bounds 1 size held lies.grains ascending lies.there in
        let within : grain < size = omega (arith, bounds.2, lies.before) in
        let over =
        run_over_in 1 size held lies.grains grain ascending lies.there (omega (arith, lies.after)) (omega (arith, lies.before))
        in
        record {
          run = lies.grains;
          there = lies.there;
          first = bounded.firsts_are grain within ∙ ap or_zero over;
          grain_within = within;
          first_within = omega (arith, bounds.1, bounds.2);
          above = lies.after;
          below = omega (arith, lies.before);
          before = lies.before;
        }

module _
    (arena : ArenaMemory) (table : List Entry) (ex : ExtentLists) (firsts bounds : List ℕ)
    (held : IsHeld arena table ex) (bounded : AreGapsBounded arena.held (arena.grains + 1) firsts bounds ex.covered)
  where
    pub own_segment_of_covered : (grain : ℕ) (r : Run) → Contains ex.covered r → words_of_grain * grain ≤ r.from
        → r.from < words_of_grain * grain + words_of_grain → OwnSegment arena.held (arena.grains + 1) firsts grain r
    own_segment_of_covered grain r listed above below =
        own_segment arena.held (arena.grains + 1) firsts bounds ex.covered bounded held.ascending grain r (held.inside r listed)
        (held.nonempty r listed) above below

-- ---- a gap that fits

-- where no gap fits, a run that is clear of all the others is shorter
pub clear_run_short : (low high words : ℕ) (rs : List Run) (gap : Run) → 0 < words → IsAscending low high rs
    → low ≤ gap.from → end_of gap ≤ high → IsClearOf gap rs → lowest_fitting words (gaps low high rs) ≡ None → gap.count < words
clear_run_short low high words [] gap some ascending above below clear none =
    elim (cases_lt high (low + words)) [
      | inl short ↦ omega (arith, short, above, below)
      | inr room ↦ let never : Some low ≡ None = sym (lowest_gap_here words low high high [] some room (omega arith)) ∙ none in cc
    ]
clear_run_short low high words (r ∷ rs) gap some ascending above below clear none =
    elim (cases_lt r.from (low + words)) [
      | inl short ↦
          let later = lowest_fitting_later words low r.from (gaps (end_of r) high rs) some (omega (arith, ascending.0, short)) in
          elim (clear r (contains_first rs r)) [
            | inl before ↦ omega (arith, before, short, above)
            | inr after ↦
                clear_run_short (end_of r) high words rs gap some ascending.2 after below
                (λ t there. clear t (contains_later rs t r there)) (sym later ∙ none)
          ]
      | inr room ↦
          let never : Some low ≡ None = sym (lowest_fitting_here words low r.from (gaps (end_of r) high rs) some room) ∙ none in cc
    ]

module _
    (held : List Run) (size : ℕ) (firsts bounds : List ℕ) (covered : List Run)
    (bounded : AreGapsBounded held size firsts bounds covered) (ascending : IsAscending 1 size held)
  where
    -- ---- words are covered, or free again

    pub bounded_after_cover : (r : Run) → AreGapsBounded held size firsts bounds (with_run r covered)
    bounded_after_cover r = record {
      firsts_size = bounded.firsts_size;
      bounds_size = bounded.bounds_size;
      firsts_are = bounded.firsts_are;
      bounded = λ t gap there lies clear. bounded.bounded t gap there lies (λ u in_covered. clear u (contains_put_other r u covered
          in_covered));
    }

    -- a gap of a segment is clear of the run of another
    clear_of_other : (own t r gap : Run) → Contains held own → Contains held t → own.from ≢ t.from → LiesInGrains r own
        → LiesInGrains gap t → (end_of gap ≤ r.from) ⊎ (end_of r ≤ gap.from)
    clear_of_other own t r gap there there' other lies lies' =
        elim (apart_each 1 size held own t ascending there there') [
          | inl same ↦ absurd (other same)
          | inr apart ↦
              elim apart [
                | inl after ↦ inr (omega (arith, after, lies.1, lies'.0))
                | inr before ↦ inl (omega (arith, before, lies.0, lies'.1))
              ]
        ]

    pub bounded_after_uncover : (grain a b : ℕ) (r : Run) → IsAscending a b covered → Contains covered r
        → OwnSegment held size firsts grain r → size < 2 ^ 20
        → AreGapsBounded held size firsts (set bounds (get_or firsts grain 0) any_gap) (without_run r.from covered)
    bounded_after_uncover grain a b r ascending' listed own small =
        let first = get_or firsts grain 0 in
        record {
          firsts_size = bounded.firsts_size;
          bounds_size = length-set bounds first any_gap ∙ bounded.bounds_size;
          firsts_are = bounded.firsts_are;
          bounded = λ t gap there lies clear.
              elim (cases_eq t.from first) [
                | inl here ↦
                    let written =
                    ap (λ (k : ℕ). get_or (set bounds first any_gap) k 0) here
                    ∙ get_or-set_same bounds first any_gap 0 (omega (arith, own.first, own.first_within, bounded.bounds_size))
                    in
                    omega (arith, written, lies.0, lies.1, (contained_bounds 1 size held t ascending there).2, small)
                | inr other ↦
                    let before = λ (u : Run) (in_covered : Contains covered u).
                    let side : (end_of gap ≤ u.from) ⊎ (end_of u ≤ gap.from) =
                    elim (cases_eq u.from r.from) [
                      | inl same ↦
                          let count = same_count a b covered u r ascending' in_covered listed same in
                          let lies_in_own : LiesInGrains u own.run =
                          (omega (arith, same, own.above), omega (arith, same, count, own.before)) in
                          clear_of_other own.run t u gap own.there there (λ e. other (sym e ∙ sym own.first)) lies_in_own lies
                      | inr still ↦ clear u (contains_still r.from u covered in_covered still)
                    ]
                    in side
                    in
                    let same = get_or-set_other bounds first t.from any_gap 0 other in
                    omega (arith, same, bounded.bounded t gap there lies before)
              ];
        }

    -- ---- a search found no gap of a segment that fits

    pub bounded_after_search : (size_of_words words grain n : ℕ) → 0 < words → Contains held (record { from = grain; count = n })
        → IsAscending 0 size_of_words covered
        → IsAscending (words_of_grain * grain) (words_of_grain * grain + words_of_grain * n) (runs_in_grains grain n covered)
        → lowest_fitting words (gaps_in_grains grain n covered) ≡ None
        → AreGapsBounded held size firsts (set bounds grain (words - 1)) covered
    bounded_after_search size_of_words words grain n some listed ascending' within none =
        let low = words_of_grain * grain in
        let high = words_of_grain * grain + words_of_grain * n in
        let mine : Run = record { from = grain; count = n } in
        let inside = contained_bounds 1 size held mine ascending listed in
        record {
          firsts_size = bounded.firsts_size;
          bounds_size = length-set bounds grain (words - 1) ∙ bounded.bounds_size;
          firsts_are = bounded.firsts_are;
          bounded = λ t gap there lies clear.
              elim (cases_eq t.from grain) [
                | inl here ↦
                    let count = same_count 1 size held t mine ascending there listed here in
                    let short =
                    clear_run_short low high words (runs_within low high covered) gap some within (omega (arith, lies.0, here))
                    (omega (arith, lies.1, here, count))
                    (λ u in_runs. clear u (contains_within low high covered u in_runs)) none
                    in
                    let written =
                    ap (λ (k : ℕ). get_or (set bounds grain (words - 1)) k 0) here
                    ∙ get_or-set_same bounds grain (words - 1) 0
                    (omega (
                      arith,
                      here,
                      (contained_bounds 1 size held t ascending there).2,
                      (contained_bounds 1 size held t ascending there).1,
                      bounded.bounds_size,
                    ))
                    in
                    omega (arith, written, short)
                | inr other ↦
                    let same = get_or-set_other bounds grain t.from (words - 1) 0 other in
                    omega (arith, same, bounded.bounded t gap there lies clear)
              ];
        }

-- before any segment is taken
pub new_is_bounded : (size : ℕ) → AreGapsBounded [] size (replicate size 0) (replicate size 0) []
new_is_bounded size = record {
  firsts_size = length-replicate size 0;
  bounds_size = length-replicate size 0;
  firsts_are = λ grain within. get_or-replicate size grain 0 0 within;
  bounded = λ t gap (k, within, is) lies clear. absurd (omega arith);
}

-- the table of first grains after those of a run are written
pub record Noted (firsts firsts' : List ℕ) (r : Run) (first : ℕ) : Type 0 where
  pub size : length firsts' ≡ length firsts
  pub inside : (g : ℕ) → r.from ≤ g → g < end_of r → get_or firsts' g 0 ≡ first
  pub outside : (g : ℕ) → (g < r.from) ⊎ (end_of r ≤ g) → get_or firsts' g 0 ≡ get_or firsts g 0

pub bounded_after_take : (arena : ArenaMemory) (table : List Entry) (ex : ExtentLists) (firsts firsts' bounds : List ℕ) (need grain : ℕ)
    → IsHeld arena table ex → AreGapsBounded arena.held (arena.grains + 1) firsts bounds ex.covered → 0 < need
    → lowest_fitting need (gaps 1 (arena.grains + 1) arena.held) ≡ Some grain
    → Noted firsts firsts' (record { from = grain; count = need }) grain
    → AreGapsBounded (with_run (record { from = grain; count = need }) arena.held) (arena.grains + 1) firsts'
    (set bounds grain (words_of_grain * need)) ex.covered
bounded_after_take arena table ex firsts firsts' bounds need grain held bounded some lowest noted =
    let r : Run = record { from = grain; count = need } in
    let gap = in_lowest_gap 1 (arena.grains + 1) arena.held need grain some held.ascending lowest in
    let outside = λ (g : ℕ) (within : g < arena.grains + 1) (out : (g < grain) ⊎ (grain + need ≤ g)) (other : has_word r g ≡ false).
    let here : get_or firsts' g 0 ≡ first_over (with_run r arena.held) g =
    noted.outside g out ∙ bounded.firsts_are g within ∙ ap or_zero (sym (run_over_put_other r arena.held g other))
    in here
    in
    let all = words_of_grain * need in
    record {
      firsts_size = noted.size ∙ bounded.firsts_size;
      bounds_size = length-set bounds grain all ∙ bounded.bounds_size;
      firsts_are = λ g within. elim (cases_lt g grain) [
        | inl before ↦ outside g within (inl before) (has_word-below r g before)
        | inr from ↦ elim (cases_lt g (grain + need)) [
          | inl below ↦
              noted.inside g from below
              ∙ sym (ap or_zero (run_over_in 1 (arena.grains + 1) (with_run r arena.held) r g gap.ascending (contains_put r arena.held)
              from below))
          | inr past ↦ outside g within (inr past) (has_word-above r g past)
        ]
      ];
      bounded = λ t clear_run there lies clear. elim (contains_put_cases r t arena.held there) [
        | inl same ↦
            let begins : t.from ≡ grain = ap (λ (x : Run). x.from) (sym same) in
            let count : t.count ≡ need = ap (λ (x : Run). x.count) (sym same) in
            let written =
            ap (λ (k : ℕ). get_or (set bounds grain all) k 0) begins
            ∙ get_or-set_same bounds grain all 0 (omega (arith, gap.below, some, bounded.bounds_size))
            in
            omega (arith, written, lies.0, lies.1, begins, count)
        | inr later ↦
            let inside = contained_bounds 1 (arena.grains + 1) arena.held t held.ascending later in
            let other : t.from ≢ grain = λ e.
            elim (apart_from_put 1 (arena.grains + 1) arena.held r t gap.ascending later) [
              | inl after ↦ omega (arith, after, some, e)
              | inr before ↦ omega (arith, before, inside.1, e)
            ]
            in
            omega (arith, get_or-set_other bounds grain t.from all 0 other, bounded.bounded t clear_run later lies clear)
      ];
    }

-- where a run is taken out, none begins any longer
pub begins_elsewhere : (low high : ℕ) (rs : List Run) (r t : Run) → IsAscending low high rs → Contains rs r
    → Contains (without_run r.from rs) t → t.from ≢ r.from
begins_elsewhere low high rs r t ascending listed there same =
    let P : List Run → Type 0 = λ xs. IsAscending low high xs in
    let put = subst P (sym (taken_and_put low high rs r ascending listed)) ascending in
    let bounds = contained_bounds low high rs t ascending (contains_without r.from t rs there) in
    let mine = contained_bounds low high rs r ascending listed in
    elim (apart_from_put low high (without_run r.from rs) r t put there) [
      | inl after ↦ omega (arith, after, mine.1, same)
      | inr before ↦ omega (arith, before, bounds.1, same)
    ]

pub bounded_after_give : (held : List Run) (size : ℕ) (firsts firsts' bounds : List ℕ) (covered : List Run) (r : Run)
    → AreGapsBounded held size firsts bounds covered → IsAscending 1 size held → Contains held r → Noted firsts firsts' r 0
    → AreGapsBounded (without_run r.from held) size firsts' (set bounds r.from 0) covered
bounded_after_give held size firsts firsts' bounds covered r bounded ascending listed noted =
    let outside = λ (g : ℕ) (within : g < size) (out : (g < r.from) ⊎ (end_of r ≤ g)) (other : has_word r g ≡ false).
    let here : get_or firsts' g 0 ≡ first_over (without_run r.from held) g =
    noted.outside g out ∙ bounded.firsts_are g within ∙ ap or_zero (sym (run_over_taken_other 1 size held r g ascending listed other))
    in here
    in
    record {
      firsts_size = noted.size ∙ bounded.firsts_size;
      bounds_size = length-set bounds r.from 0 ∙ bounded.bounds_size;
      firsts_are = λ g within. elim (cases_lt g r.from) [
        | inl before ↦ outside g within (inl before) (has_word-below r g before)
        | inr from ↦ elim (cases_lt g (end_of r)) [
          | inl below ↦ noted.inside g from below
              ∙ sym (ap or_zero (run_over_taken_has 1 size held r g ascending listed (has_word-true r g from below)))
          | inr past ↦ outside g within (inr past) (has_word-above r g past)
        ]
      ];
      bounded = λ t gap there lies clear.
          let other = begins_elsewhere 1 size held r t ascending listed there in
          omega (
            arith,
            get_or-set_other bounds r.from t.from 0 0 other,
            bounded.bounded t gap (contains_without r.from t held there) lies clear,
          );
    }
