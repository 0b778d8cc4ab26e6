-- What a fix asks of condemned segments is noted by grain: this stays true through each call.
use Rattle.std.proofs.Common.{ℕ, zero, suc, ◌<◌, ◌≤◌, ◌≡◌, ◌≢◌, ◌⊎◌, Bool, true, false, List, length, get_or, set, replicate, Contains, refl, sym, ap, ◌∙◌, inl, inr, arith, Option, Some, None, get_or-set_other}
use Rattle.std.specs.Prelude.{if◌then◌else◌}
use Rattle.std.proofs.lemmas.Bool.{cases_lt, cases_eq, cond-true, cond-false}
use Rattle.std.proofs.lemmas.List.{get_or-replicate, length-replicate, get_or_past}
use Rattle.mps_base.proofs.Runs.{contained_bounds}
use Rattle.mps_base.specs.Run.{Run, IsAscending, with_run, without_run, end_of}
use Rattle.mps_bits.specs.Table.{bit}
use Rattle.mps_extents.specs.Extents.{has_word, run_over}
use Rattle.mps_extents.proofs.WrittenBits.{bit-set_same, bit-set_other}
use Rattle.mps_extents.proofs.ApartRuns.{apart_from_put, has_word-below, has_word-above}
use Rattle.mps_extents.proofs.RunOver.{run_over_in, run_over_none, run_over-contains, run_over_taken_other}
use Rattle.mps_seg.specs.Table.{AreAskedNoted, asked_of_entry, asked_of_first, first_over, or_zero, AreGapsBounded}
use Rattle.mps_seg.specs.declared.entry.CondemnedSegment.{CondemnedSegment}
use Rattle.mps_seg.specs.declared.entry.Entry.{Entry}
use Rattle.mps_seg.specs.declared.entry.Entry.TheVariants.{Free}
use Rattle.mps_seg.proofs.BoundedGaps.{Noted, begins_elsewhere}

-- ---- first grains

-- no grain outside a run has its first grain
pub first_elsewhere : (held : List Run) (size : ℕ) (r : Run) (g : ℕ) → IsAscending 1 size held → Contains held r
    → (g < r.from) ⊎ (end_of r ≤ g) → first_over held g ≢ r.from
first_elsewhere held size r g ascending listed out same =
    go (run_over (without_run r.from held) g) refl
    (ap or_zero (run_over_taken_other 1 size held r g ascending listed (outside out)) ∙ same)
  where
    outside : (g < r.from) ⊎ (end_of r ≤ g) → has_word r g ≡ false
    outside (inl before) = has_word-below r g before
    outside (inr past) = has_word-above r g past

    go : (o : Option ℕ) → run_over (without_run r.from held) g ≡ o → or_zero o ≡ r.from → ⊥
    go None over is = let bounds = contained_bounds 1 size held r ascending listed in omega (arith, bounds.0, is)
    go (Some from) over is =
        let run = run_over-contains (without_run r.from held) g from over in
        begins_elsewhere 1 size held r (record { from = from; count = run.0 }) ascending listed run.1 is

-- no run has a grain of one that is put among them
pub none_over_gap : (held : List Run) (size : ℕ) (r : Run) (g : ℕ) → 0 < r.count → IsAscending 1 size held
    → IsAscending 1 size (with_run r held) → r.from ≤ g → g < end_of r → first_over held g ≡ 0
none_over_gap held size r g some ascending put above below =
    ap or_zero (run_over_none held g (λ t there. elim (apart_from_put 1 size held r t put there) [
      | inl after ↦ has_word-below t g (omega (arith, after, below))
      | inr before ↦ has_word-above t g (omega (arith, before, above))
    ]))

-- a grain lies outside a run or in it
cases_out : (g : ℕ) (r : Run) → ((g < r.from) ⊎ (end_of r ≤ g)) ⊎ ((r.from ≤ g) × (g < end_of r))
cases_out g r =
    elim (cases_lt g r.from) [
      | inl before ↦ inl (inl before)
      | inr from ↦ elim (cases_lt g (end_of r)) [ inl below ↦ inr (from, below) | inr past ↦ inl (inr past) ]
    ]

-- ---- what is asked of the segment at a first grain

-- where the entry at another grain is written, and its bit
asked_of_other : (table : List Entry) (condemned condemned' : List Bool) (first grain : ℕ) (e : Entry) → first ≢ grain
    → bit condemned' first ≡ bit condemned first
    → asked_of_first (set table grain e) condemned' first ≡ asked_of_first table condemned first
asked_of_other table condemned condemned' zero grain e other same = refl
asked_of_other table condemned condemned' (suc k) grain e other same =
    ap (λ (x : Entry). if bit condemned' (suc k) then asked_of_entry x else None) (get_or-set_other table grain (suc k) e Free other)
    ∙ ap (λ (b : Bool). if b then asked_of_entry (get_or table (suc k) Free) else None) same

-- where other bits are written
asked_with : (table : List Entry) (condemned condemned' : List Bool) (first : ℕ) → bit condemned' first ≡ bit condemned first
    → asked_of_first table condemned' first ≡ asked_of_first table condemned first
asked_with table condemned condemned' zero same = refl
asked_with table condemned condemned' (suc k) same =
    ap (λ (b : Bool). if b then asked_of_entry (get_or table (suc k) Free) else None) same

-- where no bit is set
none_set : (n first : ℕ) → bit (replicate n false) first ≡ false
unfolding bit
none_set n first =
    elim (cases_lt first n) [
      | inl within ↦ get_or-replicate n first false false within
      | inr past ↦ get_or_past (replicate n false) first false (omega (arith, past, length-replicate n false))
    ]

asked_of_clear : (table : List Entry) (condemned : List Bool) (first : ℕ) → bit condemned first ≡ false
    → asked_of_first table condemned first ≡ None
asked_of_clear table condemned zero clear = refl
asked_of_clear table condemned (suc k) clear = cond-false (bit condemned (suc k)) (asked_of_entry (get_or table (suc k) Free)) None clear

asked_of_free : (table : List Entry) (condemned : List Bool) (first : ℕ) → get_or table first Free ≡ Free
    → asked_of_first table condemned first ≡ None
asked_of_free table condemned zero free = refl
asked_of_free table condemned (suc k) free =
    ap (λ (x : Entry). if bit condemned (suc k) then asked_of_entry x else None) free
    ∙ elim (bit condemned (suc k)) as (λ b. (if b then asked_of_entry Free else None) ≡ None) [ true ↦ refl | false ↦ refl ]

asked_of_set : (table : List Entry) (condemned : List Bool) (first : ℕ) → 0 < first → bit condemned first ≡ true
    → asked_of_first table condemned first ≡ asked_of_entry (get_or table first Free)
asked_of_set table condemned zero some is = absurd (omega (arith, some))
asked_of_set table condemned (suc k) some is = cond-true (bit condemned (suc k)) (asked_of_entry (get_or table (suc k) Free)) None is

-- ---- a table that has what was asked for

-- for these grains a table was written
pub record IsNotedFor (white white' : List (Option CondemnedSegment)) (r : Run) (asked : Option CondemnedSegment) : Type 0 where
  pub size : length white' ≡ length white
  pub inside : (g : ℕ) → r.from ≤ g → g < end_of r → get_or white' g None ≡ asked
  pub outside : (g : ℕ) → (g < r.from) ⊎ (end_of r ≤ g) → get_or white' g None ≡ get_or white g None

pub new_is_noted : (n : ℕ) (table : List Entry) (condemned : List Bool)
    → AreAskedNoted n (replicate n 0) table condemned (replicate n None)
new_is_noted n table condemned = record {
  white_size = length-replicate n None;
  white_are = λ g within.
      get_or-replicate n g None None within
      ∙ ap (λ (k : ℕ). asked_of_first table condemned k) (sym (get_or-replicate n g 0 0 within));
}

-- nothing is asked of a segment once no bit is set
pub noted_after_end : (size n : ℕ) (firsts : List ℕ) (table : List Entry) → size ≡ n
    → AreAskedNoted size firsts table (replicate size false) (replicate n None)
noted_after_end size n firsts table same = record {
  white_size = length-replicate n None ∙ sym same;
  white_are = λ g within.
      get_or-replicate n g None None (omega (arith, within, same))
      ∙ sym (asked_of_clear table (replicate size false) (get_or firsts g 0) (none_set size (get_or firsts g 0)));
}

module _ (size : ℕ) (held : List Run) (firsts bounds : List ℕ) (covered : List Run) (table : List Entry) (condemned : List Bool)
    (white : List (Option CondemnedSegment)) (ascending : IsAscending 1 size held)
    (bounded : AreGapsBounded held size firsts bounds covered) (noted : AreAskedNoted size firsts table condemned white) (r : Run)
  where
    -- ---- a segment is taken

    -- what a grain has for its first grain when a segment with this entry is taken
    module _ (e : Entry) (some : 0 < r.count) (put : IsAscending 1 size (with_run r held)) (free : get_or table r.from Free ≡ Free)
        (within : r.from < length condemned) (firsts' : List ℕ) (written : Noted firsts firsts' r r.from)
      where
        clear_there : bit (set condemned r.from false) r.from ≡ false
        clear_there = bit-set_same condemned r.from false within

        -- of another segment the same is asked
        asked_still : (first : ℕ)
            → asked_of_first table condemned first ≡ asked_of_first (set table r.from e) (set condemned r.from false) first
        asked_still first =
            elim (cases_eq first r.from) [
              | inl same ↦
                  asked_of_free table condemned first (ap (λ (k : ℕ). get_or table k Free) same ∙ free)
                  ∙ sym (asked_of_clear (set table r.from e) (set condemned r.from false) first
                  (ap (λ (k : ℕ). bit (set condemned r.from false) k) same ∙ clear_there))
              | inr other ↦
                  sym (asked_of_other table condemned (set condemned r.from false) first r.from e other
                  (bit-set_other condemned r.from first false other))
            ]

        none_before : (g : ℕ) → g < size → r.from ≤ g → g < end_of r → get_or white g None ≡ None
        none_before g inside above below =
            noted.white_are g inside
            ∙ ap (λ (k : ℕ). asked_of_first table condemned k)
            (bounded.firsts_are g inside ∙ none_over_gap held size r g some ascending put above below)

        here : (g : ℕ) → g < size
            → get_or white g None ≡ asked_of_first (set table r.from e) (set condemned r.from false) (get_or firsts' g 0)
        here g inside =
            elim (cases_out g r) [
              | inl out ↦
                  noted.white_are g inside ∙ asked_still (get_or firsts g 0)
                  ∙ ap (λ (k : ℕ). asked_of_first (set table r.from e) (set condemned r.from false) k) (sym (written.outside g out))
              | inr (above, below) ↦
                  none_before g inside above below
                  ∙ sym (ap (λ (k : ℕ). asked_of_first (set table r.from e) (set condemned r.from false) k)
                  (written.inside g above below)
                  ∙ asked_of_clear (set table r.from e) (set condemned r.from false) r.from clear_there)
            ]

        pub noted_after_take : AreAskedNoted size firsts' (set table r.from e) (set condemned r.from false) white
        noted_after_take = record { white_size = noted.white_size; white_are = here }

    -- ---- a segment that is held

    module _ (listed : Contains held r) (white' : List (Option CondemnedSegment)) where
      elsewhere : (g : ℕ) → g < size → (g < r.from) ⊎ (end_of r ≤ g) → get_or firsts g 0 ≢ r.from
      elsewhere g inside out same =
          first_elsewhere held size r g ascending listed out (sym (bounded.firsts_are g inside) ∙ same)

      -- it is given back
      pub noted_after_give : (firsts' : List ℕ) → Noted firsts firsts' r 0 → IsNotedFor white white' r None
          → AreAskedNoted size firsts' (set table r.from Free) condemned white'
      noted_after_give firsts' written cleared = record {
        white_size = cleared.size ∙ noted.white_size;
        white_are = λ g inside.
            elim (cases_out g r) [
              | inl out ↦
                  cleared.outside g out ∙ noted.white_are g inside
                  ∙ sym (asked_of_other table condemned condemned (get_or firsts g 0) r.from Free (elsewhere g inside out) refl)
                  ∙ ap (λ (k : ℕ). asked_of_first (set table r.from Free) condemned k) (sym (written.outside g out))
              | inr (above, below) ↦
                  cleared.inside g above below
                  ∙ ap (λ (k : ℕ). asked_of_first (set table r.from Free) condemned k) (sym (written.inside g above below))
            ];
      }

      -- it is condemned
      pub noted_after_condemn : r.from < length condemned → IsNotedFor white white' r (asked_of_entry (get_or table r.from Free))
          → AreAskedNoted size firsts table (set condemned r.from true) white'
      noted_after_condemn within written =
          let after = set condemned r.from true in
          let runs = contained_bounds 1 size held r ascending listed in
          record {
            white_size = written.size ∙ noted.white_size;
            white_are = λ g inside.
                elim (cases_out g r) [
                  | inl out ↦
                      written.outside g out ∙ noted.white_are g inside
                      ∙ sym (asked_with table condemned after (get_or firsts g 0)
                      (bit-set_other condemned r.from (get_or firsts g 0) true (elsewhere g inside out)))
                  | inr (above, below) ↦
                      let first : get_or firsts g 0 ≡ r.from =
                      bounded.firsts_are g inside ∙ ap or_zero (run_over_in 1 size held r g ascending listed above below)
                      in
                      written.inside g above below
                      ∙ sym (ap (λ (k : ℕ). asked_of_first table after k) first
                      ∙ asked_of_set table after r.from (omega (arith, runs.0)) (bit-set_same condemned r.from true within))
                ];
          }
