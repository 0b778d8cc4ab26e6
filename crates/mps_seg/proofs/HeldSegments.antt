-- The segments are the runs of grains that the arena holds, and each extent lies in one of them: this stays true through each call.
use Rattle.std.proofs.Common.{ℕ, ◌+◌, ◌<◌, ◌≡◌, List, [], ◌∷◌, get_or, set, Contains, refl, sym, ap, ◌∙◌, subst, inl, inr, arith, replicate, ◌≤◌, ◌⊎◌, ◌*◌, ◌≢◌, ◌&&◌, eqb, Some, None, map, length-set}
use Rattle.std.proofs.lemmas.Bool.{cases_Bool, cond-true, cond-false}
use Rattle.std.proofs.lemmas.List.{length-replicate}
use Rattle.mps_base.proofs.Runs.{contains_first, contains_later, contained_bounds, in_lowest_gap, IsAscending-without_run}
use Rattle.mps_base.specs.Address.{address_of_grain, words_of_grain, max_grains}
use Rattle.mps_base.specs.Run.{Run, IsAscending, with_run, without_run, end_of, runs_within, gaps, lowest_fitting}
use Rattle.mps_base.specs.Segment.{Segment, same_rank, grains_of_segment, with_segment}
use Rattle.mps_base.specs.declared.names.Rank.{Rank}
use Rattle.mps_arena.specs.Arena.{ArenaMemory, new_arena}
use Rattle.mps_extents.specs.Extents.{nothing_covered, ExtentLists, AreWhole}
use Rattle.mps_seg.specs.Segs.{IsOpenRun, LiesIn}
use Rattle.mps_seg.specs.Table.{IsClearOf, gaps_in_grains, segments_in, IsHeld, segments_of_entries, gaps_at, IsWholeAt}
use Rattle.mps_seg.specs.declared.entry.Entry.{Entry}
use Rattle.mps_seg.specs.declared.entry.Entry.TheVariants.{Free, First}
use Rattle.mps_extents.proofs.ApartRuns.{contains_put, apart_from_put, apart_each}
use Rattle.mps_extents.proofs.ContainedRuns.{contains_put_cases, contains_put_other, contains_without, contains_still, taken_and_put, begins_within, same_count, put_apart, side_of}
use Rattle.mps_seg.proofs.Entries.{held_from, segments_put, held_put, entry_is_held, new_segments_in, held_taken, entry_cases}
use Rattle.mps_extents.proofs.LowestGap.{runs_within_ascending}

module _ (arena : ArenaMemory) (table : List Entry) (ex : ExtentLists) (held : IsHeld arena table ex) where
  pub held_after_cover : (r : Run) (blocks reservations : List Run) → 0 < r.count → IsAscending 0 ex.size (with_run r ex.covered)
      → LiesIn (map grains_of_segment (segments_in table)) r
      → IsHeld arena table (record ex { covered = with_run r ex.covered; blocks = blocks; reservations = reservations })
  held_after_cover r blocks reservations some free lies =
      let P : List Run → Type 0 = λ rs. LiesIn rs r in
      record {
        held = held.held;
        ascending = held.ascending;
        at_most = held.at_most;
        size = held.size;
        covered_size = held.covered_size;
        covered_ascending = free;
        nonempty = λ t there. elim (contains_put_cases r t ex.covered there) [
          | inl same ↦ omega (arith, some, ap (λ (x : Run). x.count) same)
          | inr later ↦ held.nonempty t later
        ];
        inside = λ t there. elim (contains_put_cases r t ex.covered there) [
          | inl same ↦ subst (λ (x : Run). LiesIn arena.held x) same (subst P (sym held.held) lies)
          | inr later ↦ held.inside t later
        ];
      }

  pub held_after_uncover : (from : ℕ) (blocks reservations : List Run)
      → IsHeld arena table (record ex { covered = without_run from ex.covered; blocks = blocks; reservations = reservations })
  held_after_uncover from blocks reservations = record {
    held = held.held;
    ascending = held.ascending;
    at_most = held.at_most;
    size = held.size;
    covered_size = held.covered_size;
    covered_ascending = IsAscending-without_run 0 ex.size from ex.covered held.covered_ascending;
    nonempty = λ t there. held.nonempty t (contains_without from t ex.covered there);
    inside = λ t there. held.inside t (contains_without from t ex.covered there);
  }

  pub held_after_commit : (blocks reservations : List Run)
      → IsHeld arena table (record ex { blocks = blocks; reservations = reservations })
  held_after_commit blocks reservations = record {
    held = held.held;
    ascending = held.ascending;
    at_most = held.at_most;
    size = held.size;
    covered_size = held.covered_size;
    covered_ascending = held.covered_ascending;
    nonempty = held.nonempty;
    inside = held.inside;
  }

  -- words that were covered can be covered again
  pub free_again : (r : Run) (blocks reservations : List Run) → Contains ex.covered r
      → IsOpenRun arena.grains (map grains_of_segment (segments_in table)) (without_run r.from ex.covered) r
  free_again r blocks reservations there =
      let P : List Run → Type 0 = λ rs. IsAscending 0 (words_of_grain * (arena.grains + 1)) rs in
      let Q : ℕ → Type 0 = λ size. IsAscending 0 size ex.covered in
      let R : List Run → Type 0 = λ rs. LiesIn rs r in
      record {
        free =
            subst P (sym (taken_and_put 0 ex.size ex.covered r held.covered_ascending there))
            (subst Q held.covered_size held.covered_ascending);
        inside = subst R held.held (held.inside r there);
      }

  -- each extent lies on one side of a held run of grains, or in it
  pub whole_in : (grains : Run) → Contains arena.held grains → (rs : List Run) → ((t : Run) → Contains rs t → Contains ex.covered t)
      → AreWhole (words_of_grain * grains.from) (words_of_grain * end_of grains) rs
  whole_in grains listed [] part = tt
  whole_in grains listed (t ∷ rs) part =
      let there = part t (contains_first rs t) in
      let lies = held.inside t there in
      let some = held.nonempty t there in
      let bounds = contained_bounds 1 (arena.grains + 1) arena.held lies.grains held.ascending lies.there in
      let apart = apart_each 1 (arena.grains + 1) arena.held lies.grains grains held.ascending lies.there listed in (
        (
          λ above below. elim apart [
            | inl same ↦
                omega (
                  arith,
                  lies.before,
                  same,
                  same_count 1 (arena.grains + 1) arena.held lies.grains grains held.ascending
                      lies.there listed same,
                )
            | inr sides ↦
                elim sides [
                  | inl after ↦ absurd (omega (arith, after, lies.before, some))
                  | inr before ↦ absurd
                      (omega (arith, before, lies.after))
                ]
          ],
          λ below. elim apart [
            | inl same ↦ absurd (omega (arith, lies.after, same))
            | inr sides ↦
                elim sides [ inl after ↦ omega (arith, after, lies.before) | inr before ↦ absurd (omega (arith, before, lies.after)) ]
          ],
        ),
        whole_in grains listed rs (λ x in_rest. part x (contains_later rs x t in_rest)),
      )

  -- the segment at a grain is whole
  pub whole_at : (grain : ℕ) (e : Entry) → get_or table grain Free ≡ e → IsWholeAt grain e ex
  whole_at grain Free is = tt
  whole_at grain (First n p g r) is =
      let mine : Run = record { from = grain; count = n } in
      let P : List Run → Type 0 = λ rs. Contains rs mine in
      let listed = subst P (sym held.held) (entry_is_held table grain n p g r is) in
      let bounds = contained_bounds 1 (arena.grains + 1) arena.held mine held.ascending listed in
      let end : words_of_grain * (grain + n) ≡ words_of_grain * grain + words_of_grain * n = omega arith in
      let Q : ℕ → Type 0 = λ high. AreWhole (words_of_grain * grain) high ex.covered in
      (subst Q end (whole_in mine listed ex.covered (λ t there. there)), omega (arith, bounds.2, held.covered_size))

  pub segment_end_fits : (grain n p g : ℕ) (r : Rank) → get_or table grain Free ≡ First n p g r → words_of_grain * (grain + n) ≤ ex.size
  segment_end_fits grain n p g r is = omega (arith, (whole_at grain (First n p g r) is).1)

  pub free_entry : (need grain : ℕ) → 0 < need → lowest_fitting need (gaps 1 (arena.grains + 1) arena.held) ≡ Some grain
      → get_or table grain Free ≡ Free
  free_entry need grain some lowest =
      let r : Run = record { from = grain; count = need } in
      let gap = in_lowest_gap 1 (arena.grains + 1) arena.held need grain some held.ascending lowest in
      elim (entry_cases (get_or table grain Free)) [
        | inl free ↦ free
        | inr (n, p, g, k, is) ↦
            let P : List Run → Type 0 = λ rs. Contains rs (record { from = grain; count = n }) in
            let listed = subst P (sym held.held) (entry_is_held table grain n p g k is) in
            let bounds = contained_bounds 1 (arena.grains + 1) arena.held (record { from = grain; count = n }) held.ascending listed in
            elim (apart_from_put 1 (arena.grains + 1) arena.held r (record { from = grain; count = n }) gap.ascending listed) [
              | inl after ↦ absurd (omega (arith, after, some))
              | inr before ↦ absurd (omega (arith, before, bounds.1))
            ]
      ]

  pub segments_after_take : (need grain pool generation : ℕ) (rank : Rank) → 0 < need
      → lowest_fitting need (gaps 1 (arena.grains + 1) arena.held) ≡ Some grain
      → segments_in (set table grain (First need pool generation rank))
      ≡ with_segment (record { base = address_of_grain grain; grains = need; pool = pool; generation = generation; rank = rank })
      (segments_in table)
  unfolding segments_in
  segments_after_take need grain pool generation rank some lowest =
      let gap = in_lowest_gap 1 (arena.grains + 1) arena.held need grain some held.ascending lowest in
      let shifted : 0 + grain ≡ grain = omega arith in
      segments_put 0 table grain need pool generation rank (omega (arith, gap.below, held.size)) (free_entry need grain some lowest)
      ∙ ap (λ (k : ℕ). with_segment
      (record { base = address_of_grain k; grains = need; pool = pool; generation = generation; rank = rank })
      (segments_of_entries 0 table)) shifted

  pub held_after_take : (need grain pool generation : ℕ) (rank : Rank) → 0 < need
      → lowest_fitting need (gaps 1 (arena.grains + 1) arena.held) ≡ Some grain
      → IsHeld (record arena { held = with_run (record { from = grain; count = need }) arena.held })
      (set table grain (First need pool generation rank)) ex
  unfolding segments_in
  held_after_take need grain pool generation rank some lowest =
      let r : Run = record { from = grain; count = need } in
      let gap = in_lowest_gap 1 (arena.grains + 1) arena.held need grain some held.ascending lowest in
      let shifted : 0 + grain ≡ grain = omega arith in
      let size = length-set table grain (First need pool generation rank) in
      record {
        held =
            ap (λ (rs : List Run). with_run r rs) held.held
            ∙ ap (λ (k : ℕ). with_run (record { from = k; count = need }) (held_from 0 table)) (sym shifted)
            ∙ sym (held_put 0 table grain need pool generation rank (omega (arith, gap.below, held.size))
            (free_entry need grain some lowest));
        ascending = gap.ascending;
        at_most = held.at_most;
        size = size ∙ held.size;
        covered_size = held.covered_size;
        covered_ascending = held.covered_ascending;
        nonempty = held.nonempty;
        inside = λ t there.
            let lies = held.inside t there in
            record {
              grains = lies.grains;
              there = contains_put_other r lies.grains arena.held
                  lies.there;
              after = lies.after;
              before = lies.before;
            };
      }

  pub held_after_give : (grain n p g : ℕ) (r : Rank) → get_or table grain Free ≡ First n p g r
      → runs_within (words_of_grain * grain) (words_of_grain * (grain + n)) ex.covered ≡ []
      → IsHeld (record arena { held = without_run grain arena.held }) (set table grain Free) ex
  unfolding segments_in
  held_after_give grain n p g r is empty =
      let shifted : 0 + grain ≡ grain = omega arith in
      let mine : Run = record { from = grain; count = n } in
      let P : List Run → Type 0 = λ rs. Contains rs mine in
      let listed = subst P (sym held.held) (entry_is_held table grain n p g r is) in
      record {
        held =
            ap (λ (rs : List Run). without_run grain rs) held.held
            ∙ ap (λ (k : ℕ). without_run k (held_from 0 table)) (sym shifted)
            ∙ sym (held_taken 0 table grain n p g r is);
        ascending = IsAscending-without_run 1 (arena.grains + 1) grain arena.held held.ascending;
        at_most = held.at_most;
        size = length-set table grain Free ∙ held.size;
        covered_size = held.covered_size;
        covered_ascending = held.covered_ascending;
        nonempty = held.nonempty;
        inside = λ t there.
            let lies = held.inside t there in
            let other : lies.grains.from ≢ grain = λ e.
            elim (apart_each 1 (arena.grains + 1) arena.held lies.grains mine held.ascending lies.there listed) [
              | inl same ↦ not_empty t there lies e
              | inr apart ↦
                  let bounds = contained_bounds 1 (arena.grains + 1) arena.held mine held.ascending listed in
                  let bounds' = contained_bounds 1 (arena.grains + 1) arena.held lies.grains held.ascending lies.there in
                  elim apart [
                    | inl after ↦ absurd (omega (arith, after, e, bounds'.1))
                    | inr before ↦ absurd
                        (omega (arith, before, e, bounds.1))
                  ]
            ]
            in
            record {
              grains = lies.grains;
              there = contains_still grain lies.grains arena.held lies.there
                  other;
              after = lies.after;
              before = lies.before;
            };
      }
    where
      not_empty : (t : Run) → Contains ex.covered t → (lies : LiesIn arena.held t) → lies.grains.from ≡ grain → ⊥
      not_empty t there lies e =
          let mine : Run = record { from = grain; count = n } in
          let P : List Run → Type 0 = λ rs. Contains rs mine in
          let listed = subst P (sym held.held) (entry_is_held table grain n p g r is) in
          let count = same_count 1 (arena.grains + 1) arena.held lies.grains mine held.ascending lies.there listed e in
          let Q : List Run → Type 0 = λ rs. Contains rs t in
          let none =
          subst Q empty (begins_within (words_of_grain * grain) (words_of_grain * (grain + n)) ex.covered t there
          (omega (arith, lies.after, e)) (omega (arith, lies.before, e, count, held.nonempty t there)))
          in
          absurd (omega (arith, none.1))

  -- the lowest gap that fits among the words of a held run of grains
  pub clear_gap : (grain n p g : ℕ) (k : Rank) (words start : ℕ) → get_or table grain Free ≡ First n p g k → 0 < words
      → lowest_fitting words (gaps_in_grains grain n ex.covered) ≡ Some start
      → (words_of_grain * grain ≤ start) × (start + words ≤ words_of_grain * grain + words_of_grain * n)
      × IsClearOf (record { from = start; count = words }) ex.covered
  clear_gap grain n p g k words start is some lowest =
      let low = words_of_grain * grain in
      let high = words_of_grain * grain + words_of_grain * n in
      let r : Run = record { from = start; count = words } in
      let whole = whole_at grain (First n p g k) is in
      let within =
      runs_within_ascending 0 ex.size low high low ex.covered held.covered_ascending whole.0 (omega arith) (omega arith) (inr refl)
      in
      let gap = in_lowest_gap low high (runs_within low high ex.covered) words start some within lowest in (
        gap.above,
        gap.below,
        λ t there. elim (side_of low high ex.covered t whole.0 there) [
          | inl before ↦ inr (omega (arith, before, gap.above))
          | inr rest ↦ elim rest [
            | inl past ↦ inl (omega (arith, past, gap.below))
            | inr inside ↦
                apart_from_put low high (runs_within low high ex.covered) r t gap.ascending
                (begins_within low high ex.covered t there inside.0 inside.1)
          ]
        ],
      )

  -- a run in a gap of a held run of grains can be covered
  pub gap_is_free : (grain n p g : ℕ) (k : Rank) (words start : ℕ) → get_or table grain Free ≡ First n p g k → 0 < words
      → lowest_fitting words (gaps_in_grains grain n ex.covered) ≡ Some start
      → IsOpenRun arena.grains (map grains_of_segment (segments_in table)) ex.covered (record { from = start; count = words })
  gap_is_free grain n p g k words start is some lowest =
      let r : Run = record { from = start; count = words } in
      let whole = whole_at grain (First n p g k) is in
      let gap = clear_gap grain n p g k words start is some lowest in
      let P : ℕ → Type 0 = λ size. IsAscending 0 size (with_run r ex.covered) in
      record {
        free =
            subst P held.covered_size
            (put_apart 0 ex.size ex.covered r held.covered_ascending some (omega arith) (omega (arith, gap.1, whole.1)) gap.2);
        inside = record {
          grains = record { from = grain; count = n };
          there = entry_is_held table grain n p g k is;
          after = gap.0;
          before = omega (arith, gap.1);
        };
      }

  -- a new segment can be covered from its base on
  pub new_is_free : (need grain pool generation words : ℕ) (rank : Rank) → 0 < need → 0 < words → words ≤ words_of_grain * need
      → lowest_fitting need (gaps 1 (arena.grains + 1) arena.held) ≡ Some grain
      → IsOpenRun arena.grains (map grains_of_segment (segments_in (set table grain (First need pool generation rank)))) ex.covered
      (record { from = words_of_grain * grain; count = words })
  new_is_free need grain pool generation words rank some covered fits lowest =
      let segment : Run = record { from = grain; count = need } in
      let r : Run = record { from = words_of_grain * grain; count = words } in
      let gap = in_lowest_gap 1 (arena.grains + 1) arena.held need grain some held.ascending lowest in
      let after = held_after_take need grain pool generation rank some lowest in
      let apart = λ (t : Run) (there : Contains ex.covered t).
      let lies = held.inside t there in
      let here : (end_of r ≤ t.from) ⊎ (end_of t ≤ r.from) =
      elim (apart_from_put 1 (arena.grains + 1) arena.held segment lies.grains gap.ascending lies.there) [
        | inl following ↦ inl (omega (arith, following, lies.after))
        | inr ahead ↦ inr (omega (arith, ahead, lies.before))
      ]
      in here
      in
      let P : ℕ → Type 0 = λ size. IsAscending 0 size (with_run r ex.covered) in
      let Q : List Run → Type 0 = λ rs. Contains rs segment in
      record {
        free =
            subst P held.covered_size
            (put_apart 0 ex.size ex.covered r held.covered_ascending covered (omega arith)
            (omega (arith, gap.below, held.covered_size)) apart);
        inside = record {
          grains = segment;
          there = subst Q after.held (contains_put segment arena.held);
          after = omega arith;
          before = omega arith;
        };
      }

  pub gap_at_is_free : (grain : ℕ) (e : Entry) (pool : ℕ) (rank : Rank) (words start : ℕ) → get_or table grain Free ≡ e → 0 < words
      → lowest_fitting words (gaps_at grain e pool rank ex) ≡ Some start
      → IsOpenRun arena.grains (map grains_of_segment (segments_in table)) ex.covered (record { from = start; count = words })
  gap_at_is_free grain Free pool rank words start is some lowest = let never : None ≡ Some start = lowest in cc
  gap_at_is_free grain (First n p g k) pool rank words start is some lowest =
      let mine =
      gaps_in_grains grain n ex.covered
      in
      elim (cases_Bool (eqb p pool && same_rank k rank)) [
        | inl opened ↦
            gap_is_free grain n p g k words start is some
            (ap (λ (rs : List Run). lowest_fitting words rs) (sym (cond-true (eqb p pool && same_rank k rank) mine [] opened)) ∙ lowest)
        | inr closed ↦
            let none =
            ap (λ (rs : List Run). lowest_fitting words rs) (sym (cond-false (eqb p pool && same_rank k rank) mine [] closed)) ∙ lowest
            in
            let never : None ≡ Some start = none in
            cc
      ]

pub new_is_held : (grains limit : ℕ) → grains ≤ max_grains
    → IsHeld (new_arena grains limit) (replicate (grains + 1) Free) (nothing_covered (words_of_grain * (grains + 1)))
new_is_held grains limit few = record {
  held = ap (λ (ss : List Segment). map grains_of_segment ss) (sym (new_segments_in (grains + 1)));
  ascending = omega arith;
  at_most = few;
  size = length-replicate (grains + 1) Free;
  covered_size = refl;
  covered_ascending = omega arith;
  nonempty = λ t (k, within, is). absurd (omega arith);
  inside = λ t (k, within, is). absurd (omega arith);
}
