-- The segment in which a gap lies.
use Rattle.std.proofs.Common.{ℕ, zero, suc, ◌+◌, ◌*◌, ◌<◌, ◌≡◌, ◌&&◌, true, List, [], ◌∷◌, get_or, Contains, refl, sym, ap, ◌∙◌, subst, inl, inr, arith, eqb, leb, ltb, Some, None}
use Rattle.std.proofs.lemmas.Bool.{cases_Bool, cond-true, cond-false, le-leb, lt-ltb, and_from}
use Rattle.mps_base.proofs.Runs.{in_lowest_gap}
use Rattle.mps_base.specs.Address.{address_of_grain, words_of_grain, bytes_of_word}
use Rattle.mps_base.specs.Run.{Run, lowest_fitting, runs_within}
use Rattle.mps_base.specs.Segment.{Segment, end_of_segment, same_rank}
use Rattle.mps_base.specs.declared.names.Rank.{Rank}
use Rattle.mps_base.specs.declared.names.Rank.TheVariants.{Exact}
use Rattle.mps_arena.specs.Arena.{ArenaMemory}
use Rattle.mps_extents.specs.Extents.{ExtentLists}
use Rattle.mps_extents.proofs.LowestGap.{runs_within_ascending}
use Rattle.mps_seg.specs.Segs.{LiesInOpen}
use Rattle.mps_seg.specs.Table.{gaps_in_grains, gaps_at, segments_in, segments_of_entries, IsHeld}
use Rattle.mps_seg.specs.declared.entry.Entry.{Entry}
use Rattle.mps_seg.specs.declared.entry.Entry.TheVariants.{Free, First}
use Rattle.mps_seg.proofs.HeldSegments.{whole_at}

-- the segment of an entry
abbrev segment_at : ℕ → Entry → Segment
segment_at grain Free = record { base = address_of_grain grain; grains = 0; pool = 0; generation = 0; rank = Exact }
segment_at grain (First n p g r) = record { base = address_of_grain grain; grains = n; pool = p; generation = g; rank = r }

segment_of_entry : (at : ℕ) (entries : List Entry) (i n p g : ℕ) (r : Rank) → get_or entries i Free ≡ First n p g r
    → Contains (segments_of_entries at entries)
    (record { base = address_of_grain (at + i); grains = n; pool = p; generation = g; rank = r })
unfolding segments_of_entries
segment_of_entry at [] i n p g r is = cc
segment_of_entry at (Free ∷ entries) zero n p g r is = cc
segment_of_entry at (Free ∷ entries) (suc i) n p g r is =
    let shifted : suc at + i ≡ at + suc i = omega arith in
    let P : ℕ → Type 0 = λ a. Contains (segments_of_entries (suc at) entries)
    (record { base = address_of_grain a; grains = n; pool = p; generation = g; rank = r })
    in
    subst P shifted (segment_of_entry (suc at) entries i n p g r is)
segment_of_entry at (First a b c d ∷ entries) zero n p g r is =
    let shifted : at ≡ at + 0 = omega arith in
    let given : First a b c d ≡ First n p g r = is in
    (0, omega arith, ap (λ (e : Entry). segment_at at e) given ∙ ap (λ (k : ℕ). segment_at k (First n p g r)) shifted)
segment_of_entry at (First a b c d ∷ entries) (suc i) n p g r is =
    let shifted : suc at + i ≡ at + suc i = omega arith in
    let P : ℕ → Type 0 = λ k. Contains (segments_of_entries (suc at) entries)
    (record { base = address_of_grain k; grains = n; pool = p; generation = g; rank = r })
    in
    let later = subst P shifted (segment_of_entry (suc at) entries i n p g r is) in
    (suc later.0, omega (arith, later.1), later.2)

pub listed : (table : List Entry) (grain n p g : ℕ) (r : Rank) → get_or table grain Free ≡ First n p g r
    → Contains (segments_in table) (record { base = address_of_grain grain; grains = n; pool = p; generation = g; rank = r })
unfolding segments_in
listed table grain n p g r is =
    let shifted : 0 + grain ≡ grain = omega arith in
    let P : ℕ → Type 0 = λ k. Contains (segments_of_entries 0 table)
    (record { base = address_of_grain k; grains = n; pool = p; generation = g; rank = r })
    in
    subst P shifted (segment_of_entry 0 table grain n p g r is)

module _ (arena : ArenaMemory) (table : List Entry) (ex : ExtentLists) (held : IsHeld arena table ex) where
  in_open_segment : (grain n p g : ℕ) (k : Rank) (pool : ℕ) (rank : Rank) (words start : ℕ) → get_or table grain Free ≡ First n p g k
      → 0 < words → (eqb p pool && same_rank k rank) ≡ true → lowest_fitting words (gaps_in_grains grain n ex.covered) ≡ Some start
      → LiesInOpen (segments_in table) pool rank (bytes_of_word * start)
  in_open_segment grain n p g k pool rank words start is some opened lowest =
      let low = words_of_grain * grain in
      let high = words_of_grain * grain + words_of_grain * n in
      let whole = whole_at arena table ex held grain (First n p g k) is in
      let within =
      runs_within_ascending 0 ex.size low high low ex.covered held.covered_ascending whole.0 (omega arith) (omega arith) (inr refl)
      in
      let gap = in_lowest_gap low high (runs_within low high ex.covered) words start some within lowest in
      let s : Segment = record { base = address_of_grain grain; grains = n; pool = p; generation = g; rank = k } in
      let at = bytes_of_word * start in
      record {
        segment = s;
        there = listed table grain n p g k is;
        opened = opened;
        inside =
            and_from (leb s.base at) (ltb at (end_of_segment s)) (le-leb s.base at (omega (arith, gap.above)))
            (lt-ltb at (end_of_segment s) (omega (arith, gap.below, some)));
      }

  pub gap_in_open_segment : (grain : ℕ) (e : Entry) (pool : ℕ) (rank : Rank) (words start : ℕ) → get_or table grain Free ≡ e → 0 < words
      → lowest_fitting words (gaps_at grain e pool rank ex) ≡ Some start
      → LiesInOpen (segments_in table) pool rank (bytes_of_word * start)
  gap_in_open_segment grain Free pool rank words start is some lowest = let never : None ≡ Some start = lowest in cc
  gap_in_open_segment grain (First n p g k) pool rank words start is some lowest =
      let mine = gaps_in_grains grain n ex.covered in
      elim (cases_Bool (eqb p pool && same_rank k rank)) [
        | inl opened ↦
            in_open_segment grain n p g k pool rank words start is some opened
            (ap (λ (rs : List Run). lowest_fitting words rs) (sym (cond-true (eqb p pool && same_rank k rank) mine [] opened)) ∙ lowest)
        | inr closed ↦
            let none =
            ap (λ (rs : List Run). lowest_fitting words rs) (sym (cond-false (eqb p pool && same_rank k rank) mine [] closed)) ∙ lowest
            in
            let never : None ≡ Some start = none in
            cc
      ]
