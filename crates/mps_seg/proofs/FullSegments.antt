-- Segments whose bound is too small have no gap that fits.
use Rattle.std.proofs.Common.{ℕ, zero, set, true, suc, ◌+◌, ◌-◌, ◌*◌, ◌<◌, ◌≤◌, ◌≡◌, ◌&&◌, eqb, Option, Some, None, List, [], length, get_or, drop, Contains, refl, sym, ap, subst, ◌∙◌, inl, inr, arith}
use Rattle.std.proofs.lemmas.Bool.{false≢true, cases_Bool, cond-true, cond-false}
use Rattle.mps_base.specs.Address.{words_of_grain}
use Rattle.mps_base.specs.Run.{Run, lowest_fitting}
use Rattle.mps_base.specs.Segment.{same_rank}
use Rattle.mps_base.specs.declared.names.Rank.{Rank}
use Rattle.mps_arena.specs.Arena.{ArenaMemory}
use Rattle.mps_extents.specs.Extents.{ExtentLists}
use Rattle.mps_gaps.specs.Bounds.{HasNone}
use Rattle.mps_seg.specs.declared.entry.Entry.{Entry}
use Rattle.mps_seg.specs.declared.entry.Entry.TheVariants.{Free, First}
use Rattle.mps_seg.specs.Table.{gaps_at, gaps_in_grains, is_open_entry, IsHeld, AreGapsBounded}
use Rattle.mps_seg.proofs.Entries.{entry_is_held}
use Rattle.mps_extents.proofs.LowestGap.{runs_within_ascending}
use Rattle.mps_seg.proofs.BoundedGaps.{bounded_after_search}
use Rattle.mps_seg.proofs.HeldSegments.{clear_gap, whole_at}
use Rattle.mps_seg.proofs.OpenGaps.{later_gaps, gaps_more, lowest_in_rest}

module _
    (arena : ArenaMemory) (table : List Entry) (ex : ExtentLists) (firsts bounds : List ℕ) (held : IsHeld arena table ex)
    (bounded : AreGapsBounded arena.held (arena.grains + 1) firsts bounds ex.covered) (pool : ℕ) (rank : Rank) (words : ℕ)
    (some : 0 < words)
  where
    -- a gap that fits isn't longer than the bound
    fits_bound : (grain n p g : ℕ) (k : Rank) (start : ℕ) → get_or table grain Free ≡ First n p g k
        → lowest_fitting words (gaps_in_grains grain n ex.covered) ≡ Some start → words ≤ get_or bounds grain 0
    fits_bound grain n p g k start is lowest =
        let mine : Run = record { from = grain; count = n } in
        let P : List Run → Type 0 = λ rs. Contains rs mine in
        let listed = subst P (sym held.held) (entry_is_held table grain n p g k is) in
        let gap = clear_gap arena table ex held grain n p g k words start is some lowest in
        bounded.bounded mine (record { from = start; count = words }) listed (gap.0, omega (arith, gap.1)) gap.2

    pub no_gap_in : (grain n p g : ℕ) (k : Rank) → get_or table grain Free ≡ First n p g k → get_or bounds grain 0 < words
        → (found : Option ℕ) → lowest_fitting words (gaps_in_grains grain n ex.covered) ≡ found → found ≡ None
    no_gap_in grain n p g k is few None lowest = refl
    no_gap_in grain n p g k is few (Some start) lowest = absurd (omega (arith, few, fits_bound grain n p g k start is lowest))

    no_gap_at : (grain : ℕ) (e : Entry) → get_or table grain Free ≡ e → get_or bounds grain 0 < words
        → lowest_fitting words (gaps_at grain e pool rank ex) ≡ None
    no_gap_at grain Free is few = refl
    no_gap_at grain (First n p g k) is few =
        let mine = gaps_in_grains grain n ex.covered in
        let none = no_gap_in grain n p g k is few (lowest_fitting words mine) refl in
        elim (cases_Bool (eqb p pool && same_rank k rank)) [
          | inl opened ↦
              ap (λ (rs : List Run). lowest_fitting words rs) (cond-true (eqb p pool && same_rank k rank) mine [] opened) ∙ none
          | inr closed ↦ ap (λ (rs : List Run). lowest_fitting words rs) (cond-false (eqb p pool && same_rank k rank) mine [] closed)
        ]

    skipped : (n from to : ℕ) → from + n ≡ to → to ≤ length table → HasNone words from to bounds
        → lowest_fitting words (later_gaps ex.covered pool rank from (drop from table))
        ≡ lowest_fitting words (later_gaps ex.covered pool rank to (drop to table))
    skipped zero from to is within none =
        let same : from ≡ to = omega (arith, is) in
        ap (λ (k : ℕ). lowest_fitting words (later_gaps ex.covered pool rank k (drop k table))) same
    skipped (suc n) from to is within none =
        let here : from < length table = omega (arith, is, within) in
        let few = none from (omega arith) (omega (arith, is)) (omega (arith, here, held.size, bounded.bounds_size)) in
        ap (λ (rs : List Run). lowest_fitting words rs) (gaps_more ex table pool rank from here)
        ∙ lowest_in_rest words (gaps_at from (get_or table from Free) pool rank ex)
        (later_gaps ex.covered pool rank (suc from) (drop (suc from) table))
        (no_gap_at from (get_or table from Free) refl few)
        ∙ skipped n (suc from) to (omega (arith, is)) within (λ i above below inside. none i (omega (arith, above)) below inside)

    -- grains are passed over where the bound is too small
    pub gaps_passed : (from to : ℕ) → from ≤ to → to ≤ length table → HasNone words from to bounds
        → lowest_fitting words (later_gaps ex.covered pool rank from (drop from table))
        ≡ lowest_fitting words (later_gaps ex.covered pool rank to (drop to table))
    gaps_passed from to ordered within none = skipped (to - from) from to (omega arith) within none

    -- a segment was searched in vain
    pub lowered : (grain : ℕ) (e : Entry) → get_or table grain Free ≡ e → is_open_entry pool rank e ≡ true
        → lowest_fitting words (gaps_at grain e pool rank ex) ≡ None
        → AreGapsBounded arena.held (arena.grains + 1) firsts (set bounds grain (words - 1)) ex.covered
    lowered grain Free is opened none = absurd (false≢true opened)
    lowered grain (First n p g k) is opened none =
        let low = words_of_grain * grain in
        let high = words_of_grain * grain + words_of_grain * n in
        let mine : Run = record { from = grain; count = n } in
        let P : List Run → Type 0 = λ rs. Contains rs mine in
        let listed = subst P (sym held.held) (entry_is_held table grain n p g k is) in
        let whole = whole_at arena table ex held grain (First n p g k) is in
        let within =
        runs_within_ascending 0 ex.size low high low ex.covered held.covered_ascending whole.0 (omega arith) (omega arith) (inr refl)
        in
        bounded_after_search arena.held (arena.grains + 1) firsts bounds ex.covered bounded held.ascending ex.size words grain n some listed
        held.covered_ascending within
        (ap (λ (rs : List Run). lowest_fitting words rs) (sym (cond-true (eqb p pool && same_rank k rank)
        (gaps_in_grains grain n ex.covered) [] opened)) ∙ none)
