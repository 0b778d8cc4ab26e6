-- The gaps of the segments of a pool and a rank, segment by segment.
use Rattle.std.proofs.Common.{ℕ, suc, ◌+◌, ◌<◌, ◌≡◌, List, [], ◌∷◌, length, get_or, refl, sym, ap, ◌∙◌, inl, inr, arith, leb, ◌*◌, Some, None, ◌++◌, drop, filter}
use Rattle.std.proofs.Math.Seq.{drop-cons}
use Rattle.std.proofs.lemmas.Bool.{cases_Bool, cond-true, cond-false}
use Rattle.std.specs.List.{flat_map}
use Rattle.mps_base.specs.Address.{address_of_grain, words_of_grain, word_of}
use Rattle.mps_base.specs.Run.{Run, runs_within, gaps, lowest_fitting}
use Rattle.mps_base.specs.Segment.{Segment, end_of_segment, is_open_to, gaps_in, gaps_of}
use Rattle.mps_base.specs.declared.names.Rank.{Rank}
use Rattle.mps_extents.specs.Extents.{ExtentLists}
use Rattle.mps_seg.specs.Table.{gaps_in_grains, segments_in, segments_of_entries, gaps_at}
use Rattle.mps_seg.specs.declared.entry.Entry.{Entry}
use Rattle.mps_seg.specs.declared.entry.Entry.TheVariants.{Free, First}

pub lowest_in_prefix : (n start : ℕ) (xs ys : List Run) → lowest_fitting n xs ≡ Some start → lowest_fitting n (xs ++ ys) ≡ Some start
lowest_in_prefix n start [] ys is = let never : None ≡ Some start = is in cc
lowest_in_prefix n start (r ∷ xs) ys is =
    elim (cases_Bool (leb n r.count)) [
      | inl fits ↦
          cond-true (leb n r.count) (Some r.from) (lowest_fitting n (xs ++ ys)) fits
          ∙ sym (cond-true (leb n r.count) (Some r.from) (lowest_fitting n xs) fits) ∙ is
      | inr short ↦
          cond-false (leb n r.count) (Some r.from) (lowest_fitting n (xs ++ ys)) short
          ∙ lowest_in_prefix n start xs ys (sym (cond-false (leb n r.count) (Some r.from) (lowest_fitting n xs) short) ∙ is)
    ]

pub lowest_in_rest : (n : ℕ) (xs ys : List Run) → lowest_fitting n xs ≡ None → lowest_fitting n (xs ++ ys) ≡ lowest_fitting n ys
lowest_in_rest n [] ys is = refl
lowest_in_rest n (r ∷ xs) ys is =
    elim (cases_Bool (leb n r.count)) [
      | inl fits ↦ let never : Some r.from ≡ None = sym (cond-true (leb n r.count) (Some r.from) (lowest_fitting n xs) fits) ∙ is in cc
      | inr short ↦
          cond-false (leb n r.count) (Some r.from) (lowest_fitting n (xs ++ ys)) short
          ∙ lowest_in_rest n xs ys (sym (cond-false (leb n r.count) (Some r.from) (lowest_fitting n xs) short) ∙ is)
    ]

-- the gaps of the segments that begin at a grain or after it
unfoldable pub later_gaps : (covered : List Run) → (pool : ℕ) → Rank → (grain : ℕ) → List Entry → List Run
later_gaps covered pool rank grain entries = gaps_of covered (segments_of_entries grain entries) pool rank

pub all_gaps : (covered : List Run) (table : List Entry) (pool : ℕ) (rank : Rank)
    → later_gaps covered pool rank 0 table ≡ gaps_of covered (segments_in table) pool rank
unfolding later_gaps segments_in
all_gaps covered table pool rank = refl

pub no_gaps : (covered : List Run) (pool : ℕ) (rank : Rank) (grain : ℕ) → later_gaps covered pool rank grain [] ≡ []
unfolding later_gaps segments_of_entries
no_gaps covered pool rank grain = refl

gaps_step : (ex : ExtentLists) (pool : ℕ) (rank : Rank) (grain : ℕ) (e : Entry) (entries : List Entry)
    → later_gaps ex.covered pool rank grain (e ∷ entries)
    ≡ gaps_at grain e pool rank ex ++ later_gaps ex.covered pool rank (suc grain) entries
unfolding later_gaps segments_of_entries
gaps_step ex pool rank grain Free entries = refl
gaps_step ex pool rank grain (First n p g r) entries =
    let s : Segment = record { base = address_of_grain grain; grains = n; pool = p; generation = g; rank = r } in
    let following = filter (is_open_to pool rank) (segments_of_entries (suc grain) entries) in
    let low : word_of (address_of_grain grain) ≡ words_of_grain * grain = omega arith in
    let high : word_of (end_of_segment s) ≡ words_of_grain * grain + words_of_grain * n = omega arith in
    let mine =
    gaps_in_grains grain n ex.covered
    in
    let same : gaps_in ex.covered s ≡ mine =
    ap (λ (a : ℕ). gaps a (word_of (end_of_segment s)) (runs_within a (word_of (end_of_segment s)) ex.covered)) low
    ∙ ap (λ (b : ℕ). gaps (words_of_grain * grain) b (runs_within (words_of_grain * grain) b ex.covered)) high
    in
    let gaps_after = λ (rs : List Run). rs ++ flat_map (gaps_in ex.covered) following in
    elim (cases_Bool (is_open_to pool rank s)) [
      | inl opened ↦
          ap (λ (ss : List Segment). flat_map (gaps_in ex.covered) ss)
          (cond-true (is_open_to pool rank s) (s ∷ following) following opened)
          ∙ ap gaps_after (same ∙ sym (cond-true (is_open_to pool rank s) mine [] opened))
      | inr other ↦
          ap (λ (ss : List Segment). flat_map (gaps_in ex.covered) ss)
          (cond-false (is_open_to pool rank s) (s ∷ following) following other)
          ∙ ap gaps_after (sym (cond-false (is_open_to pool rank s) mine [] other))
    ]

pub gaps_more : (ex : ExtentLists) (table : List Entry) (pool : ℕ) (rank : Rank) (grain : ℕ) → grain < length table
    → later_gaps ex.covered pool rank grain (drop grain table)
    ≡ gaps_at grain (get_or table grain Free) pool rank ex ++ later_gaps ex.covered pool rank (suc grain) (drop (suc grain) table)
gaps_more ex table pool rank grain within =
    ap (λ (es : List Entry). later_gaps ex.covered pool rank grain es) (drop-cons table grain Free within)
    ∙ gaps_step ex pool rank grain (get_or table grain Free) (drop (suc grain) table)
