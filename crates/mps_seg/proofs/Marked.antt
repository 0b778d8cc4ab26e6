-- The tables of marks, of condemned segments and of summaries keep their sizes.
use Rattle.std.proofs.Common.{ℕ, zero, suc, ◌+◌, ◌-◌, ◌*◌, ◌<◌, ◌≤◌, ◌≡◌, Some, None, inl, inr, sym, Bool, true, false, List, [], ◌∷◌, refl, length, set, replicate, ◌∙◌, length-set, arith}
use Rattle.std.proofs.lemmas.Bool.{cases_Bool, cond-true, cond-false}
use Rattle.std.proofs.lemmas.List.{length-replicate}
use Rattle.mps_base.specs.Address.{words_of_grain}
use Rattle.mps_base.specs.Run.{Run}
use Rattle.mps_marks.specs.Marks.{MarkTables, no_marks, grey_of, with_grey, without_marks}
use Rattle.mps_base.specs.declared.names.Rank.{Rank}
use Rattle.mps_base.specs.declared.names.Rank.TheVariants.{Exact, Weak}
use Rattle.mps_bits.specs.Table.{bit, lowest_from, next_set_below}
use Rattle.mps_extents.proofs.WrittenBits.{bit_within}
use Rattle.mps_seg.specs.Table.{IsMarked}
use Rattle.mps_seg.specs.Collecting.{all_grey}

module _ (grains : ℕ) (marks : MarkTables) (condemned : List Bool) (summaries : List ℕ) (marked : IsMarked grains marks condemned summaries)
  where
    -- where a block is removed
    pub marked_without : (word : ℕ) → IsMarked grains (without_marks word marks) condemned summaries
    marked_without word = record {
      kept_size = length-set marks.kept word false ∙ marked.kept_size;
      exact_size = length-set marks.exact word false ∙ marked.exact_size;
      weak_size = length-set marks.weak word false ∙ marked.weak_size;
      condemned_size = marked.condemned_size;
      summaries_size = marked.summaries_size;
    }

    -- where a segment is taken
    pub marked_taken : (grain : ℕ) → IsMarked grains marks (set condemned grain false) (set summaries grain 0)
    marked_taken grain = record {
      kept_size = marked.kept_size;
      exact_size = marked.exact_size;
      weak_size = marked.weak_size;
      condemned_size = length-set condemned grain false ∙ marked.condemned_size;
      summaries_size = length-set summaries grain 0 ∙ marked.summaries_size;
    }

    -- where a block becomes grey
    pub marked_grey : (rank : Rank) (word : ℕ) → IsMarked grains (with_grey rank word marks) condemned summaries
    marked_grey Exact word = record {
      kept_size = marked.kept_size;
      exact_size = length-set marks.exact word true ∙ marked.exact_size;
      weak_size = marked.weak_size;
      condemned_size = marked.condemned_size;
      summaries_size = marked.summaries_size;
    }
    marked_grey Weak word = record {
      kept_size = marked.kept_size;
      exact_size = marked.exact_size;
      weak_size = length-set marks.weak word true ∙ marked.weak_size;
      condemned_size = marked.condemned_size;
      summaries_size = marked.summaries_size;
    }

    -- where a collection ends
    pub marked_collected : IsMarked grains (no_marks (length marks.kept)) (replicate (grains + 1) false) summaries
    marked_collected = record {
      kept_size = length-replicate (length marks.kept) false ∙ marked.kept_size;
      exact_size = length-replicate (length marks.kept) false ∙ marked.kept_size;
      weak_size = length-replicate (length marks.kept) false ∙ marked.kept_size;
      condemned_size = length-replicate (grains + 1) false;
      summaries_size = marked.summaries_size;
    }

    -- a grey block lies in the arena
    pub grey_within : (rank : Rank) (word : ℕ) → bit (grey_of rank marks) word ≡ true → word < words_of_grain * (grains + 1)
    grey_within Exact word is = omega (arith, bit_within marks.exact word is, marked.exact_size)
    grey_within Weak word is = omega (arith, bit_within marks.weak word is, marked.weak_size)

pub marked_all_grey : (grains : ℕ) (marks : MarkTables) (condemned : List Bool) (summaries : List ℕ) (rank : Rank) (rs : List Run)
    → IsMarked grains marks condemned summaries → IsMarked grains (all_grey rank rs marks) condemned summaries
marked_all_grey grains marks condemned summaries rank [] marked = marked
marked_all_grey grains marks condemned summaries rank (r ∷ rs) marked =
    marked_all_grey grains (with_grey rank r.from marks) condemned summaries rank rs
    (marked_grey grains marks condemned summaries marked rank r.from)

-- another grey block leaves the table of those that are kept as it is
pub kept_stay : (rank : Rank) (word : ℕ) (marks : MarkTables) → (with_grey rank word marks).kept ≡ marks.kept
kept_stay Exact word marks = refl
kept_stay Weak word marks = refl

pub new_is_marked : (grains : ℕ)
    → IsMarked grains (no_marks (words_of_grain * (grains + 1))) (replicate (grains + 1) false) (replicate (grains + 1) 0)
new_is_marked grains = record {
  kept_size = length-replicate (words_of_grain * (grains + 1)) false;
  exact_size = length-replicate (words_of_grain * (grains + 1)) false;
  weak_size = length-replicate (words_of_grain * (grains + 1)) false;
  condemned_size = length-replicate (grains + 1) false;
  summaries_size = length-replicate {A = ℕ} (grains + 1) 0;
}

lowest_from-below : (p : ℕ → Bool) (from n index : ℕ) → lowest_from p from n ≡ Some index → index < from + n
unfolding lowest_from
lowest_from-below p from zero index is = let never : None ≡ Some index = is in cc
lowest_from-below p from (suc n) index is =
    elim (cases_Bool (p from)) [
      | inl passes ↦
          let both : Some from ≡ Some index = sym (cond-true (p from) (Some from) (lowest_from p (suc from) n) passes) ∙ is in
          let same : from ≡ index = cc in
          omega (arith, same)
      | inr fails ↦
          let later =
          lowest_from-below p (suc from) n index (sym (cond-false (p from) (Some from) (lowest_from p (suc from) n) fails) ∙ is)
          in
          omega (arith, later)
    ]

-- the bit that is found between two bounds lies below the upper one
pub next_set_below-below : (bits : List Bool) (low high index : ℕ) → low ≤ high → next_set_below bits low high ≡ Some index → index < high
unfolding next_set_below
next_set_below-below bits low high index ordered is = omega (arith, lowest_from-below (bit bits) low (high - low) index is, ordered)
