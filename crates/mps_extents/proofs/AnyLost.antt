-- Whether a block isn't kept, by the tables.
use Rattle.std.proofs.Common.{ℕ, ◌-◌, ◌<◌, ◌≤◌, ◌≡◌, ◌&&◌, Bool, true, false, not, List, [], ◌∷◌, length, refl, sym, ap, ◌∙◌, arith}
use Rattle.std.proofs.lemmas.Bool.{true≢false}
use Rattle.mps_base.specs.Run.{Run}
use Rattle.mps_bits.specs.Table.{bit}
use Rattle.mps_extents.specs.Inside.{extents}
use Rattle.mps_extents.specs.Lost.{lost_runs, passing, begins_lost}
use Rattle.mps_extents.proofs.Passing.{begin_words, lost_words, passing_none, passing_empty}

no_runs : (rs : List Run) → begin_words rs ≡ [] → rs ≡ []
no_runs [] none = refl
no_runs (r ∷ rs) none = let never : r.from ∷ begin_words rs ≡ [] = none in cc

-- a bit that is set in one table only if it is set in another
not_lost : (a b : Bool) → (a ≡ true → b ≡ true) → (a && not b) ≡ false
not_lost false b kept = refl
not_lost true b kept = ap not (kept refl)

kept_if_set : (a b : Bool) → (a && not b) ≡ false → a ≡ true → b ≡ true
kept_if_set a true none set = refl
kept_if_set true false none set = absurd (true≢false none)
kept_if_set false false none set = set

module _ (blocks ends kept : List Bool) (low high : ℕ) (ordered : low ≤ high) (within : high ≤ length blocks) where
  lost_words_are : begin_words (lost_runs low high kept (extents blocks ends)) ≡ passing (begins_lost blocks kept) low (high - low)
  lost_words_are = lost_words ends blocks kept low high ordered within

  pub none_lost : ((i : ℕ) → low ≤ i → i < high → bit blocks i ≡ true → bit kept i ≡ true)
      → lost_runs low high kept (extents blocks ends) ≡ []
  none_lost all =
      no_runs (lost_runs low high kept (extents blocks ends))
      (lost_words_are ∙ passing_none (begins_lost blocks kept) low (high - low) (λ i above below.
      not_lost (bit blocks i) (bit kept i) (all i above (omega arith))))

  pub all_kept : lost_runs low high kept (extents blocks ends) ≡ []
      → (i : ℕ) → low ≤ i → i < high → bit blocks i ≡ true → bit kept i ≡ true
  all_kept none i above below =
      kept_if_set (bit blocks i) (bit kept i)
      (passing_empty (begins_lost blocks kept) low (high - low) (sym lost_words_are ∙ ap begin_words none) i above (omega arith))
