-- Runs of consecutive numbers: of words, where blocks and reservations lie, or of grains, where segments do. The gaps
-- between runs are where something new may be placed.
use Rattle.std.specs.Prelude.{ℕ, ◌≡◌, ◌+◌, ◌-◌, ◌≤◌, ◌<◌, max, ◌==◌, ◌&&◌, nat_le, nat_lt, sum_by, if◌then◌else◌, Option, Some, None, List, [], ◌∷◌, ◌++◌, refl}
use Rattle.mps_base.specs.Put.{put}

-- `count` numbers from `from` on
pub record Run : Type 0 where
  pub from : ℕ
  pub count : ℕ

-- the first number after a run
abbrev pub end_of : Run → ℕ
end_of r = r.from + r.count

-- the number lies in the run
abbrev pub Covers : Run → ℕ → Type 0
Covers r n = (r.from ≤ n) × (n < end_of r)

-- runs in ascending order that don't overlap and aren't empty, from `low` on and below `high`
abbrev pub IsAscending : ℕ → ℕ → List Run → Type 0
IsAscending low high [] = low ≤ high
IsAscending low high (r ∷ rs) = (low ≤ r.from) × (0 < r.count) × IsAscending (end_of r) high rs

-- how many numbers the runs have together
abbrev pub total : List Run → ℕ
total rs = sum_by (λ r. r.count) rs

-- the run from `low` up to and without `high`, if there is anything between them
abbrev pub between : ℕ → ℕ → List Run
between low high = if nat_lt low high then record { from = low; count = high - low } ∷ [] else []

-- the gaps: the maximal runs from `low` on and below `high` that none of the ascending runs covers
abbrev pub gaps : ℕ → ℕ → List Run → List Run
gaps low high [] = between low high
gaps low high (r ∷ rs) = between low r.from ++ gaps (end_of r) high rs

-- where the first run of at least `count` begins
abbrev pub lowest_fitting : ℕ → List Run → Option ℕ
lowest_fitting count [] = None
lowest_fitting count (r ∷ rs) = if nat_le count r.count then Some r.from else lowest_fitting count rs

-- the length of the longest run, 0 if there is none
abbrev pub longest : List Run → ℕ
longest [] = 0
longest (r ∷ rs) = max r.count (longest rs)

-- one more run among ascending runs
abbrev pub with_run : Run → List Run → List Run
with_run r rs = put (λ (s : Run). s.from) r rs

-- the runs without the one that begins at a number
abbrev pub without_run : ℕ → List Run → List Run
without_run from [] = []
without_run from (r ∷ rs) = if from == r.from then rs else r ∷ without_run from rs

-- runs in ascending order
abbrev pub in_order : List Run → List Run
in_order [] = []
in_order (r ∷ rs) = with_run r (in_order rs)

-- the runs that begin from `low` on and below `high`
abbrev pub runs_within : ℕ → ℕ → List Run → List Run
runs_within low high [] = []
runs_within low high (r ∷ rs) = if nat_le low r.from && nat_lt r.from high then r ∷ runs_within low high rs else runs_within low high rs

-- two runs, at 1 and 2 and at 5
abbrev example : List Run
example = record { from = 1; count = 2 } ∷ record { from = 5; count = 1 } ∷ []

pub gaps_lie_between_and_after :
    gaps 1 9 example ≡ record { from = 3; count = 2 } ∷ record { from = 6; count = 3 } ∷ []
gaps_lie_between_and_after = refl

pub a_gap_one_short_does_not_fit : lowest_fitting 3 (gaps 1 9 example) ≡ Some 6
a_gap_one_short_does_not_fit = refl

pub no_gap_of_four : lowest_fitting 4 (gaps 1 9 example) ≡ None
no_gap_of_four = refl

pub a_run_is_put_between :
    with_run (record { from = 3; count = 2 }) example
    ≡ record { from = 1; count = 2 } ∷ record { from = 3; count = 2 } ∷ record { from = 5; count = 1 } ∷ []
a_run_is_put_between = refl

pub the_first_run_is_taken_out : without_run 1 example ≡ record { from = 5; count = 1 } ∷ []
the_first_run_is_taken_out = refl

pub no_run_begins_there : without_run 2 example ≡ example
no_run_begins_there = refl

pub the_longest_gap : longest (gaps 1 9 example) ≡ 3
the_longest_gap = refl

pub neighbours_leave_no_gap : gaps 1 3 (record { from = 1; count = 1 } ∷ record { from = 2; count = 1 } ∷ []) ≡ []
neighbours_leave_no_gap = refl

pub the_lower_run_comes_first :
    in_order (record { from = 5; count = 1 } ∷ record { from = 1; count = 2 } ∷ []) ≡ example
the_lower_run_comes_first = refl

pub a_run_begins_within : runs_within 2 6 example ≡ record { from = 5; count = 1 } ∷ []
a_run_begins_within = refl
