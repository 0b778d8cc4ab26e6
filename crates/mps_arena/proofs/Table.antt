-- A table of runs, where one entry is read, skipped, written or set to 0.
use Rattle.std.proofs.Common.{ℕ, zero, suc, ◌+◌, ◌<◌, ◌≤◌, ◌≡◌, ◌⊎◌, List, [], ◌∷◌, length, get_or, set, drop, Contains, refl, sym, ap, ◌∙◌, subst, inl, inr, arith}
use Rattle.std.proofs.Math.Seq.{drop-cons}
use Rattle.mps_base.specs.Run.{Run, IsAscending, with_run, without_run}
use Rattle.mps_base.proofs.Runs.{with_run_first, with_run_later, without_run_first, without_run_later, contains_cases}
use Rattle.mps_arena.specs.Grains.{runs_from}

pub runs_from-zero : (grain : ℕ) (counts : List ℕ) (c : ℕ) → c ≡ 0 → runs_from grain (c ∷ counts) ≡ runs_from (suc grain) counts
unfolding runs_from
runs_from-zero grain counts zero none = refl
runs_from-zero grain counts (suc n) none = absurd (omega arith)

pub runs_from-some : (grain : ℕ) (counts : List ℕ) (c : ℕ) → 0 < c
    → runs_from grain (c ∷ counts) ≡ record { from = grain; count = c } ∷ runs_from (suc grain) counts
unfolding runs_from
runs_from-some grain counts zero some = absurd (omega arith)
runs_from-some grain counts (suc n) some = refl

pub runs_from-nil : (grain : ℕ) → runs_from grain [] ≡ []
unfolding runs_from
runs_from-nil grain = refl

-- the runs from a grain on, where none begins there
pub runs_at_free : (table : List ℕ) (grain : ℕ) → grain < length table → get_or table grain 0 ≡ 0
    → runs_from grain (drop grain table) ≡ runs_from (suc grain) (drop (suc grain) table)
runs_at_free table grain within none =
    ap (λ (cs : List ℕ). runs_from grain cs) (drop-cons table grain 0 within)
    ∙ runs_from-zero grain (drop (suc grain) table) (get_or table grain 0) none

pub runs_at_run : (table : List ℕ) (grain : ℕ) → grain < length table → 0 < get_or table grain 0
    → runs_from grain (drop grain table)
    ≡ record { from = grain; count = get_or table grain 0 } ∷ runs_from (suc grain) (drop (suc grain) table)
runs_at_run table grain within some =
    ap (λ (cs : List ℕ). runs_from grain cs) (drop-cons table grain 0 within)
    ∙ runs_from-some grain (drop (suc grain) table) (get_or table grain 0) some

-- runs that begin `n` grains later are those of the table there
pub runs_later : (n : ℕ) (table : List ℕ) (grain low high : ℕ) → IsAscending low high (runs_from grain (drop grain table))
    → grain + n ≤ low → low ≤ length table
    → runs_from grain (drop grain table) ≡ runs_from (grain + n) (drop (grain + n) table)
runs_later zero table grain low high ascending after within =
    let same : grain ≡ grain + 0 = omega arith in
    ap (λ (g : ℕ). runs_from g (drop g table)) same
runs_later (suc n) table grain low high ascending after within =
    let same : suc grain + n ≡ grain + suc n = omega arith in
    let short : grain < length table = omega arith in
    elim (cases_zero (get_or table grain 0)) [
      | inl none ↦
          let here = runs_at_free table grain short none in
          let P : List Run → Type 0 = λ rs. IsAscending low high rs in
          here ∙ runs_later n table (suc grain) low high (subst P here ascending) (omega arith) within
          ∙ ap (λ (g : ℕ). runs_from g (drop g table)) same
      | inr some ↦
          let here = runs_at_run table grain short some in
          let P : List Run → Type 0 = λ rs. IsAscending low high rs in
          let ordered = subst P here ascending in
          absurd (omega (arith, ordered.0))
    ]
  where
    cases_zero : (n : ℕ) → (n ≡ 0) ⊎ (0 < n)
    cases_zero zero = inl refl
    cases_zero (suc n) = inr (omega arith)

-- all runs of a table begin at or after its first grain
pub run_before_all : (grain : ℕ) (counts : List ℕ) (r : Run) → r.from < grain
    → with_run r (runs_from grain counts) ≡ r ∷ runs_from grain counts
unfolding runs_from
run_before_all grain [] r before = refl
run_before_all grain (zero ∷ counts) r before = run_before_all (suc grain) counts r (omega arith)
run_before_all grain (suc n ∷ counts) r before =
    with_run_first r (record { from = grain; count = suc n }) (runs_from (suc grain) counts) before

-- an entry that was 0 is written
pub runs_from-set : (grain : ℕ) (counts : List ℕ) (i n : ℕ) → i < length counts → get_or counts i 0 ≡ 0 → 0 < n
    → runs_from grain (set counts i n) ≡ with_run (record { from = grain + i; count = n }) (runs_from grain counts)
runs_from-set grain [] i n within none some = absurd (omega arith)
runs_from-set grain (c ∷ counts) zero n within none some =
    let same_grain : grain + 0 ≡ grain = omega arith in
    runs_from-some grain counts n some
    ∙ sym (run_before_all (suc grain) counts (record { from = grain; count = n }) (omega arith))
    ∙ ap (λ (rs : List Run). with_run (record { from = grain; count = n }) rs) (sym (runs_from-zero grain counts c none))
    ∙ ap (λ (g : ℕ). with_run (record { from = g; count = n }) (runs_from grain (c ∷ counts))) (sym same_grain)
runs_from-set grain (zero ∷ counts) (suc i) n within none some =
    let same_grain : suc grain + i ≡ grain + suc i = omega arith in
    runs_from-zero grain (set counts i n) 0 refl ∙ runs_from-set (suc grain) counts i n (omega arith) none some
    ∙ ap (λ (g : ℕ). with_run (record { from = g; count = n }) (runs_from (suc grain) counts)) same_grain
    ∙ ap (λ (rs : List Run). with_run (record { from = grain + suc i; count = n }) rs) (sym (runs_from-zero grain counts 0 refl))
runs_from-set grain (suc c ∷ counts) (suc i) n within none some =
    let same_grain : suc grain + i ≡ grain + suc i = omega arith in
    let first : Run = record { from = grain; count = suc c } in
    let put : Run = record { from = grain + suc i; count = n } in
    runs_from-some grain (set counts i n) (suc c) (omega arith)
    ∙ ap (λ (rs : List Run). first ∷ rs) (runs_from-set (suc grain) counts i n (omega arith) none some)
    ∙ ap (λ (g : ℕ). first ∷ with_run (record { from = g; count = n }) (runs_from (suc grain) counts)) same_grain
    ∙ sym (with_run_later put first (runs_from (suc grain) counts) (omega arith))
    ∙ ap (λ (rs : List Run). with_run put rs) (sym (runs_from-some grain counts (suc c) (omega arith)))

-- an entry that was a run becomes 0
pub runs_from-empty : (grain : ℕ) (counts : List ℕ) (i : ℕ) → i < length counts → 0 < get_or counts i 0
    → runs_from grain (set counts i 0) ≡ without_run (grain + i) (runs_from grain counts)
runs_from-empty grain [] i within some = absurd (omega arith)
runs_from-empty grain (c ∷ counts) zero within some =
    let first : Run = record { from = grain; count = c } in
    runs_from-zero grain counts 0 refl
    ∙ sym (without_run_first (grain + 0) first (runs_from (suc grain) counts) (omega arith))
    ∙ ap (λ (rs : List Run). without_run (grain + 0) rs) (sym (runs_from-some grain counts c some))
runs_from-empty grain (zero ∷ counts) (suc i) within some =
    let same_grain : suc grain + i ≡ grain + suc i = omega arith in
    runs_from-zero grain (set counts i 0) 0 refl ∙ runs_from-empty (suc grain) counts i (omega arith) some
    ∙ ap (λ (g : ℕ). without_run g (runs_from (suc grain) counts)) same_grain
    ∙ ap (λ (rs : List Run). without_run (grain + suc i) rs) (sym (runs_from-zero grain counts 0 refl))
runs_from-empty grain (suc c ∷ counts) (suc i) within some =
    let same_grain : suc grain + i ≡ grain + suc i = omega arith in
    let first : Run = record { from = grain; count = suc c } in
    runs_from-some grain (set counts i 0) (suc c) (omega arith)
    ∙ ap (λ (rs : List Run). first ∷ rs)
    (runs_from-empty (suc grain) counts i (omega arith) some ∙ ap (λ (g : ℕ). without_run g (runs_from (suc grain) counts)) same_grain)
    ∙ sym (without_run_later (grain + suc i) first (runs_from (suc grain) counts) (λ e. omega arith))
    ∙ ap (λ (rs : List Run). without_run (grain + suc i) rs) (sym (runs_from-some grain counts (suc c) (omega arith)))

-- runs that ascend from some number on ascend from any number at or below the first grain of their table
pub IsAscending-from_lower : (grain low low' high : ℕ) (counts : List ℕ) → low' ≤ grain → low' ≤ high
    → IsAscending low high (runs_from grain counts) → IsAscending low' high (runs_from grain counts)
unfolding runs_from
IsAscending-from_lower grain low low' high [] before within ascending = within
IsAscending-from_lower grain low low' high (zero ∷ counts) before within ascending =
    IsAscending-from_lower (suc grain) low low' high counts (omega arith) within ascending
IsAscending-from_lower grain low low' high (suc n ∷ counts) before within ascending = (before, ascending.1, ascending.2)

-- a run of a table is an entry
pub entry_of_run : (grain : ℕ) (counts : List ℕ) (r : Run) → Contains (runs_from grain counts) r
    → (i : ℕ) × (i < length counts) × (r.from ≡ grain + i) × (get_or counts i 0 ≡ r.count) × (0 < r.count)
unfolding runs_from
entry_of_run grain [] r (k, within, is) = absurd (omega arith)
entry_of_run grain (zero ∷ counts) r there =
    let later = entry_of_run (suc grain) counts r there in
    (suc later.0, omega (arith, later.1), omega (arith, later.2), later.3, later.4)
entry_of_run grain (suc n ∷ counts) r there =
    let first : Run = record { from = grain; count = suc n } in
    elim (contains_cases (runs_from (suc grain) counts) r first there) [
      | inl same ↦ (
        0,
        omega arith,
        omega (arith, ap (λ (x : Run). x.from) same),
        omega (arith, ap (λ (x : Run). x.count) same),
        omega (arith, ap (λ (x : Run). x.count) same),
      )
      | inr other ↦
          let later = entry_of_run (suc grain) counts r other in
          (suc later.0, omega (arith, later.1), omega (arith, later.2), later.3, later.4)
    ]
