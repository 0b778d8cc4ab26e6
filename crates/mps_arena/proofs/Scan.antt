-- The search for the lowest free run, grain by grain.
use Rattle.std.proofs.Common.{ℕ, zero, suc, ◌+◌, ◌-◌, ◌*◌, ◌<◌, ◌≤◌, ◌≡◌, max, List, [], ◌∷◌, Some, None, length, get_or, set, drop, replicate, refl, sym, ap, ◌∙◌, subst, inl, inr, arith, Contains}
use Rattle.std.proofs.lemmas.Bool.{cases_lt, le-ltb}
use Rattle.std.proofs.lemmas.List.{drop_all, length-set, length-replicate}
use Rattle.mps_base.specs.Run.{Run, IsAscending, gaps, lowest_fitting, longest, total, with_run, without_run}
use Rattle.mps_base.proofs.Runs.{in_lowest_gap, lowest_fitting_later, lowest_gap_here, last_gap_short, longest_last, longest_front, IsAscending-bounds, total-with_run, total-without_run, IsAscending-without_run}
use Rattle.mps_arena.specs.Grains.{runs_in, runs_from}
use Rattle.mps_base.specs.Placement.{Placement, NewSegment, run_placement}
use Rattle.mps_arena.specs.Arena.{ArenaMemory, held_after, new_arena}
use Rattle.mps_arena.specs.Inside.{IsSoundArena, memory_of}
use Rattle.mps_arena.proofs.Table.{runs_later, runs_at_free, runs_at_run, runs_from-nil, runs_from-zero, runs_from-set, runs_from-empty, entry_of_run, IsAscending-from_lower}
use Rattle.mps_base.specs.Address.{words_of_grain, max_grains}

-- the runs from a grain on
abbrev pub rest : List ℕ → ℕ → List Run
rest table grain = runs_from grain (drop grain table)

-- the free grains from `low` up to `grain` are too few, so the answer depends on the runs from `grain` on
pub record Scan (table : List ℕ) (need grain low most : ℕ) : Type 0 where
  pub begun : 0 < low
  pub ordered : low ≤ grain
  pub within : grain ≤ length table
  pub short : grain < low + need
  pub free : (i : ℕ) → low ≤ i → i < grain → get_or table i 0 ≡ 0
  pub ascending : IsAscending grain (length table) (rest table grain)
  pub lowest : lowest_fitting need (gaps low (length table) (rest table grain)) ≡ lowest_fitting need
      (gaps 1 (length table) (runs_in table))
  pub longest_is : max most (longest (gaps low (length table) (rest table grain))) ≡ longest (gaps 1 (length table) (runs_in table))

-- grain 0 begins no run
pub held_from_one : (table : List ℕ) → IsAscending 1 (length table) (runs_in table) → 0 < length table → runs_in table ≡ rest table 1
unfolding runs_in
held_from_one table ascending some = runs_later 1 table 0 1 (length table) ascending (omega arith) (omega arith)

pub scan_start : (table : List ℕ) (need : ℕ) → 0 < need → 0 < length table → IsAscending 1 (length table) (runs_in table)
    → Scan table need 1 1 0
scan_start table need some size ascending =
    let same = held_from_one table ascending size in
    let P : List Run → Type 0 = λ rs. IsAscending 1 (length table) rs in
    record {
      begun = omega arith;
      ordered = omega arith;
      within = omega arith;
      short = omega arith;
      free = λ i above below. absurd (omega arith);
      ascending = subst P same ascending;
      lowest = ap (λ (rs : List Run). lowest_fitting need (gaps 1 (length table) rs)) (sym same);
      longest_is = omega (arith, ap (λ (rs : List Run). longest (gaps 1 (length table) rs)) same);
    }

-- where no run begins at a grain
free_step : (table : List ℕ) (grain : ℕ) → IsAscending grain (length table) (rest table grain) → grain < length table
    → get_or table grain 0 ≡ 0
    → (rest table grain ≡ rest table (suc grain)) × IsAscending (suc grain) (length table) (rest table (suc grain))
free_step table grain ascending within none =
    let same : rest table grain ≡ rest table (suc grain) = runs_at_free table grain within none in
    let P : List Run → Type 0 = λ rs. IsAscending grain (length table) rs in (
      same,
      IsAscending-from_lower (suc grain) grain (suc grain) (length table) (drop (suc grain) table) (omega arith) (omega arith)
          (subst P same ascending),
    )

pub scan_free : (table : List ℕ) (need grain low most : ℕ) → Scan table need grain low most → grain < length table
    → get_or table grain 0 ≡ 0 → suc grain < low + need → Scan table need (suc grain) low most
scan_free table need grain low most scan within none short =
    let step = free_step table grain scan.ascending within none in
    record {
      begun = scan.begun;
      ordered = omega (arith, scan.ordered);
      within = omega arith;
      short = short;
      free = λ i above below. elim (cases_lt i grain) [
        | inl before ↦ scan.free i above before
        | inr here ↦ let same : i ≡ grain = omega arith in ap (λ (k : ℕ). get_or table k 0) same ∙ none
      ];
      ascending = step.1;
      lowest = ap (λ (rs : List Run). lowest_fitting need (gaps low (length table) rs)) (sym step.0) ∙ scan.lowest;
      longest_is = ap (λ (rs : List Run). max most (longest (gaps low (length table) rs))) (sym step.0) ∙ scan.longest_is;
    }

-- enough free grains from `low` on
pub scan_found : (table : List ℕ) (need grain low most : ℕ) → 0 < need → Scan table need grain low most → grain < length table
    → get_or table grain 0 ≡ 0 → low + need ≤ suc grain
    → (lowest_fitting need (gaps 1 (length table) (runs_in table)) ≡ Some low) × (get_or table low 0 ≡ 0)
scan_found table need grain low most some scan within none fits =
    let step = free_step table grain scan.ascending within none in
    let free : get_or table low 0 ≡ 0 =
    elim (cases_lt low grain) [
      | inl before ↦ scan.free low (omega arith) before
      | inr here ↦ let same : low ≡ grain = omega arith in ap (λ (k : ℕ). get_or table k 0) same ∙ none
    ]
    in (
      sym scan.lowest ∙ ap (λ (rs : List Run). lowest_fitting need (gaps low (length table) rs)) step.0
          ∙ lowest_gap_here need low (suc grain) (length table) (rest table (suc grain)) some fits step.1,
      free,
    )

-- the runs after a run
pub run_step : (table : List ℕ) (grain : ℕ) → IsAscending grain (length table) (rest table grain) → grain < length table
    → 0 < get_or table grain 0
    → (rest table grain ≡ record { from = grain; count = get_or table grain 0 } ∷ rest table (grain + get_or table grain 0))
    × IsAscending (grain + get_or table grain 0) (length table) (rest table (grain + get_or table grain 0))
run_step table grain ascending within some =
    let count = get_or table grain 0 in
    let first : Run = record { from = grain; count = count } in
    let here : rest table grain ≡ first ∷ rest table (suc grain) = runs_at_run table grain within some in
    let P : List Run → Type 0 = λ rs. IsAscending grain (length table) rs in
    let split = subst P here ascending in
    let bound = IsAscending-bounds (grain + count) (length table) (rest table (suc grain)) split.2 in
    let jump : suc grain + (count - 1) ≡ grain + count = omega arith in
    let later : rest table (suc grain) ≡ rest table (grain + count) =
    runs_later (count - 1) table (suc grain) (grain + count) (length table) split.2 (omega arith) bound
    ∙ ap (λ (g : ℕ). rest table g) jump
    in
    let Q : List Run → Type 0 = λ rs. IsAscending (grain + count) (length table) rs in
    (here ∙ ap (λ (rs : List Run). first ∷ rs) later, subst Q later split.2)

pub run_bound : (table : List ℕ) (grain : ℕ) → IsAscending grain (length table) (rest table grain) → grain < length table
    → 0 < get_or table grain 0 → grain + get_or table grain 0 ≤ length table
run_bound table grain ascending within some =
    IsAscending-bounds (grain + get_or table grain 0) (length table) (rest table (grain + get_or table grain 0))
    (run_step table grain ascending within some).1

pub scan_run : (table : List ℕ) (need grain low most : ℕ) → 0 < need → Scan table need grain low most → grain < length table
    → 0 < get_or table grain 0
    → Scan table need (grain + get_or table grain 0) (grain + get_or table grain 0) (max most (grain - low))
scan_run table need grain low most some scan within run =
    let count = get_or table grain 0 in
    let step = run_step table grain scan.ascending within run in
    let after = gaps (grain + count) (length table) (rest table (grain + count)) in
    record {
      begun = omega (arith, scan.begun);
      ordered = omega arith;
      within = IsAscending-bounds (grain + count) (length table) (rest table (grain + count)) step.1;
      short = omega arith;
      free = λ i above below. absurd (omega arith);
      ascending = step.1;
      lowest =
          sym (lowest_fitting_later need low grain after some (omega (arith, scan.short, scan.ordered)))
          ∙ ap (λ (rs : List Run). lowest_fitting need (gaps low (length table) rs)) (sym step.0) ∙ scan.lowest;
      longest_is =
          omega (
            arith,
            longest_front low grain after,
            scan.longest_is,
            ap (λ (rs : List Run). longest (gaps low (length table) rs))
                step.0,
          );
    }

pub scan_end : (table : List ℕ) (need grain low most : ℕ) → 0 < need → Scan table need grain low most → length table ≤ grain
    → (lowest_fitting need (gaps 1 (length table) (runs_in table)) ≡ None)
    × (longest (gaps 1 (length table) (runs_in table)) ≡ max most (grain - low))
scan_end table need grain low most some scan past =
    let same : grain ≡ length table = omega (arith, scan.within) in
    let none : rest table grain ≡ [] = ap (λ (cs : List ℕ). runs_from grain cs) (drop_all grain table past) ∙ runs_from-nil grain in (
      sym scan.lowest ∙ ap (λ (rs : List Run). lowest_fitting need (gaps low (length table) rs)) none
          ∙ last_gap_short need low (length table) some (omega (arith, scan.short, same)),
      omega (
        arith,
        scan.longest_is,
        ap (λ (rs : List Run). longest (gaps low (length table) rs)) none,
        longest_last low
            (length table),
        same,
      ),
    )

-- ---- a run taken, and given back

pub held_after_take : (table : List ℕ) (grain need : ℕ) → grain < length table → get_or table grain 0 ≡ 0 → 0 < need
    → runs_in (set table grain need) ≡ with_run (record { from = grain; count = need }) (runs_in table)
unfolding runs_in
held_after_take table grain need within none some =
    let same_grain : 0 + grain ≡ grain = omega arith in
    runs_from-set 0 table grain need within none some
    ∙ ap (λ (g : ℕ). with_run (record { from = g; count = need }) (runs_from 0 table)) same_grain

pub held_after_give : (table : List ℕ) (grain : ℕ) → grain < length table → 0 < get_or table grain 0
    → runs_in (set table grain 0) ≡ without_run grain (runs_in table)
unfolding runs_in
held_after_give table grain within some =
    let same_grain : 0 + grain ≡ grain = omega arith in
    runs_from-empty 0 table grain within some ∙ ap (λ (g : ℕ). without_run g (runs_from 0 table)) same_grain

pub entry_of : (table : List ℕ) (r : Run) → Contains (runs_in table) r
    → (r.from < length table) × (get_or table r.from 0 ≡ r.count) × (0 < r.count)
unfolding runs_in
entry_of table r there =
    let e = entry_of_run 0 table r there in
    let same_grain : r.from ≡ e.0 = omega (arith, e.2) in
    (omega (arith, e.1, same_grain), ap (λ (k : ℕ). get_or table k 0) same_grain ∙ e.3, e.4)

pub sound_after_take : (words table : List ℕ) (committed limit grain need : ℕ) → IsSoundArena words table committed limit → 0 < need
    → need ≤ limit - committed
    → lowest_fitting need (gaps 1 (length table) (runs_in table)) ≡ Some grain → get_or table grain 0 ≡ 0
    → IsSoundArena words (set table grain need) (committed + need) limit
sound_after_take words table committed limit grain need sound some room lowest none =
    let run : Run = record { from = grain; count = need } in
    let gap = in_lowest_gap 1 (length table) (runs_in table) need grain some sound.ascending lowest in
    let held = held_after_take table grain need (omega (arith, gap.below)) none some in
    let size = length-set table grain need in
    let P : List Run → Type 0 = λ rs. IsAscending 1 (length table) rs in
    let Q : ℕ → Type 0 = λ n. IsAscending 1 n (runs_in (set table grain need)) in
    record {
      nonempty = omega (arith, size, sound.nonempty);
      at_most = omega (arith, size, sound.at_most);
      size = omega (arith, size, sound.size);
      ascending = subst Q (sym size) (subst P (sym held) gap.ascending);
      counted = omega (arith, sound.counted, ap total held, total-with_run run (runs_in table));
      within_limit = omega (arith, sound.within_limit);
    }

pub sound_after_give : (words table : List ℕ) (committed limit : ℕ) (r : Run) → IsSoundArena words table committed limit
    → Contains (runs_in table) r → IsSoundArena words (set table r.from 0) (committed - r.count) limit
sound_after_give words table committed limit r sound there =
    let entry = entry_of table r there in
    let held = held_after_give table r.from entry.0 (omega (arith, entry.1, entry.2)) in
    let size = length-set table r.from 0 in
    let P : List Run → Type 0 = λ rs. IsAscending 1 (length table) rs in
    let Q : ℕ → Type 0 = λ n. IsAscending 1 n (runs_in (set table r.from 0)) in
    record {
      nonempty = omega (arith, size, sound.nonempty);
      at_most = omega (arith, size, sound.at_most);
      size = omega (arith, size, sound.size);
      ascending =
          subst Q (sym size) (subst P (sym held) (IsAscending-without_run 1 (length table) r.from (runs_in table) sound.ascending));
      counted = omega (arith, sound.counted, ap total held, total-without_run 1 (length table) (runs_in table) r sound.ascending there);
      within_limit = omega (arith, sound.within_limit);
    }

-- what a caller sees after a run was taken, and after one was given back
pub state_after_take : (words table : List ℕ) (limit grain need : ℕ) → grain < length table → get_or table grain 0 ≡ 0 → 0 < need
    → memory_of words (set table grain need) limit
    ≡ record (memory_of words table limit) { held = with_run (record { from = grain; count = need }) (runs_in table) }
state_after_take words table limit grain need within none some =
    ap (λ (n : ℕ). seen words limit n (runs_in (set table grain need))) (length-set table grain need)
    ∙ ap (λ (held : List Run). seen words limit (length table) held) (held_after_take table grain need within none some)
  where
    seen : List ℕ → ℕ → ℕ → List Run → ArenaMemory
    seen words limit n held = record { words = words; grains = n - 1; limit = limit; held = held }

pub state_after_give : (words table : List ℕ) (limit : ℕ) (r : Run) → Contains (runs_in table) r
    → memory_of words (set table r.from 0) limit ≡ record (memory_of words table limit) { held = without_run r.from (runs_in table) }
state_after_give words table limit r there =
    let entry = entry_of table r there in
    ap (λ (n : ℕ). seen words limit n (runs_in (set table r.from 0))) (length-set table r.from 0)
    ∙ ap (λ (held : List Run). seen words limit (length table) held)
    (held_after_give table r.from entry.0 (omega (arith, entry.1, entry.2)))
  where
    seen : List ℕ → ℕ → ℕ → List Run → ArenaMemory
    seen words limit n held = record { words = words; grains = n - 1; limit = limit; held = held }

-- where the limit allows it and a free run is long enough, the lowest is a new segment
pub placed_lowest : (grains limit : ℕ) (held : List Run) (need grain : ℕ) → total held + need ≤ limit
    → lowest_fitting need (gaps 1 (grains + 1) held) ≡ Some grain
    → run_placement grains limit held need ≡ NewSegment grain need
placed_lowest grains limit held need grain room lowest = rw (le-ltb limit (total held + need) room) (rw lowest refl)

pub held_after_placing : (table : List ℕ) (limit need grain : ℕ) → 0 < length table → total (runs_in table) + need ≤ limit
    → lowest_fitting need (gaps 1 (length table) (runs_in table)) ≡ Some grain
    → held_after (run_placement (length table - 1) limit (runs_in table) need) (runs_in table)
    ≡ with_run (record { from = grain; count = need }) (runs_in table)
held_after_placing table limit need grain some room lowest =
    let end : length table - 1 + 1 ≡ length table = omega arith in
    let here = ap (λ (n : ℕ). lowest_fitting need (gaps 1 n (runs_in table))) end ∙ lowest in
    ap (λ (p : Placement). held_after p (runs_in table)) (placed_lowest (length table - 1) limit (runs_in table) need grain room here)

-- ---- an arena before any run is taken

no_runs : (grain n : ℕ) → runs_from grain (replicate n 0) ≡ []
no_runs grain zero = runs_from-nil grain
no_runs grain (suc n) = runs_from-zero grain (replicate n 0) 0 refl ∙ no_runs (suc grain) n

pub none_held : (n : ℕ) → runs_in (replicate n 0) ≡ []
unfolding runs_in
none_held n = no_runs 0 n

pub new_is_sound : (grains limit : ℕ) → 0 < grains → grains ≤ max_grains
    → IsSoundArena (replicate (words_of_grain * (grains + 1)) 0) (replicate (grains + 1) 0) 0 limit
new_is_sound grains limit some few =
    let runs = length-replicate {A = ℕ} (grains + 1) 0 in
    let words = length-replicate {A = ℕ} (words_of_grain * (grains + 1)) 0 in
    let none = none_held (grains + 1) in
    let P : List Run → Type 0 = λ rs. IsAscending 1 (length (replicate {A = ℕ} (grains + 1) 0)) rs in
    record {
      nonempty = omega (arith, runs);
      at_most = omega (arith, runs);
      size = omega (arith, runs, words);
      ascending = subst P (sym none) (omega (arith, runs));
      counted = omega (arith, ap total none);
      within_limit = omega arith;
    }

pub new_state : (grains limit : ℕ)
    → memory_of (replicate (words_of_grain * (grains + 1)) 0) (replicate (grains + 1) 0) limit ≡ new_arena grains limit
new_state grains limit =
    let size : length (replicate {A = ℕ} (grains + 1) 0) - 1 ≡ grains = omega (arith, length-replicate {A = ℕ} (grains + 1) 0) in
    ap (λ (n : ℕ). record (new_arena grains limit) { grains = n; held = runs_in (replicate (grains + 1) 0) }) size
    ∙ ap (λ (held : List Run). record (new_arena grains limit) { held = held }) (none_held (grains + 1))

-- ---- the place that a search found

-- the lowest free run of grains that is long enough begins at `grain`, and lies within the table
pub record IsFreePlace (runs : List ℕ) (need grain : ℕ) : Type 0 where
  pub lowest : lowest_fitting need (gaps 1 (length runs) (runs_in runs)) ≡ Some grain
  pub free : get_or runs grain 0 ≡ 0
  pub below : grain + need ≤ length runs

-- what was found in the words that the search was given is true of the table that they are
pub place_found : (searched runs : List ℕ) (need grain : ℕ) → searched ≡ runs → 0 < need → IsAscending 1 (length runs) (runs_in runs)
    → lowest_fitting need (gaps 1 (length searched) (runs_in searched)) ≡ Some grain → get_or searched grain 0 ≡ 0
    → IsFreePlace runs need grain
place_found searched runs need grain same some ascending is none =
    let P : List ℕ → Type 0 = λ t. lowest_fitting need (gaps 1 (length t) (runs_in t)) ≡ Some grain in
    let lowest = subst P same is in
    let Q : List ℕ → Type 0 = λ t. get_or t grain 0 ≡ 0 in
    record {
      lowest = lowest;
      free = subst Q same none;
      below = (in_lowest_gap 1 (length runs) (runs_in runs) need grain some ascending lowest).below;
    }
