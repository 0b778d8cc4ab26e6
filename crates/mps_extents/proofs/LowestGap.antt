-- The lowest gap that fits among extents is the lowest run of clear bits.
use Rattle.std.proofs.Common.{ℕ, ◌+◌, ◌<◌, ◌≡◌, Bool, true, false, List, [], ◌∷◌, length, set, refl, sym, ap, ◌∙◌, subst, inl, inr, arith, ◌≤◌, ◌⊎◌, cond, leb, ltb, ◌&&◌, Option, Some, None, ◌-◌, IfSome, Contains}
use Rattle.std.proofs.lemmas.Bool.{cases_lt, both_ways, false_from_ne_true, cond-true, cond-false, le-leb, lt-ltb, lt-leb, le-ltb, and_from, and_left, and_right}
use Rattle.mps_base.proofs.Runs.{contains_cases, contains_first, contains_later, contained_bounds, lowest_fitting_here, lowest_fitting_later, lowest_gap_here, last_gap_short}
use Rattle.mps_base.specs.Run.{Run, IsAscending, end_of, runs_within, gaps, lowest_fitting}
use Rattle.mps_bits.proofs.Ranges.{clear_run_from, clear_run_at}
use Rattle.mps_bits.proofs.Searches.{lowest_from_is, lowest_from_none}
use Rattle.mps_bits.specs.Table.{bit, is_clear_run, lowest_clear_run}
use Rattle.mps_extents.specs.Extents.{is_covered, has_word, AreWhole}
use Rattle.mps_extents.specs.Inside.{extents, AreSoundTables}
use Rattle.mps_extents.proofs.ApartRuns.{has_word-true, has_word-below, has_word-above, covered_first, covered_later, uncovered_below}

runs_within_here : (low high : ℕ) (r : Run) (rs : List Run) → low ≤ r.from → r.from < high
    → runs_within low high (r ∷ rs) ≡ r ∷ runs_within low high rs
runs_within_here low high r rs above below =
    cond-true (leb low r.from && ltb r.from high) (r ∷ runs_within low high rs) (runs_within low high rs)
    (and_from (leb low r.from) (ltb r.from high) (le-leb low r.from above) (lt-ltb r.from high below))

runs_within_later : (low high : ℕ) (r : Run) (rs : List Run) → (r.from < low) ⊎ (high ≤ r.from)
    → runs_within low high (r ∷ rs) ≡ runs_within low high rs
runs_within_later low high r rs (inl below) =
    cond-false (leb low r.from && ltb r.from high) (r ∷ runs_within low high rs) (runs_within low high rs)
    (and_left (leb low r.from) (ltb r.from high) (lt-leb low r.from below))
runs_within_later low high r rs (inr above) =
    cond-false (leb low r.from && ltb r.from high) (r ∷ runs_within low high rs) (runs_within low high rs)
    (and_right (leb low r.from) (ltb r.from high) (le-ltb r.from high above))

-- a run that begins within is one of the runs
pub contains_within : (low high : ℕ) (rs : List Run) (t : Run) → Contains (runs_within low high rs) t → Contains rs t
contains_within low high [] t there = there
contains_within low high (r ∷ rs) t there =
    let P : List Run → Type 0 = λ xs. Contains xs t in
    let later = λ (out : (r.from < low) ⊎ (high ≤ r.from)).
    let all : Contains (r ∷ rs) t =
    contains_later rs t r (contains_within low high rs t (subst P (runs_within_later low high r rs out) there)) in all
    in
    elim (cases_lt r.from low) [
      | inl before ↦ later (inl before)
      | inr begun ↦ elim (cases_lt r.from high) [
        | inl under ↦
            elim (contains_cases (runs_within low high rs) t r (subst P (runs_within_here low high r rs begun under) there)) [
              | inl same ↦ subst (λ (x : Run). Contains (r ∷ rs) x) same (contains_first rs r)
              | inr rest ↦ contains_later rs t r (contains_within low high rs t rest)
            ]
        | inr past ↦ later (inr past)
      ]
    ]

pub runs_within_ascending : (a end low high b : ℕ) (rs : List Run) → IsAscending a end rs → AreWhole low high rs → low ≤ b → b ≤ high
    → (b ≤ a) ⊎ (b ≡ low) → IsAscending b high (runs_within low high rs)
runs_within_ascending a end low high b [] ascending whole above below from = below
runs_within_ascending a end low high b (r ∷ rs) ascending whole above below from =
    let P : List Run → Type 0 = λ xs. IsAscending b high xs in
    let skip = λ (out : (r.from < low) ⊎ (high ≤ r.from)).
    let rest : IsAscending b high (runs_within low high rs) =
    runs_within_ascending (end_of r) end low high b rs ascending.2 whole.1 above below
    (elim from [ inl under ↦ inl (omega (arith, ascending.0)) | inr same ↦ inr same ])
    in
    let all : IsAscending b high (runs_within low high (r ∷ rs)) = subst P (sym (runs_within_later low high r rs out)) rest in all
    in
    elim (cases_lt r.from low) [
      | inl before ↦ skip (inl before)
      | inr begun ↦ elim (cases_lt r.from high) [
        | inl under ↦
            let first : b ≤ r.from = elim from [ inl lower ↦ omega (arith, ascending.0) | inr same ↦ omega arith ] in
            let fits : end_of r ≤ high = whole.0.0 begun under in
            subst P (sym (runs_within_here low high r rs begun under)) (
              first,
              ascending.1,
              runs_within_ascending (end_of r) end low high (end_of r) rs ascending.2 whole.1 (omega arith) fits
                  (inl (omega arith)),
            )
        | inr past ↦ skip (inr past)
      ]
    ]

pub covered_within : (low high word : ℕ) (rs : List Run) → AreWhole low high rs → low ≤ word → word < high
    → is_covered rs word ≡ is_covered (runs_within low high rs) word
covered_within low high word [] whole above below = refl
covered_within low high word (r ∷ rs) whole above below =
    let rest = covered_within low high word rs whole.1 above below in
    elim (cases_lt r.from low) [
      | inl before ↦
          covered_later r rs word (has_word-above r word (omega (arith, whole.0.1 before))) ∙ rest
          ∙ ap (λ (xs : List Run). is_covered xs word) (sym (runs_within_later low high r rs (inl before)))
      | inr begun ↦ elim (cases_lt r.from high) [
        | inl under ↦
            ap (λ (b : Bool). cond (has_word r word) true b) rest
            ∙ ap (λ (xs : List Run). is_covered xs word) (sym (runs_within_here low high r rs begun under))
        | inr past ↦
            covered_later r rs word (has_word-below r word (omega arith)) ∙ rest
            ∙ ap (λ (xs : List Run). is_covered xs word) (sym (runs_within_later low high r rs (inr past)))
      ]
    ]

-- the lowest gap that fits, and the lowest run of clear bits, are both there or both missing
data GapFits (bits : List Bool) (low high n : ℕ) (o : Option ℕ) : Type 0 where
  fits_at : (start : ℕ) → o ≡ Some start → low ≤ start → start + n ≤ high → is_clear_run bits start n ≡ true
      → ((p : ℕ) → low ≤ p → p < start → is_clear_run bits p n ≡ false) → GapFits bits low high n o
  fits_not : o ≡ None → ((p : ℕ) → low ≤ p → p + n ≤ high → is_clear_run bits p n ≡ false) → GapFits bits low high n o

set_bit_in_run : (bits : List Bool) (p n word : ℕ) → bit bits word ≡ true → p ≤ word → word < p + n → is_clear_run bits p n ≡ false
set_bit_in_run bits p n word set above below =
    false_from_ne_true (is_clear_run bits p n) (λ clear. both_ways (bit bits word) (clear_run_at bits p n clear word above below) set)

gap_fits : (bits : List Bool) (low high n : ℕ) (rs : List Run) → 0 < n → IsAscending low high rs
    → ((word : ℕ) → low ≤ word → word < high → bit bits word ≡ is_covered rs word)
    → GapFits bits low high n (lowest_fitting n (gaps low high rs))
gap_fits bits low high n [] some ascending same =
    elim (cases_lt high (low + n)) [
      | inl short ↦ fits_not (last_gap_short n low high some (omega (arith, ascending))) (λ p above below. absurd (omega arith))
      | inr room ↦
          fits_at low (lowest_gap_here n low high high [] some room (omega arith)) (omega arith) room
          (clear_run_from bits low n (λ i above below. same i above (omega arith))) (λ p above below. absurd (omega arith))
    ]
gap_fits bits low high n (r ∷ rs) some ascending same =
    elim (cases_lt r.from (low + n)) [
      | inl short ↦
          let later = lowest_fitting_later n low r.from (gaps (end_of r) high rs) some (omega (arith, ascending.0)) in
          let bounds = contained_bounds low high (r ∷ rs) r ascending (contains_first rs r) in
          let set = λ (word : ℕ) (above : r.from ≤ word) (below : word < end_of r).
          let here : bit bits word ≡ true = same word (omega (arith, ascending.0)) (omega (arith, bounds.2))
          ∙ covered_first r rs word (has_word-true r word above below) in here
          in
          let lower = λ (p : ℕ) (above : low ≤ p) (below : p < end_of r).
          let here : is_clear_run bits p n ≡ false =
          elim (cases_lt p r.from) [
            | inl before ↦
                set_bit_in_run bits p n r.from (set r.from (omega arith) (omega (arith, ascending.1))) (omega arith) (omega arith)
            | inr inside ↦ set_bit_in_run bits p n p (set p inside below) (omega arith) (omega arith)
          ]
          in here
          in
          let rest = gap_fits bits (end_of r) high n rs some ascending.2
          (λ word above below. same word (omega (arith, ascending.0)) below ∙ covered_later r rs word (has_word-above r word above))
          in
          elim rest [
            | fits_at start is above below clear none ↦
                fits_at start (later ∙ is) (omega (arith, ascending.0)) below clear
                (λ p from under. elim (cases_lt p (end_of r)) [ inl early ↦ lower p from early | inr late ↦ none p late under ])
            | fits_not is none ↦
                fits_not (later ∙ is)
                (λ p from under. elim (cases_lt p (end_of r)) [ inl early ↦ lower p from early | inr late ↦ none p late under ])
          ]
      | inr room ↦
          let bounds = contained_bounds low high (r ∷ rs) r ascending (contains_first rs r) in
          let following : IsAscending r.from high (r ∷ rs) = (omega arith, ascending.1, ascending.2) in
          fits_at low (lowest_fitting_here n low r.from (gaps (end_of r) high rs) some room) (omega arith) (omega (arith, bounds.2))
          (clear_run_from bits low n
          (λ i above below. same i above (omega (arith, bounds.2)) ∙ uncovered_below r.from high (r ∷ rs) i following (omega arith)))
          (λ p above below. absurd (omega arith))
    ]

module _
    (covered begins ends blocks : List Bool) (low high n : ℕ) (sound : AreSoundTables covered begins ends blocks)
    (some : 0 < n) (ordered : low ≤ high) (whole : AreWhole low high (extents begins ends))
  where
    pub lowest_gap_is : lowest_clear_run covered low high n ≡ lowest_fitting n (gaps low high
        (runs_within low high (extents begins ends)))
    unfolding lowest_clear_run
    lowest_gap_is =
        let rs = runs_within low high (extents begins ends) in
        let ascending =
        runs_within_ascending 0 (length begins) low high low (extents begins ends) sound.ascending whole (omega arith) ordered (inr refl)
        in
        elim (gap_fits covered low high n rs some ascending
        (λ word above below. sound.covered_is word ∙ covered_within low high word (extents begins ends) whole above below)) [
          | fits_at start is above below clear none ↦
              lowest_from_is (λ p. is_clear_run covered p n) low (high + 1 - (low + n)) start
              (record { above = above; below = omega arith; passes = clear; lower = none }) ∙ sym is
          | fits_not is none ↦
              lowest_from_none (λ p. is_clear_run covered p n) low (high + 1 - (low + n)) (λ p above below. none p above (omega arith))
              ∙ sym is
        ]

    pub lowest_gap_below : (o : Option ℕ) → o ≡ lowest_clear_run covered low high n → IfSome o (λ at. at + n ≤ high)
    lowest_gap_below o is =
        let rs = runs_within low high (extents begins ends) in
        let ascending =
        runs_within_ascending 0 (length begins) low high low (extents begins ends) sound.ascending whole (omega arith) ordered (inr refl)
        in
        let all = is ∙ lowest_gap_is in
        let P : Option ℕ → Type 0 = λ x. IfSome x (λ at. at + n ≤ high) in
        elim (gap_fits covered low high n rs some ascending
        (λ word above below. sound.covered_is word ∙ covered_within low high word (extents begins ends) whole above below)) [
          | fits_at start found_at above below clear none ↦ subst P (sym (all ∙ found_at)) below
          | fits_not missing_at none ↦ subst P (sym (all ∙ missing_at)) tt
        ]
