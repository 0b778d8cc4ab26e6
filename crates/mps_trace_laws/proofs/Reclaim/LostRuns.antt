-- The runs of blocks that are lost between two words, one by one, and their addresses.
use Rattle.std.proofs.Common.{ℕ, ◌<◌, ◌≤◌, ◌≡◌, ◌∙◌, ◌⊎◌, true, false, List, [], ◌∷◌, Contains, refl, sym, ap, subst, inl, inr, arith}
use Rattle.std.proofs.lemmas.Bool.{cond-true, cond-false, false≢true, lt-ltb, and_from, cases_Bool}
use Rattle.std.specs.Prelude.{filter, nat_lt}
use Rattle.mps_base.specs.Address.{Address, address_of_word}
use Rattle.mps_base.specs.Run.{Run, end_of, IsAscending, runs_within}
use Rattle.mps_base.proofs.Runs.{contains_cases, contains_first, contains_later}
use Rattle.mps_seg.specs.Segs.{SegsState}
use Rattle.mps_amc.specs.Reclaiming.{is_lost}
use Rattle.mps_amc.proofs.Within.{within_here, within_later, sides}
use Rattle.mps_model.specs.Graph.{contains}
use Rattle.mps_model.specs.Units.{is_ascending}
use Rattle.mps_abstract.proofs.Lists as lists
use Rattle.mps_trace_laws.specs.Reclaim.Freed.{addresses_of}

pub contains_none : (r : Run) → Contains [] r → ⊥
contains_none r (k, within, is) = omega arith

-- a run that begins between two words, and whose block isn't kept
pub record IsLostRun (g : SegsState) (low high : ℕ) (r : Run) : Type 0 where
  pub from : low ≤ r.from
  pub below : r.from < high
  pub lost : is_lost g r ≡ true

-- those among some runs
abbrev pub lost_among : SegsState → (low high : ℕ) → List Run → List Run
lost_among g low high rs = filter (is_lost g) (runs_within low high rs)

module _ (g : SegsState) (low high : ℕ) where
  lost_here : (r : Run) (rs : List Run) → IsLostRun g low high r → lost_among g low high (r ∷ rs) ≡ r ∷ lost_among g low high rs
  lost_here r rs is =
      ap (λ (xs : List Run). filter (is_lost g) xs) (within_here low high r rs is.from is.below)
      ∙ cond-true (is_lost g r) (r ∷ lost_among g low high rs) (lost_among g low high rs) is.lost

  kept_here : (r : Run) (rs : List Run) → low ≤ r.from → r.from < high → is_lost g r ≡ false
      → lost_among g low high (r ∷ rs) ≡ lost_among g low high rs
  kept_here r rs from below kept =
      ap (λ (xs : List Run). filter (is_lost g) xs) (within_here low high r rs from below)
      ∙ cond-false (is_lost g r) (r ∷ lost_among g low high rs) (lost_among g low high rs) kept

  -- the first run is lost, or it isn't
  pub first_or_not : (r : Run) (rs : List Run)
      → (IsLostRun g low high r × (lost_among g low high (r ∷ rs) ≡ r ∷ lost_among g low high rs))
      ⊎ (lost_among g low high (r ∷ rs) ≡ lost_among g low high rs)
  first_or_not r rs =
      elim (sides low high r.from) [
        | inl (from, below) ↦ elim (cases_Bool (is_lost g r)) [
          | inl lost ↦
              let is : IsLostRun g low high r = record { from = from; below = below; lost = lost } in inl (is, lost_here r rs is)
          | inr kept ↦ inr (kept_here r rs from below kept)
        ]
        | inr out ↦ inr (ap (λ (xs : List Run). filter (is_lost g) xs) (within_later low high r rs out))
      ]

  -- ---- one by one

  pub lost_is : (rs : List Run) (r : Run) → Contains (lost_among g low high rs) r → Contains rs r × IsLostRun g low high r
  lost_is [] r there = absurd (contains_none r there)
  lost_is (q ∷ rs) r there =
      elim (first_or_not q rs) [
        | inl (is, first) ↦
            elim (contains_cases (lost_among g low high rs) r q (subst (λ xs. Contains xs r) first there)) [
              | inl same ↦
                  (subst (λ (x : Run). Contains (q ∷ rs) x) same (contains_first rs q), subst (IsLostRun g low high) same is)
              | inr later ↦ let rest = lost_is rs r later in (contains_later rs r q rest.0, rest.1)
            ]
        | inr later ↦
            let rest = lost_is rs r (subst (λ xs. Contains xs r) later there) in (contains_later rs r q rest.0, rest.1)
      ]

  pub is_lost_there : (rs : List Run) (r : Run) → Contains rs r → IsLostRun g low high r → Contains (lost_among g low high rs) r
  is_lost_there [] r there is = absurd (contains_none r there)
  is_lost_there (q ∷ rs) r there is =
      elim (contains_cases rs r q there) [
        | inl same ↦
            let is' : IsLostRun g low high q = subst (IsLostRun g low high) (sym same) is in
            subst (λ xs. Contains xs r) (sym (lost_here q rs is'))
            (subst (λ (x : Run). Contains (q ∷ lost_among g low high rs) x) same (contains_first (lost_among g low high rs) q))
        | inr later ↦
            let rest = is_lost_there rs r later is in
            elim (first_or_not q rs) [
              | inl (first, e) ↦ subst (λ xs. Contains xs r) (sym e) (contains_later (lost_among g low high rs) r q rest)
              | inr e ↦ subst (λ xs. Contains xs r) (sym e) rest
            ]
      ]

  -- ---- in order

  pub lost_ascend : (above a b : ℕ) (rs : List Run) → IsAscending a b rs → ((n : ℕ) → a ≤ n → low ≤ n → above < address_of_word n)
      → is_ascending above (addresses_of (lost_among g low high rs)) ≡ true
  lost_ascend above a b [] asc higher = refl
  lost_ascend above a b (r ∷ rs) asc higher =
      elim (first_or_not r rs) [
        | inl (is, first) ↦
            subst (λ xs. is_ascending above (addresses_of xs) ≡ true) (sym first)
            (and_from (nat_lt above (address_of_word r.from))
            (is_ascending (address_of_word r.from) (addresses_of (lost_among g low high rs)))
            (lt-ltb above (address_of_word r.from) (higher r.from asc.0 is.from))
            (lost_ascend (address_of_word r.from) (end_of r) b rs asc.2 (λ n past from. omega (arith, past, asc.1))))
        | inr later ↦
            subst (λ xs. is_ascending above (addresses_of xs) ≡ true) (sym later)
            (lost_ascend above (end_of r) b rs asc.2 (λ n past from. higher n (omega (arith, past, asc.0)) from))
      ]

-- ---- addresses

-- the run that begins at an address
pub record RunAt (rs : List Run) (at : Address) : Type 0 where
  pub run : Run
  pub there : Contains rs run
  pub begins : address_of_word run.from ≡ at

pub run_at : (rs : List Run) (at : Address) → contains (addresses_of rs) at ≡ true → RunAt rs at
run_at [] at h = absurd (false≢true h)
run_at (r ∷ rs) at h =
    elim (lists.contains_cases (address_of_word r.from) (addresses_of rs) at h) [
      | inl same ↦ record { run = r; there = contains_first rs r; begins = same }
      | inr later ↦
          let rest = run_at rs at later in
          record { run = rest.run; there = contains_later rs rest.run r rest.there; begins = rest.begins }
    ]

pub address_there : (rs : List Run) (r : Run) → Contains rs r → contains (addresses_of rs) (address_of_word r.from) ≡ true
address_there [] r there = absurd (contains_none r there)
address_there (q ∷ rs) r there =
    elim (contains_cases rs r q there) [
      | inl same ↦
          subst (λ (x : Run). contains (addresses_of (q ∷ rs)) (address_of_word x.from) ≡ true) same
          (lists.contains_here (address_of_word q.from) (addresses_of rs))
      | inr later ↦
          lists.contains_later (address_of_word q.from) (addresses_of rs) (address_of_word r.from) (address_there rs r later)
    ]
