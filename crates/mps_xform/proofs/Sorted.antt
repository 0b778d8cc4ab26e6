-- Pairs in ascending order of their old addresses: how one is found, and that sorting changes none that is found.
use Rattle.std.proofs.Common.{ℕ, zero, suc, ◌≡◌, ◌≢◌, ◌⊎◌, ◌<◌, ◌≤◌, Bool, true, false, cond, ltb, Some, None, List, [], ◌∷◌, length, get_or, refl, sym, ap, ◌∙◌, inl, inr, arith, Ordering}
use Rattle.std.specs.Prelude.{nat_eq}
use Rattle.std.specs.List.Sorted.{IsNonDecreasingBy, IsPartitionPoint, IsPermutation, IsSortedByKey}
use Rattle.std.specs.Map.{lookup}
use Rattle.std.specs.Cmp.{IsTotalOrder}
use Rattle.std.specs.Ordering.{nat_cmp, is_lt, ordering_then}
use Rattle.std.proofs.lemmas.Bool.{cases_lt, ltb-true, ltb-false}
use Rattle.std.proofs.lemmas.Bool.Decides.{eqb_tells}
use Rattle.std.proofs.lemmas.Cmp.{nat_cmp_total, on_total, then_total}
use Rattle.std.proofs.lemmas.List.{get_or_default}
use Rattle.std.proofs.lemmas.List.MinMax.{ranks_by}
use Rattle.std.proofs.lemmas.List.Sorted.{Contains-permutation, IsPermutation-sym, sorted_far}
use Rattle.mps_xform.specs.declared.replacements.Ranked.{Ranked}
use Rattle.mps_xform.specs.Inside.{AreInZones, AreMarked, AreRanked, AreSoundReplacements, by_old}
use Rattle.mps_xform.specs.Marks.{words_of_marks}
use Rattle.mps_xform.specs.State.{max_pairs, pair_in}

-- ---- the first pair with an old address

module _ (old : ℕ) (d : Ranked) where
  -- the old address at an index
  abbrev old_at : List Ranked → ℕ → ℕ
  old_at rs k = (get_or rs k d).pair.old.0

  pub found : (rs : List Ranked) (i : ℕ) → i < length rs → old_at rs i ≡ old → ((k : ℕ) → k < i → old_at rs k ≢ old)
      → lookup (nat_eq old) (by_old rs) ≡ Some (get_or rs i d).pair
  found [] i within is others = absurd (omega (arith, within))
  found (r ∷ rs) zero within is others =
      elim (eqb_tells old r.pair.old.0) [
        | inl same ↦ ap (λ (b : Bool). cond b (Some r.pair) (lookup (nat_eq old) (by_old rs))) same.0
        | inr differs ↦ absurd (differs.1 (sym is))
      ]
  found (r ∷ rs) (suc i) within is others =
      elim (eqb_tells old r.pair.old.0) [
        | inl same ↦ absurd (others 0 (omega arith) (sym same.1))
        | inr differs ↦
            ap (λ (b : Bool). cond b (Some r.pair) (lookup (nat_eq old) (by_old rs))) differs.0
            ∙ found rs i (omega (arith, within)) is (λ k below. others (suc k) (omega (arith, below)))
      ]

  pub not_found : (rs : List Ranked) → ((k : ℕ) → k < length rs → old_at rs k ≢ old) → lookup (nat_eq old) (by_old rs) ≡ None
  not_found [] others = refl
  not_found (r ∷ rs) others =
      elim (eqb_tells old r.pair.old.0) [
        | inl same ↦ absurd (others 0 (omega arith) (sym same.1))
        | inr differs ↦
            ap (λ (b : Bool). cond b (Some r.pair) (lookup (nat_eq old) (by_old rs))) differs.0
            ∙ not_found rs (λ k below. others (suc k) (omega (arith, below)))
      ]

  -- the index of the first pair with this old address, if there is one
  record IsFirst (rs : List Ranked) (i : ℕ) : Type 0 where
    pub within : i < length rs
    pub is : old_at rs i ≡ old
    pub others : (k : ℕ) → k < i → old_at rs k ≢ old

  first : (rs : List Ranked) → ((i : ℕ) × IsFirst rs i) ⊎ ((k : ℕ) → k < length rs → old_at rs k ≢ old)
  first [] = inr (λ k below. absurd (omega (arith, below)))
  first (r ∷ rs) =
      elim (eqb_tells r.pair.old.0 old) [
        | inl same ↦ inl (0, record { within = omega arith; is = same.1; others = λ k below. absurd (omega (arith, below)) })
        | inr differs ↦
            elim (first rs) [
              | inl there ↦
                  inl (
                    suc there.0,
                    record {
                      within = omega (arith, there.1.within);
                      is = there.1.is;
                      others = after differs.1 there.0 there.1.others;
                    },
                  )
              | inr none ↦ inr (after differs.1 (length rs) none)
            ]
      ]
    where
      after : (r.pair.old.0 ≢ old) → (n : ℕ) → ((k : ℕ) → k < n → old_at rs k ≢ old) → (k : ℕ) → k < suc n → old_at (r ∷ rs) k ≢ old
      after other n others zero below = other
      after other n others (suc k) below = others k (omega (arith, below))

-- no pair
abbrev pub no_pair : Ranked
no_pair = record { pair = pair_in 0 0 0; rank = 0 }

-- the pair at the point up to which the old addresses are lower is the first with this one, or there is none
module _ (old point : ℕ) (rs : List Ranked)
    (parted : IsPartitionPoint (λ r. ltb r.pair.old.0 old ≡ true) (λ r. ltb r.pair.old.0 old ≡ false) rs point) where
  below : (k : ℕ) → k < point → old_at old no_pair rs k ≢ old
  below k within is = omega (arith, ltb-true (old_at old no_pair rs k) old (parted.0 k no_pair (omega arith) within), is)

  above : (k : ℕ) → point ≤ k → k < length rs → old ≤ old_at old no_pair rs k
  above k past within = ltb-false (old_at old no_pair rs k) old (parted.1 k no_pair past within)

  pub found_at_point : point < length rs → old_at old no_pair rs point ≡ old
      → lookup (nat_eq old) (by_old rs) ≡ Some (get_or rs point no_pair).pair
  found_at_point within is = found old no_pair rs point within is below

  pub not_found_at_point : IsNonDecreasingBy (λ r. r.pair.old.0) rs → point < length rs → old_at old no_pair rs point ≢ old
      → lookup (nat_eq old) (by_old rs) ≡ None
  not_found_at_point rising within other =
      not_found old no_pair rs
      (λ k inside is.
      elim (cases_lt k point) [
        | inl earlier ↦ below k earlier is
        | inr later ↦
            other (omega (arith, rising point k no_pair later inside, above point (omega arith) within, is))
      ])

  pub not_found_past_point : point ≡ length rs → lookup (nat_eq old) (by_old rs) ≡ None
  not_found_past_point end = not_found old no_pair rs (λ k within. below k (omega (arith, within, end)))

-- ---- sorting

-- by the old addresses, and those that are equal by the ranks
abbrev pub key_of : Ranked → ℕ × ℕ
key_of r = (r.pair.old.0, r.rank)

abbrev pub key_cmp : ℕ × ℕ → ℕ × ℕ → Ordering
key_cmp x y = ordering_then (nat_cmp x.0 y.0) (nat_cmp x.1 y.1)

key_order : IsTotalOrder key_cmp
key_order = then_total (on_total (λ (x : ℕ × ℕ). x.0) nat_cmp_total) (on_total (λ (x : ℕ × ℕ). x.1) nat_cmp_total)

not_above : (a b m n : ℕ) → is_lt (ordering_then (nat_cmp a b) (nat_cmp m n)) ≡ false → (b ≤ a) × (a ≡ b → n ≤ m)
not_above a b m n is = grind (arith, is)

module _ (rs : List Ranked) (sorted : IsSortedByKey key_of key_cmp rs) (d : Ranked) (i j : ℕ) (le : i ≤ j) (within : j < length rs) where
  pub in_order : ((get_or rs i d).pair.old.0 ≤ (get_or rs j d).pair.old.0)
      × ((get_or rs j d).pair.old.0 ≡ (get_or rs i d).pair.old.0 → (get_or rs i d).rank ≤ (get_or rs j d).rank)
  in_order =
      not_above (get_or rs j d).pair.old.0 (get_or rs i d).pair.old.0 (get_or rs j d).rank (get_or rs i d).rank
      (sorted_far (λ x y. is_lt (key_cmp (key_of x) (key_of y))) (ranks_by key_order key_of) rs sorted i j d le within)

pub ascending : (rs : List Ranked) → IsSortedByKey key_of key_cmp rs → IsNonDecreasingBy (λ r. r.pair.old.0) rs
ascending rs sorted i j d le within = (in_order rs sorted d i j le within).0

-- the pairs that are found are the same after sorting
module _ (rs sorted : List Ranked) (bound old : ℕ) (d : Ranked) (ranked : AreRanked rs bound) (moved : IsPermutation rs sorted)
    (is_sorted : IsSortedByKey key_of key_cmp sorted) where
  -- where an element of one list is in the other
  there : (k : ℕ) → k < length rs → (m : ℕ) × (m < length sorted) × (get_or sorted m d ≡ get_or rs k d)
  there k within =
      let x = get_or rs k d in
      let c = Contains-permutation rs sorted x moved (k, within, get_or_default rs k x d within) in
      (c.0, c.1, get_or_default sorted c.0 d x c.1 ∙ c.2)

  here : (k : ℕ) → k < length sorted → (m : ℕ) × (m < length rs) × (get_or rs m d ≡ get_or sorted k d)
  here k within =
      let x = get_or sorted k d in
      let c = Contains-permutation sorted rs x (IsPermutation-sym rs sorted moved) (k, within, get_or_default sorted k x d within) in
      (c.0, c.1, get_or_default rs c.0 d x c.1 ∙ c.2)

  same_first : (i j : ℕ) → IsFirst old d rs i → IsFirst old d sorted j → get_or sorted j d ≡ get_or rs i d
  same_first i j one other =
      let t = there i one.within in
      let h = here j other.within in
      let old_t : (get_or sorted t.0 d).pair.old.0 ≡ old = ap (λ (r : Ranked). r.pair.old.0) t.2 ∙ one.is in
      let old_h : (get_or rs h.0 d).pair.old.0 ≡ old = ap (λ (r : Ranked). r.pair.old.0) h.2 ∙ other.is in
      let rank_t : (get_or sorted t.0 d).rank ≡ (get_or rs i d).rank = ap (λ (r : Ranked). r.rank) t.2 in
      let rank_h : (get_or rs h.0 d).rank ≡ (get_or sorted j d).rank = ap (λ (r : Ranked). r.rank) h.2 in
      elim (cases_lt t.0 j) [
        | inl earlier ↦ absurd (other.others t.0 earlier old_t)
        | inr later ↦
            let le : (get_or sorted j d).rank ≤ (get_or sorted t.0 d).rank =
            (in_order sorted is_sorted d j t.0 later t.1).1 (old_t ∙ sym other.is) in
            elim (cases_lt h.0 i) [
              | inl before ↦ absurd (one.others h.0 before old_h)
              | inr not_before ↦
                  elim (cases_lt i h.0) [
                    | inl after ↦ absurd (omega (arith, le, rank_t, rank_h, ranked.ascend i h.0 d after h.1))
                    | inr not_after ↦
                        let same : h.0 ≡ i = omega (arith, not_before, not_after) in
                        sym h.2 ∙ ap (λ (k : ℕ). get_or rs k d) same
                  ]
            ]
      ]

  alike : lookup (nat_eq old) (by_old sorted) ≡ lookup (nat_eq old) (by_old rs)
  alike =
      elim (first old d rs) [
        | inl one ↦
            elim (first old d sorted) [
              | inl other ↦
                  found old d sorted other.0 other.1.within other.1.is other.1.others
                  ∙ ap (λ (r : Ranked). Some r.pair) (same_first one.0 other.0 one.1 other.1)
                  ∙ sym (found old d rs one.0 one.1.within one.1.is one.1.others)
              | inr none ↦
                  let t = there one.0 one.1.within in
                  absurd (none t.0 t.1 (ap (λ (r : Ranked). r.pair.old.0) t.2 ∙ one.1.is))
            ]
        | inr none ↦
            not_found old d sorted
            (λ k within is. let h = here k within in none h.0 h.1 (ap (λ (r : Ranked). r.pair.old.0) h.2 ∙ is))
            ∙ sym (not_found old d rs none)
      ]

pub found_alike : (rs sorted : List Ranked) (bound old : ℕ) → AreRanked rs bound → IsPermutation rs sorted
    → IsSortedByKey key_of key_cmp sorted → lookup (nat_eq old) (by_old sorted) ≡ lookup (nat_eq old) (by_old rs)
found_alike rs sorted bound old ranked moved is_sorted =
    alike rs sorted bound old no_pair ranked moved is_sorted

-- sorted pairs are sound
pub sorted_sound : (rs sorted : List Ranked) (bound capacity marks_capacity zones : ℕ) (marks : List ℕ) → AreRanked rs bound
    → IsPermutation rs sorted → IsSortedByKey key_of key_cmp sorted → max_pairs ≤ capacity → words_of_marks ≤ marks_capacity
    → AreMarked rs marks → AreInZones sorted zones → AreSoundReplacements sorted capacity marks marks_capacity zones
sorted_sound rs sorted bound capacity marks_capacity zones marks ranked moved is_sorted room marks_room marked zoned =
    record {
      room = room;
      ascending = ascending sorted is_sorted;
      marks_room = marks_room;
      marked = λ at unmarked. found_alike rs sorted bound at ranked moved is_sorted ∙ marked at unmarked;
      zoned = zoned;
    }
