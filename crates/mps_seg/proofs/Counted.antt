-- The table of counts has what each generation of each pool holds: this stays true where a segment is taken and given back.
use Rattle.std.proofs.Common.{ℕ, zero, suc, ◌+◌, ◌-◌, ◌<◌, ◌≤◌, ◌≡◌, ◌≢◌, ◌⊎◌, ◌&&◌, true, false, List, [], ◌∷◌, length, get_or, set, cond, eqb, ltb, map, replicate, refl, sym, ap, ◌∙◌, subst, inl, inr, arith, length-set}
use Rattle.std.proofs.lemmas.Bool.{true≢false, cases_Bool, cond-true, cond-false, and_from, and_parts, and_left, and_right, eqb-true, eqb-false, eq-eqb, ne_eqb, ltb-true}
use Rattle.std.proofs.lemmas.List.{get_or-set_same, get_or-set_other, length-replicate}
use Rattle.std.proofs.lemmas.List.Sums.{sum_by-cons}
use Rattle.std.specs.List.{filter, sum_by}
use Rattle.mps_base.specs.Address.{address_of_grain}
use Rattle.mps_base.specs.Run.{total}
use Rattle.mps_base.specs.Segment.{Segment, grains_of_segment}
use Rattle.mps_base.specs.declared.names.Rank.{Rank}
use Rattle.mps_base.proofs.Runs.{total-cons}
use Rattle.mps_gen.specs.State.{max_pools, max_generations}
use Rattle.mps_seg.specs.declared.entry.Entry.{Entry}
use Rattle.mps_seg.specs.declared.entry.Entry.TheVariants.{Free, First}
use Rattle.mps_seg.specs.Counting.{is_of, grains_held_by, counts_in_all, is_counted, index_for, counting_on, counting_off, IsCounted}
use Rattle.mps_seg.specs.Table.{segments_in, segments_of_entries}

-- the grains of one segment, if it is of a generation of a pool
abbrev pub grains_if : (pool generation : ℕ) → (grains of at : ℕ) → ℕ
grains_if pool generation grains of at = cond (eqb of pool && eqb at generation) grains 0

-- ---- the sum where a segment is inserted or removed

held-cons : (pool generation : ℕ) (s : Segment) (ss : List Segment)
    → grains_held_by pool generation (s ∷ ss) ≡ grains_if pool generation s.grains s.pool s.generation + grains_held_by pool generation ss
held-cons pool generation s ss =
    let p = is_of pool generation in
    let grains : Segment → ℕ = λ t. t.grains in
    elim (cases_Bool (p s)) [
      | inl holds ↦
          let first = ap (sum_by grains) (cond-true (p s) (s ∷ filter p ss) (filter p ss) holds) in
          omega (arith, first, sum_by-cons grains s (filter p ss), cond-true (p s) s.grains 0 holds)
      | inr fails ↦
          let none = ap (sum_by grains) (cond-false (p s) (s ∷ filter p ss) (filter p ss) fails) in
          omega (arith, none, cond-false (p s) s.grains 0 fails)
    ]

module _ (pool generation n p g : ℕ) (r : Rank) where
  more_held_from : (at : ℕ) (entries : List Entry) (i : ℕ) → i < length entries → get_or entries i Free ≡ Free
      → grains_held_by pool generation (segments_of_entries at (set entries i (First n p g r)))
      ≡ grains_if pool generation n p g + grains_held_by pool generation (segments_of_entries at entries)
  unfolding segments_of_entries
  more_held_from at [] i within free = absurd (omega arith)
  more_held_from at (First a b c d ∷ entries) zero within free = cc
  more_held_from at (Free ∷ entries) zero within free =
      held-cons pool generation (record { base = address_of_grain at; grains = n; pool = p; generation = g; rank = r })
      (segments_of_entries (suc at) entries)
  more_held_from at (Free ∷ entries) (suc i) within free = more_held_from (suc at) entries i (omega arith) free
  more_held_from at (First a b c d ∷ entries) (suc i) within free =
      let head : Segment = record { base = address_of_grain at; grains = a; pool = b; generation = c; rank = d } in
      omega (
        arith,
        held-cons pool generation head (segments_of_entries (suc at) (set entries i (First n p g r))),
        held-cons pool generation head (segments_of_entries (suc at) entries),
        more_held_from (suc at) entries i (omega arith) free,
      )

  fewer_held_from : (at : ℕ) (entries : List Entry) (i : ℕ) → get_or entries i Free ≡ First n p g r
      → grains_held_by pool generation (segments_of_entries at entries)
      ≡ grains_if pool generation n p g + grains_held_by pool generation (segments_of_entries at (set entries i Free))
  unfolding segments_of_entries
  fewer_held_from at [] i is = cc
  fewer_held_from at (Free ∷ entries) zero is = cc
  fewer_held_from at (First a b c d ∷ entries) zero is =
      let P : Entry → Type 0 = λ e.
      grains_held_by pool generation (segments_of_entries at (e ∷ entries))
      ≡ grains_if pool generation n p g + grains_held_by pool generation (segments_of_entries (suc at) entries)
      in
      subst P (sym is)
      (held-cons pool generation (record { base = address_of_grain at; grains = n; pool = p; generation = g; rank = r })
      (segments_of_entries (suc at) entries))
  fewer_held_from at (Free ∷ entries) (suc i) is = fewer_held_from (suc at) entries i is
  fewer_held_from at (First a b c d ∷ entries) (suc i) is =
      let head : Segment = record { base = address_of_grain at; grains = a; pool = b; generation = c; rank = d } in
      omega (
        arith,
        held-cons pool generation head (segments_of_entries (suc at) (set entries i Free)),
        held-cons pool generation head (segments_of_entries (suc at) entries),
        fewer_held_from (suc at) entries i is,
      )

-- no generation of a pool holds more than all do
held-le : (pool generation : ℕ) (ss : List Segment) → grains_held_by pool generation ss ≤ total (map grains_of_segment ss)
held-le pool generation [] = omega arith
held-le pool generation (s ∷ ss) =
    let own : grains_if pool generation s.grains s.pool s.generation ≤ s.grains =
    elim (cases_Bool (is_of pool generation s)) [
      | inl holds ↦ omega (arith, cond-true (is_of pool generation s) s.grains 0 holds)
      | inr fails ↦ omega (arith, cond-false (is_of pool generation s) s.grains 0 fails)
    ]
    in
    omega (
      arith,
      held-cons pool generation s ss,
      own,
      total-cons (grains_of_segment s) (map grains_of_segment ss),
      held-le pool generation ss,
    )

-- ---- the table where one number is written

counted_parts : (pool generation : ℕ) → is_counted pool generation ≡ true → (pool < max_pools) × (generation < max_generations)
counted_parts pool generation counted =
    let parts = and_parts (ltb pool max_pools) (ltb generation max_generations) counted in
    (ltb-true pool max_pools parts.0, ltb-true generation max_generations parts.1)

-- a number of the table is in it
counted_within : (pool generation : ℕ) → is_counted pool generation ≡ true → index_for pool generation < counts_in_all
counted_within pool generation counted =
    let parts = counted_parts pool generation counted in
    omega (arith, parts.0, parts.1)

-- each generation of each pool has a number of its own
index_is_own : (pool generation p g : ℕ) → is_counted pool generation ≡ true → is_counted p g ≡ true
    → (p ≢ pool) ⊎ (g ≢ generation) → index_for pool generation ≢ index_for p g
index_is_own pool generation p g counted counted' (inl other) same =
    let parts = counted_parts pool generation counted in
    let parts' = counted_parts p g counted' in
    other (omega (arith, same, parts.1, parts'.1))
index_is_own pool generation p g counted counted' (inr other) same =
    let parts = counted_parts pool generation counted in
    let parts' = counted_parts p g counted' in
    other (omega (arith, same, parts.1, parts'.1))

same_or_other : (pool generation p g : ℕ) → ((p ≡ pool) × (g ≡ generation)) ⊎ ((p ≢ pool) ⊎ (g ≢ generation))
same_or_other pool generation p g =
    elim (cases_Bool (eqb p pool)) [
      | inl pool_is ↦
          elim (cases_Bool (eqb g generation)) [
            | inl generation_is ↦ inl (eqb-true p pool pool_is, eqb-true g generation generation_is)
            | inr other ↦ inr (inr (eqb-false g generation other))
          ]
      | inr other ↦ inr (inl (eqb-false p pool other))
    ]

own_grains : (n p g : ℕ) → grains_if p g n p g ≡ n
own_grains n p g = cond-true (eqb p p && eqb g g) n 0 (and_from _ _ (eq-eqb p p refl) (eq-eqb g g refl))

no_grains : (pool generation n p g : ℕ) → (p ≢ pool) ⊎ (g ≢ generation) → grains_if pool generation n p g ≡ 0
no_grains pool generation n p g (inl other) =
    cond-false (eqb p pool && eqb g generation) n 0 (and_left _ _ (ne_eqb p pool other))
no_grains pool generation n p g (inr other) =
    cond-false (eqb p pool && eqb g generation) n 0 (and_right _ _ (ne_eqb g generation other))

module _ (counts : List ℕ) (ss then : List Segment) (p g v : ℕ) (counted : IsCounted counts ss)
    (value : is_counted p g ≡ true → v ≡ grains_held_by p g then)
    (others : (pool generation : ℕ) → (p ≢ pool) ⊎ (g ≢ generation)
    → grains_held_by pool generation then ≡ grains_held_by pool generation ss) where
  written_inside : is_counted p g ≡ true → IsCounted (set counts (index_for p g) v) then
  written_inside inside = record {
    size = length-set counts (index_for p g) v ∙ counted.size;
    each = λ pool generation there. elim (same_or_other pool generation p g) [
      | inl same ↦
          let at : index_for pool generation ≡ index_for p g = omega (arith, same.0, same.1) in
          ap (λ (i : ℕ). get_or (set counts (index_for p g) v) i 0) at
          ∙ get_or-set_same counts (index_for p g) v 0 (omega (arith, counted_within p g inside, counted.size))
          ∙ value inside
          ∙ ap (λ (k : ℕ). grains_held_by k g then) same.0
          ∙ ap (λ (k : ℕ). grains_held_by pool k then) same.1
      | inr other ↦
          get_or-set_other counts (index_for p g) (index_for pool generation) v 0
          (index_is_own pool generation p g there inside other)
          ∙ counted.each pool generation there
          ∙ sym (others pool generation other)
    ];
  }

  written_outside : is_counted p g ≡ false → IsCounted counts then
  written_outside outside = record {
    size = counted.size;
    each = λ pool generation there. elim (same_or_other pool generation p g) [
      | inl same ↦
          let P : ℕ → Type 0 = λ k. is_counted k generation ≡ true in
          let Q : ℕ → Type 0 = λ k. is_counted p k ≡ true in
          let inside : is_counted p g ≡ true = subst Q (sym same.1) (subst P (sym same.0) there) in
          absurd (true≢false (sym inside ∙ outside))
      | inr other ↦ counted.each pool generation there ∙ sym (others pool generation other)
    ];
  }

  written : IsCounted (cond (is_counted p g) (set counts (index_for p g) v) counts) then
  written =
      let P : List ℕ → Type 0 = λ ns. IsCounted ns then in
      elim (cases_Bool (is_counted p g)) [
        | inl inside ↦ subst P (sym (cond-true (is_counted p g) (set counts (index_for p g) v) counts inside)) (written_inside inside)
        | inr outside ↦ subst P (sym (cond-false (is_counted p g) (set counts (index_for p g) v) counts outside)) (written_outside outside)
      ]

-- ---- the two calls

module _ (counts : List ℕ) (table : List Entry) (counted : IsCounted counts (segments_in table)) where
  pub counted_after_take : (i n p g : ℕ) (r : Rank) → i < length table → get_or table i Free ≡ Free
      → IsCounted (counting_on p g n counts) (segments_in (set table i (First n p g r)))
  unfolding segments_in
  counted_after_take i n p g r within free =
      written counts (segments_in table) (segments_in (set table i (First n p g r))) p g (get_or counts (index_for p g) 0 + n) counted
      (λ inside. omega (arith, counted.each p g inside, more_held_from p g n p g r 0 table i within free, own_grains n p g))
      (λ pool generation other.
      omega (arith, more_held_from pool generation n p g r 0 table i within free, no_grains pool generation n p g other))

  pub counted_after_give : (i n p g : ℕ) (r : Rank) → get_or table i Free ≡ First n p g r
      → IsCounted (counting_off p g n counts) (segments_in (set table i Free))
  unfolding segments_in
  counted_after_give i n p g r is =
      written counts (segments_in table) (segments_in (set table i Free)) p g (get_or counts (index_for p g) 0 - n) counted
      (λ inside. omega (arith, counted.each p g inside, fewer_held_from p g n p g r 0 table i is, own_grains n p g))
      (λ pool generation other.
      omega (arith, fewer_held_from pool generation n p g r 0 table i is, no_grains pool generation n p g other))

  -- a segment that is given back is counted
  pub counted_enough : (i n p g : ℕ) (r : Rank) → get_or table i Free ≡ First n p g r → is_counted p g ≡ true
      → n ≤ get_or counts (index_for p g) 0
  unfolding segments_in
  counted_enough i n p g r is inside =
      omega (arith, counted.each p g inside, fewer_held_from p g n p g r 0 table i is, own_grains n p g)

  -- a number is at most that of all grains that are held
  pub counted-le : (p g : ℕ) → is_counted p g ≡ true → get_or counts (index_for p g) 0 ≤ total (map grains_of_segment (segments_in table))
  counted-le p g inside = omega (arith, counted.each p g inside, held-le p g (segments_in table))

nothing_at : (n i : ℕ) → get_or (replicate n zero) i zero ≡ zero
nothing_at zero i = refl
nothing_at (suc n) zero = refl
nothing_at (suc n) (suc i) = nothing_at n i

pub new_is_counted : IsCounted (replicate counts_in_all zero) []
new_is_counted = record {
  size = length-replicate counts_in_all zero;
  each = λ pool generation there. nothing_at counts_in_all (index_for pool generation);
}
