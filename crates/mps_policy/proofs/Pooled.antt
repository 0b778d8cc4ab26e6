-- What a generation of a chain holds is what that of each of its pools does together.
use Rattle.std.proofs.Common.{ℕ, zero, suc, ◌+◌, ◌≤◌, ◌≡◌, ◌≢◌, ◌&&◌, Bool, true, false, Option, None, List, [], ◌∷◌, length, slice_get, cond, eqb, ltb, map, refl, sym, ap, ◌∙◌, inl, inr, arith}
use Rattle.std.proofs.lemmas.Bool.{cases_Bool, cond-true, cond-false, and_left, and_right, eqb-true, eqb-false, ltb-true, ltb-false, lt-ltb, le-ltb}
use Rattle.std.proofs.lemmas.List.Sums.{sum_by-cons}
use Rattle.std.specs.List.{filter, sum_by}
use Rattle.std.specs.Option.{option_map_or, option_and_then}
use Rattle.mps_base.specs.Run.{total}
use Rattle.mps_base.specs.Segment.{Segment, grains_of_segment}
use Rattle.mps_gen.specs.State.{ChainsState, is_on_chain}
use Rattle.mps_seg.specs.Counting.{is_of, grains_held_by}
use Rattle.mps_policy.specs.Due.{is_of_generation, held_by_generation}

-- the grains of a segment that passes a test
abbrev pub grains_where : (Segment → Bool) → Segment → ℕ
grains_where p s = cond (p s) s.grains 0

-- the grains of the segments that pass one
abbrev pub all_grains_where : (Segment → Bool) → List Segment → ℕ
all_grains_where p ss = sum_by (λ (s : Segment). s.grains) (filter p ss)

where-cons : (p : Segment → Bool) (s : Segment) (ss : List Segment)
    → all_grains_where p (s ∷ ss) ≡ grains_where p s + all_grains_where p ss
where-cons p s ss =
    let grains : Segment → ℕ = λ t. t.grains in
    elim (cases_Bool (p s)) [
      | inl holds ↦
          let first = ap (sum_by grains) (cond-true (p s) (s ∷ filter p ss) (filter p ss) holds) in
          omega (arith, first, sum_by-cons grains s (filter p ss), cond-true (p s) s.grains 0 holds)
      | inr fails ↦
          let none = ap (sum_by grains) (cond-false (p s) (s ∷ filter p ss) (filter p ss) fails) in
          omega (arith, none, cond-false (p s) s.grains 0 fails)
    ]

-- where each segment passes one of two tests exactly if it passes a third, the sums add
sums_add : (p q both : Segment → Bool) → ((s : Segment) → grains_where both s ≡ grains_where p s + grains_where q s) → (ss : List Segment)
    → all_grains_where both ss ≡ all_grains_where p ss + all_grains_where q ss
sums_add p q both each [] = refl
sums_add p q both each (s ∷ ss) =
    omega (arith, where-cons p s ss, where-cons q s ss, where-cons both s ss, each s, sums_add p q both each ss)

same_sums : (p q : Segment → Bool) → ((s : Segment) → grains_where p s ≡ grains_where q s) → (ss : List Segment)
    → all_grains_where p ss ≡ all_grains_where q ss
same_sums p q each [] = refl
same_sums p q each (s ∷ ss) = omega (arith, where-cons p s ss, where-cons q s ss, each s, same_sums p q each ss)

no_sum : (p : Segment → Bool) → ((s : Segment) → grains_where p s ≡ 0) → (ss : List Segment) → all_grains_where p ss ≡ 0
no_sum p each [] = refl
no_sum p each (s ∷ ss) = omega (arith, where-cons p s ss, each s, no_sum p each ss)

where-le : (p : Segment → Bool) (s : Segment) → grains_where p s ≤ s.grains
where-le p s = elim (cases_Bool (p s)) [
  | inl holds ↦ omega (arith, cond-true (p s) s.grains 0 holds)
  | inr fails ↦ omega (arith, cond-false (p s) s.grains 0 fails)
]

-- no such sum is more than all grains
pub all_where-le : (p : Segment → Bool) (ss : List Segment) → all_grains_where p ss ≤ total (map grains_of_segment ss)
all_where-le p [] = omega arith
all_where-le p (s ∷ ss) =
    omega (
      arith,
      where-cons p s ss,
      where-le p s,
      sum_by-cons (λ r. r.count) (grains_of_segment s) (map grains_of_segment ss),
      all_where-le p ss,
    )

module _ (c : ChainsState) (chain generation : ℕ) where
  -- whether a segment is of the generation of the chain, and of one of its first n pools
  abbrev pub is_below : (n : ℕ) → Segment → Bool
  is_below n s = is_of_generation c chain generation s && ltb s.pool n

  -- what the generation holds of the first n pools
  abbrev pub held_below : (n : ℕ) → List Segment → ℕ
  held_below n ss = all_grains_where (is_below n) ss

  pub held_of_none : (ss : List Segment) → held_below 0 ss ≡ 0
  held_of_none ss =
      no_sum (is_below 0) (λ s. cond-false (is_below 0 s) s.grains 0 (and_right _ _ (le-ltb s.pool 0 (omega arith)))) ss

  -- the test of a segment of another pool
  below_other : (n : ℕ) (s : Segment) → s.pool ≢ n → grains_where (is_below (n + 1)) s ≡ grains_where (is_below n) s
  below_other n s other =
      elim (cases_Bool (ltb s.pool n)) [
        | inl below ↦
            ap (λ (b : Bool). cond (is_of_generation c chain generation s && b) s.grains 0)
            (lt-ltb s.pool (n + 1) (omega (arith, ltb-true _ _ below)) ∙ sym below)
        | inr above ↦
            ap (λ (b : Bool). cond (is_of_generation c chain generation s && b) s.grains 0)
            (le-ltb s.pool (n + 1) (omega (arith, ltb-false _ _ above, other)) ∙ sym above)
      ]

  one_pool_more : (n : ℕ) → is_on_chain c chain n ≡ true → (s : Segment)
      → grains_where (is_below (n + 1)) s ≡ grains_where (is_below n) s + grains_where (is_of n generation) s
  one_pool_more n on s =
      elim (cases_Bool (eqb s.pool n)) [
        | inl is ↦
            let pool = eqb-true s.pool n is in
            let there : is_on_chain c chain s.pool ≡ true = ap (λ (k : ℕ). is_on_chain c chain k) pool ∙ on in
            let now = lt-ltb s.pool (n + 1) (omega (arith, pool)) in
            let before = le-ltb s.pool n (omega (arith, pool)) in
            let none : grains_where (is_below n) s ≡ 0 = cond-false (is_below n s) s.grains 0 (and_right _ _ before) in
            let left : is_below (n + 1) s ≡ eqb s.generation generation =
            ap (λ (b : Bool). (is_on_chain c chain s.pool && eqb s.generation generation) && b) now
            ∙ ap (λ (b : Bool). (b && eqb s.generation generation) && true) there
            ∙ and-true (eqb s.generation generation)
            in
            let right : is_of n generation s ≡ eqb s.generation generation = ap (λ (b : Bool). b && eqb s.generation generation) is in
            let same = ap (λ (b : Bool). cond b s.grains 0) (left ∙ sym right) in
            omega (arith, none, same)
        | inr is ↦
            let other = eqb-false s.pool n is in
            let none : grains_where (is_of n generation) s ≡ 0 = cond-false (is_of n generation s) s.grains 0 (and_left _ _ is) in
            omega (arith, none, below_other n s other)
      ]
    where
      and-true : (b : Bool) → (b && true) ≡ b
      and-true true = refl
      and-true false = refl

  pub held_of_one_more : (n : ℕ) → is_on_chain c chain n ≡ true → (ss : List Segment)
      → held_below (n + 1) ss ≡ held_below n ss + grains_held_by n generation ss
  held_of_one_more n on ss = sums_add (is_below n) (is_of n generation) (is_below (n + 1)) (one_pool_more n on) ss

  pool_of_another_chain : (n : ℕ) → is_on_chain c chain n ≡ false → (s : Segment)
      → grains_where (is_below (n + 1)) s ≡ grains_where (is_below n) s
  pool_of_another_chain n off s =
      elim (cases_Bool (eqb s.pool n)) [
        | inl is ↦
            let pool = eqb-true s.pool n is in
            let away : is_on_chain c chain s.pool ≡ false = ap (λ (k : ℕ). is_on_chain c chain k) pool ∙ off in
            let none : (m : ℕ) → grains_where (is_below m) s ≡ 0 =
            λ m. cond-false (is_below m s) s.grains 0 (and_left _ _ (and_left _ _ away))
            in
            none (n + 1) ∙ sym (none n)
        | inr is ↦ below_other n s (eqb-false s.pool n is)
      ]

  pub held_of_another : (n : ℕ) → is_on_chain c chain n ≡ false → (ss : List Segment) → held_below (n + 1) ss ≡ held_below n ss
  held_of_another n off ss = same_sums (is_below (n + 1)) (is_below n) (pool_of_another_chain n off) ss

  -- no pool that isn't made is on a chain
  on_none : (pools : List (Option ℕ)) (n : ℕ) → length pools ≤ n → slice_get pools n ≡ None
  on_none [] n past = refl
  on_none (p ∷ pools) zero past = absurd (omega (arith, past))
  on_none (p ∷ pools) (suc n) past = on_none pools n (omega (arith, past))

  pub held_of_all : (ss : List Segment) → held_below (length c.of_pool) ss ≡ held_by_generation c ss chain generation
  held_of_all ss =
      same_sums (is_below (length c.of_pool)) (is_of_generation c chain generation) each ss
    where
      each : (s : Segment) → grains_where (is_below (length c.of_pool)) s ≡ grains_where (is_of_generation c chain generation) s
      each s = elim (cases_Bool (ltb s.pool (length c.of_pool))) [
        | inl below ↦
            ap (λ (b : Bool). cond (is_of_generation c chain generation s && b) s.grains 0) below
            ∙ ap (λ (b : Bool). cond b s.grains 0) (and-true (is_of_generation c chain generation s))
        | inr above ↦
            let away : is_on_chain c chain s.pool ≡ false =
            ap (λ (o : Option (Option ℕ)). option_map_or (λ on. eqb on chain) (option_and_then (λ on. on) o) false)
            (on_none c.of_pool s.pool (ltb-false _ _ above))
            in
            cond-false (is_below (length c.of_pool) s) s.grains 0 (and_left _ _ (and_left _ _ away))
            ∙ sym (cond-false (is_of_generation c chain generation s) s.grains 0 (and_left _ _ away))
      ]
        where
          and-true : (b : Bool) → (b && true) ≡ b
          and-true true = refl
          and-true false = refl
