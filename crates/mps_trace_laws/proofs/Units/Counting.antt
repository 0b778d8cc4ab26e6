-- How many of some live objects are left once some of them are freed.
use Rattle.std.proofs.Common.{◌≡◌, ◌∙◌, ℕ, zero, suc, ◌+◌, ◌<◌, ◌≤◌, Bool, true, false, refl, sym, ap, subst, List, [], ◌∷◌, Option, Some, None, length, inl, inr, arith}
use Rattle.std.proofs.lemmas.Bool.{false≢true, true≢false, cases_Bool, and_parts, ne_eqb}
use Rattle.std.specs.Prelude.{is_some, count_by, cond, ◌||◌, nat_lt}
use Rattle.mps_base.specs.Address.{Address, Id}
use Rattle.mps_model.specs.Graph.{contains, entry_at}
use Rattle.mps_model.specs.Units.{is_ascending}
use Rattle.mps_model.specs.World.{numbers_of}
use Rattle.mps_abstract.proofs.Lists.{count_by-cons, contains_here, contains_later}
use Rattle.mps_abstract.proofs.Reclaimed.{count_by-fewer}
use Rattle.mps_abstract.proofs.Sweeping.{contains-above}
use Rattle.mps_trace_laws.specs.Reclaim.Freed.{addresses_without}
use Rattle.mps_trace_laws.proofs.Reclaim.Without.{without_none, without_more, left_was, still_left}

one_counts : (p : ℕ → Bool) (n : ℕ) → p n ≡ true → ◌≡◌ {A = ℕ} (cond (p n) 1 0) 1
one_counts p n h = ap (λ b. let c : ℕ = cond b 1 0 in c) h

-- where fewer objects are live, and one that passes a test isn't any more, fewer pass it
pub count_by-less : (p : ℕ → Bool) (first : ℕ) (xs ys : List (Option ℕ)) (k : ℕ)
    → ((n : ℕ) → is_some (entry_at xs n) ≡ true → is_some (entry_at ys n) ≡ true) → is_some (entry_at xs k) ≡ false
    → is_some (entry_at ys k) ≡ true → p (first + k) ≡ true
    → count_by p (numbers_of is_some first xs) < count_by p (numbers_of is_some first ys)
count_by-less p first xs [] k sub gone there is = absurd (false≢true there)
count_by-less p first xs (None ∷ ys) zero sub gone there is = absurd (false≢true there)
count_by-less p first [] (Some y ∷ ys) zero sub gone there is =
    let step = count_by-cons p first (numbers_of is_some (first + 1) ys) in
    let one = one_counts p first (subst (λ n. p n ≡ true) (omega arith) is) in
    omega (arith, step, one)
count_by-less p first (None ∷ xs) (Some y ∷ ys) zero sub gone there is =
    let step = count_by-cons p first (numbers_of is_some (first + 1) ys) in
    let one = one_counts p first (subst (λ n. p n ≡ true) (omega arith) is) in
    let rest = count_by-fewer p (first + 1) xs ys (λ n h. sub (suc n) h) in
    omega (arith, step, one, rest)
count_by-less p first (Some x ∷ xs) (Some y ∷ ys) zero sub gone there is = absurd (true≢false gone)
count_by-less p first [] (None ∷ ys) (suc k) sub gone there is =
    count_by-less p (first + 1) [] ys k (λ n h. absurd (false≢true h)) refl there (subst (λ n. p n ≡ true) (omega arith) is)
count_by-less p first [] (Some y ∷ ys) (suc k) sub gone there is =
    let step = count_by-cons p first (numbers_of is_some (first + 1) ys) in
    let rest =
    count_by-less p (first + 1) [] ys k (λ n h. absurd (false≢true h)) refl there (subst (λ n. p n ≡ true) (omega arith) is)
    in
    omega (arith, step, rest)
count_by-less p first (None ∷ xs) (None ∷ ys) (suc k) sub gone there is =
    count_by-less p (first + 1) xs ys k (λ n h. sub (suc n) h) gone there (subst (λ n. p n ≡ true) (omega arith) is)
count_by-less p first (None ∷ xs) (Some y ∷ ys) (suc k) sub gone there is =
    let step = count_by-cons p first (numbers_of is_some (first + 1) ys) in
    let rest = count_by-less p (first + 1) xs ys k (λ n h. sub (suc n) h) gone there (subst (λ n. p n ≡ true) (omega arith) is) in
    omega (arith, step, rest)
count_by-less p first (Some x ∷ xs) (None ∷ ys) (suc k) sub gone there is = absurd (false≢true (sub 0 refl))
count_by-less p first (Some x ∷ xs) (Some y ∷ ys) (suc k) sub gone there is =
    let here = count_by-cons p first (numbers_of is_some (first + 1) xs) in
    let step = count_by-cons p first (numbers_of is_some (first + 1) ys) in
    let rest = count_by-less p (first + 1) xs ys k (λ n h. sub (suc n) h) gone there (subst (λ n. p n ≡ true) (omega arith) is) in
    omega (arith, here, step, rest)

-- an object that passes a test lies at an address
pub record PassesAt (p : ℕ → Bool) (ps : List (Option Address)) (at : Address) : Type 0 where
  pub id : Id
  pub there : entry_at ps id ≡ Some at
  pub passes : p id ≡ true

some_there : (o : Option Address) → is_some o ≡ true → (at : Address) × (o ≡ Some at)
some_there None h = absurd (false≢true h)
some_there (Some at) h = (at, refl)

not_first : (a b : Address) → a < b → contains (a ∷ []) b ≡ false
not_first a b less = ap (λ t. t || false) (ne_eqb a b (λ e. omega (arith, less, e)))

first_is : (a : Address) → contains (a ∷ []) a ≡ true
first_is a = contains_here a []

-- each that is freed is one less
pub freed_less : (p : ℕ → Bool) (above : ℕ) (freed : List Address) (ps : List (Option Address)) → is_ascending above freed ≡ true
    → ((at : Address) → contains freed at ≡ true → PassesAt p ps at)
    → count_by p (numbers_of is_some 0 (addresses_without freed ps)) + length freed ≤ count_by p (numbers_of is_some 0 ps)
freed_less p above [] ps asc each =
    let same = ap (λ qs. count_by p (numbers_of is_some 0 qs)) (without_none ps) in omega (arith, same)
freed_less p above (a ∷ freed) ps asc each =
    let parts = and_parts (nat_lt above a) (is_ascending a freed) asc in
    let left = addresses_without (a ∷ []) ps in
    let one = each a (contains_here a freed) in
    let rest =
    freed_less p a freed left parts.1 (λ at h.
    let f = each at (contains_later a freed at h) in
    record {
      id = f.id;
      there = still_left (a ∷ []) ps f.id at f.there (not_first a at (contains-above a freed at parts.1 h));
      passes = f.passes;
    })
    in
    let same = ap (λ qs. count_by p (numbers_of is_some 0 qs)) (without_more a freed ps) in
    let less =
    count_by-less p 0 left ps one.id
    (λ n h. let s = some_there (entry_at left n) h in ap is_some (left_was (a ∷ []) ps n s.0 s.1).0)
    (elim (cases_Bool (is_some (entry_at left one.id))) [
      | inr none ↦ none
      | inl some ↦
          let s = some_there (entry_at left one.id) some in
          let was = left_was (a ∷ []) ps one.id s.0 s.1 in
          absurd (true≢false (sym (first_is a) ∙ ap (contains (a ∷ [])) (Rattle.std.proofs.lemmas.Option.same_Some a s.0
          (sym one.there ∙ was.0)) ∙ was.1))
    ])
    (ap is_some one.there) (subst (λ n. p n ≡ true) (omega arith) one.passes)
    in
    omega (arith, rest, same, less)
