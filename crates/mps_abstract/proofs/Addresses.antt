-- Objects and their addresses: who lies where, which objects are live, and what a new segment leaves as it was.
use Rattle.std.proofs.Common.{◌≡◌, ◌∙◌, ℕ, zero, suc, ◌+◌, Bool, true, false, refl, sym, ap, List, [], ◌∷◌, Option, Some, None, subst, inl, inr, arith, add-zero}
use Rattle.std.proofs.lemmas.Bool.{false≢true, or_cases, eqb-true, eq-eqb}
use Rattle.std.proofs.lemmas.Option.{none-some}
use Rattle.std.specs.Prelude.{◌==◌, if◌then◌else◌, is_some, find, nat_lt}
use Rattle.std.specs.Option.{option_map_or}
use Rattle.mps_base.specs.Address.{Id, Address}
use Rattle.mps_base.specs.Segment.{Segment, with_segment}
use Rattle.mps_model.specs.Graph.{Object, contains, entry_at, is_automatic, object_at}
use Rattle.mps_model.specs.World.{World, address_of, is_at, is_live, numbers_of, first_id, id_at, live_ids, live_automatic_ids, object_is, is_copying_object, is_copying_pool, pool_of}
use Rattle.mps_model.specs.Accessing.{address_or_null}
use Rattle.mps_abstract.specs.Colours.{AreDifferent}
use Rattle.mps_abstract.proofs.Lists.{contains_here, contains_later, contains-filter, contains_filtered}

-- ---- the object at an address

is_at-same : (at : Address) (o : Option ℕ) → o ≡ Some at → is_at at o ≡ true
is_at-same at o e = rw e (eq-eqb at at refl)

is_at-true : (at : Address) (o : Option ℕ) → is_at at o ≡ true → o ≡ Some at
is_at-true at None h = absurd (false≢true h)
is_at-true at (Some n) h = ap Some (eqb-true n at h)

found_step : (at first : ℕ) (p : Option ℕ) (ps : List (Option ℕ)) (i : ℕ) (t : Bool) → is_at at p ≡ t
    → ((j : ℕ) → entry_at (p ∷ ps) j ≡ Some at → j ≡ suc i)
    → (((j : ℕ) → entry_at ps j ≡ Some at → j ≡ i) → first_id (numbers_of (is_at at) (first + 1) ps) ≡ Some (first + 1 + i))
    → first_id (if t then first ∷ numbers_of (is_at at) (first + 1) ps else numbers_of (is_at at) (first + 1) ps) ≡ Some (first + suc i)
found_step at first p ps i true t one next = absurd (let h = one zero (is_at-true at p t) in omega (arith, h))
found_step at first p ps i false t one next =
    next (λ j f. let h = one (suc j) f in omega (arith, h)) ∙ ap Some (let e : first + 1 + i ≡ first + suc i = omega arith in e)

found_at : (at first : ℕ) (addresses : List (Option ℕ)) (i : ℕ) → entry_at addresses i ≡ Some at
    → ((j : ℕ) → entry_at addresses j ≡ Some at → j ≡ i) → first_id (numbers_of (is_at at) first addresses) ≡ Some (first + i)
found_at at first [] i e one = absurd (none-some at e)
found_at at first (p ∷ ps) zero e one =
    ap (λ t. first_id (if t then first ∷ numbers_of (is_at at) (first + 1) ps else numbers_of (is_at at) (first + 1) ps))
    (is_at-same at p e)
    ∙ ap Some (sym (add-zero first))
found_at at first (p ∷ ps) (suc i) e one =
    found_step at first p ps i (is_at at p) refl one (λ none. found_at at (first + 1) ps i e none)

-- where no two objects have one address, the object at an object's address is this one
pub id_at-address : (w : World) (id : Id) (at : Address) → AreDifferent w.addresses → address_of w id ≡ Some at → id_at w at ≡ Some id
id_at-address w id at different e = found_at at 0 w.addresses id e (λ j f. different j id at f e) ∙ ap Some (omega arith)

pub address_of-live : (w : World) (id : Id) → is_live w id ≡ true → address_of w id ≡ Some (address_or_null w id)
address_of-live w id live = of_some (address_of w id) live
  where
    of_some : (o : Option ℕ) → is_some o ≡ true → o ≡ Some (option_map_or (λ at. at) o 0)
    of_some None h = absurd (false≢true h)
    of_some (Some at) h = refl

pub id_at-live : (w : World) (id : Id) → AreDifferent w.addresses → is_live w id ≡ true → id_at w (address_or_null w id) ≡ Some id
id_at-live w id different live = id_at-address w id (address_or_null w id) different (address_of-live w id live)

-- ---- the list of live objects

abbrev IsThere : List (Option ℕ) → (first n : ℕ) → Type 0
IsThere addresses first n = (m : ℕ) × ((n ≡ first + m) × (is_some (entry_at addresses m) ≡ true))

there_later : (p : Option ℕ) (addresses : List (Option ℕ)) (first n : ℕ) → IsThere addresses (first + 1) n
    → IsThere (p ∷ addresses) first n
there_later p addresses first n (m, (e, h)) = (suc m, (omega (arith, e), h))

numbers_are_there : (first n : ℕ) (addresses : List (Option ℕ)) → contains (numbers_of is_some first addresses) n ≡ true
    → IsThere addresses first n
numbers_are_there first n [] h = absurd (false≢true h)
numbers_are_there first n (None ∷ addresses) h = there_later None addresses first n (numbers_are_there (first + 1) n addresses h)
numbers_are_there first n (Some at ∷ addresses) h =
    elim (or_cases (first == n) (contains (numbers_of is_some (first + 1) addresses) n) h) [
      | inl same ↦ (0, (sym (eqb-true first n same) ∙ sym (add-zero first), refl))
      | inr rest ↦ there_later (Some at) addresses first n (numbers_are_there (first + 1) n addresses rest)
    ]

there_are_numbers : (first m : ℕ) (addresses : List (Option ℕ)) → is_some (entry_at addresses m) ≡ true
    → contains (numbers_of is_some first addresses) (first + m) ≡ true
there_are_numbers first m [] h = absurd (false≢true h)
there_are_numbers first zero (None ∷ addresses) h = absurd (false≢true h)
there_are_numbers first zero (Some at ∷ addresses) h =
    subst (λ (n : ℕ). contains (first ∷ numbers_of is_some (first + 1) addresses) n ≡ true) (sym (add-zero first))
    (contains_here first (numbers_of is_some (first + 1) addresses))
there_are_numbers first (suc m) (None ∷ addresses) h =
    subst (λ (n : ℕ). contains (numbers_of is_some (first + 1) addresses) n ≡ true)
    (let e : first + 1 + m ≡ first + suc m = omega arith in e) (there_are_numbers (first + 1) m addresses h)
there_are_numbers first (suc m) (Some at ∷ addresses) h =
    contains_later first (numbers_of is_some (first + 1) addresses) (first + suc m)
    (subst (λ (n : ℕ). contains (numbers_of is_some (first + 1) addresses) n ≡ true)
    (let e : first + 1 + m ≡ first + suc m = omega arith in e) (there_are_numbers (first + 1) m addresses h))

pub listed_is_live : (w : World) (id : Id) → contains (live_ids w) id ≡ true → is_live w id ≡ true
listed_is_live w id h = of_there (numbers_are_there 0 id w.addresses h)
  where
    of_there : IsThere w.addresses 0 id → is_live w id ≡ true
    of_there (m, (e, there)) =
        subst (λ (n : ℕ). is_some (entry_at w.addresses n) ≡ true) (let f : m ≡ id = omega (arith, e) in f) there

pub live_is_listed : (w : World) (id : Id) → is_live w id ≡ true → contains (live_ids w) id ≡ true
live_is_listed w id h =
    subst (λ (n : ℕ). contains (live_ids w) n ≡ true) (let e : 0 + id ≡ id = omega arith in e) (there_are_numbers 0 id w.addresses h)

pub automatic_is_live : (w : World) (id : Id) → contains (live_automatic_ids w) id ≡ true → is_live w id ≡ true
automatic_is_live w id h = listed_is_live w id (contains-filter (object_is is_automatic w) (live_ids w) id h).0

pub is_listed_automatic : (w : World) (id : Id) → is_live w id ≡ true → object_is is_automatic w id ≡ true
    → contains (live_automatic_ids w) id ≡ true
is_listed_automatic w id live automatic =
    contains_filtered (object_is is_automatic w) (live_ids w) id automatic (live_is_listed w id live)

same_numbers : (first : ℕ) (xs ys : List (Option ℕ)) → ((n : ℕ) → is_some (entry_at xs n) ≡ is_some (entry_at ys n))
    → numbers_of is_some first xs ≡ numbers_of is_some first ys
same_numbers first [] [] same = refl
same_numbers first [] (None ∷ ys) same = same_numbers (first + 1) [] ys (λ n. same (suc n))
same_numbers first [] (Some y ∷ ys) same = absurd (false≢true (same 0))
same_numbers first (None ∷ xs) [] same = same_numbers (first + 1) xs [] (λ n. same (suc n))
same_numbers first (Some x ∷ xs) [] same = absurd (false≢true (sym (same 0)))
same_numbers first (None ∷ xs) (None ∷ ys) same = same_numbers (first + 1) xs ys (λ n. same (suc n))
same_numbers first (None ∷ xs) (Some y ∷ ys) same = absurd (false≢true (same 0))
same_numbers first (Some x ∷ xs) (None ∷ ys) same = absurd (false≢true (sym (same 0)))
same_numbers first (Some x ∷ xs) (Some y ∷ ys) same = ap (λ ns. first ∷ ns) (same_numbers (first + 1) xs ys (λ n. same (suc n)))

-- where the same objects are live, they are listed alike
pub same_live_ids : (w v : World) → ((n : Id) → is_live v n ≡ is_live w n) → live_ids v ≡ live_ids w
same_live_ids w v same = same_numbers 0 v.addresses w.addresses same

-- ---- copying pools

copying_of : (w : World) (o : Option Object) → option_map_or (λ p. is_copying_pool w p.pool) o false ≡ true
    → is_copying_pool w (option_map_or (λ p. p.pool) o 0) ≡ true
copying_of w None h = absurd (false≢true h)
copying_of w (Some o) h = h

pub copying_pool_of : (w : World) (id : Id) → is_copying_object w id ≡ true → is_copying_pool w (pool_of w id) ≡ true
copying_pool_of w id h = copying_of w (object_at w.graph id) h

-- ---- one more segment

-- what isn't in the new one is found where it was
pub found_beside : (p : Segment → Bool) (s : Segment) (ss : List Segment) → p s ≡ false → find p (with_segment s ss) ≡ find p ss
found_beside p s [] h = ap (λ b. if b then Some s else None) h
found_beside p s (t ∷ ts) h =
    elim (nat_lt s.base t.base) as (λ b. find p (if b then s ∷ t ∷ ts else t ∷ with_segment s ts) ≡ find p (t ∷ ts)) [
      | true ↦ ap (λ b. if b then Some s else find p (t ∷ ts)) h
      | false ↦ ap (λ o. if p t then Some t else o) (found_beside p s ts h)
    ]
