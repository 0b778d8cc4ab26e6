-- How many references may be splatted yet, as objects are kept, scanned and freed.
use Rattle.std.proofs.Common.{◌≡◌, ℕ, suc, ◌+◌, ◌≤◌, Bool, true, false, refl, ap, List, [], ◌∷◌, Option, Some, None, inl, inr, arith}
use Rattle.std.proofs.lemmas.Bool.{false≢true}
use Rattle.std.proofs.lemmas.List.Sums.{sum_by-cons}
use Rattle.std.specs.Prelude.{is_some, slice_get, if◌then◌else◌}
use Rattle.std.specs.List.{sum_by}
use Rattle.std.specs.Option.{option_map_or}
use Rattle.mps_base.specs.Address.{Address, Id}
use Rattle.mps_model.specs.Graph.{Object, contains, entry_at}
use Rattle.mps_model.specs.World.{numbers_of}
use Rattle.mps_abstract.specs.Colours.{Colours, is_white, is_grey, is_to_scan, keeping, blackened}
use Rattle.mps_abstract.proofs.Keeping.{to_scan_before, to_scan_still, it_is_not_grey}
use Rattle.mps_abstract.proofs.Lists.{contains_cases}
use Rattle.mps_trace_laws.specs.Fix.Room.{splats_at, splats_left, weak_cells}

-- ---- sums over numbers

pub sum_by-no_more : (f g : ℕ → ℕ) (ns : List ℕ) → ((n : ℕ) → f n ≤ g n) → sum_by f ns ≤ sum_by g ns
sum_by-no_more f g [] most = omega arith
sum_by-no_more f g (n ∷ ns) most =
    omega (arith, sum_by-cons f n ns, sum_by-cons g n ns, most n, sum_by-no_more f g ns most)

-- where one number counts no more, the sum is less by what it counted
pub sum_by-less : (f g : ℕ → ℕ) (ns : List ℕ) (one : ℕ) → ((n : ℕ) → f n ≤ g n) → contains ns one ≡ true → f one ≡ 0
    → sum_by f ns + g one ≤ sum_by g ns
sum_by-less f g [] one most there none = absurd (false≢true there)
sum_by-less f g (n ∷ ns) one most there none = elim (contains_cases n ns one there) [
  | inl same ↦
      let here = ap f same in
      let before = ap g same in
      omega (arith, sum_by-cons f n ns, sum_by-cons g n ns, here, before, none, sum_by-no_more f g ns most)
  | inr later ↦ omega (arith, sum_by-cons f n ns, sum_by-cons g n ns, most n, sum_by-less f g ns one most later none)
]

-- where fewer objects are live, the sum is no more
pub sum_by-fewer : (f : ℕ → ℕ) (first : ℕ) (xs ys : List (Option Address))
    → ((n : ℕ) → is_some (entry_at xs n) ≡ true → is_some (entry_at ys n) ≡ true)
    → sum_by f (numbers_of is_some first xs) ≤ sum_by f (numbers_of is_some first ys)
sum_by-fewer f first [] ys sub = omega arith
sum_by-fewer f first (None ∷ xs) [] sub = sum_by-fewer f (first + 1) xs [] (λ n h. sub (suc n) h)
sum_by-fewer f first (Some x ∷ xs) [] sub = absurd (false≢true (sub 0 refl))
sum_by-fewer f first (None ∷ xs) (None ∷ ys) sub = sum_by-fewer f (first + 1) xs ys (λ n h. sub (suc n) h)
sum_by-fewer f first (None ∷ xs) (Some y ∷ ys) sub =
    let step = sum_by-cons f first (numbers_of is_some (first + 1) ys) in
    let rest = sum_by-fewer f (first + 1) xs ys (λ n h. sub (suc n) h) in
    omega (arith, step, rest)
sum_by-fewer f first (Some x ∷ xs) (None ∷ ys) sub = absurd (false≢true (sub 0 refl))
sum_by-fewer f first (Some x ∷ xs) (Some y ∷ ys) sub =
    let here = sum_by-cons f first (numbers_of is_some (first + 1) xs) in
    let there = sum_by-cons f first (numbers_of is_some (first + 1) ys) in
    let rest = sum_by-fewer f (first + 1) xs ys (λ n h. sub (suc n) h) in
    omega (arith, here, there, rest)

-- ---- references that may be splatted

-- what is counted of an object where a test passes
counted_less : (before after : Bool) (cells : ℕ) → (after ≡ true → before ≡ true)
    → (if after then cells else 0) ≤ (if before then cells else 0)
counted_less true true cells sub = omega arith
counted_less before false cells sub = omega arith
counted_less false true cells sub = absurd (false≢true (sub refl))

-- what is to be scanned after an object was kept was to be scanned
pub splats_kept : (objects : List Object) (condemned : List Id) (k : Colours) (t : Id) (live : List Id) → is_white condemned k t ≡ true
    → splats_left objects condemned (keeping k t) live ≤ splats_left objects condemned k live
splats_kept objects condemned k t live white =
    sum_by-no_more (splats_at objects condemned (keeping k t)) (splats_at objects condemned k) live (λ n.
    counted_less (is_to_scan condemned k n) (is_to_scan condemned (keeping k t) n) (option_map_or weak_cells (slice_get objects n) 0)
    (to_scan_before condemned k t white n))

scanned_less : (objects : List Object) (condemned : List Id) (k : Colours) (t n : Id)
    → splats_at objects condemned (blackened k t) n ≤ splats_at objects condemned k n
scanned_less objects condemned k t n =
    counted_less (is_to_scan condemned k n) (is_to_scan condemned (blackened k t) n) (option_map_or weak_cells (slice_get objects n) 0)
    (to_scan_still condemned k t n)

-- and after one was scanned
pub splats_scanned : (objects : List Object) (condemned : List Id) (k : Colours) (t : Id) (live : List Id)
    → splats_left objects condemned (blackened k t) live ≤ splats_left objects condemned k live
splats_scanned objects condemned k t live =
    sum_by-no_more (splats_at objects condemned (blackened k t)) (splats_at objects condemned k) live (scanned_less objects condemned k t)

-- the cells of a weak object that was scanned aren't splatted any more
pub splats_fewer : (objects : List Object) (condemned : List Id) (k : Colours) (t : Id) (o : Object) (live : List Id)
    → contains live t ≡ true → slice_get objects t ≡ Some o → is_white condemned k t ≡ false → is_grey k t ≡ true
    → splats_left objects condemned (blackened k t) live + weak_cells o ≤ splats_left objects condemned k live
splats_fewer objects condemned k t o live there object black grey =
    let less =
    sum_by-less (splats_at objects condemned (blackened k t)) (splats_at objects condemned k) live t (scanned_less objects condemned k t)
    there none
    in
    omega (arith, less, some)
  where
    none : splats_at objects condemned (blackened k t) t ≡ 0
    none = rw (black, it_is_not_grey condemned k t) refl

    some : splats_at objects condemned k t ≡ weak_cells o
    some = rw (black, grey, object) refl
