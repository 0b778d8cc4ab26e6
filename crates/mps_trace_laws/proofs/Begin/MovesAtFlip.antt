-- Right after a flip the moves that are left are at most those that live objects take.
use Rattle.std.proofs.Common.{◌≡◌, ℕ, suc, ◌+◌, ◌*◌, ◌≤◌, Bool, true, false, refl, ap, subst, List, [], ◌∷◌, Option, Some, None, inl, inr, arith}
use Rattle.std.proofs.lemmas.Bool.{false≢true, cases_Bool, or_cases, or_parts}
use Rattle.std.proofs.lemmas.List.Sums.{sum_by-cons}
use Rattle.std.specs.Prelude.{is_some, slice_get, count_by, cond, ◌&&◌, if◌then◌else◌}
use Rattle.std.specs.List.{sum_by}
use Rattle.std.specs.Option.{option_map_or}
use Rattle.mps_base.specs.Address.{Address, Id}
use Rattle.mps_model.specs.Effect.{Condemnation, condemned_by, lies_in_one}
use Rattle.mps_model.specs.Graph.{Object, contains, is_automatic}
use Rattle.mps_model.specs.World.{World, live_automatic_ids, live_ids, numbers_of, has_area_word, is_copying_object, is_copying_pool, object_is}
use Rattle.mps_abstract.specs.Collecting.{Collecting}
use Rattle.mps_abstract.specs.Colours.{Colours, is_white, is_grey, is_to_scan}
use Rattle.mps_abstract.specs.FlipLaws.{AreRemembered, collecting_after_flip}
use Rattle.mps_abstract.proofs.Keeping.{is_condemned_if_white}
use Rattle.mps_abstract.proofs.Lists.{contains-filter, contains_append, count_by-cons}
use Rattle.mps_trace_laws.specs.Begin.MovesOfObjects.{moves_of, moves_of_object}
use Rattle.mps_trace_laws.specs.Fix.Room.{moving_left, weak_cells, white_left, splats_at, splats_left}

-- ---- objects in a list

-- one where a test passes, two more where another does, and what is counted besides
abbrev counted_at : (p q : ℕ → Bool) → (ℕ → ℕ) → ℕ → ℕ
counted_at p q f n = cond (p n) 1 0 + 2 * cond (q n) 1 0 + f n

counted : (p q : ℕ → Bool) (f : ℕ → ℕ) (ns : List ℕ)
    → count_by p ns + 2 * count_by q ns + sum_by f ns ≡ sum_by (counted_at p q f) ns
counted p q f [] = refl
counted p q f (n ∷ ns) =
    let ones = count_by-cons p n ns in
    let twos = count_by-cons q n ns in
    let sums = sum_by-cons f n ns in
    let all = sum_by-cons (counted_at p q f) n ns in
    let rest = counted p q f ns in
    omega (arith, ones, twos, sums, all, rest)

-- what is counted of each object that is live is no more than its moves
moves_counted : (is_copying : ℕ → Bool) (f : ℕ → ℕ) (first : ℕ) (os : List Object) (addresses : List (Option Address))
    → ((i : ℕ) → f (first + i) ≤ option_map_or (moves_of_object is_copying) (slice_get os i) 0)
    → sum_by f (numbers_of is_some first addresses) ≤ moves_of is_copying os addresses
moves_counted m f first os [] each = omega arith
moves_counted m f first [] (None ∷ addresses) each = moves_counted m f (first + 1) [] addresses (λ i. later i (each (suc i)))
  where
    later : (i : ℕ) → f (first + suc i) ≤ 0 → f (first + 1 + i) ≤ 0
    later i e = subst (λ n. f n ≤ 0) (let same : first + suc i ≡ first + 1 + i = omega arith in same) e
moves_counted m f first (o ∷ os) (None ∷ addresses) each = moves_counted m f (first + 1) os addresses (λ i. later i (each (suc i)))
  where
    later : (i : ℕ) → f (first + suc i) ≤ option_map_or (moves_of_object m) (slice_get os i) 0
        → f (first + 1 + i) ≤ option_map_or (moves_of_object m) (slice_get os i) 0
    later i e =
        subst (λ n. f n ≤ option_map_or (moves_of_object m) (slice_get os i) 0)
        (let same : first + suc i ≡ first + 1 + i = omega arith in same) e
moves_counted m f first [] (Some at ∷ addresses) each =
    let none : f first ≤ 0 = subst (λ n. f n ≤ 0) (let same : first + 0 ≡ first = omega arith in same) (each 0) in
    let rest = moves_counted m f (first + 1) [] addresses (λ i. later i (each (suc i))) in
    let sums = sum_by-cons f first (numbers_of is_some (first + 1) addresses) in
    omega (arith, none, rest, sums)
  where
    later : (i : ℕ) → f (first + suc i) ≤ 0 → f (first + 1 + i) ≤ 0
    later i e = subst (λ n. f n ≤ 0) (let same : first + suc i ≡ first + 1 + i = omega arith in same) e
moves_counted m f first (o ∷ os) (Some at ∷ addresses) each =
    let one : f first ≤ moves_of_object m o =
    subst (λ n. f n ≤ moves_of_object m o) (let same : first + 0 ≡ first = omega arith in same) (each 0) in
    let rest = moves_counted m f (first + 1) os addresses (λ i. later i (each (suc i))) in
    let sums = sum_by-cons f first (numbers_of is_some (first + 1) addresses) in
    omega (arith, one, rest, sums)
  where
    later : (i : ℕ) → f (first + suc i) ≤ option_map_or (moves_of_object m) (slice_get os i) 0
        → f (first + 1 + i) ≤ option_map_or (moves_of_object m) (slice_get os i) 0
    later i e =
        subst (λ n. f n ≤ option_map_or (moves_of_object m) (slice_get os i) 0)
        (let same : first + suc i ≡ first + 1 + i = omega arith in same) e

-- ---- an object

-- an automatic one takes its moves whether it is white or not
of_object : (is_copying : ℕ → Bool) (white moves : Bool) (o : Object) → is_copying o.pool ≡ moves → is_automatic o ≡ true
    → cond white 1 0 + 2 * cond (white && moves) 1 0 + weak_cells o ≤ moves_of_object is_copying o
of_object is_copying true true o copies automatic = rw (automatic, copies) (omega arith)
of_object is_copying true false o copies automatic = rw (automatic, copies) (omega arith)
of_object is_copying false true o copies automatic = rw (automatic, copies) (omega arith)
of_object is_copying false false o copies automatic = rw (automatic, copies) (omega arith)

of_automatic : (is_copying : ℕ → Bool) (white : Bool) (o : Option Object) → option_map_or is_automatic o false ≡ true
    → cond white 1 0 + 2 * cond (white && option_map_or (λ (p : Object). is_copying p.pool) o false) 1 0 + option_map_or weak_cells o 0
    ≤ option_map_or (moves_of_object is_copying) o 0
of_automatic is_copying white None automatic = absurd (false≢true automatic)
of_automatic is_copying white (Some o) automatic = of_object is_copying white (is_copying o.pool) o refl automatic

-- whether a collection moves the object with an id, if it moves those of these pools
abbrev is_moved_in : (is_copying : ℕ → Bool) → List Object → Id → Bool
is_moved_in is_copying objects id = option_map_or (λ (o : Object). is_copying o.pool) (slice_get objects id) false

none_counted : (is_copying : ℕ → Bool) (objects : List Object) (condemned : List Id) (k : Colours) (id : Id)
    → is_to_scan condemned k id ≡ false
    → counted_at (is_white condemned k) (λ n. is_white condemned k n && is_moved_in is_copying objects n) (splats_at objects condemned k) id
    ≡ 0
none_counted is_copying objects condemned k id isnt =
    let parts = or_parts (is_white condemned k id) (is_grey k id) isnt in rw (isnt, parts.0) refl

some_counted : (objects : List Object) (condemned : List Id) (k : Colours) (id : Id) → is_to_scan condemned k id ≡ true
    → splats_at objects condemned k id ≡ option_map_or weak_cells (slice_get objects id) 0
some_counted objects condemned k id is = ap (λ b. if b then option_map_or weak_cells (slice_get objects id) 0 else 0) is

-- ---- any live objects of which those that are to be scanned are automatic

module _ (is_copying : ℕ → Bool) (objects : List Object) (addresses : List (Option Address)) (condemned : List Id) (k : Colours)
    (automatic : (id : Id) → is_to_scan condemned k id ≡ true → option_map_or is_automatic (slice_get objects id) false ≡ true) where
  abbrev count_at : Id → ℕ
  count_at = counted_at (is_white condemned k) (λ n. is_white condemned k n && is_moved_in is_copying objects n)
      (splats_at objects condemned k)

  each : (id : Id) → count_at id ≤ option_map_or (moves_of_object is_copying) (slice_get objects id) 0
  each id = elim (cases_Bool (is_to_scan condemned k id)) [
    | inl is ↦
        let cells = some_counted objects condemned k id is in
        let most = of_automatic is_copying (is_white condemned k id) (slice_get objects id) (automatic id is) in
        omega (arith, cells, most)
    | inr isnt ↦ let none = none_counted is_copying objects condemned k id isnt in omega (arith, none)
  ]

  pub moves_of_live : white_left condemned k (numbers_of is_some 0 addresses)
      + 2 * moving_left (is_moved_in is_copying objects) condemned k (numbers_of is_some 0 addresses)
      + splats_left objects condemned k (numbers_of is_some 0 addresses) ≤ moves_of is_copying objects addresses
  moves_of_live =
      let same =
      counted (is_white condemned k) (λ n. is_white condemned k n && is_moved_in is_copying objects n) (splats_at objects condemned k)
      (numbers_of is_some 0 addresses) in
      let most =
      moves_counted is_copying count_at 0 objects addresses
      (λ i. subst (λ n. count_at n ≤ option_map_or (moves_of_object is_copying) (slice_get objects i) 0)
      (let same : i ≡ 0 + i = omega arith in same) (each i)) in
      omega (arith, same, most)

-- ---- at the flip

module _ (w : World) (what : Condemnation) (others : List Id)
    (told : AreRemembered (collecting_after_flip w what others) others) where
  abbrev y : Collecting
  y = collecting_after_flip w what others

  condemned_automatic : (id : Id) → contains y.running.condemned id ≡ true → object_is is_automatic w id ≡ true
  condemned_automatic id there =
      let listed = contains-filter (lies_in_one y.world (condemned_by y.world what)) (live_automatic_ids w) id there in
      (contains-filter (object_is is_automatic w) (live_ids w) id listed.0).1

  -- what is to be scanned is condemned or remembered, and so automatic
  automatic : (id : Id) → is_to_scan y.running.condemned y.colours id ≡ true → object_is is_automatic w id ≡ true
  automatic id is = elim (or_cases (is_white y.running.condemned y.colours id) (is_grey y.colours id) is) [
    | inl white ↦ condemned_automatic id (is_condemned_if_white y.running.condemned y.colours id white)
    | inr grey ↦ elim (contains_append y.running.pinned others id grey) [
      | inl pinned ↦ condemned_automatic id (contains-filter (has_area_word y.world) y.running.condemned id pinned).0
      | inr listed ↦ told.automatic id listed
    ]
  ]

  pub moves_at_flip : white_left y.running.condemned y.colours (live_ids w)
      + 2 * moving_left (is_copying_object w) y.running.condemned y.colours (live_ids w)
      + splats_left w.graph.objects y.running.condemned y.colours (live_ids w)
      ≤ moves_of (is_copying_pool w) w.graph.objects w.addresses
  moves_at_flip =
      moves_of_live (is_copying_pool w) w.graph.objects w.addresses y.running.condemned y.colours automatic
