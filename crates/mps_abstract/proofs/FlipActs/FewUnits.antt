-- After the act of a flip at most one unit is left for each object that it condemned or has still to scan, for each registration, and
-- for each condemned segment.
use Rattle.std.proofs.Common.{◌≡◌, ℕ, ◌+◌, ◌<◌, ◌≤◌, Bool, true, false, cond, ap, List, [], ◌∷◌, length, Option, Some, None, inl, inr, arith}
use Rattle.std.proofs.lemmas.Bool.{or_left, or_right, or_cases, cases_Bool, eqb-true}
use Rattle.std.proofs.lemmas.List.{length-map}
use Rattle.std.proofs.lemmas.List.Sums.{count_by-le-length}
use Rattle.std.specs.Prelude.{◌==◌, ◌||◌, is_some, count_by, nat_le}
use Rattle.mps_base.specs.Address.{Id, Address}
use Rattle.mps_base.specs.Segment.{Segment}
use Rattle.mps_base.specs.declared.moves.Move.{Move}
use Rattle.mps_model.specs.Graph.{contains}
use Rattle.mps_model.specs.World.{World, live_ids, numbers_of, has_area_word}
use Rattle.mps_model.specs.Effect.{Condemnation, condemned_by, condemned_zones, world_flipped}
use Rattle.mps_model.specs.Flip.{is_nothing}
use Rattle.mps_abstract.specs.Colours.{is_white, is_grey, is_to_scan}
use Rattle.mps_abstract.specs.Collecting.{Collecting, units_left}
use Rattle.mps_abstract.specs.FlipLaws.{AFlipLeavesFewUnits, IsAtRest, IsNumbered, collecting_after_flip, AreRemembered, FixesHeld}
use Rattle.mps_abstract.proofs.Lists.{contains_append, contains-filter, count_by-cons, count_by-le}
use Rattle.mps_abstract.proofs.Keeping.{is_condemned_if_white}
use Rattle.mps_abstract.proofs.FlipActs.Flipped.{same_condemned}
use Rattle.mps_abstract.proofs.FlipActs.FlipBegins.{all}

-- ---- how many of the numbers of a list are in another list

one_or : (p q : ℕ → Bool) (x : ℕ) → cond (p x || q x) 1 0 ≤ cond (p x) 1 0 + cond (q x) 1 0
one_or p q x = elim (cases_Bool (p x)) [
  | inl is ↦ rw is (omega arith)
  | inr isnt ↦ rw isnt (omega arith)
]

count_or : (p q : ℕ → Bool) (xs : List ℕ) → count_by (λ n. p n || q n) xs ≤ count_by p xs + count_by q xs
count_or p q [] = omega arith
count_or p q (x ∷ xs) =
    omega (arith, count_by-cons (λ n. p n || q n) x xs, count_by-cons p x xs, count_by-cons q x xs, one_or p q x, count_or p q xs)

one_same : (y n : ℕ) → (cond (y == n) 1 0 ≤ 1) × ((y < n) → cond (y == n) 1 0 ≤ 0)
one_same y n = elim (cases_Bool (y == n)) [
  | inl is ↦ (rw is (omega arith), λ lt. let e = eqb-true y n is in absurd (omega (arith, lt, e)))
  | inr isnt ↦ (rw isnt (omega arith), λ lt. rw isnt (omega arith))
]

none_below : (y first : ℕ) (xs : List (Option Address)) → y < first → count_by (λ n. y == n) (numbers_of is_some first xs) ≤ 0
none_below y first [] lt = omega arith
none_below y first (None ∷ xs) lt = none_below y (first + 1) xs (omega (arith, lt))
none_below y first (Some x ∷ xs) lt =
    let here = (one_same y first).1 lt in
    let rest = none_below y (first + 1) xs (omega (arith, lt)) in
    omega (arith, count_by-cons (λ n. y == n) first (numbers_of is_some (first + 1) xs), here, rest)

one_at_most : (y first : ℕ) (xs : List (Option Address)) → count_by (λ n. y == n) (numbers_of is_some first xs) ≤ 1
one_at_most y first [] = omega arith
one_at_most y first (None ∷ xs) = one_at_most y (first + 1) xs
one_at_most y first (Some x ∷ xs) = elim (cases_Bool (y == first)) [
  | inl is ↦
      let e = eqb-true y first is in
      let rest = none_below y (first + 1) xs (omega (arith, e)) in
      let here = (one_same y first).0 in
      omega (arith, count_by-cons (λ n. y == n) first (numbers_of is_some (first + 1) xs), here, rest)
  | inr isnt ↦
      let rest = one_at_most y (first + 1) xs in
      let here : cond (y == first) 1 0 ≤ 0 = rw isnt (omega arith) in
      omega (arith, count_by-cons (λ n. y == n) first (numbers_of is_some (first + 1) xs), here, rest)
]

none_contained : (xs : List ℕ) → count_by (contains []) xs ≤ 0
none_contained [] = omega arith
none_contained (x ∷ xs) = let rest = none_contained xs in omega (arith, count_by-cons (contains []) x xs, rest)

contained_at_most : (ys : List ℕ) (first : ℕ) (xs : List (Option Address))
    → count_by (contains ys) (numbers_of is_some first xs) ≤ length ys
contained_at_most [] first xs = none_contained (numbers_of is_some first xs)
contained_at_most (y ∷ ys) first xs =
    let both = count_or (λ n. y == n) (contains ys) (numbers_of is_some first xs) in
    let one = one_at_most y first xs in
    let rest = contained_at_most ys first xs in
    omega (arith, both, one, rest)

-- ---- after a flip

module _ (w : World) (what : Condemnation) (others : List Id) (ms : List Move) (y : Collecting) (rest : IsAtRest w)
    (numbered : IsNumbered what) (some : is_nothing (condemned_by w what) ≡ false)
    (remembered : AreRemembered (collecting_after_flip w what others) others)
    (fixed : FixesHeld w (collecting_after_flip w what others) ms y) where
  abbrev x : Collecting
  x = collecting_after_flip w what others

  is_one : (id : Id) → is_to_scan x.running.condemned x.colours id ≡ true
      → (contains x.running.condemned id || contains others id) ≡ true
  is_one id h = elim (or_cases (is_white x.running.condemned x.colours id) (is_grey x.colours id) h) [
    | inl white ↦ or_left (contains x.running.condemned id) (contains others id)
        (is_condemned_if_white x.running.condemned x.colours id white)
    | inr grey ↦ elim (contains_append x.running.pinned others id grey) [
      | inl pinned ↦ or_left (contains x.running.condemned id) (contains others id)
          (contains-filter (has_area_word x.world) x.running.condemned id pinned).0
      | inr other ↦ or_right (contains x.running.condemned id) (contains others id) other
    ]
  ]

  few_units : units_left y ≤ length x.running.condemned + length others + length w.graph.registered
      + length (condemned_by w what)
  few_units =
      let left = (all w what others ms y rest numbered some remembered fixed).left in
      let objects = count_by-le (is_to_scan x.running.condemned x.colours)
      (λ n. contains x.running.condemned n || contains others n) (live_ids w) is_one in
      let both = count_or (contains x.running.condemned) (contains others) (live_ids w) in
      let white = contained_at_most x.running.condemned 0 w.addresses in
      let grey = contained_at_most others 0 w.addresses in
      let segments = count_by-le-length (nat_le 0) x.running.condemned_segments in
      let same = length-map (condemned_by (world_flipped w (condemned_zones w what)) what) (λ (s : Segment). s.base) in
      let as_before = ap length (same_condemned w (condemned_zones w what) what) in
      omega (arith, left, objects, both, white, grey, segments, same, as_before)

pub few_are_left : AFlipLeavesFewUnits
few_are_left w what others ms y rest numbered some remembered fixed =
    few_units w what others ms y rest numbered some remembered fixed
