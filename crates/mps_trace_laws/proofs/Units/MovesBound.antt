-- While a collection runs it has no more moves left than live objects and held segments may take, and no more units than there are live
-- objects, registrations and held segments.
use Rattle.std.proofs.Common.{◌≡◌, ◌∙◌, ◌⊎◌, ℕ, suc, ◌+◌, ◌≤◌, Bool, true, false, refl, ap, List, [], ◌∷◌, length, map, Option, Some, None, inl, inr, arith}
use Rattle.std.proofs.lemmas.Bool.{and_parts, eq-eqb, eqb-true, false≢true, or_cases, or_left}
use Rattle.std.proofs.lemmas.List.{length-map}
use Rattle.std.specs.Prelude.{IsTrue, cond, count_by, if◌then◌else◌, nat_le, nat_lt, ◌==◌}
use Rattle.mps_base.specs.Address.{Address, Id}
use Rattle.mps_base.specs.Segment.{Segment}
use Rattle.mps_model.specs.Graph.{contains, is_automatic, without_first}
use Rattle.mps_model.specs.Units.{is_ascending}
use Rattle.mps_model.specs.LegalMove.{ForOne}
use Rattle.mps_model.specs.World.{is_automatic_kind, is_copying_pool, live_ids, object_is, pool_is, segment_at}
use Rattle.mps_abstract.specs.Colours.{is_grey, is_to_scan, is_white}
use Rattle.mps_abstract.specs.Collecting.{Collecting, Running, segments_left, units_left}
use Rattle.mps_abstract.proofs.GivingBack.{contains-without_other}
use Rattle.mps_abstract.proofs.Keeping.{is_condemned_if_white}
use Rattle.mps_abstract.proofs.Lists.{contains_cases, contains_here, contains_later, count_by-cons}
use Rattle.mps_abstract.proofs.Sweeping.{contains-above}
use Rattle.mps_laws.proofs.Positions.Segments.{IsAmong, found_among}
use Rattle.mps_trace_laws.specs.Begin.MovesOfObjects.{moves_of}
use Rattle.mps_trace_laws.specs.Fix.Room.{moves_left}
use Rattle.mps_trace_laws.proofs.Begin.MovesAtFlip.{moves_of_live}

-- ---- ascending numbers

length-without : (xs : List ℕ) (n : ℕ) → contains xs n ≡ true → length xs ≡ suc (length (without_first xs n))
length-without [] n there = absurd (false≢true there)
length-without (x ∷ xs) n there = of_test (x == n) (elim (contains_cases x xs n there) [
  | inl same ↦ inl (eq-eqb x n same)
  | inr later ↦ inr (length-without xs n later)
])
  where
    of_test : (b : Bool) → (b ≡ true) ⊎ (length xs ≡ suc (length (without_first xs n)))
        → suc (length xs) ≡ suc (length (if b then xs else x ∷ without_first xs n))
    of_test true either = refl
    of_test false (inl is) = absurd (false≢true is)
    of_test false (inr fewer) = ap suc fewer

-- if a list contains them they are no more than it has
ascending_are_few : (low : ℕ) (ns xs : List ℕ) → is_ascending low ns ≡ true → ((n : ℕ) → contains ns n ≡ true → contains xs n ≡ true)
    → length ns ≤ length xs
ascending_are_few low [] xs up within = omega arith
ascending_are_few low (n ∷ ns) xs up within =
    let parts = and_parts (nat_lt low n) (is_ascending n ns) up in
    let fewer = length-without xs n (within n (contains_here n ns)) in
    let rest =
    ascending_are_few n ns (without_first xs n) parts.1
    (λ m h. contains-without_other xs n m (λ same. let above = contains-above n ns m parts.1 h in omega (arith, above, same))
    (within m (contains_later n ns m h)))
    in
    omega (arith, fewer, rest)

counted_within : (p : ℕ → Bool) (ns : List ℕ) → count_by p ns ≤ length ns
counted_within p [] = omega arith
counted_within p (n ∷ ns) =
    let first = count_by-cons p n ns in
    let rest = counted_within p ns in
    let one = at_most_one (p n) in
    omega (arith, first, rest, one)
  where
    at_most_one : (b : Bool) → cond b 1 0 ≤ 1
    at_most_one true = omega arith
    at_most_one false = omega arith

-- ---- segments

abbrev bases_of : List Segment → List Address
bases_of ss = map (λ (s : Segment). s.base) ss

base_among : (base : Address) (ss : List Segment) (t : Segment) → IsAmong t ss → t.base ≡ base → contains (bases_of ss) base ≡ true
base_among base [] t there is = absurd there
base_among base (s ∷ ss) t (inl same) is =
    or_left (s.base == base) (contains (bases_of ss) base) (eq-eqb s.base base (ap (λ (u : Segment). u.base) same ∙ is))
base_among base (s ∷ ss) t (inr later) is = contains_later s.base (bases_of ss) base (base_among base ss t later is)

module _ (y : Collecting) (run : Running y) where
  -- each condemned segment is held
  base_held : (base : Address) → contains y.running.condemned_segments base ≡ true → contains (bases_of y.world.segments) base ≡ true
  base_held base is = of_one (segment_at y.world base) refl (run.condemned.segments base is)
    where
      of_one : (o : Option Segment) → segment_at y.world base ≡ o → ForOne o (λ t. IsTrue (pool_is is_automatic_kind y.world t.pool))
          → contains (bases_of y.world.segments) base ≡ true
      of_one None e h = absurd h
      of_one (Some t) e h =
          let found = found_among (λ (u : Segment). u.base == base) y.world.segments t e in
          base_among base y.world.segments t found.0 (eqb-true t.base base found.1)

  segments_few : segments_left y.running.condemned_segments y.cursor ≤ length y.world.segments
  segments_few =
      let counted = counted_within (nat_le y.cursor) y.running.condemned_segments in
      let few = ascending_are_few 0 y.running.condemned_segments (bases_of y.world.segments) run.condemned.bases base_held in
      let long : length (bases_of y.world.segments) ≡ length y.world.segments = length-map y.world.segments (λ (s : Segment). s.base) in
      omega (arith, counted, few, long)

  pub units_are_bounded : units_left y ≤ length (live_ids y.world) + length y.world.graph.registered + length y.world.segments
  units_are_bounded =
      let objects = counted_within (is_to_scan y.running.condemned y.colours) (live_ids y.world) in
      let existing = run.examined.existing in
      let segments = segments_few in
      omega (arith, objects, existing, segments)

  -- what is to be scanned is automatic
  to_scan_automatic : (id : Id) → is_to_scan y.running.condemned y.colours id ≡ true → object_is is_automatic y.world id ≡ true
  to_scan_automatic id is = elim (or_cases (is_white y.running.condemned y.colours id) (is_grey y.colours id) is) [
    | inl white ↦ run.condemned.objects id (is_condemned_if_white y.running.condemned y.colours id white)
    | inr grey ↦ run.grey.grey_automatic id grey
  ]

  pub moves_are_bounded : moves_left y
      ≤ moves_of (is_copying_pool y.world) y.world.graph.objects y.world.addresses + length y.world.segments
  moves_are_bounded =
      let live =
      moves_of_live (is_copying_pool y.world) y.world.graph.objects y.world.addresses y.running.condemned y.colours to_scan_automatic
      in
      let segments = segments_few in
      omega (arith, live, segments)
