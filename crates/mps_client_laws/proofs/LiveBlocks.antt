-- A segment that isn't empty has a live block, if no reservation lies in it.
use Rattle.std.proofs.Common.{◌≡◌, inl, inr, ℕ, ◌+◌, ◌*◌, ◌/◌, ◌<◌, ◌≤◌, Bool, true, false, refl, sym, ◌∙◌, ap, List, [], ◌∷◌, map, Option, Some, None, arith}
use Rattle.std.proofs.lemmas.Bool.{true≢false, false≢true, and_parts, and_from, cases_Bool, eqb-true, le-leb, lt-ltb, leb-true, ltb-true, or_cases, or_from, or_left, or_right}
use Rattle.std.proofs.lemmas.Option.{slice_get-map}
use Rattle.std.specs.Prelude.{not, ◌==◌, is_some, nat_le, nat_lt, option_map, slice_get}
use Rattle.std.specs.List.{AllByRecursion, list_any}
use Rattle.std.specs.Option.{option_map_or}
use Rattle.mps_base.specs.Address.{word_of}
use Rattle.mps_base.specs.Run.{in_order}
use Rattle.mps_base.specs.Segment.{Segment, end_of_segment, is_in_segment}
use Rattle.mps_model.specs.Graph.{Point, contains, entry_at}
use Rattle.mps_model.specs.World.{World, address_of, begins_in, covered, extent, is_empty_segment, is_live_and, live_ids}
use Rattle.mps_model.specs.Effect.{doomed}
use Rattle.mps_laws.proofs.Lookups.{opened}
use Rattle.mps_laws.proofs.Positions.ApartRuns.{all_in_order}
use Rattle.mps_laws.proofs.Positions.Condemning.{doomed_shapes, without_reserved}
use Rattle.mps_laws.proofs.Positions.Covered.{all_listed, covered-shapes, listed}
use Rattle.mps_laws.proofs.Positions.LaidOut.{is_at_hand}
use Rattle.mps_laws.proofs.Positions.LegalMoves.{HasLayout}
use Rattle.mps_laws.proofs.Positions.Occupancy.{Occupant, OfBlock, OfReservation, OfBuffer, OfTail, PointShape, Shape, occupancy_of, run_of, run_of_block, run_of_reservation, shape_of_point}
use Rattle.mps_laws.proofs.Positions.Segments.{IsAligned}
use Rattle.mps_laws.proofs.Sound.Referred.{live_is_among}
use Rattle.mps_client_laws.specs.Complete.{has_live_block}

pub any_contained : (test : ℕ → Bool) (ids : List ℕ) (id : ℕ) → contains ids id ≡ true → test id ≡ true → list_any test ids ≡ true
any_contained test [] id h passes = absurd (false≢true h)
any_contained test (n ∷ ns) id h passes = elim (or_cases (n == id) (contains ns id) h) [
  | inl same ↦ or_left (test n) (list_any test ns) (ap test (eqb-true n id same) ∙ passes)
  | inr later ↦ or_right (test n) (list_any test ns) (any_contained test ns id later passes)
]

none_passes : {X : Type 0} (test : X → Bool) (xs : List X) → AllByRecursion (λ x. test x ≡ false) xs → list_any test xs ≡ false
none_passes test [] all = refl
none_passes test (x ∷ xs) all = or_from (test x) (list_any test xs) all.0 (none_passes test xs all.1)

-- a live object in a segment makes a live block there
pub block_in : (w : World) (s : Segment) (id at : ℕ) → address_of w id ≡ Some at → is_in_segment s at ≡ true
    → has_live_block w s ≡ true
block_in w s id at lies inside =
    any_contained (is_live_and (is_in_segment s) w) (live_ids w) id (live_is_among w id (ap is_some lies))
    (ap (λ o. option_map_or (is_in_segment s) o false) lies ∙ inside)

-- a block whose first word is in a segment begins there
in_by_word : (base at grains : ℕ) → 4096 * (base / 4096) ≡ base → base ≤ 8 * (at / 8) → 8 * (at / 8) < base + 4096 * grains
    → (base ≤ at) × (at < base + 4096 * grains)
in_by_word base at grains on_grain low high = (omega (arith, on_grain, low, high), omega (arith, on_grain, low, high))

-- after a flip no reservation has words
pub none_reserved : (w : World) (points : List (Option Point)) → w.graph.points ≡ map doomed points → (n : ℕ)
    → (run_of (occupancy_of w) (OfReservation n)).count ≡ 0
none_reserved w points are n =
    ap (λ o. (run_of_reservation o (slice_get w.point_memories n)).count)
    (ap (λ ps. entry_at (map shape_of_point ps) n) are ∙ ap (λ ps. entry_at ps n) (doomed_shapes points)
    ∙ ap opened (slice_get-map without_reserved (map shape_of_point points) n))
    ∙ of_one (slice_get (map shape_of_point points) n)
  where
    of_one : (o : Option (Option PointShape))
        → (run_of_reservation (opened (option_map without_reserved o)) (slice_get w.point_memories n)).count ≡ 0
    of_one None = refl
    of_one (Some None) = refl
    of_one (Some (Some p)) = refl

module _ (limit : ℕ) (w : World) (laid : HasLayout limit w) (s : Segment) (aligned : IsAligned s)
    (reserved : (n : ℕ) → 0 < (run_of (occupancy_of w) (OfReservation n)).count
    → begins_in s (run_of (occupancy_of w) (OfReservation n)) ≡ false) where
  begins_at : (at words : ℕ) → begins_in s (extent at words) ≡ true → is_in_segment s at ≡ true
  begins_at at words begins =
      let parts = and_parts (nat_le s.base (8 * word_of at)) (nat_lt (8 * word_of at) (end_of_segment s)) begins in
      let bounds = in_by_word s.base at s.grains aligned (leb-true s.base (8 * word_of at) parts.0)
      (ltb-true (8 * word_of at) (end_of_segment s) parts.1) in
      and_from (nat_le s.base at) (nat_lt at (end_of_segment s)) (le-leb s.base at bounds.0) (lt-ltb at (end_of_segment s) bounds.1)

  not_begun : has_live_block w s ≡ false → (id at words : ℕ) → address_of w id ≡ Some at → begins_in s (extent at words) ≡ false
  not_begun none id at words lies = elim (cases_Bool (begins_in s (extent at words))) [
    | inl is ↦ absurd (true≢false (sym (block_in w s id at lies (begins_at at words is)) ∙ none))
    | inr isnt ↦ isnt
  ]

  not_here : has_live_block w s ≡ false → (o : Occupant) → is_at_hand o ≡ false → 0 < (run_of (occupancy_of w) o).count
      → begins_in s (run_of (occupancy_of w) o) ≡ false
  not_here none (OfBlock id) h some = of_block (slice_get (occupancy_of w).shapes id) (entry_at w.addresses id) refl some
    where
      of_block : (shape : Option Shape) (a : Option ℕ) → entry_at w.addresses id ≡ a → 0 < (run_of_block shape a).count
          → begins_in s (run_of_block shape a) ≡ false
      of_block None a lies some = absurd (omega (arith, some))
      of_block (Some shape) None lies some = absurd (omega (arith, some))
      of_block (Some shape) (Some at) lies some = not_begun none id at shape.words lies
  not_here none (OfReservation n) h some = reserved n some
  not_here none (OfBuffer n) h some = absurd (true≢false h)
  not_here none (OfTail pool generation) h some = absurd (true≢false h)

  pub has_live_block-of : not (is_empty_segment w s) ≡ true → has_live_block w s ≡ true
  has_live_block-of filled = elim (cases_Bool (has_live_block w s)) [
    | inl is ↦ is
    | inr isnt ↦ absurd (true≢false (sym filled ∙ ap (λ b. not (not b)) (empty isnt)))
  ]
    where
      empty : has_live_block w s ≡ false → list_any (begins_in s) (covered w) ≡ false
      empty none =
          ap (list_any (begins_in s)) (covered-shapes w)
          ∙ none_passes (begins_in s) (in_order (listed limit (occupancy_of w) laid))
          (all_in_order (λ r. begins_in s r ≡ false) (listed limit (occupancy_of w) laid)
          (all_listed limit (occupancy_of w) laid (λ r. begins_in s r ≡ false) (λ o h some. not_here none o h some)))
