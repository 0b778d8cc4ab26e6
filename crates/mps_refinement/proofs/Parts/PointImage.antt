-- The words of an arena after a point is made, or one is dropped that has no reservation: they stand for what they stood for.
use Rattle.std.proofs.Common.{◌≡◌, ◌≢◌, ◌∙◌, ℕ, zero, suc, true, refl, sym, ap, List, [], ◌∷◌, ◌++◌, length, Option, Some, None, inl, inr, arith}
use Rattle.std.proofs.lemmas.Bool.{false≢true, and_parts, cases_order}
use Rattle.std.proofs.lemmas.Option.{none-some, same_Some}
use Rattle.std.specs.Prelude.{slice_get, slice_set}
use Rattle.mps_trace_laws.specs.Image.Memory.{live_reservation}
use Rattle.mps_laws.proofs.Lookups.{entry_at-after_last, entry_at-at_last, entry_at-last, entry_at-set_none, entry_at-set_other, slice_get-last, slice_get-set_other}
use Rattle.mps_model.specs.Graph.{Point, Reservation, entry_at, with_last}
use Rattle.mps_model.specs.World.{World, PointMemory, extent_of_reservation, reserved_extents}
use Rattle.mps_model.specs.WellFormed.{are_right_points, is_right_point}

-- each point has its memory
pub right_points_long : (w : World) (ps : List (Option Point)) (ms : List PointMemory) → are_right_points w ps ms ≡ true
    → length ps ≡ length ms
right_points_long w [] [] h = refl
right_points_long w [] (m ∷ ms) h = absurd (false≢true h)
right_points_long w (None ∷ ps) [] h = absurd (false≢true h)
right_points_long w (Some p ∷ ps) [] h = absurd (false≢true h)
right_points_long w (None ∷ ps) (m ∷ ms) h = ap suc (right_points_long w ps ms h)
right_points_long w (Some p ∷ ps) (m ∷ ms) h =
    ap suc (right_points_long w ps ms (and_parts (is_right_point w p m) (are_right_points w ps ms) h).1)

-- ---- the words of live reservations

pub extents_more : (ps : List (Option Point)) (ms : List PointMemory) (p : Point) (m : PointMemory) → length ps ≡ length ms
    → p.reservation ≡ None → reserved_extents (with_last ps (Some p)) (with_last ms m) ≡ reserved_extents ps ms
extents_more [] [] p m long none = ap (λ r. extent_of_reservation r m ++ []) none
extents_more [] (n ∷ ms) p m long none = absurd (omega (arith, long))
extents_more (None ∷ ps) [] p m long none = absurd (omega (arith, long))
extents_more (Some q ∷ ps) [] p m long none = absurd (omega (arith, long))
extents_more (None ∷ ps) (n ∷ ms) p m long none = extents_more ps ms p m (omega (arith, long)) none
extents_more (Some q ∷ ps) (n ∷ ms) p m long none =
    ap (λ rs. extent_of_reservation q.reservation n ++ rs) (extents_more ps ms p m (omega (arith, long)) none)

pub extents_without : (ps : List (Option Point)) (ms : List PointMemory) (number : ℕ) (p : Point) (m : PointMemory)
    → entry_at ps number ≡ Some p → p.reservation ≡ None
    → reserved_extents (slice_set ps number None) (slice_set ms number m) ≡ reserved_extents ps ms
extents_without [] ms number p m there none = absurd (none-some p there)
extents_without (q ∷ ps) [] zero p m there none = refl
extents_without (q ∷ ps) [] (suc number) p m there none = refl
extents_without (None ∷ ps) (n ∷ ms) zero p m there none = absurd (none-some p there)
extents_without (Some q ∷ ps) (n ∷ ms) zero p m there none =
    let same : q ≡ p = same_Some q p there in
    sym (ap (λ (x : Point). extent_of_reservation x.reservation n ++ reserved_extents ps ms) same
    ∙ ap (λ r. extent_of_reservation r n ++ reserved_extents ps ms) none)
extents_without (None ∷ ps) (n ∷ ms) (suc number) p m there none = extents_without ps ms number p m there none
extents_without (Some q ∷ ps) (n ∷ ms) (suc number) p m there none =
    ap (λ rs. extent_of_reservation q.reservation n ++ rs) (extents_without ps ms number p m there none)

-- ---- live reservations

not_reserved : (p : Point) → p.reservation ≡ None → live_reservation (Some p) ≡ None
not_reserved p none = ap (λ r. live_reservation (Some (record p { reservation = r }))) none

module _ (ps : List (Option Point)) (ms : List PointMemory) where
  -- a live reservation after a point without one was made was there before
  pub made_back : (p : Point) (m : PointMemory) → length ps ≡ length ms → p.reservation ≡ None → (i : ℕ) (r : Reservation)
      (memory : PointMemory) → live_reservation (entry_at (with_last ps (Some p)) i) ≡ Some r
      → slice_get (with_last ms m) i ≡ Some memory → (live_reservation (entry_at ps i) ≡ Some r) × (slice_get ms i ≡ Some memory)
  made_back p m long none i r memory live has =
      elim (cases_order i (length ps)) [
        | inl at_last ↦
            absurd (none-some r (sym (ap (λ n. live_reservation (entry_at (with_last ps (Some p)) n)) at_last
            ∙ ap live_reservation (entry_at-at_last ps (Some p)) ∙ not_reserved p none) ∙ live))
        | inr (inl low) ↦ (
          sym (ap live_reservation (entry_at-last ps (Some p) i low)) ∙ live,
          sym (slice_get-last ms m i (omega (arith, low, long))) ∙ has,
        )
        | inr (inr high) ↦
            absurd (none-some r (sym (ap live_reservation (entry_at-after_last ps (Some p) i high)) ∙ live))
      ]

  pub made_live : (p : Point) → p.reservation ≡ None → (i : ℕ) (r : Reservation)
      → live_reservation (entry_at (with_last ps (Some p)) i) ≡ Some r → live_reservation (entry_at ps i) ≡ Some r
  made_live p none i r live =
      elim (cases_order i (length ps)) [
        | inl at_last ↦
            absurd (none-some r (sym (ap (λ n. live_reservation (entry_at (with_last ps (Some p)) n)) at_last
            ∙ ap live_reservation (entry_at-at_last ps (Some p)) ∙ not_reserved p none) ∙ live))
        | inr (inl low) ↦ sym (ap live_reservation (entry_at-last ps (Some p) i low)) ∙ live
        | inr (inr high) ↦
            absurd (none-some r (sym (ap live_reservation (entry_at-after_last ps (Some p) i high)) ∙ live))
      ]

  -- and so was one after a point was dropped
  other_live : (number i : ℕ) (r : Reservation) → live_reservation (entry_at (slice_set ps number None) i) ≡ Some r → number ≢ i
  other_live number i r live same =
      none-some r (sym (ap (λ n. live_reservation (entry_at (slice_set ps number None) n)) (sym same)
      ∙ ap live_reservation (entry_at-set_none ps number)) ∙ live)

  pub dropped_live : (number i : ℕ) (r : Reservation) → live_reservation (entry_at (slice_set ps number None) i) ≡ Some r
      → live_reservation (entry_at ps i) ≡ Some r
  dropped_live number i r live =
      sym (ap live_reservation (entry_at-set_other ps number i None (other_live number i r live))) ∙ live

  pub dropped_back : (number : ℕ) (m : PointMemory) (i : ℕ) (r : Reservation) (memory : PointMemory)
      → live_reservation (entry_at (slice_set ps number None) i) ≡ Some r → slice_get (slice_set ms number m) i ≡ Some memory
      → (live_reservation (entry_at ps i) ≡ Some r) × (slice_get ms i ≡ Some memory)
  dropped_back number m i r memory live has = (
    dropped_live number i r live,
    sym (slice_get-set_other ms number i m (other_live number i r live)) ∙ has,
  )
