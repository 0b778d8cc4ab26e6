-- A point of a heap has a reservation that no flip ended exactly if one of the world has a live one.
use Rattle.std.proofs.Common.{◌≡◌, ◌∙◌, ℕ, zero, suc, Bool, true, false, refl, sym, ap, List, [], ◌∷◌, ◌++◌, length, Option, Some, None}
use Rattle.std.proofs.lemmas.Bool.{false≢true, true≢false}
use Rattle.std.proofs.lemmas.Option.{none-some, same_Some}
use Rattle.std.specs.Prelude.{◌==◌, ◌||◌, if◌then◌else◌, not, option_and_then, slice_get}
use Rattle.std.specs.List.{list_any}
use Rattle.std.specs.Option.{option_map_or}
use Rattle.mps_base.specs.Address.{Address, Word}
use Rattle.mps_base.specs.Run.{Run}
use Rattle.mps_buffer.specs.Points.{has_live_reservation, is_reserved_now}
use Rattle.mps_buffer.specs.declared.point.Held.{Held}
use Rattle.mps_buffer.specs.declared.point.Point.{Point}
use Rattle.mps_format.specs.Layout.{Layout}
use Rattle.mps_model.specs.Graph as graph
use Rattle.mps_model.specs.Graph.{Reservation, entry_at, is_live_reservation}
use Rattle.mps_model.specs.Transforms as model
use Rattle.mps_model.specs.World.{PointMemory, World, extent, extent_of_reservation, reserved_extents}
use Rattle.mps_trace_laws.specs.Image.Memory.{LiesReserved, live_reservation}
use Rattle.mps_heap_spec.specs.State.{HeapState}
use Rattle.mps_refinement.specs.StandsFor.{AreHeldAlike, AreParts, BothHeld, IsPoint, NoneHeld, Past}
use Rattle.mps_refinement.proofs.Substitution.Any.{any_found, any_there, same_tests}

-- ---- one point

alike_live : (flips : ℕ) (at : Address) (o : Option Held) (x : Option Reservation) → AreHeldAlike flips at o x
    → option_map_or (λ held. held.flips == flips) o false ≡ option_map_or is_live_reservation x false
alike_live flips at o x (BothHeld {held = held} {r = r} is) =
    sym (ap (λ (b : Bool). if b then false else true) is.doomed ∙ twice (held.flips == flips))
  where
    twice : (b : Bool) → (if not b then false else true) ≡ b
    twice true = refl
    twice false = refl
alike_live flips at o x NoneHeld = refl

-- ---- entries

kept_at : {A : Type 0} (xs : List (Option A)) (k : ℕ) (a : A) → slice_get xs k ≡ Some (Some a)
    → Rattle.mps_root.specs.State.kept xs k ≡ Some a
kept_at [] k a e = absurd (none-some (Some a) e)
kept_at (x ∷ xs) zero a e = same_Some x (Some a) e
kept_at (x ∷ xs) (suc k) a e = kept_at xs k a e

at_kept : {A : Type 0} (xs : List (Option A)) (k : ℕ) (a : A) → Rattle.mps_root.specs.State.kept xs k ≡ Some a
    → slice_get xs k ≡ Some (Some a)
at_kept [] k a e = absurd (none-some a e)
at_kept (x ∷ xs) zero a e = ap Some e
at_kept (x ∷ xs) (suc k) a e = at_kept xs k a e

at_entry : {A : Type 0} (xs : List (Option A)) (k : ℕ) (a : A) → entry_at xs k ≡ Some a → slice_get xs k ≡ Some (Some a)
at_entry [] k a e = absurd (none-some a e)
at_entry (x ∷ xs) zero a e = ap Some e
at_entry (x ∷ xs) (suc k) a e = at_entry xs k a e

-- ---- all points

module _ {F : Type 0} (layout : F → Layout) (past : Past) (h : HeapState F) (w : World) (parts : AreParts layout past h w) where
  abbrev ours : Option Point → Bool
  ours = is_reserved_now h.points.flips

  some_point : (o : Option Point) → ours o ≡ true → (p : Point) × (o ≡ Some p)
  some_point None e = absurd (false≢true e)
  some_point (Some p) e = (p, refl)

  some_theirs : (o : Option graph.Point) → model.has_live_reservation o ≡ true → (q : graph.Point) × (o ≡ Some q)
  some_theirs None e = absurd (false≢true e)
  some_theirs (Some q) e = (q, refl)

  same_point : (copying : ℕ → Bool) (number : ℕ) (p : Point) (q : graph.Point)
      → IsPoint (length w.flips) copying w.point_memories number p q → ours (Some p) ≡ model.has_live_reservation (Some q)
  same_point copying number p q fit =
      ap (λ (n : ℕ). option_map_or (λ (held : Held). held.flips == n) p.reservation false) parts.point_flips
      ∙ alike_live (length w.flips) fit.memory.reserved_at p.reservation q.reservation fit.reservation

  pub live_alike : has_live_reservation h.points ≡ list_any model.has_live_reservation w.graph.points
  live_alike = same_tests (list_any ours h.points.points) (list_any model.has_live_reservation w.graph.points) to from
    where
      to : list_any ours h.points.points ≡ true → list_any model.has_live_reservation w.graph.points ≡ true
      to e =
          let x = any_found ours h.points.points e in
          let p = some_point x.1 x.3 in
          let found = parts.points.there x.0 p.0 (kept_at h.points.points x.0 p.0 (x.2 ∙ ap Some p.1)) in
          any_there model.has_live_reservation w.graph.points (past.point_number x.0) (Some found.0)
          (at_entry w.graph.points (past.point_number x.0) found.0 found.1)
          (sym (same_point _ (past.point_number x.0) p.0 found.0 found.2) ∙ sym (ap ours p.1) ∙ x.3)

      from : list_any model.has_live_reservation w.graph.points ≡ true → list_any ours h.points.points ≡ true
      from e =
          let x = any_found model.has_live_reservation w.graph.points e in
          let q = some_theirs x.1 x.3 in
          let there : entry_at w.graph.points x.0 ≡ Some q.0 = ap (option_and_then (λ y. y)) (x.2 ∙ ap Some q.1) in
          let key = parts.points.complete x.0 q.0 there in
          let found = parts.points.there key.key key.value key.there in
          let same : found.0 ≡ q.0 = same_Some found.0 q.0 (sym found.1 ∙ ap (entry_at w.graph.points) key.numbered ∙ there) in
          any_there ours h.points.points key.key (Some key.value) (at_kept h.points.points key.key key.value key.there)
          (same_point _ (past.point_number key.key) key.value found.0 found.2
          ∙ ap (λ (y : graph.Point). model.has_live_reservation (Some y)) same ∙ sym (ap model.has_live_reservation q.1) ∙ x.3)

-- ---- where none is live

neither : (a b : Bool) → (a || b) ≡ false → (a ≡ false) × (b ≡ false)
neither true b e = absurd (true≢false e)
neither false b e = (refl, e)

pub none_reserved : (points : List (Option graph.Point)) (memories : List PointMemory)
    → list_any model.has_live_reservation points ≡ false → reserved_extents points memories ≡ []
none_reserved [] memories none = refl
none_reserved (p ∷ ps) [] none = refl
none_reserved (None ∷ ps) (m ∷ ms) none = none_reserved ps ms none
none_reserved (Some p ∷ ps) (m ∷ ms) none =
    let both = neither (model.has_live_reservation (Some p)) (list_any model.has_live_reservation ps) none in
    ap (λ (rs : List Run). rs ++ reserved_extents ps ms) (of_reservation p.reservation both.0) ∙ none_reserved ps ms both.1
  where
    of_reservation : (o : Option Reservation) → option_map_or is_live_reservation o false ≡ false → extent_of_reservation o m ≡ []
    of_reservation None e = refl
    of_reservation (Some r) e = ap (λ (b : Bool). if b then extent m.reserved_at (length r.cells) ∷ [] else []) e

live_passes : (o : Option graph.Point) (r : Reservation) → live_reservation o ≡ Some r
    → (p : graph.Point) × (o ≡ Some p) × (model.has_live_reservation (Some p) ≡ true)
live_passes None r e = absurd (none-some r e)
live_passes (Some p) r e = (p, refl, of_reservation p.reservation e)
  where
    of_live : (x : Reservation) (b : Bool) → is_live_reservation x ≡ b → (if b then Some x else None) ≡ Some r → b ≡ true
    of_live x true is e = refl
    of_live x false is e = absurd (none-some r e)

    of_reservation : (o : Option Reservation)
        → option_and_then (λ (x : Reservation). if is_live_reservation x then Some x else None) o ≡ Some r
        → option_map_or is_live_reservation o false ≡ true
    of_reservation None e = absurd (none-some r e)
    of_reservation (Some x) e = of_live x (is_live_reservation x) refl e

pub none_lies_reserved : (points : List (Option graph.Point)) (memories : List PointMemory)
    → list_any model.has_live_reservation points ≡ false → (point i : ℕ) (r : Reservation) (n : Word)
    → LiesReserved points memories point i r n → ⊥
none_lies_reserved points memories none point i r n lies =
    let p = live_passes (entry_at points point) r lies.reserved in
    true≢false (sym (any_there model.has_live_reservation points point (Some p.0) (at_entry points point p.0 p.1) p.2) ∙ none)
