-- What is covered after a change: a segment that holds something goes on to hold it.
use Rattle.std.proofs.Common.{◌≡◌, ◌∙◌, ◌⊎◌, ℕ, zero, suc, Bool, true, false, refl, sym, ap, List, [], ◌∷◌, ◌++◌, length, Option, Some, None, inl, inr, arith}
use Rattle.std.proofs.lemmas.Bool.{false≢true, or_cases, or_left, or_right}
use Rattle.std.proofs.lemmas.List.Folds.{list_any-append}
use Rattle.std.proofs.lemmas.Option.{none-some, same_Some}
use Rattle.std.specs.Prelude.{not, slice_get, slice_set}
use Rattle.std.specs.List.{list_any}
use Rattle.std.specs.Option.{option_map_or}
use Rattle.mps_base.specs.Address.{Address}
use Rattle.mps_base.specs.Run.{Run}
use Rattle.mps_base.specs.Segment.{Segment}
use Rattle.mps_model.specs.Graph.{Object, Point, with_last, size_of, entry_at}
use Rattle.mps_model.specs.World.{World, PointMemory, extent, extents_of, extent_of_reservation, reserved_extents, covered, begins_in, segment_at}
use Rattle.mps_model.specs.LegalMove.{holds_something}
use Rattle.mps_abstract.proofs.Covering.{list_any-in_order}

-- ---- lists that are joined

pub any_cases : (p : Run → Bool) (xs ys : List Run) → list_any p (xs ++ ys) ≡ true → (list_any p xs ≡ true) ⊎ (list_any p ys ≡ true)
any_cases p xs ys h = or_cases (list_any p xs) (list_any p ys) (sym (list_any-append p xs ys) ∙ h)

pub any_left : (p : Run → Bool) (xs ys : List Run) → list_any p xs ≡ true → list_any p (xs ++ ys) ≡ true
any_left p xs ys h = list_any-append p xs ys ∙ or_left (list_any p xs) (list_any p ys) h

pub any_right : (p : Run → Bool) (xs ys : List Run) → list_any p ys ≡ true → list_any p (xs ++ ys) ≡ true
any_right p xs ys h = list_any-append p xs ys ∙ or_right (list_any p xs) (list_any p ys) h

-- ---- a segment goes on to hold something

not_empty : (b : Bool) → not (not b) ≡ true → b ≡ true
not_empty true h = refl
not_empty false h = absurd (false≢true h)

is_not_empty : (b : Bool) → b ≡ true → not (not b) ≡ true
is_not_empty b h = ap (λ t. not (not t)) h

-- where what begins in it was covered and is
pub holds_still : (w v : World) (base : Address) → segment_at v base ≡ segment_at w base
    → ((s : Segment) → segment_at w base ≡ Some s
    → list_any (begins_in s) (extents_of w.graph.objects w.addresses ++ reserved_extents w.graph.points w.point_memories) ≡ true
    → list_any (begins_in s) (extents_of v.graph.objects v.addresses ++ reserved_extents v.graph.points v.point_memories) ≡ true)
    → holds_something w base ≡ true → holds_something v base ≡ true
holds_still w v base same more h = of_segment (segment_at w base) refl h
  where
    of_segment : (o : Option Segment) → segment_at w base ≡ o
        → option_map_or (λ s. not (not (list_any (begins_in s) (covered w)))) o false ≡ true
        → holds_something v base ≡ true
    of_segment None e g = absurd (false≢true g)
    of_segment (Some s) e g =
        let before = sym (list_any-in_order (begins_in s)
        (extents_of w.graph.objects w.addresses ++ reserved_extents w.graph.points w.point_memories))
        ∙ not_empty (list_any (begins_in s) (covered w)) g in
        let after = list_any-in_order (begins_in s)
        (extents_of v.graph.objects v.addresses ++ reserved_extents v.graph.points v.point_memories) ∙ more s e before in
        ap (λ o. option_map_or (λ s. not (not (list_any (begins_in s) (covered v)))) o false) (same ∙ e)
        ∙ is_not_empty (list_any (begins_in s) (covered v)) after

-- ---- reservations

-- the extent of the reservation of a point
abbrev pub extent_at_point : Option Point → PointMemory → List Run
extent_at_point None memory = []
extent_at_point (Some p) memory = extent_of_reservation p.reservation memory

reserved_cons : (o : Option Point) (m : PointMemory) (ps : List (Option Point)) (ms : List PointMemory)
    → reserved_extents (o ∷ ps) (m ∷ ms) ≡ extent_at_point o m ++ reserved_extents ps ms
reserved_cons None m ps ms = refl
reserved_cons (Some p) m ps ms = refl

-- what was reserved at a point passes
pub record PassesAt (p : Run → Bool) (ps : List (Option Point)) (ms : List PointMemory) (n : ℕ) : Type 0 where
  pub point : Option Point
  pub memory : PointMemory
  pub is_point : slice_get ps n ≡ Some point
  pub is_memory : slice_get ms n ≡ Some memory
  pub passes : list_any p (extent_at_point point memory) ≡ true

module _ (p : Run → Bool) where
  first_reserved : (o : Option Point) (m : PointMemory) (ps : List (Option Point)) (ms : List PointMemory)
      → list_any p (extent_at_point o m) ≡ true → list_any p (reserved_extents (o ∷ ps) (m ∷ ms)) ≡ true
  first_reserved o m ps ms h = ap (list_any p) (reserved_cons o m ps ms) ∙ any_left p (extent_at_point o m) (reserved_extents ps ms) h

  later_reserved : (o : Option Point) (m : PointMemory) (ps : List (Option Point)) (ms : List PointMemory)
      → list_any p (reserved_extents ps ms) ≡ true → list_any p (reserved_extents (o ∷ ps) (m ∷ ms)) ≡ true
  later_reserved o m ps ms h = ap (list_any p) (reserved_cons o m ps ms) ∙ any_right p (extent_at_point o m) (reserved_extents ps ms) h

  -- after a point and its memory were written
  pub reserved_written : (ps : List (Option Point)) (ms : List PointMemory) (n : ℕ) (q : Option Point) (m : PointMemory)
      → list_any p (reserved_extents ps ms) ≡ true
      → (list_any p (reserved_extents (slice_set ps n q) (slice_set ms n m)) ≡ true) ⊎ PassesAt p ps ms n
  reserved_written [] ms n q m h = absurd (false≢true h)
  reserved_written (o ∷ ps) [] n q m h = absurd (false≢true (sym (none_reserved o) ∙ h))
    where
      none_reserved : (o : Option Point) → list_any p (reserved_extents (o ∷ ps) []) ≡ false
      none_reserved None = refl
      none_reserved (Some r) = refl
  reserved_written (o ∷ ps) (k ∷ ms) zero q m h =
      elim (any_cases p (extent_at_point o k) (reserved_extents ps ms) (sym (ap (list_any p) (reserved_cons o k ps ms)) ∙ h)) [
        | inl first ↦ inr (record { point = o; memory = k; is_point = refl; is_memory = refl; passes = first })
        | inr later ↦ inl (later_reserved q m ps ms later)
      ]
  reserved_written (o ∷ ps) (k ∷ ms) (suc n) q m h =
      elim (any_cases p (extent_at_point o k) (reserved_extents ps ms) (sym (ap (list_any p) (reserved_cons o k ps ms)) ∙ h)) [
        | inl first ↦ inl (first_reserved o k (slice_set ps n q) (slice_set ms n m) first)
        | inr later ↦ elim (reserved_written ps ms n q m later) [
          | inl still ↦ inl (later_reserved o k (slice_set ps n q) (slice_set ms n m) still)
          | inr at ↦ inr (record {
            point = at.point;
            memory = at.memory;
            is_point = at.is_point;
            is_memory = at.is_memory;
            passes = at.passes;
          })
        ]
      ]

  -- after a point alone was written
  pub reserved_point_written : (ps : List (Option Point)) (ms : List PointMemory) (n : ℕ) (q : Option Point)
      → list_any p (reserved_extents ps ms) ≡ true → (list_any p (reserved_extents (slice_set ps n q) ms) ≡ true) ⊎ PassesAt p ps ms n
  reserved_point_written [] ms n q h = absurd (false≢true h)
  reserved_point_written (o ∷ ps) [] n q h = absurd (false≢true (sym (none_reserved o) ∙ h))
    where
      none_reserved : (o : Option Point) → list_any p (reserved_extents (o ∷ ps) []) ≡ false
      none_reserved None = refl
      none_reserved (Some r) = refl
  reserved_point_written (o ∷ ps) (k ∷ ms) zero q h =
      elim (any_cases p (extent_at_point o k) (reserved_extents ps ms) (sym (ap (list_any p) (reserved_cons o k ps ms)) ∙ h)) [
        | inl first ↦ inr (record { point = o; memory = k; is_point = refl; is_memory = refl; passes = first })
        | inr later ↦ inl (later_reserved q k ps ms later)
      ]
  reserved_point_written (o ∷ ps) (k ∷ ms) (suc n) q h =
      elim (any_cases p (extent_at_point o k) (reserved_extents ps ms) (sym (ap (list_any p) (reserved_cons o k ps ms)) ∙ h)) [
        | inl first ↦ inl (first_reserved o k (slice_set ps n q) ms first)
        | inr later ↦ elim (reserved_point_written ps ms n q later) [
          | inl still ↦ inl (later_reserved o k (slice_set ps n q) ms still)
          | inr at ↦ inr (record {
            point = at.point;
            memory = at.memory;
            is_point = at.is_point;
            is_memory = at.is_memory;
            passes = at.passes;
          })
        ]
      ]

  -- the reservation of a point is among them
  pub reserved_at_point : (ps : List (Option Point)) (ms : List PointMemory) (n : ℕ) (q : Option Point) (m : PointMemory)
      → slice_get ps n ≡ Some q → slice_get ms n ≡ Some m → list_any p (extent_at_point q m) ≡ true
      → list_any p (reserved_extents ps ms) ≡ true
  reserved_at_point [] ms n q m e f h = absurd (none-some q e)
  reserved_at_point (o ∷ ps) [] n q m e f h = absurd (none-some m f)
  reserved_at_point (o ∷ ps) (k ∷ ms) zero q m e f h =
      first_reserved o k ps ms (ap (list_any p)
      (ap (λ r. extent_at_point r k) (same_Some o q e) ∙ ap (extent_at_point q) (same_Some k m f)) ∙ h)
  reserved_at_point (o ∷ ps) (k ∷ ms) (suc n) q m e f h = later_reserved o k ps ms (reserved_at_point ps ms n q m e f h)

  -- after one more point was made
  pub reserved_last : (ps : List (Option Point)) (ms : List PointMemory) (q : Option Point) (m : PointMemory)
      → list_any p (reserved_extents ps ms) ≡ true → list_any p (reserved_extents (with_last ps q) (with_last ms m)) ≡ true
  reserved_last [] ms q m h = absurd (false≢true h)
  reserved_last (o ∷ ps) [] q m h = absurd (false≢true (sym (none_reserved o) ∙ h))
    where
      none_reserved : (o : Option Point) → list_any p (reserved_extents (o ∷ ps) []) ≡ false
      none_reserved None = refl
      none_reserved (Some r) = refl
  reserved_last (o ∷ ps) (k ∷ ms) q m h =
      elim (any_cases p (extent_at_point o k) (reserved_extents ps ms) (sym (ap (list_any p) (reserved_cons o k ps ms)) ∙ h)) [
        | inl first ↦ first_reserved o k (with_last ps q) (with_last ms m) first
        | inr later ↦ later_reserved o k (with_last ps q) (with_last ms m) (reserved_last ps ms q m later)
      ]

  -- ---- objects

  first_extent : (o : Object) (at : Address) (os : List Object) (addresses : List (Option Address)) → p (extent at (size_of o)) ≡ true
      → list_any p (extents_of (o ∷ os) (Some at ∷ addresses)) ≡ true
  first_extent o at os addresses h = or_left (p (extent at (size_of o))) (list_any p (extents_of os addresses)) h

  later_extent : (o : Object) (a : Option Address) (os : List Object) (addresses : List (Option Address))
      → list_any p (extents_of os addresses) ≡ true
      → list_any p (extents_of (o ∷ os) (a ∷ addresses)) ≡ true
  later_extent o None os addresses h = h
  later_extent o (Some at) os addresses h = or_right (p (extent at (size_of o))) (list_any p (extents_of os addresses)) h

  -- after one more object was made
  pub extents_last : (os : List Object) (addresses : List (Option Address)) (o : Object) (a : Option Address)
      → list_any p (extents_of os addresses) ≡ true
      → list_any p (extents_of (with_last os o) (with_last addresses a)) ≡ true
  extents_last [] addresses o a h = absurd (false≢true h)
  extents_last (q ∷ os) [] o a h = absurd (false≢true h)
  extents_last (q ∷ os) (None ∷ addresses) o a h = extents_last os addresses o a h
  extents_last (q ∷ os) (Some at ∷ addresses) o a h = elim (or_cases (p (extent at (size_of q))) (list_any p (extents_of os addresses)) h) [
    | inl first ↦ first_extent q at (with_last os o) (with_last addresses a) first
    | inr later ↦ later_extent q (Some at) (with_last os o) (with_last addresses a) (extents_last os addresses o a later)
  ]

  pub extent_of_last : (os : List Object) (addresses : List (Option Address)) (o : Object) (at : Address) → length addresses ≡ length os
      → p (extent at (size_of o)) ≡ true → list_any p (extents_of (with_last os o) (with_last addresses (Some at))) ≡ true
  extent_of_last [] [] o at same h = first_extent o at [] [] h
  extent_of_last [] (a ∷ addresses) o at same h = absurd (omega (arith, same))
  extent_of_last (q ∷ os) [] o at same h = absurd (omega (arith, same))
  extent_of_last (q ∷ os) (a ∷ addresses) o at same h =
      later_extent q a (with_last os o) (with_last addresses (Some at)) (extent_of_last os addresses o at (omega (arith, same)) h)

  -- after one was written that has the same size
  pub extents_same : (os : List Object) (addresses : List (Option Address)) (n : ℕ) (o q : Object) → slice_get os n ≡ Some o
      → size_of q ≡ size_of o
      → extents_of (slice_set os n q) addresses ≡ extents_of os addresses
  extents_same [] addresses n o q e same = refl
  extents_same (r ∷ os) [] zero o q e same = refl
  extents_same (r ∷ os) [] (suc n) o q e same = refl
  extents_same (r ∷ os) (None ∷ addresses) zero o q e same = refl
  extents_same (r ∷ os) (Some at ∷ addresses) zero o q e same =
      ap (λ words. extent at words ∷ extents_of os addresses) (same ∙ ap size_of (sym (same_Some r o e)))
  extents_same (r ∷ os) (None ∷ addresses) (suc n) o q e same = extents_same os addresses n o q e same
  extents_same (r ∷ os) (Some at ∷ addresses) (suc n) o q e same = ap (λ rs. extent at (size_of r) ∷ rs)
      (extents_same os addresses n o q e same)

-- an object that was freed passes
pub record PassedFreed (p : Run → Bool) (os : List Object) (addresses : List (Option Address)) (n : ℕ) : Type 0 where
  pub object : Object
  pub at : Address
  pub is_object : slice_get os n ≡ Some object
  pub is_at : entry_at addresses n ≡ Some at
  pub passes : p (extent at (size_of object)) ≡ true

-- after one was freed
pub extents_freed : (p : Run → Bool) (os : List Object) (addresses : List (Option Address)) (n : ℕ)
    → list_any p (extents_of os addresses) ≡ true
    → (list_any p (extents_of os (slice_set addresses n None)) ≡ true) ⊎ PassedFreed p os addresses n
extents_freed p [] addresses n h = absurd (false≢true h)
extents_freed p (o ∷ os) [] n h = absurd (false≢true h)
extents_freed p (o ∷ os) (None ∷ addresses) zero h = inl h
extents_freed p (o ∷ os) (Some at ∷ addresses) zero
    h = elim (or_cases (p (extent at (size_of o))) (list_any p (extents_of os addresses)) h) [
      | inl first ↦ inr (record { object = o; at = at; is_object = refl; is_at = refl; passes = first })
      | inr later ↦ inl later
    ]
extents_freed p (o ∷ os) (None ∷ addresses) (suc n) h = elim (extents_freed p os addresses n h) [
  | inl still ↦ inl still
  | inr gone ↦ inr (record {
    object = gone.object;
    at = gone.at;
    is_object = gone.is_object;
    is_at = gone.is_at;
    passes = gone.passes;
  })
]
extents_freed p (o ∷ os) (Some at ∷ addresses)
    (suc n) h = elim (or_cases (p (extent at (size_of o))) (list_any p (extents_of os addresses)) h) [
      | inl first ↦ inl (first_extent p o at os (slice_set addresses n None) first)
      | inr later ↦ elim (extents_freed p os addresses n later) [
        | inl still ↦ inl (later_extent p o (Some at) os (slice_set addresses n None) still)
        | inr gone ↦ inr (record {
          object = gone.object;
          at = gone.at;
          is_object = gone.is_object;
          is_at = gone.is_at;
          passes = gone.passes;
        })
      ]
    ]
