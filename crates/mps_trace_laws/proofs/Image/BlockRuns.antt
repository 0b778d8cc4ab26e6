-- The runs of blocks against live objects: each is that of an object, each object has one, and they ascend.
use Rattle.std.proofs.Common.{◌≡◌, zero, suc, ◌+◌, ◌-◌, ◌<◌, ◌≤◌, refl, subst, List, [], ◌∷◌, Option, Some, None, Contains, inl, inr, arith}
use Rattle.std.proofs.lemmas.Option.{none-some, same_Some}
use Rattle.std.specs.Prelude.{slice_get, ◌≢◌}
use Rattle.std.specs.List.{AllByRecursion}
use Rattle.mps_base.specs.Address.{Address, Id, word_of}
use Rattle.mps_base.specs.Run.{Run, IsAscending, in_order, with_run}
use Rattle.mps_base.proofs.Runs.{contains_cases, contains_first, contains_later}
use Rattle.mps_extents.proofs.ApartRuns.{contains_put}
use Rattle.mps_extents.proofs.ContainedRuns.{contains_put_other}
use Rattle.mps_model.specs.Graph.{Object, entry_at, size_of}
use Rattle.mps_model.specs.World.{extent, extents_of}
use Rattle.mps_laws.proofs.Positions.ApartRuns.{AreApart, AreAllApart, IsRunWithin, all_in_order, ascending_in_order}
use Rattle.mps_trace_laws.specs.Image.Image.{LieApart}
use Rattle.mps_trace_laws.specs.Image.Memory.{Setting}
use Rattle.mps_trace_laws.proofs.Image.Extents.{all_extents}

-- ---- each run is that of an object

pub all_contained : (P : Run → Type 0) (rs : List Run) (r : Run) → AllByRecursion P rs → Contains rs r → P r
all_contained P [] r all (k, within, is) = absurd (omega arith)
all_contained P (s ∷ rs) r all there =
    elim (contains_cases rs r s there) [
      | inl same ↦ subst P same all.0
      | inr later ↦ all_contained P rs r all.1 later
    ]

-- a run has the words of a live object
pub record IsExtent (objects : List Object) (addresses : List (Option Address)) (r : Run) : Type 0 where
  pub id : Id
  pub at : Address
  pub object : Object
  pub address : entry_at addresses id ≡ Some at
  pub there : slice_get objects id ≡ Some object
  pub is : r ≡ extent at (size_of object)

pub run_of_object : (objects : List Object) (addresses : List (Option Address)) (r : Run)
    → Contains (in_order (extents_of objects addresses)) r → IsExtent objects addresses r
run_of_object objects addresses r there =
    all_contained (IsExtent objects addresses) (in_order (extents_of objects addresses)) r
    (all_in_order (IsExtent objects addresses) (extents_of objects addresses)
    (all_extents (IsExtent objects addresses) objects addresses (λ id at o e x.
    record { id = id; at = at; object = o; address = e; there = x; is = refl }))) there

-- ---- each object has a run

pub contained_in_order : (rs : List Run) (r : Run) → Contains rs r → Contains (in_order rs) r
contained_in_order [] r there = there
contained_in_order (s ∷ rs) r there =
    elim (contains_cases rs r s there) [
      | inl same ↦ subst (λ (x : Run). Contains (with_run s (in_order rs)) x) same (contains_put s (in_order rs))
      | inr later ↦ contains_put_other s r (in_order rs) (contained_in_order rs r later)
    ]

pub extent_there : (objects : List Object) (addresses : List (Option Address)) (id : Id) (at : Address) (o : Object)
    → entry_at addresses id ≡ Some at → slice_get objects id ≡ Some o → Contains (extents_of objects addresses) (extent at (size_of o))
extent_there [] addresses id at o e x = absurd (none-some o x)
extent_there (q ∷ os) [] id at o e x = absurd (none-some at e)
extent_there (q ∷ os) (None ∷ ps) zero at o e x = absurd (none-some at e)
extent_there (q ∷ os) (None ∷ ps) (suc id) at o e x = extent_there os ps id at o e x
extent_there (q ∷ os) (Some p ∷ ps) zero at o e x =
    subst (λ a. Contains (extent p (size_of q) ∷ extents_of os ps) (extent a (size_of o))) (same_Some p at e)
    (subst (λ (y : Object). Contains (extent p (size_of q) ∷ extents_of os ps) (extent p (size_of y))) (same_Some q o x)
    (contains_first (extents_of os ps) (extent p (size_of q))))
extent_there (q ∷ os) (Some p ∷ ps) (suc id) at o e x =
    contains_later (extents_of os ps) (extent at (size_of o)) (extent p (size_of q)) (extent_there os ps id at o e x)

pub run_there : (objects : List Object) (addresses : List (Option Address)) (id : Id) (at : Address) (o : Object)
    → entry_at addresses id ≡ Some at → slice_get objects id ≡ Some o
    → Contains (in_order (extents_of objects addresses)) (extent at (size_of o))
run_there objects addresses id at o there object =
    contained_in_order (extents_of objects addresses) (extent at (size_of o)) (extent_there objects addresses id at o there object)

-- ---- they ascend

pub extents_apart : (objects : List Object) (addresses : List (Option Address))
    → ((i j : Id) (at bt : Address) (o p : Object) → i ≢ j → entry_at addresses i ≡ Some at → slice_get objects i ≡ Some o
    → entry_at addresses j ≡ Some bt → slice_get objects j ≡ Some p → AreApart (extent at (size_of o)) (extent bt (size_of p)))
    → AreAllApart (extents_of objects addresses)
extents_apart [] addresses each = tt
extents_apart (o ∷ os) [] each = tt
extents_apart (o ∷ os) (None ∷ ps) each =
    extents_apart os ps (λ i j at bt q p n e x e' x'. each (suc i) (suc j) at bt q p (λ h. n (omega (arith, h))) e x e' x')
extents_apart (o ∷ os) (Some at ∷ ps) each = (
  all_extents (AreApart (extent at (size_of o))) os ps (λ j bt p e x. each zero (suc j) at bt o p (λ h. omega (arith, h)) refl refl e x),
  extents_apart os ps (λ i j at bt q p n e x e' x'. each (suc i) (suc j) at bt q p (λ h. n (omega (arith, h))) e x e' x'),
)

module _ (s : Setting) (addresses : List (Option Address)) (placed : LieApart s addresses) where
  pub extents_ascend : IsAscending 0 s.size (in_order (extents_of s.objects addresses))
  extents_ascend =
      ascending_in_order s.size (extents_of s.objects addresses)
      (all_extents (IsRunWithin 0 s.size) s.objects addresses (λ id at o e x.
      let some = placed.positive id at o e x in
      record { above = omega arith; below = ends id at o e x some; some = some }))
      (extents_apart s.objects addresses (λ i j at bt o p n e x e' x' w c d.
      n (placed.apart i j (w - word_of at) (w - word_of bt) o p w
      (record { at = at; address = e; object = x; within = omega (arith, c.0, c.1); is = omega (arith, c.0) })
      (record { at = bt; address = e'; object = x'; within = omega (arith, d.0, d.1); is = omega (arith, d.0) }))))
    where
      ends : (id : Id) (at : Address) (o : Object) → entry_at addresses id ≡ Some at → slice_get s.objects id ≡ Some o → 0 < size_of o
          → word_of at + size_of o ≤ s.size
      ends id at o e x some =
          let last : word_of at + (size_of o - 1) < s.size =
          placed.within id (size_of o - 1) o (word_of at + (size_of o - 1))
          (record { at = at; address = e; object = x; within = omega (arith, some); is = refl })
          in
          omega (arith, some, last)
