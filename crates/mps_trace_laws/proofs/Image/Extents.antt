-- The extents of live blocks and of live reservations, one by one, and one among the others.
use Rattle.std.proofs.Common.{◌≡◌, ◌∙◌, ℕ, zero, suc, refl, sym, ap, List, [], ◌∷◌, ◌++◌, length, Bool, true, false, Option, Some, None, subst, arith}
use Rattle.std.proofs.lemmas.Option.{none-some, same_Some}
use Rattle.std.proofs.lemmas.List.{append_assoc}
use Rattle.std.specs.Prelude.{slice_get, slice_set, ◌≢◌, option_and_then, if◌then◌else◌}
use Rattle.std.specs.List.{AllByRecursion}
use Rattle.mps_base.specs.Address.{Address, Id}
use Rattle.mps_base.specs.Run.{Run}
use Rattle.mps_model.specs.Graph.{Object, Point, Reservation, entry_at, size_of, is_live_reservation}
use Rattle.mps_model.specs.World.{PointMemory, extent, extents_of, extent_of_reservation, reserved_extents}
use Rattle.mps_trace_laws.specs.Image.Memory.{live_reservation}
use Rattle.mps_laws.proofs.InOrder.{all_append}

-- ---- blocks

-- a fact of the extent of each live object
pub all_extents : (P : Run → Type 0) (objects : List Object) (addresses : List (Option Address))
    → ((id : Id) (at : Address) (o : Object) → entry_at addresses id ≡ Some at → slice_get objects id ≡ Some o → P (extent at (size_of o)))
    → AllByRecursion P (extents_of objects addresses)
all_extents P [] addresses f = tt
all_extents P (o ∷ os) [] f = tt
all_extents P (o ∷ os) (None ∷ ps) f = all_extents P os ps (λ id at p e x. f (suc id) at p e x)
all_extents P (o ∷ os) (Some q ∷ ps) f = (f zero q o refl refl, all_extents P os ps (λ id at p e x. f (suc id) at p e x))

-- the extents before and after that of one object
pub record Parted (objects : List Object) (addresses : List (Option Address)) (id : Id) (at : Address) (size : ℕ) : Type 1 where
  pub before : List Run
  pub after : List Run
  pub is : extents_of objects addresses ≡ before ++ extent at size ∷ after
  pub moved : (to : Address) → extents_of objects (slice_set addresses id (Some to)) ≡ before ++ extent to size ∷ after
  pub gone : extents_of objects (slice_set addresses id None) ≡ before ++ after
  pub others : (P : Run → Type 0) → ((j : Id) (bt : Address) (p : Object) → j ≢ id → entry_at addresses j ≡ Some bt
      → slice_get objects j ≡ Some p → P (extent bt (size_of p))) → AllByRecursion P before × AllByRecursion P after

later : {n m : ℕ} → n ≢ m → suc n ≢ suc m
later x e = x (omega (arith, e))

parted_later : (o : Object) (os : List Object) (p : Option Address) (ps : List (Option Address)) (id at size : ℕ) → Parted os ps id at size
    → Parted (o ∷ os) (p ∷ ps) (suc id) at size
parted_later o os None ps id at size s = record {
  before = s.before;
  after = s.after;
  is = s.is;
  moved = s.moved;
  gone = s.gone;
  others = λ P f. s.others P (λ j bt p x e h. f (suc j) bt p (later x) e h);
}
parted_later o os (Some q) ps id at size s = record {
  before = extent q (size_of o) ∷ s.before;
  after = s.after;
  is = ap (λ rs. extent q (size_of o) ∷ rs) s.is;
  moved = λ to. ap (λ rs. extent q (size_of o) ∷ rs) (s.moved to);
  gone = ap (λ rs. extent q (size_of o) ∷ rs) s.gone;
  others = λ P f.
      let rest = s.others P (λ j bt p x e h. f (suc j) bt p (later x) e h) in
      ((f zero q o (λ e. omega (arith, e)) refl refl, rest.0), rest.1);
}

parted_here : (o : Object) (os : List Object) (p : Option Address) (ps : List (Option Address)) (at : Address) → p ≡ Some at
    → Parted (o ∷ os) (p ∷ ps) zero at (size_of o)
parted_here o os None ps at e = absurd (none-some at e)
parted_here o os (Some q) ps at e = record {
  before = [];
  after = extents_of os ps;
  is = ap (λ n. extent n (size_of o) ∷ extents_of os ps) (same_Some q at e);
  moved = λ to. refl;
  gone = refl;
  others = λ P f. (tt, all_extents P os ps (λ j bt p e' h. f (suc j) bt p (λ x. omega (arith, x)) e' h));
}

pub parted : (objects : List Object) (addresses : List (Option Address)) (id : Id) (at : Address) (o : Object)
    → slice_get objects id ≡ Some o
    → entry_at addresses id ≡ Some at → Parted objects addresses id at (size_of o)
parted [] addresses id at o e p = absurd (none-some o e)
parted (q ∷ os) [] id at o e p = absurd (none-some at p)
parted (q ∷ os) (r ∷ ps) zero at o e p =
    subst (λ (x : Object). Parted (q ∷ os) (r ∷ ps) zero at (size_of x)) (same_Some q o e) (parted_here q os r ps at p)
parted (q ∷ os) (r ∷ ps) (suc id) at o e p = parted_later q os r ps id at (size_of o) (parted os ps id at o e p)

-- one object more
pub extents_made : (objects : List Object) (addresses : List (Option Address)) (o : Object) (at : Address)
    → length addresses ≡ length objects
    → extents_of (objects ++ o ∷ []) (addresses ++ Some at ∷ []) ≡ extents_of objects addresses ++ extent at (size_of o) ∷ []
extents_made [] [] o at long = refl
extents_made [] (p ∷ ps) o at long = absurd (omega (arith, long))
extents_made (q ∷ os) [] o at long = absurd (omega (arith, long))
extents_made (q ∷ os) (None ∷ ps) o at long = extents_made os ps o at (omega (arith, long))
extents_made (q ∷ os) (Some p ∷ ps) o at long = ap (λ rs. extent p (size_of q) ∷ rs) (extents_made os ps o at (omega (arith, long)))

-- ---- reservations

-- the extent of a live reservation
reserved_one : (r : Option Reservation) (m : PointMemory) (P : Run → Type 0)
    → ((q : Reservation) → r ≡ Some q → is_live_reservation q ≡ true → P (extent m.reserved_at (length q.cells)))
    → AllByRecursion P (extent_of_reservation r m)
reserved_one None m P f = tt
reserved_one (Some r) m P f = go (is_live_reservation r) refl
  where
    go : (b : Bool) → is_live_reservation r ≡ b
        → AllByRecursion P (if b then extent m.reserved_at (length r.cells) ∷ [] else [])
    go true e = (f r refl e, tt)
    go false e = tt

live_is : (p : Point) (q : Reservation) → p.reservation ≡ Some q → is_live_reservation q ≡ true → live_reservation (Some p) ≡ Some q
live_is p q e live =
    ap (option_and_then (λ r. if is_live_reservation r then Some r else None)) e
    ∙ ap (λ b. if b then Some q else None) live

-- a fact of the extent of each live reservation
pub all_reserved : (P : Run → Type 0) (points : List (Option Point)) (memories : List PointMemory)
    → ((i : ℕ) (r : Reservation) (m : PointMemory) → live_reservation (entry_at points i) ≡ Some r → slice_get memories i ≡ Some m
    → P (extent m.reserved_at (length r.cells))) → AllByRecursion P (reserved_extents points memories)
all_reserved P [] memories f = tt
all_reserved P (p ∷ ps) [] f = tt
all_reserved P (None ∷ ps) (m ∷ ms) f = all_reserved P ps ms (λ i r n e h. f (suc i) r n e h)
all_reserved P (Some p ∷ ps) (m ∷ ms) f =
    all_append P (extent_of_reservation p.reservation m) (reserved_extents ps ms)
    (reserved_one p.reservation m P (λ q e live. f zero q m (live_is p q e live) refl))
    (all_reserved P ps ms (λ i r n e h. f (suc i) r n e h))

-- the extent of a point's live reservation, where it has one
abbrev pub reserved_extent : Option Point → PointMemory → List Run
reserved_extent None m = []
reserved_extent (Some p) m = extent_of_reservation p.reservation m

-- the extents before and after that of one point
pub record PartedPoints (points : List (Option Point)) (memories : List PointMemory) (i : ℕ) (point : Option Point) (memory : PointMemory)
    : Type 1 where
  pub before : List Run
  pub after : List Run
  pub is : reserved_extents points memories ≡ before ++ (reserved_extent point memory ++ after)
  pub set : (new : Option Point) (there : PointMemory)
      → reserved_extents (slice_set points i new) (slice_set memories i there) ≡ before ++ (reserved_extent new there ++ after)
  pub others : (P : Run → Type 0) → ((j : ℕ) (r : Reservation) (m : PointMemory) → j ≢ i → live_reservation (entry_at points j) ≡ Some r
      → slice_get memories j ≡ Some m → P (extent m.reserved_at (length r.cells))) → AllByRecursion P before × AllByRecursion P after

first_point : (q : Option Point) (ps : List (Option Point)) (m : PointMemory) (ms : List PointMemory)
    → reserved_extents (q ∷ ps) (m ∷ ms) ≡ reserved_extent q m ++ reserved_extents ps ms
first_point None ps m ms = refl
first_point (Some p) ps m ms = refl

all_first : (P : Run → Type 0) (q : Option Point) (m : PointMemory)
    → ((r : Reservation) → live_reservation q ≡ Some r → P (extent m.reserved_at (length r.cells))) → AllByRecursion P (reserved_extent q m)
all_first P None m f = tt
all_first P (Some p) m f = reserved_one p.reservation m P (λ q e live. f q (live_is p q e live))

pub parted_points : (points : List (Option Point)) (memories : List PointMemory) (i : ℕ) (point : Option Point) (memory : PointMemory)
    → slice_get points i ≡ Some point → slice_get memories i ≡ Some memory → PartedPoints points memories i point memory
parted_points [] memories i point memory e h = absurd (none-some point e)
parted_points (q ∷ ps) [] i point memory e h = absurd (none-some memory h)
parted_points (q ∷ ps) (m ∷ ms) zero point memory e h = record {
  before = [];
  after = reserved_extents ps ms;
  is =
      first_point q ps m ms
      ∙ ap (λ x. reserved_extent x m ++ reserved_extents ps ms) (same_Some q point e)
      ∙ ap (λ x. reserved_extent point x ++ reserved_extents ps ms) (same_Some m memory h);
  set = λ new there. first_point new ps there ms;
  others = λ P f. (tt, all_reserved P ps ms (λ j r n x y. f (suc j) r n (λ z. omega (arith, z)) x y));
}
parted_points (q ∷ ps) (m ∷ ms) (suc i) point memory e h =
    let s = parted_points ps ms i point memory e h in
    record {
      before = reserved_extent q m ++ s.before;
      after = s.after;
      is =
          first_point q ps m ms ∙ ap (λ rs. reserved_extent q m ++ rs) s.is
          ∙ sym (append_assoc (reserved_extent q m) s.before (reserved_extent point memory ++ s.after));
      set = λ new there.
          first_point q (slice_set ps i new) m (slice_set ms i there) ∙ ap (λ rs. reserved_extent q m ++ rs) (s.set new there)
          ∙ sym (append_assoc (reserved_extent q m) s.before (reserved_extent new there ++ s.after));
      others = λ P f.
          let rest = s.others P (λ j r n x y z. f (suc j) r n (later x) y z) in (
            all_append P (reserved_extent q m) s.before (all_first P q m (λ r x. f zero r m (λ z. omega (arith, z)) x refl)) rest.0,
            rest.1,
          );
    }
