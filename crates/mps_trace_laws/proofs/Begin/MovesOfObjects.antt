-- Three moves for each two words are enough for each object.
use Rattle.std.proofs.Common.{◌≡◌, ℕ, suc, ◌+◌, ◌-◌, ◌*◌, ◌≤◌, Bool, true, false, List, [], ◌∷◌, Option, Some, None, Contains, refl, arith}
use Rattle.std.proofs.lemmas.Bool.{true≢false}
use Rattle.std.specs.Prelude.{if◌then◌else◌}
use Rattle.mps_base.specs.Address.{Address}
use Rattle.mps_base.specs.Run.{Run, in_order, total}
use Rattle.mps_base.proofs.Runs.{total-cons, total-le, total-with_run}
use Rattle.mps_model.specs.Graph.{Object, is_automatic, is_weak_object, size_of}
use Rattle.mps_model.specs.World.{extent, extents_of}
use Rattle.mps_trace_laws.specs.Begin.MovesOfObjects.{IsRoomy, RoomIsEnough, moves_of, moves_of_object}

total-in_order : (rs : List Run) → total (in_order rs) ≡ total rs
total-in_order [] = refl
total-in_order (r ∷ rs) =
    let rest = total-in_order rs in
    let put = total-with_run r (in_order rs) in
    let cons = total-cons r rs in
    omega (arith, rest, put, cons)

-- for one object
for_one : (is_copying : ℕ → Bool) (o : Object) → IsRoomy is_copying o → 2 * moves_of_object is_copying o ≤ 3 * size_of o
for_one is_copying o roomy = by_kind (is_automatic o) (is_copying o.pool) (is_weak_object o) (size_of o) roomy.large roomy.strong
  where
    by_kind : (automatic moving weak : Bool) (size : ℕ) → (automatic ≡ true → 2 ≤ size) → (moving ≡ true → weak ≡ false)
        → 2 * (if automatic then (if moving then 3 else 1) + (if weak then size - 1 else 0) else 0) ≤ 3 * size
    by_kind true true true size large strong = absurd (true≢false (strong refl))
    by_kind true true false size large strong = let two = large refl in omega (arith, two)
    by_kind true false true size large strong = let two = large refl in omega (arith, two)
    by_kind true false false size large strong = let two = large refl in omega (arith, two)
    by_kind false moving weak size large strong = omega arith

later_object : (o p : Object) (os : List Object) → Contains os p → Contains (o ∷ os) p
later_object o p os (k, within, is) = (suc k, omega (arith, within), is)

first_object : (o : Object) (os : List Object) → Contains (o ∷ os) o
first_object o os = (0, omega arith, refl)

-- two moves take three words of what is live
pub moves_by_words : (is_copying : ℕ → Bool) (objects : List Object) (addresses : List (Option Address))
    → ((o : Object) → Contains objects o → IsRoomy is_copying o)
    → 2 * moves_of is_copying objects addresses ≤ 3 * total (extents_of objects addresses)
moves_by_words is_copying [] addresses roomy = omega arith
moves_by_words is_copying (o ∷ os) [] roomy = omega arith
moves_by_words is_copying (o ∷ os) (None ∷ addresses) roomy =
    moves_by_words is_copying os addresses (λ p there. roomy p (later_object o p os there))
moves_by_words is_copying (o ∷ os) (Some at ∷ addresses) roomy =
    let one = for_one is_copying o (roomy o (first_object o os)) in
    let rest = moves_by_words is_copying os addresses (λ p there. roomy p (later_object o p os there)) in
    let cons = total-cons (extent at (size_of o)) (extents_of os addresses) in
    omega (arith, one, rest, cons)

pub room_is_enough : RoomIsEnough
room_is_enough is_copying objects addresses first_word end_word ascending roomy =
    let few = total-le first_word end_word (in_order (extents_of objects addresses)) ascending in
    let same = total-in_order (extents_of objects addresses) in
    let taken = moves_by_words is_copying objects addresses roomy in
    omega (arith, few, same, taken)
