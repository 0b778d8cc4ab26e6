-- No two objects of a well-formed world have one address: each has words, and what lies somewhere lies apart from all else.
use Rattle.std.proofs.Common.{◌≡◌, ◌⊎◌, ℕ, zero, suc, ◌≤◌, true, false, refl, ap, List, [], ◌∷◌, ◌++◌, length, Option, Some, None, subst, inl, inr, arith}
use Rattle.std.proofs.lemmas.Bool.{and_parts, leb-true}
use Rattle.std.proofs.lemmas.Option.{none-some, same_Some}
use Rattle.std.specs.Prelude.{if◌then◌else◌, nat_le, nat_lt, slice_get}
use Rattle.mps_base.specs.Address.{Address}
use Rattle.mps_base.specs.Run.{Run, end_of, with_run, in_order}
use Rattle.mps_model.specs.Graph.{Object, entry_at, size_of}
use Rattle.mps_model.specs.World.{World, extent, extents_of, reserved_extents, covered}
use Rattle.mps_model.specs.WellFormed.{IsWellFormed, are_apart, at_hand, is_right_object}
use Rattle.mps_abstract.specs.Colours.{AreDifferent}
use Rattle.mps_abstract.proofs.RightObjects.{object_has_words}
use Rattle.mps_abstract.proofs.Calls.ClientThings.{list_all-at}

-- ---- runs that lie apart

-- a run is among these
abbrev IsRunAmong : Run → List Run → Type 0
IsRunAmong r [] = ⊥
IsRunAmong r (s ∷ rs) = (s ≡ r) ⊎ IsRunAmong r rs

-- one ends where the other begins, or before
abbrev LieApart : Run → Run → Type 0
LieApart r s = (end_of r ≤ s.from) ⊎ (end_of s ≤ r.from)

abbrev ArePairwiseApart : List Run → Type 0
ArePairwiseApart [] = Unit {0}
ArePairwiseApart (r ∷ rs) = ((s : Run) → IsRunAmong s rs → LieApart r s) × ArePairwiseApart rs

turned : (r s : Run) → LieApart r s → LieApart s r
turned r s (inl h) = inr h
turned r s (inr h) = inl h

-- in ascending order each ends before all later ones
ends_before : (r : Run) (rs : List Run) → are_apart (r ∷ rs) ≡ true → (s : Run) → IsRunAmong s rs → end_of r ≤ s.from
ends_before r [] h s among = absurd among
ends_before r (t ∷ rs) h s among =
    let parts = and_parts (nat_le (end_of r) t.from) (are_apart (t ∷ rs)) h in
    let first = leb-true (end_of r) t.from parts.0 in
    elim among [
      | inl same ↦ subst (λ (u : Run). end_of r ≤ u.from) same first
      | inr later ↦ let rest = ends_before t rs parts.1 s later in omega (arith, first, rest)
    ]

apart_pairwise : (rs : List Run) → are_apart rs ≡ true → ArePairwiseApart rs
apart_pairwise [] h = tt
apart_pairwise (r ∷ []) h = ((λ s none. absurd none), tt)
apart_pairwise (r ∷ s ∷ rs) h = (
  (λ t among. inl (ends_before r (s ∷ rs) h t among)),
  apart_pairwise (s ∷ rs) (and_parts (nat_le (end_of r) s.from) (are_apart (s ∷ rs)) h).1,
)

-- ---- one more run

it_is_among : (r : Run) (rs : List Run) → IsRunAmong r (with_run r rs)
it_is_among r [] = inl refl
it_is_among r (s ∷ rs) = elim (nat_lt r.from s.from) as (λ b. IsRunAmong r (if b then r ∷ s ∷ rs else s ∷ with_run r rs)) [
  | true ↦ inl refl
  | false ↦ inr (it_is_among r rs)
]

others_among : (r t : Run) (rs : List Run) → IsRunAmong t rs → IsRunAmong t (with_run r rs)
others_among r t [] h = absurd h
others_among r t (s ∷ rs) h = elim (nat_lt r.from s.from) as (λ b. IsRunAmong t (if b then r ∷ s ∷ rs else s ∷ with_run r rs)) [
  | true ↦ inr h
  | false ↦ elim h [ inl same ↦ inl same | inr later ↦ inr (others_among r t rs later) ]
]

taken_out : (r : Run) (rs : List Run) → ArePairwiseApart (with_run r rs)
    → ((s : Run) → IsRunAmong s rs → LieApart r s) × ArePairwiseApart rs
taken_out r [] h = ((λ s none. absurd none), tt)
taken_out r (t ∷ rs) h =
    elim (nat_lt r.from t.from) as (λ b. ArePairwiseApart (if b then r ∷ t ∷ rs else t ∷ with_run r rs)
    → ((s : Run) → IsRunAmong s (t ∷ rs) → LieApart r s) × ArePairwiseApart (t ∷ rs)) [
      | true ↦ (λ g. g)
      | false ↦ (λ g.
          let rest = taken_out r rs g.1 in (
            (λ s among. elim among [
              | inl same ↦ subst (λ (u : Run). LieApart r u) same (turned t r (g.0 r (it_is_among r rs)))
              | inr later ↦ rest.0 s later
            ]),
            ((λ s among. g.0 s (others_among r s rs among)), rest.1),
          ))
    ] h

among_in_order : (t : Run) (rs : List Run) → IsRunAmong t rs → IsRunAmong t (in_order rs)
among_in_order t [] h = absurd h
among_in_order t (r ∷ rs) (inl same) = subst (λ (u : Run). IsRunAmong u (with_run r (in_order rs))) same (it_is_among r (in_order rs))
among_in_order t (r ∷ rs) (inr later) = others_among r t (in_order rs) (among_in_order t rs later)

-- what is apart in order is apart
pairwise_of_order : (rs : List Run) → ArePairwiseApart (in_order rs) → ArePairwiseApart rs
pairwise_of_order [] h = tt
pairwise_of_order (r ∷ rs) h =
    let out = taken_out r (in_order rs) h in
    ((λ s among. out.0 s (among_in_order s rs among)), pairwise_of_order rs out.1)

among_first : (t : Run) (rs ss : List Run) → IsRunAmong t rs → IsRunAmong t (rs ++ ss)
among_first t [] ss h = absurd h
among_first t (r ∷ rs) ss (inl same) = inl same
among_first t (r ∷ rs) ss (inr later) = inr (among_first t rs ss later)

first_pairwise : (rs ss : List Run) → ArePairwiseApart (rs ++ ss) → ArePairwiseApart rs
first_pairwise [] ss h = tt
first_pairwise (r ∷ rs) ss h = ((λ s among. h.0 s (among_first s rs ss among)), first_pairwise rs ss h.1)

-- ---- addresses

-- the extent of an object that lies somewhere
record IsExtentAt (os : List Object) (addresses : List (Option Address)) (at : Address) : Type 0 where
  words : ℕ
  some : 1 ≤ words
  among : IsRunAmong (extent at words) (extents_of os addresses)

extent_at : (os : List Object) (addresses : List (Option Address)) (j : ℕ) (at : Address) → length addresses ≡ length os
    → ((i : ℕ) (o : Object) → slice_get os i ≡ Some o → 1 ≤ size_of o) → entry_at addresses j ≡ Some at → IsExtentAt os addresses at
extent_at [] [] j at same words e = absurd (none-some at e)
extent_at [] (a ∷ addresses) j at same words e = absurd (omega (arith, same))
extent_at (o ∷ os) [] j at same words e = absurd (none-some at e)
extent_at (o ∷ os) (None ∷ addresses) zero at same words e = absurd (none-some at e)
extent_at (o ∷ os) (Some a ∷ addresses) zero at same words e = record {
  words = size_of o;
  some = words 0 o refl;
  among = inl (ap (λ n. extent n (size_of o)) (same_Some a at e));
}
extent_at (o ∷ os) (None ∷ addresses) (suc j) at same words e =
    let rest = extent_at os addresses j at (omega (arith, same)) (λ i q h. words (suc i) q h) e in
    record { words = rest.words; some = rest.some; among = rest.among }
extent_at (o ∷ os) (Some a ∷ addresses) (suc j) at same words e =
    let rest = extent_at os addresses j at (omega (arith, same)) (λ i q h. words (suc i) q h) e in
    record { words = rest.words; some = rest.some; among = inr rest.among }

not_at_one : (at these those : ℕ) → 1 ≤ these → 1 ≤ those → LieApart (extent at these) (extent at those) → ⊥
not_at_one at these those a b (inl h) = omega (arith, a, h)
not_at_one at these those a b (inr h) = omega (arith, b, h)

first_alone : (o : Object) (os : List Object) (a at : Address) (addresses : List (Option Address)) (j : ℕ) → length addresses ≡ length os
    → ((i : ℕ) (q : Object) → slice_get (o ∷ os) i ≡ Some q → 1 ≤ size_of q)
    → ((s : Run) → IsRunAmong s (extents_of os addresses) → LieApart (extent a (size_of o)) s) → a ≡ at → entry_at addresses j ≡ Some at → ⊥
first_alone o os a at addresses j same words apart here e =
    let other = extent_at os addresses j at same (λ i q h. words (suc i) q h) e in
    not_at_one at (size_of o) other.words (words 0 o refl) other.some
    (subst (λ n. LieApart (extent n (size_of o)) (extent at other.words)) here (apart (extent at other.words) other.among))

different_extents : (os : List Object) (addresses : List (Option Address)) → length addresses ≡ length os
    → ((i : ℕ) (o : Object) → slice_get os i ≡ Some o → 1 ≤ size_of o) → ArePairwiseApart (extents_of os addresses) → AreDifferent addresses
different_extents [] [] same words apart i j at e f = absurd (none-some at e)
different_extents [] (a ∷ addresses) same words apart i j at e f = absurd (omega (arith, same))
different_extents (o ∷ os) [] same words apart i j at e f = absurd (none-some at e)
different_extents (o ∷ os) (None ∷ addresses) same words apart zero j at e f = absurd (none-some at e)
different_extents (o ∷ os) (None ∷ addresses) same words apart (suc i) zero at e f = absurd (none-some at f)
different_extents (o ∷ os) (None ∷ addresses) same words apart (suc i) (suc j) at e f =
    ap suc (different_extents os addresses (omega (arith, same)) (λ n q h. words (suc n) q h) apart i j at e f)
different_extents (o ∷ os) (Some a ∷ addresses) same words apart zero zero at e f = refl
different_extents (o ∷ os) (Some a ∷ addresses) same words apart zero (suc j) at e f =
    absurd (first_alone o os a at addresses j (omega (arith, same)) words apart.0 (same_Some a at e) f)
different_extents (o ∷ os) (Some a ∷ addresses) same words apart (suc i) zero at e f =
    absurd (first_alone o os a at addresses i (omega (arith, same)) words apart.0 (same_Some a at f) e)
different_extents (o ∷ os) (Some a ∷ addresses) same words apart (suc i) (suc j) at e f =
    ap suc (different_extents os addresses (omega (arith, same)) (λ n q h. words (suc n) q h) apart.1 i j at e f)

pub well_formed_different : (w : World) → IsWellFormed w → AreDifferent w.addresses
well_formed_different w formed =
    different_extents w.graph.objects w.addresses formed.addresses
    (λ i o h. object_has_words w o (list_all-at (is_right_object w) w.graph.objects i o formed.objects h))
    (first_pairwise (extents_of w.graph.objects w.addresses) (reserved_extents w.graph.points w.point_memories)
    (pairwise_of_order (extents_of w.graph.objects w.addresses ++ reserved_extents w.graph.points w.point_memories)
    (first_pairwise (covered w) (at_hand w)
    (pairwise_of_order (covered w ++ at_hand w) (apart_pairwise (in_order (covered w ++ at_hand w)) formed.apart)))))
