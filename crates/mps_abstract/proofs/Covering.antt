-- Which segments hold something: a live block or a live reservation begins in them.
use Rattle.std.proofs.Common.{◌≡◌, ◌∙◌, zero, suc, ◌<◌, Bool, true, false, refl, sym, ap, List, [], ◌∷◌, ◌++◌, length, Option, Some, None, inl, inr, arith}
use Rattle.std.proofs.lemmas.Bool.{false≢true, or_cases, or_left, or_right}
use Rattle.std.proofs.lemmas.Option.{none-some, same_Some}
use Rattle.std.specs.Prelude.{◌||◌, not, if◌then◌else◌, nat_lt}
use Rattle.std.specs.List.{list_any}
use Rattle.std.specs.Option.{option_map_or}
use Rattle.mps_base.specs.Address.{Id, Address, word_of, address_of_word}
use Rattle.mps_base.specs.Run.{Run, with_run, in_order}
use Rattle.mps_base.specs.Segment.{Segment, is_in_segment}
use Rattle.mps_model.specs.Graph.{Object, entry_at}
use Rattle.mps_model.specs.Collection.{Collection}
use Rattle.mps_model.specs.World.{World, begins_in, extents_of, reserved_extents, covered, is_empty_segment, segment_at}
use Rattle.mps_model.specs.LegalMove.{holds_something}

-- ---- runs, in any order

regroup : (a b c : Bool) → (a || (b || c)) ≡ (b || (a || c))
regroup true true c = refl
regroup true false c = refl
regroup false b c = refl

list_any-with_run : (p : Run → Bool) (r : Run) (rs : List Run) → list_any p (with_run r rs) ≡ (p r || list_any p rs)
list_any-with_run p r [] = refl
list_any-with_run p r (s ∷ rs) =
    elim (nat_lt r.from s.from) as (λ b. list_any p (if b then r ∷ s ∷ rs else s ∷ with_run r rs) ≡ (p r || (p s || list_any p rs))) [
      | true ↦ refl
      | false ↦ ap (λ b. p s || b) (list_any-with_run p r rs) ∙ regroup (p s) (p r) (list_any p rs)
    ]

pub list_any-in_order : (p : Run → Bool) (rs : List Run) → list_any p (in_order rs) ≡ list_any p rs
list_any-in_order p [] = refl
list_any-in_order p (r ∷ rs) = list_any-with_run p r (in_order rs) ∙ ap (λ b. p r || b) (list_any-in_order p rs)

assoc : (a b c : Bool) → (a || (b || c)) ≡ ((a || b) || c)
assoc true b c = refl
assoc false b c = refl

pub list_any-append : {A : Type 0} (p : A → Bool) (xs ys : List A) → list_any p (xs ++ ys) ≡ (list_any p xs || list_any p ys)
list_any-append p [] ys = refl
list_any-append p (x ∷ xs) ys = ap (λ b. p x || b) (list_any-append p xs ys) ∙ assoc (p x) (list_any p xs) (list_any p ys)

-- ---- blocks that begin in a segment

-- whether a block at an address begins in a segment
abbrev pub begins_at : Segment → (at : Address) → Bool
begins_at s at = is_in_segment s (address_of_word (word_of at))

pub record HasBlock (os : List Object) (addresses : List (Option Address)) (s : Segment) : Type 0 where
  pub id : Id
  pub at : Address
  pub address : entry_at addresses id ≡ Some at
  pub begins : begins_at s at ≡ true
  pub exists : id < length os

pub has_block : (os : List Object) (addresses : List (Option Address)) (s : Segment)
    → list_any (begins_in s) (extents_of os addresses) ≡ true
    → HasBlock os addresses s
has_block [] addresses s h = absurd (false≢true h)
has_block (o ∷ os) [] s h = absurd (false≢true h)
has_block (o ∷ os) (None ∷ ps) s h =
    let b = has_block os ps s h in
    record { id = suc b.id; at = b.at; address = b.address; begins = b.begins; exists = let e = b.exists in omega (arith, e) }
has_block (o ∷ os) (Some p ∷ ps) s h = elim (or_cases (begins_at s p) (list_any (begins_in s) (extents_of os ps)) h) [
  | inl e ↦ record { id = zero; at = p; address = refl; begins = e; exists = omega arith }
  | inr e ↦
      let b = has_block os ps s e in
      record { id = suc b.id; at = b.at; address = b.address; begins = b.begins; exists = let f = b.exists in omega (arith, f) }
]

pub any_block : (os : List Object) (addresses : List (Option Address)) (s : Segment) (id : Id) (at : Address)
    → entry_at addresses id ≡ Some at → begins_at s at ≡ true → id < length os → list_any (begins_in s) (extents_of os addresses) ≡ true
any_block [] addresses s id at p b h = absurd (omega (arith, h))
any_block (o ∷ os) [] s id at p b h = absurd (none-some at p)
any_block (o ∷ os) (None ∷ ps) s zero at p b h = absurd (none-some at p)
any_block (o ∷ os) (None ∷ ps) s (suc id) at p b h = any_block os ps s id at p b (omega (arith, h))
any_block (o ∷ os) (Some q ∷ ps) s zero at p b h =
    or_left (begins_at s q) (list_any (begins_in s) (extents_of os ps)) (ap (begins_at s) (same_Some q at p) ∙ b)
any_block (o ∷ os) (Some q ∷ ps) s (suc id) at p b h =
    or_right (begins_at s q) (list_any (begins_in s) (extents_of os ps)) (any_block os ps s id at p b (omega (arith, h)))

-- ---- what still holds something after objects have gone

not_not : (b : Bool) → not (not b) ≡ b
not_not true = refl
not_not false = refl

module _ (w : World) (addresses : List (Option Address)) (segments : List Segment) (running : Option Collection) where
  abbrev without : World
  without = record w { addresses = addresses; segments = segments; collection = running }

  module _ (t : Segment)
      (stays : (id : Id) (at : Address) → entry_at w.addresses id ≡ Some at → begins_at t at ≡ true → entry_at addresses id ≡ Some at) where
    still_covered : list_any (begins_in t) (covered w) ≡ true → list_any (begins_in t) (covered without) ≡ true
    still_covered h =
        let reserved = reserved_extents w.graph.points w.point_memories in
        let before = extents_of w.graph.objects w.addresses in
        let after = extents_of w.graph.objects addresses in
        list_any-in_order (begins_in t) (after ++ reserved)
        ∙ list_any-append (begins_in t) after reserved
        ∙ elim (or_cases (list_any (begins_in t) before) (list_any (begins_in t) reserved)
        (sym (list_any-append (begins_in t) before reserved) ∙ (sym (list_any-in_order (begins_in t) (before ++ reserved)) ∙ h))) [
          | inl e ↦
              let b = has_block w.graph.objects w.addresses t e in
              or_left (list_any (begins_in t) after) (list_any (begins_in t) reserved)
              (any_block w.graph.objects addresses t b.id b.at (stays b.id b.at b.address b.begins) b.begins b.exists)
          | inr e ↦ or_right (list_any (begins_in t) after) (list_any (begins_in t) reserved) e
        ]

    still_not_empty : not (is_empty_segment w t) ≡ true → not (is_empty_segment without t) ≡ true
    still_not_empty h =
        not_not (list_any (begins_in t) (covered without)) ∙ still_covered (sym (not_not (list_any (begins_in t) (covered w))) ∙ h)

  -- where none that begins in it has gone, a segment holds something still
  pub still_holds : (base : Address) → segment_at without base ≡ segment_at w base
      → ((t : Segment) → segment_at w base ≡ Some t → (id : Id) (at : Address) → entry_at w.addresses id ≡ Some at → begins_at t at ≡ true
      → entry_at addresses id ≡ Some at)
      → holds_something w base ≡ true → holds_something without base ≡ true
  still_holds base same stays h =
      ap (λ o. option_map_or (λ t. not (is_empty_segment without t)) o false) same ∙ of_segment (segment_at w base) refl h
    where
      of_segment : (o : Option Segment) → segment_at w base ≡ o → option_map_or (λ t. not (is_empty_segment w t)) o false ≡ true
          → option_map_or (λ t. not (is_empty_segment without t)) o false ≡ true
      of_segment None e held = absurd (false≢true held)
      of_segment (Some t) e held = still_not_empty t (stays t e) held
