-- Held segments of a well-formed world: their bases ascend, and an address lies in one of them at the most.
use Rattle.std.proofs.Common.{◌≡◌, ◌∙◌, ◌⊎◌, ◌<◌, ◌≤◌, Bool, true, false, refl, sym, ap, List, [], ◌∷◌, Some, subst, inl, inr, arith, map}
use Rattle.std.proofs.lemmas.Bool.{false≢true, and_parts, and_from, or_cases, or_left, or_right, eqb-true, eq-eqb, ne_eqb, leb-true, ltb-true, lt-ltb, le-ltb, and_right}
use Rattle.std.specs.Prelude.{◌==◌, ◌&&◌, ◌||◌, not, if◌then◌else◌, filter, find, nat_le, nat_lt}
use Rattle.std.specs.List.{list_all, list_any}
use Rattle.mps_base.specs.Address.{Address, address_of_grain}
use Rattle.mps_base.specs.Run.{end_of}
use Rattle.mps_base.specs.Segment.{Segment, is_in_segment, end_of_segment, grains_of_segment, segment_over}
use Rattle.mps_model.specs.Graph.{contains}
use Rattle.mps_model.specs.World.{World, pool_is, is_weak_kind}
use Rattle.mps_model.specs.Making.{is_weak_rank}
use Rattle.mps_model.specs.Units.{is_ascending}
use Rattle.mps_abstract.specs.ClientLaws.{AreApartFrom}
use Rattle.mps_model.specs.WellFormed.{IsWellFormed, is_right_segment, are_apart, lies_within}

-- a segment is among these
abbrev pub IsAmong : Segment → List Segment → Type 0
IsAmong s [] = ⊥
IsAmong s (t ∷ ts) = (t ≡ s) ⊎ IsAmong s ts

abbrev bases : List Segment → List Address
bases ss = map (λ (s : Segment). s.base) ss

-- ---- of a well-formed world

-- a right segment has grains, and begins with one of them
pub record HasGrains (s : Segment) : Type 0 where
  pub aligned : address_of_grain (grains_of_segment s).from ≡ s.base
  pub some : 0 < s.grains
  pub first : 1 ≤ (grains_of_segment s).from

has_grains : (w : World) (s : Segment) → is_right_segment w s ≡ true → HasGrains s
has_grains w s h =
    let all = and_parts (address_of_grain (grains_of_segment s).from == s.base && nat_lt 0 s.grains
    && lies_within (record { from = 1; count = w.grains }) (grains_of_segment s))
    (not (is_weak_rank s.rank) || pool_is is_weak_kind w s.pool) h in
    let three = and_parts (address_of_grain (grains_of_segment s).from == s.base && nat_lt 0 s.grains)
    (lies_within (record { from = 1; count = w.grains }) (grains_of_segment s)) all.0 in
    let two = and_parts (address_of_grain (grains_of_segment s).from == s.base) (nat_lt 0 s.grains) three.0 in
    let within = and_parts (nat_le 1 (grains_of_segment s).from)
    (nat_le (end_of (grains_of_segment s)) (end_of (record { from = 1; count = w.grains }))) three.1 in
    record {
      aligned = eqb-true (address_of_grain (grains_of_segment s).from) s.base two.0;
      some = ltb-true 0 s.grains two.1;
      first = leb-true 1 (grains_of_segment s).from within.0;
    }

ordered_from : (w : World) (from : Address) (s : Segment) (ss : List Segment) → list_all (is_right_segment w) (s ∷ ss) ≡ true
    → are_apart (map grains_of_segment (s ∷ ss)) ≡ true → from ≤ s.base → AreApartFrom from (s ∷ ss)
ordered_from w from s [] all apart low =
    let h = has_grains w s (and_parts (is_right_segment w s) true all).0 in
    (low, (let n = h.some in omega (arith, n)), tt)
ordered_from w from s (t ∷ ts) all apart low =
    let parts = and_parts (is_right_segment w s) (list_all (is_right_segment w) (t ∷ ts)) all in
    let h = has_grains w s parts.0 in
    let g = has_grains w t (and_parts (is_right_segment w t) (list_all (is_right_segment w) ts) parts.1).0 in
    let next = and_parts (nat_le (end_of (grains_of_segment s)) (grains_of_segment t).from)
    (are_apart (map grains_of_segment (t ∷ ts))) apart in
    let ends = leb-true (end_of (grains_of_segment s)) (grains_of_segment t).from next.0 in (
      low,
      (let n = h.some in omega (arith, n)),
      ordered_from w (end_of_segment s) t ts parts.1 next.1 (let a = h.aligned in let b = g.aligned in omega (arith, ends, a, b)),
    )

ordered : (w : World) (ss : List Segment) → list_all (is_right_segment w) ss ≡ true → are_apart (map grains_of_segment ss) ≡ true
    → AreApartFrom 1 ss
ordered w [] all apart = tt
ordered w (s ∷ ss) all apart =
    let h = has_grains w s (and_parts (is_right_segment w s) (list_all (is_right_segment w) ss) all).0 in
    ordered_from w 1 s ss all apart (let a = h.aligned in let b = h.first in omega (arith, a, b))

-- the segments of a well-formed world are ordered
pub segments_ordered : (w : World) → IsWellFormed w → AreApartFrom 1 w.segments
segments_ordered w f =
    let parts = and_parts (list_all (is_right_segment w) w.segments) (are_apart (map grains_of_segment w.segments)) f.segments in
    ordered w w.segments parts.0 parts.1

all_among : (w : World) (s : Segment) (ss : List Segment) → list_all (is_right_segment w) ss ≡ true → IsAmong s ss
    → is_right_segment w s ≡ true
all_among w s [] all h = absurd h
all_among w s (t ∷ ts) all (inl e) =
    subst (λ (u : Segment). is_right_segment w u ≡ true) e (and_parts (is_right_segment w t) (list_all (is_right_segment w) ts) all).0
all_among w s (t ∷ ts) all (inr h) = all_among w s ts (and_parts (is_right_segment w t) (list_all (is_right_segment w) ts) all).1 h

-- and have grains
pub segment_has_grains : (w : World) → IsWellFormed w → (s : Segment) → IsAmong s w.segments → HasGrains s
segment_has_grains w f s h =
    has_grains w s (all_among w s w.segments
    (and_parts (list_all (is_right_segment w) w.segments) (are_apart (map grains_of_segment w.segments)) f.segments).0 h)

-- ---- which segment

pub among_from : (from : Address) (s : Segment) (ss : List Segment) → AreApartFrom from ss → IsAmong s ss → from ≤ s.base
among_from from s [] o h = absurd h
among_from from s (t ∷ ts) o (inl e) = subst (λ (u : Segment). from ≤ u.base) e o.0
among_from from s (t ∷ ts) o (inr h) = let later = among_from (end_of_segment t) s ts o.2 h in omega (arith, o.0, o.1, later)

-- the segment in which an address lies is the one that is found
pub over_among : (from : Address) (s : Segment) (ss : List Segment) (at : Address) → AreApartFrom from ss → IsAmong s ss
    → is_in_segment s at ≡ true → segment_over ss at ≡ Some s
over_among from s [] at o h inside = absurd h
over_among from s (t ∷ ts) at o (inl e) inside =
    ap (λ b. if b then Some t else segment_over ts at) (subst (λ (u : Segment). is_in_segment u at ≡ true) (sym e) inside) ∙ ap Some e
over_among from s (t ∷ ts) at o (inr h) inside =
    let later = among_from (end_of_segment t) s ts o.2 h in
    let low = leb-true s.base at (and_parts (nat_le s.base at) (nat_lt at (end_of_segment s)) inside).0 in
    let outside = and_right (nat_le t.base at) (nat_lt at (end_of_segment t)) (le-ltb at (end_of_segment t) (omega (arith, later, low))) in
    ap (λ b. if b then Some t else segment_over ts at) outside ∙ over_among (end_of_segment t) s ts at o.2 h inside

-- and so is the segment with a base
pub held_among : (from : Address) (s : Segment) (ss : List Segment) → AreApartFrom from ss → IsAmong s ss
    → find (λ t. t.base == s.base) ss ≡ Some s
held_among from s [] o h = absurd h
held_among from s (t ∷ ts) o (inl e) =
    ap (λ b. if b then Some t else find (λ u. u.base == s.base) ts) (eq-eqb t.base s.base (ap (λ (u : Segment). u.base) e)) ∙ ap Some e
held_among from s (t ∷ ts) o (inr h) =
    let later = among_from (end_of_segment t) s ts o.2 h in
    ap (λ b. if b then Some t else find (λ u. u.base == s.base) ts) (ne_eqb t.base s.base (λ e. omega (arith, later, e, o.1)))
    ∙ held_among (end_of_segment t) s ts o.2 h

-- ---- some of them

-- a segment that passes is among those that pass
pub among_filtered : (p : Segment → Bool) (s : Segment) (ss : List Segment) → IsAmong s (filter p ss) → IsAmong s ss × (p s ≡ true)
among_filtered p s [] h = absurd h
among_filtered p s (t ∷ ts) h =
    elim (p t) as (λ b. p t ≡ b → IsAmong s (if b then t ∷ filter p ts else filter p ts) → IsAmong s (t ∷ ts) × (p s ≡ true)) [
      | true ↦ (λ e g. elim g [
        | inl same ↦ (inl same, subst (λ (u : Segment). p u ≡ true) same e)
        | inr later ↦ let rest = among_filtered p s ts later in (inr rest.0, rest.1)
      ])
      | false ↦ (λ e g. let rest = among_filtered p s ts g in (inr rest.0, rest.1))
    ] refl h

-- the base of one of these
pub record IsBaseOf (ss : List Segment) (base : Address) : Type 0 where
  pub segment : Segment
  pub among : IsAmong segment ss
  pub has_base : segment.base ≡ base

pub base_among : (ss : List Segment) (base : Address) → contains (bases ss) base ≡ true → IsBaseOf ss base
base_among [] base h = absurd (false≢true h)
base_among (s ∷ ss) base h = elim (or_cases (s.base == base) (contains (bases ss) base) h) [
  | inl e ↦ record { segment = s; among = inl refl; has_base = eqb-true s.base base e }
  | inr e ↦ let rest = base_among ss base e in record { segment = rest.segment; among = inr rest.among; has_base = rest.has_base }
]

pub base_contained : (s : Segment) (ss : List Segment) → IsAmong s ss → contains (bases ss) s.base ≡ true
base_contained s [] h = absurd h
base_contained s (t ∷ ts) (inl e) = or_left (t.base == s.base) (contains (bases ts) s.base)
    (eq-eqb t.base s.base (ap (λ (u : Segment). u.base) e))
base_contained s (t ∷ ts) (inr h) = or_right (t.base == s.base) (contains (bases ts) s.base) (base_contained s ts h)

-- one of these passes a test
pub record PassesOne (test : Segment → Bool) (ss : List Segment) : Type 0 where
  pub segment : Segment
  pub among : IsAmong segment ss
  pub passes : test segment ≡ true

pub any_among : (test : Segment → Bool) (ss : List Segment) → list_any test ss ≡ true → PassesOne test ss
any_among test [] h = absurd (false≢true h)
any_among test (s ∷ ss) h = elim (or_cases (test s) (list_any test ss) h) [
  | inl e ↦ record { segment = s; among = inl refl; passes = e }
  | inr e ↦ let rest = any_among test ss e in record { segment = rest.segment; among = inr rest.among; passes = rest.passes }
]

-- their bases ascend
pub bases_ascend : (above from : Address) (p : Segment → Bool) (ss : List Segment) → above < from → AreApartFrom from ss
    → is_ascending above (bases (filter p ss)) ≡ true
bases_ascend above from p [] low o = refl
bases_ascend above from p (s ∷ ss) low o =
    elim (p s) as (λ b. is_ascending above (bases (if b then s ∷ filter p ss else filter p ss)) ≡ true) [
      | true ↦ and_from (nat_lt above s.base) (is_ascending s.base (bases (filter p ss))) (lt-ltb above s.base (omega (arith, low, o.0)))
          (bases_ascend s.base (end_of_segment s) p ss o.1 o.2)
      | false ↦ bases_ascend above (end_of_segment s) p ss (omega (arith, low, o.0, o.1)) o.2
    ]
