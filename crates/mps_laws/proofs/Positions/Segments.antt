-- Held segments: which one an address lies in, and where a new one is put.
use Rattle.std.proofs.Common.{◌≡◌, ◌∙◌, ◌⊎◌, ℕ, ◌+◌, ◌*◌, ◌/◌, ◌<◌, ◌≤◌, Bool, true, false, refl, sym, ap, List, [], ◌∷◌, Some, subst, inl, inr, arith}
use Rattle.std.proofs.lemmas.Bool.{cases_lt, and_parts, and_from, leb-true, ltb-true, le-leb, lt-ltb, false≢true}
use Rattle.std.proofs.lemmas.Option.{none-some, same_Some}
use Rattle.std.specs.Prelude.{if◌then◌else◌, nat_lt, nat_le, map, find, not, ◌==◌}
use Rattle.std.specs.List.{AllByRecursion}
use Rattle.mps_base.specs.Address.{Address, grain_of, address_of_grain, address_of_word}
use Rattle.mps_base.specs.Run.{Run, Covers, IsAscending, end_of, with_run}
use Rattle.mps_base.specs.Segment.{Segment, grains_of_segment, words_of_segment, end_of_segment, is_in_segment, with_segment, without_segment, segment_over}
use Rattle.mps_base.proofs.Runs.{IsAscending-bounds, IsAscending-lower}
use Rattle.mps_laws.proofs.InOrder.{put-lower, put-higher}

-- a value is among these
abbrev pub IsAmong : {X : Type 0} → X → List X → Type 0
IsAmong x [] = ⊥
IsAmong x (y ∷ ys) = (y ≡ x) ⊎ IsAmong x ys

-- a segment begins at a grain
abbrev pub IsAligned : Segment → Type 0
IsAligned s = address_of_grain (grain_of s.base) ≡ s.base

abbrev pub AreAligned : List Segment → Type 0
AreAligned ss = AllByRecursion IsAligned ss

abbrev pub base_of : Segment → ℕ
base_of s = s.base

abbrev first_of : Run → ℕ
first_of r = r.from

pub among_aligned : (s : Segment) (ss : List Segment) → AreAligned ss → IsAmong s ss → IsAligned s
among_aligned s [] all h = absurd h
among_aligned s (t ∷ ts) all (inl e) = subst IsAligned e all.0
among_aligned s (t ∷ ts) all (inr h) = among_aligned s ts all.1 h

-- ---- one more

pub among_with : (s t : Segment) (ss : List Segment) → IsAmong t ss → IsAmong t (with_segment s ss)
among_with s t [] h = absurd h
among_with s t (u ∷ us) h =
    elim (nat_lt s.base u.base) as (λ b. IsAmong t (if b then s ∷ u ∷ us else u ∷ with_segment s us)) [
      | true ↦ inr h
      | false ↦
          elim h [
            | inl e ↦ inl e
            | inr later ↦ inr (among_with s t us later)
          ]
    ]

pub among_new : (s : Segment) (ss : List Segment) → IsAmong s (with_segment s ss)
among_new s [] = inl refl
among_new s (u ∷ us) =
    elim (nat_lt s.base u.base) as (λ b. IsAmong s (if b then s ∷ u ∷ us else u ∷ with_segment s us)) [
      | true ↦ inl refl
      | false ↦ inr (among_new s us)
    ]

pub among_cases : (s t : Segment) (ss : List Segment) → IsAmong t (with_segment s ss) → (s ≡ t) ⊎ IsAmong t ss
among_cases s t [] (inl e) = inl e
among_cases s t [] (inr h) = absurd h
among_cases s t (u ∷ us) h =
    elim (nat_lt s.base u.base) as (λ b. IsAmong t (if b then s ∷ u ∷ us else u ∷ with_segment s us) → (s ≡ t) ⊎ IsAmong t (u ∷ us)) [
      | true ↦ (λ g. g)
      | false ↦
          (λ g. elim g [
            | inl e ↦ inr (inl e)
            | inr later ↦
                elim (among_cases s t us later) [
                  | inl e ↦ inl e
                  | inr k ↦ inr (inr k)
                ]
          ])
    ] h

pub aligned_with : (s : Segment) (ss : List Segment) → IsAligned s → AreAligned ss → AreAligned (with_segment s ss)
aligned_with s ss a all = Rattle.mps_laws.proofs.InOrder.all_put base_of IsAligned s ss a all

-- the runs of grains are put as the segments are
pub grains_with : (s : Segment) (ss : List Segment) → IsAligned s → AreAligned ss
    → map grains_of_segment (with_segment s ss) ≡ with_run (grains_of_segment s) (map grains_of_segment ss)
grains_with s [] a all = refl
grains_with s (t ∷ ts) a all =
    let b = all.0 in
    elim (cases_lt s.base t.base) [
      | inl before ↦
          ap (map grains_of_segment) (put-lower base_of s t ts before)
          ∙ sym (put-lower first_of (grains_of_segment s) (grains_of_segment t) (map grains_of_segment ts) (omega (arith, a, b, before)))
      | inr after ↦
          ap (map grains_of_segment) (put-higher base_of s t ts after)
          ∙ ap (λ rs. grains_of_segment t ∷ rs) (grains_with s ts a all.1)
          ∙ sym (put-higher first_of (grains_of_segment s) (grains_of_segment t) (map grains_of_segment ts) (omega (arith, a, b, after)))
    ]

-- ---- one less

pub among_without : (base : Address) (t : Segment) (ss : List Segment) → IsAmong t (without_segment ss base) → IsAmong t ss
among_without base t [] h = h
among_without base t (u ∷ us) h =
    elim (not (u.base == base)) as (λ b. IsAmong t (if b then u ∷ without_segment us base else without_segment us base)
    → IsAmong t (u ∷ us)) [
      | true ↦
          (λ g. elim g [
            | inl e ↦ inl e
            | inr later ↦ inr (among_without base t us later)
          ])
      | false ↦ (λ g. inr (among_without base t us g))
    ] h

pub among_kept : (base : Address) (t : Segment) (ss : List Segment) → not (t.base == base) ≡ true → IsAmong t ss
    → IsAmong t (without_segment ss base)
among_kept base t [] other h = h
among_kept base t (u ∷ us) other h =
    elim (not (u.base == base)) as (λ b. not (u.base == base) ≡ b
    → IsAmong t (if b then u ∷ without_segment us base else without_segment us base)) [
      | true ↦
          (λ is. elim h [
            | inl e ↦ inl e
            | inr later ↦ inr (among_kept base t us other later)
          ])
      | false ↦
          (λ is. elim h [
            | inl e ↦ absurd (false≢true (sym is ∙ subst (λ (v : Segment). not (v.base == base) ≡ true) (sym e) other))
            | inr later ↦ among_kept base t us other later
          ])
    ] refl

pub all_without : (P : Segment → Type 0) (base : Address) (ss : List Segment) → AllByRecursion P ss
    → AllByRecursion P (without_segment ss base)
all_without P base [] all = tt
all_without P base (u ∷ us) all =
    elim (not (u.base == base)) as (λ b. AllByRecursion P (if b then u ∷ without_segment us base else without_segment us base)) [
      | true ↦ (all.0, all_without P base us all.1)
      | false ↦ all_without P base us all.1
    ]

pub ascending_without : (low limit : ℕ) (base : Address) (ss : List Segment) → IsAscending low limit (map grains_of_segment ss)
    → IsAscending low limit (map grains_of_segment (without_segment ss base))
ascending_without low limit base [] asc = asc
ascending_without low limit base (u ∷ us) asc =
    elim (not (u.base == base)) as (λ b. IsAscending low limit (map grains_of_segment (if b then u ∷ without_segment us base
    else without_segment us base))) [
      | true ↦ (asc.0, asc.1, ascending_without (end_of (grains_of_segment u)) limit base us asc.2)
      | false ↦
          IsAscending-lower (end_of (grains_of_segment u)) low limit (map grains_of_segment (without_segment us base))
          (omega (arith, asc.0)) (ascending_without (end_of (grains_of_segment u)) limit base us asc.2)
    ]

-- ---- segments that ascend

pub segment_bounds : (low limit : ℕ) (ss : List Segment) (s : Segment) → IsAscending low limit (map grains_of_segment ss) → IsAmong s ss
    → (low ≤ grain_of s.base) × (0 < s.grains) × (grain_of s.base + s.grains ≤ limit)
segment_bounds low limit [] s asc h = absurd h
segment_bounds low limit (t ∷ ts) s asc (inl e) =
    subst (λ (u : Segment). (low ≤ grain_of u.base) × (0 < u.grains) × (grain_of u.base + u.grains ≤ limit)) e
    (asc.0, asc.1, IsAscending-bounds (end_of (grains_of_segment t)) limit (map grains_of_segment ts) asc.2)
segment_bounds low limit (t ∷ ts) s asc (inr h) =
    let r = segment_bounds (end_of (grains_of_segment t)) limit ts s asc.2 h in
    (omega (arith, asc.0, r.0), r.1, r.2)

-- two that have a grain in common are one
pub same_segment : (low limit : ℕ) (ss : List Segment) (s t : Segment) → IsAscending low limit (map grains_of_segment ss)
    → IsAmong s ss → IsAmong t ss → (n : ℕ) → Covers (grains_of_segment s) n → Covers (grains_of_segment t) n → s ≡ t
same_segment low limit [] s t asc h k n c d = absurd h
same_segment low limit (u ∷ us) s t asc (inl e) (inl f) n c d = sym e ∙ f
same_segment low limit (u ∷ us) s t asc (inl e) (inr k) n c d =
    let past = (segment_bounds (end_of (grains_of_segment u)) limit us t asc.2 k).0 in
    let here = subst (λ (v : Segment). Covers (grains_of_segment v) n) (sym e) c in
    absurd (omega (arith, past, here.1, d.0))
same_segment low limit (u ∷ us) s t asc (inr h) (inl f) n c d =
    let past = (segment_bounds (end_of (grains_of_segment u)) limit us s asc.2 h).0 in
    let here = subst (λ (v : Segment). Covers (grains_of_segment v) n) (sym f) d in
    absurd (omega (arith, past, here.1, c.0))
same_segment low limit (u ∷ us) s t asc (inr h) (inr k) n c d =
    same_segment (end_of (grains_of_segment u)) limit us s t asc.2 h k n c d

pub grain_of_word : (s : Segment) (n : ℕ) → IsAligned s → Covers (words_of_segment s) n → Covers (grains_of_segment s) (n / 512)
grain_of_word s n a c = (omega (arith, a, c.0), omega (arith, a, c.1))

pub same_by_word : (low limit : ℕ) (ss : List Segment) (s t : Segment) → IsAscending low limit (map grains_of_segment ss) → AreAligned ss
    → IsAmong s ss → IsAmong t ss → (n : ℕ) → Covers (words_of_segment s) n → Covers (words_of_segment t) n → s ≡ t
same_by_word low limit ss s t asc all h k n c d =
    same_segment low limit ss s t asc h k (n / 512) (grain_of_word s n (among_aligned s ss all h) c)
    (grain_of_word t n (among_aligned t ss all k) d)

pub in_segment : (s : Segment) (n : ℕ) → IsAligned s → Covers (words_of_segment s) n → is_in_segment s (address_of_word n) ≡ true
in_segment s n a c =
    and_from (nat_le s.base (8 * n)) (nat_lt (8 * n) (end_of_segment s)) (le-leb s.base (8 * n) (omega (arith, a, c.0)))
    (lt-ltb (8 * n) (end_of_segment s) (omega (arith, a, c.1)))

pub of_in_segment : (s : Segment) (n : ℕ) → IsAligned s → is_in_segment s (address_of_word n) ≡ true → Covers (words_of_segment s) n
of_in_segment s n a is =
    let parts = and_parts (nat_le s.base (8 * n)) (nat_lt (8 * n) (end_of_segment s)) is in
    let low = leb-true s.base (8 * n) parts.0 in
    let high = ltb-true (8 * n) (end_of_segment s) parts.1 in
    (omega (arith, a, low), omega (arith, a, high))

-- the segment that a word lies in is found
pub found_segment : (low limit : ℕ) (ss : List Segment) (s : Segment) → IsAscending low limit (map grains_of_segment ss) → AreAligned ss
    → IsAmong s ss → (n : ℕ) → Covers (words_of_segment s) n → segment_over ss (address_of_word n) ≡ Some s
found_segment low limit [] s asc all h n c = absurd h
found_segment low limit (t ∷ ts) s asc all h n c =
    elim (is_in_segment t (address_of_word n)) as (λ b. is_in_segment t (address_of_word n) ≡ b
    → (if b then Some t else segment_over ts (address_of_word n)) ≡ Some s) [
      | true ↦
          (λ is. ap Some (same_by_word low limit (t ∷ ts) t s asc all (inl refl) h n (of_in_segment t n all.0 is) c))
      | false ↦
          (λ is. elim h [
            | inl e ↦
                absurd (false≢true (sym is ∙ in_segment t n all.0 (subst (λ (u : Segment). Covers (words_of_segment u) n) (sym e) c)))
            | inr later ↦ found_segment (end_of (grains_of_segment t)) limit ts s asc.2 all.1 later n c
          ])
    ] refl

-- what is found is among them
pub found_among : (test : Segment → Bool) (ss : List Segment) (s : Segment) → find test ss ≡ Some s → IsAmong s ss × (test s ≡ true)
found_among test [] s e = absurd (none-some s e)
found_among test (t ∷ ts) s e =
    elim (test t) as (λ b. test t ≡ b → (if b then Some t else find test ts) ≡ Some s → IsAmong s (t ∷ ts) × (test s ≡ true)) [
      | true ↦ (λ is f. let same = same_Some t s f in (inl same, subst (λ (u : Segment). test u ≡ true) same is))
      | false ↦ (λ is f. let rest = found_among test ts s f in (inr rest.0, rest.1))
    ] refl e

-- two that begin at one address are one
pub same_by_base : (low limit : ℕ) (ss : List Segment) (s t : Segment) → IsAscending low limit (map grains_of_segment ss)
    → IsAmong s ss → IsAmong t ss → s.base ≡ t.base → s ≡ t
same_by_base low limit ss s t asc h k e =
    let a = segment_bounds low limit ss s asc h in
    let b = segment_bounds low limit ss t asc k in
    same_segment low limit ss s t asc h k (grain_of t.base) (omega (arith, e), omega (arith, e, a.1)) (omega arith, omega (arith, b.1))
