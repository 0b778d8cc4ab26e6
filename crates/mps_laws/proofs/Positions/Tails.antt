-- The words at hand for blocks that move, by pool and generation, after one of them is put in place of what was.
use Rattle.std.proofs.Common.{◌≡◌, ◌∙◌, ◌⊎◌, ℕ, Bool, true, false, refl, sym, ap, List, [], ◌∷◌, Some, inl, inr}
use Rattle.std.proofs.lemmas.Bool.{false≢true, and_parts, cases_Bool, cases_eq, eqb-true, eq-eqb, ne_eqb, and_left, and_right}
use Rattle.std.specs.Prelude.{◌==◌, ◌&&◌, not, if◌then◌else◌, find, filter}
use Rattle.std.specs.Option.{option_map_or}
use Rattle.std.specs.List.{AllByRecursion}
use Rattle.mps_base.specs.Run.{Run}
use Rattle.mps_model.specs.World.{Tail, is_tail_of, empty_run}
use Rattle.mps_laws.proofs.Positions.Occupancy.{run_of_tail}

-- these words are at hand for a generation of a pool
abbrev pub with_tail_of : List Tail → (pool generation : ℕ) → Run → List Tail
with_tail_of tails pool generation words =
    record { pool = pool; generation = generation; words = words } ∷ filter (λ t. not (is_tail_of pool generation t)) tails

-- what isn't sought may be left out
pub find-filter : {A : Type 0} (p q : A → Bool) (xs : List A) → ((x : A) → p x ≡ true → q x ≡ true) → find p (filter q xs) ≡ find p xs
find-filter p q [] each = refl
find-filter p q (x ∷ xs) each =
    elim (q x) as (λ t. q x ≡ t → find p (if t then x ∷ filter q xs else filter q xs) ≡ find p (x ∷ xs)) [
      | true ↦ (λ t. ap (λ o. if p x then Some x else o) (find-filter p q xs each))
      | false ↦
          (λ t. elim (cases_Bool (p x)) [
            | inl is ↦ absurd (false≢true (sym t ∙ each x is))
            | inr isnt ↦ find-filter p q xs each ∙ sym (ap (λ b. if b then Some x else find p xs) isnt)
          ])
    ] refl

pub own_tail : (tails : List Tail) (pool generation : ℕ) (words : Run)
    → run_of_tail (with_tail_of tails pool generation words) pool generation ≡ words
own_tail tails pool generation words = rw (eq-eqb pool pool refl, eq-eqb generation generation refl) refl

differs : (p g p' g' : ℕ) → (p ≡ p' → g ≡ g' → ⊥) → (p == p' && g == g') ≡ false
differs p g p' g' n =
    elim (cases_eq p p') [
      | inl e ↦
          elim (cases_eq g g') [
            | inl f ↦ absurd (n e f)
            | inr f ↦ and_right (p == p') (g == g') (ne_eqb g g' f)
          ]
      | inr e ↦ and_left (p == p') (g == g') (ne_eqb p p' e)
    ]

other_of : (p g p' g' : ℕ) (t : Tail) → (p ≡ p' → g ≡ g' → ⊥) → is_tail_of p' g' t ≡ true → not (is_tail_of p g t) ≡ true
other_of p g p' g' t n h =
    let parts = and_parts (t.pool == p') (t.generation == g') h in
    ap not (differs t.pool t.generation p g (λ e f. n (sym e ∙ eqb-true t.pool p' parts.0) (sym f ∙ eqb-true t.generation g' parts.1)))

pub other_tail : (tails : List Tail) (p g p' g' : ℕ) (words : Run) → (p ≡ p' → g ≡ g' → ⊥)
    → run_of_tail (with_tail_of tails p g words) p' g' ≡ run_of_tail tails p' g'
other_tail tails p g p' g' words n =
    ap (λ b. option_map_or (λ (t : Tail). t.words) (if b then Some (record { pool = p; generation = g; words = words })
    else find (is_tail_of p' g') (filter (λ t. not (is_tail_of p g t)) tails)) empty_run) (differs p g p' g' n)
    ∙ ap (λ o. option_map_or (λ (t : Tail). t.words) o empty_run)
    (find-filter (is_tail_of p' g') (λ t. not (is_tail_of p g t)) tails (λ t h. other_of p g p' g' t n h))

-- each tail is the one that was put, or as it was
pub cases_tail : (tails : List Tail) (p g p' g' : ℕ) (words : Run)
    → ((p' ≡ p) × (g' ≡ g)) ⊎ (((p ≡ p' → g ≡ g' → ⊥)) × (run_of_tail (with_tail_of tails p g words) p' g' ≡ run_of_tail tails p' g'))
cases_tail tails p g p' g' words =
    elim (cases_eq p p') [
      | inl e ↦
          elim (cases_eq g g') [
            | inl f ↦ inl (sym e, sym f)
            | inr f ↦ inr ((λ _ b. f b), other_tail tails p g p' g' words (λ _ b. f b))
          ]
      | inr e ↦ inr ((λ a _. e a), other_tail tails p g p' g' words (λ a _. e a))
    ]

-- each is of a pool and generation of its own
abbrev pub AreKeyed : List Tail → Type 0
AreKeyed [] = Unit {0}
AreKeyed (t ∷ ts) = AllByRecursion (λ (u : Tail). is_tail_of t.pool t.generation u ≡ false) ts × AreKeyed ts

all_kept : (P : Tail → Type 0) (test : Tail → Bool) (ts : List Tail) → AllByRecursion P ts → AllByRecursion P (filter test ts)
all_kept P test [] all = tt
all_kept P test (t ∷ ts) all =
    elim (test t) as (λ b. AllByRecursion P (if b then t ∷ filter test ts else filter test ts)) [
      | true ↦ (all.0, all_kept P test ts all.1)
      | false ↦ all_kept P test ts all.1
    ]

keyed_kept : (test : Tail → Bool) (ts : List Tail) → AreKeyed ts → AreKeyed (filter test ts)
keyed_kept test [] keyed = tt
keyed_kept test (t ∷ ts) keyed =
    elim (test t) as (λ b. AreKeyed (if b then t ∷ filter test ts else filter test ts)) [
      | true ↦ (all_kept (λ u. is_tail_of t.pool t.generation u ≡ false) test ts keyed.0, keyed_kept test ts keyed.1)
      | false ↦ keyed_kept test ts keyed.1
    ]

none_left : (p g : ℕ) (ts : List Tail) → AllByRecursion (λ (u : Tail). is_tail_of p g u ≡ false) (filter (λ t. not (is_tail_of p g t)) ts)
none_left p g [] = tt
none_left p g (t ∷ ts) =
    elim (is_tail_of p g t) as (λ b. is_tail_of p g t ≡ b
    → AllByRecursion (λ (u : Tail). is_tail_of p g u ≡ false)
    (if not b then t ∷ filter (λ u. not (is_tail_of p g u)) ts else filter (λ u. not (is_tail_of p g u)) ts)) [
      | true ↦ (λ is. none_left p g ts)
      | false ↦ (λ isnt. (isnt, none_left p g ts))
    ] refl

pub keyed_with : (ts : List Tail) (p g : ℕ) (words : Run) → AreKeyed ts → AreKeyed (with_tail_of ts p g words)
keyed_with ts p g words keyed = (none_left p g ts, keyed_kept (λ t. not (is_tail_of p g t)) ts keyed)
