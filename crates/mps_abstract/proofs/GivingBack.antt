-- A condemned segment is given back where nothing is left in it.
use Rattle.std.proofs.Common.{◌≡◌, ◌∙◌, ◌⊎◌, ℕ, ◌<◌, ◌≤◌, Bool, true, false, refl, sym, ap, List, [], ◌∷◌, Option, Some, None, inl, inr, arith}
use Rattle.std.proofs.lemmas.Bool.{false≢true, true≢false, and_parts, and_from, or_left, eq-eqb, ne_eqb, eqb-true, cases_Bool, ltb-true, lt-ltb}
use Rattle.std.proofs.lemmas.Option.{same_Some}
use Rattle.std.specs.Prelude.{◌==◌, not, if◌then◌else◌, find, filter, nat_lt, option_map, count_by}
use Rattle.std.specs.Option.{option_map_or}
use Rattle.mps_base.specs.Address.{Address}
use Rattle.mps_base.specs.Segment.{Segment, is_in_segment, segment_over, without_segment}
use Rattle.mps_base.specs.declared.moves.Move.{Move}
use Rattle.mps_base.specs.declared.moves.Move.TheVariants as moves
use Rattle.mps_model.specs.Graph.{contains, without_first}
use Rattle.mps_model.specs.Collection.{Collection, Phase, Reclaiming}
use Rattle.mps_model.specs.World.{World, segment_at, is_empty_segment}
use Rattle.mps_model.specs.Effect.{giving_back, reclaiming, world_after_moves}
use Rattle.mps_model.specs.Flip.{at_address}
use Rattle.mps_model.specs.LegalMove.{ForOne, IsLegalMove, IsLegalUnseg, holds_something}
use Rattle.mps_model.specs.Units.{is_ascending, give_back_where, nothing_left}
use Rattle.mps_abstract.proofs.Lists.{contains_later, contains_cases, count_by-cons}
use Rattle.mps_abstract.proofs.Joining.{AreLegalAnywhere, no_moves_legal, one_legal, for_some}
use Rattle.mps_abstract.proofs.Kept.{base_over, held_in}
use Rattle.mps_abstract.proofs.Sweeping.{contains-above}

-- ---- lists without one of their elements

-- a number taken out of ascending ones isn't there any more
pub contains-without : (above : ℕ) (xs : List ℕ) (n m : ℕ) → is_ascending above xs ≡ true → contains (without_first xs n) m ≡ true
    → (contains xs m ≡ true) × (m ≡ n → ⊥)
contains-without above [] n m asc h = absurd (false≢true h)
contains-without above (x ∷ xs) n m asc h =
    let parts = and_parts (nat_lt above x) (is_ascending x xs) asc in
    elim (x == n) as (λ t. (x == n) ≡ t → contains (if t then xs else x ∷ without_first xs n) m ≡ true
    → (contains (x ∷ xs) m ≡ true) × (m ≡ n → ⊥)) [
      | true ↦ (λ t g. (
        contains_later x xs m g,
        (λ e. let same = eqb-true x n t in let up = contains-above x xs m parts.1 g in omega (arith, same, up, e)),
      ))
      | false ↦ (λ t g. elim (contains_cases x (without_first xs n) m g) [
        | inl e ↦ (or_left (x == m) (contains xs m) (eq-eqb x m e), (λ same. true≢false (sym (eq-eqb x n (e ∙ same)) ∙ t)))
        | inr e ↦ let rest = contains-without x xs n m parts.1 e in (contains_later x xs m rest.0, rest.1)
      ])
    ] refl h

ascending-weaker : (low high : ℕ) (xs : List ℕ) → low < high → is_ascending high xs ≡ true → is_ascending low xs ≡ true
ascending-weaker low high [] h asc = refl
ascending-weaker low high (x ∷ xs) h asc =
    let parts = and_parts (nat_lt high x) (is_ascending x xs) asc in
    let up = ltb-true high x parts.0 in
    and_from (nat_lt low x) (is_ascending x xs) (lt-ltb low x (omega (arith, h, up))) parts.1

pub ascending-without : (above : ℕ) (xs : List ℕ) (n : ℕ) → is_ascending above xs ≡ true → is_ascending above (without_first xs n) ≡ true
ascending-without above [] n asc = refl
ascending-without above (x ∷ xs) n asc =
    let parts = and_parts (nat_lt above x) (is_ascending x xs) asc in
    elim (x == n) as (λ t. is_ascending above (if t then xs else x ∷ without_first xs n) ≡ true) [
      | true ↦ ascending-weaker above x xs (ltb-true above x parts.0) parts.1
      | false ↦ and_from (nat_lt above x) (is_ascending x (without_first xs n)) parts.0 (ascending-without x xs n parts.1)
    ]

-- another number is still there
pub contains-without_other : (xs : List ℕ) (n m : ℕ) → (m ≡ n → ⊥) → contains xs m ≡ true → contains (without_first xs n) m ≡ true
contains-without_other [] n m other h = h
contains-without_other (x ∷ xs) n m other h =
    elim (x == n) as (λ t. (x == n) ≡ t → contains (if t then xs else x ∷ without_first xs n) m ≡ true) [
      | true ↦ (λ t. elim (contains_cases x xs m h) [ inl e ↦ absurd (other (sym e ∙ eqb-true x n t)) | inr e ↦ e ])
      | false ↦ (λ t. elim (contains_cases x xs m h) [
        | inl e ↦ or_left (x == m) (contains (without_first xs n) m) (eq-eqb x m e)
        | inr e ↦ contains_later x (without_first xs n) m (contains-without_other xs n m other e)
      ])
    ] refl

-- fewer pass a test
pub count_by-without : (p : ℕ → Bool) (xs : List ℕ) (n : ℕ) → count_by p (without_first xs n) ≤ count_by p xs
count_by-without p [] n = omega arith
count_by-without p (x ∷ xs) n =
    elim (x == n) as (λ t. count_by p (if t then xs else x ∷ without_first xs n) ≤ count_by p (x ∷ xs)) [
      | true ↦ let step = count_by-cons p x xs in omega (arith, step)
      | false ↦
          let step = count_by-cons p x xs in
          let less = count_by-cons p x (without_first xs n) in
          let rest = count_by-without p xs n in
          omega (arith, step, less, rest)
    ]

-- what is found stays found in a filtered list, where it passes
pub find-filter_found : {A : Type 0} (p q : A → Bool) (xs : List A) (x : A) → find p xs ≡ Some x → q x ≡ true
    → find p (filter q xs) ≡ Some x
find-filter_found p q [] x e passes = e
find-filter_found p q (y ∷ ys) x e passes =
    elim (p y) as (λ t. p y ≡ t → (if t then Some y else find p ys) ≡ Some x → find p (filter q (y ∷ ys)) ≡ Some x) [
      | true ↦ (λ t g.
          let same : q y ≡ true = ap q (same_Some y x g) ∙ passes in
          ap (λ b. find p (if b then y ∷ filter q ys else filter q ys)) same ∙ ap (λ b. if b then Some y else find p (filter q ys)) t ∙ g)
      | false ↦ (λ t g.
          elim (q y) as (λ b. find p (if b then y ∷ filter q ys else filter q ys) ≡ Some x) [
            | true ↦ ap (λ b. if b then Some y else find p (filter q ys)) t ∙ find-filter_found p q ys x g passes
            | false ↦ find-filter_found p q ys x g passes
          ])
    ] refl e

-- what isn't sought may be left out
pub find-filter : {A : Type 0} (p q : A → Bool) (xs : List A) → ((x : A) → p x ≡ true → q x ≡ true) → find p (filter q xs) ≡ find p xs
find-filter p q [] each = refl
find-filter p q (x ∷ xs) each = elim (q x) as (λ t. q x ≡ t → find p (if t then x ∷ filter q xs else filter q xs) ≡ find p (x ∷ xs)) [
  | true ↦ (λ t. ap (λ o. if p x then Some x else o) (find-filter p q xs each))
  | false ↦ (λ t. elim (cases_Bool (p x)) [
    | inl is ↦ absurd (false≢true (sym t ∙ each x is))
    | inr isnt ↦ find-filter p q xs each ∙ sym (ap (λ b. if b then Some x else find p xs) isnt)
  ])
] refl

-- ---- segments without one

other_base : (base b : Address) (t : Segment) → (b ≡ base → ⊥) → (t.base == b) ≡ true → not (t.base == base) ≡ true
other_base base b t n h = ap not (ne_eqb t.base base (λ e. n (sym (eqb-true t.base b h) ∙ e)))

pub held_without : (ss : List Segment) (base b : Address) → (b ≡ base → ⊥) → held_in (without_segment ss base) b ≡ held_in ss b
held_without ss base b n = find-filter (λ t. t.base == b) (λ t. not (t.base == base)) ss (λ t h. other_base base b t n h)

base_of_found : (o : Option Segment) (ss : List Segment) (base at : Address) → segment_over ss at ≡ o
    → (option_map_or (λ (s : Segment). s.base) o 0 ≡ base → ⊥) → (0 ≡ option_map_or (λ (s : Segment). s.base) o 0 → ⊥)
    → base_over (without_segment ss base) at ≡ option_map_or (λ (s : Segment). s.base) o 0
base_of_found None ss base at e n some = absurd (some refl)
base_of_found (Some t) ss base at e n some =
    ap (λ o. option_map_or (λ (s : Segment). s.base) o 0)
    (find-filter_found (λ s. is_in_segment s at) (λ s. not (s.base == base)) ss t e (ap not (ne_eqb t.base base n)))

-- an address in another segment is still in it
pub base_over-without : (ss : List Segment) (base at : Address) → (base_over ss at ≡ base → ⊥) → (0 ≡ base_over ss at → ⊥)
    → base_over (without_segment ss base) at ≡ base_over ss at
base_over-without ss base at n some = base_of_found (segment_over ss at) ss base at refl n some

-- ---- the segment

-- what is left of the segments, and of the condemned ones
pub record IsCleared (w : World) (c : Collection) (base : Address) : Type 0 where
  pub segments : List Segment
  pub bases : List Address
  pub phase : Phase
  pub reclaimed_to : Address
  pub after : World
  pub leads : after ≡ record w {
    segments = segments;
    collection = Some (record c { condemned_segments = bases; phase = phase; reclaimed_to = reclaimed_to });
  }
  -- other segments are held as they were
  pub held : (b : Address) → (b ≡ base → ⊥) → held_in segments b ≡ held_in w.segments b
  pub in_other : (at : Address) → (base_over w.segments at ≡ base → ⊥) → (0 ≡ base_over w.segments at → ⊥)
      → base_over segments at ≡ base_over w.segments at
  -- the condemned segments that are held: other ones, or this one, where something is left in it
  pub were : (b : Address) → contains bases b ≡ true
      → (contains c.condemned_segments b ≡ true) × ((held_in segments b ≡ held_in w.segments b)
      × ((b ≡ base → ⊥) ⊎ (holds_something after base ≡ true)))
  pub are : (b : Address) → (b ≡ base → ⊥) → contains c.condemned_segments b ≡ true → contains bases b ≡ true
  pub ascending : is_ascending 0 bases ≡ true
  pub count : (p : ℕ → Bool) → count_by p bases ≤ count_by p c.condemned_segments
  pub reclaimed : (reclaimed_to ≡ c.reclaimed_to) ⊎ (reclaimed_to ≡ base)

module _ (w : World) (c : Collection) (s : Segment) (runs : w.collection ≡ Some c) (bases : is_ascending 0 c.condemned_segments ≡ true)
    (condemned : contains c.condemned_segments s.base ≡ true) (held : segment_at w s.base ≡ Some s) where
  abbrev given_back : Collection
  given_back = reclaiming s.base (record c { condemned_segments = without_first c.condemned_segments s.base })

  giving_leads : world_after_moves w (moves.Unseg (at_address s.base) ∷ [])
      ≡ record w { segments = without_segment w.segments s.base; collection = Some given_back }
  giving_leads =
      ap (λ o. record w { segments = without_segment w.segments s.base; collection = option_map (giving_back s.base) o }) runs
      ∙ ap (λ b. record w { segments = without_segment w.segments s.base; collection = Some (if b then given_back else c) }) condemned

  giving_is_legal : nothing_left w s.base ≡ true → (before next : Option Move) → IsLegalMove w before (moves.Unseg (at_address s.base)) next
  giving_is_legal nothing before next =
      for_some (λ d. ForOne (segment_at w s.base) (IsLegalUnseg w d)) w.collection c runs
      (for_some (IsLegalUnseg w c) (segment_at w s.base) s held (record {
        empty = sym (ap (λ o. option_map_or (is_empty_segment w) o false) held) ∙ nothing;
        condemned = condemned;
      }))

  cleared_given : IsCleared w c s.base
  cleared_given = record {
    segments = without_segment w.segments s.base;
    bases = without_first c.condemned_segments s.base;
    phase = Reclaiming;
    reclaimed_to = s.base;
    after = record w { segments = without_segment w.segments s.base; collection = Some given_back };
    leads = refl;
    held = λ b n. held_without w.segments s.base b n;
    in_other = λ at n some. base_over-without w.segments s.base at n some;
    were = λ b h. let x =
        contains-without 0 c.condemned_segments s.base b bases h in (x.0, (held_without w.segments s.base b x.1, inl x.1));
    are = λ b n h. contains-without_other c.condemned_segments s.base b n h;
    ascending = ascending-without 0 c.condemned_segments s.base bases;
    count = λ p. count_by-without p c.condemned_segments s.base;
    reclaimed = inr refl;
  }

  cleared_left : nothing_left w s.base ≡ false → IsCleared w c s.base
  cleared_left left = record {
    segments = w.segments;
    bases = c.condemned_segments;
    phase = c.phase;
    reclaimed_to = c.reclaimed_to;
    after = w;
    leads = ap (λ o. record w { collection = o }) runs;
    held = λ b n. refl;
    in_other = λ at n some. refl;
    were = λ b h. (h, (refl, inr (holds left)));
    are = λ b n h. h;
    ascending = bases;
    count = λ p. omega arith;
    reclaimed = inl refl;
  }
    where
      holds : nothing_left w s.base ≡ false → holds_something w s.base ≡ true
      holds left =
          ap (λ o. option_map_or (λ t. not (is_empty_segment w t)) o false) held
          ∙ ap not (sym (ap (λ o. option_map_or (is_empty_segment w) o false) held) ∙ left)

  -- the segment after that, the moves, and that they are legal
  pub record IsGivenBack (given : List Move) : Type 0 where
    pub cleared : IsCleared w c s.base
    pub leads : world_after_moves w given ≡ cleared.after
    pub legal : AreLegalAnywhere w given

  pub is_given_back : (b : Bool) → nothing_left w s.base ≡ b → IsGivenBack (give_back_where s.base b)
  unfolding cleared_left cleared_given
  is_given_back true nothing = record {
    cleared = cleared_given;
    leads = giving_leads;
    legal = one_legal w (moves.Unseg (at_address s.base)) (giving_is_legal nothing);
  }
  is_given_back false left = record { cleared = cleared_left left; leads = refl; legal = no_moves_legal w }
