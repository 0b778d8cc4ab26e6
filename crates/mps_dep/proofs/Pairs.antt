-- Pairs by their addresses and marks.
use Rattle.std.proofs.Common.{ℕ, ◌≡◌, ◌≢◌, ◌<◌, ◌≤◌, ◌==◌, Bool, true, false, not, ◌||◌, List, [], ◌∷◌, ◌++◌, length, get_or, set, filter, cond, Option, Some, None, inl, inr, refl, sym, ap, ◌∙◌, arith}
use Rattle.std.specs.Prelude.{◌&&◌, nat_le, option_map, slice_set, is_none, is_some, OnSome}
use Rattle.mps_base.specs.declared.address.Addr.{Addr}
use Rattle.std.specs.List.{All, find, list_any}
use Rattle.std.proofs.lemmas.Bool.{false≢true, eq-eqb, lt-leb}
use Rattle.std.proofs.lemmas.Bool.Decides.{eqb_tells}
use Rattle.std.proofs.lemmas.List.{length-append, length-set, get_or-set_same, get_or-set_other}
use Rattle.std.proofs.lemmas.List.Elements.{All-head, All-tail, All-cons, All-nil, All-filter, All-push, All-weaker}
use Rattle.mps_bits.specs.Table.{bit}
use Rattle.mps_base.specs.Address.{Address}
use Rattle.mps_dep.specs.declared.dependents.Pair.{Pair}
use Rattle.mps_address_marks.specs.Marks.{mark_of}
use Rattle.mps_dep.specs.Marks.{marks_count}
use Rattle.mps_dep.specs.Inside.{IsMarked, IsSoundDependents, has_mark}
use Rattle.mps_dep.specs.State.{max_pairs, is_of, has_name, dependent_of, is_full_for, without_holder, without_address}

passes : {A : Type 0} (b : Bool) (x y : A) → b ≡ true → cond b x y ≡ x
passes true x y is = refl
passes false x y is = absurd (false≢true is)

fails : {A : Type 0} (b : Bool) (x y : A) → b ≡ false → cond b x y ≡ y
fails false x y is = refl
fails true x y is = absurd (false≢true (sym is))

module _ {A : Type 0} (test : A → Bool) where
  -- a filter that all pass keeps all
  pub all_kept : (xs : List A) → All (λ x. test x ≡ false) xs → filter (λ x. not (test x)) xs ≡ xs
  all_kept [] all = refl
  all_kept (x ∷ xs) all =
      let here : test x ≡ false = All-head (λ y. test y ≡ false) x xs all in
      passes (not (test x)) (x ∷ filter (λ y. not (test y)) xs) (filter (λ y. not (test y)) xs) (ap not here)
      ∙ ap (λ ys. x ∷ ys) (all_kept xs (All-tail (λ y. test y ≡ false) x xs all))

  -- where all fail, none is found
  pub none_found : (xs : List A) → All (λ x. test x ≡ false) xs → find test xs ≡ None
  none_found [] all = refl
  none_found (x ∷ xs) all =
      fails (test x) (Some x) (find test xs) (All-head (λ y. test y ≡ false) x xs all)
      ∙ none_found xs (All-tail (λ y. test y ≡ false) x xs all)

  passed : (b : Bool) (x : A) (rest : Option A) → cond b (Some x) rest ≡ None → (b ≡ false) × (rest ≡ None)
  passed true x rest none = cc
  passed false x rest none = (refl, none)

  -- where none is found, all fail
  pub all_fail : (xs : List A) → find test xs ≡ None → All (λ x. test x ≡ false) xs
  all_fail [] none = All-nil (λ x. test x ≡ false)
  all_fail (x ∷ xs) none =
      let here = passed (test x) x (find test xs) none in
      All-cons (λ y. test y ≡ false) x xs here.0 (all_fail xs here.1)

  at_most : (xs : List A) → length (filter (λ x. not (test x)) xs) ≤ length xs
  at_most [] = omega arith
  at_most (x ∷ xs) = by_test (test x) (at_most xs)
    where
      by_test : (b : Bool) → length (filter (λ y. not (test y)) xs) ≤ length xs
          → length (cond (not b) (x ∷ filter (λ y. not (test y)) xs) (filter (λ y. not (test y)) xs)) ≤ length (x ∷ xs)
      by_test true le = omega (arith, le)
      by_test false le = omega (arith, le)

  -- where one is found, a filter leaves it out
  pub one_left_out : (xs : List A) (found : A) → find test xs ≡ Some found → length (filter (λ x. not (test x)) xs) < length xs
  one_left_out [] found is = cc
  one_left_out (x ∷ xs) found is = by_test (test x) (at_most xs) (λ rest. one_left_out xs found rest) is
    where
      by_test : (b : Bool) → length (filter (λ y. not (test y)) xs) ≤ length xs
          → (find test xs ≡ Some found → length (filter (λ y. not (test y)) xs) < length xs)
          → cond b (Some x) (find test xs) ≡ Some found
          → length (cond (not b) (x ∷ filter (λ y. not (test y)) xs) (filter (λ y. not (test y)) xs)) < length (x ∷ xs)
      by_test true le next is = omega (arith, le)
      by_test false le next is = omega (arith, next is)

not_equal : (a b : ℕ) → a ≢ b → (a == b) ≡ false
not_equal a b other = elim (eqb_tells a b) [ inl same ↦ absurd (other same.1) | inr apart ↦ apart.0 ]

neither : (a b : Bool) → (a || b) ≡ false → (a ≡ false) × (b ≡ false)
neither false false is = (refl, refl)
neither true b is = absurd (false≢true (sym is))
neither false true is = absurd (false≢true (sym is))

module _ (marks : List Bool) where
  -- a marked address and one without a mark are two
  apart : (a b : Address) → bit marks (mark_of marks_count a) ≡ true → bit marks (mark_of marks_count b) ≡ false → (a == b) ≡ false
  apart a b marked not_marked =
      not_equal a b (λ same. false≢true (sym not_marked ∙ ap (λ (n : ℕ). bit marks (mark_of marks_count n)) (sym same) ∙ marked))

  has_none : (at : Address) → bit marks (mark_of marks_count at) ≡ false → (p : Pair) → IsMarked marks p → has_name at p ≡ false
  has_none at not_marked p marked =
      let first : (p.holder.0 == at) ≡ false = apart p.holder.0 at marked.holder not_marked in
      let second : (p.dependent.0 == at) ≡ false = apart p.dependent.0 at marked.dependent not_marked in
      ap (λ b. b || (p.dependent.0 == at)) first ∙ second

  -- no pair has an address without a mark
  pub unmarked_keeps_all : (pairs : List Pair) (at : Address) → All (IsMarked marks) pairs → bit marks (mark_of marks_count at) ≡ false
      → pairs ≡ without_address pairs at
  unmarked_keeps_all pairs at all not_marked =
      sym (all_kept (has_name at) pairs (All-weaker (IsMarked marks) (λ p. has_name at p ≡ false) (has_none at not_marked) pairs all))

  pub unmarked_has_none : (pairs : List Pair) (holder : Address) → All (IsMarked marks) pairs
      → bit marks (mark_of marks_count holder) ≡ false
      → None ≡ dependent_of pairs holder
  unmarked_has_none pairs holder all not_marked =
      ap (λ (o : Option Pair). option_map (λ p. p.dependent.0) o) (sym (none_found (is_of holder) pairs
      (All-weaker (IsMarked marks) (λ p. is_of holder p ≡ false) (λ p marked. apart p.holder.0 holder marked.holder not_marked) pairs all)))

-- no pair can go where there is none
pub none_of_none : (pairs : List Pair) (at : Address) → length pairs ≡ 0 → pairs ≡ without_address pairs at
none_of_none [] at none = refl
none_of_none (p ∷ ps) at none = absurd (omega (arith, none))

not_found : (o : Option Pair) → option_map (λ p. p.dependent.0) o ≡ None → o ≡ None
not_found None none = refl
not_found (Some p) none = cc

-- where a holder has no dependent, none of its pairs can go
pub none_to_end : (pairs : List Pair) (holder : Address) → dependent_of pairs holder ≡ None → pairs ≡ without_holder pairs holder
none_to_end pairs holder none =
    sym (all_kept (is_of holder) pairs (all_fail (is_of holder) pairs (not_found (find (is_of holder) pairs) none)))

-- where it has one, a pair goes
pub one_to_end : (pairs : List Pair) (holder dependent : Address) → dependent_of pairs holder ≡ Some dependent
    → length (without_holder pairs holder) < length pairs
one_to_end pairs holder dependent is = by_found (find (is_of holder) pairs) refl is
  where
    by_found : (o : Option Pair) → find (is_of holder) pairs ≡ o → option_map (λ p. p.dependent.0) o ≡ Some dependent
        → length (without_holder pairs holder) < length pairs
    by_found None found is = cc
    by_found (Some p) found is = one_left_out (is_of holder) pairs p found

pub fewer_stay_sound : (pairs : List Pair) (marks : List Bool) (capacity capacity' : ℕ) (test : Pair → Bool)
    → IsSoundDependents pairs marks capacity → capacity' ≡ capacity → IsSoundDependents (filter (λ p. not (test p)) pairs) marks capacity'
fewer_stay_sound pairs marks capacity capacity' test sound same = record {
  few = omega (arith, sound.few, at_most test pairs);
  room = omega (arith, sound.room, same);
  whole = sound.whole;
  marked = All-filter (λ p. not (test p)) (IsMarked marks) pairs sound.marked;
}

none_has : (pairs : List Pair) (mark : ℕ) → list_any (has_mark mark) pairs ≡ false → All (λ p. has_mark mark p ≡ false) pairs
none_has [] mark none = All-nil (λ p. has_mark mark p ≡ false)
none_has (p ∷ ps) mark none =
    let here = neither (has_mark mark p) (list_any (has_mark mark) ps) none in
    All-cons (λ q. has_mark mark q ≡ false) p ps here.0 (none_has ps mark here.1)

module _ (marks : List Bool) (mark : ℕ) where
  other_bit : (at : ℕ) (value : Bool) → (at == mark) ≡ false → bit (slice_set marks mark value) at ≡ bit marks at
  unfolding bit
  other_bit at value other = get_or-set_other marks mark at value false (λ same. false≢true (sym other ∙ eq-eqb at mark same))

  set_bit : (at : ℕ) → mark < length marks → bit marks at ≡ true → bit (slice_set marks mark true) at ≡ true
  unfolding bit
  set_bit at within is =
      elim (eqb_tells at mark) [
        | inl same ↦
            ap (λ (n : ℕ). get_or (set marks mark true) n false) same.1 ∙ get_or-set_same marks mark true false within
        | inr apart ↦ other_bit at true apart.0 ∙ is
      ]

  here_bit : mark < length marks → bit (slice_set marks mark true) mark ≡ true
  unfolding bit
  here_bit within = get_or-set_same marks mark true false within

  still_marked : (p : Pair) → (has_mark mark p ≡ false) → IsMarked marks p → IsMarked (slice_set marks mark false) p
  still_marked p none marked =
      let apart = neither (mark_of marks_count p.holder.0 == mark) (mark_of marks_count p.dependent.0 == mark) none in
      record {
        holder = other_bit (mark_of marks_count p.holder.0) false apart.0 ∙ marked.holder;
        dependent = other_bit (mark_of marks_count p.dependent.0) false apart.1 ∙ marked.dependent;
      }

  all_still : (pairs : List Pair) → All (λ p. has_mark mark p ≡ false) pairs → All (IsMarked marks) pairs
      → All (IsMarked (slice_set marks mark false)) pairs
  all_still pairs none all = λ k d below. still_marked (get_or pairs k d) (none k d below) (all k d below)

  more_marked : mark < length marks → (p : Pair) → IsMarked marks p → IsMarked (slice_set marks mark true) p
  more_marked within p marked = record {
    holder = set_bit (mark_of marks_count p.holder.0) within marked.holder;
    dependent = set_bit (mark_of marks_count p.dependent.0) within marked.dependent;
  }

-- a mark that no pair has is cleared
pub cleared_stays_sound : (pairs : List Pair) (marks : List Bool) (capacity mark : ℕ) → IsSoundDependents pairs marks capacity
    → list_any (has_mark mark) pairs ≡ false → IsSoundDependents pairs (slice_set marks mark false) capacity
cleared_stays_sound pairs marks capacity mark sound none = record {
  few = sound.few;
  room = sound.room;
  whole = length-set marks mark false ∙ sound.whole;
  marked = all_still marks mark pairs (none_has pairs mark none) sound.marked;
}

-- a pair is added, and its addresses are marked
pub added_stays_sound : (pairs : List Pair) (marks : List Bool) (capacity capacity' : ℕ) (p : Pair) → IsSoundDependents pairs marks capacity
    → length pairs < max_pairs → mark_of marks_count p.holder.0 < marks_count → mark_of marks_count p.dependent.0 < marks_count
    → capacity ≤ capacity'
    → IsSoundDependents (pairs ++ p ∷ [])
    (slice_set (slice_set marks (mark_of marks_count p.holder.0) true) (mark_of marks_count p.dependent.0) true) capacity'
added_stays_sound pairs marks capacity capacity' p sound fits first second same =
    let h = mark_of marks_count p.holder.0 in
    let d = mark_of marks_count p.dependent.0 in
    let once = slice_set marks h true in
    let within : h < length marks = omega (arith, first, sound.whole) in
    let within' : d < length once = omega (arith, second, sound.whole, length-set marks h true) in
    record {
      few = omega (arith, fits, length-append pairs (p ∷ []));
      room = omega (arith, sound.room, same);
      whole = length-set once d true ∙ length-set marks h true ∙ sound.whole;
      marked = All-push (IsMarked (slice_set once d true)) pairs p
          (All-weaker (IsMarked once) (IsMarked (slice_set once d true)) (more_marked once d within') pairs
          (All-weaker (IsMarked marks) (IsMarked once) (more_marked marks h within) pairs sound.marked))
          (record { holder = set_bit once d h within' (here_bit marks h within); dependent = here_bit once d within' });
    }

-- what an absent and a present result say
pub none_before : (o : Option Addr) (before : Option Address) → is_some o ≡ false → option_map (λ at. at.0) o ≡ before → before ≡ None
none_before None before none is = sym is
none_before (Some at) before none is = absurd (false≢true (sym none))

pub for_some : {P : Type 0} (o : Option Addr) → is_some o ≡ true → OnSome o P → P
for_some (Some at) is holds = holds
for_some None is holds = absurd (false≢true is)

-- ---- room for a pair

-- a holder gets a dependent in place of the one that it had
pub is_replaced : (o : Option Addr) (pairs : List Pair) (holder : Address) → is_some o ≡ true
    → option_map (λ at. at.0) o ≡ dependent_of pairs holder → is_full_for pairs holder ≡ false
is_replaced (Some at) pairs holder is value = ap (λ x. is_none x && nat_le max_pairs (length pairs)) (sym value)
is_replaced None pairs holder is value = absurd (false≢true is)

-- and where there are fewer pairs than there may be
pub has_room : (pairs : List Pair) (holder : Address) → length pairs < max_pairs → is_full_for pairs holder ≡ false
has_room pairs holder few = of_test (is_none (dependent_of pairs holder))
  where
    of_test : (b : Bool) → (b && nat_le max_pairs (length pairs)) ≡ false
    of_test true = lt-leb max_pairs (length pairs) few
    of_test false = refl
