-- Colours after an object is kept, and after it was scanned.
use Rattle.std.proofs.Common.{◌≡◌, ◌∙◌, ◌⊎◌, Bool, true, false, refl, sym, ap, List, subst, inl, inr}
use Rattle.std.proofs.lemmas.Bool.{false≢true, and_parts, or_parts, or_left, or_right, or_cases, eq-eqb, cases_Bool, cases_eq}
use Rattle.std.specs.Prelude.{◌==◌, ◌&&◌, ◌||◌, not}
use Rattle.mps_base.specs.Address.{Id}
use Rattle.mps_model.specs.Graph.{contains}
use Rattle.mps_abstract.specs.Colours.{Colours, is_white, is_grey, is_to_scan, keeping, blackened}
use Rattle.mps_abstract.proofs.Lists.{contains_here, contains_cases, contains-filter, contains_without}

-- white where it is condemned and not kept
pub is_condemned_if_white : (condemned : List Id) (k : Colours) (n : Id) → is_white condemned k n ≡ true → contains condemned n ≡ true
is_condemned_if_white condemned k n white = (and_parts (contains condemned n) (not (contains k.kept n)) white).0

not_white_where : (b e : Bool) → e ≡ true → (b && not e) ≡ false
not_white_where true true h = refl
not_white_where false true h = refl
not_white_where b false h = absurd (false≢true h)

-- what isn't condemned isn't white
pub not_white_outside : (condemned : List Id) (k : Colours) (n : Id) → contains condemned n ≡ false → is_white condemned k n ≡ false
not_white_outside condemned k n outside = ap (λ b. b && not (contains k.kept n)) outside

-- what is condemned and isn't white is kept
pub kept_if_not_white : (condemned : List Id) (k : Colours) (n : Id) → contains condemned n ≡ true → is_white condemned k n ≡ false
    → contains k.kept n ≡ true
kept_if_not_white condemned k n is black = of_tests (contains condemned n) (contains k.kept n) is black
  where
    of_tests : (b e : Bool) → b ≡ true → (b && not e) ≡ false → e ≡ true
    of_tests true true h g = refl
    of_tests true false h g = absurd (false≢true (sym g))
    of_tests false e h g = absurd (false≢true h)

pub not_white_if_kept : (condemned : List Id) (k : Colours) (n : Id) → contains k.kept n ≡ true → is_white condemned k n ≡ false
not_white_if_kept condemned k n is = not_white_where (contains condemned n) (contains k.kept n) is

-- two objects of which one is white and the other isn't are different
pub differ_by_colour : (condemned : List Id) (k : Colours) (n m : Id) → is_white condemned k n ≡ true → is_white condemned k m ≡ false
    → n ≡ m → ⊥
differ_by_colour condemned k n m white black same = false≢true (sym black ∙ subst (λ i. is_white condemned k i ≡ true) same white)

-- ---- one more object is kept

module _ (condemned : List Id) (k : Colours) (id : Id) where
  pub it_is_kept : is_white condemned (keeping k id) id ≡ false
  it_is_kept = not_white_if_kept condemned (keeping k id) id (contains_here id k.kept)

  -- what wasn't white still isn't
  pub still_kept : (n : Id) → is_white condemned k n ≡ false → is_white condemned (keeping k id) n ≡ false
  still_kept n black = of_tests (contains condemned n) (contains k.kept n) (id == n) black
    where
      of_tests : (b e d : Bool) → (b && not e) ≡ false → (b && not (d || e)) ≡ false
      of_tests false e d h = refl
      of_tests true true true h = refl
      of_tests true true false h = refl
      of_tests true false d h = absurd (false≢true (sym h))

  -- what is white now was white, and is another one
  pub white_before : (n : Id) → is_white condemned (keeping k id) n ≡ true → (is_white condemned k n ≡ true) × (id ≡ n → ⊥)
  white_before n white = (
    elim (cases_Bool (is_white condemned k n)) [
      | inl is ↦ is
      | inr isnt ↦ absurd (false≢true (sym (still_kept n isnt) ∙ white))
    ],
    (λ same. false≢true (sym (subst (λ i. is_white condemned (keeping k id) i ≡ false) same it_is_kept) ∙ white)),
  )

  -- what isn't white now is the one, or wasn't white
  pub kept_before : (n : Id) → is_white condemned (keeping k id) n ≡ false → (id ≡ n) ⊎ (is_white condemned k n ≡ false)
  kept_before n black = of_tests (contains condemned n) (contains k.kept n) (cases_eq id n) black
    where
      of_tests : (b e : Bool) → (id ≡ n) ⊎ (id ≡ n → ⊥) → (b && not ((id == n) || e)) ≡ false → (id ≡ n) ⊎ ((b && not e) ≡ false)
      of_tests b e (inl same) h = inl same
      of_tests b e (inr other) h = inr (ap (λ d. b && not (d || e)) (sym (Rattle.std.proofs.lemmas.Bool.ne_eqb id n other)) ∙ h)

  -- what is black now was black
  pub black_before : (n : Id) → is_white condemned (keeping k id) n ≡ false → is_grey (keeping k id) n ≡ false
      → (is_white condemned k n ≡ false) × (is_grey k n ≡ false)
  black_before n black grey =
      let parts = or_parts (id == n) (is_grey k n) grey in
      (elim (kept_before n black) [ inl same ↦ absurd (false≢true (sym parts.0 ∙ eq-eqb id n same)) | inr before ↦ before ], parts.1)

  -- what is to be scanned now was to be scanned, where the one was white
  pub to_scan_before : is_white condemned k id ≡ true → (n : Id) → is_to_scan condemned (keeping k id) n ≡ true
      → is_to_scan condemned k n ≡ true
  to_scan_before white n h = elim (or_cases (is_white condemned (keeping k id) n) (is_grey (keeping k id) n) h) [
    | inl is ↦ or_left (is_white condemned k n) (is_grey k n) (white_before n is).0
    | inr grey ↦ elim (contains_cases id k.grey n grey) [
      | inl same ↦ or_left (is_white condemned k n) (is_grey k n) (subst (λ i. is_white condemned k i ≡ true) same white)
      | inr old ↦ or_right (is_white condemned k n) (is_grey k n) old
    ]
  ]

-- ---- an object was scanned

module _ (condemned : List Id) (k : Colours) (id : Id) where
  pub grey_still : (n : Id) → is_grey (blackened k id) n ≡ true → is_grey k n ≡ true
  grey_still n h = (contains-filter (λ m. not (m == id)) k.grey n h).0

  pub not_grey_or_it : (n : Id) → is_grey (blackened k id) n ≡ false → (n ≡ id) ⊎ (is_grey k n ≡ false)
  not_grey_or_it n h = contains_without k.grey id n h

  -- it isn't grey any more
  pub it_is_not_grey : is_grey (blackened k id) id ≡ false
  it_is_not_grey = elim (cases_Bool (is_grey (blackened k id) id)) [
    | inl is ↦ absurd (false≢true (sym (ap not (eq-eqb id id refl)) ∙ (contains-filter (λ m. not (m == id)) k.grey id is).1))
    | inr isnt ↦ isnt
  ]

  pub to_scan_still : (n : Id) → is_to_scan condemned (blackened k id) n ≡ true → is_to_scan condemned k n ≡ true
  to_scan_still n h = elim (or_cases (is_white condemned k n) (is_grey (blackened k id) n) h) [
    | inl white ↦ or_left (is_white condemned k n) (is_grey k n) white
    | inr grey ↦ or_right (is_white condemned k n) (is_grey k n) (grey_still n grey)
  ]
