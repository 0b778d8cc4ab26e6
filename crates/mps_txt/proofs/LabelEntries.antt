-- The map of labels that is kept, beside the labels that it stands for.
use Rattle.std.proofs.Common.{◌≡◌, ℕ, ◌<◌, Bool, true, false, cond, eqb, ltb, [], ◌∷◌, Option, Some, None, Result, Ok, Err, refl, sym, ap, ◌∙◌, arith}
use Rattle.std.specs.Prelude.{◌==◌, OnOk}
use Rattle.std.specs.BTreeMap.{insert_entry, is_at}
use Rattle.std.specs.Map.{lookup, remove_entry}
use Rattle.std.specs.Ordering.{nat_cmp}
use Rattle.std.proofs.lemmas.Bool.{eqb-true, eq-eqb, ltb-true, ltb-false}
use Rattle.mps_address_map.specs.AddressMap.{Changes}
use Rattle.mps_txt.specs.LabelEntries.{labels_of}
use Rattle.mps_txt.proofs.AscendingLabels.{Entries, Above, Ascends, lower_above, ascends_with, ascends_without, at_is, absent_above, found_with, found_without}

-- what labels have at an address
abbrev found : Entries → ℕ → Option ℕ
found es q = lookup (is_at (nat_cmp q)) es

-- ---- labels that have the same at each address

first_found : (e : ℕ × ℕ) (es : Entries) → found (e ∷ es) e.0 ≡ Some e.1
first_found e es = ap (λ (c : Bool). cond c (Some e.1) (found es e.0)) (at_is e.0 e.0 ∙ eq-eqb e.0 e.0 refl)

not_empty : (e : ℕ × ℕ) (es : Entries) → None ≡ found (e ∷ es) e.0 → ⊥
not_empty e es h = absurd (let f : None ≡ Some e.1 = h ∙ first_found e es in cc)

not_below : (a b : ℕ × ℕ) (xs ys : Entries) → Above b.0 ys → found (a ∷ xs) a.0 ≡ found (b ∷ ys) a.0 → a.0 < b.0 → ⊥
not_below a b xs ys above h lt =
    let none : found (b ∷ ys) a.0 ≡ None = absent_above a.0 a.0 (b ∷ ys) refl (lt, lower_above a.0 b.0 ys lt above) in
    absurd (let e : Some a.1 ≡ None = sym (first_found a xs) ∙ h ∙ none in cc)

equal_between : (m n : ℕ) → (m < n → ⊥) → (n < m → ⊥) → m ≡ n
equal_between m n h k = by (ltb m n) (ltb n m) refl refl
  where
    by : (c d : Bool) → ltb m n ≡ c → ltb n m ≡ d → m ≡ n
    by true d e f = absurd (h (ltb-true m n e))
    by false true e f = absurd (k (ltb-true n m f))
    by false false e f = omega (arith, ltb-false m n e, ltb-false n m f)

some_same : (m n : ℕ) → Some m ≡ Some n → m ≡ n
some_same m n e = ap (λ (o : Option ℕ). value o) e
  where
    value : Option ℕ → ℕ
    value None = m
    value (Some x) = x

rest_case : (c : Bool) (v x y : Option ℕ) → (c ≡ true → x ≡ y) → cond c v x ≡ cond c v y → x ≡ y
rest_case true v x y h e = h refl
rest_case false v x y h e = e

same_labels : (s t : Entries) → Ascends s → Ascends t → ((q : ℕ) → found s q ≡ found t q) → s ≡ t
same_labels [] [] h k e = refl
same_labels [] (b ∷ ys) h k e = absurd (not_empty b ys (e b.0))
same_labels (a ∷ xs) [] h k e = absurd (not_empty a xs (sym (e a.0)))
same_labels (a ∷ xs) (b ∷ ys) h k e =
    let at : a.0 ≡ b.0 = equal_between a.0 b.0 (not_below a b xs ys k.0 (e a.0)) (not_below b a ys xs h.0 (sym (e b.0))) in
    let value : a.1 ≡ b.1 = some_same a.1 b.1 (sym (first_found a xs) ∙ e a.0 ∙ ap (found (b ∷ ys)) at ∙ first_found b ys) in
    let same : a ≡ b = λ j. (at j, value j) in
    let later : (q : ℕ) → found xs q ≡ found ys q = λ q.
    rest_case (is_at (nat_cmp q) a.0) (Some a.1) (found xs q) (found ys q)
    (λ there.
    let is : q ≡ a.0 = sym (eqb-true a.0 q (sym (at_is q a.0) ∙ there)) in
    absent_above a.0 q xs is h.0 ∙ sym (absent_above b.0 q ys (is ∙ at) k.0))
    (e q ∙ ap (λ (x : ℕ × ℕ). cond (is_at (nat_cmp q) x.0) (Some x.1) (found ys q)) (sym same)) in
    let rest : xs ≡ ys = same_labels xs ys h.1 k.1 later in
    ap (λ (x : ℕ × ℕ). x ∷ xs) same ∙ ap (λ (es : Entries). b ∷ es) rest

-- ---- the labels of a map

eqb-sym : (a b : ℕ) → eqb a b ≡ eqb b a
eqb-sym a b = grind arith

labels_ascend : (es : Entries) → Ascends (labels_of es)
labels_ascend [] = tt
labels_ascend (e ∷ es) = ascends_with (labels_of es) e.0 e.1 (labels_ascend es)

pub found_labels : (es : Entries) (q : ℕ) → lookup (is_at (nat_cmp q)) (labels_of es) ≡ lookup (eqb q) es
found_labels [] q = refl
found_labels (e ∷ es) q =
    found_with (labels_of es) e.0 e.1 q
    ∙ ap (λ (o : Option ℕ). cond (e.0 == q) (Some e.1) o) (found_labels es q)
    ∙ ap (λ (c : Bool). cond c (Some e.1) (lookup (eqb q) es)) (eqb-sym e.0 q)

pub labels_with : (es new : Entries) (at id : ℕ) → Changes es new at (Some id)
    → labels_of new ≡ insert_entry nat_cmp (labels_of es) at id
labels_with es new at id change =
    same_labels (labels_of new) (insert_entry nat_cmp (labels_of es) at id) (labels_ascend new)
    (ascends_with (labels_of es) at id (labels_ascend es))
    (λ q.
    found_labels new q
    ∙ change q
    ∙ ap (λ (o : Option ℕ). cond (eqb at q) (Some id) o) (sym (found_labels es q))
    ∙ sym (found_with (labels_of es) at id q))

pub labels_without : (es new : Entries) (at : ℕ) → Changes es new at None
    → labels_of new ≡ remove_entry (is_at (nat_cmp at)) (labels_of es)
labels_without es new at change =
    same_labels (labels_of new) (remove_entry (is_at (nat_cmp at)) (labels_of es)) (labels_ascend new)
    (ascends_without (labels_of es) at (labels_ascend es))
    (λ q.
    found_labels new q
    ∙ change q
    ∙ ap (λ (o : Option ℕ). cond (eqb at q) None o) (sym (found_labels es q))
    ∙ sym (found_without (labels_of es) at q (labels_ascend es)))

-- ---- of results

-- what holds holds where there is no error
pub on_ok_of : {T E P : Type 0} (r : Result T E) → P → OnOk r P
on_ok_of (Ok value) h = h
on_ok_of (Err why) h = tt

pub on_ok_failed : {T E : Type 0} (P : Type 0) (r : Result T E) (why : E) → r ≡ Err why → OnOk r P
on_ok_failed P (Ok value) why h = absurd cc
on_ok_failed P (Err other) why h = tt
