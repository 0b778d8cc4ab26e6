-- What the readings of words give: calls in the ranges of the script, and numbers in theirs.
use Rattle.std.proofs.Common.{◌≡◌, ℕ, ◌≤◌, Bool, true, false, Option, Some, None, List, [], ◌∷◌, refl, ap, subst, arith, option_and_then, option_map, if◌then◌else◌, nat_le}
use Rattle.std.specs.Prelude.{◌&&◌, bytes_eq, IsTrue}
use Rattle.std.specs.List.{AllByRecursion}
use Rattle.std.proofs.lemmas.Bool.Decides.{nat_tests}
use Rattle.mps_model.specs.declared.call.Call.{Call}
use Rattle.mps_answers.specs.Word.{only_word}
use Rattle.mps_answers.specs.Reading.{first_of_two, both, named_in, single, onto, pair}
use Rattle.mps_script.specs.Calls.{none, one, two, three, or}
use Rattle.mps_numerals.specs.Decimal.{decimal_number}
use Rattle.mps_answers.specs.Number.{number_within}
use Rattle.mps_commands.specs.Range.{IsInRange}

-- the call, where there is one, is in range
abbrev pub AreInRange : Option Call → Type 0
AreInRange o = (c : Call) → o ≡ Some c → IsInRange c

-- a form gives no other
abbrev pub FormInRange : (List (List ℕ) → Option Call) → Type 0
FormInRange form = (ws : List (List ℕ)) → AreInRange (form ws)

pub nothing_in_range : AreInRange None
nothing_in_range c e = absurd (let a : None ≡ Some c = e in cc)

pub call_is_in_range : (d : Call) → IsInRange d → AreInRange (Some d)
call_is_in_range d h c e = subst IsInRange (let a : d ≡ c = cc in a) h

pub either_in_range : (b : Bool) (x y : Option Call) → AreInRange x → AreInRange y → AreInRange (if b then x else y)
either_in_range true x y h k = h
either_in_range false x y h k = k

-- ---- numbers

chosen_within : (b : Bool) (n m : ℕ) → (if b then Some n else None) ≡ Some m → IsTrue b × (n ≡ m)
chosen_within true n m e = (refl, let a : Some n ≡ Some m = e in cc)
chosen_within false n m e = absurd (let a : None ≡ Some m = e in cc)

bounded : (low high : ℕ) (o : Option ℕ) (m : ℕ) → option_and_then (λ n. if nat_le low n && nat_le n high then Some n else None) o ≡ Some m
    → (low ≤ m) × (m ≤ high)
bounded low high None m e = absurd (let a : None ≡ Some m = e in cc)
bounded low high (Some n) m e =
    let chosen = chosen_within (nat_le low n && nat_le n high) n m e in
    let both : IsTrue (nat_le low n && nat_le n high) = chosen.0 in
    let same : n ≡ m = chosen.1 in
    let within : (low ≤ n) × (n ≤ high) = grind (arith, nat_tests) in
    subst (λ k. (low ≤ k) × (k ≤ high)) same within

pub within_range : (low high : ℕ) (word : List ℕ) (m : ℕ) → number_within low high word ≡ Some m → (low ≤ m) × (m ≤ high)
within_range low high word m e = bounded low high (decimal_number word) m e

-- ---- readings

pub and_then_in_range : {A : Type 0} (f : A → Call) (o : Option A) → ((x : A) → o ≡ Some x → IsInRange (f x)) → AreInRange (option_map f o)
and_then_in_range f None h = nothing_in_range
and_then_in_range f (Some x) h = call_is_in_range (f x) (h x refl)

pub first_in_range : (o other : Option Call) → AreInRange o → AreInRange other → AreInRange (first_of_two o other)
first_in_range None other h k = k
first_in_range (Some c) other h k = h

pub none_in_range : (c : Call) → IsInRange c → FormInRange (none c)
none_in_range c h [] = call_is_in_range c h
none_in_range c h (word ∷ ws) = nothing_in_range

pub one_in_range : {A : Type 0} (a : List ℕ → Option A) (f : A → Call) → ((x : A) → IsInRange (f x)) → FormInRange (one a f)
one_in_range a f h ws = and_then_in_range f (single a ws) (λ x e. h x)

pub two_in_range : {A B : Type 0} (a : List ℕ → Option A) (b : List ℕ → Option B) (f : A → B → Call)
    → ((x : A) (y : B) → IsInRange (f x y)) → FormInRange (two a b f)
two_in_range a b f h ws = and_then_in_range (λ p. f p.0 p.1) (pair a b ws) (λ p e. h p.0 p.1)

pub three_in_range : {A B C : Type 0} (a : List ℕ → Option A) (b : List ℕ → Option B) (c : List ℕ → Option C) (f : A → B → C → Call)
    → ((x : A) (y : B) (z : C) → IsInRange (f x y z)) → FormInRange (three a b c f)
three_in_range a b c f h ws = and_then_in_range (λ p. f p.0 p.1.0 p.1.1) (onto a (pair b c) ws) (λ p e. h p.0 p.1.0 p.1.1)

pub or_in_range : (a b : List (List ℕ) → Option Call) → FormInRange a → FormInRange b → FormInRange (or a b)
or_in_range a b h k ws = first_in_range (a ws) (b ws) (h ws) (k ws)

-- ---- the forms whose numbers have ranges

both_there : {A B : Type 0} (x : Option A) (y : Option B) (p : A × B) → both x y ≡ Some p → (x ≡ Some p.0) × (y ≡ Some p.1)
both_there (Some x) (Some y) p e =
    let same : (x, y) ≡ p = (let whole : Some (x, y) ≡ Some p = e in cc) in
    (ap (λ q. Some q.0) same, ap (λ q. Some q.1) same)
both_there (Some x) None p e = absurd (let wrong : None ≡ Some p = e in cc)
both_there None y p e = absurd (let wrong : None ≡ Some p = e in cc)

-- what the reading of one word gives, where this is what the word gives
module _ {A : Type 0} (This : A → Type 0) where
  pub single_gives : (read : List ℕ → Option A) → ((word : List ℕ) (x : A) → read word ≡ Some x → This x) → (ws : List (List ℕ)) (x : A)
      → single read ws ≡ Some x → This x
  single_gives read gives ws x e = of_word (only_word ws) e
    where
      of_word : (o : Option (List ℕ)) → option_and_then read o ≡ Some x → This x
      of_word None e = absurd (let wrong : None ≡ Some x = e in cc)
      of_word (Some word) e = gives word x e

  -- what a table gives, where its rows have it
  pub named_gives : (rows : List (List ℕ × A)) → AllByRecursion (λ row. This row.1) rows → (word : List ℕ) (x : A)
      → named_in rows word ≡ Some x → This x
  named_gives [] all word x e = absurd (let wrong : None ≡ Some x = e in cc)
  named_gives (row ∷ rows) all word x e = of_row (bytes_eq word row.0) (named_gives rows all.1 word x) e
    where
      of_row : (b : Bool) → (named_in rows word ≡ Some x → This x) → (if b then Some row.1 else named_in rows word) ≡ Some x → This x
      of_row true later e = let same : row.1 ≡ x = (let whole : Some row.1 ≡ Some x = e in cc) in subst This same all.0
      of_row false later e = later e

-- what a word and those after it give, where the first gives this and the others that
pub onto_gives : {A B : Type 0} (This : A → Type 0) (That : B → Type 0) (read : List ℕ → Option A) (rest : List (List ℕ) → Option B)
    → ((word : List ℕ) (x : A) → read word ≡ Some x → This x) → ((ws : List (List ℕ)) (y : B) → rest ws ≡ Some y → That y)
    → (ws : List (List ℕ)) (p : A × B) → onto read rest ws ≡ Some p → This p.0 × That p.1
onto_gives This That read rest gives_this gives_that [] p e = absurd (let wrong : None ≡ Some p = e in cc)
onto_gives This That read rest gives_this gives_that (word ∷ ws) p e =
    let there = both_there (read word) (rest ws) p e in (gives_this word p.0 there.0, gives_that ws p.1 there.1)

-- of what any word gives nothing is said
abbrev pub Anything : {A : Type 0} → A → Type 0
Anything x = Unit {0}

abbrev pub IsWithin : (low high : ℕ) → ℕ → Type 0
IsWithin low high n = (low ≤ n) × (n ≤ high)

pub both_hold : (a b : Bool) → a ≡ true → b ≡ true → (a && b) ≡ true
both_hold true b h k = k
both_hold false b h k = absurd (let wrong : false ≡ true = h in cc)
