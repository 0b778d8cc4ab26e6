-- Two rows of checks that come to the same: what they came to, and things that are looked up by names and in lists.
use Rattle.std.proofs.Common.{◌≡◌, ◌∙◌, ◌<◌, ℕ, zero, suc, refl, sym, ap, subst, List, [], ◌∷◌, length, map, Option, Some, None, Ok, Err, IsSome, arith}
use Rattle.std.proofs.lemmas.Bool.{false≢true}
use Rattle.std.proofs.lemmas.Option.{none-some, same_Some, slice_get-map}
use Rattle.std.specs.Prelude.{option_map, slice_get}
use Rattle.mps_base.specs.declared.refusal.Refusal.{Refusal}
use Rattle.mps_base.specs.declared.refusal.Refusal.TheVariants as refusal
use Rattle.mps_laws.proofs.Same.{Same, fits, refused, BothOrNeither, both, neither, same_then, same_required}
use Rattle.mps_model.specs.Checked as model
use Rattle.mps_model.specs.Checked.{Checked, Numbered, Found, ◌>>=◌, ◌>>◌, numbered}
use Rattle.mps_heap_spec.specs.Finding.{under, entry_in}
use Rattle.mps_heap_spec.specs.declared.found.Entry.{Entry}
use Rattle.mps_heap_spec.specs.declared.found.Kept.{Kept}

-- ---- what two rows came to

-- the values that both rows came to, and that these fit
pub record AreFound {A B : Type 0} (Fits : A → B → Type 0) (x : Checked A) (y : Checked B) (a : A) (b : B) : Type 0 where
  pub fit : Fits a b
  pub ours : x ≡ Ok a
  pub models : y ≡ Ok b

pub same_found : {A B : Type 0} {Fits : A → B → Type 0} {x : Checked A} {y : Checked B} → Same Fits x y → Same (AreFound Fits x y) x y
same_found (fits fit) = fits (record { fit = fit; ours = refl; models = refl })
same_found refused = refused

pub same_of : {A B : Type 0} (Fits : A → B → Type 0) {x : Checked A} {y : Checked B} {a : A} {b : B} → x ≡ Ok a → y ≡ Ok b → Fits a b
    → Same Fits x y
same_of Fits {x} {y} {a} {b} e f fit = subst (λ u. Same Fits u y) (sym e) (subst (λ v. Same Fits (Ok a) v) (sym f) (fits fit))

pub same_refused : {A B : Type 0} (Fits : A → B → Type 0) {x : Checked A} {y : Checked B} (why : Refusal) → x ≡ Err why → y ≡ Err why
    → Same Fits x y
same_refused Fits {x} {y} why e f = subst (λ u. Same Fits u y) (sym e) (subst (λ v. Same Fits (Err why) v) (sym f) refused)

-- what comes next on the one side with the value, on the other without
pub same_drop : {A B C D : Type 0} {Fits : A → B → Type 0} {FitNext : C → D → Type 0} {x : Checked A} {y : Checked B} {f : A → Checked C}
    {v : Checked D} → Same Fits x y → ((a : A) (b : B) → Fits a b → Same FitNext (f a) v) → Same FitNext (x >>= f) (y >> v)
same_drop (fits {a} {b} fit) next = next a b fit
same_drop refused next = refused

-- checks in a row
pub in_a_row : {A B C : Type 0} (x : Checked A) (f : A → Checked B) (g : B → Checked C)
    → ((x >>= f) >>= g) ≡ (x >>= (λ a. f a >>= g))
in_a_row (Ok a) f g = refl
in_a_row (Err why) f g = refl

-- a check that is made again comes to the same again
pub again : {A B C : Type 0} (x : Checked A) (f : A → Checked B) (g : B → Checked C)
    → (x >>= (λ a. f a >> (x >>= (λ b. f b >>= g)))) ≡ (x >>= (λ a. f a >>= g))
again (Ok a) f g = once_more (f a)
  where
    once_more : (y : Checked _) → (y >> (y >>= g)) ≡ (y >>= g)
    once_more (Ok b) = refl
    once_more (Err why) = refl
again (Err why) f g = refl

-- ---- options

pub mapped_some : {A B : Type 0} (f : A → B) (o : Option A) (b : B) → option_map f o ≡ Some b → (a : A) × (o ≡ Some a) × (f a ≡ b)
mapped_some f None b e = absurd (none-some b e)
mapped_some f (Some a) b e = (a, refl, same_Some (f a) b e)

pub some_there : {A : Type 0} (o : Option A) → IsSome o → (a : A) × (o ≡ Some a)
some_there None e = absurd (false≢true e)
some_there (Some a) e = (a, refl)

-- ---- what is kept under a key

-- what is kept under a key, and what has the key's number in the model
pub record IsKept {A B : Type 0} (Fits : ℕ → A → B → Type 0) (numbers : ℕ → ℕ) (ours : ℕ → Option A) (models : ℕ → Option B) (x : Kept A)
    (y : Numbered B) : Type 0 where
  pub number : y.number ≡ numbers x.key
  pub kept : ours x.key ≡ Some x.value
  pub has : models y.number ≡ Some y.value
  pub fit : Fits y.number x.value y.value

-- each thing that is kept under a key has one in the model that it fits
abbrev pub AreThere : {A B : Type 0} (Fits : ℕ → A → B → Type 0) (numbers : ℕ → ℕ) (ours : ℕ → Option A) (models : ℕ → Option B) → Type 0
AreThere {A} {B} Fits numbers ours models =
    (key : ℕ) (a : A) → ours key ≡ Some a → (b : B) × (models (numbers key) ≡ Some b) × Fits (numbers key) a b

pub under_same : {A B : Type 0} (Fits : ℕ → A → B → Type 0) (numbers : ℕ → ℕ) (ours : ℕ → Option A) (models : ℕ → Option B)
    → AreThere Fits numbers ours models → (key number : ℕ) → number ≡ numbers key → IsSome (ours key)
    → Same (IsKept Fits numbers ours models) (under key (ours key)) (numbered number (models number))
under_same {A} {B} Fits numbers ours models there key number is some =
    let a = some_there (ours key) some in
    let b = there key a.0 a.1 in
    let has : models number ≡ Some b.0 = ap models is ∙ b.1 in
    same_of (IsKept Fits numbers ours models) (ap (under key) a.1) (ap (numbered number) has)
    (record { number = is; kept = a.1; has = has; fit = subst (λ n. Fits n a.0 b.0) (sym is) b.2 })

-- ---- what stands in a list

-- an entry of a list that is kept under a key, and the same of the model's
pub record IsEntry {A B : Type 0} (f : B → A) (numbers : ℕ → ℕ) (ours : ℕ → Option (List A)) (models : ℕ → Option (List B)) (index : ℕ)
    (x : Entry A) (y : Found B) : Type 0 where
  pub list : List A
  pub kept : ours x.key ≡ Some list
  pub lists : list ≡ map f y.list
  pub number : y.number ≡ numbers x.key
  pub has : models y.number ≡ Some y.list
  pub index_is : x.index ≡ index
  pub found_index : y.index ≡ index
  pub there : slice_get y.list index ≡ Some y.value
  pub value : x.value ≡ f y.value

both_mapped : {A B : Type 0} (f : B → A) (xs : List A) (ys : List B) (i : ℕ) → xs ≡ map f ys
    → BothOrNeither (λ a b. (a ≡ f b) × (slice_get ys i ≡ Some b)) (slice_get xs i) (slice_get ys i)
both_mapped {A} {B} f xs ys i e =
    subst (λ o. BothOrNeither (λ a b. (a ≡ f b) × (slice_get ys i ≡ Some b)) o (slice_get ys i))
    (sym (ap (λ zs. slice_get zs i) e ∙ slice_get-map f ys i)) (of_entry (slice_get ys i) refl)
  where
    of_entry : (o : Option B) → slice_get ys i ≡ o
        → BothOrNeither (λ a b. (a ≡ f b) × (slice_get ys i ≡ Some b)) (option_map f o) o
    of_entry None e = neither
    of_entry (Some b) e = both (refl, e)

abbrev pub AreMapped : {A B : Type 0} (f : B → A) (number : ℕ) → List A → List B → Type 0
AreMapped f number xs ys = xs ≡ map f ys

pub entry_same : {A B : Type 0} (f : B → A) (numbers : ℕ → ℕ) (ours : ℕ → Option (List A)) (models : ℕ → Option (List B)) (index : ℕ)
    (x : Kept (List A)) (y : Numbered (List B)) → IsKept (AreMapped f) numbers ours models x y
    → Same (IsEntry f numbers ours models index) (entry_in x index) (model.entry_in y index)
entry_same f numbers ours models index x y k =
    same_then (same_required refusal.BadIndex (both_mapped f x.value y.value index k.fit)) (λ a b e.
    fits (record {
      list = x.value;
      kept = k.kept;
      lists = k.fit;
      number = k.number;
      has = k.has;
      index_is = refl;
      found_index = refl;
      there = e.1;
      value = e.0;
    }))

-- what stands at a place that is within a list
pub something : {A : Type 0} (xs : List A) (n : ℕ) → n < length xs → (x : A) × (slice_get xs n ≡ Some x)
something [] n less = absurd (omega (arith, less))
something (x ∷ xs) zero less = (x, refl)
something (x ∷ xs) (suc n) less = something xs n (omega (arith, less))
