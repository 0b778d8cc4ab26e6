-- Checks that may fail, each by a refusal of a list, and what comes of an act after them.
use Rattle.std.proofs.Common.{◌≡◌, ℕ, zero, suc, Bool, true, false, refl, List, [], ◌∷◌, Option, Some, None, Ok, Err, arith, Contains}
use Rattle.std.specs.Prelude.{slice_get}
use Rattle.mps_base.specs.declared.refusal.Refusal.{Refusal}
use Rattle.mps_base.specs.declared.refusal.Refusal.TheVariants as refusal
use Rattle.mps_model.specs.Answer.{is_refused}
use Rattle.mps_model.specs.Graph.{Cell, HeadCell, NumberCell, ReferenceCell, object_at}
use Rattle.mps_model.specs.World.{World}
use Rattle.mps_model.specs.Checked.{Act, Checked, Numbered, ◌>>=◌, ◌>>◌, entry_in, number_at, number_of_cell, numbered, object_in, reference_at, reference_in, refuse_when, required, tag_at, tag_in}

-- ---- a list of refusals

-- a refusal is one of a list
pub data IsOf (why : Refusal) : List Refusal → Type 0 where
  here : {whys : List Refusal} → IsOf why (why ∷ whys)
  there : {other : Refusal} {whys : List Refusal} → IsOf why whys → IsOf why (other ∷ whys)

pub contained : {why : Refusal} (whys : List Refusal) → IsOf why whys → Contains whys why
contained [] is = elim is [ ]
contained (w ∷ whys) here = (zero, omega arith, refl)
contained (w ∷ whys) (there is) = let c = contained whys is in (suc c.0, omega (arith, c.1), c.2)

pub first : {a : Refusal} {whys : List Refusal} → IsOf a (a ∷ whys)
first = here

pub second : {a b : Refusal} {whys : List Refusal} → IsOf b (a ∷ b ∷ whys)
second = there here

pub third : {a b c : Refusal} {whys : List Refusal} → IsOf c (a ∷ b ∷ c ∷ whys)
third = there second

pub fourth : {a b c d : Refusal} {whys : List Refusal} → IsOf d (a ∷ b ∷ c ∷ d ∷ whys)
fourth = there third

pub fifth : {a b c d e : Refusal} {whys : List Refusal} → IsOf e (a ∷ b ∷ c ∷ d ∷ e ∷ whys)
fifth = there fourth

pub sixth : {a b c d e f : Refusal} {whys : List Refusal} → IsOf f (a ∷ b ∷ c ∷ d ∷ e ∷ f ∷ whys)
sixth = there fifth

pub seventh : {a b c d e f g : Refusal} {whys : List Refusal} → IsOf g (a ∷ b ∷ c ∷ d ∷ e ∷ f ∷ g ∷ whys)
seventh = there sixth

-- ---- a check, and an act after it

-- a check passes, or fails by a refusal of the list
pub data Fails (whys : List Refusal) {A : Type 0} : Checked A → Type 0 where
  passes : (a : A) → Fails whys (Ok a)
  fails : {why : Refusal} → IsOf why whys → Fails whys (Err why)

-- an act is answered by no refusal, or is refused by one of the list
pub data Comes (whys : List Refusal) : Checked Act → Type 0 where
  answered : {a : Act} → is_refused a.answer ≡ false → Comes whys (Ok a)
  is_refusal : {why : Refusal} → IsOf why whys → Comes whys (Err why)

module _ {whys : List Refusal} {A : Type 0} where
  pub value_then : {x : Checked A} {f : A → Checked Act} → Fails whys x → ((a : A) → Comes whys (f a)) → Comes whys (x >>= f)
  value_then (passes a) next = next a
  value_then (fails is) next = is_refusal is

  pub check_then : {x : Checked A} {y : Checked Act} → Fails whys x → Comes whys y → Comes whys (x >> y)
  check_then (passes a) next = next
  check_then (fails is) next = is_refusal is

  -- a check whose value the next one uses
  pub checks : {B : Type 0} {x : Checked A} {f : A → Checked B} → Fails whys x → ((a : A) → Fails whys (f a)) → Fails whys (x >>= f)
  checks (passes a) next = next a
  checks (fails is) next = fails is

  pub checked : {B : Type 0} {x : Checked A} {y : Checked B} → Fails whys x → Fails whys y → Fails whys (x >> y)
  checked (passes a) next = next
  checked (fails is) next = fails is

  pub required_fails : (o : Option A) (why : Refusal) → IsOf why whys → Fails whys (required o why)
  required_fails (Some a) why is = passes a
  required_fails None why is = fails is

  numbered_fails : (n : ℕ) (o : Option A) → IsOf refusal.BadName whys → Fails whys (numbered n o)
  numbered_fails n (Some a) is = passes (record { number = n; value = a })
  numbered_fails n None is = fails is

  -- a thing is named
  pub named_fails : (number : Option ℕ) (look : ℕ → Option A) → IsOf refusal.BadName whys
      → Fails whys (required number refusal.BadName >>= (λ n. numbered n (look n)))
  named_fails (Some n) look is = numbered_fails n (look n) is
  named_fails None look is = fails is

pub when_fails : {whys : List Refusal} (b : Bool) (why : Refusal) → IsOf why whys → Fails whys (refuse_when b why)
when_fails true why is = fails is
when_fails false why is = passes tt

-- ---- entries, objects and cells

module _ {whys : List Refusal} (name : IsOf refusal.BadName whys) (at : IsOf refusal.BadIndex whys) where
  entry_in_fails : {A : Type 0} (from : Numbered (List A)) (index : ℕ) → Fails whys (entry_in from index)
  entry_in_fails from index = checks (required_fails (slice_get from.value index) refusal.BadIndex at) (λ value. passes _)

  -- an entry of a named list of entries
  pub entry_fails : {A : Type 0} (number : Option ℕ) (look : ℕ → Option (List A)) (index : ℕ)
      → Fails whys (required number refusal.BadName >>= (λ n. numbered n (look n) >>= (λ from. entry_in from index)))
  entry_fails (Some n) look index = checks (numbered_fails n (look n) name) (λ from. entry_in_fails from index)
  entry_fails None look index = fails name

module _ {whys : List Refusal} where
  pub object_fails : (w : World) (target : Option ℕ) → IsOf refusal.NullRef whys → Fails whys (object_in w target)
  object_fails w target is =
      checks (required_fails target refusal.NullRef is) (λ id.
      checks (required_fails (object_at w.graph id) refusal.NullRef is) (λ object. passes _))

  pub number_fails : (cells : List Cell) (k : ℕ) → IsOf refusal.BadIndex whys → IsOf refusal.NotANumber whys
      → Fails whys (number_at cells k)
  number_fails cells k at not_number = checks (required_fails (slice_get cells k) refusal.BadIndex at) of_cell
    where
      of_cell : (cell : Cell) → Fails whys (number_of_cell cell)
      of_cell HeadCell = fails not_number
      of_cell (NumberCell n) = passes n
      of_cell (ReferenceCell target tag) = fails not_number

  pub reference_fails : (cells : List Cell) (k : ℕ) → IsOf refusal.BadIndex whys → IsOf refusal.NotARef whys
      → Fails whys (reference_at cells k)
  reference_fails cells k at not_reference = checks (required_fails (slice_get cells k) refusal.BadIndex at) of_cell
    where
      of_cell : (cell : Cell) → Fails whys (reference_in cell)
      of_cell HeadCell = fails not_reference
      of_cell (NumberCell n) = fails not_reference
      of_cell (ReferenceCell target tag) = passes target

  pub tag_fails : (cells : List Cell) (k : ℕ) → IsOf refusal.BadIndex whys → IsOf refusal.NotARef whys → Fails whys (tag_at cells k)
  tag_fails cells k at not_reference = checks (required_fails (slice_get cells k) refusal.BadIndex at) of_cell
    where
      of_cell : (cell : Cell) → Fails whys (tag_in cell)
      of_cell HeadCell = fails not_reference
      of_cell (NumberCell n) = fails not_reference
      of_cell (ReferenceCell target tag) = passes tag
