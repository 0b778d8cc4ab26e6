-- What a caller sees of the transforms, and the results of their calls.
use Rattle.std.specs.Prelude.{ℕ, ◌≡◌, ◌==◌, Bool, true, false, not, ◌&&◌, Option, Some, None, List, [], ◌∷◌, ◌++◌, filter, length, replicate, slice_index_or, slice_set, refl}
use Rattle.std.specs.List.{find, list_any, position}
use Rattle.std.specs.Option.{option_map}
use Rattle.mps_base.specs.Address.{Address}
use Rattle.mps_xform.specs.declared.transforms.AddRefusal.{AddRefusal}
use Rattle.mps_xform.specs.declared.transforms.AddRefusal.TheVariants.{OldTwice, TooMany}
use Rattle.mps_xform.specs.declared.transforms.Pair.{Pair}

-- the most transforms, and the most pairs of all
abbrev pub max_transforms : ℕ
max_transforms = 16

abbrev pub max_pairs : ℕ
max_pairs = 4096

-- Which of the 16 transforms there are, by number, and the pairs of all in the order of adding, each with the number of its transform.
pub record TransformsState : Type 0 where
  pub live : List Bool
  pub pairs : List Pair

-- no transform
abbrev pub no_transforms : TransformsState
no_transforms = record { live = replicate max_transforms false; pairs = [] }

-- there is a transform of this number
abbrev pub is_live : TransformsState → (transform : ℕ) → Bool
is_live t transform = slice_index_or t.live transform false

-- the lowest number of no transform, where one is free
abbrev pub free_number : TransformsState → Option ℕ
free_number t = position not t.live

-- a pair is of this transform
abbrev pub is_of : (transform : ℕ) → Pair → Bool
is_of transform p = p.transform == transform

-- the pairs of a transform, in the order of adding
abbrev pub pairs_of : TransformsState → (transform : ℕ) → List Pair
pairs_of t transform = filter (is_of transform) t.pairs

-- a transform has a pair with this old address
abbrev pub has_old : TransformsState → (transform : ℕ) → Address → Bool
has_old t transform old = list_any (λ p. is_of transform p && (p.old.0 == old)) t.pairs

-- the pair of a transform that has this old address, the first if there are several; and its new address
abbrev pub pair_of : TransformsState → (transform : ℕ) → Address → Option Pair
pair_of t transform old = find (λ p. is_of transform p && (p.old.0 == old)) t.pairs

abbrev pub new_address : TransformsState → (transform : ℕ) → Address → Option Address
new_address t transform old = option_map (λ p. p.new.0) (pair_of t transform old)

-- with a transform, without pairs; without one and its pairs
abbrev pub with_transform : TransformsState → (transform : ℕ) → TransformsState
with_transform t transform = record t { live = slice_set t.live transform true }

abbrev pub without_transform : TransformsState → (transform : ℕ) → TransformsState
without_transform t transform =
    record { live = slice_set t.live transform false; pairs = filter (λ p. not (is_of transform p)) t.pairs }

-- all transforms without pairs
abbrev pub emptied : TransformsState → TransformsState
emptied t = record t { pairs = [] }

-- with a pair, the last of all
abbrev pub with_pair : TransformsState → Pair → TransformsState
with_pair t pair = record t { pairs = t.pairs ++ pair ∷ [] }

-- why a pair is refused: its old address is there, or else all pairs that there may be are
abbrev pub WhyRefused : TransformsState → Pair → AddRefusal → Type 0
WhyRefused t pair OldTwice = has_old t pair.transform pair.old.0 ≡ true
WhyRefused t pair TooMany = (has_old t pair.transform pair.old.0 ≡ false) × (length t.pairs ≡ max_pairs)

abbrev pub pair_in : (transform old new : ℕ) → Pair
pair_in transform old new = record { transform = transform; old = record { 0 = old }; new = record { 0 = new }; inside = false }

-- transforms 0 and 2, the first with one pair and the second with two
abbrev pub two_transforms : TransformsState
two_transforms = record { live = true ∷ false ∷ true ∷ []; pairs = pair_in 2 8 16 ∷ pair_in 0 8 24 ∷ pair_in 2 16 32 ∷ [] }

pub the_second_is_free : free_number two_transforms ≡ Some 1
the_second_is_free = refl

pub a_pair_of_each : pairs_of two_transforms 2 ≡ pair_in 2 8 16 ∷ pair_in 2 16 32 ∷ []
a_pair_of_each = refl

pub the_third_has_sixteen : has_old two_transforms 2 16 ≡ true
the_third_has_sixteen = refl

pub the_first_has_not : has_old two_transforms 0 16 ≡ false
the_first_has_not = refl

pub sixteen_becomes_thirty_two : new_address two_transforms 2 16 ≡ Some 32
sixteen_becomes_thirty_two = refl

pub each_transform_has_its_own : new_address two_transforms 0 8 ≡ Some 24
each_transform_has_its_own = refl

pub a_new_address_is_not_an_old_one : new_address two_transforms 2 32 ≡ None
a_new_address_is_not_an_old_one = refl

pub a_dropped_one_leaves_the_others : (without_transform two_transforms 2).pairs ≡ pair_in 0 8 24 ∷ []
a_dropped_one_leaves_the_others = refl

pub it_is_there_no_more : is_live (without_transform two_transforms 2) 2 ≡ false
it_is_there_no_more = refl

pub none_has_a_pair : pairs_of (emptied two_transforms) 0 ≡ []
none_has_a_pair = refl
