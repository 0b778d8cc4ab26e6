-- What a caller sees of the pairs of dependents, and the results of the calls.
use Rattle.std.specs.Prelude.{ℕ, ◌≡◌, ◌==◌, Bool, true, false, not, ◌&&◌, ◌||◌, nat_le, is_none, Option, Some, None, List, [], ◌∷◌, ◌++◌, filter, length, replicate, refl}
use Rattle.std.specs.List.{find}
use Rattle.std.specs.Option.{option_map}
use Rattle.mps_base.specs.Address.{Address}
use Rattle.mps_dep.specs.declared.dependents.Pair.{Pair}

-- the most pairs
abbrev pub max_pairs : ℕ
max_pairs = 1024

-- a pair of these addresses
abbrev pub the_pair : (holder dependent : Address) → Pair
the_pair holder dependent = record { holder = record { 0 = holder }; dependent = record { 0 = dependent } }

-- a pair is of this holder
abbrev pub is_of : (holder : Address) → Pair → Bool
is_of holder p = p.holder.0 == holder

-- the dependent of a holder, by the first pair that has it
abbrev pub dependent_of : List Pair → (holder : Address) → Option Address
dependent_of pairs holder = option_map (λ p. p.dependent.0) (find (is_of holder) pairs)

-- the pairs without those of a holder
abbrev pub without_holder : List Pair → (holder : Address) → List Pair
without_holder pairs holder = filter (λ p. not (is_of holder p)) pairs

-- a pair has this address as its holder or as its dependent
abbrev pub has_name : (at : Address) → Pair → Bool
has_name at p = (p.holder.0 == at) || (p.dependent.0 == at)

-- the pairs without those that have an address as holder or dependent
abbrev pub without_address : List Pair → (at : Address) → List Pair
without_address pairs at = filter (λ p. not (has_name at p)) pairs

-- this pair, the last of all, in place of an earlier one of its holder
abbrev pub with_pair : List Pair → (holder dependent : Address) → List Pair
with_pair pairs holder dependent = without_holder pairs holder ++ the_pair holder dependent ∷ []

-- whether a holder gets no dependent: it has none, and there are as many pairs as there may be
abbrev pub is_full_for : List Pair → (holder : Address) → Bool
is_full_for pairs holder = is_none (dependent_of pairs holder) && nat_le max_pairs (length pairs)

-- two holders with one dependent, and one with another
abbrev example : List Pair
example = the_pair 8 16 ∷ the_pair 24 16 ∷ the_pair 32 40 ∷ []

pub the_second_holder_has_sixteen : dependent_of example 24 ≡ Some 16
the_second_holder_has_sixteen = refl

pub a_dependent_has_none : dependent_of example 16 ≡ None
a_dependent_has_none = refl

pub another_takes_its_place : with_pair example 8 48 ≡ the_pair 24 16 ∷ the_pair 32 40 ∷ the_pair 8 48 ∷ []
another_takes_its_place = refl

pub a_pair_too_many : is_full_for (replicate max_pairs (the_pair 8 16)) 24 ≡ true
a_pair_too_many = refl

pub one_in_place_of_another_fits : is_full_for (replicate max_pairs (the_pair 8 16)) 8 ≡ false
one_in_place_of_another_fits = refl

pub a_freed_dependent_ends_both_pairs : without_address example 16 ≡ the_pair 32 40 ∷ []
a_freed_dependent_ends_both_pairs = refl

pub a_freed_holder_ends_its_pair : without_address example 8 ≡ the_pair 24 16 ∷ the_pair 32 40 ∷ []
a_freed_holder_ends_its_pair = refl

pub an_address_without_a_name_ends_none : without_address example 56 ≡ example
an_address_without_a_name_ends_none = refl
