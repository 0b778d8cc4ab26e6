-- When the pairs of dependents that a heap keeps represent those of a world.
use Rattle.std.specs.Prelude.{◌≡◌, ℕ, Option, Some, List, [], ◌∷◌, map, slice_index, refl}
use Rattle.std.proofs.Common.{ap, arith}
use Rattle.mps_base.specs.Address.{Address, Id}
use Rattle.mps_dep.specs.State.{the_pair}
use Rattle.mps_dep.specs.declared.dependents.Pair.{Pair}
use Rattle.mps_trace_laws.specs.Units.Finals.{address_of_id}

-- what is kept of a pair, if objects have these addresses: the address of the holder and that of its dependent
abbrev pub kept_pair : (addresses : List (Option Address)) → Id × Id → Pair
kept_pair addresses p = the_pair (address_of_id addresses p.0) (address_of_id addresses p.1)

-- the pairs are kept in their order
abbrev pub AreDependents : (addresses : List (Option Address)) → List Pair → List (Id × Id) → Type 0
AreDependents addresses kept pairs = kept ≡ map (kept_pair addresses) pairs

-- ---- vectors: objects 0 and 1 are at 0x1000 and 0x2000

abbrev two_objects : List (Option Address)
two_objects = Some 0x1000 ∷ Some 0x2000 ∷ []

pub the_holder_comes_first : AreDependents two_objects (the_pair 0x1000 0x2000 ∷ []) ((0, 1) ∷ [])
the_holder_comes_first = refl

pub the_dependent_comes_first : AreDependents two_objects (the_pair 0x2000 0x1000 ∷ []) ((0, 1) ∷ []) → ⊥
the_dependent_comes_first e =
    let first : ◌≡◌ {A = ℕ} 0x2000 0x1000 = ap (λ (ps : List Pair). slice_index (map (λ (p : Pair). p.holder.0) ps) 0) e in
    omega (arith, first)
