-- Where the segments have a run of words that nothing covers, no object and no live reservation lies.
use Rattle.std.proofs.Common.{◌≡◌, zero, suc, true, false, List, [], ◌∷◌, Option, Some, None, subst}
use Rattle.std.proofs.lemmas.Option.{none-some, same_Some}
use Rattle.std.specs.Prelude.{slice_get, nat_lt, if◌then◌else◌}
use Rattle.std.specs.List.{AllByRecursion}
use Rattle.mps_base.specs.Address.{Address, Id}
use Rattle.mps_base.specs.Run.{Run, in_order, with_run}
use Rattle.mps_model.specs.Graph.{Object, entry_at, size_of}
use Rattle.mps_model.specs.World.{extent, extents_of}

-- ---- runs in order

all_from_put : (P : Run → Type 0) (r : Run) (rs : List Run) → AllByRecursion P (with_run r rs) → P r × AllByRecursion P rs
all_from_put P r [] all = (all.0, tt)
all_from_put P r (x ∷ xs) all =
    elim (nat_lt r.from x.from)
    as (λ t. AllByRecursion P (if t then r ∷ x ∷ xs else x ∷ with_run r xs) → P r × AllByRecursion P (x ∷ xs)) [
      | true ↦ (λ a. (a.0, a.1))
      | false ↦ (λ a. let rest = all_from_put P r xs a.1 in (rest.0, (a.0, rest.1)))
    ] all

-- a fact of all runs in order is one of all runs
pub all_from_in_order : (P : Run → Type 0) (rs : List Run) → AllByRecursion P (in_order rs) → AllByRecursion P rs
all_from_in_order P [] all = tt
all_from_in_order P (r ∷ rs) all = let a = all_from_put P r (in_order rs) all in (a.0, all_from_in_order P rs a.1)

-- ---- extents

-- a fact of all extents is one of each live object's
pub of_extents : (P : Run → Type 0) (objects : List Object) (addresses : List (Option Address))
    → AllByRecursion P (extents_of objects addresses)
    → (id : Id) (at : Address) (o : Object) → entry_at addresses id ≡ Some at → slice_get objects id ≡ Some o → P (extent at (size_of o))
of_extents P [] addresses all id at o e x = absurd (none-some o x)
of_extents P (q ∷ os) [] all id at o e x = absurd (none-some at e)
of_extents P (q ∷ os) (None ∷ ps) all zero at o e x = absurd (none-some at e)
of_extents P (q ∷ os) (None ∷ ps) all (suc id) at o e x = of_extents P os ps all id at o e x
of_extents P (q ∷ os) (Some p ∷ ps) all zero at o e x =
    subst (λ a. P (extent a (size_of o))) (same_Some p at e)
    (subst (λ (y : Object). P (extent p (size_of y))) (same_Some q o x) all.0)
of_extents P (q ∷ os) (Some p ∷ ps) all (suc id) at o e x = of_extents P os ps all.1 id at o e x
