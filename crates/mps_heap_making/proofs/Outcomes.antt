-- From checks and what is made to the outcome of a call that makes something.
use Rattle.std.proofs.Common.{ℕ, ◌≡◌, Result, Ok, Err, Some, refl, sym, ap, subst}
use Rattle.mps_base.specs.declared.names.Name.{Name}
use Rattle.mps_base.specs.declared.names.Rank.{Rank}
use Rattle.mps_base.specs.declared.refusal.Refusal.{Refusal}
use Rattle.mps_heap_spec.specs.Checked.{Checked}
use Rattle.mps_heap_spec.specs.State.{HeapState}
use Rattle.mps_heap_spec.specs.Making.{IsUntouched, IsMaking, Refused, OutOfMemory, Made, MakesPoint, MakesPointIn, MakesPool, MakesPoolOn, check_point, check_pool_on_chain, without_answer}
use Rattle.mps_heap_spec.specs.declared.found.Kept.{Kept}
use Rattle.mps_format.specs.declared.pool.Pool.{Pool}
use Rattle.mps_heap_making.specs.Made.{IsMade}

module _ {F : Type 0} where
  -- nothing changed
  pub untouched : (h : HeapState F) → IsUntouched h h
  untouched h = record { names = λ name. refl; counts = refl; keys = refl; state = refl }

  module _ {h : HeapState F} {checks : Checked (Unit {0})} {Makes : ℕ → HeapState F → Type 0} where
    -- the checks refuse
    pub is_refused : {why : Refusal} → Err why ≡ checks → IsMaking h checks Makes (Err why) h
    is_refused fails = Refused (sym fails) (untouched h)

    -- the checks were passed
    pub is_made : (result : Result ℕ Refusal) (after : HeapState F) → Ok tt ≡ checks → IsMade h Makes result after
        → IsMaking h checks Makes result after
    is_made (Ok key) after passes makes = Made (sym passes) makes
    is_made (Err why) after passes made =
        let P : Refusal → Type 0 = λ r. IsMaking h checks Makes (Err r) after in
        subst P (sym made.0) (OutOfMemory (sym passes) made.1)

  module _ (h : HeapState F) (name pool : Name) (at_rank : Rank) where
    -- a point is refused
    pub no_point : {why : Refusal} → Err why ≡ check_point h name pool at_rank
        → IsMaking h (without_answer (check_point h name pool at_rank)) (MakesPointIn h name pool at_rank) (Err why) h
    no_point fails = is_refused (ap without_answer fails)

    -- a point is made in the pool that was found
    pub point_in : (of : Kept (Pool F)) (result : Result ℕ Refusal) (after : HeapState F) → Ok of ≡ check_point h name pool at_rank
        → IsMade h (MakesPoint h name of at_rank) result after
        → IsMaking h (without_answer (check_point h name pool at_rank)) (MakesPointIn h name pool at_rank) result after
    point_in of result after found made = is_made result after (ap without_answer found) (inside result made)
      where
        inside : (r : Result ℕ Refusal) → IsMade h (MakesPoint h name of at_rank) r after
            → IsMade h (MakesPointIn h name pool at_rank) r after
        inside (Ok key) makes = record { of = of; found = sym found; makes = makes }
        inside (Err why) fails = fails

  module _ (h : HeapState F) (name chain : Name) (p : Pool F) where
    -- a pool on a chain is refused
    pub no_pool_on : {why : Refusal} → Err why ≡ check_pool_on_chain h name chain
        → IsMaking h (without_answer (check_pool_on_chain h name chain)) (MakesPoolOn h name chain p) (Err why) h
    no_pool_on fails = is_refused (ap without_answer fails)

    -- a pool is made on the chain that was found
    pub pool_on : (on : Kept ℕ) (result : Result ℕ Refusal) (after : HeapState F) → Ok on ≡ check_pool_on_chain h name chain
        → IsMade h (MakesPool h name p (Some on.key)) result after
        → IsMaking h (without_answer (check_pool_on_chain h name chain)) (MakesPoolOn h name chain p) result after
    pool_on on result after found made = is_made result after (ap without_answer found) (inside result made)
      where
        inside : (r : Result ℕ Refusal) → IsMade h (MakesPool h name p (Some on.key)) r after
            → IsMade h (MakesPoolOn h name chain p) r after
        inside (Ok number) makes = record { on = on; found = sym found; makes = makes }
        inside (Err why) fails = fails
