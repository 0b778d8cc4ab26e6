-- The poll of a `reserve`, and what comes of the call where it polls, and where it doesn't.
use Rattle.std.proofs.Common.{◌≡◌, ℕ, Bool, true, false, refl, sym, ap, subst, Option, Some, None, Err, is_some}
use Rattle.std.proofs.lemmas.Bool.{false≢true}
use Rattle.std.proofs.lemmas.Option.{none-some, same_Some}
use Rattle.std.specs.Prelude.{MatchBool}
use Rattle.std.specs.Option.{option_map}
use Rattle.mps_base.specs.Generation.{Due}
use Rattle.mps_base.specs.Trail.{Moves}
use Rattle.mps_base.specs.declared.names.Name.{Name}
use Rattle.mps_base.specs.declared.refusal.Refusal.{Refusal}
use Rattle.mps_format.specs.Layout.{Layout}
use Rattle.mps_gen.specs.Due.{in_numbers}
use Rattle.mps_gen.specs.declared.chains.DueGeneration.{DueGeneration}
use Rattle.mps_trace.specs.declared.condemn.Condemn.TheVariants.{Generations}
use Rattle.mps_trace.specs.declared.running.Running.{Running}
use Rattle.mps_heap_spec.specs.Allocating.{after_reserve, check_reserve}
use Rattle.mps_heap_spec.specs.Checked.{Checked, ◌>>=◌}
use Rattle.mps_heap_spec.specs.Collecting.{CanStart}
use Rattle.mps_heap_spec.specs.Coming.{ComesMoving, Moved}
use Rattle.mps_heap_spec.specs.Following.{Follows}
use Rattle.mps_heap_spec.specs.Polling.{HasFlipped, HasPolled, HasReserved, IsPolled, MayFlip, condemned_by, due_in, polls_for, units_of_poll}
use Rattle.mps_heap_spec.specs.State.{HeapState}
use Rattle.mps_heap_spec.specs.Units.{HasDoneUnits}
use Rattle.mps_heap_spec.specs.declared.found.Reserving.{Reserving}

-- ---- what is due

-- the generation that a call found to be due is the one that is
pub is_due : (o : Option Due) (found : DueGeneration) → option_map in_numbers o ≡ Some found
    → (due : Due) × (o ≡ Some due) × (Generations found.chain found.generation ≡ condemned_by due)
is_due None found e = absurd (none-some found e)
is_due (Some due) found e =
    (due, refl, ap (λ (d : DueGeneration). Generations d.chain d.generation) (sym (same_Some (in_numbers due) found e)))

module _ {F : Type 0} (layout : F → Layout) (h : HeapState F) (m : Moves) where
  -- ---- a poll

  pub units_polled : (h' : HeapState F) (m' : Moves) → is_some h.running ≡ true
      → Follows layout m (HasDoneUnits layout h m units_of_poll) h' m' → HasPolled layout h m h' m'
  units_polled h' m' runs units =
      subst (λ b. MatchBool b (Follows layout m (HasDoneUnits layout h m units_of_poll) h' m') (HasFlipped layout h m (due_in h) h' m'))
      (sym runs) units

  pub nothing_polled : is_some h.running ≡ false → due_in h ≡ None → HasPolled layout h m h m
  nothing_polled rests none =
      subst (λ b. MatchBool b (Follows layout m (HasDoneUnits layout h m units_of_poll) h m) (HasFlipped layout h m (due_in h) h m))
      (sym rests)
      (subst (λ o. HasFlipped layout h m o h m) (sym none) (refl, refl))

  none_runs : (o : Option Running) → is_some o ≡ false → o ≡ None
  none_runs None e = refl
  none_runs (Some run) e = absurd (false≢true (sym e))

  -- what a generation that was found to be due may be flipped by
  pub may_flip : (found : DueGeneration) → MayFlip layout h m → is_some h.running ≡ false → option_map in_numbers (due_in h) ≡ Some found
      → CanStart layout (Generations found.chain found.generation) h m
  may_flip found may rests is =
      let due = is_due (due_in h) found is in
      subst (λ what. CanStart layout what h m) (sym due.2) (may due.0 (none_runs h.running rests) due.1)

  -- ---- the call

  refused_so : {A : Type 0} (h' : HeapState F) (m' : Moves) (x : Checked A) (f : A → Checked (Moved F (Unit {0}))) (why : Refusal)
      → x ≡ Err why → (result : Checked (Unit {0})) → result ≡ Err why → ComesMoving h' m' (x >>= f) result h' m'
  refused_so h' m' x f why e result answered =
      subst (λ y. ComesMoving h' m' (y >>= f) result h' m') (sym e) (record { answer = answered; state = refl; moves = refl })

  -- after its poll a `reserve` may be refused by its checks
  pub refused_after : (h' : HeapState F) (m' : Moves) (name : Name) (head : ℕ) (why : Refusal) → check_reserve layout h' name head ≡ Err why
      → (result : Checked (Unit {0})) → result ≡ Err why
      → ComesMoving h' m' (after_reserve layout h' m' name head) result h' m'
  refused_after h' m' name head why is result answered = refused_so h' m' (check_reserve layout h' name head) _ why is result answered

  -- one that its checks refuse doesn't poll
  pub refused_reserve : (name : Name) (head : ℕ) (why : Refusal) → check_reserve layout h name head ≡ Err why
      → (result : Checked (Unit {0})) → result ≡ Err why → HasReserved layout h m name head result h m
  refused_reserve name head why is result answered = record {
    polled = h;
    trail_polled = m;
    poll = subst (λ x. IsPolled layout h m x h m) (sym is) (refl, refl);
    comes = refused_after h m name head why is result answered;
  }

  -- the poll of one that polls
  pub polled_so : (h' : HeapState F) (m' : Moves) (checked : Checked Reserving) → polls_for h checked ≡ true → HasPolled layout h m h' m'
      → IsPolled layout h m checked h' m'
  polled_so h' m' checked polling polled =
      subst (λ b. MatchBool b (HasPolled layout h m h' m') ((h' ≡ h) × (m' ≡ m))) (sym polling) polled

  -- one that doesn't poll, or whose poll does nothing
  pub unpolled_so : (checked : Checked Reserving) → (polls_for h checked ≡ true → HasPolled layout h m h m)
      → IsPolled layout h m checked h m
  unpolled_so checked nothing = of_polling (polls_for h checked) refl
    where
      of_polling : (b : Bool) → polls_for h checked ≡ b → MatchBool b (HasPolled layout h m h m) ((h ≡ h) × (m ≡ m))
      of_polling true is = nothing is
      of_polling false is = (refl, refl)
