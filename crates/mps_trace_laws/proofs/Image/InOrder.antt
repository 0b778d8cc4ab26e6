-- Runs put in order by where they begin: one anywhere among others may be put last, and taken out again.
use Rattle.std.proofs.Common.{◌≡◌, ◌∙◌, ℕ, refl, sym, ap, List, [], ◌∷◌, ◌++◌, inl, inr}
use Rattle.std.proofs.lemmas.Bool.{cases_eq, eq-eqb, ne_eqb}
use Rattle.std.specs.Prelude.{if◌then◌else◌, ◌≢◌}
use Rattle.std.specs.List.{AllByRecursion}
use Rattle.mps_base.specs.Run.{Run, in_order, with_run, without_run}
use Rattle.mps_laws.proofs.InOrder.{put_all, put_all-with, put_all-without, without_key}

abbrev from_of : Run → ℕ
from_of r = r.from

-- none of these runs begins at a number
abbrev pub BeginElsewhere : ℕ → List Run → Type 0
BeginElsewhere from rs = AllByRecursion (λ (r : Run). r.from ≢ from) rs

in_order_is : (rs : List Run) → in_order rs ≡ put_all from_of rs
in_order_is [] = refl
in_order_is (r ∷ rs) = ap (with_run r) (in_order_is rs)

without_run_is : (from : ℕ) (rs : List Run) → without_run from rs ≡ without_key from_of from rs
without_run_is from [] = refl
without_run_is from (r ∷ rs) =
    elim (cases_eq from r.from) [
      | inl e ↦
          ap (λ t. if t then rs else r ∷ without_run from rs) (eq-eqb from r.from e)
          ∙ sym (ap (λ t. if t then rs else r ∷ without_key from_of from rs) (eq-eqb r.from from (sym e)))
      | inr n ↦
          ap (λ t. if t then rs else r ∷ without_run from rs) (ne_eqb from r.from n) ∙ ap (λ ss. r ∷ ss) (without_run_is from rs)
          ∙ sym (ap (λ t. if t then rs else r ∷ without_key from_of from rs) (ne_eqb r.from from (λ e. n (sym e))))
    ]

-- one run, anywhere among others, may be put last
pub in_order-with : (before : List Run) (r : Run) (after : List Run) → BeginElsewhere r.from before
    → in_order (before ++ r ∷ after) ≡ with_run r (in_order (before ++ after))
in_order-with before r after apart =
    in_order_is (before ++ r ∷ after) ∙ put_all-with from_of before r after apart
    ∙ ap (with_run r) (sym (in_order_is (before ++ after)))

-- and taken out again
pub in_order-without : (before : List Run) (r : Run) (after : List Run) → BeginElsewhere r.from before → BeginElsewhere r.from after
    → in_order (before ++ after) ≡ without_run r.from (in_order (before ++ r ∷ after))
in_order-without before r after apart apart' =
    sym (without_run_is r.from (in_order (before ++ r ∷ after))
    ∙ ap (without_key from_of r.from) (in_order_is (before ++ r ∷ after))
    ∙ put_all-without from_of before r after apart apart' ∙ sym (in_order_is (before ++ after)))

-- one is taken out, and another with as many numbers is put
pub in_order-moved : (before : List Run) (old new : Run) (after : List Run) → BeginElsewhere old.from before
    → BeginElsewhere old.from after → BeginElsewhere new.from before
    → in_order (before ++ new ∷ after) ≡ with_run new (without_run old.from (in_order (before ++ old ∷ after)))
in_order-moved before old new after apart apart' apart'' =
    in_order-with before new after apart'' ∙ ap (with_run new) (in_order-without before old after apart apart')
