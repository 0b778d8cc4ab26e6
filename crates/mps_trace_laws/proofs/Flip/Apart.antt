-- Runs that ascend without overlap once they are in order begin apart.
use Rattle.std.proofs.Common.{ℕ, ◌≤◌, sym, List, [], ◌∷◌, ◌++◌, subst, inl, inr, arith}
use Rattle.std.proofs.lemmas.Bool.{cases_lt}
use Rattle.std.specs.Prelude.{◌≢◌}
use Rattle.std.specs.List.{AllByRecursion}
use Rattle.mps_base.specs.Run.{Run, IsAscending, end_of, in_order, with_run}
use Rattle.mps_base.proofs.Runs.{with_run_first, with_run_later}
use Rattle.mps_trace_laws.proofs.Image.InOrder.{BeginElsewhere}
use Rattle.mps_laws.proofs.InOrder.{all_weaker}
use Rattle.mps_trace_laws.proofs.Image.OpenRuns.{all_from_in_order}
use Rattle.mps_trace_laws.specs.Flip.Ended.{BeginApart}

-- ascending runs begin from a number on
all_from : (low high : ℕ) (rs : List Run) → IsAscending low high rs → AllByRecursion (λ (q : Run). low ≤ q.from) rs
all_from low high [] ascending = tt
all_from low high (r ∷ rs) ascending = (
  ascending.0,
  all_weaker (λ (q : Run). end_of r ≤ q.from) (λ (q : Run). low ≤ q.from) rs (λ q after. omega (arith, ascending.0, after))
      (all_from (end_of r) high rs ascending.2),
)

-- what is known of ascending runs of which one was put last
record IsPutApart (low high : ℕ) (r : Run) (rs : List Run) : Type 0 where
  above : low ≤ r.from
  apart : BeginElsewhere r.from rs
  rest : IsAscending low high rs

put_apart : (low high : ℕ) (r : Run) (rs : List Run) → IsAscending low high (with_run r rs) → IsPutApart low high r rs
put_apart low high r [] ascending = record {
  above = ascending.0;
  apart = tt;
  rest = omega (arith, ascending.0, ascending.2);
}
put_apart low high r (x ∷ xs) ascending =
    elim (cases_lt r.from x.from) [
      | inl first ↦
          let a = subst (IsAscending low high) (with_run_first r x xs first) ascending in
          record {
            above = a.0;
            apart = all_weaker (λ (q : Run). end_of r ≤ q.from) (λ (q : Run). q.from ≢ r.from) (x ∷ xs)
                (λ q after same. omega (arith, after, same, a.1)) (all_from (end_of r) high (x ∷ xs) a.2);
            rest = (omega (arith, a.0, a.2.0), a.2.1, a.2.2);
          }
      | inr after ↦
          let a = subst (IsAscending low high) (with_run_later r x xs after) ascending in
          let later = put_apart (end_of x) high r xs a.2 in
          record {
            above = omega (arith, a.0, later.above);
            apart = ((λ same. omega (arith, same, later.above, a.1)), later.apart);
            rest = (a.0, a.1, later.rest);
          }
    ]

-- ---- runs that were put in order, one after the other

all_last : (P : Run → Type 0) (xs ys : List Run) → AllByRecursion P (xs ++ ys) → AllByRecursion P ys
all_last P [] ys all = all
all_last P (x ∷ xs) ys all = all_last P xs ys all.1

one_more : (b : Run) (bs rs : List Run) → BeginElsewhere b.from rs → BeginApart bs rs → BeginApart (b ∷ bs) rs
one_more b bs [] elsewhere apart = tt
one_more b bs (r ∷ rs) elsewhere apart =
    (((λ same. elsewhere.0 (sym same)), apart.0), apart.1, one_more b bs rs elsewhere.1 apart.2)

pub begin_apart : (low high : ℕ) (blocks rs : List Run) → IsAscending low high (in_order (blocks ++ rs)) → BeginApart blocks rs
begin_apart low high [] [] ascending = tt
begin_apart low high [] (r ∷ rs) ascending =
    let put = put_apart low high r (in_order rs) ascending in
    (tt, all_from_in_order (λ (q : Run). q.from ≢ r.from) rs put.apart, begin_apart low high [] rs put.rest)
begin_apart low high (b ∷ bs) rs ascending =
    let put = put_apart low high b (in_order (bs ++ rs)) ascending in
    one_more b bs rs
    (all_last (λ (q : Run). q.from ≢ b.from) bs rs (all_from_in_order (λ (q : Run). q.from ≢ b.from) (bs ++ rs) put.apart))
    (begin_apart low high bs rs put.rest)
