-- Runs that begin apart are the same in order where they are the same in any order.
use Rattle.std.proofs.Common.{◌≡◌, ◌≢◌, ◌∙◌, ℕ, ◌<◌, refl, sym, ap, subst, List, [], ◌∷◌, Contains, inl, inr, arith}
use Rattle.std.proofs.lemmas.Bool.{cases_lt}
use Rattle.std.specs.List.{AllByRecursion}
use Rattle.mps_base.specs.Run.{Run, in_order, with_run}
use Rattle.mps_base.proofs.Runs.{contains_cases, with_run_first, with_run_later}
use Rattle.mps_trace_laws.proofs.Image.BlockRuns.{contained_in_order}
use Rattle.mps_laws.proofs.InOrder.{all_put, all_weaker}
use Rattle.mps_trace_laws.specs.Flip.Ended.{BeginApart}

abbrev from_of : Run → ℕ
from_of r = r.from

-- each begins above where those before it begin
abbrev Ascend : List Run → Type 0
Ascend [] = Unit {0}
Ascend (r ∷ rs) = AllByRecursion (λ (q : Run). r.from < q.from) rs × Ascend rs

all_there : (P : Run → Type 0) (rs : List Run) (r : Run) → AllByRecursion P rs → Contains rs r → P r
all_there P [] r all there = absurd (let low = there.1 in omega (arith, low))
all_there P (s ∷ rs) r all there = elim (contains_cases rs r s there) [
  | inl same ↦ subst P same all.0
  | inr later ↦ all_there P rs r all.1 later
]

all_both : (P Q R : Run → Type 0) → ((r : Run) → P r → Q r → R r) → (rs : List Run) → AllByRecursion P rs → AllByRecursion Q rs
    → AllByRecursion R rs
all_both P Q R both [] ps qs = tt
all_both P Q R both (r ∷ rs) ps qs = (both r ps.0 qs.0, all_both P Q R both rs ps.1 qs.1)

-- one more that begins elsewhere
ascend_put : (r : Run) (rs : List Run) → Ascend rs → AllByRecursion (λ (q : Run). q.from ≢ r.from) rs → Ascend (with_run r rs)
ascend_put r [] ascend apart = (tt, tt)
ascend_put r (s ∷ rs) ascend apart =
    elim (cases_lt r.from s.from) [
      | inl first ↦
          subst Ascend (sym (with_run_first r s rs first)) (
            (
              first,
              all_weaker (λ (q : Run). s.from < q.from) (λ (q : Run). r.from < q.from) rs (λ q above. omega (arith, first, above))
                  ascend.0,
            ),
            (ascend.0, ascend.1),
          )
      | inr after ↦
          let above : s.from < r.from = let differ = apart.0 in omega (arith, after, differ) in
          subst Ascend (sym (with_run_later r s rs after))
          (all_put from_of (λ (q : Run). s.from < q.from) r rs above ascend.0, ascend_put r rs ascend.1 apart.1)
    ]

all_in_order : (P : Run → Type 0) (rs : List Run) → AllByRecursion P rs → AllByRecursion P (in_order rs)
all_in_order P [] all = tt
all_in_order P (r ∷ rs) all = all_put from_of P r (in_order rs) all.0 (all_in_order P rs all.1)

in_order_ascend : (rs : List Run) → BeginApart [] rs → Ascend (in_order rs)
in_order_ascend [] apart = tt
in_order_ascend (r ∷ rs) apart =
    ascend_put r (in_order rs) (in_order_ascend rs apart.2) (all_in_order (λ (q : Run). q.from ≢ r.from) rs apart.1)

-- what ascends and has the same members is the same
ascending_same : (rs qs : List Run) → Ascend rs → Ascend qs → AllByRecursion (Contains qs) rs → AllByRecursion (Contains rs) qs → rs ≡ qs
ascending_same [] [] s t in_qs in_rs = refl
ascending_same [] (q ∷ qs) s t in_qs in_rs = absurd (let low = in_rs.0.1 in omega (arith, low))
ascending_same (r ∷ rs) [] s t in_qs in_rs = absurd (let low = in_qs.0.1 in omega (arith, low))
ascending_same (r ∷ rs) (q ∷ qs) s t in_qs in_rs =
    ap (λ x. x ∷ rs) first
    ∙ ap (λ xs. q ∷ xs) (ascending_same rs qs s.1 t.1
    (all_both (λ (x : Run). r.from < x.from) (Contains (q ∷ qs)) (Contains qs)
    (λ x above there. later x q qs (let from = ap from_of first in omega (arith, above, from)) there) rs s.0 in_qs.1)
    (all_both (λ (x : Run). q.from < x.from) (Contains (r ∷ rs)) (Contains rs)
    (λ x above there. later x r rs (let from = ap from_of first in omega (arith, above, from)) there) qs t.0 in_rs.1))
  where
    -- one that begins above another isn't that
    later : (x y : Run) (ys : List Run) → y.from < x.from → Contains (y ∷ ys) x → Contains ys x
    later x y ys above there = elim (contains_cases ys x y there) [
      | inl same ↦ absurd (let from = ap from_of same in omega (arith, above, from))
      | inr rest ↦ rest
    ]

    first : r ≡ q
    first = elim (contains_cases qs r q in_qs.0) [
      | inl same ↦ sym same
      | inr here ↦ elim (contains_cases rs q r in_rs.0) [
        | inl same ↦ same
        | inr there ↦
            let above = all_there (λ (x : Run). q.from < x.from) qs r t.0 here in
            let below = all_there (λ (x : Run). r.from < x.from) rs q s.0 there in
            absurd (omega (arith, above, below))
      ]
    ]

-- and so is what begins apart, in order
pub in_order_same : (rs qs : List Run) → BeginApart [] rs → BeginApart [] qs → AllByRecursion (Contains qs) rs
    → AllByRecursion (Contains rs) qs → in_order rs ≡ in_order qs
in_order_same rs qs apart others in_qs in_rs =
    ascending_same (in_order rs) (in_order qs) (in_order_ascend rs apart) (in_order_ascend qs others)
    (all_in_order (Contains (in_order qs)) rs (all_weaker (Contains qs) (Contains (in_order qs)) rs (λ r. contained_in_order qs r) in_qs))
    (all_in_order (Contains (in_order rs)) qs (all_weaker (Contains rs) (Contains (in_order rs)) qs (λ r. contained_in_order rs r) in_rs))
