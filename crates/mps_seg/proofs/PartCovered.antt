-- Words that can be covered can be covered in part, from the first one on, and then the rest of them.
use Rattle.std.proofs.Common.{ℕ, ◌+◌, ◌-◌, ◌<◌, ◌≤◌, List, [], ◌∷◌, sym, ap, ◌∙◌, subst, inl, inr, arith}
use Rattle.std.proofs.lemmas.Bool.{cases_lt}
use Rattle.mps_base.specs.Run.{Run, end_of, IsAscending, with_run}
use Rattle.mps_base.proofs.Runs.{with_run_first, with_run_later}
use Rattle.mps_seg.specs.Segs.{IsOpenRun}

-- the first n numbers of a run, and the others
abbrev pub prefix_of : Run → (n : ℕ) → Run
prefix_of r n = record { from = r.from; count = n }

abbrev pub rest_of : Run → (n : ℕ) → Run
rest_of r n = record { from = r.from + n; count = r.count - n }

module _ (r : Run) (n : ℕ) (some : 0 < n) where
  put_prefix : (low high : ℕ) (rs : List Run) → n ≤ r.count → IsAscending low high (with_run r rs)
      → IsAscending low high (with_run (prefix_of r n) rs)
  put_prefix low high [] few ascending = (ascending.0, some, omega (arith, ascending.2))
  put_prefix low high (s ∷ rs) few ascending =
      let P : List Run → Type 0 = λ xs. IsAscending low high xs in
      elim (cases_lt r.from s.from) [
        | inl before ↦
            let now = subst P (with_run_first r s rs before) ascending in
            subst P (sym (with_run_first (prefix_of r n) s rs before)) (now.0, some, (omega (arith, now.2.0), now.2.1, now.2.2))
        | inr after ↦
            let now = subst P (with_run_later r s rs after) ascending in
            subst P (sym (with_run_later (prefix_of r n) s rs after)) (now.0, now.1, put_prefix (end_of s) high rs few now.2)
      ]

  put_rest : (low high : ℕ) (rs : List Run) → n < r.count → IsAscending low high (with_run r rs)
      → IsAscending low high (with_run (rest_of r n) (with_run (prefix_of r n) rs))
  put_rest low high [] few ascending =
      let P : List Run → Type 0 = λ xs. IsAscending low high xs in
      subst P (sym (with_run_later (rest_of r n) (prefix_of r n) [] (omega arith)))
      (ascending.0, some, (omega arith, omega (arith, few), omega (arith, few, ascending.2)))
  put_rest low high (s ∷ rs) few ascending =
      let P : List Run → Type 0 = λ xs. IsAscending low high xs in
      elim (cases_lt r.from s.from) [
        | inl before ↦
            let now = subst P (with_run_first r s rs before) ascending in
            let is =
            ap (λ (xs : List Run). with_run (rest_of r n) xs) (with_run_first (prefix_of r n) s rs before)
            ∙ with_run_later (rest_of r n) (prefix_of r n) (s ∷ rs) (omega arith)
            ∙ ap (λ (xs : List Run). prefix_of r n ∷ xs) (with_run_first (rest_of r n) s rs (omega (arith, few, now.2.0)))
            in
            subst P (sym is)
            (now.0, some, (omega arith, omega (arith, few), (omega (arith, few, now.2.0), now.2.1, now.2.2)))
        | inr after ↦
            let now = subst P (with_run_later r s rs after) ascending in
            let is =
            ap (λ (xs : List Run). with_run (rest_of r n) xs) (with_run_later (prefix_of r n) s rs after)
            ∙ with_run_later (rest_of r n) s (with_run (prefix_of r n) rs) (omega (arith, after))
            in
            subst P (sym is) (now.0, now.1, put_rest (end_of s) high rs few now.2)
      ]

  module _ (grains : ℕ) (held covered : List Run) (free : IsOpenRun grains held covered r) where
    pub prefix_is_open : n ≤ r.count → IsOpenRun grains held covered (prefix_of r n)
    prefix_is_open few = record {
      free = put_prefix 0 _ covered few free.free;
      inside = record {
        grains = free.inside.grains;
        there = free.inside.there;
        after = free.inside.after;
        before = omega (arith, free.inside.before);
      };
    }

    pub rest_is_open : n < r.count → IsOpenRun grains held (with_run (prefix_of r n) covered) (rest_of r n)
    rest_is_open few = record {
      free = put_rest 0 _ covered few free.free;
      inside = record {
        grains = free.inside.grains;
        there = free.inside.there;
        after = omega (arith, free.inside.after);
        before = omega (arith, few, free.inside.before);
      };
    }
