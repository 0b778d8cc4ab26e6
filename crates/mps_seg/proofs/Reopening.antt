-- Words that can be covered still can once a run is taken out.
use Rattle.std.proofs.Common.{ℕ, ◌<◌, ◌≤◌, List, [], ◌∷◌, sym, subst, inl, inr, arith}
use Rattle.std.proofs.lemmas.Bool.{cases_lt, cases_eq}
use Rattle.mps_base.specs.Run.{Run, end_of, IsAscending, with_run, without_run}
use Rattle.mps_base.proofs.Runs.{with_run_first, with_run_later, without_run_first, without_run_later, IsAscending-lower, IsAscending-without_run}
use Rattle.mps_seg.specs.Segs.{IsOpenRun}

-- a run that lies below ascending ones is put before them
put_below : (low high : ℕ) (r : Run) (rs : List Run) → low ≤ r.from → 0 < r.count → IsAscending (end_of r) high rs
    → IsAscending low high (with_run r rs)
put_below low high r [] above some ascending = (above, some, ascending)
put_below low high r (t ∷ rs) above some ascending =
    let P : List Run → Type 0 = λ xs. IsAscending low high xs in
    subst P (sym (with_run_first r t rs (omega (arith, ascending.0, some)))) (above, some, ascending)

put_after_without : (low high a : ℕ) (r : Run) (rs : List Run) → IsAscending low high (with_run r rs)
    → IsAscending low high (with_run r (without_run a rs))
put_after_without low high a r [] ascending = ascending
put_after_without low high a r (s ∷ rs) ascending =
    let P : List Run → Type 0 = λ xs. IsAscending low high xs in
    let Q : List Run → Type 0 = λ xs. IsAscending low high (with_run r xs) in
    elim (cases_lt r.from s.from) [
      | inl before ↦
          let now = subst P (with_run_first r s rs before) ascending in
          elim (cases_eq a s.from) [
            | inl same ↦
                subst Q (sym (without_run_first a s rs same))
                (put_below low high r rs now.0 now.1
                (IsAscending-lower (end_of s) (end_of r) high rs (omega (arith, now.2.0, now.2.1)) now.2.2))
            | inr other ↦
                subst Q (sym (without_run_later a s rs other))
                (subst P (sym (with_run_first r s (without_run a rs) before))
                (now.0, now.1, (now.2.0, now.2.1, IsAscending-without_run (end_of s) high a rs now.2.2)))
          ]
      | inr after ↦
          let now = subst P (with_run_later r s rs after) ascending in
          elim (cases_eq a s.from) [
            | inl same ↦
                subst Q (sym (without_run_first a s rs same))
                (IsAscending-lower (end_of s) low high (with_run r rs) (omega (arith, now.0, now.1)) now.2)
            | inr other ↦
                subst Q (sym (without_run_later a s rs other))
                (subst P (sym (with_run_later r s (without_run a rs) after))
                (now.0, now.1, put_after_without (end_of s) high a r rs now.2))
          ]
    ]

pub open_after_without : (grains : ℕ) (held covered : List Run) (r : Run) (a : ℕ) → IsOpenRun grains held covered r
    → IsOpenRun grains held (without_run a covered) r
open_after_without grains held covered r a free = record {
  free = put_after_without 0 _ a r covered free.free;
  inside = free.inside;
}
