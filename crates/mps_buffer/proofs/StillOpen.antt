-- Words that can be covered still can once words apart from them are covered.
use Rattle.std.proofs.Common.{ℕ, ◌≡◌, List, [], ◌∷◌, map, Contains, sym, subst, inl, inr, ltb, arith}
use Rattle.std.proofs.lemmas.Bool.{cases_lt, cond-true, cond-false, lt-ltb, le-ltb}
use Rattle.mps_base.specs.Run.{Run, end_of, IsAscending, with_run}
use Rattle.mps_base.specs.Segment.{Segment, grains_of_segment, with_segment}
use Rattle.mps_base.specs.Placement.{Placement, Place, NewSegment, OverLimit, NoFreeRun}
use Rattle.mps_base.specs.declared.names.Rank.{Rank}
use Rattle.mps_base.proofs.Runs.{with_run_first, with_run_later, contains_cases, contains_first, contains_later}
use Rattle.mps_seg.specs.Segs.{SegsState, CanCover, segments_after}
use Rattle.mps_buffer.specs.declared.point.Point.{Point}
use Rattle.mps_buffer.specs.Points.{AreApart, CanCoverAfter, with_place}

module _ (r q : Run) (apart : AreApart r q) where
  put_apart : (low high : ℕ) (rs : List Run) → IsAscending low high (with_run r rs) → IsAscending low high (with_run q rs)
      → IsAscending low high (with_run r (with_run q rs))
  put_apart low high [] r_fits q_fits =
      let P : List Run → Type 0 = λ xs. IsAscending low high xs in
      elim apart [
        | inl before ↦
            subst P (sym (with_run_first r q [] (omega (arith, before, r_fits.1)))) (r_fits.0, r_fits.1, (before, q_fits.1, q_fits.2))
        | inr after ↦ subst P (sym (with_run_later r q [] (omega (arith, after)))) (q_fits.0, q_fits.1, (after, r_fits.1, r_fits.2))
      ]
  put_apart low high (s ∷ rs) r_fits q_fits =
      let P : List Run → Type 0 = λ xs. IsAscending low high xs in
      let Q : List Run → Type 0 = λ xs. IsAscending (end_of q) high xs in
      let R : List Run → Type 0 = λ xs. IsAscending low high (with_run r xs) in
      elim (cases_lt r.from s.from) [
        | inl r_first ↦
            let r_now = subst P (with_run_first r s rs r_first) r_fits in
            elim (cases_lt q.from s.from) [
              | inl q_first ↦
                  let q_now = subst P (with_run_first q s rs q_first) q_fits in
                  subst R (sym (with_run_first q s rs q_first))
                  (elim apart [
                    | inl before ↦
                        subst P (sym (with_run_first r q (s ∷ rs) (omega (arith, before, r_now.1))))
                        (r_now.0, r_now.1, (before, q_now.1, q_now.2))
                    | inr after ↦
                        subst P (sym (with_run_later r q (s ∷ rs) (omega (arith, after))))
                        (q_now.0, q_now.1, subst Q (sym (with_run_first r s rs r_first)) (after, r_now.1, r_now.2))
                  ])
              | inr q_later ↦
                  let q_now = subst P (with_run_later q s rs q_later) q_fits in
                  subst R (sym (with_run_later q s rs q_later))
                  (subst P (sym (with_run_first r s (with_run q rs) r_first)) (r_now.0, r_now.1, (r_now.2.0, r_now.2.1, q_now.2)))
            ]
        | inr r_later ↦
            let r_now = subst P (with_run_later r s rs r_later) r_fits in
            elim (cases_lt q.from s.from) [
              | inl q_first ↦
                  let q_now = subst P (with_run_first q s rs q_first) q_fits in
                  subst R (sym (with_run_first q s rs q_first))
                  (subst P (sym (with_run_later r q (s ∷ rs) (omega (arith, q_first, r_later))))
                  (q_now.0, q_now.1, subst Q (sym (with_run_later r s rs r_later)) (q_now.2.0, q_now.2.1, r_now.2)))
              | inr q_later ↦
                  let q_now = subst P (with_run_later q s rs q_later) q_fits in
                  subst R (sym (with_run_later q s rs q_later))
                  (subst P (sym (with_run_later r s (with_run q rs) r_later))
                  (r_now.0, r_now.1, put_apart (end_of s) high rs r_now.2 q_now.2))
            ]
      ]

-- ---- a new segment takes no grains from the others

held_with : (new : Segment) (ss : List Segment) (g : Run) → Contains (map grains_of_segment ss) g
    → Contains (map grains_of_segment (with_segment new ss)) g
held_with new [] g (k, within, is) = absurd (omega arith)
held_with new (s ∷ ss) g there =
    let P : List Segment → Type 0 = λ xs. Contains (map grains_of_segment xs) g in
    let first = new ∷ s ∷ ss in
    let later = s ∷ with_segment new ss in
    let here = map grains_of_segment (with_segment new ss) in
    let Q : Run → Type 0 = λ x. Contains (grains_of_segment s ∷ here) x in
    elim (cases_lt new.base s.base) [
      | inl before ↦
          subst P (sym (cond-true (ltb new.base s.base) first later (lt-ltb new.base s.base before)))
          (contains_later (map grains_of_segment (s ∷ ss)) g (grains_of_segment new) there)
      | inr after ↦
          subst P (sym (cond-false (ltb new.base s.base) first later (le-ltb new.base s.base after)))
          (elim (contains_cases (map grains_of_segment ss) g (grains_of_segment s) there) [
            | inl same ↦ subst Q same (contains_first here (grains_of_segment s))
            | inr rest ↦ contains_later here g (grains_of_segment s) (held_with new ss g rest)
          ])
    ]

held_after_place : (placement : Placement) (pool generation : ℕ) (rank : Rank) (ss : List Segment) (g : Run)
    → Contains (map grains_of_segment ss) g → Contains (map grains_of_segment (segments_after placement pool generation rank ss)) g
held_after_place (Place word) pool generation rank ss g there = there
held_after_place (NewSegment grain grains) pool generation rank ss g there = held_with _ ss g there
held_after_place (OverLimit committed need limit) pool generation rank ss g there = there
held_after_place (NoFreeRun need longest) pool generation rank ss g there = there

-- q is covered where a placement left it
pub still_open : (s placed : SegsState) (p : Point) (placement : Placement) (r q : Run) → CanCover s r → CanCover placed q
    → placed ≡ with_place s p placement → AreApart r q → CanCoverAfter placed q r
still_open s placed p placement r q free fits is apart =
    let P : SegsState → Type 0 = λ x. CanCover x q → CanCoverAfter x q r in
    subst P (sym is)
    (λ q_fits. record {
      free = put_apart r q apart 0 _ s.covered free.free q_fits.free;
      inside = record {
        grains = free.inside.grains;
        there = held_after_place placement p.pool 0 p.rank s.segments free.inside.grains free.inside.there;
        after = free.inside.after;
        before = free.inside.before;
      };
    })
    fits
