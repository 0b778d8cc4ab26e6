-- The segment over an address is one of the segments.
use Rattle.std.proofs.Common.{ℕ, suc, ◌≡◌, refl, arith, Bool, Option, Some, None, List, [], ◌∷◌, Contains, sym, ◌∙◌, subst, inl, inr}
use Rattle.std.proofs.lemmas.Bool.{cases_Bool, cond-true, cond-false}
use Rattle.mps_base.specs.Segment.{Segment, segment_over, is_in_segment}

pub contains_head : (s : Segment) (ss : List Segment) → Contains (s ∷ ss) s
contains_head s ss = (0, omega arith, refl)

pub contains_next : (s t : Segment) (ss : List Segment) → Contains ss t → Contains (s ∷ ss) t
contains_next s t ss (k, within, is) = (suc k, omega (arith, within), is)

pub over_is_there : (ss : List Segment) (n : ℕ) (t : Segment) → segment_over ss n ≡ Some t → Contains ss t
over_is_there [] n t is = let left : Option Segment = None in let never : left ≡ Some t = is in cc
over_is_there (s ∷ ss) n t is =
    let here : Bool = is_in_segment s n in
    elim (cases_Bool here) [
      | inl has ↦
          let both : Some s ≡ Some t = sym (cond-true here (Some s) (segment_over ss n) has) ∙ is in
          let same : s ≡ t = cc in
          let P : Segment → Type 0 = λ x. Contains (s ∷ ss) x in
          subst P same (contains_head s ss)
      | inr other ↦ contains_next s t ss (over_is_there ss n t (sym (cond-false here (Some s) (segment_over ss n) other) ∙ is))
    ]
