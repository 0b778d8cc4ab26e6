-- Whether nothing is left in a segment, in the arena and in the model.
use Rattle.std.proofs.Common.{◌≡◌, ◌∙◌, ◌<◌, ◌≤◌, true, false, refl, sym, ap, List, [], ◌∷◌, inl, inr, arith}
use Rattle.std.proofs.lemmas.Bool.{and_from, and_left, and_right, or_left, le-leb, lt-ltb, lt-leb, le-ltb}
use Rattle.std.specs.Prelude.{nat_le, nat_lt, ◌||◌, ◌≢◌}
use Rattle.std.specs.List.{list_any}
use Rattle.mps_base.specs.Address.{Word, word_of, address_of_word, address_of_grain, grain_of}
use Rattle.mps_base.specs.Run.{Run, runs_within}
use Rattle.mps_base.specs.Segment.{Segment, end_of_segment}
use Rattle.mps_amc.proofs.Within.{within_here, within_later, sides}
use Rattle.mps_model.specs.World.{begins_in}

module _ (t : Segment) (aligned : t.base ≡ address_of_grain (grain_of t.base)) where
  abbrev low : Word
  low = word_of t.base

  abbrev high : Word
  high = word_of (end_of_segment t)

  begins : (r : Run) → low ≤ r.from → r.from < high → begins_in t r ≡ true
  begins r above below =
      and_from (nat_le t.base (address_of_word r.from)) (nat_lt (address_of_word r.from) (end_of_segment t))
      (le-leb t.base (address_of_word r.from) (omega (arith, above, aligned)))
      (lt-ltb (address_of_word r.from) (end_of_segment t) (omega (arith, below, aligned)))

  -- where no run begins in it
  pub none_begins : (rs : List Run) → runs_within low high rs ≡ [] → list_any (begins_in t) rs ≡ false
  none_begins [] e = refl
  none_begins (r ∷ rs) e =
      elim (sides low high r.from) [
        | inl (from, under) ↦ let never : r ∷ runs_within low high rs ≡ [] = sym (within_here low high r rs from under) ∙ e in cc
        | inr (inl before) ↦
            ap (λ b. b || list_any (begins_in t) rs)
            (and_left (nat_le t.base (address_of_word r.from)) (nat_lt (address_of_word r.from) (end_of_segment t))
            (lt-leb t.base (address_of_word r.from) (omega (arith, before, aligned))))
            ∙ none_begins rs (sym (within_later low high r rs (inl before)) ∙ e)
        | inr (inr past) ↦
            ap (λ b. b || list_any (begins_in t) rs)
            (and_right (nat_le t.base (address_of_word r.from)) (nat_lt (address_of_word r.from) (end_of_segment t))
            (le-ltb (address_of_word r.from) (end_of_segment t) (omega (arith, past, aligned))))
            ∙ none_begins rs (sym (within_later low high r rs (inr past)) ∙ e)
      ]

  -- where one does
  pub one_begins : (rs : List Run) → runs_within low high rs ≢ [] → list_any (begins_in t) rs ≡ true
  one_begins [] some = absurd (some refl)
  one_begins (r ∷ rs) some =
      elim (sides low high r.from) [
        | inl (from, under) ↦ or_left (begins_in t r) (list_any (begins_in t) rs) (begins r from under)
        | inr out ↦
            Rattle.std.proofs.lemmas.Bool.or_right (begins_in t r) (list_any (begins_in t) rs)
            (one_begins rs (λ e. some (within_later low high r rs out ∙ e)))
      ]
