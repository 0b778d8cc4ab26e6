-- What a transform made once it was applied, by the pairs that callers see.
use Rattle.std.proofs.Common.{ℕ, ◌≤◌, ◌≡◌, Bool, Option, Some, None, List, [], ◌∷◌, length, sym, ap, ◌∙◌, subst, inl, inr, arith}
use Rattle.std.specs.Prelude.{slice_index}
use Rattle.std.specs.List.{All, find}
use Rattle.std.specs.Option.{option_map_or}
use Rattle.std.proofs.lemmas.Bool.{cases_Bool, cases_lt, cond-true, cond-false}
use Rattle.std.proofs.lemmas.List.Elements.{All-head, All-tail}
use Rattle.mps_base.specs.Address.{Address, Word}
use Rattle.mps_base.proofs.Runs.{contained_bounds}
use Rattle.mps_format.specs.Layout.{Layout}
use Rattle.mps_seg.specs.Segs.{SegsState}
use Rattle.mps_xform.specs.Applying.{CanApply, after_apply, replacement, word_after_apply}
use Rattle.mps_xform.proofs.Applied.{words_above, words_below, none_of_numbers}
use Rattle.mps_xform.proofs.Segments.{block_over, no_reference}

-- what is found has what all have
pub found_has : {A : Type 0} (P : A → Type 0) (test : A → Bool) (xs : List A) (x : A) → All P xs → find test xs ≡ Some x → P x
found_has {A} P test [] x all is = let left : Option A = None in let never : left ≡ Some x = is in cc
found_has {A} P test (y ∷ ys) x all is =
    elim (cases_Bool (test y)) [
      | inl passes ↦
          let both : Some y ≡ Some x = sym (cond-true (test y) (Some y) (find test ys) passes) ∙ is in
          let same : y ≡ x = cc in
          subst P same (All-head P y ys all)
      | inr fails ↦ found_has P test ys x (All-tail P y ys all) (sym (cond-false (test y) (Some y) (find test ys) fails) ∙ is)
    ]

module _ (f : Layout) (to : Address → Option Address) (s : SegsState) (pool : ℕ) (can : CanApply f s pool) where
  -- no word past the end of the arena has a replacement
  none_past : (word : Word) → length s.words ≤ word → replacement f to s pool word ≡ None
  none_past word past =
      none_of_numbers f to s pool word (no_reference f s word (λ at is.
      let b = block_over s.blocks word at is in
      omega (arith, b.below, past, contained_bounds 0 (length s.words) s.blocks b.run can.blocks b.there)))

  pub word_is : (word : Word) → slice_index (after_apply f to s pool).words word ≡ word_after_apply f to s pool word
  word_is word =
      elim (cases_lt word (length s.words)) [
        | inl within ↦ words_below f to s pool (length s.words) word within (omega arith)
        | inr past ↦
            words_above f to s pool (length s.words) word past
            ∙ ap (λ (o : Option Address). option_map_or (λ at. f.retarget (slice_index s.words word) at) o (slice_index s.words word))
            (sym (none_past word past))
      ]
