-- Pairs by their old addresses, while they are gathered.
use Rattle.std.proofs.Common.{ℕ, ◌≡◌, ◌≢◌, ◌+◌, ◌<◌, ◌≤◌, ◌==◌, ◌&&◌, Bool, true, false, cond, eqb, Option, Some, None, List, [], ◌∷◌, ◌++◌, length, take, get_or, set, refl, sym, ap, ◌∙◌, subst, inl, inr, arith}
use Rattle.std.specs.Prelude.{nat_eq}
use Rattle.std.specs.List.{find}
use Rattle.std.specs.Map.{lookup}
use Rattle.std.specs.Option.{option_or}
use Rattle.std.proofs.Math.ListN.{get_or-append}
use Rattle.std.proofs.Math.Seq.{get_or-append_seam}
use Rattle.std.proofs.lemmas.Bool.{false≢true, cases_lt}
use Rattle.std.proofs.lemmas.Bool.Decides.{eqb_tells}
use Rattle.std.proofs.lemmas.List.{length-append, take_all, take_more}
use Rattle.std.proofs.lemmas.List.Folds.{find-append}
use Rattle.std.proofs.lemmas.List.Sorted.{IsNonDecreasingBy-short}
use Rattle.mps_base.specs.Address.{Address}
use Rattle.mps_bits.specs.Row.{bit_in}
use Rattle.mps_xform.specs.declared.replacements.Ranked.{Ranked}
use Rattle.mps_xform.specs.declared.transforms.Pair.{Pair}
use Rattle.mps_xform.specs.Inside.{AreMarked, AreRanked, AreSoundReplacements, by_old}
use Rattle.mps_address_marks.specs.Marks.{mark_of}
use Rattle.mps_xform.specs.Marks.{marks_count, words_of_marks}
use Rattle.mps_xform.specs.State.{is_of, max_pairs}

eqb-sym : (a b : ℕ) → eqb a b ≡ eqb b a
eqb-sym a b = grind arith

-- of no pair the ranks ascend, and nothing is marked
pub none_ranked : (rs : List Ranked) (bound : ℕ) → rs ≡ [] → AreRanked rs bound
none_ranked rs bound none = record {
  below = λ k d within. absurd (omega (arith, within, ap (λ (xs : List Ranked). length xs) none));
  ascend = λ i j d lt within. absurd (omega (arith, within, ap (λ (xs : List Ranked). length xs) none));
}

pub none_marked : (rs : List Ranked) (marks : List ℕ) → rs ≡ [] → AreMarked rs marks
none_marked rs marks none = λ at unmarked. ap (λ (xs : List Ranked). lookup (nat_eq at) (by_old xs)) none

pub none_sound : (rs : List Ranked) (capacity : ℕ) (marks : List ℕ) (marks_capacity zones : ℕ) → rs ≡ []
    → max_pairs ≤ capacity → words_of_marks ≤ marks_capacity → AreSoundReplacements rs capacity marks marks_capacity zones
none_sound rs capacity marks marks_capacity zones none room marks_room = record {
  room = room;
  ascending = IsNonDecreasingBy-short (λ r. r.pair.old.0) rs (omega (arith, ap (λ (xs : List Ranked). length xs) none));
  marks_room = marks_room;
  marked = none_marked rs marks none;
  zoned = λ k d within. absurd (omega (arith, within, ap (λ (xs : List Ranked). length xs) none));
}

pub stay_ranked : (rs : List Ranked) (bound : ℕ) → AreRanked rs bound → AreRanked rs (bound + 1)
stay_ranked rs bound ranked = record {
  below = λ k d within. omega (arith, ranked.below k d within);
  ascend = ranked.ascend;
}

-- one pair more
module _ (rs : List Ranked) (new : Ranked) where
  last : (k : ℕ) → k < length (rs ++ new ∷ []) → length rs ≤ k → k ≡ length rs
  last k within past = omega (arith, within, past, length-append rs (new ∷ []))

  at_last : (k : ℕ) (d : Ranked) → k ≡ length rs → get_or (rs ++ new ∷ []) k d ≡ new
  at_last k d is = ap (λ (i : ℕ). get_or (rs ++ new ∷ []) i d) is ∙ get_or-append_seam rs new [] d

  rank_at : (k : ℕ) (d : Ranked) → k < length rs → (get_or (rs ++ new ∷ []) k d).rank ≡ (get_or rs k d).rank
  rank_at k d within = ap (λ (r : Ranked). r.rank) (get_or-append rs (new ∷ []) d k within)

  rank_last : (k : ℕ) (d : Ranked) → k ≡ length rs → (get_or (rs ++ new ∷ []) k d).rank ≡ new.rank
  rank_last k d is = ap (λ (r : Ranked). r.rank) (at_last k d is)

  pub one_more_ranked : (bound : ℕ) → AreRanked rs bound → new.rank ≡ bound → AreRanked (rs ++ new ∷ []) (bound + 1)
  one_more_ranked bound ranked is = record {
    below = λ k d within.
        elim (cases_lt k (length rs)) [
          | inl before ↦ omega (arith, rank_at k d before, ranked.below k d before)
          | inr past ↦ omega (arith, rank_last k d (last k within past), is)
        ];
    ascend = λ i j d lt within.
        elim (cases_lt j (length rs)) [
          | inl before ↦
              omega (arith, rank_at i d (omega (arith, lt, before)), rank_at j d before, ranked.ascend i j d lt before)
          | inr past ↦
              let here : j ≡ length rs = last j within past in
              omega (arith, rank_at i d (omega (arith, lt, here)), ranked.below i d (omega (arith, lt, here)), rank_last j d here, is)
        ];
  }

  pub look_up_more : (old : ℕ) → lookup (nat_eq old) (by_old (rs ++ new ∷ []))
      ≡ option_or (lookup (nat_eq old) (by_old rs)) (cond (new.pair.old.0 == old) (Some new.pair) None)
  look_up_more old = go rs
    where
      go : (xs : List Ranked) → lookup (nat_eq old) (by_old (xs ++ new ∷ []))
          ≡ option_or (lookup (nat_eq old) (by_old xs)) (cond (new.pair.old.0 == old) (Some new.pair) None)
      go [] = ap (λ (b : Bool). cond b (Some new.pair) None) (eqb-sym old new.pair.old.0)
      go (x ∷ xs) = by (nat_eq old x.pair.old.0) (go xs)
        where
          by : (b : Bool) → lookup (nat_eq old) (by_old (xs ++ new ∷ []))
              ≡ option_or (lookup (nat_eq old) (by_old xs)) (cond (new.pair.old.0 == old) (Some new.pair) None)
              → cond b (Some x.pair) (lookup (nat_eq old) (by_old (xs ++ new ∷ [])))
              ≡ option_or (cond b (Some x.pair) (lookup (nat_eq old) (by_old xs))) (cond (new.pair.old.0 == old) (Some new.pair) None)
          by true rest = refl
          by false rest = rest

  -- its mark is set, and the others are as they were
  pub one_more_marked : (marks marks' : List ℕ) → AreMarked rs marks → bit_in marks' (mark_of marks_count new.pair.old.0) ≡ 1
      → ((other : ℕ) → other ≢ mark_of marks_count new.pair.old.0 → bit_in marks' other ≡ bit_in marks other)
      → AreMarked (rs ++ new ∷ []) marks'
  one_more_marked marks marks' marked set kept at unmarked =
      let m = mark_of marks_count new.pair.old.0 in
      let other : mark_of marks_count at ≢ m =
      λ same. false≢true (sym unmarked ∙ ap (λ (k : ℕ). bit_in marks' k == 1) same ∙ ap (λ (b : ℕ). b == 1) set) in
      elim (eqb_tells new.pair.old.0 at) [
        | inl same ↦ absurd (other (ap (mark_of marks_count) (sym same.1)))
        | inr differs ↦
            look_up_more at
            ∙ ap (λ (o : Option Pair). option_or o (cond (new.pair.old.0 == at) (Some new.pair) None))
            (marked at (ap (λ (b : ℕ). b == 1) (sym (kept (mark_of marks_count at) other)) ∙ unmarked))
            ∙ ap (λ (b : Bool). cond b (Some new.pair) None) differs.0
      ]

or_none : (o : Option Pair) → option_or o None ≡ o
or_none None = refl
or_none (Some p) = refl

-- the pairs of a transform among the first ones, and one more
module _ (pairs : List Pair) (transform index : ℕ) (d : Pair) (within : index < length pairs) (old : Address) where
  abbrev pub test : Pair → Bool
  test = λ p. is_of transform p && (p.old.0 == old)

  more : find test (take (index + 1) pairs)
      ≡ option_or (find test (take index pairs)) (cond (test (get_or pairs index d)) (Some (get_or pairs index d)) None)
  more =
      ap (λ (ps : List Pair). find test ps) (take_more pairs index d within)
      ∙ find-append test (take index pairs) (get_or pairs index d ∷ [])

  by_transform : (b : Bool) → ((get_or pairs index d).transform == transform) ≡ b
      → find test (take (index + 1) pairs)
      ≡ option_or (find test (take index pairs)) (cond (b && ((get_or pairs index d).old.0 == old)) (Some (get_or pairs index d)) None)
  by_transform b is =
      more
      ∙ ap (λ (t : Bool). option_or (find test (take index pairs))
      (cond (t && ((get_or pairs index d).old.0 == old)) (Some (get_or pairs index d)) None)) is

  pub one_more : ((get_or pairs index d).transform == transform) ≡ true
      → find test (take (index + 1) pairs)
      ≡ option_or (find test (take index pairs))
      (cond ((get_or pairs index d).old.0 == old) (Some (get_or pairs index d)) None)
  one_more here = by_transform true here

  pub one_of_another : ((get_or pairs index d).transform == transform) ≡ false
      → find test (take (index + 1) pairs) ≡ find test (take index pairs)
  one_of_another other = by_transform false other ∙ or_none (find test (take index pairs))

-- the pairs of a transform among the first ones are there, and their marks
pub record AreGathered (pairs : List Pair) (transform count : ℕ) (rs : List Ranked) (marks : List ℕ) : Type 0 where
  pub few : length rs ≤ count
  pub whole : length marks ≡ words_of_marks
  pub marked : AreMarked rs marks
  pub ascending : AreRanked rs count
  pub pairs_alike : (old : ℕ) → lookup (nat_eq old) (by_old rs) ≡ find (λ p. is_of transform p && (p.old.0 == old)) (take count pairs)

module _ (pairs : List Pair) (transform index : ℕ) (d : Pair) (rs : List Ranked) (marks : List ℕ)
    (within : index < length pairs) (before : AreGathered pairs transform index rs marks) where
  pub another_passed : ((get_or pairs index d).transform == transform) ≡ false
      → AreGathered pairs transform (index + 1) rs marks
  another_passed other = record {
    few = omega (arith, before.few);
    whole = before.whole;
    marked = before.marked;
    ascending = stay_ranked rs index before.ascending;
    pairs_alike = λ old. before.pairs_alike old ∙ sym (one_of_another pairs transform index d within old other);
  }

  pub one_more_gathered : (rs' : List Ranked) (marks' : List ℕ)
      → ((get_or pairs index d).transform == transform) ≡ true
      → rs' ≡ rs ++ record { pair = get_or pairs index d; rank = index } ∷ []
      → length marks' ≡ words_of_marks
      → bit_in marks' (mark_of marks_count (get_or pairs index d).old.0) ≡ 1
      → ((other : ℕ) → other ≢ mark_of marks_count (get_or pairs index d).old.0 → bit_in marks' other ≡ bit_in marks other)
      → AreGathered pairs transform (index + 1) rs' marks'
  one_more_gathered rs' marks' here is whole marked kept =
      let new : Ranked = record { pair = get_or pairs index d; rank = index } in
      let P : List Ranked → Type 0 = λ xs. AreGathered pairs transform (index + 1) xs marks' in
      let gathered : AreGathered pairs transform (index + 1) (rs ++ new ∷ []) marks' = record {
        few = omega (arith, before.few, length-append rs (new ∷ []));
        whole = whole;
        marked = one_more_marked rs new marks marks' before.marked marked kept;
        ascending = one_more_ranked rs new index before.ascending refl;
        pairs_alike = λ old.
            look_up_more rs new old
            ∙ ap (λ (o : Option Pair). option_or o (cond (new.pair.old.0 == old) (Some new.pair) None)) (before.pairs_alike old)
            ∙ sym (one_more pairs transform index d within old here);
      } in
      subst P (sym is) gathered

pub none_gathered : (pairs : List Pair) (transform : ℕ) (rs : List Ranked) (marks : List ℕ) → rs ≡ []
    → length marks ≡ words_of_marks → AreGathered pairs transform 0 rs marks
none_gathered pairs transform rs marks none whole = record {
  few = omega (arith, ap (λ (xs : List Ranked). length xs) none);
  whole = whole;
  marked = none_marked rs marks none;
  ascending = none_ranked rs 0 none;
  pairs_alike = λ old. ap (λ (xs : List Ranked). lookup (nat_eq old) (by_old xs)) none;
}

-- after the last pair those of the transform are all there
pub all_gathered : (pairs : List Pair) (transform count : ℕ) (rs : List Ranked) (marks : List ℕ) → length pairs ≤ count
    → AreGathered pairs transform count rs marks
    → (old : ℕ) → lookup (nat_eq old) (by_old rs) ≡ find (λ p. is_of transform p && (p.old.0 == old)) pairs
all_gathered pairs transform count rs marks all gathered old =
    gathered.pairs_alike old
    ∙ ap (λ (ps : List Pair). find (λ p. is_of transform p && (p.old.0 == old)) ps) (take_all count pairs all)
