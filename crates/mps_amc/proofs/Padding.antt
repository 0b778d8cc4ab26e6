-- The words around the blocks of a segment become pads, from its first word on.
use Rattle.std.proofs.Common.{ℕ, ◌+◌, ◌<◌, ◌≤◌, ◌≡◌, ◌⊎◌, true, false, List, length, sym, ◌∙◌, inl, inr, arith}
use Rattle.std.proofs.lemmas.Bool.{cases_lt, true≢false}
use Rattle.std.specs.Prelude.{slice_index}
use Rattle.mps_base.specs.Run.{Run, runs_within}
use Rattle.mps_extents.specs.Extents.{is_covered}
use Rattle.mps_format.specs.Layout.{Layout}
use Rattle.mps_amc.specs.Reclaiming.{LiesInPad, LiesInOpenPad, ArePadded}

-- ---- a pad more

module _ (f : Layout) (low high at count : ℕ) (words words' : List ℕ)
    (long : length words' ≡ length words)
    (others : (i : ℕ) → (i < at) ⊎ (at + count ≤ i) → slice_index words' i ≡ slice_index words i)
  where
    -- a pad that begins below what is written stays
    pub pad_stays : (i : ℕ) → i < at → LiesInPad f low high words i → LiesInPad f low high words' i
    pad_stays i before p = record {
      at = p.at;
      count = p.count;
      in_range = p.in_range;
      above = p.above;
      below = p.below;
      begins = p.begins;
      ends = p.ends;
      whole = omega (arith, p.whole, long);
      head = others p.at (inl (omega (arith, p.begins, before))) ∙ p.head;
    }

    pub pads_go_on : 0 < count → count ≤ 65536 → low ≤ at → at + count ≤ high → at + count ≤ length words
        → slice_index words' at ≡ f.pad_head count
        → ((i : ℕ) → low ≤ i → i < at → LiesInPad f low high words i)
        → (i : ℕ) → low ≤ i → i < at + count → LiesInPad f low high words' i
    pads_go_on some few above below fits head so_far i from under =
        elim (cases_lt i at) [
          | inl before ↦ pad_stays i before (so_far i from before)
          | inr after ↦ record {
            at = at;
            count = count;
            in_range = (omega (arith, some), few);
            above = above;
            below = below;
            begins = after;
            ends = under;
            whole = omega (arith, fits, long);
            head = head;
          }
        ]

-- ---- the words around blocks

-- so far the words below a word are padded
pub record ArePaddedBelow (f : Layout) (low high : ℕ) (blocks : List Run) (words words' : List ℕ) (from : ℕ) : Type 0 where
  pub long : length words' ≡ length words
  pub above : low ≤ from
  pub pads : (i : ℕ) → low ≤ i → i < from → i < high → is_covered (runs_within low high blocks) i ≡ false
      → LiesInOpenPad f low (runs_within low high blocks) words' i
  pub inside : (i : ℕ) → is_covered (runs_within low high blocks) i ≡ true → slice_index words' i ≡ slice_index words i
  pub outside : (i : ℕ) → (i < low) ⊎ (high ≤ i) → slice_index words' i ≡ slice_index words i

-- words of runs are passed over
pub padded_past : (f : Layout) (low high : ℕ) (blocks : List Run) (words words' : List ℕ) (from to : ℕ)
    → ArePaddedBelow f low high blocks words words' from → from ≤ to
    → ((k : ℕ) → from ≤ k → k < to → is_covered (runs_within low high blocks) k ≡ true) → ArePaddedBelow f low high blocks words words' to
padded_past f low high blocks words words' from to so_far past covered = record {
  long = so_far.long;
  above = omega (arith, so_far.above, past);
  pads = λ i after under below none. elim (cases_lt i from) [
    | inl before ↦ so_far.pads i after before below none
    | inr later ↦ absurd (true≢false (sym (covered i later under) ∙ none))
  ];
  inside = so_far.inside;
  outside = so_far.outside;
}

-- the words from one to another become pads, none of which is in a run
module _ (f : Layout) (low high : ℕ) (blocks : List Run) (words words' words'' : List ℕ) (from to : ℕ)
    (so_far : ArePaddedBelow f low high blocks words words' from)
    (long : length words'' ≡ length words')
    (pads : (i : ℕ) → from ≤ i → i < to → LiesInPad f from to words'' i)
    (others : (i : ℕ) → (i < from) ⊎ (to ≤ i) → slice_index words'' i ≡ slice_index words' i)
    (open_words : (k : ℕ) → from ≤ k → k < to → is_covered (runs_within low high blocks) k ≡ false)
    (below_end : (to ≤ high))
  where
    abbrev runs : List Run
    runs = runs_within low high blocks

    pub padded_more : (i : ℕ) → low ≤ i → (i < from) ⊎ (i < to) → i < high → is_covered runs i ≡ false → LiesInOpenPad f low runs words'' i
    padded_more i after under below none =
        elim (cases_lt i from) [
          | inl before ↦
              let p = so_far.pads i after before below none in
              record {
                high = p.high;
                pad = record {
                  at = p.pad.at;
                  count = p.pad.count;
                  in_range = p.pad.in_range;
                  above = p.pad.above;
                  below = p.pad.below;
                  begins = p.pad.begins;
                  ends = p.pad.ends;
                  whole = omega (arith, p.pad.whole, long);
                  head = others p.pad.at (inl (omega (arith, p.pad.begins, before))) ∙ p.pad.head;
                };
                open_words = p.open_words;
              }
          | inr past ↦
              let p = pads i past (nearer past under) in
              record {
                high = to;
                pad = record {
                  at = p.at;
                  count = p.count;
                  in_range = p.in_range;
                  above = omega (arith, p.above, so_far.above);
                  below = p.below;
                  begins = p.begins;
                  ends = p.ends;
                  whole = p.whole;
                  head = p.head;
                };
                open_words = λ k few. open_words (p.at + k) (omega (arith, p.above)) (omega (arith, p.below, few));
              }
        ]
      where
        nearer : {i from to : ℕ} → from ≤ i → (i < from) ⊎ (i < to) → i < to
        nearer past (inl before) = absurd (omega (arith, past, before))
        nearer past (inr under) = under

    pub same_inside : (i : ℕ) → is_covered runs i ≡ true → slice_index words'' i ≡ slice_index words i
    same_inside i covered =
        elim (cases_lt i from) [
          | inl before ↦ others i (inl before) ∙ so_far.inside i covered
          | inr past ↦ elim (cases_lt i to) [
            | inl under ↦ absurd (true≢false (sym covered ∙ open_words i past under))
            | inr after ↦ others i (inr after) ∙ so_far.inside i covered
          ]
        ]

    pub same_outside : (i : ℕ) → (i < low) ⊎ (high ≤ i) → slice_index words'' i ≡ slice_index words i
    same_outside i (inl before) = others i (inl (omega (arith, before, so_far.above))) ∙ so_far.outside i (inl before)
    same_outside i (inr past) = others i (inr (omega (arith, past, below_end))) ∙ so_far.outside i (inr past)

-- a hole becomes pads
module _ (f : Layout) (low high : ℕ) (blocks : List Run) (words words' words'' : List ℕ) (from to : ℕ)
    (so_far : ArePaddedBelow f low high blocks words words' from)
    (long : length words'' ≡ length words')
    (pads : (i : ℕ) → from ≤ i → i < to → LiesInPad f from to words'' i)
    (others : (i : ℕ) → (i < from) ⊎ (to ≤ i) → slice_index words'' i ≡ slice_index words' i)
    (open_words : (k : ℕ) → from ≤ k → k < to → is_covered (runs_within low high blocks) k ≡ false)
    (past : from ≤ to) (below_end : to ≤ high)
  where
    pub padded_to : ArePaddedBelow f low high blocks words words'' to
    padded_to = record {
      long = long ∙ so_far.long;
      above = omega (arith, so_far.above, past);
      pads = λ i after under.
          padded_more f low high blocks words words' words'' from to so_far long pads others open_words below_end i after (inr under);
      inside = same_inside f low high blocks words words' words'' from to so_far long pads others open_words below_end;
      outside = same_outside f low high blocks words words' words'' from to so_far long pads others open_words below_end;
    }

-- where no hole is left all is padded
pub padded_all : (f : Layout) (low high : ℕ) (blocks : List Run) (words words' : List ℕ) (from : ℕ)
    → ArePaddedBelow f low high blocks words words' from → from ≤ high
    → ((k : ℕ) → from ≤ k → k < high → is_covered (runs_within low high blocks) k ≡ true)
    → ArePadded f low high (runs_within low high blocks) words words'
padded_all f low high blocks words words' from so_far below covered =
    let all = padded_past f low high blocks words words' from high so_far below covered in
    record {
      long = all.long;
      pads = λ i after under none. all.pads i after under under none;
      inside = all.inside;
      outside = all.outside;
    }
