-- Words that are copied, and a block that is forwarded then.
use Rattle.std.proofs.Common.{ℕ, ◌+◌, ◌-◌, ◌<◌, ◌≤◌, ◌≡◌, ◌≢◌, ◌⊎◌, List, length, take, drop, ◌++◌, get_or, sym, ap, ◌∙◌, subst, inl, inr, arith}
use Rattle.std.proofs.Math.ListN.{length-take, length-drop}
use Rattle.std.proofs.Math.Seq.{length_paste_head}
use Rattle.std.proofs.lemmas.List.{get_or-take, get_or-drop, get_or_append_left, get_or-append_right}
use Rattle.std.proofs.lemmas.List.Edits.{length-paste}
use Rattle.std.proofs.lemmas.Bool.{cases_lt}
use Rattle.std.specs.Prelude.{IsTrue, slice_index, slice_range}
use Rattle.mps_base.specs.Address.{Address, word_of}
use Rattle.mps_arena.specs.Arena.{copied_words}
use Rattle.mps_format.specs.Layout.{Layout}
use Rattle.mps_format.specs.Blocks.{IsBlock, BeginsForwarded}
use Rattle.mps_amc.specs.Moving.{AreCopied, BlockStands}

module _ (words : List ℕ) (from to n : ℕ) (from_in : from + n ≤ length words) (to_in : to + n ≤ length words) where
  source_long : n ≤ length (drop from words)
  source_long = omega (arith, length-drop from words, from_in)

  head_long : length (take to words ++ take n (drop from words)) ≡ to + n
  head_long = length_paste_head words to (drop from words) n (omega (arith, to_in)) source_long

  prefix_long : length (take to words) ≡ to
  prefix_long = omega (arith, length-take to words, to_in)

  pub copied_long : length (copied_words words from to n) ≡ length words
  copied_long = length-paste words to (drop from words) n to_in source_long

  pub copied_inside : (k : ℕ) → k < n → get_or (copied_words words from to n) (to + k) 0 ≡ get_or words (from + k) 0
  copied_inside k few =
      get_or_append_left (take to words ++ take n (drop from words)) (drop (to + n) words) 0 (to + k) (omega (arith, head_long, few))
      ∙ get_or-append_right (take to words) (take n (drop from words)) to (to + k) 0 prefix_long (omega arith)
      ∙ ap (λ (i : ℕ). get_or (take n (drop from words)) i 0) (omega arith)
      ∙ get_or-take n (drop from words) k 0 few
      ∙ get_or-drop from words k 0

  pub copied_outside : (i : ℕ) → (i < to) ⊎ (to + n ≤ i) → get_or (copied_words words from to n) i 0 ≡ get_or words i 0
  copied_outside i (inl below) =
      get_or_append_left (take to words ++ take n (drop from words)) (drop (to + n) words) 0 i (omega (arith, head_long, below))
      ∙ get_or_append_left (take to words) (take n (drop from words)) 0 i (omega (arith, prefix_long, below))
      ∙ get_or-take to words i 0 below
  copied_outside i (inr above) =
      get_or-append_right (take to words ++ take n (drop from words)) (drop (to + n) words) (to + n) i 0 head_long above
      ∙ get_or-drop (to + n) words (i - (to + n)) 0
      ∙ ap (λ (j : ℕ). get_or words j 0) (omega (arith, above))

-- a number that is none of n numbers from one on lies below or above them
apart_from : (i from n : ℕ) → ((k : ℕ) → k < n → i ≢ from + k) → (i < from) ⊎ (from + n ≤ i)
apart_from i from n other =
    elim (cases_lt i from) [
      | inl below ↦ inl below
      | inr above ↦ elim (cases_lt i (from + n)) [
        | inl inside ↦ absurd (other (i - from) (omega (arith, above, inside)) (omega (arith, above)))
        | inr after ↦ inr after
      ]
    ]

module _ (f : Layout) (words words' : List ℕ) (from to : Address) (n : ℕ)
    (from_in : word_of from + n ≤ length words) (to_in : word_of to + n ≤ length words)
    (apart : (word_of from + n ≤ word_of to) ⊎ (word_of to + n ≤ word_of from))
    (long : length words' ≡ length (copied_words words (word_of from) (word_of to) n))
    (forwarded : BeginsForwarded f (slice_range words' (word_of from) (word_of from + n)) n)
    (leads : slice_index (slice_range words' (word_of from) (word_of from + n)) 1 ≡ to)
    (others : (i : ℕ) → (i < word_of from) ⊎ (word_of from + n ≤ i)
    → slice_index words' i ≡ slice_index (copied_words words (word_of from) (word_of to) n) i)
  where
    at_least_two : 2 ≤ n
    at_least_two = forwarded.in_range.0

    same_long : length words' ≡ length words
    same_long = long ∙ copied_long words (word_of from) (word_of to) n from_in to_in

    in_block : (i : ℕ) → i < n
        → get_or (slice_range words' (word_of from) (word_of from + n)) i 0 ≡ get_or (drop (word_of from) words') i 0
    in_block i few = get_or-take (word_of from + n - word_of from) (drop (word_of from) words') i 0 (omega (arith, few))

    away : (k : ℕ) → k < n → (word_of to + k < word_of from) ⊎ (word_of from + n ≤ word_of to + k)
    away k few = elim apart [ inl after ↦ inr (omega (arith, after)) | inr before ↦ inl (omega (arith, before, few)) ]

    pub are_copied : AreCopied f words words' from to n
    are_copied = record {
      long = same_long;
      copied = λ k few. others (word_of to + k) (away k few) ∙ copied_inside words (word_of from) (word_of to) n from_in to_in k few;
      begins = record {
        in_range = forwarded.in_range;
        whole = omega (arith, length-drop (word_of from) words', same_long, from_in);
        head = sym (in_block 0 (omega (arith, at_least_two))) ∙ forwarded.head;
      };
      leads = sym (get_or-drop (word_of from) words' 1 0) ∙ sym (in_block 1 (omega (arith, at_least_two))) ∙ leads;
      others = λ i not_from not_to. others i (apart_from i (word_of from) n not_from)
          ∙ copied_outside words (word_of from) (word_of to) n from_in to_in i (apart_from i (word_of to) n not_to);
    }

-- a block whose words are copied elsewhere stays where it is
pub block_stays : (f : Layout) (words : List ℕ) (from to : Address) (n : ℕ) → BlockStands f words from n
    → word_of to + n ≤ length words → (word_of from + n ≤ word_of to) ⊎ (word_of to + n ≤ word_of from) → 0 < n
    → IsBlock f (slice_range (copied_words words (word_of from) (word_of to) n) (word_of from) (word_of from + n))
block_stays f words from to n stands to_in apart some =
    let words' : List ℕ = copied_words words (word_of from) (word_of to) n in
    let long = copied_long words (word_of from) (word_of to) n stands.within to_in in
    let part : List ℕ = slice_range words' (word_of from) (word_of from + n) in
    let away : (word_of from < word_of to) ⊎ (word_of to + n ≤ word_of from) =
    elim apart [ inl after ↦ inl (omega (arith, after, some)) | inr before ↦ inr before ] in
    let head : slice_index part 0 ≡ slice_index words (word_of from) =
    get_or-take (word_of from + n - word_of from) (drop (word_of from) words') 0 0 (omega (arith, some))
    ∙ get_or-drop (word_of from) words' 0 0
    ∙ ap (λ (i : ℕ). get_or words' i 0) (omega arith)
    ∙ copied_outside words (word_of from) (word_of to) n stands.within to_in (word_of from) away
    in
    record {
      valid = let P : ℕ → Type 0 = λ h. IsTrue (f.is_valid h) in subst P (sym head) stands.valid;
      whole = omega (
        arith,
        length-take (word_of from + n - word_of from) (drop (word_of from) words'),
        length-drop (word_of from) words',
        long,
        stands.within,
      ) ∙ stands.whole ∙ ap (λ (h : ℕ). f.size h) (sym head);
    }

-- where a block was copied it stands as it did
pub copy_stands : (f : Layout) (words words' : List ℕ) (from to : Address) (n : ℕ) → BlockStands f words from n
    → AreCopied f words words' from to n → word_of to + n ≤ length words → BlockStands f words' to n
copy_stands f words words' from to n stands copied within =
    let some = copied.begins.in_range.0 in
    let there : word_of to ≡ word_of to + 0 = omega arith in
    let here : word_of from + 0 ≡ word_of from = omega arith in
    let head : slice_index words' (word_of to) ≡ slice_index words (word_of from) =
    ap (λ (i : ℕ). slice_index words' i) there
    ∙ copied.copied 0 (omega (arith, some))
    ∙ ap (λ (i : ℕ). slice_index words i) here
    in
    record {
      valid = let P : ℕ → Type 0 = λ h. IsTrue (f.is_valid h) in subst P (sym head) stands.valid;
      whole = stands.whole ∙ ap (λ (h : ℕ). f.size h) (sym head);
      within = omega (arith, copied.long, within);
    }
