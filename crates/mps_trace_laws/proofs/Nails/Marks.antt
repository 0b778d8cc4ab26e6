-- Words of areas change marks alone, at the words at which the condemned blocks over them begin.
use Rattle.std.proofs.Common.{◌≡◌, ◌∙◌, ℕ, ◌<◌, Bool, true, false, List, [], ◌∷◌, ◌++◌, length, set, Option, Some, None, refl, sym, ap, subst, inl, inr, arith, length-set}
use Rattle.std.proofs.lemmas.Bool.{cases_Bool, cases_eq, cond-true, cond-false, eq-eqb, ne_eqb, eqb-true, or_left}
use Rattle.std.specs.Prelude.{◌&&◌, ◌||◌, ◌==◌}
use Rattle.std.specs.List.{list_any}
use Rattle.mps_base.specs.Address.{Address, Word, word_of, address_of_word}
use Rattle.mps_base.specs.Run.{Run, IsAscending}
use Rattle.mps_base.specs.declared.names.Rank.{Rank}
use Rattle.mps_base.specs.declared.names.Rank.TheVariants.{Exact, Weak}
use Rattle.mps_base.proofs.Runs.{contained_bounds}
use Rattle.mps_extents.specs.Table.{bit}
use Rattle.mps_seg.specs.Marks.{MarkTables, with_grey}
use Rattle.mps_amc.specs.Moving.{nailed, kept_in_place}
use Rattle.mps_extents.specs.Extents.{run_over}
use Rattle.mps_extents.proofs.ApartRuns.{has_word-parts}
use Rattle.mps_extents.proofs.WrittenBits.{bit-set_same, bit-set_other}
use Rattle.mps_root.specs.declared.roots.Stored.{Stored}
use Rattle.mps_seg.specs.Segs.{SegsState}
use Rattle.mps_seg.specs.Table.{IsMarked}
use Rattle.mps_seg.specs.Collecting.{is_kept_at, keeping, rank_at}
use Rattle.mps_seg.proofs.Marked.{marked_grey, kept_stay}
use Rattle.mps_trace.specs.Begin.{nailed_by_areas}
use Rattle.mps_trace.specs.Flip.{nailed_in, nailed_by, nailed_by_all}
use Rattle.mps_trace_laws.specs.Image.Memory.{is_condemned_word, words_of_arena}
use Rattle.mps_trace_laws.proofs.Nails.OneWord.{run_that_is_over}
use Rattle.mps_trace_laws.specs.Nails.Nailed.{AreTablesWhole, AreMarkedAt, AreMarkedTo, begins_at, is_moving_word, pins_block, nails, words_of_areas}
use Rattle.mps_format.specs.declared.pool.Policy.{Policy}

-- ---- one bit more

pub bit_more : (bits : List Bool) (n k : ℕ) → n < length bits → bit (set bits n true) k ≡ (n == k || bit bits k)
bit_more bits n k within =
    elim (cases_eq k n) [
      | inl e ↦
          ap (λ (i : ℕ). bit (set bits n true) i) e ∙ bit-set_same bits n true within
          ∙ sym (or_left (n == k) (bit bits k) (eq-eqb n k (sym e)))
      | inr other ↦
          bit-set_other bits n k true other ∙ sym (ap (λ (b : Bool). b || bit bits k) (ne_eqb n k (λ e. other (sym e))))
    ]

first_more : (a b c : Bool) → ((a || b) || c) ≡ (a || (b || c))
first_more true b c = refl
first_more false b c = refl

second_more : (a b c : Bool) → (b || (a || c)) ≡ (a || (b || c))
second_more true true c = refl
second_more true false c = refl
second_more false b c = refl

pub grey_more : (rank : Rank) (n k : ℕ) (m : MarkTables) → n < length m.exact → n < length m.weak
    → (bit (with_grey rank n m).exact k || bit (with_grey rank n m).weak k) ≡ (n == k || (bit m.exact k || bit m.weak k))
grey_more Exact n k m exact weak =
    ap (λ (b : Bool). b || bit m.weak k) (bit_more m.exact n k exact) ∙ first_more (n == k) (bit m.exact k) (bit m.weak k)
grey_more Weak n k m exact weak =
    ap (λ (b : Bool). bit m.exact k || b) (bit_more m.weak n k weak) ∙ second_more (n == k) (bit m.exact k) (bit m.weak k)

-- ---- marks by other tests

pub marked_alike : (s : SegsState) (f g : Word → Bool) → ((n : Word) → f n ≡ g n) → AreMarkedAt s f → AreMarkedAt s g
marked_alike s f g same m = record { kept = λ n. m.kept n ∙ same n; grey = λ n. m.grey n ∙ same n }

-- ---- a block is kept

module _ (s : SegsState) (f : Word → Bool) (whole : AreTablesWhole s) (marked : AreMarkedAt s f) where
  sizes_keeping : (at : Address) → IsMarked s.grains (keeping s at).marks s.condemned s.summaries
  sizes_keeping at = record {
    kept_size = length-set s.marks.kept (word_of at) true ∙ whole.sizes.kept_size;
    exact_size = whole.sizes.exact_size;
    weak_size = whole.sizes.weak_size;
    condemned_size = whole.sizes.condemned_size;
    summaries_size = whole.sizes.summaries_size;
  }

  kept_now : (at : Address) → word_of at < words_of_arena s.grains → AreMarkedTo s (kept_in_place s at) (λ k. word_of at == k || f k)
  kept_now at within = record {
    same = refl;
    whole = record {
      sizes = marked_grey s.grains (keeping s at).marks s.condemned s.summaries (sizes_keeping at) (rank_at (keeping s at) at) (word_of at);
      order = whole.order;
    };
    marks = record {
      kept = λ k.
          ap (λ bits. bit bits k) (kept_stay (rank_at (keeping s at) at) (word_of at) (keeping s at).marks)
          ∙ bit_more s.marks.kept (word_of at) k (omega (arith, within, whole.sizes.kept_size))
          ∙ ap (λ (b : Bool). word_of at == k || b) (marked.kept k);
      grey = λ k.
          grey_more (rank_at (keeping s at) at) (word_of at) k (keeping s at).marks (omega (arith, within, whole.sizes.exact_size))
          (omega (arith, within, whole.sizes.weak_size))
          ∙ ap (λ (b : Bool). word_of at == k || b) (marked.grey k);
    };
  }

  unchanged : (g : Word → Bool) → ((n : Word) → f n ≡ g n) → AreMarkedTo s s g
  unchanged g same = record { same = refl; whole = whole; marks = marked_alike s f g same marked }

  kept_already : (n : Word) → f n ≡ true → (k : Word) → f k ≡ (n == k || f k)
  kept_already n is k =
      elim (cases_Bool (n == k)) [
        | inl here ↦
            let same : f k ≡ true = subst (λ i. f i ≡ true) (eqb-true n k here) is in
            same ∙ sym (or_left (n == k) (f k) here)
        | inr other ↦ sym (ap (λ (b : Bool). b || f k) other)
      ]

  nailed_now : (at : Address) → word_of at < words_of_arena s.grains → AreMarkedTo s (nailed s at) (λ k. word_of at == k || f k)
  nailed_now at within =
      elim (cases_Bool (is_kept_at s at)) [
        | inl kept ↦
            subst (λ (x : SegsState). AreMarkedTo s x (λ k. word_of at == k || f k))
            (sym (cond-true (is_kept_at s at) s (kept_in_place s at) kept))
            (unchanged (λ k. word_of at == k || f k) (kept_already (word_of at) (sym (marked.kept (word_of at)) ∙ kept)))
        | inr not_kept ↦
            subst (λ (x : SegsState). AreMarkedTo s x (λ k. word_of at == k || f k))
            (sym (cond-false (is_kept_at s at) s (kept_in_place s at) not_kept)) (kept_now at within)
      ]

  by_alike : (s' : SegsState) (g h : Word → Bool) → ((n : Word) → g n ≡ h n) → AreMarkedTo s s' g → AreMarkedTo s s' h
  by_alike s' g h same m = record { same = m.same; whole = m.whole; marks = marked_alike s' g h same m.marks }

  -- whether a word is a given one that passes a test
  here_only : (p : Word → Bool) (n : Word) (c : Bool) → p n ≡ c → (k : Word) → (n == k && c) ≡ (p k && n == k)
  here_only p n c is k =
      elim (cases_eq n k) [
        | inl e ↦
            ap (λ (b : Bool). b && c) (eq-eqb n k e) ∙ sym is ∙ ap p e ∙ and_true (p k)
            ∙ ap (λ (b : Bool). p k && b) (sym (eq-eqb n k e))
        | inr other ↦
            ap (λ (b : Bool). b && c) (ne_eqb n k other) ∙ sym (ap (λ (b : Bool). p k && b) (ne_eqb n k other) ∙ and_false (p k))
      ]
    where
      and_true : (x : Bool) → x ≡ (x && true)
      and_true true = refl
      and_true false = refl

      and_false : (x : Bool) → (x && false) ≡ false
      and_false true = refl
      and_false false = refl

  last_first : (a b c : Bool) → ((a && b) && c) ≡ (a && (c && b))
  last_first false b c = refl
  last_first true true true = refl
  last_first true true false = refl
  last_first true false true = refl
  last_first true false false = refl

  first_of : (b c x : Bool) → c ≡ true → (b || x) ≡ ((b && c) || x)
  first_of true true x e = refl
  first_of false true x e = refl
  first_of b false x e = absurd cc

  none_of : (b c x : Bool) → c ≡ false → x ≡ ((b && c) || x)
  none_of true false x e = refl
  none_of false false x e = refl
  none_of b true x e = absurd cc

  word_again : (n : Word) → word_of (address_of_word n) ≡ n
  word_again n = omega arith

  pub nailed_at_most_one : {F : Type 0} (formats : List (Option (Policy F))) (word : ℕ) (o : Option Word)
      → ((n : Word) → o ≡ Some n → n < words_of_arena s.grains)
      → AreMarkedTo s (nailed_in formats s word o)
      (λ k. (is_condemned_word s k && (begins_at o k && (is_moving_word formats s k || word == address_of_word k))) || f k)
  nailed_at_most_one formats word None within =
      unchanged (λ k. (is_condemned_word s k && false) || f k) (λ k. none_of (is_condemned_word s k) false (f k) refl)
  nailed_at_most_one formats word (Some n) within =
      let by_kind : Word → Bool = λ k. is_moving_word formats s k || word == address_of_word k in
      let goal : Word → Bool = λ k. (is_condemned_word s k && (n == k && by_kind k)) || f k in
      let pinned : Word → Bool = λ k. is_condemned_word s k && by_kind k in
      let here : (c : Bool) → pinned n ≡ c → (k : Word) → (n == k && c) ≡ (is_condemned_word s k && (n == k && by_kind k)) =
      λ c is k. here_only pinned n c is k ∙ last_first (is_condemned_word s k) (by_kind k) (n == k)
      in
      elim (cases_Bool (pinned n)) [
        | inl is ↦
            subst (λ (x : SegsState). AreMarkedTo s x goal) (sym (cond-true (pinned n) (nailed s (address_of_word n)) s is))
            (by_alike (nailed s (address_of_word n)) (λ k. word_of (address_of_word n) == k || f k) goal (λ k.
            ap (λ (i : ℕ). i == k || f k) (word_again n) ∙ first_of (n == k) true (f k) refl
            ∙ ap (λ (b : Bool). b || f k) (here true is k))
            (nailed_now (address_of_word n) (subst (λ i. i < words_of_arena s.grains) (sym (word_again n)) (within n refl))))
        | inr outside ↦
            subst (λ (x : SegsState). AreMarkedTo s x goal) (sym (cond-false (pinned n) (nailed s (address_of_word n)) s outside))
            (unchanged goal (λ k. none_of (n == k) false (f k) refl ∙ ap (λ (b : Bool). b || f k) (here false outside k)))
      ]

-- ---- one word after the other

-- the run over a word begins below the end of the arena
run_below : (high : ℕ) (rs : List Run) (word n : ℕ) → IsAscending 0 high rs → run_over rs word ≡ Some n → n < high
run_below high rs word n ascending is =
    let over = run_that_is_over rs word n is in
    let parts = has_word-parts over.run word over.has in
    let bounds = contained_bounds 0 high rs over.run ascending over.there in
    omega (arith, over.begins, parts.0, parts.1, bounds.1)

joined : (c a b f : Bool) → ((c && a) || ((c && b) || f)) ≡ ((c && (b || a)) || f)
joined true a b f = second_more b a f ∙ sym (first_more b a f)
joined false a b f = refl

module _ {F : Type 0} (formats : List (Option (Policy F))) (blocks : List Run) (is_condemned_over moves_over : Word → Bool) where
  -- the segments have these blocks, and the same words are condemned and may move
  pub record Has (s : SegsState) : Type 0 where
    pub blocks_are : s.blocks ≡ blocks
    pub condemned_are : (n : Word) → is_condemned_word s n ≡ is_condemned_over n
    pub moving_are : (n : Word) → is_moving_word formats s n ≡ moves_over n

  has_still : (s s' : SegsState) → s' ≡ record s { marks = s'.marks } → Has s → Has s'
  has_still s s' same h =
      subst Has (sym same) (record { blocks_are = h.blocks_are; condemned_are = h.condemned_are; moving_are = h.moving_are })

  word_marked : (s : SegsState) (f : Word → Bool) (w : Stored) → Has s → AreTablesWhole s → AreMarkedAt s f
      → AreMarkedTo s (nailed_by formats s w.word) (λ n. (is_condemned_over n && pins_block blocks moves_over n w) || f n)
  word_marked s f w h whole marked =
      let found = run_over s.blocks (word_of w.word) in
      let is_here : Word → Bool = λ n. w.word == address_of_word n in
      by_alike s f whole marked (nailed_by formats s w.word)
      (λ n. (is_condemned_word s n && (begins_at found n && (is_moving_word formats s n || is_here n))) || f n)
      (λ n. (is_condemned_over n && pins_block blocks moves_over n w) || f n) (λ n.
      ap (λ (c : Bool). (c && (begins_at found n && (is_moving_word formats s n || is_here n))) || f n) (h.condemned_are n)
      ∙ ap (λ (b : Bool). (is_condemned_over n && (begins_at found n && (b || is_here n))) || f n) (h.moving_are n)
      ∙ ap (λ (bs : List Run).
      (is_condemned_over n && (begins_at (run_over bs (word_of w.word)) n && (moves_over n || is_here n))) || f n) h.blocks_are)
      (nailed_at_most_one s f whole marked formats w.word found (λ n is.
      run_below (words_of_arena s.grains) s.blocks (word_of w.word) n whole.order is))

  pub words_marked : (words : List Stored) (s : SegsState) (f : Word → Bool) → Has s → AreTablesWhole s → AreMarkedAt s f
      → AreMarkedTo s (nailed_by_all formats words s) (λ n. nails blocks is_condemned_over moves_over words n || f n)
  words_marked [] s f h whole marked =
      unchanged s f whole marked (λ n. nails blocks is_condemned_over moves_over [] n || f n) (λ n.
      none_of s f whole marked (is_condemned_over n) false (f n) refl)
  words_marked (w ∷ ws) s f h whole marked =
      let s' = nailed_by formats s w.word in
      let f' : Word → Bool = λ n. (is_condemned_over n && pins_block blocks moves_over n w) || f n in
      let first = word_marked s f w h whole marked in
      let rest = words_marked ws s' f' (has_still s s' first.same h) first.whole first.marks in
      let last = nailed_by_all formats ws s' in
      record {
        same = rest.same ∙ ap (λ (x : SegsState). record x { marks = last.marks }) first.same;
        whole = rest.whole;
        marks = marked_alike last (λ n. nails blocks is_condemned_over moves_over ws n || f' n)
            (λ n. nails blocks is_condemned_over moves_over (w ∷ ws) n || f n)
            (λ n. joined (is_condemned_over n) (list_any (pins_block blocks moves_over n) ws) (pins_block blocks moves_over n w) (f n))
            rest.marks;
      }

-- ---- all areas

module _ {F : Type 0} (formats : List (Option (Policy F))) where
  all_append : (xs ys : List Stored) (s : SegsState)
      → nailed_by_all formats (xs ++ ys) s ≡ nailed_by_all formats ys (nailed_by_all formats xs s)
  all_append [] ys s = refl
  all_append (x ∷ xs) ys s = all_append xs ys (nailed_by formats s x.word)

  pub areas_are_words : (areas : List (Option (List Stored))) (s : SegsState)
      → nailed_by_areas formats areas s ≡ nailed_by_all formats (words_of_areas areas) s
  areas_are_words [] s = refl
  areas_are_words (None ∷ areas) s = areas_are_words areas s
  areas_are_words (Some words ∷ areas) s =
      areas_are_words areas (nailed_by_all formats words s) ∙ sym (all_append words (words_of_areas areas) s)

  pub areas_marked : (s : SegsState) (areas : List (Option (List Stored))) (marked : Word → Bool) → AreTablesWhole s
      → AreMarkedAt s marked
      → AreMarkedTo s (nailed_by_areas formats areas s)
      (λ n. nails s.blocks (is_condemned_word s) (is_moving_word formats s) (words_of_areas areas) n || marked n)
  areas_marked s areas marked whole marks =
      let goal : Word → Bool =
      λ n. nails s.blocks (is_condemned_word s) (is_moving_word formats s) (words_of_areas areas) n || marked n
      in
      subst (λ (x : SegsState). AreMarkedTo s x goal) (sym (areas_are_words areas s))
      (words_marked formats s.blocks (is_condemned_word s) (is_moving_word formats s) (words_of_areas areas) s marked
      (record { blocks_are = refl; condemned_are = λ n. refl; moving_are = λ n. refl }) whole marks)
