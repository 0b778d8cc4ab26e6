-- The count of grey blocks, and the grains in which they begin.
use Rattle.std.proofs.Common.{ℕ, zero, suc, ◌+◌, ◌-◌, ◌*◌, ◌/◌, ◌^◌, ◌<◌, ◌≤◌, ◌≡◌, ◌≢◌, Bool, true, false, List, length, cond, get_or, set, replicate, max, Option, Some, None, refl, sym, ap, ◌∙◌, subst, inl, inr, arith, length-set, get_or-set_same, get_or-set_other}
use Rattle.std.specs.List.{count_by}
use Rattle.std.proofs.lemmas.Bool.{cases_lt, cases_eq, cases_Bool, both_ways}
use Rattle.std.proofs.lemmas.List.{same_lists, length-replicate, get_or-replicate, get_or_past, get_or_default}
use Rattle.std.proofs.lemmas.List.Sums.{sum_by-set}
use Rattle.mps_base.specs.Address.{words_of_grain}
use Rattle.mps_bits.specs.Table.{bit, with_range, lowest_from, next_set_below}
use Rattle.mps_bits.proofs.Ranges.{length-with_range, with_range_inside}
use Rattle.mps_bits.proofs.Searches.{IsLowest, found, missing, lowest_cases, lowest_from_is, lowest_from_none}
use Rattle.mps_marks.specs.Inside.{IsTallied, IsNoted}

-- ---- bits of a written table

bit-set_same : (bits : List Bool) (i : ℕ) (value : Bool) → i < length bits → bit (set bits i value) i ≡ value
unfolding bit
bit-set_same bits i value within = get_or-set_same bits i value false within

bit-set_other : (bits : List Bool) (i j : ℕ) (value : Bool) → j ≢ i → bit (set bits i value) j ≡ bit bits j
unfolding bit
bit-set_other bits i j value other = get_or-set_other bits i j value false other

pub bit_within : (bits : List Bool) (i : ℕ) → bit bits i ≡ true → i < length bits
unfolding bit
bit_within bits i is =
    elim (cases_lt i (length bits)) [
      | inl within ↦ within
      | inr past ↦ absurd (both_ways (get_or bits i false) (get_or_past bits i false past) is)
    ]

past_the_table : (bits : List Bool) (i : ℕ) → length bits ≤ i → bit bits i ≡ false
unfolding bit
past_the_table bits i past = get_or_past bits i false past

same_bits : (xs ys : List Bool) → length xs ≡ length ys → ((i : ℕ) → i < length xs → bit xs i ≡ bit ys i) → xs ≡ ys
unfolding bit
same_bits xs ys size same =
    same_lists xs ys size (λ k d h. get_or_default xs k d false h ∙ same k h ∙ get_or_default ys k false d (omega (arith, size)))

bit-none : (n i : ℕ) → bit (replicate n false) i ≡ false
unfolding bit
bit-none n i =
    elim (cases_lt i n) [
      | inl within ↦ get_or-replicate n i false false within
      | inr past ↦ get_or_past (replicate n false) i false (omega (arith, length-replicate n false))
    ]

pub set_again : (bits : List Bool) (at : ℕ) (value : Bool) → bit bits at ≡ value → at < length bits → bits ≡ set bits at value
set_again bits at value is within =
    same_bits bits (set bits at value) (sym (length-set bits at value)) (λ i h. elim (cases_eq i at) [
      | inl here ↦ ap (λ (k : ℕ). bit bits k) here ∙ is ∙ sym (bit-set_same bits at value within)
          ∙ sym (ap (λ (k : ℕ). bit (set bits at value) k) here)
      | inr there ↦ sym (bit-set_other bits at i value there)
    ])

-- ---- counts

count_set : (bits : List Bool) (at : ℕ) (value : Bool) → at < length bits
    → count_by (λ b. b) (set bits at value) + cond (bit bits at) 1 0 ≡ count_by (λ b. b) bits + cond value 1 0
unfolding bit
count_set bits at value within = sum_by-set (λ (b : Bool). cond b 1 0) bits at value false within

pub none_counted : (n : ℕ) → count_by (λ b. b) (replicate n false) ≡ 0
none_counted zero = refl
none_counted (suc n) = none_counted n

pub clear_where_none : (bits : List Bool) (i : ℕ) → count_by (λ b. b) bits ≡ 0 → bit bits i ≡ false
clear_where_none bits i none =
    elim (cases_Bool (bit bits i)) [
      | inr clear ↦ clear
      | inl is ↦ absurd (omega (
        arith,
        count_set bits i false (bit_within bits i is),
        ap {B = ℕ} (λ (b : Bool). cond b 1 0) is,
        none,
      ))
    ]

pub all_clear : (bits : List Bool) → count_by (λ b. b) bits ≡ 0 → bits ≡ replicate (length bits) false
all_clear bits none =
    same_bits bits (replicate (length bits) false) (sym (length-replicate (length bits) false))
    (λ i h. clear_where_none bits i none ∙ sym (bit-none (length bits) i))

pub cleared : (bits : List Bool) → with_range bits 0 (length bits) false ≡ replicate (length bits) false
cleared bits =
    same_lists (with_range bits 0 (length bits) false) (replicate (length bits) false)
    (length-with_range bits 0 (length bits) false (omega arith) (omega arith) ∙ sym (length-replicate (length bits) false))
    (λ i d h.
    let within : i < length bits = omega (arith, h, length-with_range bits 0 (length bits) false (omega arith) (omega arith)) in
    with_range_inside bits 0 (length bits) false i d (omega arith) (omega arith) (omega arith) within
    ∙ sym (get_or-replicate (length bits) i false d within))

pub noted_still : (kept : List Bool) (is_any_kept : Bool) (word : ℕ) → word < length kept → IsNoted kept is_any_kept
    → IsNoted (set kept word false) is_any_kept
noted_still kept is_any_kept word within noted none =
    let clear = ap (λ (bits : List Bool). bit bits word) (noted none) ∙ bit-none (length kept) word in
    sym (set_again kept word false clear within) ∙ noted none ∙ ap (λ (n : ℕ). replicate n false) (sym (length-set kept word false))

-- ---- tallies

pub no_tally : (grains : ℕ) → words_of_grain * grains < 2 ^ 32
    → IsTallied (replicate (words_of_grain * grains) false) (replicate grains false) 0
no_tally grains small = record {
  size = omega (arith, length-replicate (words_of_grain * grains) false, length-replicate grains false);
  small = omega (arith, small, length-replicate (words_of_grain * grains) false);
  counted = none_counted (words_of_grain * grains);
  grain_of_block = λ word is.
      let clear = bit-none (words_of_grain * grains) word in
      absurd (both_ways (bit (replicate (words_of_grain * grains) false) word) clear is);
}

pub all_blocks_cleared : (blocks grains : List Bool) (n : ℕ) → IsTallied blocks grains n
    → IsTallied (replicate (length blocks) false) grains 0
all_blocks_cleared blocks grains n tally = record {
  size = omega (arith, length-replicate (length blocks) false, tally.size);
  small = omega (arith, tally.small, length-replicate (length blocks) false);
  counted = none_counted (length blocks);
  grain_of_block = λ word is. absurd (both_ways (bit (replicate (length blocks) false) word) (bit-none (length blocks) word) is);
}

pub all_grains_cleared : (blocks grains : List Bool) (n : ℕ) → IsTallied blocks grains n → count_by (λ b. b) blocks ≡ 0
    → IsTallied blocks (replicate (length grains) false) n
all_grains_cleared blocks grains n tally none = record {
  size = omega (arith, length-replicate (length grains) false, tally.size);
  small = tally.small;
  counted = tally.counted;
  grain_of_block = λ word is. absurd (both_ways (bit blocks word) (clear_where_none blocks word none) is);
}

pub one_more : (blocks grains : List Bool) (n word : ℕ) → IsTallied blocks grains n → word < length blocks → bit blocks word ≡ false
    → IsTallied (set blocks word true) (set grains (word / words_of_grain) true) (n + 1)
one_more blocks grains n word tally within clear = record {
  size = omega (arith, length-set blocks word true, length-set grains (word / words_of_grain) true, tally.size);
  small = omega (arith, length-set blocks word true, tally.small);
  counted = omega (arith, count_set blocks word true within, ap {B = ℕ} (λ (b : Bool). cond b 1 0) clear, tally.counted);
  grain_of_block = λ w is. elim (cases_eq (w / words_of_grain) (word / words_of_grain)) [
    | inl same ↦
        ap (λ (g : ℕ). bit (set grains (word / words_of_grain) true) g) same
        ∙ bit-set_same grains (word / words_of_grain) true (omega (arith, within, tally.size))
    | inr other ↦
        let there : w ≢ word = λ e. other (ap (λ (k : ℕ). k / words_of_grain) e) in
        bit-set_other grains (word / words_of_grain) (w / words_of_grain) true other
        ∙ tally.grain_of_block w (sym (bit-set_other blocks word w true there) ∙ is)
  ];
}

pub one_fewer : (blocks grains : List Bool) (n word : ℕ) → IsTallied blocks grains n → bit blocks word ≡ true
    → IsTallied (set blocks word false) grains (n - 1)
one_fewer blocks grains n word tally is = record {
  size = omega (arith, length-set blocks word false, tally.size);
  small = omega (arith, length-set blocks word false, tally.small);
  counted = omega (
    arith,
    count_set blocks word false (bit_within blocks word is),
    ap {B = ℕ} (λ (b : Bool). cond b 1 0) is,
    tally.counted,
  );
  grain_of_block = λ w there. elim (cases_eq w word) [
    | inl same ↦ absurd (both_ways (bit (set blocks word false) w)
        (ap (λ (k : ℕ). bit (set blocks word false) k) same ∙ bit-set_same blocks word false (bit_within blocks word is)) there)
    | inr other ↦ tally.grain_of_block w (sym (bit-set_other blocks word w false other) ∙ there)
  ];
}

-- a search without an answer
none_below : (bits : List Bool) (from to i : ℕ) → next_set_below bits from to ≡ None → from ≤ i → i < to → bit bits i ≡ false
unfolding next_set_below
none_below bits from to i none above below =
    elim (lowest_cases (bit bits) from (to - from)) [
      | found index is_some is ↦
          let never : None ≡ Some index = sym none ∙ is_some in
          cc
      | missing is_none clear ↦ clear i above (omega arith)
    ]

pub empty_grain : (blocks grains : List Bool) (n grain : ℕ) → IsTallied blocks grains n
    → next_set_below blocks (words_of_grain * grain) (words_of_grain * grain + words_of_grain) ≡ None
    → IsTallied blocks (set grains grain false) n
empty_grain blocks grains n grain tally none = record {
  size = omega (arith, length-set grains grain false, tally.size);
  small = tally.small;
  counted = tally.counted;
  grain_of_block = λ w is. elim (cases_eq (w / words_of_grain) grain) [
    | inl same ↦ absurd (both_ways (bit blocks w)
        (none_below blocks (words_of_grain * grain) (words_of_grain * grain + words_of_grain) w none (omega (arith, same))
        (omega (arith, same))) is)
    | inr other ↦ bit-set_other grains grain (w / words_of_grain) false other ∙ tally.grain_of_block w is
  ];
}

-- ---- searches

-- nothing passes the test before a later beginning
later_beginning : (p : ℕ → Bool) (from later to : ℕ) → from ≤ later → ((i : ℕ) → from ≤ i → i < later → p i ≡ false)
    → lowest_from p later (to - later) ≡ lowest_from p from (to - from)
later_beginning p from later to ordered clear =
    elim (lowest_cases p later (to - later)) [
      | found index is_some is ↦ is_some ∙ sym (lowest_from_is p from (to - from) index (record {
        above = omega (arith, is.above);
        below = omega (arith, is.above, is.below);
        passes = is.passes;
        lower = λ i above below. elim (cases_lt i later) [
          | inl before ↦ clear i above before
          | inr after ↦ is.lower i after below
        ];
      }))
      | missing is_none none ↦ is_none ∙ sym (lowest_from_none p from (to - from) (λ i above below. elim (cases_lt i later) [
        | inl before ↦ clear i above before
        | inr after ↦ none i after (omega arith)
      ]))
    ]

clear_grain : (blocks grains : List Bool) (n i : ℕ) → IsTallied blocks grains n → bit grains (i / words_of_grain) ≡ false
    → bit blocks i ≡ false
clear_grain blocks grains n i tally clear =
    elim (cases_Bool (bit blocks i)) [
      | inr none ↦ none
      | inl is ↦ absurd (both_ways (bit grains (i / words_of_grain)) clear (tally.grain_of_block i is))
    ]

pub no_grain : (blocks grains : List Bool) (n from to end : ℕ) → IsTallied blocks grains n → end ≡ (to + 511) / words_of_grain
    → next_set_below grains (from / words_of_grain) end ≡ None → next_set_below blocks from to ≡ None
unfolding next_set_below
no_grain blocks grains n from to end tally is none =
    lowest_from_none (bit blocks) from (to - from) (λ i above below.
    clear_grain blocks grains n i tally
    (none_below grains (from / words_of_grain) end (i / words_of_grain) none (omega arith) (omega (arith, is))))

index_of : Option ℕ → ℕ
index_of None = 0
index_of (Some index) = index

-- what a search found
found_bit : (bits : List Bool) (from to at : ℕ) → next_set_below bits from to ≡ Some at → IsLowest (bit bits) from (to - from) at
unfolding next_set_below index_of
found_bit bits from to at is_some =
    elim (lowest_cases (bit bits) from (to - from)) [
      | found index same is ↦
          let e : index ≡ at = ap index_of (sym same ∙ is_some) in
          subst (λ (i : ℕ). IsLowest (bit bits) from (to - from) i) e is
      | missing none clear ↦
          let never : Some at ≡ None = sym is_some ∙ none in
          cc
    ]

-- a search that goes on from `later`, since no block from `from` up to `later` is grey: the bits of the grains below that
-- of `later` are clear, and nothing was found in that grain
pub later_search : (blocks grains : List Bool) (n from to end grain low later : ℕ) → IsTallied blocks grains n
    → next_set_below grains (from / words_of_grain) end ≡ Some grain → low ≡ words_of_grain * grain
    → next_set_below blocks (max from low) later ≡ None → from ≤ later
    → next_set_below blocks later to ≡ next_set_below blocks from to
unfolding next_set_below
later_search blocks grains n from to end grain low later tally is_some is none ordered =
    let lowest = found_bit grains (from / words_of_grain) end grain is_some in
    later_beginning (bit blocks) from later to ordered (λ i above below. elim (cases_lt i low) [
      | inl before ↦ clear_grain blocks grains n i tally (lowest.lower (i / words_of_grain) (omega arith) (omega (arith, is)))
      | inr after ↦ none_below blocks (max from low) later i none (omega arith) below
    ])

-- what the search of one grain finds is what the whole search finds
pub found_in_grain : (blocks grains : List Bool) (n from to end grain low high word : ℕ) → IsTallied blocks grains n
    → next_set_below grains (from / words_of_grain) end ≡ Some grain → low ≡ words_of_grain * grain
    → next_set_below blocks (max from low) high ≡ Some word → high ≤ to
    → next_set_below blocks from to ≡ Some word
unfolding next_set_below
found_in_grain blocks grains n from to end grain low high word tally is_some is found_word inside =
    let lowest = found_bit grains (from / words_of_grain) end grain is_some in
    let first = found_bit blocks (max from low) high word found_word in
    lowest_from_is (bit blocks) from (to - from) word (record {
      above = omega (arith, first.above);
      below = omega (arith, first.above, first.below);
      passes = first.passes;
      lower = λ i above below. elim (cases_lt i low) [
        | inl before ↦ clear_grain blocks grains n i tally (lowest.lower (i / words_of_grain) (omega arith) (omega (arith, is)))
        | inr after ↦ first.lower i (omega arith) below
      ];
    })

pub grain_within : (grains : List Bool) (from to grain : ℕ) → next_set_below grains from to ≡ Some grain → grain < length grains
grain_within grains from to grain is_some =
    let lowest = found_bit grains from to grain is_some in bit_within grains grain lowest.passes

pub none_from : (bits : List Bool) (from to : ℕ) → to ≤ from → next_set_below bits from to ≡ None
unfolding next_set_below
none_from bits from to past = lowest_from_none (bit bits) from (to - from) (λ i above below. absurd (omega arith))

pub none_of_none : (bits : List Bool) (from to : ℕ) → count_by (λ b. b) bits ≡ 0 → next_set_below bits from to ≡ None
unfolding next_set_below
none_of_none bits from to none = lowest_from_none (bit bits) from (to - from) (λ i above below. clear_where_none bits i none)

pub search_sound : (blocks : List Bool) (from to word : ℕ) → next_set_below blocks from to ≡ Some word → bit blocks word ≡ true
search_sound blocks from to word is_some = let lowest = found_bit blocks from to word is_some in lowest.passes

-- ---- a search over the grains, one after another

pub grain_from : (grains : List Bool) (from to grain : ℕ) → next_set_below grains from to ≡ Some grain → from ≤ grain
grain_from grains from to grain is_some =
    let lowest = found_bit grains from to grain is_some in lowest.above

-- no block is grey up to the next grain whose bit is set, nor in that grain
pub passed_grain : (blocks grains : List Bool) (n first from to grain : ℕ) → IsTallied blocks grains n
    → next_set_below grains from to ≡ Some grain
    → next_set_below blocks (words_of_grain * grain) (words_of_grain * grain + words_of_grain) ≡ None
    → ((word : ℕ) → words_of_grain * first ≤ word → word < words_of_grain * from → bit blocks word ≡ false)
    → (word : ℕ) → words_of_grain * first ≤ word → word < words_of_grain * (grain + 1) → bit blocks word ≡ false
passed_grain blocks grains n first from to grain tally is_some none passed word above below =
    let lowest = found_bit grains from to grain is_some in
    elim (cases_lt word (words_of_grain * from)) [
      | inl before ↦ passed word above before
      | inr after ↦ elim (cases_lt word (words_of_grain * grain)) [
        | inl between ↦ clear_grain blocks grains n word tally (lowest.lower (word / words_of_grain) (omega arith) (omega arith))
        | inr there ↦ none_below blocks (words_of_grain * grain) (words_of_grain * grain + words_of_grain) word none there (omega arith)
      ]
    ]

pub no_more_blocks : (blocks grains : List Bool) (n first from to : ℕ) → IsTallied blocks grains n → to ≡ length grains
    → next_set_below grains from to ≡ None
    → ((word : ℕ) → words_of_grain * first ≤ word → word < words_of_grain * from → bit blocks word ≡ false)
    → (word : ℕ) → words_of_grain * first ≤ word → bit blocks word ≡ false
no_more_blocks blocks grains n first from to tally all none passed word above =
    elim (cases_lt word (words_of_grain * from)) [
      | inl before ↦ passed word above before
      | inr after ↦ elim (cases_lt word (length blocks)) [
        | inl within ↦
            clear_grain blocks grains n word tally
            (none_below grains from to (word / words_of_grain) none (omega arith) (omega (arith, tally.size, all, within)))
        | inr past ↦ past_the_table blocks word past
      ]
    ]
