-- A transform that is applied to the pools of a heap, one after the other: what each word is then, and that no summary loses a zone and
-- each new address is noted.
use Rattle.std.proofs.Common.{◌≡◌, ◌≢◌, ◌∙◌, ℕ, zero, suc, ◌-◌, ◌==◌, ◌<◌, ◌≤◌, Bool, true, false, refl, sym, ap, subst, List, length, Option, Some, None, inl, inr, arith}
use Rattle.std.proofs.lemmas.Bool.{cases_lt, eq-eqb, ne_eqb}
use Rattle.std.proofs.lemmas.Option.{none-some, same_Some}
use Rattle.std.specs.Prelude.{Contains, IsTrue, if◌then◌else◌, option_and_then, option_map, slice_get, slice_index, slice_set}
use Rattle.std.specs.Option.{option_map_or}
use Rattle.mps_base.specs.Address.{Address, Word, address_of_word, grain_of, word_of, zone_of}
use Rattle.mps_base.specs.Run.{Run, IsAscending}
use Rattle.mps_base.specs.Segment.{Segment, end_of_segment, segment_over}
use Rattle.mps_base.specs.Zones.{zones_meet, zone_bit_of}
use Rattle.mps_format.specs.Layout.{Layout}
use Rattle.mps_format.specs.Pools.{format_of_pool}
use Rattle.mps_format.specs.declared.pool.Pool.{Pool}
use Rattle.mps_extents.specs.Extents.{AreWhole, run_over}
use Rattle.mps_seg.specs.Collecting.{noting_in}
use Rattle.mps_seg.specs.Segs.{SegsState}
use Rattle.mps_xform.proofs.Noting.{KeepsRest, kept_twice, pass_keeps, replace_keeps, rest_kept, same_blocks, same_segments, zone_noted}
use Rattle.mps_trace_laws.specs.Image.Memory.{pool_over_word}
use Rattle.mps_xform.proofs.Walked.{bounds, over_in}
use Rattle.mps_xform.proofs.Applied.{none_elsewhere, none_of_numbers, of_reference}
use Rattle.mps_xform.proofs.Done.{word_is}
use Rattle.mps_xform.specs.Applying.{AreSegmentsApart, CanApply, after_apply, after_apply_below, after_replace, is_in_pool, is_reference_word, replacement}
use Rattle.mps_heap_spec.specs.Transforming.{with_pool_applied, with_pools_applied}

-- ---- each new address is noted

-- each segment has a summary
abbrev pub HaveSummaries : SegsState → Type 0
HaveSummaries s = (word : Word) (t : Segment) → segment_over s.segments (address_of_word word) ≡ Some t
    → grain_of t.base < length s.summaries

still_have : {s t : SegsState} → KeepsRest s t → HaveSummaries s → HaveSummaries t
still_have {s} {t} kept have word u over =
    let low = have word u (ap (λ (ts : List Segment). segment_over ts (address_of_word word)) (sym (same_segments kept)) ∙ over) in
    omega (arith, low, kept.summed)

module _ (f : Layout) (word value : ℕ) (s : SegsState) (have : HaveSummaries s) where
  abbrev written : Address → SegsState
  written at = record s { words = slice_set s.words word (f.retarget value at) }

  replace_notes : (at : Address) (t : Segment) → segment_over s.segments (address_of_word word) ≡ Some t
      → zones_meet (zone_bit_of at) (slice_index (after_replace f word value (Some at) s).summaries (grain_of t.base)) ≡ true
  replace_notes at t is =
      let P : Option Segment → Type 0 = λ o.
      zones_meet (zone_bit_of at)
      (slice_index (noting_in (written at) (option_map (λ (u : Segment). grain_of u.base) o) at).summaries (grain_of t.base)) ≡ true
      in
      subst P (sym is) (zone_noted s.summaries (grain_of t.base) at (have word t is))

-- ---- one pool

module _ (f : Layout) (to : Address → Option Address) (s : SegsState) (number : ℕ) (have : HaveSummaries s) where
  abbrev pass : ℕ → SegsState
  pass n = after_apply_below f to s number n

  pass_notes : (n word : ℕ) → word < n → (at : Address) → replacement f to s number word ≡ Some at → (t : Segment)
      → segment_over s.segments (address_of_word word) ≡ Some t
      → zones_meet (zone_bit_of at) (slice_index (after_apply_below f to s number n).summaries (grain_of t.base)) ≡ true
  pass_notes zero word low at is t over = absurd (omega (arith, low))
  pass_notes (suc n) word low at is t over =
      let before = pass_keeps f to s number n in
      let value = slice_index s.words n in
      elim (cases_lt word n) [
        | inl earlier ↦
            (replace_keeps f n value (pass n) (replacement f to s number n)).zones (grain_of t.base) (zone_of at)
            (pass_notes n word earlier at is t over)
        | inr last ↦
            let same : word ≡ n = omega (arith, low, last) in
            let P : Option Address → Type 0 = λ o.
            zones_meet (zone_bit_of at) (slice_index (after_replace f n value o (pass n)).summaries (grain_of t.base)) ≡ true
            in
            subst P (sym (ap (replacement f to s number) (sym same) ∙ is))
            (replace_notes f n value (pass n) (still_have before have) at t
            (ap (λ (ts : List Segment). segment_over ts (address_of_word n)) (same_segments before)
            ∙ ap (λ (k : ℕ). segment_over s.segments (address_of_word k)) (sym same) ∙ over))
      ]

-- ---- the pools, one after the other

in_pool_is : (number other : ℕ) (o : Option Segment) → option_map (λ (t : Segment). t.pool) o ≡ Some number
    → option_map_or (λ (t : Segment). t.pool == other) o false ≡ (number == other)
in_pool_is number other None is = absurd (none-some number is)
in_pool_is number other (Some t) is = ap (λ (n : ℕ). n == other) (same_Some t.pool number is)

module _ {F : Type 0} (layout : F → Layout) (to : Address → Option Address) (pools : List (Pool F)) (s : SegsState)
    (have : HaveSummaries s) where
  abbrev pub below : ℕ → SegsState
  below n = with_pools_applied layout to pools n s

  abbrev pub HasFormat : (number : ℕ) → F → Type 0
  HasFormat number format = option_and_then format_of_pool (slice_get pools number) ≡ Some format

  abbrev format_at : ℕ → Option F
  format_at number = option_and_then format_of_pool (slice_get pools number)

  pool_keeps : (number : ℕ) (o : Option F) (t : SegsState) → KeepsRest t (with_pool_applied layout to o number t)
  pool_keeps number None t = rest_kept t
  pool_keeps number (Some format) t = pass_keeps (layout format) to t number (length t.words)

  pub below_keeps : (n : ℕ) → KeepsRest s (with_pools_applied layout to pools n s)
  below_keeps zero = rest_kept s
  below_keeps (suc n) = kept_twice (below_keeps n) (pool_keeps n (format_at n) (below n))

  step_keeps : (n : ℕ) → KeepsRest (below n) (below (suc n))
  step_keeps n = pool_keeps n (format_at n) (below n)

  module _ (can : (number : ℕ) (format : F) → HasFormat number format → CanApply (layout format) s number) where
    -- what could be applied to a pool can be when its turn comes, if none of its words has changed
    can_at : (n : ℕ) (format : F) → HasFormat n format
        → ((word : ℕ) → pool_over_word s word ≡ Some n → slice_index (below n).words word ≡ slice_index s.words word)
        → CanApply (layout format) (below n) n
    can_at n format has same =
        let could = can n format has in
        let kept = below_keeps n in
        let was : (t : Segment) → Contains (below n).segments t → Contains s.segments t =
        λ t there. subst (λ (ts : List Segment). Contains ts t) (same_segments kept) there in
        let listed_was : (r : Run) → Contains (below n).blocks r → Contains s.blocks r =
        λ r there. subst (λ (rs : List Run). Contains rs r) (same_blocks kept) there in
        record {
          blocks =
              subst (λ (k : ℕ). IsAscending 0 k (below n).blocks) (sym kept.size)
              (subst (λ (rs : List Run). IsAscending 0 (length s.words) rs) (sym (same_blocks kept)) could.blocks);
          segments = subst (λ (ts : List Segment). AreSegmentsApart 0 ts) (sym (same_segments kept)) could.segments;
          in_arena = λ t there. let had = could.in_arena t (was t there) in let size = kept.size in omega (arith, had, size);
          whole = λ t there.
              subst (λ (rs : List Run). AreWhole (word_of t.base) (word_of (end_of_segment t)) rs) (sym (same_blocks kept))
              (could.whole t (was t there));
          heads = λ t r there of_pool listed above below_it.
              let b = bounds 0 s.segments t could.segments (was t there) in
              let aligned = b.aligned in
              let over = over_in 0 s.segments t (address_of_word r.from) could.segments (was t there) (omega (arith, above, aligned))
              (omega (arith, below_it, aligned)) in
              let P : ℕ → Type 0 = λ head. IsTrue ((layout format).is_valid head) × ((layout format).size head ≡ r.count) in
              subst P (sym (same r.from (ap (option_map (λ (u : Segment). u.pool)) over ∙ ap Some of_pool)))
              (could.heads t r (was t there) of_pool (listed_was r listed) above below_it);
        }

    over_then : (n word : ℕ) → pool_over_word (below n) word ≡ pool_over_word s word
    over_then n word =
        ap (λ (ts : List Segment). option_map (λ (t : Segment). t.pool) (segment_over ts (address_of_word word)))
        (same_segments (below_keeps n))

    -- the pass over another pool leaves a word
    step_of : (n : ℕ)
        → ((word : ℕ) → pool_over_word s word ≡ Some n → slice_index (below n).words word ≡ slice_index s.words word)
        → (number word : ℕ) → number ≢ n → pool_over_word s word ≡ Some number
        → slice_index (below (suc n)).words word ≡ slice_index (below n).words word
    step_of n same number word other over = of_pool (format_at n) refl
      where
        outside : is_in_pool (below n) n word ≡ false
        outside =
            in_pool_is number n (segment_over (below n).segments (address_of_word word)) (over_then n word ∙ over) ∙ ne_eqb number n other

        of_pool : (o : Option F) → format_at n ≡ o
            → slice_index (with_pool_applied layout to o n (below n)).words word ≡ slice_index (below n).words word
        of_pool None is = refl
        of_pool (Some own) is =
            let f = layout own in
            let value = slice_index (below n).words word in
            word_is f to (below n) n (can_at n own is same) word
            ∙ ap (λ (o : Option Address). option_map_or (λ at. f.retarget value at) o value) (none_elsewhere f to (below n) n word outside)

    -- before its pool's turn a word is as it was
    untouched : (n number word : ℕ) → n ≤ number → pool_over_word s word ≡ Some number
        → slice_index (below n).words word ≡ slice_index s.words word
    untouched zero number word low over = refl
    untouched (suc n) number word low over =
        step_of n (λ w its. untouched n n w (omega arith) its) number word (λ e. omega (arith, low, e)) over
        ∙ untouched n number word (omega (arith, low)) over

    step_other : (n number word : ℕ) → number ≢ n → pool_over_word s word ≡ Some number
        → slice_index (below (suc n)).words word ≡ slice_index (below n).words word
    step_other n number word other over = step_of n (λ w its. untouched n n w (omega arith) its) number word other over

    can_still : (n : ℕ) (format : F) → HasFormat n format → CanApply (layout format) (below n) n
    can_still n format has = can_at n format has (λ w its. untouched n n w (omega arith) its)

    -- and after it as that left it
    left : (n number word : ℕ) → number < n → pool_over_word s word ≡ Some number
        → slice_index (below n).words word ≡ slice_index (below (suc number)).words word
    left zero number word low over = absurd (omega (arith, low))
    left (suc n) number word low over =
        elim (cases_lt number n) [
          | inl earlier ↦ step_other n number word (λ e. omega (arith, earlier, e)) over ∙ left n number word earlier over
          | inr last ↦
              let same : n ≡ number = omega (arith, low, last) in ap (λ (k : ℕ). slice_index (below (suc k)).words word) same
        ]

    -- a word of a manual pool stays
    pub manual_word : (n number word : ℕ) → option_and_then format_of_pool (slice_get pools number) ≡ None
        → pool_over_word s word ≡ Some number → slice_index (below n).words word ≡ slice_index s.words word
    manual_word n number word manual over =
        elim (cases_lt number n) [
          | inl low ↦ left n number word low over ∙ of_pool (format_at number) manual ∙ untouched number number word (omega arith) over
          | inr high ↦ untouched n number word high over
        ]
      where
        of_pool : (o : Option F) → o ≡ None
            → slice_index (with_pool_applied layout to o number (below number)).words word ≡ slice_index (below number).words word
        of_pool None is = refl
        of_pool (Some own) is = absurd (none-some own (sym is))

    -- ---- a word of an automatic pool

    module _ (n number word from : ℕ) (format : F) (has : HasFormat number format) (low : number < n)
        (over : pool_over_word s word ≡ Some number) (over_first : pool_over_word s from ≡ Some number)
        (block : run_over s.blocks word ≡ Some from) where
      abbrev f : Layout
      f = layout format

      abbrev value : ℕ
      value = slice_index s.words word

      -- the new address that it is given, where it is a reference
      abbrev pub new_target : Option Address
      new_target = if (layout format).is_reference (slice_index s.words from) (word - from)
          then to ((layout format).target (slice_index s.words word)) else None

      abbrev t : SegsState
      t = below number

      own_step : below (suc number) ≡ after_apply f to t number
      own_step = ap (λ (o : Option F). with_pool_applied layout to o number t) has

      inside : is_in_pool t number word ≡ true
      inside =
          in_pool_is number number (segment_over t.segments (address_of_word word)) (over_then number word ∙ over)
          ∙ eq-eqb number number refl

      value_then : slice_index t.words word ≡ slice_index s.words word
      value_then = untouched number number word (omega arith) over

      reference_then : is_reference_word f t word ≡ f.is_reference (slice_index s.words from) (word - from)
      reference_then =
          ap (λ (o : Option ℕ). option_map_or (λ i. f.is_reference (slice_index t.words i) (word - i)) o false)
          (ap (λ (rs : List Run). run_over rs word) (same_blocks (below_keeps number)) ∙ block)
          ∙ ap (λ head. f.is_reference head (word - from)) (untouched number number from (omega arith) over_first)

      replaced_then : replacement f to t number word ≡ new_target
      replaced_then = of_kind (f.is_reference (slice_index s.words from) (word - from)) refl
        where
          of_kind : (b : Bool) → f.is_reference (slice_index s.words from) (word - from) ≡ b
              → replacement f to t number word ≡ (if b then to (f.target value) else None)
          of_kind true is =
              of_reference f to t number word inside (reference_then ∙ is) ∙ ap (λ v. to (f.target v)) value_then
          of_kind false is = none_of_numbers f to t number word (reference_then ∙ is)

      -- it is given this, once
      pub automatic_word : slice_index (below n).words word
          ≡ option_map_or (λ at. (layout format).retarget (slice_index s.words word) at) new_target (slice_index s.words word)
      automatic_word =
          left n number word low over
          ∙ ap (λ (x : SegsState). slice_index x.words word) own_step
          ∙ word_is f to t number (can_still number format has) word
          ∙ ap (λ (o : Option Address). option_map_or (λ at. f.retarget (slice_index t.words word) at) o (slice_index t.words word))
          replaced_then
          ∙ ap (λ (v : ℕ). option_map_or (λ at. f.retarget v at) new_target v) value_then

      -- and the summary of its segment has its zone
      pub automatic_noted : word < length s.words → (at : Address) → new_target ≡ Some at → (u : Segment)
          → segment_over s.segments (address_of_word word) ≡ Some u
          → zones_meet (zone_bit_of at) (slice_index (below n).summaries (grain_of u.base)) ≡ true
      automatic_noted within at is u there = from_its_turn n low
        where
          its_turn : zones_meet (zone_bit_of at) (slice_index (below (suc number)).summaries (grain_of u.base)) ≡ true
          its_turn =
              let before = below_keeps number in
              let P : SegsState → Type 0 = λ x. zones_meet (zone_bit_of at) (slice_index x.summaries (grain_of u.base)) ≡ true in
              subst P (sym own_step)
              (pass_notes f to t number (still_have before have) (length t.words) word
              (let size = before.size in omega (arith, within, size))
              at (replaced_then ∙ is) u
              (ap (λ (ts : List Segment). segment_over ts (address_of_word word)) (same_segments before) ∙ there))

          from_its_turn : (m : ℕ) → number < m
              → zones_meet (zone_bit_of at) (slice_index (below m).summaries (grain_of u.base)) ≡ true
          from_its_turn zero below_it = absurd (omega (arith, below_it))
          from_its_turn (suc m) below_it =
              elim (cases_lt number m) [
                | inl earlier ↦ (step_keeps m).zones (grain_of u.base) (zone_of at) (from_its_turn m earlier)
                | inr last ↦
                    let same : m ≡ number = omega (arith, below_it, last) in
                    let P : ℕ → Type 0 = λ k.
                    zones_meet (zone_bit_of at) (slice_index (below (suc k)).summaries (grain_of u.base)) ≡ true
                    in
                    subst P (sym same) its_turn
              ]
