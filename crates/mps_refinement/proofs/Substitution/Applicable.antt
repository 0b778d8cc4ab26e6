-- A transform can be applied to a heap that is parked: to each automatic pool by its own format, and to the slots of all tables.
use Rattle.std.proofs.Common.{◌≡◌, ◌∙◌, ℕ, zero, suc, ◌+◌, ◌%◌, ◌<◌, ◌≤◌, Bool, true, false, refl, sym, ap, subst, List, [], ◌∷◌, ◌++◌, length, map, Contains, Option, Some, None, IsSome, inl, inr, arith}
use Rattle.std.proofs.lemmas.Bool.{cases_lt}
use Rattle.std.proofs.lemmas.List.{get_or_default, length-map}
use Rattle.std.proofs.lemmas.Option.{none-some, same_Some, slice_get-map}
use Rattle.std.specs.Prelude.{IsTrue, is_some, option_and_then, option_map, slice_get, slice_index}
use Rattle.std.specs.List.{All, AllByRecursion}
use Rattle.mps_base.specs.Address.{Address, Id, address_of_grain, address_of_word, bytes_of_word, grain_of, word_of}
use Rattle.mps_base.specs.Run.{Run, IsAscending, end_of}
use Rattle.mps_base.specs.Segment.{Segment, end_of_segment, grains_of_segment, segment_over}
use Rattle.mps_base.proofs.Runs.{contains_first, contains_later}
use Rattle.mps_extents.specs.Extents.{AreWhole}
use Rattle.mps_format.specs.Layout.{Layout}
use Rattle.mps_format.specs.Pools.{format_of_pool, is_copying_pool, policy_of_pool}
use Rattle.mps_format.specs.declared.pool.Policy.{Policy}
use Rattle.mps_format.specs.declared.pool.Pool.{Pool}
use Rattle.mps_format.specs.declared.pool.Pool.TheVariants as pool
use Rattle.mps_model.specs.Checked.{head_of_body}
use Rattle.mps_model.specs.Graph.{HeadCell, entry_at, is_automatic, size_of}
use Rattle.mps_model.specs.World.{TransformPair, World, extents_of, is_parked, is_running, pairs_in, reserved_extents}
use Rattle.mps_model.specs.WellFormed.{IsWellFormed}
use Rattle.mps_root.specs.State.{kept}
use Rattle.mps_trace_laws.proofs.Image.BlockRuns.{IsExtent, contained_in_order, extent_there, run_of_object}
use Rattle.mps_trace_laws.proofs.Reclaim.Around.{contains_left}
use Rattle.mps_trace_laws.proofs.Image.Shaped.{are_shaped_objects}
use Rattle.mps_trace_laws.proofs.Reclaim.SegmentBounds.{segment_cases}
use Rattle.mps_trace_laws.proofs.Summaries.Moves.{has_summary}
use Rattle.mps_trace_laws.specs.Image.AtRest.{StandsAtRest}
use Rattle.mps_trace_laws.specs.Image.Image.{AreShaped, IsAddress}
use Rattle.mps_trace_laws.specs.Image.Memory.{pool_layout, words_of_arena}
use Rattle.mps_seg.specs.Collecting.{summary_at}
use Rattle.mps_xform.proofs.Walked.{apart_segments, bounds, over_in}
use Rattle.mps_xform.specs.Applying.{AreOfFormat, AreSegmentsApart, CanApply}
use Rattle.mps_xform.specs.Slots.{AreListedOnce}
use Rattle.mps_xform.specs.Summed.{AreBlocksSummed, IsRunSummed}
use Rattle.mps_xform.specs.declared.transforms.Pair.{Pair}
use Rattle.mps_heap_spec.specs.State.{HeapState}
use Rattle.mps_heap_spec.specs.Transforming.{CanTransform}
use Rattle.mps_refinement.specs.Numbering.{numbers_from}
use Rattle.mps_refinement.specs.StandsFor.{AreParts, CollectorState, IsInTime, Past, Rests, Time, rests, runs}
use Rattle.mps_refinement.specs.Transforms.{ArePairs}
use Rattle.mps_refinement.proofs.Lookups.Found.{some_there}
use Rattle.mps_refinement.proofs.Parts.LaidSegments.{are_held, are_housed, blocks_in_order}
use Rattle.mps_refinement.proofs.Substitution.AppliedPools.{HaveSummaries}
use Rattle.mps_refinement.proofs.Substitution.SubstitutedObjects.{automatic_format, manual_format}
use Rattle.mps_refinement.proofs.Worlds.InSteps.{running_unparked}
use Rattle.mps_refinement.proofs.Worlds.Known.{IsKnown}
use Rattle.std.proofs.lemmas.Bool.{false≢true}

-- ---- a parked arena is at rest

pub parked_rests : (t : Time) (s : CollectorState) (w : World) → IsWellFormed w → is_parked w ≡ true → IsInTime t s w → Rests t s w
parked_rests t s w formed parked (rests rest) = rest
parked_rests t s w formed parked (runs x r) =
    let running : is_running w ≡ true =
    ap (λ (v : World). is_running v) (sym r.world) ∙ ap is_some r.invariant.runs in
    absurd (false≢true (sym (running_unparked w formed running) ∙ parked))

-- ---- segments

apart_from : (low high : ℕ) (ts : List Segment) (at : Address)
    → AllByRecursion (λ (t : Segment). address_of_grain (grain_of t.base) ≡ t.base) ts → IsAscending low high (map grains_of_segment ts)
    → at ≤ address_of_grain low → AreSegmentsApart at ts
apart_from low high [] at aligned ascending from = tt
apart_from low high (t ∷ ts) at aligned ascending from =
    let base = aligned.0 in
    let first = ascending.0 in (
      omega (arith, base, first, from),
      omega (arith, base),
      ascending.1,
      apart_from (end_of (grains_of_segment t)) high ts (end_of_segment t) aligned.1 ascending.2 (omega (arith, base)),
    )

at_most : (low high : ℕ) (rs : List Run) → IsAscending low high rs → low ≤ high
at_most low high [] ascending = ascending
at_most low high (r ∷ rs) ascending =
    let rest = at_most (end_of r) high rs ascending.2 in omega (arith, ascending.0, ascending.1, rest)

ends_in : (low high : ℕ) (ts : List Segment) (t : Segment) → IsAscending low high (map grains_of_segment ts) → Contains ts t
    → grain_of t.base + t.grains ≤ high
ends_in low high [] t ascending (k, within, is) = absurd (omega (arith, within))
ends_in low high (s ∷ ts) t ascending there =
    elim (segment_cases ts t s there) [
      | inl same ↦
          subst (λ (x : Segment). grain_of x.base + x.grains ≤ high) same
          (at_most (end_of (grains_of_segment s)) high (map grains_of_segment ts) ascending.2)
      | inr later ↦ ends_in (end_of (grains_of_segment s)) high ts t ascending.2 later
    ]

-- each run is whole, and so are all
all_whole : (low high : ℕ) (rs : List Run)
    → ((r : Run) → Contains rs r → (low ≤ r.from → r.from < high → end_of r ≤ high) × (r.from < low → end_of r ≤ low))
    → AreWhole low high rs
all_whole low high [] each = tt
all_whole low high (r ∷ rs) each =
    (each r (contains_first rs r), all_whole low high rs (λ q there. each q (contains_later rs q r there)))

module _ {F : Type 0} (layout : F → Layout) (past : Past) (h : HeapState F) (w : World) (parts : AreParts layout past h w)
    (known : IsKnown past.time w) where
  pub segments_apart : AreSegmentsApart 0 h.segs.segments
  segments_apart =
      let held = are_held layout past h w parts known.laid in
      apart_from 1 (h.segs.grains + 1) h.segs.segments 0 held.aligned held.ascending (omega arith)

  pub have_summaries : HaveSummaries h.segs
  have_summaries word t over =
      has_summary h.segs (are_held layout past h w parts known.laid) parts.summed.sized (address_of_word word) t (omega arith) over

  long : length h.segs.words ≡ words_of_arena h.segs.grains
  long = parts.image.words.long

  inside_arena : (t : Segment) → Contains h.segs.segments t → word_of (end_of_segment t) ≤ length h.segs.words
  inside_arena t there =
      let held = are_held layout past h w parts known.laid in
      let ends = ends_in 1 (h.segs.grains + 1) h.segs.segments t held.ascending there in
      let b = bounds 0 h.segs.segments t segments_apart there in
      let words = long in
      let aligned = base_is h.segs.segments t held.aligned there in
      omega (arith, ends, words, aligned)
    where
      base_is : (ts : List Segment) (t : Segment) → AllByRecursion (λ (u : Segment). address_of_grain (grain_of u.base) ≡ u.base) ts
          → Contains ts t → address_of_grain (grain_of t.base) ≡ t.base
      base_is [] t aligned (k, within, is) = absurd (omega (arith, within))
      base_is (s ∷ ts) t aligned there =
          elim (segment_cases ts t s there) [
            | inl same ↦ subst (λ (x : Segment). address_of_grain (grain_of x.base) ≡ x.base) same aligned.0
            | inr later ↦ base_is ts t aligned.1 later
          ]

  -- a block is that of a live object
  of_object : (r : Run) → Contains h.segs.blocks r → IsExtent w.graph.objects w.addresses r
  of_object r there =
      run_of_object w.graph.objects w.addresses r (subst (λ (rs : List Run). Contains rs r) parts.image.runs.blocks there)

  whole_in_segment : (t : Segment) → Contains h.segs.segments t → AreWhole (word_of t.base) (word_of (end_of_segment t)) h.segs.blocks
  whole_in_segment t there =
      all_whole (word_of t.base) (word_of (end_of_segment t)) h.segs.blocks (λ r listed.
      let x = of_object r listed in
      let home = are_housed layout past h w parts known.laid x.id x.at x.object x.address x.there in
      let from : r.from ≡ word_of x.at = ap (λ (q : Run). q.from) x.is in
      let count : r.count ≡ size_of x.object = ap (λ (q : Run). q.count) x.is in
      let above = home.above in
      let below_it = home.below in
      let some = parts.image.placed.positive x.id x.at x.object x.address x.there in
      let own = bounds 0 h.segs.segments home.segment segments_apart home.held in
      let its = bounds 0 h.segs.segments t segments_apart there in
      elim (apart_segments 0 h.segs.segments home.segment t segments_apart home.held there) [
        | inl same ↦
            let base = ap (λ (u : Segment). u.base) same in
            let ends = ap (λ (u : Segment). end_of_segment u) same in (
              λ low high. (let e = ap word_of ends in omega (arith, e, from, count, below_it)),
              λ before. absurd (omega (arith, before, base, from, above)),
            )
        | inr other ↦
            elim other [
              | inl earlier ↦ (
                λ low high. absurd (omega (arith, low, earlier, from, below_it, some)),
                λ before. omega (arith, earlier, from, count, below_it),
              )
              | inr later ↦ (
                λ low high. absurd (omega (arith, high, later, from, above)),
                λ before. absurd (omega (arith, before, later, from, above)),
              )
            ]
      ])

  -- ---- heads

  module _ (st : StandsAtRest h.segs w) where
    shaped : AreShaped w.graph.objects (pool_layout w)
    shaped = are_shaped_objects w parts.lawful known.formed.objects

    headed : (number : ℕ) (format : F) → option_and_then format_of_pool (slice_get h.pools number) ≡ Some format
        → AreOfFormat (layout format) h.segs number
    headed number format has t r there of_pool listed above below_it =
        let P : Run → Type 0 = λ q.
        IsTrue ((layout format).is_valid (slice_index h.segs.words q.from))
        × ((layout format).size (slice_index h.segs.words q.from) ≡ q.count)
        in
        subst P (sym x.is) (of_kind (is_automatic x.object) refl)
      where
        x : IsExtent w.graph.objects w.addresses r
        x = of_object r listed

        from : r.from ≡ word_of x.at
        from = ap (λ (q : Run). q.from) x.is

        over : segment_over h.segs.segments (address_of_word (word_of x.at + 0)) ≡ Some t
        over =
            let b = bounds 0 h.segs.segments t segments_apart there in
            let aligned = b.aligned in
            over_in 0 h.segs.segments t (address_of_word (word_of x.at + 0)) segments_apart there (omega (arith, above, aligned, from))
            (omega (arith, below_it, aligned, from))

        pool_is : (x.object).pool ≡ number
        pool_is =
            let some = st.placed.positive x.id x.at x.object x.address x.there in
            same_Some (x.object).pool t.pool
            (sym (st.placed.home x.id 0 x.object (word_of x.at + 0)
            (record { at = x.at; address = x.address; object = x.there; within = some; is = refl }))
            ∙ ap (option_map (λ (u : Segment). u.pool)) over)
            ∙ of_pool

        its : option_and_then format_of_pool (slice_get h.pools (x.object).pool) ≡ Some format
        its = ap (λ (n : ℕ). option_and_then format_of_pool (slice_get h.pools n)) pool_is ∙ has

        of_kind : (b : Bool) → is_automatic x.object ≡ b
            → IsTrue ((layout format).is_valid (slice_index h.segs.words (word_of x.at)))
            × ((layout format).size (slice_index h.segs.words (word_of x.at)) ≡ size_of x.object)
        of_kind false manual =
            absurd (none-some format (sym (manual_format layout past h w parts known x.id x.at x.object x.address x.there manual) ∙ its))
        of_kind true automatic =
            let own = automatic_format layout past h w parts known x.id x.at x.object x.address x.there automatic in
            let same : own.format ≡ format = same_Some own.format format (sym own.has ∙ its) in
            let layout_is : pool_layout w (x.object).pool ≡ layout format = own.layout_is ∙ ap layout same in
            let some = st.placed.positive x.id x.at x.object x.address x.there in
            let z : word_of x.at ≡ word_of x.at + 0 = omega arith in
            let head : slice_index h.segs.words (word_of x.at) ≡ head_of_body (x.object).body =
            ap (slice_index h.segs.words) z
            ∙ st.words.cells x.id 0 x.object (word_of x.at + 0) HeadCell refl
            (record { at = x.at; address = x.address; object = x.there; within = some; is = refl })
            (shaped.first x.id x.object x.there automatic)
            in
            let P : ℕ → Type 0 = λ v. IsTrue ((layout format).is_valid v) × ((layout format).size v ≡ size_of x.object) in
            let Q : Layout → Type 0 = λ f.
            IsTrue (f.is_valid (head_of_body (x.object).body)) × (f.size (head_of_body (x.object).body) ≡ size_of x.object) in
            subst P (sym head)
            (subst Q layout_is (shaped.valid x.id x.object x.there automatic, shaped.whole x.id x.object x.there automatic))

    pub can_apply : (number : ℕ) (format : F) → option_and_then format_of_pool (slice_get h.pools number) ≡ Some format
        → CanApply (layout format) h.segs number
    can_apply number format has = record {
      blocks =
          subst (λ (n : ℕ). IsAscending 0 n h.segs.blocks) (sym long) (blocks_in_order layout past h w parts known.laid);
      segments = segments_apart;
      in_arena = inside_arena;
      whole = whole_in_segment;
      heads = headed number format has;
    }

    -- ---- summaries

    policy_of_format : (number : ℕ) (format : F) → option_and_then format_of_pool (slice_get h.pools number) ≡ Some format
        → (policy : Policy F) × (slice_get (map policy_of_pool h.pools) number ≡ Some (Some policy)) × (policy.format ≡ format)
    policy_of_format number format has = of_pool (slice_get h.pools number) refl has
      where
        of_pool : (o : Option (Pool F)) → slice_get h.pools number ≡ o → option_and_then format_of_pool o ≡ Some format
            → (policy : Policy F) × (slice_get (map policy_of_pool h.pools) number ≡ Some (Some policy)) × (policy.format ≡ format)
        of_pool None is own = absurd (none-some format own)
        of_pool (Some (pool.Automatic kind own_format)) is own = (
          record { format = own_format; moves = is_copying_pool (pool.Automatic kind own_format) },
          slice_get-map policy_of_pool h.pools number ∙ ap (option_map policy_of_pool) is,
          same_Some own_format format own,
        )
        of_pool (Some (pool.OneSize words)) is own = absurd (none-some format own)
        of_pool (Some pool.AnySize) is own = absurd (none-some format own)

    covered_too : (r : Run) → Contains h.segs.blocks r → Contains h.segs.covered r
    covered_too r listed =
        let x = of_object r listed in
        let extents = extents_of w.graph.objects w.addresses in
        let reserved = reserved_extents w.graph.points w.point_memories in
        subst (λ (rs : List Run). Contains rs r) (sym st.runs.covered)
        (contained_in_order (extents ++ reserved) r
        (contains_left extents reserved r
        (subst (Contains extents) (sym x.is) (extent_there w.graph.objects w.addresses x.id x.at x.object x.address x.there))))

    pub blocks_summed : (number : ℕ) (format : F) → option_and_then format_of_pool (slice_get h.pools number) ≡ Some format
        → AreBlocksSummed (layout format) h.segs number
    blocks_summed number format has t r there of_pool listed above below_it =
        let p = policy_of_format number format has in
        let aligned = (bounds 0 h.segs.segments t segments_apart there).aligned in
        let over = over_in 0 h.segs.segments t (address_of_word r.from) segments_apart there (omega (arith, above, aligned))
        (omega (arith, below_it, aligned)) in
        subst (λ (x : F). IsRunSummed (layout x) h.segs.words (summary_at h.segs t.base) r) p.2
        (parts.summed.each r t p.0 (covered_too r listed) over (ap (slice_get (map policy_of_pool h.pools)) of_pool ∙ p.1))

-- ---- pairs

aligned_pairs : (number : ℕ → ℕ) (moves : Id → Bool) (addresses : List (Option Address)) (live : List Bool)
    → ((id : Id) (at : Address) → entry_at addresses id ≡ Some at → IsAddress at) → (qs : List Pair) (ps : List TransformPair)
    → ArePairs number moves addresses live qs ps → All (λ p. p.new.0 % bytes_of_word ≡ 0) qs
aligned_pairs number moves addresses live address [] ps are k d low = absurd (omega (arith, low))
aligned_pairs number moves addresses live address (q ∷ qs) [] are k d low = absurd are
aligned_pairs number moves addresses live address (q ∷ qs) (p ∷ ps) are zero d low = (address p.new q.new.0 are.0.new).aligned
aligned_pairs number moves addresses live address (q ∷ qs) (p ∷ ps) are (suc k) d low =
    aligned_pairs number moves addresses live address qs ps are.1 k d (omega (arith, low))

-- ---- the order of tables

module _ {B : Type 0} where
  numbers_at_least : (first : ℕ) (entries : List (Option B)) (k : ℕ) → k < length (numbers_from first entries)
      → first ≤ slice_index (numbers_from first entries) k
  numbers_at_least first [] k low = absurd (omega (arith, low))
  numbers_at_least first (None ∷ entries) k low = let rest = numbers_at_least (first + 1) entries k low in omega (arith, rest)
  numbers_at_least first (Some b ∷ entries) zero low = omega arith
  numbers_at_least first (Some b ∷ entries) (suc k) low =
      let rest = numbers_at_least (first + 1) entries k (omega (arith, low)) in omega (arith, rest)

  numbers_ascend : (first : ℕ) (entries : List (Option B)) (i j : ℕ) → i < j → j < length (numbers_from first entries)
      → slice_index (numbers_from first entries) i < slice_index (numbers_from first entries) j
  numbers_ascend first [] i j less low = absurd (omega (arith, low))
  numbers_ascend first (None ∷ entries) i j less low = numbers_ascend (first + 1) entries i j less low
  numbers_ascend first (Some b ∷ entries) i zero less low = absurd (omega (arith, less))
  numbers_ascend first (Some b ∷ entries) zero (suc j) less low =
      let rest = numbers_at_least (first + 1) entries j (omega (arith, low)) in omega (arith, rest)
  numbers_ascend first (Some b ∷ entries) (suc i) (suc j) less low =
      numbers_ascend (first + 1) entries i j (omega (arith, less)) (omega (arith, low))

  number_there : (first : ℕ) (entries : List (Option B)) (n : ℕ) (b : B) → entry_at entries n ≡ Some b
      → (k : ℕ) × (k < length (numbers_from first entries)) × (slice_index (numbers_from first entries) k ≡ first + n)
  number_there first [] n b e = absurd (none-some b e)
  number_there first (None ∷ entries) zero b e = absurd (none-some b e)
  number_there first (None ∷ entries) (suc n) b e =
      let rest = number_there (first + 1) entries n b e in
      let is = rest.2 in (rest.0, rest.1, omega (arith, is))
  number_there first (Some a ∷ entries) zero b e = (0, omega arith, omega arith)
  number_there first (Some a ∷ entries) (suc n) b e =
      let rest = number_there (first + 1) entries n b e in
      let is = rest.2 in
      let low = rest.1 in (suc rest.0, omega (arith, low), omega (arith, is))

mapped_at : (f : ℕ → ℕ) (xs : List ℕ) (k : ℕ) → k < length xs → slice_index (map f xs) k ≡ f (slice_index xs k)
mapped_at f [] k low = absurd (omega (arith, low))
mapped_at f (x ∷ xs) zero low = refl
mapped_at f (x ∷ xs) (suc k) low = mapped_at f xs k (omega (arith, low))

all_of_row : (P : ℕ → Type 0) (xs : List ℕ) (k : ℕ) → AllByRecursion P xs → k < length xs → P (slice_index xs k)
all_of_row P [] k all low = absurd (omega (arith, low))
all_of_row P (x ∷ xs) zero all low = all.0
all_of_row P (x ∷ xs) (suc k) all low = all_of_row P xs k all.1 (omega (arith, low))

module _ {F : Type 0} (layout : F → Layout) (past : Past) (h : HeapState F) (w : World) (parts : AreParts layout past h w) where
  abbrev number : ℕ → ℕ
  number = past.table_number

  abbrev numbers : List ℕ
  numbers = numbers_from 0 w.graph.tables

  same_length : length h.roots.order ≡ length numbers
  same_length = sym (length-map h.roots.order number) ∙ ap length parts.ordered.numbers

  number_at : (k : ℕ) → k < length h.roots.order → number (slice_index h.roots.order k) ≡ slice_index numbers k
  number_at k low = sym (mapped_at number h.roots.order k low) ∙ ap (λ (ns : List ℕ). slice_index ns k) parts.ordered.numbers

  pub listed_once : AreListedOnce h.roots
  listed_once = record {
    listed = λ key some.
        let a = some_there (kept h.roots.tables key) some in
        let b = parts.tables.there key a.0 a.1 in
        let k = number_there 0 w.graph.tables (number key) b.0 b.1 in
        let low : k.0 < length h.roots.order = (let small = k.1 in let long = same_length in omega (arith, small, long)) in
        let same : number (slice_index h.roots.order k.0) ≡ number key =
        number_at k.0 low ∙ (let is = k.2 in let z : slice_index numbers k.0 ≡ number key = omega (arith, is) in z) in
        let there = some_there (kept h.roots.tables (slice_index h.roots.order k.0))
        (all_of_row (λ j. IsSome (kept h.roots.tables j)) h.roots.order k.0 parts.ordered.kept_there low) in (
          k.0,
          low,
          get_or_default h.roots.order k.0 key 0 low ∙ parts.tables.apart (slice_index h.roots.order k.0) key there.0 a.0 there.1 a.1 same,
        );
    once = λ i j low low' same.
        let e : slice_index numbers i ≡ slice_index numbers j = sym (number_at i low) ∙ ap number same ∙ number_at j low' in
        let long = same_length in
        elim (cases_lt i j) [
          | inl before ↦
              let less = numbers_ascend 0 w.graph.tables i j before (omega (arith, low', long)) in absurd (omega (arith, less, e))
          | inr after ↦
              elim (cases_lt j i) [
                | inl past_it ↦
                    let less = numbers_ascend 0 w.graph.tables j i past_it (omega (arith, low, long)) in absurd (omega (arith, less, e))
                | inr equal ↦ omega (arith, after, equal)
              ]
        ];
  }

-- ---- all of it

pub can_transform : {F : Type 0} (layout : F → Layout) (past : Past) (h : HeapState F) (w : World) (parts : AreParts layout past h w)
    → IsKnown past.time w → StandsAtRest h.segs w → CanTransform layout h
can_transform layout past h w parts known st = record {
  pools = can_apply layout past h w parts known st;
  summed = λ number format low has. blocks_summed layout past h w parts known st number format has;
  aligned = aligned_pairs past.transform_number (Rattle.mps_model.specs.World.is_copying_object w) w.addresses h.beside.transforms.live
      st.placed.address h.beside.transforms.pairs (pairs_in w.state) parts.transforms.pairs_are;
  slots = listed_once layout past h w parts;
}
