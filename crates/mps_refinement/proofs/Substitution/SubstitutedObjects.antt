-- A transform is applied to the pools of a heap that is parked: its memory then represents the substituted objects, and each word is
-- summed.
use Rattle.std.proofs.Common.{◌≡◌, ◌∙◌, ℕ, ◌+◌, ◌-◌, ◌<◌, Bool, true, false, refl, sym, ap, subst, List, [], ◌∷◌, ◌++◌, length, map, Contains, Option, Some, None, arith}
use Rattle.std.proofs.lemmas.Bool.{false≢true}
use Rattle.std.proofs.lemmas.List.{length-map}
use Rattle.std.proofs.lemmas.Option.{none-some, same_Some, slice_get-map, slice_get_within}
use Rattle.std.specs.Prelude.{IsTrue, option_and_then, option_map, slice_get, slice_index}
use Rattle.std.specs.Option.{option_map_or}
use Rattle.mps_base.specs.Address.{Address, Id, Word, address_of_word, grain_of, word_of, zone_of}
use Rattle.mps_base.specs.Run.{Run}
use Rattle.mps_base.specs.Segment.{Segment, segment_over}
use Rattle.mps_base.specs.Zones.{zones_meet, zone_bit_of}
use Rattle.mps_extents.specs.Extents.{run_over}
use Rattle.mps_extents.proofs.RunOver.{run_over_in}
use Rattle.mps_format.specs.Layout.{IsLawful, Layout}
use Rattle.mps_format.specs.Pools.{format_of_pool, policy_of_pool}
use Rattle.mps_format.specs.declared.pool.Policy.{Policy}
use Rattle.mps_format.specs.declared.pool.Pool.{Pool}
use Rattle.mps_format.specs.declared.pool.Pool.TheVariants as pool
use Rattle.mps_model.specs.Checked.{head_of_body}
use Rattle.mps_model.specs.Graph.{Automatic, Body, Cell, HeadCell, Manual, NumberCell, Object, Reservation, entry_at, is_automatic, is_automatic_body, is_reference_cell, size_of, size_of_body}
use Rattle.mps_model.specs.Transforms.{body_substituted, cell_substituted, object_substituted}
use Rattle.mps_model.specs.World as world
use Rattle.mps_model.specs.World.{TransformPair, World, extent, extents_of, is_automatic_kind, reserved_extents}
use Rattle.mps_seg.specs.Collecting.{summary_at}
use Rattle.mps_seg.specs.Segs.{SegsState}
use Rattle.mps_trace_laws.proofs.Image.BlockRuns.{contained_in_order, extent_there, run_of_object, run_there}
use Rattle.mps_trace_laws.proofs.Image.Shaped.{are_shaped_objects}
use Rattle.mps_trace_laws.specs.Fix.Housed.{LieInOne, rank_of_object}
use Rattle.mps_trace_laws.specs.Image.AtRest.{StandsAtRest}
use Rattle.mps_trace_laws.specs.Image.Image.{AreShaped, IsCellWord, black_cells, no_colours}
use Rattle.mps_trace_laws.specs.Image.Memory.{Lies, LiesReserved, all_cells, memory_in, pool_layout, pool_over_word, setting_at_rest}
use Rattle.mps_trace_laws.specs.Summaries.Summed.{AreWordsSummed}
use Rattle.mps_xform.specs.Summed.{IsRunSummed}
use Rattle.mps_trace_laws.proofs.Reclaim.Around.{contains_left}
use Rattle.mps_laws.proofs.Lookups.{there_is}
use Rattle.mps_xform.proofs.Walked.{bounds, over_in}
use Rattle.mps_xform.specs.Applying.{AreSegmentsApart, CanApply}
use Rattle.mps_heap_spec.specs.State.{HeapState}
use Rattle.mps_refinement.specs.StandsFor.{AreParts, IsPool, Past}
use Rattle.mps_refinement.proofs.Lookups.Found.{mapped_some}
use Rattle.mps_refinement.proofs.Lookups.LiveObjects.{format_there, live_block}
use Rattle.mps_refinement.proofs.Lookups.WordsInObjects.{body_of_kind}
use Rattle.mps_refinement.proofs.Parts.LaidSegments.{are_housed, blocks_in_order}
use Rattle.mps_refinement.proofs.Substitution.AppliedPools.{HaveSummaries, automatic_noted, automatic_word, below, below_keeps, manual_word, new_target}
use Rattle.mps_refinement.proofs.Substitution.CellsAfter.{IsCellAfter, cell_after}
use Rattle.mps_refinement.proofs.Substitution.Replaced.{IsReplaced}
use Rattle.mps_refinement.proofs.Substitution.Rewritten.{AreRewritten, image_rewritten}
use Rattle.mps_refinement.proofs.Worlds.Known.{IsKnown}
use Rattle.mps_model.specs.Transforms.{new_for}

-- ---- objects keep their sizes

same_size : (pairs : List TransformPair) (b : Body) → size_of_body (body_substituted pairs b) ≡ size_of_body b
same_size pairs (Automatic head cells is_weak) = length-map cells (cell_substituted pairs)
same_size pairs (Manual words) = refl

same_extents : (pairs : List TransformPair) (objects : List Object) (addresses : List (Option Address))
    → extents_of (map (object_substituted pairs) objects) addresses ≡ extents_of objects addresses
same_extents pairs [] addresses = refl
same_extents pairs (o ∷ os) [] = refl
same_extents pairs (o ∷ os) (None ∷ addresses) = same_extents pairs os addresses
same_extents pairs (o ∷ os) (Some at ∷ addresses) =
    ap (λ (n : ℕ). extent at n ∷ extents_of (map (object_substituted pairs) os) addresses) (same_size pairs o.body)
    ∙ ap (λ (rs : List Run). extent at (size_of o) ∷ rs) (same_extents pairs os addresses)

-- ---- the pool of an object

-- a manual pool has no format
no_format : {F : Type 0} (layout : F → Layout) (formats : ℕ → Layout) (p : Pool F) (q : world.Pool) → IsPool layout formats p q
    → is_automatic_kind q.kind ≡ false → format_of_pool p ≡ None
no_format layout formats (pool.Automatic kind format) q is manual =
    absurd (false≢true (sym manual ∙ ap (λ (x : world.Pool). is_automatic_kind x.kind) is.0))
no_format layout formats (pool.OneSize words) q is manual = refl
no_format layout formats pool.AnySize q is manual = refl

-- a format is lawful
pub lawful_format : {F : Type 0} (layout : F → Layout) (past : Past) (h : HeapState F) (w : World) → AreParts layout past h w
    → (number : ℕ) (format : F) → option_and_then format_of_pool (slice_get h.pools number) ≡ Some format → IsLawful (layout format)
lawful_format {F} layout past h w parts number format has = of_pool (slice_get h.pools number) refl has
  where
    of_pool : (o : Option (Pool F)) → slice_get h.pools number ≡ o → option_and_then format_of_pool o ≡ Some format
        → IsLawful (layout format)
    of_pool None is own = absurd (none-some format own)
    of_pool (Some (pool.Automatic kind f)) is own =
        let q = parts.pools.each number (pool.Automatic kind f) is in
        subst (λ (g : F). IsLawful (layout g)) (same_Some f format own) (subst IsLawful q.2.1 (parts.lawful (q.0).format))
    of_pool (Some (pool.OneSize words)) is own = absurd (none-some format own)
    of_pool (Some pool.AnySize) is own = absurd (none-some format own)

module _ {F : Type 0} (layout : F → Layout) (past : Past) (h : HeapState F) (w : World) (parts : AreParts layout past h w)
    (known : IsKnown past.time w) where
  -- an automatic object's pool has the format of its head
  pub record HasItsFormat (o : Object) : Type 0 where
    pub format : F
    pub has : option_and_then format_of_pool (slice_get h.pools o.pool) ≡ Some format
    pub layout_is : pool_layout w o.pool ≡ layout format

  pub automatic_format : (id : Id) (at : Address) (o : Object) → entry_at w.addresses id ≡ Some at → slice_get w.graph.objects id ≡ Some o
      → is_automatic o ≡ true → HasItsFormat o
  automatic_format id at o there object automatic =
      let x = live_block layout past h w parts known id at there in
      let same : x.0 ≡ o = same_Some x.0 o (sym x.1.object ∙ object) in
      let P : Object → Type 0 = λ p. is_automatic p ≡ true → HasItsFormat p in
      subst P same (λ automatic.
      let b = x.1 in
      let f = format_there layout w.formats b.pool b.models b.fit (sym (body_of_kind w b.models (x.0).body b.right) ∙ automatic) in
      record {
        format = f.0;
        has = ap (option_and_then format_of_pool) b.kept ∙ f.1;
        layout_is = ap (λ (q : Option world.Pool). w.formats (option_map_or (λ (p : world.Pool). p.format) q 0)) b.has ∙ f.2;
      }) automatic

  pub manual_format : (id : Id) (at : Address) (o : Object) → entry_at w.addresses id ≡ Some at → slice_get w.graph.objects id ≡ Some o
      → is_automatic o ≡ false → option_and_then format_of_pool (slice_get h.pools o.pool) ≡ None
  manual_format id at o there object manual =
      let x = live_block layout past h w parts known id at there in
      let same : x.0 ≡ o = same_Some x.0 o (sym x.1.object ∙ object) in
      let P : Object → Type 0 = λ p. is_automatic p ≡ false → option_and_then format_of_pool (slice_get h.pools p.pool) ≡ None in
      subst P same (λ manual.
      let b = x.1 in
      ap (option_and_then format_of_pool) b.kept
      ∙ no_format layout w.formats b.pool b.models b.fit (sym (body_of_kind w b.models (x.0).body b.right) ∙ manual)) manual

  -- ---- the words of an object

  abbrev high : ℕ
  high = Rattle.mps_trace_laws.specs.Image.Memory.words_of_arena h.segs.grains

  module _ (st : StandsAtRest h.segs w) (id : Id) (at : Address) (o : Object) (there : entry_at w.addresses id ≡ Some at)
      (object : slice_get w.graph.objects id ≡ Some o) where
    word_lies : (k : ℕ) → k < size_of o → Lies w.graph.objects w.addresses id k o (word_of at + k)
    word_lies k low = record { at = at; address = there; object = object; within = low; is = refl }

    over_word : (k : ℕ) → k < size_of o → pool_over_word h.segs (word_of at + k) ≡ Some o.pool
    over_word k low = st.placed.home id k o (word_of at + k) (word_lies k low)

    over_first : pool_over_word h.segs (word_of at) ≡ Some o.pool
    over_first =
        ap (pool_over_word h.segs) (let z : word_of at ≡ word_of at + 0 = omega arith in z)
        ∙ over_word 0 (st.placed.positive id at o there object)

    block_over : (k : ℕ) → k < size_of o → run_over h.segs.blocks (word_of at + k) ≡ Some (word_of at)
    block_over k low =
        run_over_in 0 high h.segs.blocks (extent at (size_of o)) (word_of at + k)
        (blocks_in_order layout past h w parts known.laid)
        (subst (λ (rs : List Run). Contains rs (extent at (size_of o))) (sym st.runs.blocks)
        (run_there w.graph.objects w.addresses id at o there object)) (omega arith) (omega (arith, low))

    within_words : (k : ℕ) → k < size_of o → word_of at + k < length h.segs.words
    within_words k low =
        let inside = st.placed.within id k o (word_of at + k) (word_lies k low) in
        let long = st.words.long in omega (arith, inside, long)

  -- ---- a transform with these pairs

  module _ (st : StandsAtRest h.segs w) (pairs : List TransformPair) (to : Address → Option Address) (null : to 0 ≡ None)
      (replaces : (id : Id) (at : Address) → entry_at w.addresses id ≡ Some at → IsReplaced w.addresses id (new_for pairs id) (to at))
      (can : (number : ℕ) (format : F) → option_and_then format_of_pool (slice_get h.pools number) ≡ Some format
      → CanApply (layout format) h.segs number) (have : HaveSummaries h.segs) where
    abbrev lawful : (number : ℕ) (format : F) → option_and_then format_of_pool (slice_get h.pools number) ≡ Some format
        → IsLawful (layout format)
    lawful = lawful_format layout past h w parts

    abbrev count : ℕ
    count = length h.pools

    abbrev pub after : SegsState
    after = below layout to h.pools h.segs have count

    shaped : AreShaped w.graph.objects (pool_layout w)
    shaped = are_shaped_objects w parts.lawful known.formed.objects

    -- a word of an automatic object
    module _ (id : Id) (at : Address) (o : Object) (there : entry_at w.addresses id ≡ Some at)
        (object : slice_get w.graph.objects id ≡ Some o) (automatic : is_automatic o ≡ true) (k : ℕ) (low : k < size_of o) (c : Cell)
        (cell : slice_get (all_cells o.body) k ≡ Some c) where
      abbrev of : HasItsFormat o
      of = automatic_format id at o there object automatic

      abbrev f : Layout
      f = layout of.format

      abbrev n : Word
      n = word_of at + k

      abbrev word : ℕ
      word = slice_index h.segs.words n

      abbrev head : ℕ
      head = head_of_body o.body

      pool_low : o.pool < count
      pool_low = of_pool (slice_get h.pools o.pool) refl of.has
        where
          of_pool : (x : Option (Pool F)) → slice_get h.pools o.pool ≡ x → option_and_then format_of_pool x ≡ Some of.format
              → o.pool < count
          of_pool None is own = absurd (none-some of.format own)
          of_pool (Some p) is own = slice_get_within h.pools o.pool p is

      head_is : slice_index h.segs.words (word_of at) ≡ head
      head_is =
          let some = st.placed.positive id at o there object in
          ap (slice_index h.segs.words) (let z : word_of at ≡ word_of at + 0 = omega arith in z)
          ∙ st.words.cells id 0 o (word_of at + 0) HeadCell refl (word_lies st id at o there object 0 some)
          (shaped.first id o object automatic)

      kind_is : is_reference_cell c ≡ f.is_reference (slice_index h.segs.words (word_of at)) (n - word_of at)
      kind_is =
          shaped.kinds id k o c object automatic cell
          ∙ ap (λ (g : Layout). g.is_reference head k) of.layout_is
          ∙ ap (λ (x : ℕ). f.is_reference x k) (sym head_is)
          ∙ ap (f.is_reference (slice_index h.segs.words (word_of at))) (let z : k ≡ n - word_of at = omega arith in z)

      is_after : IsCellAfter f (lawful o.pool of.format of.has) w.addresses pairs to st.placed.address null replaces head word
          (f.is_reference (slice_index h.segs.words (word_of at)) (n - word_of at)) c
      is_after =
          cell_after f (lawful o.pool of.format of.has) w.addresses pairs to st.placed.address null replaces head word
          (f.is_reference (slice_index h.segs.words (word_of at)) (n - word_of at)) c kind_is
          (λ target tag is. shaped.tags id k o target tag object (cell ∙ ap Some is))
          (st.words.cells id k o n c refl (word_lies st id at o there object k low) cell)

      abbrev given : Option Address
      given = new_target layout to h.pools h.segs have can count o.pool n (word_of at) of.format of.has pool_low
          (over_word st id at o there object k low) (over_first st id at o there object) (block_over st id at o there object k low)

      word_then : slice_index after.words n ≡ option_map_or (λ a. f.retarget word a) given word
      word_then =
          automatic_word layout to h.pools h.segs have can count o.pool n (word_of at) of.format of.has pool_low
          (over_word st id at o there object k low) (over_first st id at o there object) (block_over st id at o there object k low)

      -- it is that of its substituted cell
      pub holds_after : IsCellWord w.addresses [] head (cell_substituted pairs c) (slice_index after.words n)
      holds_after = subst (IsCellWord w.addresses [] head (cell_substituted pairs c)) (sym word_then) is_after.holds

      -- it is as it was, or leads to an address whose zone is in the summary of its segment
      pub zone_after : (t : Segment) → segment_over h.segs.segments (address_of_word n) ≡ Some t
          → (0 < f.target word → zones_meet (zone_bit_of (f.target word)) (summary_at h.segs t.base) ≡ true)
          → 0 < f.target (slice_index after.words n)
          → zones_meet (zone_bit_of (f.target (slice_index after.words n))) (summary_at after t.base) ≡ true
      zone_after t over before some = of_target given refl
        where
          P : ℕ → Type 0
          P v = zones_meet (zone_bit_of (f.target v)) (summary_at after t.base) ≡ true

          of_target : (x : Option Address) → given ≡ x → P (slice_index after.words n)
          of_target None is =
              let same : slice_index after.words n ≡ word =
              word_then ∙ ap (λ (x : Option Address). option_map_or (λ a. f.retarget word a) x word) is in
              subst P (sym same)
              ((below_keeps layout to h.pools h.segs have count).zones (grain_of t.base) (zone_of (f.target word))
              (before (subst (λ (v : ℕ). 0 < f.target v) same some)))
          of_target (Some a) is =
              let leads : f.target (slice_index after.words n) ≡ a = ap f.target word_then ∙ is_after.leads a is in
              let Q : Address → Type 0 = λ x. zones_meet (zone_bit_of x) (summary_at after t.base) ≡ true in
              subst Q (sym leads)
              (automatic_noted layout to h.pools h.segs have can count o.pool n (word_of at) of.format of.has pool_low
              (over_word st id at o there object k low) (over_first st id at o there object) (block_over st id at o there object k low)
              (within_words st id at o there object k low) a is t over)

    -- ---- all objects

    abbrev pub objects : List Object
    objects = map (object_substituted pairs) w.graph.objects

    was_object : (id : Id) (p : Object) → slice_get objects id ≡ Some p
        → (o : Object) × (slice_get w.graph.objects id ≡ Some o) × (object_substituted pairs o ≡ p)
    was_object id p is =
        mapped_some (object_substituted pairs) (slice_get w.graph.objects id) p
        (sym (slice_get-map (object_substituted pairs) w.graph.objects id) ∙ is)

    -- the word of each cell of a substituted object
    cell_then : (id : Id) (at : Address) (o : Object) → entry_at w.addresses id ≡ Some at → slice_get w.graph.objects id ≡ Some o
        → (k : ℕ) → k < size_of o → (c : Cell) → slice_get (all_cells (body_substituted pairs o.body)) k ≡ Some c
        → IsCellWord w.addresses [] (head_of_body (body_substituted pairs o.body)) c (slice_index after.words (word_of at + k))
    cell_then id at o there object k low c = of_body o.body refl
      where
        of_body : (b : Body) → o.body ≡ b → slice_get (all_cells (body_substituted pairs b)) k ≡ Some c
            → IsCellWord w.addresses [] (head_of_body (body_substituted pairs b)) c (slice_index after.words (word_of at + k))
        of_body (Automatic own cells is_weak) e cell =
            let d =
            mapped_some (cell_substituted pairs) (slice_get cells k) c
            (sym (slice_get-map (cell_substituted pairs) cells k) ∙ cell) in
            let holds = holds_after id at o there object (ap is_automatic_body e) k low d.0
            (ap (λ (b : Body). slice_get (all_cells b) k) e ∙ d.1) in
            subst (λ (x : ℕ). IsCellWord w.addresses [] x c (slice_index after.words (word_of at + k))) (ap head_of_body e)
            (subst (λ (x : Cell). IsCellWord w.addresses [] (head_of_body o.body) x (slice_index after.words (word_of at + k))) d.2 holds)
        of_body (Manual words) e cell =
            let old = st.words.cells id k o (word_of at + k) c refl (word_lies st id at o there object k low)
            (ap (λ (b : Body). slice_get (all_cells b) k) e ∙ cell) in
            let same = manual_word layout to h.pools h.segs have can count o.pool (word_of at + k)
            (manual_format id at o there object (ap is_automatic_body e)) (over_word st id at o there object k low) in
            subst (λ (x : ℕ). IsCellWord w.addresses [] x c (slice_index after.words (word_of at + k))) (ap head_of_body e)
            (subst (IsCellWord w.addresses [] (head_of_body o.body) c) (sym same) old)

    abbrev setting : Rattle.mps_trace_laws.specs.Image.Memory.Setting
    setting = setting_at_rest h.segs w.graph.objects w.graph.points w.point_memories (pool_layout w)

    rewritten : ((point i : ℕ) (r : Reservation) (n : Word) → LiesReserved w.graph.points w.point_memories point i r n → ⊥)
        → AreRewritten setting (memory_in h.segs) w.addresses no_colours objects after.words
    rewritten none = record {
      was = λ id p is.
          let x = was_object id p is in
          record {
            object = x.0;
            there = x.1;
            pool = ap (λ (q : Object). q.pool) x.2;
            size = sym (same_size pairs (x.0).body) ∙ ap (λ (q : Object). size_of q) x.2;
          };
      still = λ id o is. (
        object_substituted pairs o,
        slice_get-map (object_substituted pairs) w.graph.objects id ∙ ap (option_map (object_substituted pairs)) is,
      );
      extents = same_extents pairs w.graph.objects w.addresses;
      long = (below_keeps layout to h.pools h.segs have count).size;
      none_at_flip = λ id. refl;
      unreserved = none;
      cells = λ id i p n c there cell.
          let x = was_object id p there.object in
          let size : size_of p ≡ size_of x.0 = sym (ap (λ (q : Object). size_of q) x.2) ∙ same_size pairs (x.0).body in
          let Q : Object → Type 0 = λ q. slice_get (all_cells q.body) i ≡ Some c
          → IsCellWord w.addresses [] (head_of_body q.body) c (slice_index after.words (word_of there.at + i)) in
          let P : Word → Type 0 = λ m. IsCellWord w.addresses [] (head_of_body p.body) c (slice_index after.words m) in
          record {
            holds = subst P (sym there.is)
                (subst Q x.2
                (cell_then id there.at x.0 there.address x.1 i (let low = there.within in omega (arith, low, size)) c) cell);
            not_white = λ t e. refl;
          };
    }

    -- the memory represents them
    pub substituted_image : ((point i : ℕ) (r : Reservation) (n : Word) → LiesReserved w.graph.points w.point_memories point i r n → ⊥)
        → Rattle.mps_trace_laws.specs.Image.Image.ImageStands
        (Rattle.mps_trace_laws.specs.Image.Changes.setting_with_objects setting objects)
        (record (memory_in h.segs) { words = after.words }) w.addresses no_colours (black_cells [] no_colours)
    substituted_image none =
        image_rewritten setting (memory_in h.segs) w.addresses no_colours (black_cells [] no_colours) objects after.words st
        (rewritten none)

    -- ---- summaries

    append_none : (rs : List Run) → rs ++ [] ≡ rs
    append_none [] = refl
    append_none (r ∷ rs) = ap (λ (x : List Run). r ∷ x) (append_none rs)

    cells_long : (b : Body) → length (all_cells b) ≡ size_of_body b
    cells_long (Automatic own cells is_weak) = refl
    cells_long (Manual words) = length-map words NumberCell

    module _ (apart : AreSegmentsApart 0 h.segs.segments) where
      -- one segment is over all words of an object
      module _ (id : Id) (at : Address) (o : Object) (there : entry_at w.addresses id ≡ Some at)
          (object : slice_get w.graph.objects id ≡ Some o) where
        abbrev home : LieInOne h.segs.segments at (size_of o) (rank_of_object o)
        home = are_housed layout past h w parts known.laid id at o there object

        one_segment : (k : ℕ) → k < size_of o → segment_over h.segs.segments (address_of_word (word_of at + k)) ≡ Some home.segment
        one_segment k low =
            let b = bounds 0 h.segs.segments home.segment apart home.held in
            let above = home.above in
            let below_it = home.below in
            let aligned = b.aligned in
            over_in 0 h.segs.segments home.segment (address_of_word (word_of at + k)) apart home.held (omega (arith, above, aligned))
            (omega (arith, below_it, aligned, low))

        -- its words are summed
        summed_object : (t : Segment) (policy : Policy F) → segment_over h.segs.segments (address_of_word (word_of at)) ≡ Some t
            → slice_get (map policy_of_pool h.pools) t.pool ≡ Some (Some policy)
            → IsRunSummed (layout policy.format) after.words (summary_at after t.base) (extent at (size_of o))
        summed_object t policy over listed k few reference some = of_kind (is_automatic o) refl
          where
            pool_is : t.pool ≡ o.pool
            pool_is =
                same_Some t.pool o.pool
                (sym (ap (option_map (λ (u : Segment). u.pool)) over) ∙ over_first st id at o there object)

            its : slice_get (map policy_of_pool h.pools) o.pool ≡ Some (Some policy)
            its = ap (slice_get (map policy_of_pool h.pools)) (sym pool_is) ∙ listed

            has_policy : (x : Option (Pool F)) → option_map policy_of_pool x ≡ Some (Some policy)
                → option_and_then format_of_pool x ≡ Some policy.format
            has_policy None e = absurd (none-some (Some policy) e)
            has_policy (Some (pool.Automatic kind g)) e =
                ap (λ (x : Policy F). Some x.format) (same_Some _ policy (same_Some _ (Some policy) e))
            has_policy (Some (pool.OneSize words)) e = absurd (none-some policy (same_Some _ (Some policy) e))
            has_policy (Some pool.AnySize) e = absurd (none-some policy (same_Some _ (Some policy) e))

            has : option_and_then format_of_pool (slice_get h.pools o.pool) ≡ Some policy.format
            has = has_policy (slice_get h.pools o.pool) (sym (slice_get-map policy_of_pool h.pools o.pool) ∙ its)

            of_kind : (b : Bool) → is_automatic o ≡ b
                → zones_meet (zone_bit_of ((layout policy.format).target (slice_index after.words (word_of at + k))))
                (summary_at after t.base)
                ≡ true
            of_kind false manual = absurd (none-some policy.format (sym (manual_format id at o there object manual) ∙ has))
            of_kind true automatic =
                let its_format = automatic_format id at o there object automatic in
                let same : policy.format ≡ its_format.format =
                same_Some policy.format its_format.format (sym has ∙ its_format.has) in
                let g : Layout = layout its_format.format in
                let layout_same : layout policy.format ≡ g = ap layout same in
                let c = there_is (all_cells o.body) k (let long = cells_long o.body in omega (arith, long, few)) in
                let first : slice_index after.words (word_of at) ≡ slice_index h.segs.words (word_of at) =
                head_then automatic in
                let P : Layout → Type 0 = λ x.
                zones_meet (zone_bit_of (x.target (slice_index after.words (word_of at + k)))) (summary_at after t.base) ≡ true in
                let R : Layout → Type 0 = λ x. 0 < x.target (slice_index after.words (word_of at + k)) in
                let home_is : home.segment ≡ t =
                same_Some home.segment t
                (sym (one_segment 0 (st.placed.positive id at o there object))
                ∙ ap (λ (n : ℕ). segment_over h.segs.segments (address_of_word n)) (let z : word_of at + 0 ≡ word_of at = omega arith in z)
                ∙ over)
                in
                subst P (sym layout_same)
                (zone_after id at o there object automatic k few c.0 c.1 t (one_segment k few ∙ ap (λ (u : Segment). Some u) home_is)
                (λ positive.
                let S : Layout → Type 0 = λ x. 0 < x.target (slice_index h.segs.words (word_of at + k)) in
                let T : Layout → Type 0 = λ x.
                zones_meet (zone_bit_of (x.target (slice_index h.segs.words (word_of at + k)))) (summary_at h.segs t.base) ≡ true in
                subst T layout_same
                (parts.summed.each (extent at (size_of o)) t policy covered_here over listed k few
                (subst (λ (x : ℕ). IsTrue ((layout policy.format).is_reference x k)) first reference)
                (subst S (sym layout_same) positive)))
                (subst R layout_same some))
              where
                head_then : is_automatic o ≡ true → slice_index after.words (word_of at) ≡ slice_index h.segs.words (word_of at)
                head_then automatic =
                    let some = st.placed.positive id at o there object in
                    let z : word_of at ≡ word_of at + 0 = omega arith in
                    ap (slice_index after.words) z
                    ∙ holds_after id at o there object automatic 0 some HeadCell (shaped.first id o object automatic)
                    ∙ sym (ap (slice_index h.segs.words) z
                    ∙ st.words.cells id 0 o (word_of at + 0) HeadCell refl (word_lies st id at o there object 0 some)
                    (shaped.first id o object automatic))

                covered_here : Contains h.segs.covered (extent at (size_of o))
                covered_here =
                    let reserved = reserved_extents w.graph.points w.point_memories in
                    let run = extent at (size_of o) in
                    subst (λ (rs : List Run). Contains rs run) (sym st.runs.covered)
                    (contained_in_order (extents_of w.graph.objects w.addresses ++ reserved) run
                    (contains_left (extents_of w.graph.objects w.addresses) reserved run
                    (extent_there w.graph.objects w.addresses id at o there object)))

      pub substituted_summed : reserved_extents w.graph.points w.point_memories ≡ []
          → AreWordsSummed layout (map policy_of_pool h.pools) (record h.segs { words = after.words; summaries = after.summaries })
      substituted_summed unreserved = record {
        sized = (below_keeps layout to h.pools h.segs have count).summed ∙ parts.summed.sized;
        each = λ r t policy its over listed.
            let objects_alone : h.segs.covered ≡ Rattle.mps_base.specs.Run.in_order (extents_of w.graph.objects w.addresses) =
            st.runs.covered
            ∙ ap (λ rs. Rattle.mps_base.specs.Run.in_order (extents_of w.graph.objects w.addresses ++ rs)) unreserved
            ∙ ap Rattle.mps_base.specs.Run.in_order (append_none (extents_of w.graph.objects w.addresses)) in
            let x = run_of_object w.graph.objects w.addresses r (subst (λ (rs : List Run). Contains rs r) objects_alone its) in
            let P : Run → Type 0 = λ q. IsRunSummed (layout policy.format) after.words (summary_at after t.base) q in
            let Q : Run → Type 0 = λ q. segment_over h.segs.segments (address_of_word q.from) ≡ Some t in
            subst P (sym x.is) (summed_object x.id x.at x.object x.address x.there t policy (subst Q x.is over) listed);
      }
