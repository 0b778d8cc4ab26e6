-- Which objects a flip condemns, and which it remembers: each by the segment in which it lies.
use Rattle.std.proofs.Common.{◌≡◌, ◌∙◌, ℕ, zero, suc, ◌+◌, ◌<◌, ◌≤◌, Bool, true, false, refl, sym, ap, ap₂, subst, List, [], ◌∷◌, Option, Some, Contains, arith}
use Rattle.std.proofs.lemmas.Bool.{and_parts, false_from_ne_true, false≢true, or_left, or_right, leb-true, ltb-true, le-leb, lt-ltb, and_from, eq-eqb}
use Rattle.std.proofs.lemmas.Option.{same_Some}
use Rattle.std.specs.Prelude.{◌&&◌, ◌==◌, filter, is_some, nat_le, nat_lt, not, option_map, slice_get}
use Rattle.std.specs.List.{list_any}
use Rattle.std.specs.Option.{option_map_or}
use Rattle.mps_base.specs.Address.{Address, Id, Word, word_of, address_of_word}
use Rattle.mps_base.specs.Run.{Run}
use Rattle.mps_base.specs.Segment.{Segment, end_of_segment, is_in_segment, segment_over}
use Rattle.mps_base.specs.Trail.{Moves}
use Rattle.mps_base.specs.Zones.{zones_meet}
use Rattle.mps_buffer.specs.Points.{PointsState}
use Rattle.mps_extents.proofs.ContainedRuns.{begins_within}
use Rattle.mps_format.specs.Layout.{Layout}
use Rattle.mps_seg.specs.Collecting.{summary_at}
use Rattle.mps_seg.specs.Segs.{SegsState}
use Rattle.mps_trace.specs.Flip.{condemned_of, condemns, is_automatic, may_refer, moving_of, remembered_of, zones_at_flip}
use Rattle.mps_trace.specs.Trace.{TraceState}
use Rattle.mps_trace.specs.declared.condemn.Condemn.{Condemn}
use Rattle.mps_trace.specs.declared.condemn.Condemn.TheVariants.{Everything, Generations}
use Rattle.mps_model.specs.Effect.{condemned_by, condemned_ids, condemned_zones, is_condemned_by, lies_in_one}
use Rattle.mps_model.specs.Graph.{Object, contains, entry_at, is_automatic as is_automatic_object, size_of}
use Rattle.mps_model.specs.World.{World, extent, is_automatic_kind, is_live_and, live_automatic_ids, live_ids, object_is, pool_is}
use Rattle.mps_model.specs.WellFormed.{is_right_object}
use Rattle.mps_abstract.specs.Remembered.{may_lead}
use Rattle.mps_abstract.proofs.Addresses.{is_listed_automatic}
use Rattle.mps_abstract.proofs.Calls.ClientThings.{list_all-at}
use Rattle.mps_abstract.proofs.FlipActs.Flipped.{condemned_automatic}
use Rattle.mps_abstract.proofs.FlipActs.Remembered.{any_of, everything_refers_nowhere_else}
use Rattle.mps_abstract.proofs.HeldSegments.{any_among, among_filtered}
use Rattle.mps_abstract.proofs.Lists.{contains-filter, contains_filtered}
use Rattle.mps_abstract.proofs.RightObjects.{pool_kind}
use Rattle.mps_abstract.proofs.WholeCollections.WholeBegins.{among_passing}
use Rattle.mps_trace_laws.specs.Begin.Before.{StandsBefore}
use Rattle.mps_trace_laws.specs.Begin.Condemning.{MayCondemn, remembered_in}
use Rattle.mps_trace_laws.specs.Fix.Housed.{LieInOne, rank_of_object}
use Rattle.mps_trace_laws.specs.Flip.Condemned.{IsFlipOf, condemnation}
use Rattle.mps_trace_laws.specs.Image.SegmentWords.{AreSegmentsInOrder}
use Rattle.mps_trace_laws.proofs.Fix.Hands.{contains_among}
use Rattle.mps_trace_laws.proofs.Fix.NewTail.{among_contains}
use Rattle.mps_trace_laws.proofs.Flip.Condemned.{flip_is_the_models}
use Rattle.mps_trace_laws.proofs.Image.BlockRuns.{run_there}
use Rattle.mps_trace_laws.proofs.Image.Marked.{begins_there}
use Rattle.mps_trace_laws.proofs.Nails.Remembered.{begins_in, begins_one, blocks_of, run_that_begins, within_bounds}
use Rattle.mps_trace_laws.proofs.Reclaim.HeldSegments.{over}
use Rattle.mps_trace_laws.proofs.Reclaim.SegmentBounds.{aligned_in}
use Rattle.mps_trace_laws.proofs.Units.Entering.{held_in_order}

-- ---- a full flip

-- everything may be condemned
pub everything_may : {F : Type 0} (layout : F → Layout) (t : TraceState F) (s : SegsState) (m : Moves) (points : PointsState) (w : World)
    → StandsBefore layout t s m points w → MayCondemn t s w Everything
everything_may layout t s m points w b = record {
  numbered = refl;
  alike = λ u. b.pools.formats u.pool;
  refers = everything_refers_nowhere_else w (summary_at s) b.objects.rest;
}

-- ---- tests

-- two tests of which each gives the other agree
both_or_none : (a b : Bool) → (a ≡ true → b ≡ true) → (b ≡ true → a ≡ true) → a ≡ b
both_or_none true b there back = sym (there refl)
both_or_none false b there back = sym (false_from_ne_true b (λ is. false≢true (back is)))

-- where a run begins one begins
begins_some : (rs : List Run) (r : Run) (n : Word) → Contains rs r → r.from ≡ n → begins_one rs n ≡ true
begins_some [] r n (k, within, is) e = absurd (omega (arith, within))
begins_some (q ∷ rs) r n (zero, within, is) e =
    or_left (q.from == n) (begins_one rs n) (eq-eqb q.from n (ap (λ (x : Run). x.from) is ∙ e))
begins_some (q ∷ rs) r n (suc k, within, is) e =
    or_right (q.from == n) (begins_one rs n) (begins_some rs r n (k, omega (arith, within), is) e)

module _ {F : Type 0} (layout : F → Layout) (t : TraceState F) (s : SegsState) (m : Moves) (points : PointsState) (w : World)
    (b : StandsBefore layout t s m points w) where
  order : AreSegmentsInOrder s.segments
  order = held_in_order s b.segments.held

  -- an object is automatic exactly if its pool is
  pub kind_is : (id : Id) (o : Object) → slice_get w.graph.objects id ≡ Some o
      → pool_is is_automatic_kind w o.pool ≡ is_automatic_object o
  kind_is id o object = pool_kind w o (list_all-at (is_right_object w) w.graph.objects id o b.objects.rest.well_formed.objects object)

  -- ---- one object, and the segment in which it lies

  module _ (id : Id) (at : Address) (o : Object) (there : entry_at w.addresses id ≡ Some at)
      (object : slice_get w.graph.objects id ≡ Some o) where
    abbrev pub home : LieInOne s.segments at (size_of o) (rank_of_object o)
    home = b.segments.housed id at o there object

    abbrev pub its : Segment
    its = home.segment

    pub over_its : (n : Word) → word_of at ≤ n → n < word_of at + size_of o → segment_over s.segments (address_of_word n) ≡ Some its
    over_its n above below =
        let lower = home.above in
        let upper = home.below in
        over s.segments order its n home.held (omega (arith, above, lower)) (omega (arith, below, upper))

    some_words : 0 < size_of o
    some_words = b.segments.image.placed.positive id at o there object

    on_word : address_of_word (word_of at) ≡ at
    on_word = let aligned = (b.segments.image.placed.address id at there).aligned in omega (arith, aligned)

    pub over_first : segment_over s.segments (address_of_word (word_of at)) ≡ Some its
    over_first = over_its (word_of at) (omega arith) (let some = some_words in omega (arith, some))

    -- it is of the pool of the object
    pub its_pool : its.pool ≡ o.pool
    its_pool =
        same_Some its.pool o.pool
        (sym (ap (λ (x : Option Segment). option_map (λ (u : Segment). u.pool) x) over_first)
        ∙ b.segments.image.placed.home id 0 o (word_of at)
        (begins_there _ w.addresses b.segments.image.placed id at o there object))

    -- no other held segment has its first word, or its address
    only_word : (u : Segment) → Contains s.segments u → word_of u.base ≤ word_of at → word_of at < word_of (end_of_segment u) → u ≡ its
    only_word u held above below = same_Some u its (sym (over s.segments order u (word_of at) held above below) ∙ over_first)

    pub only_address : (u : Segment) → Contains s.segments u → is_in_segment u at ≡ true → u ≡ its
    only_address u held inside =
        let parts = and_parts (nat_le u.base at) (nat_lt at (end_of_segment u)) inside in
        let above = leb-true u.base at parts.0 in
        let below = ltb-true at (end_of_segment u) parts.1 in
        let base = aligned_in s.segments u order.aligned held in
        let aligned = (b.segments.image.placed.address id at there).aligned in
        only_word u held (omega (arith, above)) (omega (arith, below, base, aligned))

    inside_its : is_in_segment its at ≡ true
    inside_its =
        let base = aligned_in s.segments its order.aligned home.held in
        let lower = home.above in
        let upper = home.below in
        let some = some_words in
        let word = on_word in
        and_from (nat_le its.base at) (nat_lt at (end_of_segment its)) (le-leb its.base at (omega (arith, base, lower, word)))
        (lt-ltb at (end_of_segment its) (omega (arith, base, upper, some, word)))

    live_in : (u : Segment) → is_live_and (is_in_segment u) w id ≡ is_in_segment u at
    live_in u = ap (λ (x : Option Address). option_map_or (is_in_segment u) x false) there

    listed_if : is_automatic_object o ≡ true → contains (live_automatic_ids w) id ≡ true
    listed_if automatic =
        is_listed_automatic w id (ap is_some there)
        (ap (λ (p : Option Object). option_map_or is_automatic_object p false) object ∙ automatic)

    automatic_if : contains (live_automatic_ids w) id ≡ true → is_automatic_object o ≡ true
    automatic_if listed =
        sym (ap (λ (p : Option Object). option_map_or is_automatic_object p false) object)
        ∙ (contains-filter (object_is is_automatic_object w) (live_ids w) id listed).1

    -- a test of the segments that objects may lie in
    in_one : (q : Segment → Bool) → lies_in_one w (filter q s.segments) id ≡ true → q its ≡ true
    in_one q is =
        let one = any_among (λ u. is_live_and (is_in_segment u) w id) (filter q s.segments) is in
        let held = among_filtered q one.segment s.segments one.among in
        let same = only_address one.segment (among_contains s.segments one.segment held.0) (sym (live_in one.segment) ∙ one.passes) in
        ap q (sym same) ∙ held.1

    is_in_one : (q : Segment → Bool) → q its ≡ true → lies_in_one w (filter q s.segments) id ≡ true
    is_in_one q is =
        any_of (λ u. is_live_and (is_in_segment u) w id) (filter q s.segments) its
        (among_contains (filter q s.segments) its (among_passing q its s.segments (contains_among s.segments its home.held) is))
        (live_in its ∙ inside_its)

    -- ---- what is condemned

    module _ (what : Condemn) (may : MayCondemn t s w what) where
      abbrev pub condemns_here : Segment → Bool
      condemns_here u = condemns t.formats t.chains what u.pool u.generation

      abbrev by_model : Segment → Bool
      by_model = is_condemned_by w (condemnation what)

      same_segments : s.segments ≡ w.segments
      same_segments = b.segments.segments.same_segments

      its_is_automatic : condemns_here its ≡ true → is_automatic_object o ≡ true
      its_is_automatic is =
          sym (kind_is id o object) ∙ sym (ap (pool_is is_automatic_kind w) its_pool)
          ∙ condemned_automatic w (condemnation what) its b.objects.rest.on_chains (sym (may.alike its) ∙ is)

      -- it is exactly if its segment is
      pub condemned_is : contains (condemned_ids w (condemnation what)) id ≡ condemns_here its
      condemned_is =
          both_or_none (contains (condemned_ids w (condemnation what)) id) (condemns_here its) there_is back
        where
          in_these : List Segment → Bool
          in_these ts = lies_in_one w (filter by_model ts) id

          there_is : contains (condemned_ids w (condemnation what)) id ≡ true → condemns_here its ≡ true
          there_is is =
              may.alike its
              ∙ in_one by_model (ap in_these same_segments
              ∙ (contains-filter (lies_in_one w (condemned_by w (condemnation what))) (live_automatic_ids w) id is).1)

          back : condemns_here its ≡ true → contains (condemned_ids w (condemnation what)) id ≡ true
          back is =
              contains_filtered (lies_in_one w (condemned_by w (condemnation what))) (live_automatic_ids w) id
              (sym (ap in_these same_segments) ∙ is_in_one by_model (sym (may.alike its) ∙ is)) (listed_if (its_is_automatic is))

      -- ---- what is remembered

      abbrev refers_here : Segment → Bool
      refers_here u = may_refer t.formats t.chains what (zones_at_flip t.formats t.chains what s.segments) s u

      models : IsFlipOf what (condemned_of t.formats t.chains what s.segments)
          (moving_of t.formats (condemned_of t.formats t.chains what s.segments)) w
      models = flip_is_the_models t.formats t.chains what s.segments w same_segments may.alike b.pools.moves

      abbrev leads : Segment → Bool
      leads u = may_lead w (summary_at s) (condemned_zones w (condemnation what)) id u

      abbrev is_remembered : Bool
      is_remembered = not (contains (condemned_ids w (condemnation what)) id) && list_any leads w.segments

      automatic_pool : is_automatic t.formats its.pool ≡ is_automatic_object o
      automatic_pool =
          b.pools.formats its.pool ∙ ap (pool_is is_automatic_kind w) its_pool ∙ kind_is id o object

      meets_here : zones_meet (summary_at s its.base) (zones_at_flip t.formats t.chains what s.segments)
          ≡ zones_meet (summary_at s its.base) (condemned_zones w (condemnation what))
      meets_here = ap (zones_meet (summary_at s its.base)) models.zones

      -- its segment leads to the zones of the flip, if one does
      leads_there : list_any leads w.segments ≡ zones_meet (summary_at s its.base) (condemned_zones w (condemnation what))
      leads_there =
          both_or_none (list_any leads w.segments) (zones_meet (summary_at s its.base) (condemned_zones w (condemnation what)))
          there_is back
        where
          there_is : list_any leads w.segments ≡ true
              → zones_meet (summary_at s its.base) (condemned_zones w (condemnation what)) ≡ true
          there_is is =
              let one = any_among leads w.segments is in
              let parts =
              and_parts (is_live_and (is_in_segment one.segment) w id)
              (zones_meet (summary_at s one.segment.base) (condemned_zones w (condemnation what))) one.passes
              in
              let held : Contains s.segments one.segment =
              subst (λ (ts : List Segment). Contains ts one.segment) (sym same_segments) (among_contains w.segments one.segment one.among)
              in
              let same = only_address one.segment held (sym (live_in one.segment) ∙ parts.0) in
              ap (λ (u : Segment). zones_meet (summary_at s u.base) (condemned_zones w (condemnation what))) (sym same) ∙ parts.1

          back : zones_meet (summary_at s its.base) (condemned_zones w (condemnation what)) ≡ true → list_any leads w.segments ≡ true
          back is =
              any_of leads w.segments its (subst (λ (ts : List Segment). Contains ts its) same_segments home.held)
              (ap₂ (λ x y. x && y) (live_in its ∙ inside_its) is)

      refers_is : refers_here its ≡ (is_automatic_object o && is_remembered)
      refers_is =
          ap₂ (λ x y. x && (not y && zones_meet (summary_at s its.base) (zones_at_flip t.formats t.chains what s.segments)))
          automatic_pool (sym condemned_is)
          ∙ ap (λ (y : Bool). is_automatic_object o && (not (contains (condemned_ids w (condemnation what)) id) && y))
          (meets_here ∙ sym leads_there)

      listed_is : contains (live_automatic_ids w) id ≡ is_automatic_object o
      listed_is = both_or_none (contains (live_automatic_ids w) id) (is_automatic_object o) automatic_if listed_if

      -- a block of the segments that may refer to what is condemned begins there exactly if its own segment may
      begins_is : (q : Segment → Bool) → begins_in s.blocks (filter q s.segments) (word_of at) ≡ q its
      begins_is q = both_or_none (begins_in s.blocks (filter q s.segments) (word_of at)) (q its) there_is back
        where
          starts : Segment → Bool
          starts u = begins_one (blocks_of s.blocks u) (word_of at)

          there_is : begins_in s.blocks (filter q s.segments) (word_of at) ≡ true → q its ≡ true
          there_is is =
              let one = any_among starts (filter q s.segments) is in
              let held = among_filtered q one.segment s.segments one.among in
              let r = run_that_begins (blocks_of s.blocks one.segment) (word_of at) one.passes in
              let bounds = within_bounds (word_of one.segment.base) (word_of (end_of_segment one.segment)) s.blocks r.0 r.1 in
              let begins = r.2 in
              let same =
              only_word one.segment (among_contains s.segments one.segment held.0) (omega (arith, bounds.0, begins))
              (omega (arith, bounds.1, begins))
              in
              ap q (sym same) ∙ held.1

          back : q its ≡ true → begins_in s.blocks (filter q s.segments) (word_of at) ≡ true
          back is =
              let block : Contains s.blocks (extent at (size_of o)) =
              subst (λ (rs : List Run). Contains rs (extent at (size_of o))) (sym b.segments.image.runs.blocks)
              (run_there w.graph.objects w.addresses id at o there object)
              in
              let lower = home.above in
              let upper = home.below in
              let some = some_words in
              let among =
              begins_within (word_of its.base) (word_of (end_of_segment its)) s.blocks (extent at (size_of o)) block
              (omega (arith, lower)) (omega (arith, upper, some))
              in
              any_of starts (filter q s.segments) its
              (among_contains (filter q s.segments) its (among_passing q its s.segments (contains_among s.segments its home.held) is))
              (begins_some (blocks_of s.blocks its) (extent at (size_of o)) (word_of at) among refl)

  -- what a flip remembers is what begins as a block of the segments that may refer to what it condemns
  pub remembered_is : (what : Condemn) → MayCondemn t s w what → (id : Id) (at : Address) (o : Object)
      → entry_at w.addresses id ≡ Some at → slice_get w.graph.objects id ≡ Some o
      → contains (remembered_in s w what) id ≡ begins_in s.blocks (remembered_of t.formats t.chains what s) (word_of at)
  remembered_is Everything may id at o there object = refl
  remembered_is (Generations chain oldest) may id at o there object =
      let what : Condemn = Generations chain oldest in
      filter_contains (λ n. not (contains (condemned_ids w (condemnation what)) n)
      && list_any (λ u. may_lead w (summary_at s) (condemned_zones w (condemnation what)) n u) w.segments) (live_automatic_ids w) id
      ∙ ap (λ (x : Bool). x && is_remembered id at o there object what may) (listed_is id at o there object what may)
      ∙ sym (refers_is id at o there object what may)
      ∙ sym (begins_is id at o there object what may (refers_here id at o there object what may))
    where
      filter_contains : (p : ℕ → Bool) (xs : List ℕ) (n : ℕ) → contains (filter p xs) n ≡ (contains xs n && p n)
      filter_contains p xs n =
          both_or_none (contains (filter p xs) n) (contains xs n && p n)
          (λ is. let parts = contains-filter p xs n is in and_from (contains xs n) (p n) parts.0 parts.1)
          (λ is. let parts = and_parts (contains xs n) (p n) is in contains_filtered p xs n parts.1 parts.0)
