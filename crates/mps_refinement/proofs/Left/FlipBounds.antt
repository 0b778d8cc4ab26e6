-- What a flip condemns and remembers of a world are no more objects than there are blocks in the segments that it condemns and remembers.
use Rattle.std.proofs.Common.{◌≡◌, ◌∙◌, ℕ, ◌+◌, ◌≤◌, Bool, true, false, refl, sym, ap, subst, List, length, Option, Some, arith}
use Rattle.std.proofs.lemmas.Bool.{and_from, and_parts, le-leb, lt-ltb}
use Rattle.std.proofs.lemmas.List.Sums.{length-filter}
use Rattle.std.specs.Prelude.{◌&&◌, count_by, filter, nat_le, nat_lt, not}
use Rattle.std.specs.List.{list_any}
use Rattle.std.specs.Option.{option_map_or}
use Rattle.mps_base.specs.Address.{Address, Id, address_of_word, word_of}
use Rattle.mps_base.specs.Run.{Run}
use Rattle.mps_base.specs.Segment.{Segment, end_of_segment, is_in_segment}
use Rattle.mps_base.specs.Trail.{Moves}
use Rattle.mps_buffer.specs.Points.{PointsState}
use Rattle.mps_format.specs.Layout.{Layout}
use Rattle.mps_model.specs.Effect.{Condemnation, condemned_by, condemned_ids, condemned_zones, lies_in_one, world_flipped}
use Rattle.mps_model.specs.Effect as model
use Rattle.mps_model.specs.Graph.{contains, entry_at, is_automatic, size_of}
use Rattle.mps_model.specs.World.{World, begins_in, extent, extents_of, is_live_and, live_automatic_ids, live_ids, object_is}
use Rattle.mps_model.specs.Accessing.{address_or_null}
use Rattle.mps_seg.specs.Collecting.{summary_at}
use Rattle.mps_seg.specs.Segs.{SegsState}
use Rattle.mps_trace.specs.Flip.{condemned_of, may_refer, remembered_of, zones_at_flip}
use Rattle.mps_trace.specs.Trace.{TraceState}
use Rattle.mps_trace.specs.declared.condemn.Condemn.{Condemn}
use Rattle.mps_trace.specs.declared.condemn.Condemn.TheVariants.{Everything, Generations}
use Rattle.mps_abstract.specs.Remembered.{may_lead}
use Rattle.mps_abstract.proofs.Addresses.{address_of-live, listed_is_live}
use Rattle.mps_abstract.proofs.FlipActs.Remembered.{any_of}
use Rattle.mps_abstract.proofs.HeldSegments.{among_filtered, any_among}
use Rattle.mps_abstract.proofs.Lists.{contains_filtered}
use Rattle.mps_trace_laws.specs.Begin.Before.{StandsBefore}
use Rattle.mps_trace_laws.specs.Begin.Condemning.{MayCondemn, remembered_in}
use Rattle.mps_trace_laws.specs.Flip.Condemned.{condemnation}
use Rattle.mps_trace_laws.specs.Image.SegmentWords.{AreSegmentsInOrder}
use Rattle.mps_trace_laws.proofs.Begin.CondemnedIds.{remembered_is}
use Rattle.mps_trace_laws.proofs.Fix.NewTail.{among_contains}
use Rattle.mps_trace_laws.proofs.Flip.Condemned.{flip_is_the_models}
use Rattle.mps_trace_laws.proofs.Nails.Remembered as nails
use Rattle.mps_trace_laws.proofs.Nails.Remembered.{begins_one, blocks_of, run_that_begins, within_bounds}
use Rattle.mps_trace_laws.proofs.Reclaim.SegmentBounds.{aligned_in}
use Rattle.mps_trace_laws.proofs.Units.Entering.{held_in_order}
use Rattle.mps_refinement.specs.UnitsLeft.{blocks_in}
use Rattle.mps_refinement.proofs.Left.Counting.{count-extents, count-filter, count-in_order, count-le}

-- a flip condemns the same objects of the world that is left of it
pub same_ids : (w : World) (zones : ℕ) (what : Condemnation) → condemned_ids (world_flipped w zones) what ≡ condemned_ids w what
same_ids w zones model.Everything = refl
same_ids w zones (model.Generations chain generation) = refl

module _ {F : Type 0} (layout : F → Layout) (t : TraceState F) (s : SegsState) (m : Moves) (points : PointsState) (w : World)
    (b : StandsBefore layout t s m points w) where
  on_word : (id : Id) (at : Address) → entry_at w.addresses id ≡ Some at → address_of_word (word_of at) ≡ at
  on_word id at there = let aligned = (b.segments.image.placed.address id at there).aligned in omega (arith, aligned)

  -- as many blocks lie in some segments as live objects
  blocks_so : (ts : List Segment) → blocks_in ts s ≡ count_by (lies_in_one w ts) (live_ids w)
  blocks_so ts =
      let here : Run → Bool = λ r. list_any (λ u. begins_in u r) ts in
      ap (count_by here) b.segments.image.runs.blocks ∙ count-in_order here (extents_of w.graph.objects w.addresses)
      ∙ count-extents here (lies_in_one w ts) 0 w.graph.objects w.addresses b.objects.rest.well_formed.addresses (λ i o at object there.
      subst (λ n. here (extent at (size_of o)) ≡ lies_in_one w ts n) (let same : i ≡ 0 + i = omega arith in same)
      (ap (λ (a : Address). list_any (λ u. is_in_segment u a) ts) (on_word i at there)
      ∙ sym (ap (λ (x : Option Address). list_any (λ u. option_map_or (is_in_segment u) x false) ts) there)))

  -- no more live automatic objects pass a test than live ones pass another that each of those passes
  no_more : (p q : Id → Bool)
      → ((id : Id) → contains (live_ids w) id ≡ true → object_is is_automatic w id ≡ true → p id ≡ true → q id ≡ true)
      → length (filter p (live_automatic_ids w)) ≤ count_by q (live_ids w)
  no_more p q sub =
      let counted = length-filter p (live_automatic_ids w) in
      let both = count-filter (object_is is_automatic w) p (live_ids w) in
      let few = count-le (λ id. object_is is_automatic w id && p id) q (live_ids w) (λ id listed passes.
      let parts = and_parts (object_is is_automatic w id) (p id) passes in sub id listed parts.0 parts.1) in
      omega (arith, counted, both, few)

  -- ---- what is condemned

  pub condemned_are_few : (what : Condemn) → MayCondemn t s w what
      → length (condemned_ids w (condemnation what)) ≤ blocks_in (condemned_of t.formats t.chains what s.segments) s
  condemned_are_few what may =
      let models =
      flip_is_the_models t.formats t.chains what s.segments w b.segments.segments.same_segments may.alike b.pools.moves
      in
      let lies : Id → Bool = lies_in_one w (condemned_by w (condemnation what)) in
      let few = no_more lies lies (λ id listed automatic is. is) in
      let blocks = ap (λ (ts : List Segment). blocks_in ts s) models.segments ∙ blocks_so (condemned_by w (condemnation what)) in
      omega (arith, few, blocks)

  -- ---- what is remembered

  order : AreSegmentsInOrder s.segments
  order = held_in_order s b.segments.held

  -- a block that begins in one of these segments lies in it
  lies_there : (p : Segment → Bool) (id : Id) (at : Address) → entry_at w.addresses id ≡ Some at
      → nails.begins_in s.blocks (filter p s.segments) (word_of at) ≡ true → lies_in_one w (filter p s.segments) id ≡ true
  lies_there p id at there is =
      let one = any_among (λ (u : Segment). begins_one (blocks_of s.blocks u) (word_of at)) (filter p s.segments) is in
      let u = one.segment in
      let r = run_that_begins (blocks_of s.blocks u) (word_of at) one.passes in
      let bounds = within_bounds (word_of u.base) (word_of (end_of_segment u)) s.blocks r.0 r.1 in
      let begins = r.2 in
      let held = among_contains s.segments u (among_filtered p u s.segments one.among).0 in
      let base = aligned_in s.segments u order.aligned held in
      let word = on_word id at there in
      let inside : is_in_segment u at ≡ true =
      and_from (nat_le u.base at) (nat_lt at (end_of_segment u)) (le-leb u.base at (omega (arith, base, bounds.0, begins, word)))
      (lt-ltb at (end_of_segment u) (omega (arith, base, bounds.1, begins, word)))
      in
      any_of (λ v. is_live_and (is_in_segment v) w id) (filter p s.segments) u (among_contains (filter p s.segments) u one.among)
      (ap (λ (x : Option Address). option_map_or (is_in_segment u) x false) there ∙ inside)

  pub remembered_are_few : (what : Condemn) → MayCondemn t s w what
      → length (remembered_in s w what) ≤ blocks_in (remembered_of t.formats t.chains what s) s
  remembered_are_few Everything may = omega arith
  remembered_are_few (Generations chain oldest) may =
      let what : Condemn = Generations chain oldest in
      let c : Condemnation = condemnation what in
      let these : List Segment = remembered_of t.formats t.chains what s in
      let passes : Id → Bool = λ id. not (contains (condemned_ids w c) id)
      && list_any (may_lead w (summary_at s) (condemned_zones w c) id) w.segments in
      let few = no_more passes (lies_in_one w these) (λ id listed automatic is.
      let live = listed_is_live w id listed in
      let at : Address = address_or_null w id in
      let there = address_of-live w id live in
      let o = b.segments.image.placed.exists id at there in
      lies_there (may_refer t.formats t.chains what (zones_at_flip t.formats t.chains what s.segments) s) id at there
      (sym (remembered_is layout t s m points w b what may id at o.0 there o.1)
      ∙ contains_filtered passes (live_automatic_ids w) id is
      (contains_filtered (object_is is_automatic w) (live_ids w) id automatic listed))) in
      let blocks = blocks_so these in
      omega (arith, few, blocks)
