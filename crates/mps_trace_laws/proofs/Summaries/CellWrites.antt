-- The word of a cell of an object is written, and where it leads is noted: each word stays summed.
use Rattle.std.proofs.Common.{◌≡◌, ◌∙◌, ℕ, ◌+◌, ◌%◌, ◌<◌, true, refl, sym, ap, List, length, slice_index, Option, Some, Contains, ◌++◌, subst, arith}
use Rattle.std.proofs.lemmas.List.{length-set}
use Rattle.std.proofs.lemmas.Option.{same_Some}
use Rattle.std.specs.Prelude.{IsTrue, option_map, slice_get, slice_set}
use Rattle.mps_base.specs.Address.{Address, Id, Grain, word_of, grain_of, address_of_word}
use Rattle.mps_base.specs.Segment.{Segment, segment_over}
use Rattle.mps_base.specs.Zones.{zones_meet, zone_bit_of}
use Rattle.mps_format.specs.Layout.{Layout}
use Rattle.mps_format.specs.declared.pool.Policy.{Policy}
use Rattle.mps_seg.specs.Collecting.{noting, noting_in}
use Rattle.mps_seg.specs.Segs.{SegsState}
use Rattle.mps_trace.specs.GenState.{ChainsState}
use Rattle.mps_trace.specs.Trace.{Traced}
use Rattle.mps_model.specs.Graph.{Object, entry_at, size_of}
use Rattle.mps_model.specs.World.{extent, extents_of, reserved_extents}
use Rattle.mps_abstract.specs.Collecting.{Collecting}
use Rattle.mps_trace_laws.specs.Image.Memory.{pool_layout, words_of_arena}
use Rattle.mps_trace_laws.specs.Image.Image.{CellSet}
use Rattle.mps_trace_laws.specs.Fix.Tracing.{StateStands}
use Rattle.mps_trace_laws.specs.Summaries.Summed.{AreWordsSummed}
use Rattle.mps_trace_laws.proofs.Image.BlockRuns.{contained_in_order, extent_there}
use Rattle.mps_trace_laws.proofs.Fix.Found.{over_of_pool}
use Rattle.mps_trace_laws.proofs.Reclaim.Around.{contains_left}
use Rattle.mps_trace_laws.proofs.Summaries.Moves.{has_summary}
use Rattle.mps_trace_laws.proofs.Summaries.Writes.{write_summed}
use Rattle.mps_xform.proofs.Noting.{noted, zone_noted, others_noted}

-- the block of a live object is one of the runs that are covered
pub block_there : {F : Type 0} (layout : F → Layout) (formats : List (Option (Policy F))) (of : ChainsState)
    (at_flip : List (Option Address)) (done : CellSet) (x : Traced) (y : Collecting)
    → StateStands layout formats of at_flip done x.amc x.segs y → (id : Id) (at : Address) (o : Object)
    → entry_at y.world.addresses id ≡ Some at → slice_get y.world.graph.objects id ≡ Some o
    → Contains x.segs.covered (extent at (size_of o))
block_there layout formats of at_flip done x y stands id at o there object =
    let objects = y.world.graph.objects in
    let addresses = y.world.addresses in
    let reserved = reserved_extents y.world.graph.points y.world.point_memories in
    let run = extent at (size_of o) in
    subst (λ rs. Contains rs run) (sym stands.image.runs.covered)
    (contained_in_order (extents_of objects addresses ++ reserved) run
    (contains_left (extents_of objects addresses) reserved run (extent_there objects addresses id at o there object)))

module _ {F : Type 0} (layout : F → Layout) (formats : List (Option (Policy F))) (of : ChainsState) (at_flip : List (Option Address))
    (done : CellSet) (v : Traced) (y : Collecting) (st : StateStands layout formats of at_flip done v.amc v.segs y)
    (summed : AreWordsSummed layout formats v.segs) (holder i : ℕ) (at : Address) (o : Object)
    (there : entry_at y.world.addresses holder ≡ Some at) (object : slice_get y.world.graph.objects holder ≡ Some o)
    (inside : i < size_of o) (later : 0 < i) (value : ℕ) where
  abbrev s : SegsState
  s = v.segs

  abbrev f : Layout
  f = pool_layout y.world o.pool

  aligned : at % 8 ≡ 0
  aligned = (st.image.placed.address holder at there).aligned

  over : (u : Segment) × (segment_over s.segments at ≡ Some u) × (u.pool ≡ o.pool)
  over =
      let e : address_of_word (word_of at) ≡ at = omega (arith, aligned) in
      over_of_pool (segment_over s.segments at) o.pool
      (ap (λ a. option_map (λ (u : Segment). u.pool) (segment_over s.segments a)) (sym e)
      ∙ st.image.placed.home holder 0 o (word_of at)
      (record { at = at; address = there; object = object; within = omega (arith, inside); is = omega arith }))

  abbrev u : Segment
  u = over.0

  abbrev grain : Grain
  grain = grain_of u.base

  within : grain < length s.summaries
  within = has_summary s st.held summed.sized at u aligned over.1

  abbrev words : List ℕ
  words = slice_set s.words (word_of at + i) value

  in_words : word_of at + i < length s.words
  in_words =
      let placed =
      st.image.placed.within holder i o (word_of at + i)
      (record { at = at; address = there; object = object; within = inside; is = refl })
      in
      omega (arith, placed, st.image.words.long)

  -- what another policy of a segment over it reads
  module _ (w : Segment) (format : Policy F) (over_w : segment_over s.segments (address_of_word (word_of at)) ≡ Some w)
      (listed : slice_get formats w.pool ≡ Some (Some format)) where
    same_segment : u ≡ w
    same_segment =
        let e : at ≡ address_of_word (word_of at) = omega (arith, aligned) in
        same_Some u w (sym over.1 ∙ ap (segment_over s.segments) e ∙ over_w)

    same_format : layout format.format ≡ f
    same_format =
        let pool : o.pool ≡ w.pool = sym over.2 ∙ ap (λ (q : Segment). q.pool) same_segment in
        st.pools.format_is o.pool format (ap (slice_get formats) pool ∙ listed)

  module _ (to : Address) (leads : f.target value ≡ to) where
    abbrev zones : List ℕ
    zones = noted s.summaries grain to within

    own : (w : Segment) (format : Policy F) → segment_over s.segments (address_of_word (word_of at)) ≡ Some w
        → slice_get formats w.pool ≡ Some (Some format)
        → IsTrue ((layout format.format).is_reference (slice_index s.words (word_of at)) i) → 0 < (layout format.format).target value
        → zones_meet (zone_bit_of ((layout format.format).target value)) (slice_index zones (grain_of w.base)) ≡ true
    own w format over_w listed reference some =
        let target_is : (layout format.format).target value ≡ to =
        ap (λ (g : Layout). g.target value) (same_format w format over_w listed) ∙ leads
        in
        let P : Address → Type 0 = λ a. zones_meet (zone_bit_of a) (slice_index zones (grain_of w.base)) ≡ true in
        let Q : Segment → Type 0 = λ q. zones_meet (zone_bit_of to) (slice_index zones (grain_of q.base)) ≡ true in
        subst P (sym target_is) (subst Q (same_segment w format over_w listed) (zone_noted s.summaries grain to within))

    written : AreWordsSummed layout formats (record s { words = words; summaries = zones })
    written = record {
      sized = length-set s.summaries grain _ ∙ summed.sized;
      each =
          write_summed layout formats s (words_of_arena s.grains) st.covered (extent at (size_of o))
          (block_there layout formats of at_flip done v y st holder at o there object) i value later inside in_words zones
          (λ w. others_noted s.summaries grain to within (grain_of w.base)) own summed.each;
    }

    pub written_noted : AreWordsSummed layout formats (noting (record s { words = words }) at to)
    written_noted =
        let P : SegsState → Type 0 = λ g. AreWordsSummed layout formats g in
        subst P
        (sym (ap (λ q. noting_in (record s { words = words }) (option_map (λ (p : Segment). grain_of p.base) q) to) over.1)) written

  -- a word that leads nowhere needs no note
  pub written_null : f.target value ≡ 0 → AreWordsSummed layout formats (record s { words = words })
  written_null null = record {
    sized = summed.sized;
    each =
        write_summed layout formats s (words_of_arena s.grains) st.covered (extent at (size_of o))
        (block_there layout formats of at_flip done v y st holder at o there object) i value later inside in_words s.summaries
        (λ w k h. h)
        (λ w format over_w listed reference some.
        let e : (layout format.format).target value ≡ 0 =
        ap (λ (g : Layout). g.target value) (same_format w format over_w listed) ∙ null
        in
        absurd (omega (arith, e, some))) summed.each;
  }
