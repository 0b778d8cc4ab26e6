-- Where a collection runs a heap has as many units left as the abstract collector.
use Rattle.std.proofs.Common.{◌≡◌, ◌∙◌, ◌+◌, ◌-◌, Bool, true, sym, ap, ap₂, subst, List, length, Option, Some, None, arith}
use Rattle.std.specs.Prelude.{◌&&◌, ◌||◌, count_by, filter, is_some, nat_le}
use Rattle.std.specs.Option.{option_map_or}
use Rattle.mps_base.specs.Address.{Address, Id, grain_of, word_of}
use Rattle.mps_base.specs.Run.{in_order}
use Rattle.mps_base.specs.Segment.{Segment}
use Rattle.mps_extents.specs.Table.{bit}
use Rattle.mps_format.specs.Layout.{Layout}
use Rattle.mps_model.specs.Graph.{Object, contains, entry_at, size_of}
use Rattle.mps_model.specs.Units.{is_ascending}
use Rattle.mps_model.specs.WellFormed.{IsWellFormed}
use Rattle.mps_model.specs.World.{World, extent, extents_of, live_ids, numbers_of}
use Rattle.mps_seg.specs.Segs.{SegsState}
use Rattle.mps_abstract.specs.ClientLaws.{AreApartFrom}
use Rattle.mps_abstract.specs.Colours.{Colours, is_grey, is_to_scan, is_white}
use Rattle.mps_abstract.specs.Collecting.{Collecting}
use Rattle.mps_abstract.specs.Collecting as abstract
use Rattle.mps_abstract.proofs.HeldSegments.{IsAmong, among_filtered, base_among, base_contained, bases_ascend, segments_ordered}
use Rattle.mps_abstract.proofs.WholeCollections.WholeBegins.{among_passing}
use Rattle.mps_trace.specs.declared.running.Running.{Running as RunningState}
use Rattle.mps_trace_laws.specs.Flip.Condemned.{bases_of}
use Rattle.mps_trace_laws.specs.Image.Image.{is_white_over}
use Rattle.mps_trace_laws.specs.Image.Memory.{is_condemned_word}
use Rattle.mps_heap_spec.specs.State.{HeapState}
use Rattle.mps_refinement.specs.StandsFor.{AreParts, Past, Runs, collector_of}
use Rattle.mps_refinement.specs.UnitsLeft.{blocks_left, condemned_left, is_block_to_scan, units_from, units_left}
use Rattle.mps_refinement.proofs.Left.Counting.{count-extents, count-filter, count-in_order, count-map, same-ascending}
use Rattle.mps_refinement.proofs.Parts.CommittedParts.{segment_there}
use Rattle.mps_refinement.proofs.Parts.SegmentsTaken.{condemned_held}

-- ---- blocks

-- the marks of segments tell these colours of the objects at these addresses
pub record TellsColours (s : SegsState) (addresses : List (Option Address)) (condemned : List Id) (k : Colours) : Type 0 where
  pub white : (id : Id) (at : Address) → entry_at addresses id ≡ Some at
      → is_white condemned k id ≡ is_white_over (is_condemned_word s) (bit s.marks.kept) (word_of at)
  pub grey : (id : Id) (at : Address) → entry_at addresses id ≡ Some at
      → is_grey k id ≡ (bit s.marks.exact (word_of at) || bit s.marks.weak (word_of at))

-- as many blocks may have to be scanned as live objects
pub blocks_alike : (s : SegsState) (os : List Object) (addresses : List (Option Address)) (condemned : List Id) (k : Colours)
    → length addresses ≡ length os → s.blocks ≡ in_order (extents_of os addresses) → TellsColours s addresses condemned k
    → blocks_left s ≡ count_by (is_to_scan condemned k) (numbers_of is_some 0 addresses)
blocks_alike s os addresses condemned k long blocks tells =
    ap (count_by (is_block_to_scan s)) blocks ∙ count-in_order (is_block_to_scan s) (extents_of os addresses)
    ∙ count-extents (is_block_to_scan s) (is_to_scan condemned k) 0 os addresses long (λ i o at object there.
    subst (λ n. is_block_to_scan s (extent at (size_of o)) ≡ is_to_scan condemned k n) (let same : i ≡ 0 + i = omega arith in same)
    (sym (ap₂ (λ x y. x || y) (tells.white i at there) (tells.grey i at there))))

-- ---- segments

-- the condemned ones of segments are those that begin at these addresses, and all of these are held
pub record AreBasesOf (condemned : Segment → Bool) (ss : List Segment) (bases : List Address) : Type 0 where
  pub same : (t : Segment) → IsAmong t ss → condemned t ≡ contains bases t.base
  pub held : (base : Address) → contains bases base ≡ true → (t : Segment) × IsAmong t ss × (t.base ≡ base)
  pub ascending : is_ascending 0 bases ≡ true

module _ (condemned : Segment → Bool) (ss : List Segment) (bases : List Address) (apart : AreApartFrom 1 ss)
    (are : AreBasesOf condemned ss bases) where
  bases_are : bases_of (filter condemned ss) ≡ bases
  bases_are =
      same-ascending 0 (bases_of (filter condemned ss)) bases (bases_ascend 0 1 condemned ss (omega arith) apart) are.ascending
      (λ n there.
      let b = base_among (filter condemned ss) n there in
      let held = among_filtered condemned b.segment ss b.among in
      ap (contains bases) (sym b.has_base) ∙ sym (are.same b.segment held.0) ∙ held.1)
      (λ n there.
      let u = are.held n there in
      let passes : condemned u.0 ≡ true = are.same u.0 u.1 ∙ ap (contains bases) u.2 ∙ there in
      ap (contains (bases_of (filter condemned ss))) (sym u.2)
      ∙ base_contained u.0 (filter condemned ss) (among_passing condemned u.0 ss u.1 passes))

  -- so as many are left from a cursor on
  pub segments_alike : (cursor : Address)
      → count_by (λ (t : Segment). condemned t && nat_le cursor t.base) ss ≡ count_by (nat_le cursor) bases
  segments_alike cursor =
      sym (count-filter condemned (λ (t : Segment). nat_le cursor t.base) ss)
      ∙ sym (count-map (λ (t : Segment). t.base) (nat_le cursor) (filter condemned ss)) ∙ ap (count_by (nat_le cursor)) bases_are

-- ---- all of it

module _ {F : Type 0} (layout : F → Layout) (past : Past) (h : HeapState F) (x : Collecting) (parts : AreParts layout past h x.world)
    (formed : IsWellFormed x.world) (r : Runs past.time (collector_of h) x.world x) where
  abbrev w : World
  w = x.world

  pub tells : TellsColours h.segs w.addresses x.running.condemned x.colours
  tells = record {
    white = λ id at there.
        sym (ap (λ cs. is_white cs x.colours id) r.condemned_ids) ∙ sym (ap (λ k. is_white past.time.condemned k id) r.colours)
        ∙ parts.image.marks.white_there id at there;
    grey = λ id at there. sym (ap (λ k. is_grey k id) r.colours) ∙ parts.image.marks.grey_there id at there;
  }

  pub are_bases : AreBasesOf (λ t. bit h.segs.condemned (grain_of t.base)) w.segments x.running.condemned_segments
  are_bases = record {
    same = λ t there. r.condemned t (segment_there t w.segments there);
    held = λ base is. let u = condemned_held x r.invariant base is in (u.0, u.1, u.2);
    ascending = r.invariant.condemned.bases;
  }

  pub blocks_so : blocks_left h.segs ≡ abstract.objects_left x.running.condemned x.colours (live_ids w)
  blocks_so =
      blocks_alike h.segs w.graph.objects w.addresses x.running.condemned x.colours formed.addresses parts.image.runs.blocks tells

  pub segments_so : (cursor : Address)
      → condemned_left h.segs cursor ≡ abstract.segments_left x.running.condemned_segments cursor
  segments_so cursor =
      ap (count_by (λ (t : Segment). bit h.segs.condemned (grain_of t.base) && nat_le cursor t.base)) parts.segments
      ∙ segments_alike (λ t. bit h.segs.condemned (grain_of t.base)) w.segments x.running.condemned_segments (segments_ordered w formed)
      are_bases cursor

  pub units_alike : units_left h ≡ abstract.units_left x
  units_alike =
      let now = ap (λ (o : Option RunningState). option_map_or (units_from h.segs) o 0) r.running in
      let before = r.as_far.registered_before in
      let next = r.as_far.next in
      let segments = ap (condemned_left h.segs) r.as_far.cursor ∙ segments_so x.cursor in
      now ∙ ap₂ (λ a b. a + b)
      (ap₂ (λ a b. a + b) blocks_so (ap₂ (λ a b. a - b) before next)) segments

-- the same of a heap whose parts represent a well-formed world
pub units_in_state : {F : Type 0} (layout : F → Layout) (past : Past) (h : HeapState F) (w : World) → AreParts layout past h w
    → IsWellFormed w → (x : Collecting) → Runs past.time (collector_of h) w x → units_left h ≡ abstract.units_left x
units_in_state layout past h w parts formed x r =
    units_alike layout past h x (subst (AreParts layout past h) (sym r.world) parts) (subst IsWellFormed (sym r.world) formed)
    (subst (λ v. Runs past.time (collector_of h) v x) (sym r.world) r)

-- at rest none is left
pub none_at_rest : {F : Type 0} (h : HeapState F) → h.running ≡ None → units_left h ≡ 0
none_at_rest h none = ap (λ (o : Option RunningState). option_map_or (units_from h.segs) o 0) none
