-- The begin of a collection keeps each word summed: a flip writes no word and takes no zone away, and what is fixed then is noted.
use Rattle.std.proofs.Common.{◌≡◌, ◌∙◌, ℕ, ◌+◌, List, ◌++◌, length, slice_index, Contains, sym, ap, subst}
use Rattle.std.proofs.lemmas.List.{append-nil}
use Rattle.std.specs.List.{AllByRecursion}
use Rattle.mps_base.specs.Address.{grain_of, address_of_word}
use Rattle.mps_base.specs.Run.{Run, in_order}
use Rattle.mps_base.specs.Segment.{segment_over}
use Rattle.mps_base.specs.Trail.{Moves}
use Rattle.mps_buffer.specs.Points.{PointsState}
use Rattle.mps_format.specs.Layout.{Layout}
use Rattle.mps_root.specs.State.{RootsState}
use Rattle.mps_seg.specs.Segs.{SegsState}
use Rattle.mps_model.specs.Graph.{size_of}
use Rattle.mps_model.specs.World.{World, area_words, extent, extents_of, reserved_extents}
use Rattle.mps_laws.proofs.Positions.ApartRuns.{all_in_order}
use Rattle.mps_trace.specs.Begin.{marked_at_flip}
use Rattle.mps_trace.specs.Trace.{Traced, TraceState, traced}
use Rattle.mps_trace.specs.declared.condemn.Condemn.{Condemn}
use Rattle.mps_trace_laws.specs.Begin.Before.{StandsBefore}
use Rattle.mps_trace_laws.specs.Begin.Condemning.{MayCondemn, collecting_at_flip}
use Rattle.mps_trace_laws.specs.Image.Image.{black_cells}
use Rattle.mps_trace_laws.specs.Nails.Nailed.{AreWordsShown, words_of_areas}
use Rattle.mps_trace_laws.specs.Summaries.Laws.{ABeginKeepsSummaries}
use Rattle.mps_trace_laws.specs.Summaries.Summed.{AreWordsSummed}
use Rattle.mps_xform.specs.Summed.{IsRunSummed}
use Rattle.mps_trace_laws.proofs.Image.BlockRuns.{all_contained, contained_in_order, extent_there}
use Rattle.mps_trace_laws.proofs.Image.Extents.{all_extents}
use Rattle.mps_trace_laws.proofs.Begin.Acted.{something_condemned}
use Rattle.mps_trace_laws.proofs.Begin.FlippedSegments.{segments_flipped, moved}
use Rattle.mps_trace_laws.proofs.Begin.FlipStands.{flip_stands, image, none_live, same, same_grains, same_segments}
use Rattle.mps_trace_laws.proofs.Begin.RootsHeld.{tables_as, messages_as}
use Rattle.mps_trace_laws.proofs.Reclaim.Around.{contains_left}
use Rattle.mps_trace_laws.proofs.Summaries.Roots.{roots_summed}

module _ {F : Type 0} (layout : F → Layout) (t : TraceState F) (s : SegsState) (m : Moves) (points : PointsState) (roots : RootsState)
    (w : World) (what : Condemn) (b : StandsBefore layout t s m points w) (may : MayCondemn t s w what)
    (shown : AreWordsShown (words_of_areas roots.areas) (area_words w)) (summed : AreWordsSummed layout t.formats s) where
  abbrev z : Traced
  z = marked_at_flip t.formats t.chains what points roots (traced t s m)

  abbrev g : SegsState
  g = segments_flipped layout t s m points w what b may

  is : z.segs ≡ record g { marks = z.segs.marks }
  is = same layout t s m points roots w what b may shown

  same_words : z.segs.words ≡ s.words
  same_words = ap (λ (x : SegsState). x.words) is ∙ (moved layout t s m points w what b may).words

  same_summaries : z.segs.summaries ≡ s.summaries
  same_summaries = ap (λ (x : SegsState). x.summaries) is ∙ (moved layout t s m points w what b may).summaries

  abbrev extents : List Run
  extents = extents_of w.graph.objects w.addresses

  -- what is covered then was covered before
  abbrev WasCovered : Run → Type 0
  WasCovered r = Contains s.covered r

  all_covered : AllByRecursion WasCovered z.segs.covered
  all_covered =
      let reserved = reserved_extents w.graph.points w.point_memories in
      let none = (none_live layout t s m points roots w what b may shown).extents in
      let covered_is : z.segs.covered ≡ in_order extents =
      (image layout t s m points roots w what b may shown).runs.covered
      ∙ ap (λ (rs : List Run). in_order (extents ++ rs)) none
      ∙ ap in_order (append-nil extents)
      in
      subst (AllByRecursion WasCovered) (sym covered_is)
      (all_in_order WasCovered extents
      (all_extents WasCovered w.graph.objects w.addresses (λ id a o e object.
      subst (λ rs. Contains rs (extent a (size_of o))) (sym b.segments.image.runs.covered)
      (contained_in_order (extents ++ reserved) (extent a (size_of o))
      (contains_left extents reserved (extent a (size_of o)) (extent_there w.graph.objects w.addresses id a o e object))))))

  pub flip_summed : AreWordsSummed layout t.formats z.segs
  flip_summed = record {
    sized =
        ap (λ (ss : List ℕ). length ss) same_summaries ∙ summed.sized
        ∙ ap (λ n. n + 1) (sym (same_grains layout t s m points roots w what b may shown));
    each = λ r u format there over listed.
        let f = layout format.format in
        let before = all_contained WasCovered z.segs.covered r all_covered there in
        let over_before =
        ap (λ ss. segment_over ss (address_of_word r.from)) (sym (same_segments layout t s m points roots w what b may shown)) ∙ over
        in
        let P : List ℕ → Type 0 = λ ws. IsRunSummed f ws (slice_index z.segs.summaries (grain_of u.base)) r in
        let Q : List ℕ → Type 0 = λ ss. IsRunSummed f s.words (slice_index ss (grain_of u.base)) r in
        subst P (sym same_words) (subst Q (sym same_summaries) (summed.each r u format before over_before listed));
  }

pub begin_keeps : {F : Type 0} → ABeginKeepsSummaries F
begin_keeps layout t s m points roots roots' finals finals' w rows z run what before may words held summed begins =
    let y = collecting_at_flip s w what in
    let x = marked_at_flip t.formats t.chains what points roots (traced t s m) in
    let some =
    something_condemned t.formats t.chains what s.segments w before.segments.segments.same_segments may.alike before.pools.moves begins.some
    in
    let flip = flip_stands layout t s m points roots w what before may words some in
    roots_summed layout t.formats t.chains w.addresses (black_cells y.running.condemned y.colours) x begins.before z y rows w.graph.messages
    roots roots' finals finals' flip.moving.shaped flip.traces (tables_as s w what roots finals rows held)
    (messages_as s w what roots finals rows held)
    (flip_summed layout t s m points roots w what before may words summed) begins.slots begins.messages
