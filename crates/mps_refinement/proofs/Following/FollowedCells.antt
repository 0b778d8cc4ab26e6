-- A cell of a dependent is cleared as a heap follows the splat of its holder: the heap then represents the world in which it is null,
-- whether the dependent lives, and is white, or lies nowhere any more.
use Rattle.std.proofs.Common.{◌≡◌, ◌∙◌, ℕ, ◌+◌, Bool, true, false, true≢false, refl, sym, ap, subst, List, Option, Some, None, arith}
use Rattle.std.proofs.lemmas.Bool.{and_parts, eqb-true, false≢true}
use Rattle.std.proofs.lemmas.Option.{none-some, same_Some}
use Rattle.std.specs.Prelude.{◌&&◌, ◌==◌, if◌then◌else◌, not, option_and_then, slice_get, slice_index, slice_set}
use Rattle.std.specs.Option.{option_map_or}
use Rattle.mps_base.specs.Address.{Address, Id, address_of_word, word_of}
use Rattle.mps_base.specs.Run.{Run, in_order}
use Rattle.mps_abstract.specs.Collecting.{is_reclaiming_band}
use Rattle.mps_abstract.specs.Colours.{is_grey, is_white}
use Rattle.mps_dep.specs.Following.{begins_block, nulled}
use Rattle.mps_extents.specs.Extents.{run_over}
use Rattle.mps_extents.specs.Table.{bit}
use Rattle.mps_format.specs.Layout.{Layout}
use Rattle.mps_format.specs.Pools.{format_of_pool}
use Rattle.mps_laws.proofs.Positions.LegalMoves.{HasLayout}
use Rattle.mps_laws.proofs.Sound.SoundGraph.{IsSoundGraph}
use Rattle.mps_model.specs.Checked.{with_graph}
use Rattle.mps_model.specs.Effect.{graph_nulled}
use Rattle.mps_model.specs.Graph.{Object, entry_at, is_automatic}
use Rattle.mps_model.specs.World as world
use Rattle.mps_model.specs.World.{World, object_is}
use Rattle.mps_seg.specs.Collecting.{is_condemned_at, is_white_at}
use Rattle.mps_trace.specs.declared.running.Band.{Band}
use Rattle.mps_trace.specs.declared.running.Band.TheVariants as band
use Rattle.mps_trace.specs.declared.running.Running.{Running as RunningState}
use Rattle.mps_heap_spec.specs.Finding.{with_words}
use Rattle.mps_heap_spec.specs.Following.{is_passed_by, is_reclaim, is_reclaiming, splat_followed, with_dependent_nulled}
use Rattle.mps_heap_spec.specs.State.{HeapState, format_over, pool_over}
use Rattle.mps_heap_spec.specs.declared.found.Block.{Block}
use Rattle.mps_refinement.specs.StandsFor.{AreParts, CollectorState, IsInTime, Past, Time, band_of, rests, runs, setting_at}
use Rattle.mps_refinement.proofs.Following.Unread.{unread_cleared}
use Rattle.mps_refinement.proofs.Following.Words.{cell_cleared}
use Rattle.mps_refinement.proofs.Lookups.Blocks.{over_object}
use Rattle.mps_refinement.proofs.Lookups.LiveObjects.{IsObject, automatic_there, block_there, format_there, numbered_object, object_read}
use Rattle.mps_refinement.proofs.Lookups.WordsInObjects.{body_of_kind}

-- ---- which words are read

-- those of all objects, but for white ones once segments are reclaimed
pub record ReadsBy (t : Time) (running : Option RunningState) : Type 0 where
  pub early : is_reclaiming running ≡ false → (id : Id) → t.is_read id ≡ true
  pub late : is_reclaiming running ≡ true → (id : Id) → t.is_read id ≡ not (is_white t.condemned t.colours id)

same_band : (b : Band) → is_reclaiming_band (band_of b) ≡ is_reclaim b
same_band band.Exact = refl
same_band band.Final = refl
same_band band.Weak = refl
same_band band.Reclaim = refl

pub reads_by : (t : Time) (s : CollectorState) (w : World) → IsInTime t s w → ReadsBy t s.running
reads_by t s w (rests r) = record {
  early = λ e id. ap (λ (u : Time). u.is_read id) r.time;
  late = λ e id. absurd (false≢true (sym (ap is_reclaiming r.not_running) ∙ e));
}
reads_by t s w (runs x r) = of_time t.is_reclaiming refl
  where
    band_is : is_reclaiming s.running ≡ is_reclaiming_band x.band
    band_is = ap is_reclaiming r.running ∙ sym (same_band r.run.band) ∙ ap is_reclaiming_band r.as_far.band

    of_time : (b : Bool) → t.is_reclaiming ≡ b → ReadsBy t s.running
    of_time false e =
        let its = r.tracing e in
        record {
          early = λ early id. ap (λ (test : Id → Bool). test id) its.read;
          late = λ late id. absurd (true≢false (sym late ∙ band_is ∙ its.band));
        }
    of_time true e =
        let its = r.reclaiming e in
        record {
          early = λ early id. absurd (false≢true (sym early ∙ band_is ∙ its.band));
          late = λ late id. ap (λ (test : Id → Bool). test id) its.read;
        }

-- ---- a cell of a dependent

module _ {F : Type 0} (layout : F → Layout) (past : Past) (h : HeapState F) (w : World) (parts : AreParts layout past h w)
    (sound : IsSoundGraph w) (laid : HasLayout (w.grains + 1) w) (reads : ReadsBy past.time h.running) (id : Id) (at : Address)
    (cell : ℕ) where
  abbrev Cleared : HeapState F → Type 0
  Cleared g = AreParts layout past g (with_graph w (graph_nulled w.graph id cell))

  -- where it lies there
  module _ (there : entry_at w.addresses id ≡ Some at) (automatic : object_is is_automatic w id ≡ true) where
    white_is : is_white past.time.condemned past.time.colours id ≡ is_white_at h.segs at
    white_is =
        parts.image.marks.white_there id at there
        ∙ ap (λ a. is_condemned_at h.segs a && not (bit h.segs.marks.kept (word_of at)))
        (let aligned = (parts.image.placed.address id at there).aligned in omega (arith, aligned))

    passed_by : is_passed_by h at ≡ true → Cleared h
    passed_by passed =
        let both = and_parts (is_reclaiming h.running) (is_white_at h.segs at) passed in
        let white = white_is ∙ both.1 in
        unread_cleared layout past h w parts id cell (λ a lies. (
          λ read. false≢true (sym (reads.late both.0 id ∙ ap not white) ∙ read),
          λ black. false≢true (sym (ap (λ b. not b && not (is_grey past.time.colours id)) white) ∙ black),
        ))

    read_now : is_passed_by h at ≡ false → past.time.is_read id ≡ true
    read_now others = of_band (is_reclaiming h.running) refl others
      where
        of_band : (b : Bool) → is_reclaiming h.running ≡ b → (b && is_white_at h.segs at) ≡ false → past.time.is_read id ≡ true
        of_band false e other = reads.early e id
        of_band true e other = reads.late e id ∙ ap not (white_is ∙ other)

    -- its format, by which it is cleared, is that of its pool
    module _ (b : Block F) (o : Object) (is : IsObject layout past h w b (numbered_object id o)) where
      right_there : is_automatic o ≡ true
      right_there = automatic_there layout past h w parts sound.objects id o is.object automatic

      format : (format : F) × (format_of_pool is.block.pool ≡ Some format) × (w.formats is.block.models.format ≡ layout format)
      format =
          format_there layout w.formats is.block.pool is.block.models is.block.fit
          (sym (body_of_kind w is.block.models o.body is.block.right) ∙ right_there)

      same_layout : layout b.format ≡ layout format.0
      same_layout =
          sym is.layout_is
          ∙ ap (λ found. w.formats (option_map_or (λ (x : world.Pool). x.format) found 0)) is.block.has
          ∙ format.2

      same_address : b.at ≡ at
      same_address = same_Some b.at at (sym is.address ∙ there)

      over : format_over h at ≡ Some format.0
      over =
          ap (λ a. option_and_then format_of_pool (pool_over h a)) (sym same_address)
          ∙ ap (option_and_then format_of_pool) is.block.pool_is
          ∙ format.1

      object_cleared : Cleared (with_dependent_nulled layout h at cell)
      object_cleared =
          subst (λ found. Cleared (option_map_or (λ f. with_words h (nulled (layout f) h.segs at cell)) found h)) (sym over)
          (subst (λ a. Cleared (with_words h (nulled (layout format.0) h.segs a cell))) same_address
          (subst (λ (f : Layout). Cleared (with_words h (nulled f h.segs b.at cell))) same_layout
          (cell_cleared layout past h w parts laid b (numbered_object id o) is cell)))

    not_passed : is_passed_by h at ≡ false → Cleared (with_dependent_nulled layout h at cell)
    not_passed others =
        let b = block_there layout past h w parts sound.objects id at there in
        let x =
        object_read layout past h w parts sound.objects id at b.0 (read_now others) there b.1
        (automatic_there layout past h w parts sound.objects id b.0 b.1.object automatic) in
        object_cleared x.0 b.0 x.2

    pub live_cleared : Cleared (splat_followed layout h (Some at) cell)
    live_cleared = of_test (is_passed_by h at) refl
      where
        of_test : (b : Bool) → is_passed_by h at ≡ b → Cleared (if b then h else with_dependent_nulled layout h at cell)
        of_test true e = passed_by e
        of_test false e = not_passed e

  -- where it lies nowhere any more, and nothing else lies where it lay
  module _ (gone : entry_at w.addresses id ≡ None) (empty : (j : Id) → entry_at w.addresses j ≡ Some at → ⊥) where
    abbrev runs_there : List Run
    runs_there = in_order (world.extents_of w.graph.objects w.addresses)

    none_begins : begins_block h.segs.blocks at ≡ false
    none_begins =
        ap (λ rs. option_map_or (λ from. address_of_word from == at) (run_over rs (word_of at)) false) parts.image.runs.blocks
        ∙ of_run (run_over runs_there (word_of at)) refl
      where
        of_run : (o : Option ℕ) → run_over runs_there (word_of at) ≡ o
            → option_map_or (λ from. address_of_word from == at) o false ≡ false
        of_run None e = refl
        of_run (Some from) e = of_test (address_of_word from == at) refl
          where
            of_test : (b : Bool) → (address_of_word from == at) ≡ b → b ≡ false
            of_test false test = refl
            of_test true test =
                let found = over_object (setting_at past.time h.segs w) w.addresses parts.image.placed (word_of at) from e in
                let aligned = (parts.image.placed.address found.id found.lies.at found.lies.address).aligned in
                let begins = found.begins in
                let same : address_of_word from ≡ at = eqb-true (address_of_word from) at test in
                let here : found.lies.at ≡ at = omega (arith, aligned, begins, same) in
                absurd (empty found.id (found.lies.address ∙ ap Some here))

    still : (f : Layout) → nulled f h.segs at cell ≡ h.segs.words
    still f =
        ap (λ b. if b && option_map_or (λ head. f.is_valid head && f.is_reference head cell) (slice_get h.segs.words (word_of at)) false
        then slice_set h.segs.words (word_of at + cell) (f.retarget (slice_index h.segs.words (word_of at + cell)) 0)
        else h.segs.words) none_begins

    same_heap : with_dependent_nulled layout h at cell ≡ h
    same_heap = of_format (format_over h at)
      where
        of_format : (o : Option F) → option_map_or (λ f. with_words h (nulled (layout f) h.segs at cell)) o h ≡ h
        of_format None = refl
        of_format (Some f) = ap (with_words h) (still (layout f))

    pub gone_cleared : Cleared (splat_followed layout h (Some at) cell)
    gone_cleared = of_test (is_passed_by h at)
      where
        unchanged : Cleared h
        unchanged = unread_cleared layout past h w parts id cell (λ a lies. absurd (none-some a (sym gone ∙ lies)))

        of_test : (b : Bool) → Cleared (if b then h else with_dependent_nulled layout h at cell)
        of_test true = unchanged
        of_test false = subst Cleared (sym same_heap) unchanged
