-- The image of objects right after a flip, once words of areas have nailed blocks and what is remembered is grey.
use Rattle.std.proofs.Common.{◌≡◌, ◌∙◌, ℕ, zero, suc, Bool, true, false, List, [], ◌∷◌, map, Option, Some, None, refl, sym, ap, subst, inl, inr, arith}
use Rattle.std.proofs.lemmas.Bool.{cases_Bool, true≢false}
use Rattle.std.proofs.lemmas.Option.{none-some, same_Some}
use Rattle.std.specs.Prelude.{◌&&◌, ◌||◌, is_some, slice_get}
use Rattle.std.specs.List.{list_any}
use Rattle.std.specs.Option.{option_map_or}
use Rattle.mps_base.specs.Address.{Id, Word, word_of}
use Rattle.mps_base.specs.Run.{Run}
use Rattle.mps_base.specs.Segment.{Segment}
use Rattle.mps_base.specs.Trail.{Moves}
use Rattle.mps_format.specs.Layout.{Layout}
use Rattle.mps_buffer.specs.Points.{PointsState}
use Rattle.mps_root.specs.declared.roots.Stored.{Stored}
use Rattle.mps_seg.specs.Segs.{SegsState}
use Rattle.mps_trace.specs.Begin.{nailed_by_areas}
use Rattle.mps_trace.specs.Flip as flip
use Rattle.mps_trace.specs.Trace.{TraceState, traced}
use Rattle.mps_trace.specs.declared.condemn.Condemn.{Condemn}
use Rattle.mps_model.specs.Effect.{condemned_zones, doomed, without_buffer, world_flipped}
use Rattle.mps_model.specs.Graph.{Body, Automatic, Manual, Cell, HeadCell, NumberCell, ReferenceCell, Object, Point, contains, is_automatic_body, size_of, target_of_cell, targets_of, targets_of_body}
use Rattle.mps_model.specs.World.{World, PointMemory, area_words, is_word_in}
use Rattle.mps_abstract.specs.Collecting.{Collecting}
use Rattle.mps_trace_laws.specs.Flip.Condemned.{condemnation}
use Rattle.mps_trace_laws.specs.Image.Image.{ImageStands, black_cells, no_colours}
use Rattle.mps_trace_laws.specs.Image.Memory.{Setting, Lies, all_cells, is_condemned_word, memory_in, pool_layout, setting_at_rest, words_of_arena}
use Rattle.mps_trace_laws.proofs.Image.Marked.{begins_there}
use Rattle.mps_trace_laws.proofs.Flip.OpenEnded.{flip_leaves_runs}
use Rattle.mps_trace_laws.proofs.Flip.Reservations.{no_reservation_is_live}
use Rattle.mps_trace_laws.specs.Nails.Flipped.{IsFlipped, setting_flipped_in}
use Rattle.mps_trace_laws.specs.Nails.Nailed.{AreMarkedTo, AreWordsShown, ArePinned, colours_at_flip, is_moving_word, nails, pinned_colours, words_of_areas}
use Rattle.mps_trace_laws.proofs.Fix.Referring.{body_refers}
use Rattle.mps_trace_laws.proofs.Nails.Marks.{areas_marked}
use Rattle.mps_trace_laws.proofs.Nails.Remembered.{AreGreyToo, begins_in, each_grey, image_remembered}
use Rattle.mps_trace_laws.proofs.Nails.Flipped.{flip_pins}
use Rattle.mps_trace_laws.proofs.Nails.Modelled.{model_pins}
use Rattle.mps_trace_laws.specs.Begin.Before.{StandsBefore}
use Rattle.mps_trace_laws.specs.Begin.Condemning.{MayCondemn, collecting_at_flip, remembered_in}
use Rattle.mps_trace_laws.proofs.Begin.CondemnedIds.{condemned_is, condemns_here, its, over_its, remembered_is}
use Rattle.mps_trace_laws.proofs.Begin.FlippedSegments.{segments_flipped, condemns_words, moved, unmarked, whole}

-- ---- manual objects refer to nothing

numbers_refer_nowhere : (words : List ℕ) (i : ℕ) (c : Cell) (target : Id) → slice_get (map NumberCell words) i ≡ Some c
    → target_of_cell c ≡ Some target → ⊥
numbers_refer_nowhere [] i c target cell is = none-some c cell
numbers_refer_nowhere (n ∷ words) zero c target cell is =
    none-some target (subst (λ (x : Cell). target_of_cell x ≡ Some target) (sym (same_Some (NumberCell n) c cell)) is)
numbers_refer_nowhere (n ∷ words) (suc i) c target cell is = numbers_refer_nowhere words i c target cell is

manual_refers_nowhere : (body : Body) (i : ℕ) (c : Cell) (target : Id) → is_automatic_body body ≡ false
    → slice_get (all_cells body) i ≡ Some c → target_of_cell c ≡ Some target → ⊥
manual_refers_nowhere (Automatic head cells is_weak) i c target manual cell is = true≢false manual
manual_refers_nowhere (Manual words) i c target manual cell is = numbers_refer_nowhere words i c target cell is

-- what the cell of an automatic object refers to is one of its targets
cell_refers : (body : Body) (i : ℕ) (c : Cell) (target : Id) → is_automatic_body body ≡ true → slice_get (all_cells body) i ≡ Some c
    → target_of_cell c ≡ Some target → contains (targets_of_body body) target ≡ true
cell_refers body i HeadCell target automatic cell is = absurd (none-some target is)
cell_refers body i (NumberCell number) target automatic cell is = absurd (none-some target is)
cell_refers body i (ReferenceCell None tag) target automatic cell is = absurd (none-some target is)
cell_refers body i (ReferenceCell (Some other) tag) target automatic cell is =
    subst (λ n. contains (targets_of_body body) n ≡ true) (same_Some other target is) (body_refers body i other tag cell automatic)

module _ {F : Type 0} (layout : F → Layout) (t : TraceState F) (s : SegsState) (m : Moves) (points : PointsState) (w : World)
    (what : Condemn) (b : StandsBefore layout t s m points w) (may : MayCondemn t s w what) where
  abbrev pub resting : Setting
  resting = setting_at_rest s w.graph.objects w.graph.points w.point_memories (pool_layout w)

  abbrev g : SegsState
  g = segments_flipped layout t s m points w what b may

  abbrev y : Collecting
  y = collecting_at_flip s w what

  abbrev condemned : List Id
  condemned = y.running.condemned

  abbrev remembered : List Id
  remembered = remembered_in s w what

  abbrev points_after : List (Option Point)
  points_after = map doomed w.graph.points

  abbrev memories_after : List PointMemory
  memories_after = map without_buffer w.point_memories

  -- ---- objects and their segments

  -- each word of an object is condemned where its segment is
  word_condemned : (id k : ℕ) (o : Object) (n : Word) (l : Lies w.graph.objects w.addresses id k o n)
      → is_condemned_word g n ≡ condemns_here layout t s m points w b id l.at o l.address l.object what may
      (its layout t s m points w b id l.at o l.address l.object)
  word_condemned id k o n l =
      let word = l.is in
      let within = l.within in
      (condemns_words layout t s m points w what b may).words n (its layout t s m points w b id l.at o l.address l.object)
      (over_its layout t s m points w b id l.at o l.address l.object n (omega (arith, word)) (omega (arith, word, within)))

  object_condemned : (id k : ℕ) (o : Object) (n : Word) → Lies w.graph.objects w.addresses id k o n
      → contains condemned id ≡ is_condemned_word g n
  object_condemned id k o n l =
      condemned_is layout t s m points w b id l.at o l.address l.object what may ∙ sym (word_condemned id k o n l)

  -- what is neither condemned nor remembered refers to nothing condemned
  refers_outside : (id i : ℕ) (o : Object) (n : Word) (c : Cell) (target : Id) → contains condemned id ≡ false
      → contains remembered id ≡ false → Lies w.graph.objects w.addresses id i o n → slice_get (all_cells o.body) i ≡ Some c
      → target_of_cell c ≡ Some target → contains condemned target ≡ false
  refers_outside id i o n c target calm unlisted l cell is =
      elim (cases_Bool (is_automatic_body o.body)) [
        | inl automatic ↦
            may.refers id target (ap is_some l.address) calm unlisted
            (ap (λ (x : Option Object). contains (option_map_or targets_of x []) target) l.object
            ∙ cell_refers o.body i c target automatic cell is)
        | inr manual ↦ absurd (manual_refers_nowhere o.body i c target manual cell is)
      ]

  -- ---- what the flip leaves

  pub is_flipped : IsFlipped resting (memory_in s) g w.addresses points_after memories_after condemned remembered
  is_flipped =
      let placed = b.segments.image.placed in
      record {
        at_rest = refl;
        all_read = λ id. refl;
        words = (moved layout t s m points w what b may).words;
        pools = λ n. sym ((condemns_words layout t s m points w what b may).pools n);
        runs = flip_leaves_runs t.formats t.chains what points (traced t s m) resting w.addresses condemned (is_condemned_word g)
            (words_of_arena s.grains) b.segments.image.runs b.segments.covered b.reservations;
        doomed = (no_reservation_is_live w.graph.points w.point_memories).not_live;
        over = λ id i o n at l there.
            sym (object_condemned id i o n l)
            ∙ object_condemned id 0 o (word_of at) (begins_there resting w.addresses placed id at o there l.object);
        condemned_there = λ id at there.
            let o = placed.exists id at there in
            object_condemned id 0 o.0 (word_of at) (begins_there resting w.addresses placed id at o.0 there o.1);
        outside = refers_outside;
        tables = whole layout t s m points w what b may;
        unmarked = unmarked layout t s m points w what b may;
      }

  module _ (areas : List (Option (List Stored))) (shown : AreWordsShown (words_of_areas areas) (area_words w)) where
    abbrev pinned : List Id
    pinned = y.running.pinned

    abbrev setting_after : Setting
    setting_after = setting_flipped_in resting g w.addresses points_after memories_after condemned

    abbrev nailed : SegsState
    nailed = nailed_by_areas t.formats areas g

    pins : ArePinned w.graph.objects w.addresses (flip.moves_blocks t.formats) condemned pinned (words_of_areas areas)
    pins id at o there object =
        let inside : Bool → Stored → Bool = λ kind x. is_word_in kind at (size_of o) x.word in
        model_pins (world_flipped w (condemned_zones w (condemnation what))) (condemnation what) (words_of_areas areas) shown id at o there
        object
        ∙ ap (λ (kind : Bool). contains condemned id && list_any (inside kind) (words_of_areas areas)) (sym (b.pools.moves o.pool))

    image_pinned : ImageStands setting_after (memory_in nailed) w.addresses (pinned_colours pinned)
        (black_cells condemned (colours_at_flip pinned remembered))
    image_pinned =
        flip_pins resting (memory_in s) g w.addresses no_colours (black_cells [] no_colours) points_after memories_after condemned
        remembered b.segments.image is_flipped t.formats areas pinned pins

    -- nails change marks alone
    pub now : AreMarkedTo g nailed
        (λ n. nails g.blocks (is_condemned_word g) (is_moving_word t.formats g) (words_of_areas areas) n || false)
    now =
        areas_marked t.formats g areas (λ n. false) (whole layout t s m points w what b may) (unmarked layout t s m points w what b may)

    same_blocks : nailed.blocks ≡ s.blocks
    same_blocks = ap (λ (x : SegsState). x.blocks) now.same ∙ (moved layout t s m points w what b may).blocks

    -- the segments whose blocks are remembered
    abbrev pub these : List Segment
    these = flip.remembered_of t.formats t.chains what s

    pub marked : AreGreyToo nailed (flip.greying_each these nailed) (begins_in nailed.blocks these)
    marked = each_grey these nailed now.whole

    pub image_marked : ImageStands setting_after (memory_in (flip.greying_each these nailed)) w.addresses
        (colours_at_flip pinned remembered) (black_cells condemned (colours_at_flip pinned remembered))
    image_marked =
        image_remembered setting_after nailed w.addresses (black_cells condemned (colours_at_flip pinned remembered)) pinned remembered
        these image_pinned now.whole (λ id at there.
        let o = b.segments.image.placed.exists id at there in
        remembered_is layout t s m points w b what may id at o.0 there o.1
        ∙ ap (λ (rs : List Run). begins_in rs these (word_of at)) (sym same_blocks))
