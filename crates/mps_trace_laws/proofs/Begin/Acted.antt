-- The act of a flip, in words, is the abstract collector's: slots and messages are fixed, and the state stands before the first unit.
use Rattle.mps_trace_laws.proofs.Fix.NoFurther.{IsAsFar, as_far}
use Rattle.mps_trace_laws.proofs.Units.TwoLists.{all_due, mix}
use Rattle.std.proofs.Common.{◌≡◌, ◌∙◌, ◌<◌, false, refl, sym, ap, ap₂, subst, List, [], ◌∷◌, ◌++◌, length, Option, Some, arith, ◌-◌}
use Rattle.std.proofs.lemmas.List.{append_assoc, length-map}
use Rattle.std.specs.Option.{option_map_or}
use Rattle.std.specs.Prelude.{Bool, ℕ, IsTrue, map, slice_get}
use Rattle.std.specs.List.{flat_map}
use Rattle.mps_base.specs.Address.{Address, Id}
use Rattle.mps_base.specs.Segment.{Segment}
use Rattle.mps_base.specs.Trail.{Moves}
use Rattle.mps_buffer.specs.Points.{PointsState}
use Rattle.mps_trace.specs.State.{FinalsState}
use Rattle.mps_format.specs.Layout.{Layout}
use Rattle.mps_trace.specs.GenState.{ChainsState}
use Rattle.mps_root.specs.State.{RootsState}
use Rattle.mps_seg.specs.Segs.{SegsState}
use Rattle.mps_seg.specs.Collecting.{summary_at}
use Rattle.mps_model.specs.Effect.{condemned_by}
use Rattle.mps_model.specs.Flip.{flip_of, is_nothing}
use Rattle.mps_model.specs.Graph.{Graph, entry_at, for_object, is_weak_object}
use Rattle.mps_model.specs.World.{World, Pool, area_words, is_automatic_kind, is_copying_kind, is_copying_pool, generations_of, pool_is}
use Rattle.mps_abstract.specs.Colours.{is_black}
use Rattle.mps_abstract.specs.Collecting.{Collecting, is_reclaiming_band}
use Rattle.mps_abstract.specs.FlipLaws.{AreRemembered, FixesHeld}
use Rattle.mps_abstract.proofs.FlipActs.FlipBegins.{flip_done}
use Rattle.mps_abstract.proofs.FlipActs.Remembered.{remembered_is_enough}
use Rattle.mps_abstract.proofs.WholeCollections.WholePaths.{fixed_same}
use Rattle.mps_trace_laws.specs.Image.Image.{CellSet, black_cells}
use Rattle.mps_trace_laws.specs.Image.Memory.{pool_layout, live_reservation}
use Rattle.mps_trace.specs.Begin.{Begins, marked_at_flip}
use Rattle.mps_trace.specs.Flip.{condemned_of}
use Rattle.mps_trace.specs.Trace.{TraceState, Traced, traced}
use Rattle.mps_trace.specs.declared.running.Running.{Running as RunningState}
use Rattle.mps_trace_laws.specs.Fix.Steps.{IsSameGraph}
use Rattle.mps_trace_laws.specs.Fix.Tracing.{AreKnownPools, TracingStands}
use Rattle.mps_trace_laws.proofs.Fix.CellLists.{fewer_done}
use Rattle.mps_trace_laws.proofs.Fix.ScanRun.{shaped_still}
use Rattle.mps_trace_laws.specs.Nails.Nailed.{AreWordsShown, words_of_areas}
use Rattle.mps_trace_laws.specs.Roots.OneRoot.{AreFixed}
use Rattle.mps_trace_laws.specs.Roots.Beginning.{AreRootsFixed}
use Rattle.mps_trace_laws.specs.Roots.Housed.{AreRootsHoused}
use Rattle.mps_trace_laws.proofs.Roots.Beginning.{roots_are_steps, what_is_held_is_fixed}
use Rattle.mps_trace_laws.proofs.Roots.Housed.{roots_keep_housed}
use Rattle.mps_trace_laws.specs.Flip.Condemned.{AreMovesOf, CondemnsAlike, condemnation}
use Rattle.mps_trace.specs.declared.condemn.Condemn.{Condemn}
use Rattle.mps_trace_laws.specs.Begin.Condemning.{MayCondemn, collecting_at_flip, remembered_in}
use Rattle.mps_trace_laws.specs.Roots.Rows.{AreHeldAtFlip}
use Rattle.mps_trace_laws.specs.Roots.Tables.{AreTablesHeld}
use Rattle.mps_trace_laws.proofs.Begin.RootsHeld.{tables_as, messages_as}
use Rattle.mps_trace_laws.proofs.Flip.Condemned.{flip_is_the_models}
use Rattle.mps_trace_laws.proofs.Flip.Reservations.{no_reservation_is_live}
use Rattle.mps_trace_laws.specs.Units.Finals.{address_of_id, AreDue}
use Rattle.mps_trace_laws.proofs.Begin.FinalsThen.{AreFinalsAfter, messages_after, messages_are}
use Rattle.mps_trace_laws.specs.Units.Standing.{AreFinalsOf, AreCondemnedUnreserved, AreObjectsKnown, UnitStands, band_of, tracing}
use Rattle.mps_trace_laws.specs.Begin.Before.{StandsBefore}
use Rattle.mps_trace_laws.specs.Begin.Begun.{AFlipStands, AreRootsHeld, IsFlipStanding, IsActDone, ACollectionBegins}
use Rattle.mps_format.specs.declared.pool.Policy.{Policy}

-- ---- something is condemned

has_some : {A : Type 0} (xs : List A) → 0 < length xs → is_nothing xs ≡ false
has_some [] some = absurd (omega (arith, some))
has_some (x ∷ xs) some = refl

-- where segments are condemned in words, the model's flip condemns some
pub something_condemned : {F : Type 0} (formats : List (Option (Policy F))) (chains : ChainsState) (what : Condemn) (ts : List Segment)
    (w : World) → ts ≡ w.segments → CondemnsAlike formats chains what w → AreMovesOf formats (is_copying_pool w)
    → 0 < length (condemned_of formats chains what ts) → is_nothing (condemned_by w (condemnation what)) ≡ false
something_condemned formats chains what ts w same alike moves some =
    subst (λ (us : List Segment). is_nothing us ≡ false) (flip_is_the_models formats chains what ts w same alike moves).segments
    (has_some (condemned_of formats chains what ts) some)

-- ---- what fixes leave

abbrev is_copying_in : Id → Graph → List Pool → Bool
is_copying_in id g pools =
    for_object g id (λ o. option_map_or (λ (p : Pool). is_copying_kind p.kind) (slice_get pools o.pool) false) false

moving_still : {F : Type 0} (layout : F → Layout) (formats : List (Option (Policy F))) (of : ChainsState) (w w' : World) → IsSameGraph w w'
    → AreKnownPools layout formats of (pool_is is_automatic_kind w') (is_copying_pool w') (pool_layout w') (generations_of w')
    → AreObjectsKnown layout formats of w
    → AreObjectsKnown layout formats of w'
moving_still layout formats of w w' same pools moving = record {
  shaped = shaped_still w w' same moving.shaped;
  pools = pools;
  strong_moving = λ id copying.
      ap (λ (g : Graph). for_object g id is_weak_object false) same.graph
      ∙ moving.strong_moving id (sym (ap₂ (is_copying_in id) same.graph same.pools) ∙ copying);
  none_dependent = ap (λ (g : Graph). g.dependents) same.graph ∙ moving.none_dependent;
}

-- ---- the act

module _ {F : Type 0} (flip_stands : AFlipStands F) (layout : F → Layout) (t : TraceState F) (s : SegsState)
    (m : Moves) (points : PointsState) (roots roots' : RootsState) (finals finals' : FinalsState) (w : World)
    (rows : List (List (Option Id))) (z : Traced) (run : RunningState) (what : Condemn) (before : StandsBefore layout t s m points w)
    (may : MayCondemn t s w what)
    (words : AreWordsShown (words_of_areas roots.areas) (area_words w)) (held : AreRootsHeld w roots finals rows)
    (begins : Begins layout t.formats t.chains what points roots finals (traced t s m) roots' finals' z run) where
  abbrev y : Collecting
  y = collecting_at_flip s w what

  abbrev x : Traced
  x = marked_at_flip t.formats t.chains what points roots (traced t s m)

  abbrev done : CellSet
  done = black_cells y.running.condemned y.colours

  some : is_nothing (condemned_by w (condemnation what)) ≡ false
  some =
      something_condemned t.formats t.chains what s.segments w before.segments.segments.same_segments may.alike before.pools.moves
      begins.some

  flip : IsFlipStanding layout t s m w what x
  flip = flip_stands layout t s m points roots w what before may words some

  tables : AreTablesHeld w.addresses y roots rows
  tables = tables_as s w what roots finals rows held

  held_messages : AreHeldAtFlip w.addresses y finals.messages (map Some w.graph.messages)
  held_messages = messages_as s w what roots finals rows held

  told : AreRemembered y (remembered_in s w what)
  told = remembered_is_enough w (condemnation what) (summary_at s) before.objects.rest may.refers

  all : AreRootsFixed layout t.formats t.chains w.addresses done x z y roots roots' finals' rows w.graph.messages
  all =
      roots_are_steps layout t.formats t.chains w.addresses done x begins.before z y rows w.graph.messages roots roots' finals finals'
      flip.moving.shaped flip.traces tables held_messages begins.slots begins.messages

  abbrev fixed : AreFixed layout t.formats t.chains w.addresses done x z y
      (flat_map (λ row. row) rows ++ map Some w.graph.messages)
  fixed = all.fixed

  abbrev after : Collecting
  after = fixed.after

  -- each object lies in one segment of its rank then, and each grey block has the mark of its segment's rank
  kept : AreRootsHoused z after
  kept =
      roots_keep_housed layout t.formats t.chains w.addresses done x begins.before z y rows w.graph.messages roots roots' finals finals'
      flip.traces flip.housed flip.moving.strong_moving flip.ranked tables held_messages begins.slots begins.messages all

  fixes : FixesHeld w y fixed.moves after
  fixes =
      what_is_held_is_fixed layout t.formats t.chains w.addresses done x z y rows w.graph.messages roots roots' finals' w all held.all
      refl

  far : IsAsFar y after
  far = as_far fixes

  -- the cells of black objects are fixed: no object is black that wasn't
  traces : TracingStands layout t.formats t.chains w.addresses (black_cells after.running.condemned after.colours) z after
  traces =
      fewer_done layout t.formats t.chains w.addresses done (black_cells after.running.condemned after.colours) z after
      (λ id i is. fixed.leaves.black id (subst (λ ids. IsTrue (is_black ids after.colours id)) fixed.same_condemned is))
      fixed.stands

  unreserved : AreCondemnedUnreserved z.segs (is_copying_pool after.world) after.world.graph.points after.world.point_memories
  unreserved u there condemned copying point l r n lies =
      absurd ((no_reservation_is_live w.graph.points w.point_memories).not_live point r
      (ap (λ (g : Graph). live_reservation (entry_at g.points point)) (sym fixed.same.graph) ∙ lies.reserved))

  finals_after : AreFinalsAfter finals finals'
  finals_after =
      messages_after layout t.formats t.chains finals begins.before (length finals.messages) finals' z begins.messages

  nothing_examined : after.next ≡ 0
  nothing_examined = far.next

  registered_same : after.world.graph.registered ≡ w.graph.registered
  registered_same = ap (λ (g : Graph). g.registered) fixed.same.graph

  finals_then : AreFinalsOf w.addresses after finals'
  finals_then = record {
    registrations =
        finals_after.registered ∙ held.registered
        ∙ sym (all_due (address_of_id after.world.addresses) (address_of_id w.addresses) w.graph.registered)
        ∙ ap (λ (due : ℕ). mix (address_of_id after.world.addresses) (address_of_id w.addresses) 0 due w.graph.registered)
        (let long : length w.graph.registered ≡ length w.graph.registered - 0 = omega arith in long)
        ∙ ap₂ (λ (n : ℕ) (ids : List Id). mix (address_of_id after.world.addresses) (address_of_id w.addresses) n
        (length w.graph.registered - n) ids) (sym nothing_examined) (sym registered_same)
        ∙ ap (λ (b : ℕ). mix (address_of_id after.world.addresses) (address_of_id w.addresses) after.next (b - after.next)
        after.world.graph.registered) (sym (fixed_same fixes).registered_before);
    waiting =
        messages_are after finals'.messages w.graph.messages (finals_after.as_many ∙ held.waiting) all.messages
        ∙ ap (λ (g : Graph). map (address_of_id after.world.addresses) g.messages) (sym fixed.same.graph);
  }

  stands : UnitStands layout t.formats t.chains w.addresses z finals' run after
  stands = record {
    running =
        (flip_done w (condemnation what) (remembered_in s w what) fixed.moves after
        before.objects.rest may.numbered some told fixes).running;
    same_band = ap (λ (r : RunningState). band_of r.band) begins.run_is ∙ sym far.band;
    next = ap (λ (r : RunningState). r.next) begins.run_is ∙ sym nothing_examined;
    before =
        ap (λ (r : RunningState). r.registered_before) begins.run_is
        ∙ (ap (λ (xs : List Address). length xs) held.registered ∙ length-map w.graph.registered (address_of_id w.addresses))
        ∙ sym (fixed_same fixes).registered_before;
    finals = finals_then;
    due =
        subst (λ (n : ℕ). AreDue w.addresses after.world.graph.objects after.world.graph.registered n after.running.registered_before)
        (sym nothing_examined)
        (subst (λ (n : ℕ). AreDue w.addresses after.world.graph.objects after.world.graph.registered 0 n)
        (sym (fixed_same fixes).registered_before)
        (subst (λ (g : Graph). AreDue w.addresses g.objects g.registered 0 (length w.graph.registered)) (sym fixed.same.graph)
        before.objects.due));
    cursor = ap (λ (r : RunningState). r.cursor.0) begins.run_is ∙ sym far.cursor;
    moving = moving_still layout t.formats t.chains y.world after.world fixed.same fixed.stands.state.pools flip.moving;
    unreserved = unreserved;
    band = tracing (record {
      traces = traces;
      band = ap is_reclaiming_band far.band;
      housed = kept.housed;
      ranked = kept.ranked;
    });
  }

  pub act_done : IsActDone layout t s m w what rows roots roots' finals' z run
  act_done = record {
    first = fixed.moves;
    after = after;
    fixes = fixes;
    stands = stands;
    trail = fixed.trail ∙ ap (λ ms. ms ++ fixed.moves) flip.trail ∙ append_assoc m.moves (flip_of w (condemnation what) ∷ []) fixed.moves;
    slots = all.slots;
    messages = all.messages;
  }

pub a_collection_begins : {F : Type 0} → AFlipStands F → ACollectionBegins F
a_collection_begins flip_stands layout t s m points roots roots' finals finals' w rows z run what before may words held begins =
    act_done flip_stands layout t s m points roots roots' finals finals' w rows z run what before may words held begins
