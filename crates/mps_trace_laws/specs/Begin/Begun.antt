-- What the begin of a collection, in words, is to the abstract collector.
use Rattle.std.specs.Prelude.{◌≡◌, ℕ, ◌+◌, ◌≤◌, false, IsTrue, Option, Some, List, [], ◌∷◌, ◌++◌, map, length, slice_get, slice_index_or}
use Rattle.std.specs.List.{flat_map}
use Rattle.mps_base.specs.Address.{Id}
use Rattle.mps_base.specs.Trail.{Moves}
use Rattle.mps_base.specs.declared.moves.Move.{Move}
use Rattle.mps_format.specs.Layout.{Layout}
use Rattle.mps_seg.specs.Segs.{SegsState}
use Rattle.mps_buffer.specs.Points.{PointsState}
use Rattle.mps_trace.specs.State.{FinalsState}
use Rattle.mps_root.specs.State.{RootsState}
use Rattle.mps_model.specs.Effect.{Condemnation, Everything, condemned_by, world_after_moves}
use Rattle.mps_model.specs.Flip.{flip_act, flip_of, is_nothing}
use Rattle.mps_model.specs.Graph.{entries, ids_in_slots}
use Rattle.mps_model.specs.World.{World, area_words, is_copying_pool, live_ids}
use Rattle.mps_abstract.specs.Collecting.{Collecting, units_left}
use Rattle.mps_abstract.specs.FlipLaws.{collecting_after_flip, FixesHeld}
use Rattle.mps_trace_laws.specs.Image.AtRest.{StandsAtRest}
use Rattle.mps_trace_laws.specs.Image.Image.{black_cells}
use Rattle.mps_trace.specs.Begin.{marked_at_flip, Begins, EndsAtOnce}
use Rattle.mps_trace.specs.Roots.{key_at, slot_of}
use Rattle.mps_trace.specs.Trace.{TraceState, Traced, traced}
use Rattle.mps_trace.specs.declared.condemn.Condemn.{Condemn}
use Rattle.mps_trace.specs.declared.running.Running.{Running as RunningState}
use Rattle.mps_trace_laws.specs.Fix.Housed.{AreHoused}
use Rattle.mps_trace_laws.specs.Fix.Ranks.{AreMarksRanked}
use Rattle.mps_trace_laws.specs.Fix.Tracing.{TracingStands}
use Rattle.mps_trace_laws.specs.Nails.Nailed.{AreWordsShown, words_of_areas}
use Rattle.mps_trace_laws.specs.Roots.OneRoot.{IsWhere}
use Rattle.mps_trace_laws.specs.Roots.Rows.{AreHeldAtFlip}
use Rattle.mps_trace_laws.specs.Roots.Tables.{AreTablesHeld}
use Rattle.mps_trace_laws.specs.Units.Finals.{address_of_id}
use Rattle.mps_trace_laws.specs.Units.Standing.{AreObjectsKnown, AreCondemnedUnreserved, UnitStands}
use Rattle.mps_trace_laws.specs.Begin.Before.{StandsBefore}
use Rattle.mps_trace_laws.specs.Begin.Condemning.{MayCondemn, collecting_at_flip}
use Rattle.mps_trace_laws.specs.Flip.Condemned.{condemnation}

-- ---- the flip and the nails

-- right after the flip, with the blocks nailed in which area words lie, and what is remembered grey, the state represents the abstract
-- collector right after the model's flip
pub record IsFlipStanding {F : Type 0} (layout : F → Layout) (t : TraceState F) (s : SegsState) (m : Moves) (w : World) (what : Condemn)
    (x : Traced) : Type 0 where
  pub traces : TracingStands layout t.formats t.chains w.addresses
      (black_cells (collecting_at_flip s w what).running.condemned (collecting_at_flip s w what).colours) x (collecting_at_flip s w what)
  pub housed : AreHoused w.graph.objects x.segs.segments w.addresses
  pub ranked : AreMarksRanked x.segs
  pub moving : AreObjectsKnown layout t.formats t.chains (collecting_at_flip s w what).world
  pub unreserved : AreCondemnedUnreserved x.segs (is_copying_pool (collecting_at_flip s w what).world)
      (collecting_at_flip s w what).world.graph.points (collecting_at_flip s w what).world.point_memories
  pub trail : x.moves.moves ≡ m.moves ++ flip_of w (condemnation what) ∷ []

-- if something is condemned
abbrev pub AFlipStands : (F : Type 0) → Type 0
AFlipStands F =
    (layout : F → Layout) (t : TraceState F) (s : SegsState) (m : Moves) (points : PointsState) (roots : RootsState) (w : World)
    (what : Condemn) → StandsBefore layout t s m points w → MayCondemn t s w what
    → AreWordsShown (words_of_areas roots.areas) (area_words w) → is_nothing (condemned_by w (condemnation what)) ≡ false
    → IsFlipStanding layout t s m w what (marked_at_flip t.formats t.chains what points roots (traced t s m))

-- ---- roots

-- the tables in order, messages and registrations hold what those of a world do. What a flip condemns changes none of it, so a full one
-- serves for all
pub record AreRootsHeld (w : World) (roots : RootsState) (finals : FinalsState) (rows : List (List (Option Id))) : Type 0 where
  pub tables : AreTablesHeld w.addresses (collecting_after_flip w Everything []) roots rows
  pub messages : AreHeldAtFlip w.addresses (collecting_after_flip w Everything []) finals.messages (map Some w.graph.messages)
  pub all : entries (flat_map (λ row. row) rows) ≡ ids_in_slots w.graph
  pub waiting : length finals.messages ≡ length w.graph.messages
  pub registered : finals.registered ≡ map (address_of_id w.addresses) w.graph.registered

-- the act of the flip is done, by the moves of the trail: the state represents the abstract collector before its first unit, and slots and
-- messages hold where their objects are then
pub record IsActDone {F : Type 0} (layout : F → Layout) (t : TraceState F) (s : SegsState) (m : Moves) (w : World) (what : Condemn)
    (rows : List (List (Option Id))) (roots roots' : RootsState) (finals' : FinalsState) (z : Traced) (run : RunningState) : Type 0 where
  pub first : List Move
  pub after : Collecting
  pub fixes : FixesHeld w (collecting_at_flip s w what) first after
  pub stands : UnitStands layout t.formats t.chains w.addresses z finals' run after
  pub trail : z.moves.moves ≡ m.moves ++ flip_of w (condemnation what) ∷ first
  pub slots : (n : ℕ) (row : List (Option Id)) → slice_get rows n ≡ Some row → (i : ℕ) (target : Option Id)
      → slice_get row i ≡ Some target → IsWhere after (slot_of roots' (key_at roots n) i) target
  pub messages : (i : ℕ) (target : Option Id) → slice_get (map Some w.graph.messages) i ≡ Some target
      → IsWhere after (slice_index_or finals'.messages i 0) target

-- a collection that begins is the act of the model's flip
abbrev pub ACollectionBegins : (F : Type 0) → Type 0
ACollectionBegins F =
    (layout : F → Layout) (t : TraceState F) (s : SegsState) (m : Moves) (points : PointsState) (roots roots' : RootsState)
    (finals finals' : FinalsState) (w : World) (rows : List (List (Option Id))) (z : Traced) (run : RunningState) (what : Condemn)
    → StandsBefore layout t s m points w → MayCondemn t s w what → AreWordsShown (words_of_areas roots.areas) (area_words w)
    → AreRootsHeld w roots finals rows
    → Begins layout t.formats t.chains what points roots finals (traced t s m) roots' finals' z run
    → IsActDone layout t s m w what rows roots roots' finals' z run

-- ---- if nothing is condemned

-- the collection is over at once, as in the model
pub record IsOverAtOnce (m : Moves) (w : World) (what : Condemn) (z : Traced) : Type 0 where
  pub nothing : IsTrue (is_nothing (condemned_by w (condemnation what)))
  pub stands : StandsAtRest z.segs (world_after_moves w (flip_act w (condemnation what)))
  pub trail : z.moves.moves ≡ m.moves ++ flip_act w (condemnation what)

abbrev pub ACollectionOfNothingEnds : (F : Type 0) → Type 0
ACollectionOfNothingEnds F =
    (layout : F → Layout) (t : TraceState F) (s : SegsState) (m : Moves) (points : PointsState) (roots roots' : RootsState)
    (finals finals' : FinalsState) (w : World) (z : Traced) (what : Condemn) → StandsBefore layout t s m points w
    → MayCondemn t s w what
    → EndsAtOnce t.formats t.chains what points roots finals (traced t s m) roots' finals' z → IsOverAtOnce m w what z

-- ---- units

-- there are no more units than live objects, registrations and segments
abbrev pub UnitsAreFew : Type 0
UnitsAreFew =
    (w : World) (what : Condemnation) (others : List Id) (first : List Move) (y : Collecting)
    → FixesHeld w (collecting_after_flip w what others) first y
    → units_left y ≤ length (live_ids w) + length w.graph.registered + length w.segments
