-- A collection of everything of a heap at rest in which no object has a dependent, and that it keeps the room of its trail.
use Rattle.std.proofs.Common.{◌≡◌, ◌∙◌, ℕ, suc, false, refl, sym, ap, subst, List, [], ◌++◌, length, Option, IsSome, arith, map}
use Rattle.std.proofs.lemmas.List.{append_assoc}
use Rattle.mps_base.specs.Address.{Address, Id}
use Rattle.mps_base.specs.Trail.{Moves}
use Rattle.mps_base.specs.declared.moves.Move.{Move}
use Rattle.mps_buffer.specs.Points.{WereMadeBefore}
use Rattle.mps_format.specs.Layout.{Layout}
use Rattle.mps_model.specs.Effect.{Everything, condemned_by, condemned_zones, world_flipped, world_after_moves}
use Rattle.mps_model.specs.Flip.{flip_act, is_nothing}
use Rattle.mps_model.specs.World.{World, area_words}
use Rattle.mps_model.proofs.Cutting.{world_after_moves-append}
use Rattle.mps_root.specs.State.{kept}
use Rattle.mps_heap_spec.specs.Collecting.{IsCollected}
use Rattle.mps_pools.specs.Collecting.{IsTraceOf}
use Rattle.mps_heap_spec.specs.State.{HeapState}
use Rattle.mps_abstract.specs.Collecting.{Collecting}
use Rattle.mps_abstract.specs.FlipLaws.{IsAtRest, IsFlipDone}
use Rattle.mps_abstract.proofs.FlipActs.FlipBegins.{flip_done}
use Rattle.mps_abstract.proofs.WholeCollections.WholeBegins.{nothing_remembered}
use Rattle.mps_trace_laws.specs.Image.AtRest.{StandsAtRest}
use Rattle.mps_trace.specs.Begin.{Begins, EndsAtOnce, marked_at_flip}
use Rattle.mps_trace.specs.Collect.{at_once, in_units, most_units}
use Rattle.mps_trace.specs.Trace.{TraceState, Traced, traced}
use Rattle.mps_trace.specs.Unit.{EndsWithin}
use Rattle.mps_trace.specs.declared.running.Running.{Running}
use Rattle.mps_trace_laws.specs.Nails.Nailed.{AreWordsShown, words_of_areas}
use Rattle.mps_trace_laws.specs.Units.Laws.{HasSegmentsOf, HasFinalsOf, AreScansDone, AreLastTracedUnitsDone}
use Rattle.mps_trace_laws.proofs.Units.Rows.{the_end_is_done}
use Rattle.mps_trace_laws.specs.Begin.Before.{StandsBefore}
use Rattle.mps_trace_laws.specs.Begin.Condemning.{MayCondemn}
use Rattle.mps_trace_laws.proofs.Begin.CondemnedIds.{everything_may}
use Rattle.mps_trace.specs.declared.condemn.Condemn.TheVariants as condemn
use Rattle.mps_trace_laws.specs.Begin.Begun.{AreRootsHeld, IsActDone, ACollectionBegins, ACollectionOfNothingEnds, IsOverAtOnce}
use Rattle.mps_refinement.specs.RightMoving.{KeepsRoom}
use Rattle.mps_abstract.specs.WholeLaws.{IsWholeDone}
use Rattle.mps_abstract.proofs.WholeCollections.WholeEnds.{a_whole_collection}
use Rattle.mps_refinement.specs.Collect.Standing.{world_collected}
use Rattle.mps_refinement.specs.StandsFor.{time_at_rest}
use Rattle.mps_refinement.proofs.Following.Made.{AreMade}
use Rattle.mps_abstract.specs.Leaving.{IsButCollected}
use Rattle.mps_refinement.proofs.Collect.ActedRoots.{IsInOrder, tables_acted}
use Rattle.mps_refinement.proofs.Collect.CollectIsRight.{collect_made, collect_of_nothing_made}
use Rattle.mps_refinement.proofs.Collect.CollectedHeaps.{IsLeft, collected_heap, left_at_once, something_condemned}
use Rattle.mps_refinement.proofs.Collect.CollectedSegments.{none_condemned, none_kept}
use Rattle.mps_refinement.proofs.Collect.Finished.{HasFinished}
use Rattle.mps_refinement.proofs.Collect.Leavings.{a_collection_moves_objects}
use Rattle.mps_refinement.proofs.Collect.RoomKept.{begin_pushes, units_keep_room, at_once_keeps_room}
use Rattle.mps_refinement.proofs.Collect.RootsAfter.{tables_after}
use Rattle.mps_trace.specs.GenState.{ChainsState}
use Rattle.mps_trace.specs.State.{FinalsState}
use Rattle.mps_format.specs.declared.pool.Policy.{Policy}
use Rattle.mps_trace_laws.specs.Summaries.Summed.{AreWordsSummed}
use Rattle.mps_format.specs.Pools.{policy_of_pool}
use Rattle.mps_trace_laws.proofs.Summaries.UnitRows.{the_end_keeps}
use Rattle.mps_trace_laws.proofs.Summaries.Flips.{begin_keeps}
use Rattle.mps_refinement.proofs.Summaries.AtOnce.{at_once_summed}

-- what has to be known of a heap that stands for a world before it collects everything: how its roots stand for those of the world, and
-- all that a flip needs, whatever words are at hand for its pools
pub record IsBefore {F : Type 0} (layout : F → Layout) (h : HeapState F) (m : Moves) (w : World) : Type 0 where
  pub stands : (t : TraceState F) → IsTraceOf h.pools h.chains t → StandsBefore layout t h.segs m h.points w
  pub rows : List (List (Option Id))
  pub roots : AreRootsHeld w h.roots h.finals rows
  pub areas : AreWordsShown (words_of_areas h.roots.areas) (area_words w)
  pub ordered : (key : ℕ) → IsSome (kept h.roots.tables key) → IsInOrder h.roots key

-- a collection of everything: its moves are one, legal whatever was before them, and the heap represents the world after them, parked
pub record IsWholeMade {F : Type 0} (layout : F → Layout) (w : World) (m : Moves) (h' : HeapState F) (m' : Moves) : Type 0 where
  pub moves : List Move
  pub appended : m'.moves ≡ m.moves ++ moves
  pub made : AreMade layout w moves (world_collected w moves) time_at_rest h'
  pub whole : IsWholeDone w moves
  pub room : KeepsRoom m m'

module _ {F : Type 0} (layout : F → Layout) (begins : ACollectionBegins F) (nothing_ends : ACollectionOfNothingEnds F)
    (scans : (formats : List (Option (Policy F))) (of : ChainsState) (at_flip : List (Option Address))
    → AreScansDone layout formats of at_flip)
    (h : HeapState F) (m : Moves) (h' : HeapState F) (m' : Moves) (collected : IsCollected layout h m h' m')
    (made : WereMadeBefore h.points.flips h.points) where
  abbrev t : TraceState F
  t = collected.before

  abbrev x : Traced
  x = traced t h.segs m

  abbrev z : Traced
  z = traced collected.after h'.segs m'

  -- how many units it has at most
  abbrev most : ℕ
  most = most_units h.segs.grains (length h.finals.registered)

  module _ (w : World) (st : HasFinished layout h w) (known : IsBefore layout h m w) where
    before : StandsBefore layout t h.segs m h.points w
    before = known.stands t collected.of_pools

    may : MayCondemn t h.segs w condemn.Everything
    may = everything_may layout t h.segs m h.points w before

    made_then : WereMadeBefore (length w.flips) h.points
    made_then = subst (λ n. WereMadeBefore n h.points) st.parts.point_flips made

    -- words are summed before, and with the policies that the collector knew after it
    summed_before : AreWordsSummed layout t.formats h.segs
    summed_before =
        subst (λ (formats : List (Option (Policy F))). AreWordsSummed layout formats h.segs) (sym collected.of_pools.formats)
        st.parts.summed

    summed_then : AreWordsSummed layout t.formats h'.segs → AreWordsSummed layout (map policy_of_pool h.pools) h'.segs
    summed_then =
        subst (λ (formats : List (Option (Policy F))). AreWordsSummed layout formats h'.segs) collected.of_pools.formats

    -- ---- where something is condemned

    module _ (b : Traced) (f : FinalsState) (run : Running)
        (begun : Begins layout t.formats t.chains condemn.Everything h.points h.roots h.finals x h'.roots f b run)
        (ends : EndsWithin layout t.formats t.chains b f run most z h'.finals) where
      act : IsActDone layout t h.segs m w condemn.Everything known.rows h.roots h'.roots f b run
      act =
          begins layout t h.segs m h.points h.roots h'.roots h.finals f w known.rows b run condemn.Everything before may known.areas
          known.roots begun

      abbrev y : Collecting
      y = act.after

      last : AreLastTracedUnitsDone b y (suc ends.count) z h'.finals
      last =
          the_end_is_done layout t.formats t.chains w.addresses b z f h'.finals run y most
          (scans t.formats t.chains w.addresses) act.stands ends

      some : is_nothing (condemned_by w Everything) ≡ false
      some = something_condemned layout st.past h w st.parts m t before condemn.Everything (λ u. before.pools.formats u.pool) begun.some

      abbrev u : World
      u = world_after_moves w (flip_act w Everything ++ last.moves)

      abbrev rest : IsAtRest w
      rest = before.objects.rest

      act_leads : IsFlipDone w Everything act.first y
      act_leads = flip_done w Everything [] act.first y rest refl some (nothing_remembered w rest) act.fixes

      leads : u ≡ world_after_moves y.world last.moves
      leads =
          world_after_moves-append w (flip_act w Everything) last.moves ∙ ap (λ (v : World). world_after_moves v last.moves) act_leads.leads

      moved : IsButCollected (world_flipped w (condemned_zones w Everything)) u
      moved =
          (a_collection_moves_objects.0 w act.first last.moves y (suc ends.count) rest some act.fixes last.units).but_collected

      left : IsLeft st.past w h h' y.world.addresses u
      left =
          let tables =
          tables_after layout t.formats t.chains h.roots (marked_at_flip t.formats t.chains condemn.Everything h.points h.roots x)
          (length h.roots.order) h'.roots begun.before begun.slots
          in
          record {
            segments = subst (HasSegmentsOf h'.segs) (sym leads) last.segments;
            image = subst (StandsAtRest h'.segs) (sym leads) last.stands;
            not_condemned = none_condemned ends.last.before z ends.last.over;
            not_kept = none_kept ends.last.before z ends.last.over;
            tables =
                tables_acted w rest (λ id at there. (before.segments.image.placed.address id at there).not_null) st.past.table_number
                h.roots h'.roots st.parts.tables known.rows known.roots.tables known.ordered tables y act.slots;
            roots = tables;
            finals = subst (HasFinalsOf h'.finals) (sym leads) last.finals;
          }

      summed_in_units : AreWordsSummed layout t.formats h'.segs
      summed_in_units =
          the_end_keeps layout t.formats t.chains w.addresses b z f h'.finals run y most act.stands
          (begin_keeps layout t h.segs m h.points h.roots h'.roots h.finals f w known.rows b run condemn.Everything before may known.areas
          known.roots summed_before begun) ends

      pub right_in_units : IsWholeMade layout w m h' m'
      right_in_units = record {
        moves = flip_act w Everything ++ last.moves;
        appended =
            last.trail ∙ ap (λ ms. ms ++ last.moves) (act.trail ∙ ap (λ ms. m.moves ++ ms) (sym act_leads.act))
            ∙ append_assoc m.moves (flip_act w Everything) last.moves;
        made =
            collect_made layout h h' w act.first last.moves y (suc ends.count) st
            made_then some act.fixes last.units
            (collected_heap layout st.past h w st.parts m h' m' collected before y.world.addresses u moved left)
            (summed_then summed_in_units);
        whole = a_whole_collection.0 w act.first last.moves y (suc ends.count) rest some act.fixes last.units;
        room =
            units_keep_room layout t w.addresses m b z f h'.finals run y most (scans t.formats t.chains w.addresses)
            act.stands (begin_pushes layout t condemn.Everything h.points h.roots h'.roots h.finals f x b run begun) ends;
      }

    -- ---- where nothing is condemned

    module _ (ends : EndsAtOnce t.formats t.chains condemn.Everything h.points h.roots h.finals x h'.roots h'.finals z) where
      over : IsOverAtOnce m w condemn.Everything z
      over =
          nothing_ends layout t h.segs m h.points h.roots h'.roots h.finals h'.finals w z condemn.Everything before may ends

      abbrev v : World
      v = world_after_moves w (flip_act w Everything)

      moved_at_once : IsButCollected (world_flipped w (condemned_zones w Everything)) v
      moved_at_once = (a_collection_moves_objects.2 w before.objects.rest over.nothing).but_collected

      pub right_at_once : IsWholeMade layout w m h' m'
      right_at_once = record {
        moves = flip_act w Everything;
        appended = over.trail;
        whole = a_whole_collection.1 w before.objects.rest over.nothing;
        made =
            collect_of_nothing_made layout h h' w st made_then over.nothing
            (collected_heap layout st.past h w st.parts m h' m' collected before w.addresses v moved_at_once
            (left_at_once layout st.past h w st.parts st.rest.time m t before condemn.Everything refl h' collected.after m' ends over))
            (summed_then (at_once_summed layout t.formats t.chains condemn.Everything h.points h.roots h'.roots h.finals h'.finals x z ends
            summed_before));
        room =
            at_once_keeps_room layout t condemn.Everything h.points h.roots h'.roots h.finals h'.finals x z ends
            (let room = before.room in omega (arith, room));
      }

    pub right_there : IsWholeMade layout w m h' m'
    right_there = elim collected.collects [
      | at_once ends ↦ right_at_once ends
      | in_units {between = b} {finals_between = f} run begun ends ↦ right_in_units b f run begun ends
    ]
