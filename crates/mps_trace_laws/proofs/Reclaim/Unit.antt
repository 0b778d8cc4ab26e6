-- The reclaim of the next condemned segment is a unit of the abstract collector.
use Rattle.std.proofs.Common.{◌≡◌, ◌∙◌, ℕ, Bool, true, false, not, refl, sym, ap, subst, List, [], ◌∷◌, ◌++◌, Option, Some, None, Contains, inl, inr, arith}
use Rattle.std.proofs.lemmas.Bool.{cases_Bool, true≢false, eq-eqb, not_from_true, leb-true}
use Rattle.std.proofs.lemmas.List.{append_assoc, append-nil}
use Rattle.std.specs.Prelude.{if◌then◌else◌, ◌==◌, ◌≢◌, nat_le, IsTrue}
use Rattle.std.specs.List.{list_any}
use Rattle.std.specs.Option.{option_map_or}
use Rattle.mps_base.specs.Address.{Address, grain_of, word_of, Id}
use Rattle.mps_base.specs.Run.{in_order, runs_within}
use Rattle.mps_base.specs.Segment.{Segment, segment_over, without_segment, end_of_segment}
use Rattle.mps_base.specs.Trail.{Moves}
use Rattle.mps_base.specs.declared.address.Addr.{Addr}
use Rattle.mps_base.specs.declared.moves.Move.{Move}
use Rattle.mps_base.specs.declared.moves.Move.TheVariants.{Unseg}
use Rattle.mps_extents.specs.Table.{bit}
use Rattle.mps_format.specs.Layout.{Layout}
use Rattle.mps_seg.specs.Segs.{SegsState, IsEmptyAt, IsUsed}
use Rattle.mps_seg.specs.Collecting.{collected}
use Rattle.mps_seg.specs.Reclaiming.{lost_of, freed_in, moves_freed_in, IsSwept, is_given, is_used}
use Rattle.mps_seg.proofs.Lost.{segments_after}
use Rattle.mps_model.specs.Collection.{Collection}
use Rattle.mps_model.specs.Graph.{contains, without_first, entry_at}
use Rattle.mps_model.specs.World.{World, begins_in, covered, extents_of, reserved_extents, is_empty_segment}
use Rattle.mps_model.specs.Effect.{world_after_moves, reclaiming, segment_base_of}
use Rattle.mps_model.specs.Flip.{at_address, end_where}
use Rattle.mps_model.specs.Units.{frees_at, give_back_where, nothing_left, is_last_condemned}
use Rattle.mps_model.proofs.Reaching.{list_all-contains}
use Rattle.mps_model.proofs.Cutting.{world_after_moves-append}
use Rattle.mps_abstract.specs.Colours.{AreAllScanned, is_white}
use Rattle.mps_abstract.specs.Collecting.{Collecting, Running, AreAllExamined}
use Rattle.mps_abstract.specs.Units.{IsReclaimedNext, reclaims, reclaims_last, reclaim_by}
use Rattle.mps_abstract.proofs.GivingBack.{contains-without, contains-without_other}
use Rattle.mps_abstract.proofs.Reclaimed.{frees, white_elsewhere}
use Rattle.mps_abstract.proofs.Sweeping.{AreFreed, sweeping_on, with_freed}
use Rattle.mps_trace_laws.specs.Image.Memory.{memory_in, pool_layout, setting_at_rest}
use Rattle.mps_trace_laws.specs.Image.Image.{Stands, no_colours, black_cells}
use Rattle.mps_trace_laws.specs.Image.AtRest.{StandsAtRest}
use Rattle.mps_trace.specs.Condemned.{IsNextCondemned}
use Rattle.mps_trace_laws.proofs.Reclaim.Ending.{image_at_rest}
use Rattle.mps_trace_laws.specs.Reclaim.Freed.{addresses_of, addresses_without}
use Rattle.mps_trace_laws.specs.Reclaim.Left.{AreReservationsUnwritten, StandsFreeing, IsReclaimShown, setting_freeing_in}
use Rattle.mps_trace_laws.specs.Reclaim.Units.{FreesFor, GoesOnSo, IsUnitReclaimed, EndsSo}
use Rattle.mps_trace_laws.specs.Reclaim.Laws.{AReclaimIsAUnit}
use Rattle.mps_trace_laws.proofs.Reclaim.SegmentBounds.{aligned_in}
use Rattle.mps_trace_laws.proofs.Reclaim.Emptied.{none_begins, one_begins}
use Rattle.mps_trace_laws.proofs.Reclaim.FreedImage.{frees_are_the_models, lost_blocks_are_freed}
use Rattle.mps_trace_laws.proofs.Reclaim.HeldSegments.{over_base, was_held}
use Rattle.mps_trace_laws.proofs.Reclaim.Next.{condemned_so, next_reclaimed}
use Rattle.mps_trace_laws.proofs.Reclaim.Reclaimed.{reclaimed_sweeps}

regrouped : (first second third fourth : List Move) → ((first ++ second) ++ third) ++ fourth ≡ first ++ ((second ++ third) ++ fourth)
regrouped first second third fourth =
    ap (λ ms. ms ++ fourth) (append_assoc first second third) ∙ append_assoc first (second ++ third) fourth

module _ (x : Collecting) (g : SegsState) (layout : ℕ → Layout) (base : Addr) (run : Running x) (scanned : AreAllScanned x.colours)
    (examined : AreAllExamined x) (f : FreesFor g x.world x.running x.colours layout) (next : IsNextCondemned g x.cursor base.0) where
  abbrev t : Segment
  t = next.segment

  abbrev freed : List Address
  freed = addresses_of (lost_of g t)

  abbrev left : List (Option Address)
  left = addresses_without freed x.world.addresses

  is_next : IsReclaimedNext x t freed
  is_next = next_reclaimed x g layout base.0 run scanned examined f next

  abbrev w : World
  w = x.world

  -- ---- the frees

  gone : AreFreed w x.running x.colours t.base freed
  gone = frees x run t freed is_next

  abbrev swept : World
  swept = with_freed w gone.addresses gone.dependents (Some (sweeping_on x.running gone.phase gone.reclaimed_to))

  gone_addresses : gone.addresses ≡ left
  gone_addresses =
      ap (λ (v : World). v.addresses) (sym gone.leads)
      ∙ (frees_are_the_models
      (setting_freeing_in g w.graph.objects w.graph.points w.point_memories layout x.running.condemned x.colours) w g x.colours
      (black_cells x.running.condemned x.colours) t (record { moves = []; spare = 0 }) f.stands.image
      (condemned_so x g layout base.0 run scanned examined f next)).addresses

  appended : (moves : Moves) → (moves_freed_in g t moves).moves ≡ moves.moves ++ frees_at freed
  appended moves =
      (frees_are_the_models
      (setting_freeing_in g w.graph.objects w.graph.points w.point_memories layout x.running.condemned x.colours) w g x.colours
      (black_cells x.running.condemned x.colours) t moves f.stands.image
      (condemned_so x g layout base.0 run scanned examined f next)).appended

  covered_left : (freed_in g t).covered ≡ covered swept
  covered_left =
      (lost_blocks_are_freed
      (setting_freeing_in g w.graph.objects w.graph.points w.point_memories layout x.running.condemned x.colours) g w.addresses x.colours t
      f.stands.image (condemned_so x g layout base.0 run scanned examined f next) scanned
      (λ id read. unread (Rattle.mps_abstract.specs.Colours.is_white x.running.condemned x.colours id) read)).runs.covered
      ∙ ap (λ ps. in_order (extents_of w.graph.objects ps ++ reserved_extents w.graph.points w.point_memories)) (sym gone_addresses)
    where
      unread : (b : Bool) → not b ≡ true → b ≡ false
      unread true h = absurd (true≢false (sym h))
      unread false h = refl

  left_is : nothing_left (world_after_moves w (frees_at freed)) t.base ≡ not (list_any (begins_in t) (freed_in g t).covered)
  left_is =
      ap (λ v. nothing_left v t.base) gone.leads
      ∙ ap (λ o. option_map_or (is_empty_segment swept) o false) is_next.held
      ∙ ap (λ rs. not (list_any (begins_in t) rs)) (sym covered_left)

  abbrev is_left : Bool
  is_left = nothing_left (world_after_moves w (frees_at freed)) t.base

  t_aligned : t.base ≡ Rattle.mps_base.specs.Address.address_of_grain (grain_of t.base)
  t_aligned = aligned_in g.segments t f.stands.order.aligned next.listed

  one_segment : (u : Segment) → segment_over g.segments base.0 ≡ Some u → t ≡ u
  one_segment u found =
      Rattle.std.proofs.lemmas.Option.same_Some t u
      (sym (over_base g.segments f.stands.order t next.listed) ∙ ap (segment_over g.segments) next.begins ∙ found)

  emptied : (u : Segment) → segment_over g.segments base.0 ≡ Some u → IsEmptyAt (freed_in g u) base.0 u → is_left ≡ true
  emptied u found empty =
      left_is
      ∙ ap not (none_begins t t_aligned (freed_in g t).covered
      (subst (λ (y : Segment). runs_within (word_of y.base) (word_of (end_of_segment y)) (freed_in g y).covered ≡ [])
      (sym (one_segment u found)) empty.empty))

  still_used : (u : Segment) → segment_over g.segments base.0 ≡ Some u → IsUsed (freed_in g u) u → is_left ≡ false
  still_used u found used =
      left_is
      ∙ ap not (one_begins t t_aligned (freed_in g t).covered
      (subst (λ (y : Segment). runs_within (word_of y.base) (word_of (end_of_segment y)) (freed_in g y).covered ≢ [])
      (sym (one_segment u found)) used))

  -- ---- the moves

  base_is : at_address t.base ≡ base
  base_is = ap (λ (n : Address). let a : Addr = record { 0 = n } in a) next.begins

  trail_is : (moves : Moves) (g' : SegsState) (moves' : Moves) → IsSwept g moves base g' moves'
      → moves'.moves ≡ (moves.moves ++ frees_at freed) ++ give_back_where t.base is_left
  trail_is moves g' moves' (is_given u found empty state trail) =
      ap (λ (m : Moves). m.moves) trail
      ∙ ap (λ (y : Segment). (moves_freed_in g y moves).moves ++ Unseg base ∷ []) (sym (one_segment u found))
      ∙ ap (λ ms. ms ++ Unseg base ∷ []) (appended moves)
      ∙ ap (λ (a : Addr). (moves.moves ++ frees_at freed) ++ Unseg a ∷ []) (sym base_is)
      ∙ ap (λ b. (moves.moves ++ frees_at freed) ++ give_back_where t.base b) (sym (emptied u found empty))
  trail_is moves g' moves' (is_used u found used state unwritten trail) =
      ap (λ (m : Moves). m.moves) trail
      ∙ ap (λ (y : Segment). (moves_freed_in g y moves).moves) (sym (one_segment u found))
      ∙ appended moves
      ∙ sym (append-nil (moves.moves ++ frees_at freed))
      ∙ ap (λ b. (moves.moves ++ frees_at freed) ++ give_back_where t.base b) (sym (still_used u found used))

  pub moves_are : (moves : Moves) (g' : SegsState) (moves' : Moves) → IsSwept g moves base g' moves'
      → moves'.moves ++ end_where (is_last_condemned x.running t.base) ≡ moves.moves ++ reclaim_by x t.base freed
  moves_are moves g' moves' reclaimed =
      ap (λ ms. ms ++ end_where (is_last_condemned x.running t.base)) (trail_is moves g' moves' reclaimed)
      ∙ regrouped moves.moves (frees_at freed) (give_back_where t.base is_left) (end_where (is_last_condemned x.running t.base))

  -- ---- the world after it

  abbrev later : World
  later = world_after_moves w (reclaim_by x t.base freed)

  later_is : is_last_condemned x.running t.base ≡ false → (b : Bool) → is_left ≡ b
      → later ≡ world_after_moves swept (give_back_where t.base b)
  later_is not_last b is =
      ap (λ c. world_after_moves w ((frees_at freed ++ give_back_where t.base is_left) ++ end_where c)) not_last
      ∙ ap (world_after_moves w) (append-nil (frees_at freed ++ give_back_where t.base is_left))
      ∙ world_after_moves-append w (frees_at freed) (give_back_where t.base is_left)
      ∙ ap (λ v. world_after_moves v (give_back_where t.base is_left)) gone.leads
      ∙ ap (λ c. world_after_moves swept (give_back_where t.base c)) is

  abbrev swept_collection : Collection
  swept_collection = sweeping_on x.running gone.phase gone.reclaimed_to

  abbrev given_collection : Collection
  given_collection =
      reclaiming t.base
      (record swept_collection { condemned_segments = without_first swept_collection.condemned_segments t.base })

  -- the others are condemned as before
  others_condemned : (b : Address) → (b ≡ t.base → ⊥)
      → contains x.running.condemned_segments b ≡ contains (without_first x.running.condemned_segments t.base) b
  others_condemned b other =
      elim (cases_Bool (contains x.running.condemned_segments b)) [
        | inl is ↦ is ∙ sym (contains-without_other x.running.condemned_segments t.base b other is)
        | inr isnt ↦ elim (cases_Bool (contains (without_first x.running.condemned_segments t.base) b)) [
          | inl is ↦
              absurd (true≢false (sym (contains-without 0 x.running.condemned_segments t.base b run.condemned.bases is).0 ∙ isnt))
          | inr out ↦ isnt ∙ sym out
        ]
      ]

  module _ (g' : SegsState) (shown : IsReclaimShown g w.graph.objects w.graph.points w.point_memories layout x.running.condemned x.colours
      w.addresses t g') where
    stands_later : StandsFreeing g' w.graph.objects w.graph.points w.point_memories layout x.running.condemned x.colours gone.addresses
    stands_later =
        subst (λ ps. StandsFreeing g' w.graph.objects w.graph.points w.point_memories layout x.running.condemned x.colours ps)
        (sym gone_addresses) shown.swept

    bits_before : (u : Segment) → Contains g.segments u
        → bit g'.condemned (grain_of u.base) ≡ contains x.running.condemned_segments u.base
    bits_before u held = ap (λ bs. bit bs (grain_of u.base)) shown.condemned_same ∙ f.bits u held

    -- given back
    given_frees : g'.segments ≡ without_segment g.segments t.base
        → FreesFor g' (world_after_moves swept (give_back_where t.base true)) given_collection x.colours layout
    given_frees segments = record {
      stands = stands_later;
      segments = ap (λ ss. without_segment ss t.base) f.segments ∙ sym segments;
      bits = λ u held.
          let was = was_held (λ s. not (s.base == t.base)) g.segments u (subst (λ ss. Contains ss u) segments held) in
          bits_before u was.0
          ∙ others_condemned u.base (λ e. true≢false (sym was.1 ∙ not_from_true (u.base == t.base) (eq-eqb u.base t.base e)));
    }

    given_runs : (world_after_moves swept (give_back_where t.base true)).collection ≡ Some given_collection
    given_runs =
        ap (λ b. Some (if b then given_collection else swept_collection)) is_next.condemned

    -- something is left
    used_frees : g'.segments ≡ g.segments
        → FreesFor g' (world_after_moves swept (give_back_where t.base false)) swept_collection x.colours layout
    used_frees segments = record {
      stands = stands_later;
      segments = f.segments ∙ sym segments;
      bits = λ u held. bits_before u (subst (λ ss. Contains ss u) segments held);
    }

    goes_on : (c : Collection) (b : Bool) → is_last_condemned x.running t.base ≡ false → is_left ≡ b
        → (world_after_moves swept (give_back_where t.base b)).collection ≡ Some c
        → FreesFor g' (world_after_moves swept (give_back_where t.base b)) c x.colours layout → GoesOnSo x t freed layout g'
    goes_on c b not_last is runs for =
        let after = later_is not_last b is in
        let there : later.collection ≡ Some c = ap (λ (v : World). v.collection) after ∙ runs in
        record {
          collection = c;
          runs = there;
          unit = reclaims is_next not_last there;
          frees = subst (λ v. FreesFor g' v c x.colours layout) (sym after) for;
        }

  -- ---- the unit

  goes_on_so : (moves : Moves) (g' : SegsState) (moves' : Moves)
      → IsReclaimShown g w.graph.objects w.graph.points w.point_memories layout x.running.condemned x.colours w.addresses t g'
      → IsSwept g moves base g' moves' → is_last_condemned x.running t.base ≡ false → GoesOnSo x t freed layout g'
  goes_on_so moves g' moves' shown (is_given u found empty state trail) not_last =
      let segments : g'.segments ≡ without_segment g.segments t.base =
      ap (λ (y : SegsState). y.segments) state ∙ ap (without_segment g.segments) (sym next.begins)
      in
      goes_on g' shown given_collection true not_last (emptied u found empty) (given_runs g' shown) (given_frees g' shown segments)
  goes_on_so moves g' moves' shown (is_used u found used state unwritten trail) not_last =
      let segments : g'.segments ≡ g.segments =
      ap (λ (y : SegsState). y.segments) state ∙ segments_after (lost_of g u) g
      in
      goes_on g' shown swept_collection false not_last (still_used u found used) refl (used_frees g' shown segments)

  pub is_unit : (moves : Moves) (g' : SegsState) (moves' : Moves) → IsSwept g moves base g' moves'
      → AreReservationsUnwritten w.graph.points w.point_memories g.words g'.words → IsUnitReclaimed x t freed layout g'
  is_unit moves g' moves' reclaimed reserved =
      let shown =
      reclaimed_sweeps g w.graph.objects w.graph.points w.point_memories layout x.running.condemned x.colours w.addresses t f.stands scanned
      next.listed next.condemned moves base g' moves' next.begins reclaimed reserved
      in
      record {
        goes_on = goes_on_so moves g' moves' shown reclaimed;
        ends = λ last. reclaims_last is_next last;
      }

  -- ---- the last one

  last_later : is_last_condemned x.running t.base ≡ true → (b : Bool) → is_left ≡ b
      → later ≡ record (world_after_moves swept (give_back_where t.base b)) { collection = None }
  last_later last b is =
      ap (λ c. world_after_moves w ((frees_at freed ++ give_back_where t.base is_left) ++ end_where c)) last
      ∙ world_after_moves-append w (frees_at freed ++ give_back_where t.base is_left) (end_where true)
      ∙ ap (λ v. world_after_moves v (end_where true))
      (world_after_moves-append w (frees_at freed) (give_back_where t.base is_left)
      ∙ ap (λ v. world_after_moves v (give_back_where t.base is_left)) gone.leads
      ∙ ap (λ c. world_after_moves swept (give_back_where t.base c)) is)

  none_white : is_last_condemned x.running t.base ≡ true → (id : Id) (at : Address) → entry_at gone.addresses id ≡ Some at
      → is_white x.running.condemned x.colours id ≡ false
  unfolding gone
  none_white last id at e =
      elim (cases_Bool (is_white x.running.condemned x.colours id)) [
        | inr black ↦ black
        | inl white ↦
            let go = run.swept.to_go id at (gone.fewer id at e) white in
            let up = is_next.first (segment_base_of w at) go.condemned go.above in
            let down =
            leb-true (segment_base_of w at) t.base
            (list_all-contains (λ other. nat_le other t.base) x.running.condemned_segments (segment_base_of w at) last go.condemned)
            in
            absurd (white_elsewhere x run t freed is_next id at e white (omega (arith, up, down)))
      ]

  ends_so : (g' : SegsState) → is_last_condemned x.running t.base ≡ true
      → IsReclaimShown g w.graph.objects w.graph.points w.point_memories layout x.running.condemned x.colours w.addresses t g'
      → layout ≡ pool_layout w → (b : Bool) → is_left ≡ b
      → (world_after_moves swept (give_back_where t.base b)).segments ≡ g'.segments
      → EndsSo x t freed g'
  ends_so g' last shown same b is segments = ends_in b is segments
    where
      at_rest : Stands (setting_at_rest (collected g') w.graph.objects w.graph.points w.point_memories (pool_layout w))
          (memory_in (collected g')) gone.addresses no_colours
      at_rest =
          subst (λ l. Stands (setting_at_rest (collected g') w.graph.objects w.graph.points w.point_memories l)
          (memory_in (collected g')) gone.addresses no_colours) same
          (image_at_rest g' w.graph.objects w.graph.points w.point_memories layout x.running.condemned x.colours gone.addresses scanned
          (none_white last) (stands_later g' shown).image)

      ends_in : (b : Bool) → is_left ≡ b → (world_after_moves swept (give_back_where t.base b)).segments ≡ g'.segments → EndsSo x t freed g'
      ends_in true is segments =
          let after = last_later last true is in
          record {
            ended = ap (λ (v : World). v.collection) after;
            segments = ap (λ (v : World). v.segments) after ∙ segments;
            stands = subst (StandsAtRest (collected g')) (sym after) at_rest;
          }
      ends_in false is segments =
          let after = last_later last false is in
          record {
            ended = ap (λ (v : World). v.collection) after;
            segments = ap (λ (v : World). v.segments) after ∙ segments;
            stands = subst (StandsAtRest (collected g')) (sym after) at_rest;
          }

  pub ends : (moves : Moves) (g' : SegsState) (moves' : Moves) → layout ≡ pool_layout w
      → AreReservationsUnwritten w.graph.points w.point_memories g.words g'.words → is_last_condemned x.running t.base ≡ true
      → IsSwept g moves base g' moves' → EndsSo x t freed g'
  ends moves g' moves' same reserved last reclaimed = by_case reclaimed
    where
      shown : IsReclaimShown g w.graph.objects w.graph.points w.point_memories layout x.running.condemned x.colours w.addresses t g'
      shown =
          reclaimed_sweeps g w.graph.objects w.graph.points w.point_memories layout x.running.condemned x.colours w.addresses t f.stands
          scanned next.listed next.condemned moves base g' moves' next.begins reclaimed reserved

      by_case : IsSwept g moves base g' moves' → EndsSo x t freed g'
      by_case (is_given u found empty state trail) =
          ends_so g' last shown same true (emptied u found empty)
          (ap (λ ss. without_segment ss t.base) f.segments ∙ ap (without_segment g.segments) next.begins
          ∙ sym (ap (λ (y : SegsState). y.segments) state))
      by_case (is_used u found used state unwritten trail) =
          ends_so g' last shown same false (still_used u found used)
          (f.segments ∙ sym (ap (λ (y : SegsState). y.segments) state ∙ segments_after (lost_of g u) g))

-- the moves of a reclaim are the model's, but for the end of the collection, which comes after them where the segment is the last one
pub the_moves_are_the_models : (x : Collecting) (g : SegsState) (layout : ℕ → Layout) (base : Addr) (moves : Moves)
    (g' : SegsState) (moves' : Moves)
    → Running x → AreAllScanned x.colours → AreAllExamined x → FreesFor g x.world x.running x.colours layout
    → (next : IsNextCondemned g x.cursor base.0) → IsSwept g moves base g' moves'
    → moves'.moves ++ end_where (is_last_condemned x.running next.segment.base)
    ≡ moves.moves ++ reclaim_by x next.segment.base (addresses_of (lost_of g next.segment))
the_moves_are_the_models x g layout base moves g' moves' run scanned examined f next reclaimed =
    moves_are x g layout base run scanned examined f next moves g' moves' reclaimed

pub a_reclaim_is_a_unit : AReclaimIsAUnit
a_reclaim_is_a_unit x g layout base moves g' moves' run scanned examined f next reclaimed reserved =
    is_unit x g layout base run scanned examined f next moves g' moves' reclaimed reserved

-- after the last reclaim, once marks and condemned bits are ended, the segments stand for a world at rest
pub the_last_reclaim_ends : (x : Collecting) (g : SegsState) (base : Addr) (moves : Moves) (g' : SegsState)
    (moves' : Moves) → Running x
    → AreAllScanned x.colours → AreAllExamined x → FreesFor g x.world x.running x.colours (pool_layout x.world)
    → (next : IsNextCondemned g x.cursor base.0) → IsSwept g moves base g' moves'
    → AreReservationsUnwritten x.world.graph.points x.world.point_memories g.words g'.words → IsTrue
    (is_last_condemned x.running next.segment.base)
    → EndsSo x next.segment (addresses_of (lost_of g next.segment)) g'
the_last_reclaim_ends x g base moves g' moves' run scanned examined f next reclaimed reserved last =
    ends x g (pool_layout x.world) base run scanned examined f next moves g' moves' refl reserved last reclaimed
