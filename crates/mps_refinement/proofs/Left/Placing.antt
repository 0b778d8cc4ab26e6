-- A reservation that is placed leaves as many units: what it takes is no block, and a segment that it takes isn't condemned.
use Rattle.std.proofs.Common.{◌≡◌, ◌∙◌, ℕ, ◌+◌, ◌-◌, sym, ap, ap₂, subst, List, map, Option, Some, Ok, Err}
use Rattle.std.specs.Prelude.{◌&&◌, count_by, nat_le, not, option_map}
use Rattle.std.specs.Option.{option_map_or}
use Rattle.mps_base.specs.Address.{Address, Word, address_of_word, grain_of, word_of}
use Rattle.mps_base.specs.Placement.{Placement}
use Rattle.mps_base.specs.Run.{IsAscending}
use Rattle.mps_base.specs.Segment.{Segment, grains_of_segment, segment_over}
use Rattle.mps_base.specs.Trail.{Moves}
use Rattle.mps_base.specs.declared.address.Addr.{Addr}
use Rattle.mps_base.specs.declared.names.Name.{Name}
use Rattle.mps_buffer.specs.declared.point.Held.{Held}
use Rattle.mps_buffer.specs.declared.point.Point.{Point}
use Rattle.mps_buffer.specs.Points.{placement_at, with_place, with_reservation}
use Rattle.mps_extents.specs.Table.{bit}
use Rattle.mps_format.specs.Layout.{Layout}
use Rattle.mps_laws.proofs.Positions.LegalMoves.{HasLayout}
use Rattle.mps_laws.proofs.Positions.Segments.{AreAligned}
use Rattle.mps_model.specs.Checked.{Checked, ◌>>=◌}
use Rattle.mps_model.specs.WellFormed.{IsWellFormed}
use Rattle.mps_model.specs.World.{World}
use Rattle.mps_seg.specs.Arena.{answer_of_placement}
use Rattle.mps_seg.specs.Collecting.{bit_of}
use Rattle.mps_seg.specs.Segs.{SegsState, moves_after, segments_after}
use Rattle.mps_trace.specs.declared.running.Running.{Running as RunningState}
use Rattle.mps_abstract.specs.ClientLaws.{AreApartFrom}
use Rattle.mps_abstract.specs.Collecting.{Collecting}
use Rattle.mps_abstract.proofs.HeldSegments.{segments_ordered}
use Rattle.mps_trace_laws.specs.Image.Memory.{is_condemned_word, pool_over_word}
use Rattle.mps_trace_laws.proofs.Image.Marked.{begins_there}
use Rattle.mps_heap_spec.specs.Allocating.{after_reserve, check_reserve, held_at, with_reserved}
use Rattle.mps_heap_spec.specs.Coming.{ComesMoving, Moved, state_moved}
use Rattle.mps_heap_spec.specs.State.{HeapState}
use Rattle.mps_heap_spec.specs.declared.found.Kept.{Kept}
use Rattle.mps_heap_spec.specs.declared.found.Reserving.{Reserving}
use Rattle.mps_refinement.specs.StandsFor.{AreParts, IsInTime, Past, Runs, StandsFor, collector_of, rests, runs, setting_at}
use Rattle.mps_refinement.specs.UnitsLeft.{units_from, units_left}
use Rattle.mps_refinement.proofs.Left.AfterUnits.{none_at_rest}
use Rattle.mps_refinement.proofs.Left.Alike.{AreBasesOf, TellsColours, are_bases, blocks_alike, blocks_so, segments_alike, segments_so, tells}
use Rattle.mps_refinement.proofs.Parts.CommittedParts.{segment_there}
use Rattle.mps_refinement.proofs.Parts.SegmentsTaken.{condemned_same, condemned_stay, stays}
use Rattle.mps_refinement.proofs.Worlds.Known.{IsKnown}
use Rattle.mps_refinement.proofs.Worlds.Reached.{reached_well_formed}
use Rattle.mps_refinement.proofs.Worlds.Ready.{laid_out}

-- ---- the segments

module _ {F : Type 0} (layout : F → Layout) (past : Past) (h : HeapState F) (x : Collecting) (parts : AreParts layout past h x.world)
    (formed : IsWellFormed x.world) (laid : HasLayout (x.world.grains + 1) x.world) (r : Runs past.time (collector_of h) x.world x)
    (p : Point) (q : Placement) (held : Held) where
  abbrev w : World
  w = x.world

  abbrev pub now : List Segment
  now = segments_after q p.pool 0 p.rank w.segments

  abbrev pub placed : SegsState
  placed = with_reservation (with_place h.segs p q) held

  -- the segments are in order after it, as they were before
  module _ (aligned : AreAligned now) (ascending : IsAscending 1 (w.grains + 1) (map grains_of_segment now)) (apart : AreApartFrom 1 now)
    where
      condemned_kept : (n : Word) (number : ℕ) → pool_over_word h.segs n ≡ Some number
          → is_condemned_word placed n ≡ is_condemned_word h.segs n
      condemned_kept n number has =
          let over : List Segment → Option ℕ = λ ss. option_map (λ (t : Segment). grain_of t.base) (segment_over ss (address_of_word n)) in
          ap (λ ss. bit_of placed.condemned (over (segments_after q p.pool 0 p.rank ss))) parts.segments
          ∙ condemned_same q p.pool 0 p.rank (w.grains + 1) w.segments h.segs.condemned laid.aligned laid.ascending aligned ascending n
          number (ap (λ ss. option_map (λ (t : Segment). t.pool) (segment_over ss (address_of_word n))) (sym parts.segments) ∙ has)
          ∙ ap (λ ss. bit_of h.segs.condemned (over ss)) (sym parts.segments)

      tells_still : TellsColours placed w.addresses x.running.condemned x.colours
      tells_still =
          let before = tells layout past h x parts formed r in
          record {
            white = λ id at there.
                let o = parts.image.placed.exists id at there in
                before.white id at there
                ∙ ap (λ b. b && not (bit h.segs.marks.kept (word_of at))) (sym (condemned_kept (word_of at) o.0.pool
                (parts.image.placed.home id 0 o.0 (word_of at)
                (begins_there (setting_at past.time h.segs w) w.addresses parts.image.placed id at o.0 there o.1))));
            grey = before.grey;
          }

      bases_still : AreBasesOf (λ t. bit placed.condemned (grain_of t.base)) now x.running.condemned_segments
      bases_still =
          let bases : List Address = x.running.condemned_segments in
          let before = are_bases layout past h x parts formed r in
          let stay =
          condemned_stay q p.pool 0 p.rank (w.grains + 1) w.segments h.segs.condemned laid.aligned laid.ascending aligned ascending bases
          r.condemned before.held
          in
          record {
            same = λ t there. stay t (segment_there t now there);
            held = λ base is.
                let u = before.held base is in (
                  u.0,
                  stays q p.pool 0 p.rank (w.grains + 1) w.segments h.segs.condemned laid.aligned laid.ascending aligned ascending u.0
                      u.1,
                  u.2,
                );
            ascending = before.ascending;
          }

      pub as_many_from : (run : RunningState) → units_from placed run ≡ units_from h.segs run
      as_many_from run =
          let blocks =
          blocks_alike placed w.graph.objects w.addresses x.running.condemned x.colours formed.addresses parts.image.runs.blocks tells_still
          ∙ sym (blocks_so layout past h x parts formed r) in
          let segments =
          ap (λ ss. count_by (λ (t : Segment). bit placed.condemned (grain_of t.base) && nat_le run.cursor.0 t.base)
          (segments_after q p.pool 0 p.rank ss)) parts.segments
          ∙ segments_alike (λ t. bit placed.condemned (grain_of t.base)) now x.running.condemned_segments apart bases_still run.cursor.0
          ∙ sym (segments_so layout past h x parts formed r run.cursor.0) in
          ap₂ (λ a b. a + (run.registered_before - run.next) + b) blocks segments

-- ---- the call

-- a `reserve` changes nothing, or places a reservation
data IsReservedBy {F : Type 0} (layout : F → Layout) (h after : HeapState F) : Type 0 where
  unchanged : after ≡ h → IsReservedBy layout h after
  is_placed : (point : Kept Point) (held : Held) → after ≡ with_reserved layout h point held → IsReservedBy layout h after

module _ {F : Type 0} (layout : F → Layout) (h : HeapState F) (trail : Moves) (name : Name) (head : ℕ) (after : HeapState F) where
  -- what comes after the checks, and after the placement
  abbrev once_placed : Reserving → Addr → Moved F (Unit {0})
  once_placed a at = record {
    answer = tt;
    state = with_reserved layout h a.point (held_at layout h at head a.words);
    trail = moves_after (placement_at a.point.value h.segs a.words) a.point.value.pool 0 trail;
  }

  of_answer : (a : Reserving) (answer : Checked Addr) → after ≡ state_moved h (answer >>= (λ at. Ok (once_placed a at)))
      → IsReservedBy layout h after
  of_answer a (Ok at) is = is_placed a.point (held_at layout h at head a.words) is
  of_answer a (Err why) is = unchanged is

  of_check : (check : Checked Reserving)
      → after ≡ state_moved h (check >>= (λ a. answer_of_placement (placement_at a.point.value h.segs a.words)
      >>= (λ at. Ok (once_placed a at))))
      → IsReservedBy layout h after
  of_check (Ok a) is = of_answer a (answer_of_placement (placement_at a.point.value h.segs a.words)) is
  of_check (Err why) is = unchanged is

  reserved_by : (result : Checked (Unit {0})) (trail_after : Moves)
      → ComesMoving h trail (after_reserve layout h trail name head) result after trail_after → IsReservedBy layout h after
  reserved_by result trail_after comes = of_check (check_reserve layout h name head) comes.state

-- where the heap and the one after it stand for worlds, as many units are left
module _ {F : Type 0} (layout : F → Layout) (past : Past) (h : HeapState F) (v : World) (parts : AreParts layout past h v)
    (known : IsKnown past.time v) (after : HeapState F) (v' : World) (st : StandsFor layout after v') where
  once_it_runs : (x : Collecting) → x.world ≡ v → Runs past.time (collector_of h) v x → (point : Kept Point) (held : Held)
      → after ≡ with_reserved layout h point held → units_left after ≡ units_left h
  once_it_runs x same r point held is =
      let there : AreParts layout past h x.world = subst (AreParts layout past h) (sym same) parts in
      let runs_there : Runs past.time (collector_of h) x.world x = subst (λ u. Runs past.time (collector_of h) u x) (sym same) r in
      let formed : IsWellFormed x.world = subst IsWellFormed (sym same) known.formed in
      let laid : HasLayout (x.world.grains + 1) x.world = subst (λ (u : World). HasLayout (u.grains + 1) u) (sym same) known.laid in
      let q : Placement = placement_at point.value h.segs held.words in
      let segments : v'.segments ≡ segments_after q point.value.pool 0 point.value.rank x.world.segments =
      sym st.parts.segments ∙ ap (λ (g : HeapState F). g.segs.segments) is
      ∙ ap (segments_after q point.value.pool 0 point.value.rank) there.segments in
      let grains : v'.grains ≡ x.world.grains = sym st.parts.grains ∙ ap (λ (g : HeapState F). g.segs.grains) is ∙ there.grains in
      let laid_after = laid_out v' st.reached in
      let many =
      as_many_from layout past h x there formed laid runs_there point.value q held (subst AreAligned segments laid_after.aligned)
      (subst (λ n. IsAscending 1 (n + 1) (map grains_of_segment (segments_after q point.value.pool 0 point.value.rank x.world.segments)))
      grains (subst (λ ss. IsAscending 1 (v'.grains + 1) (map grains_of_segment ss)) segments laid_after.ascending))
      (subst (AreApartFrom 1) segments (segments_ordered v' (reached_well_formed v' st.reached))) runs_there.run
      in
      ap (λ (g : HeapState F). units_left g) is
      ∙ ap (λ (o : Option RunningState). option_map_or (units_from (with_reserved layout h point held).segs) o 0) r.running ∙ many
      ∙ sym (ap (λ (o : Option RunningState). option_map_or (units_from h.segs) o 0) r.running)

  pub reserve_leaves_as_many : IsInTime past.time (collector_of h) v → (trail : Moves) (name : Name) (head : ℕ)
      (result : Checked (Unit {0})) (trail_after : Moves)
      → ComesMoving h trail (after_reserve layout h trail name head) result after trail_after → units_left after ≡ units_left h
  reserve_leaves_as_many time trail name head result trail_after comes =
      of_time time (reserved_by layout h trail name head after result trail_after comes)
    where
      of_time : IsInTime past.time (collector_of h) v → IsReservedBy layout h after → units_left after ≡ units_left h
      of_time time (unchanged is) = ap (λ (g : HeapState F). units_left g) is
      of_time (rests rest) (is_placed point held is) =
          none_at_rest after (ap (λ (g : HeapState F). g.running) is ∙ rest.not_running) ∙ sym (none_at_rest h rest.not_running)
      of_time (runs x r) (is_placed point held is) = once_it_runs x r.world r point held is
