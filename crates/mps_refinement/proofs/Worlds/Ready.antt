-- A heap that stands for a world is ready for its points: what is at hand can be covered, reservations are the segments', and all of
-- them can be ended one after the other.
use Rattle.std.proofs.Common.{◌≡◌, ◌∙◌, ℕ, ◌+◌, ◌<◌, Bool, false, refl, sym, ap, subst, List, length, map, Option, Some, None, Contains, arith}
use Rattle.std.proofs.lemmas.Bool.{eq-eqb}
use Rattle.std.proofs.lemmas.Option.{none-some, same_Some}
use Rattle.std.specs.Prelude.{not, slice_get, option_and_then, if◌then◌else◌}
use Rattle.mps_base.specs.Address.{Address, word_of}
use Rattle.mps_base.specs.Run.{Run}
use Rattle.mps_base.specs.Segment.{Segment, grains_of_segment}
use Rattle.mps_buffer.specs.declared.point.Held.{Held}
use Rattle.mps_buffer.specs.declared.point.Point.{Point}
use Rattle.mps_buffer.specs.Points.{AreReserved, point_at, run_of_held}
use Rattle.mps_seg.specs.Buffer as buffer
use Rattle.mps_format.specs.Layout.{Layout}
use Rattle.mps_trace_laws.specs.Image.Memory.{LiesReserved, live_reservation}
use Rattle.mps_model.specs.Graph as graph
use Rattle.mps_model.specs.Graph.{Reservation, entry_at, is_live_reservation}
use Rattle.mps_model.specs.World.{World, PointMemory, covered, extent}
use Rattle.mps_seg.specs.Segs.{IsOpenRun, held_runs}
use Rattle.mps_laws.proofs.Positions.LegalMoves.{HasLayout}
use Rattle.mps_laws.proofs.Positions.Occupancy.{OfBuffer, occupancy_of, run_of, run_of_buffer}
use Rattle.mps_heap_spec.specs.State.{HeapState, IsReady}
use Rattle.mps_refinement.specs.StandsFor.{AreHeldAlike, BothHeld, NoneHeld, AreParts, IsHeld, IsPoint, IsReached, Past, StandsFor}
use Rattle.mps_refinement.proofs.Worlds.AtHand.{are_reserved, hand_is_open, reservation_there}
use Rattle.mps_refinement.proofs.Worlds.LaidWithin.{reached_laid}

-- ---- reservations of the one and the other

-- the model's reservation for one that is kept
pub held_there : (flips : ℕ) (at : Address) (o : Option Held) (x : Option Reservation) → AreHeldAlike flips at o x → (held : Held)
    → o ≡ Some held → (r : Reservation) × (x ≡ Some r) × IsHeld flips held r at
held_there flips at o x (BothHeld {held = kept} {r = r} is) held e =
    (r, refl, subst (λ (y : Held). IsHeld flips y r at) (same_Some kept held e) is)
held_there flips at o x NoneHeld held e = absurd (none-some held e)

-- a reservation that no flip ended is live
pub live_is : (o : Option graph.Point) (q : graph.Point) (r : Reservation) → o ≡ Some q → q.reservation ≡ Some r → r.is_doomed ≡ false
    → live_reservation o ≡ Some r
live_is o q r e f live =
    ap live_reservation e ∙ ap (option_and_then (λ (x : Reservation). if is_live_reservation x then Some x else None)) f
    ∙ ap (λ (b : Bool). if (if b then false else Rattle.std.specs.Prelude.true) then Some r else None) live

pub not_doomed : (flips : ℕ) (held : Held) (r : Reservation) (at : Address) → IsHeld flips held r at → held.flips ≡ flips
    → r.is_doomed ≡ false
not_doomed flips held r at is live = is.doomed ∙ ap not (eq-eqb held.flips flips live)

-- how a reached world is laid out
pub laid_out : (w : World) → IsReached w → HasLayout (w.grains + 1) w
laid_out w r = subst (λ (v : World). HasLayout (v.grains + 1) v) (sym r.is) (reached_laid w.formats r.history r.once r.legal)

module _ {F : Type 0} (layout : F → Layout) (past : Past) (h : HeapState F) (w : World) (parts : AreParts layout past h w) where
  -- a point of the heap, and what it stands for
  pub record IsPointOf (key : ℕ) (p : Point) : Type 0 where
    pub point : graph.Point
    pub has : entry_at w.graph.points (past.point_number key) ≡ Some point
    pub fit : IsPoint (length w.flips) (Rattle.mps_model.specs.World.is_copying_pool w) w.point_memories (past.point_number key) p point

  pub point_of : (key : ℕ) (p : Point) → point_at h.points key ≡ Some p → IsPointOf key p
  point_of key p there = let found = parts.points.there key p there in record { point = found.0; has = found.1; fit = found.2 }

  -- what is open in the model's arena is open in the segments
  pub open_there : (r : Run) → IsOpenRun w.grains (map grains_of_segment w.segments) (covered w) r
      → IsOpenRun h.segs.grains (held_runs h.segs) h.segs.covered r
  open_there r is =
      subst (λ (n : ℕ). IsOpenRun n (held_runs h.segs) h.segs.covered r) (sym parts.grains)
      (subst (λ (ss : List Segment). IsOpenRun w.grains (map grains_of_segment ss) h.segs.covered r) (sym parts.segments)
      (subst (λ (rs : List Run). IsOpenRun w.grains (map grains_of_segment w.segments) rs r) (sym parts.image.runs.covered) is))

  -- a live reservation of the heap, and what it stands for
  pub record IsLiveOf (key : ℕ) (held : Held) : Type 0 where
    pub point : graph.Point
    pub reservation : Reservation
    pub memory : PointMemory
    pub has : entry_at w.graph.points (past.point_number key) ≡ Some point
    pub memory_is : slice_get w.point_memories (past.point_number key) ≡ Some memory
    pub reserved : point.reservation ≡ Some reservation
    pub live : reservation.is_doomed ≡ false
    pub run : extent memory.reserved_at (length reservation.cells) ≡ run_of_held held

  pub live_of : (key : ℕ) (p : Point) (held : Held) → point_at h.points key ≡ Some p → p.reservation ≡ Some held
      → held.flips ≡ h.points.flips → IsLiveOf key held
  live_of key p held there reserved live =
      let q = point_of key p there in
      let r = held_there (length w.flips) q.fit.memory.reserved_at p.reservation q.point.reservation q.fit.reservation held reserved in
      record {
        point = q.point;
        reservation = r.0;
        memory = q.fit.memory;
        has = q.has;
        memory_is = q.fit.has;
        reserved = r.1;
        live = not_doomed (length w.flips) held r.0 q.fit.memory.reserved_at r.2 (live ∙ parts.point_flips);
        run =
            ap (λ (a : Address). extent a (length (r.0).cells)) (sym r.2.at)
            ∙ ap (λ (n : ℕ). extent held.at.0 n) (sym r.2.words);
      }

  reserved_ready : (key : ℕ) (held : Held) → IsLiveOf key held → Contains h.segs.reservations (run_of_held held)
  reserved_ready key held l =
      subst (λ (r : Run). Contains h.segs.reservations r) l.run
      (subst (λ (rs : List Run). Contains rs (extent l.memory.reserved_at (length l.reservation.cells)))
      (sym parts.image.runs.reservations)
      (reservation_there w.graph.points w.point_memories (past.point_number key) l.point l.reservation l.memory l.has l.reserved l.live
      l.memory_is))

  -- what the calls of points ask for
  pub heap_is_ready : HasLayout (w.grains + 1) w → IsReady h
  heap_is_ready laid = record {
    at_hand = λ key p there some.
        let q = point_of key p there in
        let n = past.point_number key in
        let is : run_of (occupancy_of w) (OfBuffer n) ≡ buffer.run_of p.buffer = ap run_of_buffer q.fit.has ∙ sym q.fit.buffer in
        subst (λ (r : Run). IsOpenRun h.segs.grains (held_runs h.segs) h.segs.covered r) is
        (open_there (run_of (occupancy_of w) (OfBuffer n))
        (hand_is_open w laid (OfBuffer n) refl (subst (λ (r : Run). 0 < r.count) (sym is) some)));
    reserved = λ key p held there reserved live. reserved_ready key held (live_of key p held there reserved live);
  }

  -- the first word of a live reservation
  first_word : (key : ℕ) (held : Held) (l : IsLiveOf key held)
      → LiesReserved w.graph.points w.point_memories (past.point_number key) 0 l.reservation (word_of held.at.0)
  first_word key held l =
      let live = live_is (entry_at w.graph.points (past.point_number key)) l.point l.reservation l.has l.reserved l.live in
      let from : word_of l.memory.reserved_at ≡ word_of held.at.0 = ap (λ (r : Run). r.from) l.run in
      record {
        memory = l.memory;
        reserved = live;
        has = l.memory_is;
        within = parts.image.placed.reserved_positive (past.point_number key) l.reservation live;
        is = omega (arith, from);
      }

  -- and all of them can be ended, one after the other
  pub all_reserved : AreReserved h.points.flips h.points.points h.segs
  all_reserved =
      are_reserved h.points.flips h.points.points h.segs
      (λ key held is. reserved_ready key held (live_of key is.point held is.there is.reserved is.live))
      (λ key other held theirs is those same.
      let l = live_of key is.point held is.there is.reserved is.live in
      let m = live_of other those.point theirs those.there those.reserved those.live in
      let n : past.point_number key ≡ past.point_number other =
      parts.image.placed.reserved_alone (past.point_number key) (past.point_number other) 0 0 l.reservation m.reservation
      (word_of held.at.0) (first_word key held l)
      (subst (λ (x : ℕ). LiesReserved w.graph.points w.point_memories (past.point_number other) 0 m.reservation x) (sym same)
      (first_word other theirs m)) in
      parts.points.apart key other is.point those.point is.there those.there n)

-- so a heap is ready that stands for a world
pub ready : {F : Type 0} (layout : F → Layout) (h : HeapState F) (w : World) → StandsFor layout h w → IsReady h
ready layout h w st = heap_is_ready layout st.past h w st.parts (laid_out w st.reached)

pub all_are_reserved : {F : Type 0} (layout : F → Layout) (h : HeapState F) (w : World) → StandsFor layout h w
    → AreReserved h.points.flips h.points.points h.segs
all_are_reserved layout h w st = all_reserved layout st.past h w st.parts
