-- The reservations of the segments of a heap at rest are those of its points that no flip ended, and they begin apart.
use Rattle.std.proofs.Common.{◌≡◌, ◌≢◌, ◌∙◌, ℕ, zero, suc, Bool, true, false, refl, sym, ap, subst, List, [], ◌∷◌, ◌++◌, length, Option, Some, None, Contains, arith}
use Rattle.std.proofs.lemmas.Bool.{eq-eqb, eqb-true, false≢true}
use Rattle.std.proofs.lemmas.Option.{none-some, same_Some}
use Rattle.std.specs.Prelude.{not, ◌==◌, slice_get, option_and_then, if◌then◌else◌}
use Rattle.std.specs.List.{AllByRecursion}
use Rattle.mps_base.specs.Address.{Address, word_of}
use Rattle.mps_base.specs.Run.{Run, in_order}
use Rattle.mps_base.proofs.Runs.{contains_first}
use Rattle.mps_buffer.specs.declared.point.Held.{Held}
use Rattle.mps_buffer.specs.declared.point.Point.{Point}
use Rattle.mps_buffer.specs.Points.{point_at, run_of_held}
use Rattle.mps_format.specs.Layout.{Layout}
use Rattle.mps_trace_laws.proofs.Image.Extents.{all_extents, all_reserved}
use Rattle.mps_laws.proofs.InOrder.{all_append}
use Rattle.mps_trace_laws.specs.Image.Memory.{LiesReserved, live_reservation}
use Rattle.mps_model.specs.Graph as graph
use Rattle.mps_model.specs.Graph.{Reservation, entry_at, is_live_reservation}
use Rattle.mps_model.specs.World.{World, PointMemory, extent, extent_of_reservation, extents_of, is_copying_pool, reserved_extents}
use Rattle.mps_trace_laws.specs.Flip.Ended.{BeginApart, open_run, open_run_at, open_runs}
use Rattle.mps_heap_spec.specs.State.{HeapState}
use Rattle.mps_refinement.specs.StandsFor.{AreHeldAlike, BothHeld, NoneHeld, AreParts, IsHeld, IsPoint, Past}
use Rattle.mps_refinement.proofs.Worlds.AtHand.{IsLive, extent_there, there_after}
use Rattle.mps_refinement.proofs.Worlds.Ready.{IsLiveOf, live_is, live_of}
use Rattle.mps_refinement.proofs.Collect.SameRuns.{in_order_same}

-- ---- runs of points that no flip ended

-- a fact of each
all_open : (P : Run → Type 0) (flips : ℕ) (ps : List (Option Point))
    → ((key : ℕ) (held : Held) → IsLive flips ps key held → P (run_of_held held)) → AllByRecursion P (open_runs flips ps)
all_open P flips [] each = tt
all_open P flips (x ∷ ps) each =
    all_append P (open_run_at flips x) (open_runs flips ps) (first x refl)
    (all_open P flips ps (λ key held l.
    each (suc key) held (record { point = l.point; there = l.there; reserved = l.reserved; live = l.live })))
  where
    of_flips : (p : Point) (held : Held) (b : Bool) → x ≡ Some p → p.reservation ≡ Some held → (held.flips == flips) ≡ b
        → AllByRecursion P (if b then run_of_held held ∷ [] else [])
    of_flips p held true here is same =
        (each zero held (record { point = p; there = here; reserved = is; live = eqb-true held.flips flips same }), tt)
    of_flips p held false here is other = tt

    of_held : (p : Point) (o : Option Held) → x ≡ Some p → p.reservation ≡ o → AllByRecursion P (open_run flips o)
    of_held p None here is = tt
    of_held p (Some held) here is = of_flips p held (held.flips == flips) here is refl

    first : (o : Option Point) → x ≡ o → AllByRecursion P (open_run_at flips o)
    first None here = tt
    first (Some p) here = of_held p p.reservation here refl

open_there : (flips : ℕ) (ps : List (Option Point)) (key : ℕ) (held : Held) → IsLive flips ps key held
    → Contains (open_runs flips ps) (run_of_held held)
open_there flips [] key held l = absurd (none-some l.point l.there)
open_there flips (x ∷ ps) zero held l =
    let one : open_run_at flips x ≡ run_of_held held ∷ [] =
    ap (open_run_at flips) l.there ∙ ap (open_run flips) l.reserved
    ∙ ap (λ b. if b then run_of_held held ∷ [] else []) (eq-eqb held.flips flips l.live) in
    subst (λ (rs : List Run). Contains (rs ++ open_runs flips ps) (run_of_held held)) (sym one)
    (contains_first (open_runs flips ps) (run_of_held held))
open_there flips (x ∷ ps) (suc key) held l =
    there_after (open_run_at flips x) (open_runs flips ps) (run_of_held held)
    (open_there flips ps key held (record { point = l.point; there = l.there; reserved = l.reserved; live = l.live }))

-- they begin apart, where no two of them begin at one word, and none where a block does
open_apart : (blocks : List Run) (flips : ℕ) (ps : List (Option Point))
    → ((key : ℕ) (held : Held) → IsLive flips ps key held → AllByRecursion (λ (q : Run). q.from ≢ word_of held.at.0) blocks)
    → ((key other : ℕ) (held theirs : Held) → IsLive flips ps key held → IsLive flips ps other theirs
    → word_of held.at.0 ≡ word_of theirs.at.0 → key ≡ other)
    → BeginApart blocks (open_runs flips ps)
open_apart blocks flips [] from_blocks alone = tt
open_apart blocks flips (x ∷ ps) from_blocks alone =
    first x refl
    (open_apart blocks flips ps (λ key held l. from_blocks (suc key) held (later key held l))
    (λ key other held theirs l k same.
    let e = alone (suc key) (suc other) held theirs (later key held l) (later other theirs k) same in omega (arith, e)))
  where
    later : (key : ℕ) (held : Held) → IsLive flips ps key held → IsLive flips (x ∷ ps) (suc key) held
    later key held l = record { point = l.point; there = l.there; reserved = l.reserved; live = l.live }

    other_key : (k : ℕ) → suc k ≡ zero → ⊥
    other_key k e = omega (arith, e)

    of_flips : (p : Point) (held : Held) (b : Bool) → x ≡ Some p → p.reservation ≡ Some held → (held.flips == flips) ≡ b
        → BeginApart blocks (open_runs flips ps)
        → BeginApart blocks ((if b then run_of_held held ∷ [] else []) ++ open_runs flips ps)
    of_flips p held false here is other rest = rest
    of_flips p held true here is same rest =
        let own : IsLive flips (x ∷ ps) zero held =
        record { point = p; there = here; reserved = is; live = eqb-true held.flips flips same } in (
          from_blocks zero held own,
          all_open (λ (q : Run). q.from ≢ word_of held.at.0) flips ps
              (λ key theirs l e. other_key key (alone (suc key) zero theirs held (later key theirs l) own e)),
          rest,
        )

    of_held : (p : Point) (o : Option Held) → x ≡ Some p → p.reservation ≡ o → BeginApart blocks (open_runs flips ps)
        → BeginApart blocks (open_run flips o ++ open_runs flips ps)
    of_held p None here is rest = rest
    of_held p (Some held) here is rest = of_flips p held (held.flips == flips) here is refl rest

    first : (o : Option Point) → x ≡ o → BeginApart blocks (open_runs flips ps)
        → BeginApart blocks (open_run_at flips o ++ open_runs flips ps)
    first None here rest = rest
    first (Some p) here rest = of_held p p.reservation here refl rest

no_blocks : (blocks rs : List Run) → BeginApart blocks rs → BeginApart [] rs
no_blocks blocks [] apart = tt
no_blocks blocks (r ∷ rs) apart = (tt, apart.1, no_blocks blocks rs apart.2)

-- ---- extents of live reservations

-- the live reservation of a point of the model begins at a word
record BeginsAt (points : List (Option graph.Point)) (memories : List PointMemory) (i word : ℕ) : Type 0 where
  reservation : Reservation
  memory : PointMemory
  live : live_reservation (entry_at points i) ≡ Some reservation
  has : slice_get memories i ≡ Some memory
  at : word_of memory.reserved_at ≡ word

live_not_doomed : (r : Reservation) → is_live_reservation r ≡ true → r.is_doomed ≡ false
live_not_doomed r = of r.is_doomed
  where
    of : (b : Bool) → (if b then false else true) ≡ true → b ≡ false
    of true e = absurd (false≢true e)
    of false e = refl

extents_apart : (points : List (Option graph.Point)) (memories : List PointMemory)
    → ((i j word : ℕ) → BeginsAt points memories i word → BeginsAt points memories j word → i ≡ j)
    → BeginApart [] (reserved_extents points memories)
extents_apart [] memories alone = tt
extents_apart (x ∷ ps) [] alone = tt
extents_apart (x ∷ ps) (m ∷ ms) alone =
    first x refl
    (extents_apart ps ms (λ i j word a b.
    let e = alone (suc i) (suc j) word (later i word a) (later j word b) in omega (arith, e)))
  where
    later : (i word : ℕ) → BeginsAt ps ms i word → BeginsAt (x ∷ ps) (m ∷ ms) (suc i) word
    later i word b = record { reservation = b.reservation; memory = b.memory; live = b.live; has = b.has; at = b.at }

    other_point : (i : ℕ) → suc i ≡ zero → ⊥
    other_point i e = omega (arith, e)

    of_live : (p : graph.Point) (r : Reservation) (b : Bool) → x ≡ Some p → p.reservation ≡ Some r → is_live_reservation r ≡ b
        → BeginApart [] (reserved_extents ps ms)
        → BeginApart [] ((if b then extent m.reserved_at (length r.cells) ∷ [] else []) ++ reserved_extents ps ms)
    of_live p r false here is doomed rest = rest
    of_live p r true here is live rest =
        let own : BeginsAt (x ∷ ps) (m ∷ ms) zero (word_of m.reserved_at) =
        record { reservation = r; memory = m; live = live_is x p r here is (live_not_doomed r live); has = refl; at = refl } in (
          tt,
          all_reserved (λ (q : Run). q.from ≢ word_of m.reserved_at) ps ms
              (λ i other memory there has e. other_point i (alone (suc i) zero (word_of m.reserved_at)
              (later i (word_of m.reserved_at) (record { reservation = other; memory = memory; live = there; has = has; at = e })) own)),
          rest,
        )

    of_reservation : (p : graph.Point) (o : Option Reservation) → x ≡ Some p → p.reservation ≡ o
        → BeginApart [] (reserved_extents ps ms) → BeginApart [] (extent_of_reservation o m ++ reserved_extents ps ms)
    of_reservation p None here is rest = rest
    of_reservation p (Some r) here is rest = of_live p r (is_live_reservation r) here is refl rest

    first : (o : Option graph.Point) → x ≡ o → BeginApart [] (reserved_extents ps ms)
        → BeginApart [] (reserved_extents (o ∷ ps) (m ∷ ms))
    first None here rest = rest
    first (Some p) here rest = of_reservation p p.reservation here refl rest

-- ---- the one and the other

-- a live reservation of a point of the model
record IsLiveAt (o : Option graph.Point) (r : Reservation) : Type 0 where
  point : graph.Point
  there : o ≡ Some point
  reserved : point.reservation ≡ Some r
  live : r.is_doomed ≡ false

live_at : (o : Option graph.Point) (r : Reservation) → live_reservation o ≡ Some r → IsLiveAt o r
live_at None r e = absurd (none-some r e)
live_at (Some p) r e = of_reservation p.reservation refl e
  where
    of_live : (x : Reservation) (b : Bool) → x.is_doomed ≡ b → (if (if b then false else true) then Some x else None) ≡ Some r
        → (x ≡ r) × (x.is_doomed ≡ false)
    of_live x true d f = absurd (none-some r f)
    of_live x false d f = (same_Some x r f, d)

    of_reservation : (o : Option Reservation) → p.reservation ≡ o
        → option_and_then (λ (x : Reservation). if is_live_reservation x then Some x else None) o ≡ Some r → IsLiveAt (Some p) r
    of_reservation None is f = absurd (none-some r f)
    of_reservation (Some x) is f =
        let own = of_live x x.is_doomed refl f in
        record {
          point = p;
          there = refl;
          reserved = is ∙ ap Some own.0;
          live = subst (λ (y : Reservation). y.is_doomed ≡ false) own.0 own.1;
        }

-- what is kept for a reservation of the model's
held_for : (flips at : ℕ) (o : Option Held) (x : Option Reservation) → AreHeldAlike flips at o x → (r : Reservation) → x ≡ Some r
    → (held : Held) × (o ≡ Some held) × IsHeld flips held r at
held_for flips at o x (BothHeld {held = held} {r = r} is) q e =
    (held, refl, subst (λ (y : Reservation). IsHeld flips held y at) (same_Some r q e) is)
held_for flips at o x NoneHeld q e = absurd (none-some q e)

not_false : (b : Bool) → not b ≡ false → b ≡ true
not_false true e = refl
not_false false e = absurd (false≢true (sym e))

-- it was made since the last flip where that is live, and has its run
flips_of : (flips at : ℕ) (held : Held) (r : Reservation) → IsHeld flips held r at → r.is_doomed ≡ false → held.flips ≡ flips
flips_of flips at held r is live = eqb-true held.flips flips (not_false (held.flips == flips) (sym is.doomed ∙ live))

run_same : (flips at : ℕ) (held : Held) (r : Reservation) → IsHeld flips held r at → run_of_held held ≡ extent at (length r.cells)
run_same flips at held r is = ap (λ (a : Address). extent a held.words) is.at ∙ ap (λ (n : ℕ). extent at n) is.words

-- ---- a heap at rest

module _ {F : Type 0} (layout : F → Layout) (past : Past) (h : HeapState F) (w : World) (parts : AreParts layout past h w) where
  abbrev pub reserved : List Run
  reserved = reserved_extents w.graph.points w.point_memories

  abbrev pub now_open : List Run
  now_open = open_runs h.points.flips h.points.points

  live_one : (key : ℕ) (held : Held) → IsLive h.points.flips h.points.points key held → IsLiveOf layout past h w parts key held
  live_one key held l = live_of layout past h w parts key l.point held l.there l.reserved l.live

  lies_first : (i : ℕ) (r : Reservation) (m : PointMemory) → live_reservation (entry_at w.graph.points i) ≡ Some r
      → slice_get w.point_memories i ≡ Some m
      → LiesReserved w.graph.points w.point_memories i 0 r (word_of m.reserved_at)
  lies_first i r m live has = record {
    memory = m;
    reserved = live;
    has = has;
    within = parts.image.placed.reserved_positive i r live;
    is = omega arith;
  }

  reserved_begins : (key : ℕ) (held : Held) → IsLive h.points.flips h.points.points key held
      → BeginsAt w.graph.points w.point_memories (past.point_number key) (word_of held.at.0)
  reserved_begins key held l =
      let o = live_one key held l in
      record {
        reservation = o.reservation;
        memory = o.memory;
        live = live_is (entry_at w.graph.points (past.point_number key)) o.point o.reservation o.has o.reserved o.live;
        has = o.memory_is;
        at = ap (λ (r : Run). r.from) o.run;
      }

  alone : (i j word : ℕ) → BeginsAt w.graph.points w.point_memories i word → BeginsAt w.graph.points w.point_memories j word → i ≡ j
  alone i j word a b =
      parts.image.placed.reserved_alone i j 0 0 a.reservation b.reservation word
      (subst (λ (n : ℕ). LiesReserved w.graph.points w.point_memories i 0 a.reservation n) a.at
      (lies_first i a.reservation a.memory a.live a.has))
      (subst (λ (n : ℕ). LiesReserved w.graph.points w.point_memories j 0 b.reservation n) b.at
      (lies_first j b.reservation b.memory b.live b.has))

  -- open reservations begin apart, and where no object does
  pub open_begin_apart : BeginApart (extents_of w.graph.objects w.addresses) now_open
  open_begin_apart =
      open_apart (extents_of w.graph.objects w.addresses) h.points.flips h.points.points
      (λ key held l.
      let b = reserved_begins key held l in
      all_extents (λ (q : Run). q.from ≢ word_of held.at.0) w.graph.objects w.addresses (λ id at o address object e.
      parts.image.placed.reserved_apart id (past.point_number key) 0 0 o b.reservation (word_of at)
      (record {
        at = at;
        address = address;
        object = object;
        within = parts.image.placed.positive id at o address object;
        is = omega arith;
      })
      (subst (λ (n : ℕ). LiesReserved w.graph.points w.point_memories (past.point_number key) 0 b.reservation n) (b.at ∙ sym e)
      (lies_first (past.point_number key) b.reservation b.memory b.live b.has))))
      (λ key other held theirs l k same.
      parts.points.apart key other l.point k.point l.there k.there
      (alone (past.point_number key) (past.point_number other) (word_of held.at.0) (reserved_begins key held l)
      (subst (BeginsAt w.graph.points w.point_memories (past.point_number other)) (sym same) (reserved_begins other theirs k))))

  open_in_reserved : AllByRecursion (Contains reserved) now_open
  open_in_reserved =
      all_open (Contains reserved) h.points.flips h.points.points (λ key held l.
      let o = live_one key held l in
      subst (λ (r : Run). Contains reserved r) o.run
      (extent_there w.graph.points w.point_memories (past.point_number key) o.point o.reservation o.memory o.has o.reserved o.live
      o.memory_is))

  -- a point stands for one with this live reservation
  of_point : (i : ℕ) (q : graph.Point) (r : Reservation) (m : PointMemory) → q.reservation ≡ Some r → r.is_doomed ≡ false
      → slice_get w.point_memories i ≡ Some m → (key : ℕ) (p : Point) → point_at h.points key ≡ Some p
      → IsPoint (length w.flips) (is_copying_pool w) w.point_memories i p q → Contains now_open (extent m.reserved_at (length r.cells))
  of_point i q r m reserved_there live has key p there fit =
      let memory : fit.memory ≡ m = same_Some fit.memory m (sym fit.has ∙ has) in
      let kept = held_for (length w.flips) fit.memory.reserved_at p.reservation q.reservation fit.reservation r reserved_there in
      subst (λ (x : Run). Contains now_open x)
      (run_same (length w.flips) fit.memory.reserved_at kept.0 r kept.2
      ∙ ap (λ (x : PointMemory). extent x.reserved_at (length r.cells)) memory)
      (open_there h.points.flips h.points.points key kept.0
      (record {
        point = p;
        there = there;
        reserved = kept.1;
        live = flips_of (length w.flips) fit.memory.reserved_at kept.0 r kept.2 live ∙ sym parts.point_flips;
      }))

  reserved_is_open : (i : ℕ) (r : Reservation) (m : PointMemory) → live_reservation (entry_at w.graph.points i) ≡ Some r
      → slice_get w.point_memories i ≡ Some m → Contains now_open (extent m.reserved_at (length r.cells))
  reserved_is_open i r m live has =
      let q = live_at (entry_at w.graph.points i) r live in
      let key = parts.points.complete i q.point q.there in
      let found = parts.points.there key.key key.value key.there in
      let same : found.0 ≡ q.point =
      same_Some found.0 q.point (sym found.1 ∙ ap (entry_at w.graph.points) key.numbered ∙ q.there) in
      of_point i q.point r m q.reserved q.live has key.key key.value key.there
      (subst (λ (n : ℕ). IsPoint (length w.flips) (is_copying_pool w) w.point_memories n key.value q.point) key.numbered
      (subst (IsPoint (length w.flips) (is_copying_pool w) w.point_memories (past.point_number key.key) key.value) same found.2))

  -- the reservations of the segments are the open ones of points
  pub reservations_are_open : h.segs.reservations ≡ in_order now_open
  reservations_are_open =
      parts.image.runs.reservations
      ∙ in_order_same reserved now_open (extents_apart w.graph.points w.point_memories alone)
      (no_blocks (extents_of w.graph.objects w.addresses) now_open open_begin_apart)
      (all_reserved (Contains now_open) w.graph.points w.point_memories reserved_is_open) open_in_reserved
