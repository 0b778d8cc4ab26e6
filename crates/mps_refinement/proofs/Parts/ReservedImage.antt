-- A reservation is made where nothing lies: by how the world after it is laid out, its words are free, and all blocks lie in the
-- segments in which they lay.
use Rattle.std.proofs.Common.{◌≡◌, ◌∙◌, ℕ, zero, suc, ◌+◌, ◌-◌, ◌<◌, Bool, true, false, refl, sym, ap, subst, List, length, map, Option, Some, None, arith}
use Rattle.std.proofs.lemmas.Bool.{false≢true}
use Rattle.std.proofs.lemmas.Option.{none-some, same_Some, slice_get-map}
use Rattle.std.specs.Prelude.{◌≢◌, slice_get, slice_set, option_map, option_and_then, if◌then◌else◌}
use Rattle.mps_base.specs.Address.{Address, Word, word_of}
use Rattle.mps_base.specs.Run.{Run, Covers}
use Rattle.mps_base.specs.Segment.{Segment}
use Rattle.mps_format.specs.Layout.{Layout}
use Rattle.mps_trace_laws.specs.Image.Changes.{AreFree, IsOfNoMovedBlock}
use Rattle.mps_trace_laws.specs.Image.Image.{IsFixedWord}
use Rattle.mps_trace_laws.specs.Image.Memory.{Lies, LiesReserved, Setting, live_reservation, words_of_arena}
use Rattle.mps_model.specs.Graph.{Cell, HeadCell, NumberCell, ReferenceCell, Object, Point, Reservation, entry_at, is_live_reservation, new_cells, new_cells_from, size_of}
use Rattle.mps_model.specs.World.{World, PointMemory, extent}
use Rattle.mps_laws.proofs.Positions.LegalMoves.{HasLayout}
use Rattle.mps_laws.proofs.Lookups.{entry_at-set_other, entry_at-set_same, entry_is_there, entry_within, slice_get-set_other, slice_get-set_same}
use Rattle.mps_laws.proofs.Positions.Occupancy.{Occupancy, Occupant, OfBlock, OfReservation, occupancy_of, run_of, run_of_block, run_of_reservation, run_of_reserved, shape_of, shape_of_point, reserved_words}
use Rattle.mps_laws.proofs.Positions.Segments.{among_aligned, segment_bounds}
use Rattle.mps_refinement.specs.StandsFor.{Time}

abbrev is_block : Occupant → Bool
is_block (OfBlock id) = true
is_block _ = false

abbrev point_in : Occupant → ℕ
point_in (OfReservation point) = point
point_in _ = 0

-- the shape of a point
pub shape_there : (ps : List (Option Point)) (n : ℕ) (p : Point) → entry_at ps n ≡ Some p
    → entry_at (map shape_of_point ps) n ≡ shape_of_point (Some p)
shape_there ps n p e =
    ap (λ o. option_and_then (λ entry. entry) o)
    (slice_get-map shape_of_point ps n ∙ ap (option_map shape_of_point) (entry_is_there ps n p e))

-- the point of a live reservation
pub record IsLivePoint (o : Option Point) (r : Reservation) : Type 0 where
  pub point : Point
  pub there : o ≡ Some point
  pub reserved : reserved_words point.reservation ≡ Some (length r.cells)

pub live_point : (o : Option Point) (r : Reservation) → live_reservation o ≡ Some r → IsLivePoint o r
live_point None r e = absurd (none-some r e)
live_point (Some p) r e = of_reservation p.reservation refl e
  where
    of_reservation : (o : Option Reservation) → p.reservation ≡ o
        → option_and_then (λ (x : Reservation). if is_live_reservation x then Some x else None) o ≡ Some r → IsLivePoint (Some p) r
    of_reservation None f h = absurd (none-some r h)
    of_reservation (Some x) f h =
        elim (x.is_doomed) as (λ b. x.is_doomed ≡ b → (if (if b then false else true) then Some x else None) ≡ Some r
        → IsLivePoint (Some p) r) [
          | true ↦ (λ g k. absurd (none-some r k))
          | false ↦
              (λ g k. record {
                point = p;
                there = refl;
                reserved = ap reserved_words f ∙ ap (λ b. if b then None else Some (length x.cells)) g
                    ∙ ap (λ (y : Reservation). Some (length y.cells)) (same_Some x r k);
              })
        ] refl h

-- ---- who has words

module _ (g : Occupancy) where
  pub block_covers : (objects : List Object) (addresses : List (Option Address)) (id i : ℕ) (o : Object) (n : Word)
      → g.shapes ≡ map shape_of objects → g.addresses ≡ addresses → Lies objects addresses id i o n → Covers (run_of g (OfBlock id)) n
  block_covers objects addresses id i o n shapes same l =
      let is : run_of g (OfBlock id) ≡ extent l.at (size_of o) =
      ap (λ ss. run_of_block (slice_get ss id) (entry_at g.addresses id)) shapes
      ∙ ap (λ xs. run_of_block (slice_get (map shape_of objects) id) (entry_at xs id)) same
      ∙ ap (λ x. run_of_block x (entry_at addresses id))
      (slice_get-map shape_of objects id ∙ ap (option_map shape_of) l.object)
      ∙ ap (run_of_block (Some (shape_of o))) l.address in
      subst (λ (r : Run). Covers r n) (sym is) (omega (arith, l.is), omega (arith, l.is, l.within))

  pub reservation_covers : (points : List (Option Point)) (memories : List PointMemory) (i l : ℕ) (r : Reservation) (n : Word)
      → g.points ≡ map shape_of_point points → g.memories ≡ memories → LiesReserved points memories i l r n
      → Covers (run_of g (OfReservation i)) n
  reservation_covers points memories i l r n shapes same x =
      let p = live_point (entry_at points i) r x.reserved in
      let is : run_of g (OfReservation i) ≡ extent x.memory.reserved_at (length r.cells) =
      ap (λ ps. run_of_reservation (entry_at ps i) (slice_get g.memories i)) shapes
      ∙ ap (λ ms. run_of_reservation (entry_at (map shape_of_point points) i) (slice_get ms i)) same
      ∙ ap (λ o. run_of_reservation o (slice_get memories i)) (shape_there points i p.point p.there)
      ∙ ap (λ o. run_of_reserved o (slice_get memories i)) p.reserved
      ∙ ap (run_of_reserved (Some (length r.cells))) x.has in
      subst (λ (s : Run). Covers s n) (sym is) (omega (arith, x.is), omega (arith, x.is, x.within))

-- ---- a point is reserved

module _ (w : World) (n : ℕ) (q : Point) (there : entry_at w.graph.points n ≡ Some q) (closed : q.reservation ≡ None) (r : Reservation)
    (undoomed : r.is_doomed ≡ false) (m : PointMemory) (segments : List Segment) (old : PointMemory)
    (has : slice_get w.point_memories n ≡ Some old) where
  abbrev pub entry_after : Point
  entry_after = record q { reservation = Some r }

  abbrev pub points_after : List (Option Point)
  points_after = slice_set w.graph.points n (Some entry_after)

  abbrev pub memories_after : List PointMemory
  memories_after = slice_set w.point_memories n m

  abbrev pub world_reserved : World
  world_reserved =
      record w { graph = record w.graph { points = points_after }; segments = segments; point_memories = memories_after }

  pub live : live_reservation (entry_at points_after n) ≡ Some r
  live =
      ap live_reservation (entry_at-set_same w.graph.points n (Some entry_after) (entry_within w.graph.points n q there))
      ∙ ap (λ (b : Bool). if (if b then false else true) then Some r else None) undoomed

  pub memory_now : slice_get memories_after n ≡ Some m
  memory_now =
      slice_get-set_same w.point_memories n m (Rattle.std.proofs.lemmas.Option.slice_get_within w.point_memories n old has)

  module _ (laid : HasLayout (w.grains + 1) w) (after : HasLayout (w.grains + 1) world_reserved) where
    -- it has its words alone
    own_word : (l : ℕ) → l < length r.cells → LiesReserved points_after memories_after n l r (word_of m.reserved_at + l)
    own_word l lt = record { memory = m; reserved = live; has = memory_now; within = lt; is = refl }

    pub own_covers : (l : ℕ) → l < length r.cells → Covers (run_of (occupancy_of world_reserved) (OfReservation n))
        (word_of m.reserved_at + l)
    own_covers l lt =
        reservation_covers (occupancy_of world_reserved) points_after memories_after n l r (word_of m.reserved_at + l) refl refl
        (own_word l lt)

    -- its run begins at its first word
    pub own_begins : (run_of (occupancy_of world_reserved) (OfReservation n)).from ≡ word_of m.reserved_at
    own_begins =
        ap (λ (x : Run). x.from)
        (ap (λ o. run_of_reservation o (slice_get memories_after n))
        (shape_there points_after n entry_after (entry_at-set_same w.graph.points n (Some entry_after)
        (entry_within w.graph.points n q there)))
        ∙ ap (λ (b : Bool). run_of_reserved (if b then None else Some (length r.cells)) (slice_get memories_after n)) undoomed
        ∙ ap (run_of_reserved (Some (length r.cells))) memory_now)

    -- a word of it lies in the arena
    pub own_within : (l : ℕ) → l < length r.cells → word_of m.reserved_at + l < words_of_arena w.grains
    own_within l lt =
        let c = own_covers l lt in
        let home = after.placed.homes (OfReservation n) (omega (arith, c.0, c.1)) in
        let bounds = segment_bounds 1 (w.grains + 1) segments home.segment after.ascending home.held in
        let a = among_aligned home.segment segments after.aligned home.held in
        omega (arith, c.1, home.below, bounds.2, a)

    other_still : (i l : ℕ) (x : Reservation) (k : Word) → LiesReserved w.graph.points w.point_memories i l x k → i ≢ n
        → LiesReserved points_after memories_after i l x k
    other_still i l x k y apart = record {
      memory = y.memory;
      reserved = ap live_reservation (entry_at-set_other w.graph.points n i (Some entry_after) (λ e. apart (sym e))) ∙ y.reserved;
      has = slice_get-set_other w.point_memories n i m (λ e. apart (sym e)) ∙ y.has;
      within = y.within;
      is = y.is;
    }

    not_own : (i : ℕ) (x : Reservation) → live_reservation (entry_at w.graph.points i) ≡ Some x → i ≢ n
    not_own i x e same =
        none-some x (sym (ap live_reservation there
        ∙ ap (option_and_then (λ (y : Reservation). if is_live_reservation y then Some y else None)) closed)
        ∙ ap (λ k. live_reservation (entry_at w.graph.points k)) (sym same) ∙ e)

    -- so its words are free before
    pub own_free : (s : Setting) → s.objects ≡ w.graph.objects → s.points ≡ w.graph.points → s.point_memories ≡ w.point_memories
        → s.size ≡ words_of_arena w.grains
        → ((l : ℕ) → l < length r.cells → IsOfNoMovedBlock s w.addresses (word_of m.reserved_at + l))
        → AreFree s w.addresses m.reserved_at (length r.cells)
    own_free s objects points memories arena unforwarded = record {
      within = λ l lt. subst (λ k. word_of m.reserved_at + l < k) (sym arena) (own_within l lt);
      unoccupied = λ l id i o lt x.
          let y : Lies w.graph.objects w.addresses id i o (word_of m.reserved_at + l) =
          subst (λ os. Lies os w.addresses id i o (word_of m.reserved_at + l)) objects x in
          let c = block_covers (occupancy_of world_reserved) w.graph.objects w.addresses id i o (word_of m.reserved_at + l) refl refl y in
          false≢true (sym (ap is_block (after.placed.apart (OfBlock id) (OfReservation n) (word_of m.reserved_at + l) c
          (own_covers l lt))));
      unreserved = λ l i j x lt y.
          let z : LiesReserved w.graph.points w.point_memories i j x (word_of m.reserved_at + l) =
          subst (λ ps. LiesReserved ps w.point_memories i j x (word_of m.reserved_at + l)) points
          (subst (λ ms. LiesReserved s.points ms i j x (word_of m.reserved_at + l)) memories y) in
          let apart = not_own i x z.reserved in
          let c = reservation_covers (occupancy_of world_reserved) points_after memories_after i j x (word_of m.reserved_at + l) refl refl
          (other_still i j x (word_of m.reserved_at + l) z apart) in
          apart (ap point_in (after.placed.apart (OfReservation i) (OfReservation n) (word_of m.reserved_at + l) c (own_covers l lt)));
      unforwarded = unforwarded;
    }

-- ---- words and segments

-- a word of a new block is its head, or 0
pub new_cell_is_fixed : (t : Time) (addresses : List (Option Address)) (f : Layout) (head l : ℕ) (c : Cell) (word : ℕ)
    → slice_get (new_cells f head) l ≡ Some c → (l ≡ 0 → word ≡ head) → (0 < l → word ≡ 0)
    → IsFixedWord t.condemned addresses t.colours head c word
new_cell_is_fixed t addresses f head zero c word e first later =
    let same : HeadCell ≡ c = same_Some HeadCell c e in
    subst (λ (x : Cell). IsFixedWord t.condemned addresses t.colours head x word) same
    (record { holds = first refl; not_white = λ u h. absurd (none-some u h) })
new_cell_is_fixed t addresses f head (suc l) c word e first later = later_cell 1 (f.size head - 1) l e (later (omega arith))
  where
    of_kind : (b : Bool) → word ≡ 0 → IsFixedWord t.condemned addresses t.colours head
        (if b then ReferenceCell None 0 else NumberCell 0) word
    of_kind true zero_word = record { holds = zero_word; not_white = λ u h. absurd (none-some u h) }
    of_kind false zero_word = record { holds = zero_word; not_white = λ u h. absurd (none-some u h) }

    later_cell : (k count j : ℕ) → slice_get (new_cells_from f head k count) j ≡ Some c → word ≡ 0
        → IsFixedWord t.condemned addresses t.colours head c word
    later_cell k zero j is zero_word = absurd (none-some c is)
    later_cell k (suc count) zero is zero_word =
        let same : (if f.is_reference head k then ReferenceCell None 0 else NumberCell 0) ≡ c =
        same_Some (if f.is_reference head k then ReferenceCell None 0 else NumberCell 0) c is in
        subst (λ (x : Cell). IsFixedWord t.condemned addresses t.colours head x word) same (of_kind (f.is_reference head k) zero_word)
    later_cell k (suc count) (suc j) is zero_word = later_cell (k + 1) count j is zero_word
