-- The runs that blocks and reservations cover, as a list: they are those of the occupants that aren't at hand, and they ascend.
use Rattle.std.proofs.Common.{◌≡◌, ◌∙◌, ℕ, zero, suc, ◌*◌, ◌<◌, Bool, true, false, refl, sym, ap, List, [], ◌∷◌, ◌++◌, length, Option, Some, None, subst, arith}
use Rattle.std.proofs.lemmas.Bool.{false≢true, true≢false}
use Rattle.std.proofs.lemmas.Option.{none-some, same_Some}
use Rattle.std.specs.Prelude.{map, slice_get, ◌≢◌, ◌||◌}
use Rattle.std.specs.List.{AllByRecursion, list_any}
use Rattle.mps_base.specs.Address.{Address}
use Rattle.mps_base.specs.Run.{Run, Covers, IsAscending, in_order}
use Rattle.mps_base.specs.Segment.{Segment, words_of_segment}
use Rattle.mps_model.specs.Graph.{Object, Point, Reservation, entry_at}
use Rattle.mps_model.specs.World.{World, PointMemory, extent, extents_of, extent_of_reservation, reserved_extents, covered, begins_in}
use Rattle.mps_laws.proofs.InOrder.{all_append}
use Rattle.mps_laws.proofs.Positions.ApartRuns.{AreApart, AreAllApart, IsRunWithin, apart_append, all_from_in_order, ascending_in_order}
use Rattle.mps_laws.proofs.Positions.Segments.{IsAmong, among_aligned, in_segment, segment_bounds, same_segment}
use Rattle.mps_laws.proofs.Positions.Occupancy.{Occupancy, Occupant, OfBlock, OfReservation, OfBuffer, OfTail, Shape, PointShape, shape_of, shape_of_point, occupancy_of, run_of, run_of_block, run_of_reservation, run_of_reserved}
use Rattle.mps_laws.proofs.Positions.LaidOut.{IsLaidOut, is_at_hand}

-- ---- by shapes

abbrev pub extents_in : List Shape → List (Option Address) → List Run
extents_in [] addresses = []
extents_in (s ∷ ss) [] = []
extents_in (s ∷ ss) (None ∷ addresses) = extents_in ss addresses
extents_in (s ∷ ss) (Some at ∷ addresses) = extent at s.words ∷ extents_in ss addresses

abbrev reserved_extent : Option ℕ → PointMemory → List Run
reserved_extent None m = []
reserved_extent (Some words) m = extent m.reserved_at words ∷ []

abbrev pub reserved_in : List (Option PointShape) → List PointMemory → List Run
reserved_in [] memories = []
reserved_in (p ∷ ps) [] = []
reserved_in (None ∷ ps) (m ∷ ms) = reserved_in ps ms
reserved_in (Some p ∷ ps) (m ∷ ms) = reserved_extent p.reserved m ++ reserved_in ps ms

abbrev pub covered_in : Occupancy → List Run
covered_in g = in_order (extents_in g.shapes g.addresses ++ reserved_in g.points g.memories)

extents-shapes : (os : List Object) (addresses : List (Option Address)) → extents_of os addresses ≡ extents_in (map shape_of os) addresses
extents-shapes [] addresses = refl
extents-shapes (o ∷ os) [] = refl
extents-shapes (o ∷ os) (None ∷ addresses) = extents-shapes os addresses
extents-shapes (o ∷ os) (Some at ∷ addresses) = ap (λ rs. extent at (shape_of o).words ∷ rs) (extents-shapes os addresses)

reserved-shape : (r : Option Reservation) (m : PointMemory)
    → extent_of_reservation r m ≡ reserved_extent (Rattle.mps_laws.proofs.Positions.Occupancy.reserved_words r) m
reserved-shape None m = refl
reserved-shape (Some r) m = of_doomed r.is_doomed
  where
    of_doomed : (b : Bool)
        → Rattle.std.specs.Prelude.if◌then◌else◌ (Rattle.std.specs.Prelude.if◌then◌else◌ b false true)
        (extent m.reserved_at (length r.cells) ∷ []) []
        ≡ reserved_extent (Rattle.std.specs.Prelude.if◌then◌else◌ b None (Some (length r.cells))) m
    of_doomed true = refl
    of_doomed false = refl

reserved-shapes : (ps : List (Option Point)) (ms : List PointMemory) → reserved_extents ps ms ≡ reserved_in (map shape_of_point ps) ms
reserved-shapes [] ms = refl
reserved-shapes (p ∷ ps) [] = refl
reserved-shapes (None ∷ ps) (m ∷ ms) = reserved-shapes ps ms
reserved-shapes (Some p ∷ ps) (m ∷ ms) =
    ap (λ rs. rs ++ reserved_extents ps ms) (reserved-shape p.reservation m)
    ∙ ap (λ rs. reserved_extent (Rattle.mps_laws.proofs.Positions.Occupancy.reserved_words p.reservation) m ++ rs) (reserved-shapes ps ms)

pub covered-shapes : (w : World) → covered w ≡ covered_in (occupancy_of w)
covered-shapes w =
    ap (λ rs. in_order (rs ++ reserved_extents w.graph.points w.point_memories)) (extents-shapes w.graph.objects w.addresses)
    ∙ ap (λ rs. in_order (extents_in (map shape_of w.graph.objects) w.addresses ++ rs)) (reserved-shapes w.graph.points w.point_memories)

-- ---- a fact of each holds of all, and back

module _ (P : Run → Type 0) where
  pub all_extents : (ss : List Shape) (addresses : List (Option Address))
      → ((i : ℕ) (s : Shape) (at : Address) → slice_get ss i ≡ Some s → entry_at addresses i ≡ Some at → P (extent at s.words))
      → AllByRecursion P (extents_in ss addresses)
  all_extents [] addresses each = tt
  all_extents (s ∷ ss) [] each = tt
  all_extents (s ∷ ss) (None ∷ addresses) each = all_extents ss addresses (λ i t at e f. each (suc i) t at e f)
  all_extents (s ∷ ss) (Some at ∷ addresses) each =
      (each zero s at refl refl, all_extents ss addresses (λ i t b e f. each (suc i) t b e f))

  pub each_extent : (ss : List Shape) (addresses : List (Option Address)) (i : ℕ) (s : Shape) (at : Address)
      → AllByRecursion P (extents_in ss addresses) → slice_get ss i ≡ Some s → entry_at addresses i ≡ Some at → P (extent at s.words)
  each_extent [] addresses i s at all e f = absurd (none-some s e)
  each_extent (t ∷ ss) [] i s at all e f = absurd (none-some at f)
  each_extent (t ∷ ss) (None ∷ addresses) zero s at all e f = absurd (none-some at f)
  each_extent (t ∷ ss) (None ∷ addresses) (suc i) s at all e f = each_extent ss addresses i s at all e f
  each_extent (t ∷ ss) (Some b ∷ addresses) zero s at all e f =
      subst (λ (x : Shape). P (extent at x.words)) (same_Some t s e) (subst (λ (x : ℕ). P (extent x t.words)) (same_Some b at f) all.0)
  each_extent (t ∷ ss) (Some b ∷ addresses) (suc i) s at all e f = each_extent ss addresses i s at all.1 e f

  all_reserved_here : (o : Option ℕ) (m : PointMemory) (rest : List Run) → ((words : ℕ) → o ≡ Some words → P (extent m.reserved_at words))
      → AllByRecursion P rest → AllByRecursion P (reserved_extent o m ++ rest)
  all_reserved_here None m rest here all = all
  all_reserved_here (Some words) m rest here all = (here words refl, all)

  pub all_reserved : (ps : List (Option PointShape)) (ms : List PointMemory)
      → ((i : ℕ) (p : PointShape) (words : ℕ) (m : PointMemory) → entry_at ps i ≡ Some p → p.reserved ≡ Some words → slice_get ms i ≡ Some m
      → P (extent m.reserved_at words)) → AllByRecursion P (reserved_in ps ms)
  all_reserved [] ms each = tt
  all_reserved (p ∷ ps) [] each = tt
  all_reserved (None ∷ ps) (m ∷ ms) each = all_reserved ps ms (λ i q words n e r f. each (suc i) q words n e r f)
  all_reserved (Some p ∷ ps) (m ∷ ms) each =
      all_reserved_here p.reserved m (reserved_in ps ms) (λ words r. each zero p words m refl r refl)
      (all_reserved ps ms (λ i q words n e r f. each (suc i) q words n e r f))

  later_reserved : (o : Option ℕ) (m : PointMemory) (rest : List Run) → AllByRecursion P (reserved_extent o m ++ rest)
      → AllByRecursion P rest
  later_reserved None m rest all = all
  later_reserved (Some words) m rest all = all.1

  here_reserved : (o : Option ℕ) (m : PointMemory) (rest : List Run) (words : ℕ) → o ≡ Some words
      → AllByRecursion P (reserved_extent o m ++ rest) → P (extent m.reserved_at words)
  here_reserved None m rest words e all = absurd (none-some words e)
  here_reserved (Some n) m rest words e all = subst (λ (x : ℕ). P (extent m.reserved_at x)) (same_Some n words e) all.0

  pub each_reserved : (ps : List (Option PointShape)) (ms : List PointMemory) (i : ℕ) (p : PointShape) (words : ℕ) (m : PointMemory)
      → AllByRecursion P (reserved_in ps ms) → entry_at ps i ≡ Some p → p.reserved ≡ Some words → slice_get ms i ≡ Some m
      → P (extent m.reserved_at words)
  each_reserved [] ms i p words m all e r f = absurd (none-some p e)
  each_reserved (q ∷ ps) [] i p words m all e r f = absurd (none-some m f)
  each_reserved (None ∷ ps) (n ∷ ms) zero p words m all e r f = absurd (none-some p e)
  each_reserved (None ∷ ps) (n ∷ ms) (suc i) p words m all e r f = each_reserved ps ms i p words m all e r f
  each_reserved (Some q ∷ ps) (n ∷ ms) zero p words m all e r f =
      subst (λ (x : PointMemory). P (extent x.reserved_at words)) (same_Some n m f)
      (here_reserved q.reserved n (reserved_in ps ms) words (ap (λ (x : PointShape). x.reserved) (same_Some q p e) ∙ r) all)
  each_reserved (Some q ∷ ps) (n ∷ ms) (suc i) p words m all e r f =
      each_reserved ps ms i p words m (later_reserved q.reserved n (reserved_in ps ms) all) e r f

-- ---- lists whose runs are apart

pub extents_apart : (ss : List Shape) (addresses : List (Option Address))
    → ((i j : ℕ) (s t : Shape) (a b : Address) → i ≢ j → slice_get ss i ≡ Some s → entry_at addresses i ≡ Some a → slice_get ss j ≡ Some t
    → entry_at addresses j ≡ Some b → AreApart (extent a s.words) (extent b t.words)) → AreAllApart (extents_in ss addresses)
extents_apart [] addresses each = tt
extents_apart (s ∷ ss) [] each = tt
extents_apart (s ∷ ss) (None ∷ addresses) each =
    extents_apart ss addresses (λ i j t u a b n e f e' f'. each (suc i) (suc j) t u a b (λ h. n (omega (arith, h))) e f e' f')
extents_apart (s ∷ ss) (Some at ∷ addresses) each = (
  all_extents (AreApart (extent at s.words)) ss addresses (λ j t b e f. each zero (suc j) s t at b (λ h. omega (arith, h)) refl refl e f),
  extents_apart ss addresses (λ i j t u a b n e f e' f'. each (suc i) (suc j) t u a b (λ h. n (omega (arith, h))) e f e' f'),
)

reserved_apart_here : (o : Option ℕ) (m : PointMemory) (rest : List Run)
    → ((words : ℕ) → o ≡ Some words → AllByRecursion (AreApart (extent m.reserved_at words)) rest) → AreAllApart rest
    → AreAllApart (reserved_extent o m ++ rest)
reserved_apart_here None m rest here all = all
reserved_apart_here (Some words) m rest here all = (here words refl, all)

pub reserved_apart : (ps : List (Option PointShape)) (ms : List PointMemory)
    → ((i j : ℕ) (p q : PointShape) (k l : ℕ) (m n : PointMemory) → i ≢ j → entry_at ps i ≡ Some p → p.reserved ≡ Some k
    → slice_get ms i ≡ Some m
    → entry_at ps j ≡ Some q → q.reserved ≡ Some l → slice_get ms j ≡ Some n → AreApart (extent m.reserved_at k) (extent n.reserved_at l))
    → AreAllApart (reserved_in ps ms)
reserved_apart [] ms each = tt
reserved_apart (p ∷ ps) [] each = tt
reserved_apart (None ∷ ps) (m ∷ ms) each =
    reserved_apart ps ms (λ i j p q k l m n d e r f e' r' f'. each (suc i) (suc j) p q k l m n (λ h. d (omega (arith, h))) e r f e' r' f')
reserved_apart (Some p ∷ ps) (m ∷ ms) each =
    reserved_apart_here p.reserved m (reserved_in ps ms)
    (λ words h. all_reserved (AreApart (extent m.reserved_at words)) ps ms
    (λ j q l n e r f. each zero (suc j) p q words l m n (λ x. omega (arith, x)) refl h refl e r f))
    (reserved_apart ps ms (λ i j p q k l m n d e r f e' r' f'. each (suc i) (suc j) p q k l m n (λ h. d (omega (arith, h))) e r f e' r' f'))

-- ---- occupants

block_of_run : (g : Occupancy) (i : ℕ) (s : Shape) (at : Address) → slice_get g.shapes i ≡ Some s → entry_at g.addresses i ≡ Some at
    → run_of g (OfBlock i) ≡ extent at s.words
block_of_run g i s at e f = ap (λ o. run_of_block o (entry_at g.addresses i)) e ∙ ap (run_of_block (Some s)) f

reservation_of_run : (g : Occupancy) (i : ℕ) (p : PointShape) (words : ℕ) (m : PointMemory) → entry_at g.points i ≡ Some p
    → p.reserved ≡ Some words → slice_get g.memories i ≡ Some m → run_of g (OfReservation i) ≡ extent m.reserved_at words
reservation_of_run g i p words m e r f =
    ap (λ o. run_of_reservation o (slice_get g.memories i)) e ∙ ap (λ o. run_of_reserved o (slice_get g.memories i)) r
    ∙ ap (run_of_reserved (Some words)) f

pub or_false : (a b : Bool) → (a || b) ≡ false → (a ≡ false) × (b ≡ false)
or_false true b h = absurd (true≢false h)
or_false false b h = (refl, h)

pub list_any-false : {X : Type 0} (p : X → Bool) (xs : List X) → list_any p xs ≡ false → AllByRecursion (λ x. p x ≡ false) xs
list_any-false p [] h = tt
list_any-false p (x ∷ xs) h = let parts = or_false (p x) (list_any p xs) h in (parts.0, list_any-false p xs parts.1)

module _ (limit : ℕ) (g : Occupancy) (laid : IsLaidOut limit g) where
  abbrev pub listed : List Run
  listed = extents_in g.shapes g.addresses ++ reserved_in g.points g.memories

  -- what holds of each occupant's words that has any and isn't at hand holds of all runs
  pub all_listed : (P : Run → Type 0) → ((o : Occupant) → is_at_hand o ≡ false → 0 < (run_of g o).count → P (run_of g o))
      → AllByRecursion P listed
  all_listed P each =
      all_append P (extents_in g.shapes g.addresses) (reserved_in g.points g.memories)
      (all_extents P g.shapes g.addresses (λ i s at e f.
      let run = block_of_run g i s at e f in
      subst P run (each (OfBlock i) refl (subst (λ (r : Run). 0 < r.count) (sym run) (laid.shapes i s e).some))))
      (all_reserved P g.points g.memories (λ i p words m e r f.
      let run = reservation_of_run g i p words m e r f in
      subst P run (each (OfReservation i) refl (subst (λ (x : Run). 0 < x.count) (sym run) ((laid.points i p e).some words r)))))

  first_part : (P : Run → Type 0) (xs ys : List Run) → AllByRecursion P (xs ++ ys) → AllByRecursion P xs
  first_part P [] ys all = tt
  first_part P (x ∷ xs) ys all = (all.0, first_part P xs ys all.1)

  second_part : (P : Run → Type 0) (xs ys : List Run) → AllByRecursion P (xs ++ ys) → AllByRecursion P ys
  second_part P [] ys all = all
  second_part P (x ∷ xs) ys all = second_part P xs ys all.1

  -- and back
  pub each_listed : (P : Run → Type 0) → AllByRecursion P listed → (o : Occupant) → is_at_hand o ≡ false → 0 < (run_of g o).count
      → P (run_of g o)
  each_listed P all (OfBlock i) h some = of_block (slice_get g.shapes i) (entry_at g.addresses i) refl refl some
    where
      of_block : (s : Option Shape) (a : Option Address) → slice_get g.shapes i ≡ s → entry_at g.addresses i ≡ a
          → 0 < (run_of_block s a).count
          → P (run_of g (OfBlock i))
      of_block None a e f some = absurd (omega (arith, some))
      of_block (Some s) None e f some = absurd (omega (arith, some))
      of_block (Some s) (Some at) e f some =
          subst P (sym (block_of_run g i s at e f))
          (each_extent P g.shapes g.addresses i s at (first_part P (extents_in g.shapes g.addresses)
          (reserved_in g.points g.memories) all) e f)
  each_listed P all (OfReservation i) h some = of_reservation (entry_at g.points i) (slice_get g.memories i) refl refl some
    where
      of_reserved : (p : PointShape) (words : Option ℕ) (m : Option PointMemory) → entry_at g.points i ≡ Some p → p.reserved ≡ words
          → slice_get g.memories i ≡ m → 0 < (run_of_reserved words m).count → P (run_of g (OfReservation i))
      of_reserved p None m e r f some = absurd (omega (arith, some))
      of_reserved p (Some words) None e r f some = absurd (omega (arith, some))
      of_reserved p (Some words) (Some m) e r f some =
          subst P (sym (reservation_of_run g i p words m e r f))
          (each_reserved P g.points g.memories i p words m
          (second_part P (extents_in g.shapes g.addresses) (reserved_in g.points g.memories) all) e r f)

      of_reservation : (p : Option PointShape) (m : Option PointMemory) → entry_at g.points i ≡ p → slice_get g.memories i ≡ m
          → 0 < (run_of_reservation p m).count → P (run_of g (OfReservation i))
      of_reservation None m e f some = absurd (omega (arith, some))
      of_reservation (Some p) m e f some = of_reserved p p.reserved m e refl f some
  each_listed P all (OfBuffer i) h some = absurd (true≢false h)
  each_listed P all (OfTail pool generation) h some = absurd (true≢false h)

  apart_by : (a b : Occupant) (r s : Run) → run_of g a ≡ r → run_of g b ≡ s → (a ≡ b → ⊥) → AreApart r s
  apart_by a b r s e f n k c d =
      n (laid.placed.apart a b k (subst (λ (x : Run). Covers x k) (sym e) c) (subst (λ (x : Run). Covers x k) (sym f) d))

  pub listed_apart : AreAllApart listed
  listed_apart =
      apart_append (extents_in g.shapes g.addresses) (reserved_in g.points g.memories)
      (extents_apart g.shapes g.addresses (λ i j s t a b n e f e' f'.
      apart_by (OfBlock i) (OfBlock j) (extent a s.words) (extent b t.words) (block_of_run g i s a e f) (block_of_run g j t b e' f')
      (λ h. n (ap number_of h))))
      (reserved_apart g.points g.memories (λ i j p q k l m m' n e r f e' r' f'.
      apart_by (OfReservation i) (OfReservation j) (extent m.reserved_at k) (extent m'.reserved_at l) (reservation_of_run g i p k m e r f)
      (reservation_of_run g j q l m' e' r' f') (λ h. n (ap number_of h))))
      (all_extents (λ x. AllByRecursion (AreApart x) (reserved_in g.points g.memories)) g.shapes g.addresses (λ i s a e f.
      all_reserved (AreApart (extent a s.words)) g.points g.memories (λ j q l m' e' r' f'.
      apart_by (OfBlock i) (OfReservation j) (extent a s.words) (extent m'.reserved_at l) (block_of_run g i s a e f)
      (reservation_of_run g j q l m' e' r' f') (λ h. false≢true (sym (ap block_test h))))))
    where
      number_of : Occupant → ℕ
      number_of (OfBlock id) = id
      number_of (OfReservation point) = point
      number_of (OfBuffer point) = point
      number_of (OfTail pool generation) = generation

      block_test : Occupant → Bool
      block_test (OfBlock id) = true
      block_test (OfReservation point) = false
      block_test (OfBuffer point) = false
      block_test (OfTail pool generation) = false

  pub occupant_within : (o : Occupant) → 0 < (run_of g o).count → IsRunWithin 0 (512 * limit) (run_of g o)
  occupant_within o some =
      let home = laid.placed.homes o some in
      let bounds = segment_bounds 1 limit g.segments home.segment laid.ascending home.held in
      let a = among_aligned home.segment g.segments laid.aligned home.held in
      record { above = omega arith; below = omega (arith, home.below, bounds.2, a); some = some }

  pub covered_ascending : IsAscending 0 (512 * limit) (covered_in g)
  covered_ascending =
      ascending_in_order (512 * limit) listed (all_listed (IsRunWithin 0 (512 * limit)) (λ o h some. occupant_within o some)) listed_apart

  -- ---- a segment in which nothing begins

  -- no block and no reservation has it for its home
  pub empty_is_no_home : (s : Segment) → IsAmong s g.segments → list_any (begins_in s) (covered_in g) ≡ false
      → (o : Occupant) (some : 0 < (run_of g o).count) → is_at_hand o ≡ false → (laid.placed.homes o some).segment.base ≢ s.base
  empty_is_no_home s held none o some h e =
      let home = laid.placed.homes o some in
      let bounds = segment_bounds 1 limit g.segments home.segment laid.ascending home.held in
      let bounds' = segment_bounds 1 limit g.segments s laid.ascending held in
      let a = among_aligned s g.segments laid.aligned held in
      let one : home.segment ≡ s =
      same_segment 1 limit g.segments home.segment s laid.ascending home.held held (Rattle.mps_base.specs.Address.grain_of s.base)
      (omega (arith, e), omega (arith, e, bounds.1)) (omega arith, omega (arith, bounds'.1)) in
      let within : Covers (words_of_segment s) (run_of g o).from =
      subst (λ (t : Segment). Covers (words_of_segment t) (run_of g o).from) one
      (omega (arith, home.above), omega (arith, home.below, some)) in
      let outside : begins_in s (run_of g o) ≡ false =
      each_listed (λ r. begins_in s r ≡ false) (all_from_in_order (λ r. begins_in s r ≡ false) listed
      (list_any-false (begins_in s) (covered_in g) none))
      o h some in
      false≢true (sym outside ∙ in_segment s (run_of g o).from a within)
