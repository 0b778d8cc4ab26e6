-- The runs of blocks, of reservations and of both, after a block was committed or allocated, and after a reservation was made or ended.
use Rattle.std.proofs.Common.{◌≡◌, ◌∙◌, ℕ, zero, suc, refl, sym, ap, List, [], ◌∷◌, ◌++◌, length, Option, Some, None, subst, append-nil}
use Rattle.std.proofs.lemmas.Option.{none-some, same_Some}
use Rattle.std.proofs.lemmas.List.{append_assoc}
use Rattle.std.specs.Prelude.{slice_get, slice_set, option_and_then, Bool, true, false, if◌then◌else◌, ◌≢◌}
use Rattle.mps_base.specs.Address.{Address, Word, word_of}
use Rattle.mps_base.specs.Run.{Run, in_order, with_run, without_run}
use Rattle.mps_model.specs.Graph.{Object, Point, Reservation, entry_at, size_of, is_live_reservation}
use Rattle.mps_model.specs.World.{PointMemory, extent, extents_of, extent_of_reservation, reserved_extents}
use Rattle.mps_trace_laws.specs.Image.Memory.{Setting, Memory, Lies, live_reservation}
use Rattle.mps_trace_laws.specs.Image.Image.{LieApart, RunsStand}
use Rattle.mps_trace_laws.specs.Image.Changes.{setting_made, addresses_made, setting_with_points, memory_with_block, memory_with_reservation, memory_without_reservation}
use Rattle.mps_trace_laws.proofs.Image.InOrder.{BeginElsewhere, in_order-with, in_order-without}
use Rattle.mps_laws.proofs.InOrder.{all_append}
use Rattle.mps_trace_laws.proofs.Image.Extents.{all_extents, extents_made, reserved_extent, parted_points}
use Rattle.mps_trace_laws.proofs.Image.Marked.{begins_there}

-- no block begins where none lies
pub blocks_elsewhere : (s : Setting) (addresses : List (Option Address)) (n : Word) → LieApart s addresses
    → ((id i : ℕ) (o : Object) → Lies s.objects addresses id i o n → ⊥) → BeginElsewhere n (extents_of s.objects addresses)
blocks_elsewhere s addresses n placed free =
    all_extents (λ (r : Run). r.from ≢ n) s.objects addresses (λ id at o there object e.
    free id 0 o (subst (λ y. Lies s.objects addresses id 0 o y) e (begins_there s addresses placed id at o there object)))

-- ---- a block

pub runs_made : (s : Setting) (m : Memory) (addresses : List (Option Address)) (o : Object) (at : Address)
    → length addresses ≡ length s.objects
    → LieApart s addresses → ((id i : ℕ) (p : Object) → Lies s.objects addresses id i p (word_of at) → ⊥) → RunsStand s m addresses
    → RunsStand (setting_made s o s.points s.point_memories) (memory_with_block m at (size_of o)) (addresses_made addresses at)
runs_made s m addresses o at numbered placed free r =
    let old = extents_of s.objects addresses in
    let new = extent at (size_of o) in
    let reserved = reserved_extents s.points s.point_memories in
    let elsewhere = blocks_elsewhere s addresses (word_of at) placed free in
    let is = extents_made s.objects addresses o at numbered in
    record {
      blocks =
          ap (with_run new) (r.blocks ∙ ap in_order (sym (append-nil old)))
          ∙ sym (ap in_order is ∙ in_order-with old new [] elsewhere);
      reservations = r.reservations;
      covered =
          ap (with_run new) r.covered
          ∙ sym (ap (λ rs. in_order (rs ++ reserved)) is ∙ ap in_order (append_assoc old (new ∷ []) reserved)
          ∙ in_order-with old new reserved elsewhere);
    }

-- ---- a reservation

slice_set-same : {X : Type 0} (xs : List X) (i : ℕ) (x : X) → slice_get xs i ≡ Some x → slice_set xs i x ≡ xs
slice_set-same [] i x e = refl
slice_set-same (y ∷ ys) zero x e = ap (λ z. z ∷ ys) (sym (same_Some y x e))
slice_set-same (y ∷ ys) (suc i) x e = ap (λ zs. y ∷ zs) (slice_set-same ys i x e)

of_live : (r : Reservation) (b : Bool) (q : Reservation) → is_live_reservation r ≡ b → (if b then Some r else None) ≡ Some q
    → (m : PointMemory) → extent_of_reservation (Some r) m ≡ extent m.reserved_at (length q.cells) ∷ []
of_live r true q live e m =
    ap (λ b. if b then extent m.reserved_at (length r.cells) ∷ [] else []) live
    ∙ ap (λ (x : Reservation). extent m.reserved_at (length x.cells) ∷ []) (same_Some r q e)
of_live r false q live e m = absurd (none-some q e)

of_none : (r : Reservation) (b : Bool) → is_live_reservation r ≡ b → (if b then Some r else None) ≡ None → (m : PointMemory)
    → extent_of_reservation (Some r) m ≡ []
of_none r true live e m = absurd (none-some r (sym e))
of_none r false live e m = ap (λ b. if b then extent m.reserved_at (length r.cells) ∷ [] else []) live

-- the extent of a live reservation
pub extent_live : (p : Option Point) (q : Reservation) (m : PointMemory) → live_reservation p ≡ Some q
    → reserved_extent p m ≡ extent m.reserved_at (length q.cells) ∷ []
extent_live None q m e = absurd (none-some q e)
extent_live (Some p) q m e = go p.reservation e
  where
    go : (r : Option Reservation)
        → option_and_then (λ x. if is_live_reservation x then Some x else None) r ≡ Some q
        → extent_of_reservation r m ≡ extent m.reserved_at (length q.cells) ∷ []
    go None e' = absurd (none-some q e')
    go (Some r) e' = of_live r (is_live_reservation r) q refl e' m

pub extent_none : (p : Option Point) (m : PointMemory) → live_reservation p ≡ None → reserved_extent p m ≡ []
extent_none None m e = refl
extent_none (Some p) m e = go p.reservation e
  where
    go : (r : Option Reservation)
        → option_and_then (λ x. if is_live_reservation x then Some x else None) r ≡ None
        → extent_of_reservation r m ≡ []
    go None e' = refl
    go (Some r) e' = of_none r (is_live_reservation r) refl e' m

module _ (s : Setting) (m : Memory) (addresses : List (Option Address)) (i : ℕ) (p : Option Point) (memory : PointMemory)
    (point : slice_get s.points i ≡ Some p) (has : slice_get s.point_memories i ≡ Some memory) (r : RunsStand s m addresses) where
  abbrev blocks : List Run
  blocks = extents_of s.objects addresses

  -- a point without a live reservation gets one, where no block and no other reservation begins
  pub runs_reserved : (p' : Point) (q : Reservation) (there : PointMemory) → live_reservation p ≡ None → live_reservation (Some p') ≡ Some q
      → BeginElsewhere (word_of there.reserved_at) blocks
      → ((j : ℕ) (r : Reservation) (n : PointMemory) → j ≢ i → live_reservation (entry_at s.points j) ≡ Some r
      → slice_get s.point_memories j ≡ Some n → word_of n.reserved_at ≢ word_of there.reserved_at)
      → RunsStand (setting_with_points s (slice_set s.points i (Some p')) (slice_set s.point_memories i there))
      (memory_with_reservation m there.reserved_at (length q.cells)) addresses
  runs_reserved p' q there none live elsewhere apart =
      let d = parted_points s.points s.point_memories i p memory point has in
      let new = extent there.reserved_at (length q.cells) in
      let others = d.others (λ (x : Run). x.from ≢ word_of there.reserved_at) apart in
      let was : reserved_extents s.points s.point_memories ≡ d.before ++ d.after =
      d.is ∙ ap (λ rs. d.before ++ (rs ++ d.after)) (extent_none p memory none)
      in
      let is : reserved_extents (slice_set s.points i (Some p')) (slice_set s.point_memories i there) ≡ d.before ++ new ∷ d.after =
      d.set (Some p') there ∙ ap (λ rs. d.before ++ (rs ++ d.after)) (extent_live (Some p') q there live)
      in
      record {
        blocks = r.blocks;
        reservations =
            ap (with_run new) (r.reservations ∙ ap in_order was)
            ∙ sym (ap in_order is ∙ in_order-with d.before new d.after others.0);
        covered =
            ap (with_run new) (r.covered ∙ ap (λ rs. in_order (blocks ++ rs)) was
            ∙ ap in_order (sym (append_assoc blocks d.before d.after)))
            ∙ sym (ap (λ rs. in_order (blocks ++ rs)) is ∙ ap in_order (sym (append_assoc blocks d.before (new ∷ d.after)))
            ∙ in_order-with (blocks ++ d.before) new d.after
            (all_append (λ (x : Run). x.from ≢ word_of there.reserved_at) blocks d.before elsewhere others.0));
      }

  -- a live reservation ends: it is abandoned, or committed
  pub runs_ended : (p' : Point) (q : Reservation) → live_reservation p ≡ Some q → live_reservation (Some p') ≡ None
      → BeginElsewhere (word_of memory.reserved_at) blocks
      → ((j : ℕ) (r : Reservation) (n : PointMemory) → j ≢ i → live_reservation (entry_at s.points j) ≡ Some r
      → slice_get s.point_memories j ≡ Some n → word_of n.reserved_at ≢ word_of memory.reserved_at)
      → RunsStand (setting_with_points s (slice_set s.points i (Some p')) s.point_memories)
      (memory_without_reservation m memory.reserved_at) addresses
  runs_ended p' q live none elsewhere apart =
      let d = parted_points s.points s.point_memories i p memory point has in
      let old = extent memory.reserved_at (length q.cells) in
      let others = d.others (λ (x : Run). x.from ≢ word_of memory.reserved_at) apart in
      let was : reserved_extents s.points s.point_memories ≡ d.before ++ old ∷ d.after =
      d.is ∙ ap (λ rs. d.before ++ (rs ++ d.after)) (extent_live p q memory live)
      in
      let is : reserved_extents (slice_set s.points i (Some p')) s.point_memories ≡ d.before ++ d.after =
      ap (λ ms. reserved_extents (slice_set s.points i (Some p')) ms) (sym (slice_set-same s.point_memories i memory has))
      ∙ d.set (Some p') memory ∙ ap (λ rs. d.before ++ (rs ++ d.after)) (extent_none (Some p') memory none)
      in
      record {
        blocks = r.blocks;
        reservations =
            ap (without_run (word_of memory.reserved_at)) (r.reservations ∙ ap in_order was)
            ∙ sym (ap in_order is ∙ in_order-without d.before old d.after others.0 others.1);
        covered =
            ap (without_run (word_of memory.reserved_at))
            (r.covered ∙ ap (λ rs. in_order (blocks ++ rs)) was ∙ ap in_order (sym (append_assoc blocks d.before (old ∷ d.after))))
            ∙ sym (ap (λ rs. in_order (blocks ++ rs)) is ∙ ap in_order (sym (append_assoc blocks d.before d.after))
            ∙ in_order-without (blocks ++ d.before) old d.after
            (all_append (λ (x : Run). x.from ≢ word_of memory.reserved_at) blocks d.before elsewhere others.0) others.1);
      }

  -- the cells of a live reservation are written: it has as many as before
  pub runs_written : (p' : Point) (q q' : Reservation) → live_reservation p ≡ Some q → live_reservation (Some p') ≡ Some q'
      → length q.cells ≡ length q'.cells
      → RunsStand (setting_with_points s (slice_set s.points i (Some p')) s.point_memories) m addresses
  runs_written p' q q' live live' same =
      let d = parted_points s.points s.point_memories i p memory point has in
      let is : reserved_extents s.points s.point_memories ≡ reserved_extents (slice_set s.points i (Some p')) s.point_memories =
      d.is ∙ ap (λ rs. d.before ++ (rs ++ d.after)) (extent_live p q memory live)
      ∙ ap (λ n. d.before ++ ((extent memory.reserved_at n ∷ []) ++ d.after)) same
      ∙ sym (ap (λ ms. reserved_extents (slice_set s.points i (Some p')) ms) (sym (slice_set-same s.point_memories i memory has))
      ∙ d.set (Some p') memory ∙ ap (λ rs. d.before ++ (rs ++ d.after)) (extent_live (Some p') q' memory live'))
      in
      record {
        blocks = r.blocks;
        reservations = r.reservations ∙ ap in_order is;
        covered = r.covered ∙ ap (λ rs. in_order (blocks ++ rs)) is;
      }
