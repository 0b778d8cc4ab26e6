-- A flip ends the reservations that are open, in whatever order points have them.
use Rattle.std.proofs.Common.{◌≡◌, ◌∙◌, sym, ap, List, [], ◌∷◌, ◌++◌, subst}
use Rattle.mps_base.specs.Run.{Run, IsAscending, in_order, with_run}
use Rattle.mps_model.specs.World.{extents_of, reserved_extents}
use Rattle.mps_trace_laws.specs.Flip.Ended.{open_runs, AreCovered}
use Rattle.mps_trace_laws.proofs.Flip.Apart.{begin_apart}
use Rattle.mps_trace_laws.proofs.Flip.Ended.{flip_ends_reservations}
use Rattle.mps_trace_laws.proofs.Flip.Reservations.{no_reservation_is_live}
use Rattle.std.specs.Prelude.{ℕ, Bool, Option, map}
use Rattle.mps_base.specs.Address.{Address, Id, Word}
use Rattle.mps_buffer.specs.Points.{PointsState}
use Rattle.mps_trace_laws.specs.Image.Bands.{setting_flipped}
use Rattle.mps_trace_laws.specs.Image.Image.{RunsStand}
use Rattle.mps_trace_laws.specs.Image.Memory.{Setting, memory_in}
use Rattle.mps_model.specs.Effect.{doomed, without_buffer}
use Rattle.mps_trace.specs.GenState.{ChainsState}
use Rattle.mps_trace.specs.declared.condemn.Condemn.{Condemn}
use Rattle.mps_trace.specs.Flip.{at_flip}
use Rattle.mps_trace.specs.Trace.{Traced}
use Rattle.mps_format.specs.declared.pool.Policy.{Policy}

-- after the same blocks, runs with the same order are in the same order
order_after : (blocks rs qs : List Run) → in_order rs ≡ in_order qs → in_order (blocks ++ rs) ≡ in_order (blocks ++ qs)
order_after [] rs qs same = same
order_after (b ∷ bs) rs qs same = ap (with_run b) (order_after bs rs qs same)

-- if runs stand before a flip, what is covered ascends without overlap, and the reservations in words are those of points that no flip
-- ended, in whatever order these are, runs stand after it
pub flip_leaves_runs : {F : Type 0}
    → (formats : List (Option (Policy F))) (chains : ChainsState) (what : Condemn) (points : PointsState) (x : Traced)
    (s : Setting) (addresses : List (Option Address))
    (condemned : List Id) (is_condemned_over : Word → Bool) (high : ℕ) → RunsStand s (memory_in x.segs) addresses
    → IsAscending 0 high x.segs.covered → x.segs.reservations ≡ in_order (open_runs points.flips points.points)
    → RunsStand
    (setting_flipped s addresses (map doomed s.points) (map without_buffer s.point_memories) condemned is_condemned_over)
    (memory_in (at_flip formats chains what points x).segs) addresses
flip_leaves_runs formats chains what points x s addresses condemned is_condemned_over high runs ascending same =
    let extents : List Run = extents_of s.objects addresses in
    let reserved : List Run = reserved_extents s.points s.point_memories in
    let open_ones : List Run = open_runs points.flips points.points in
    let covered : x.segs.covered ≡ in_order (extents ++ open_ones) =
    runs.covered ∙ order_after extents reserved open_ones (sym runs.reservations ∙ same)
    in
    let c : AreCovered x.segs extents open_ones = record { blocks = runs.blocks; reservations = same; covered = covered } in
    let after = flip_ends_reservations formats chains what points x extents c
    (begin_apart 0 high extents open_ones (subst (IsAscending 0 high) covered ascending)) in
    let none = no_reservation_is_live s.points s.point_memories in
    record {
      blocks = after.blocks;
      reservations = after.reservations ∙ sym (ap in_order none.extents);
      covered = after.covered ∙ sym (ap (λ rs. in_order (extents ++ rs)) none.extents);
    }
