-- A reclaim leaves room for the moves that are left.
use Rattle.std.proofs.Common.{◌≡◌, ◌∙◌, ◌+◌, ◌≤◌, refl, sym, ap, subst, List, [], ◌∷◌, Some, length, arith}
use Rattle.std.proofs.lemmas.Option.{same_Some}
use Rattle.std.specs.Prelude.{◌&&◌, is_some, count_by}
use Rattle.mps_base.specs.Address.{Address}
use Rattle.mps_base.specs.Run.{Run}
use Rattle.mps_base.specs.Segment.{Segment, segment_over}
use Rattle.mps_base.specs.Trail.{Moves, with_move}
use Rattle.mps_base.specs.declared.address.Addr.{Addr}
use Rattle.mps_base.specs.declared.moves.Move.TheVariants.{Free}
use Rattle.mps_seg.specs.Segs.{SegsState, at_word}
use Rattle.mps_seg.specs.Reclaiming.{lost_of, moves_freed, IsSwept, is_given, is_used}
use Rattle.mps_model.specs.World.{World, is_copying_object, live_ids, numbers_of}
use Rattle.mps_abstract.specs.Colours.{is_white}
use Rattle.mps_abstract.specs.Collecting.{Collecting, Running}
use Rattle.mps_abstract.specs.Units.{IsReclaimedNext}
use Rattle.mps_abstract.proofs.Reclaimed.{count_by-fewer, frees, final_world, final_state, live_before, segments_fewer}
use Rattle.mps_trace_laws.specs.Fix.Room.{moving_left, white_left, splats_at, splats_left, moves_left}
use Rattle.mps_trace_laws.specs.Reclaim.Freed.{addresses_of, addresses_without}
use Rattle.mps_trace_laws.proofs.Fix.SplatsLeft.{sum_by-fewer}
use Rattle.mps_trace_laws.proofs.Reclaim.Without.{frees_lead}
use Rattle.mps_trace_laws.proofs.Units.Counting.{freed_less}

-- ---- the moves of a reclaim

pub one_address_each : (rs : List Run) → length (addresses_of rs) ≡ length rs
one_address_each [] = refl
one_address_each (r ∷ rs) = let rest = one_address_each rs in omega (arith, rest)

room_freed : (rs : List Run) (m : Moves) → m.spare ≤ (moves_freed rs m).spare + length rs
room_freed [] m = omega arith
room_freed (r ∷ rs) m = let rest = room_freed rs (with_move m (Free (at_word r.from))) in omega (arith, rest)

-- a Free takes room for each block that is lost, and the segment for one move at most
pub spare_after : (g : SegsState) (moves : Moves) (base : Addr) (g' : SegsState) (moves' : Moves) (t : Segment)
    → segment_over g.segments t.base ≡ Some t → t.base ≡ base.0 → IsSwept g moves base g' moves'
    → moves.spare ≤ moves'.spare + length (lost_of g t) + 1
spare_after g moves base g' moves' t over begins (is_given u found empty state trail) =
    let same : t ≡ u = same_Some t u (sym over ∙ ap (segment_over g.segments) begins ∙ found) in
    let spare_then = ap (λ (m : Moves). m.spare) trail in
    subst (λ (v : Segment). moves.spare ≤ moves'.spare + length (lost_of g v) + 1) (sym same)
    (let freed = room_freed (lost_of g u) moves in omega (arith, freed, spare_then))
spare_after g moves base g' moves' t over begins (is_used u found used state unwritten trail) =
    let same : t ≡ u = same_Some t u (sym over ∙ ap (segment_over g.segments) begins ∙ found) in
    let spare_then = ap (λ (m : Moves). m.spare) trail in
    subst (λ (v : Segment). moves.spare ≤ moves'.spare + length (lost_of g v) + 1) (sym same)
    (let freed = room_freed (lost_of g u) moves in omega (arith, freed, spare_then))

-- ---- the moves that are left

module _ (y : Collecting) (run : Running y) (t : Segment) (lost : List Run) (next : IsReclaimedNext y t (addresses_of lost)) where
  abbrev freed : List Address
  freed = addresses_of lost

  addresses_are : (frees y run t freed next).addresses ≡ addresses_without freed y.world.addresses
  addresses_are =
      sym (ap (λ (w : World). w.addresses) (frees y run t freed next).leads)
      ∙ frees_lead 0 freed y.world run.different next.ascending
      (λ at h. let white = next.white at h in record { id = white.id; address = white.address })

  -- each block that is lost was white
  pub white_fewer : white_left y.running.condemned y.colours (live_ids (final_world y run t freed next)) + length lost
      ≤ white_left y.running.condemned y.colours (live_ids y.world)
  white_fewer =
      let less =
      freed_less (is_white y.running.condemned y.colours) 0 freed y.world.addresses next.ascending
      (λ at h. let white = next.white at h in record { id = white.id; there = white.address; passes = white.white })
      in
      let same = ap (λ ps. count_by (is_white y.running.condemned y.colours) (numbers_of is_some 0 ps)) addresses_are in
      let each = one_address_each lost in
      omega (arith, less, same, each)

  -- and no more are white that move
  moving_no_more : moving_left (is_copying_object y.world) y.running.condemned y.colours (live_ids (final_world y run t freed next))
      ≤ moving_left (is_copying_object y.world) y.running.condemned y.colours (live_ids y.world)
  moving_no_more =
      count_by-fewer (λ id. is_white y.running.condemned y.colours id && is_copying_object y.world id) 0
      (frees y run t freed next).addresses y.world.addresses (live_before y run t freed next)

  splats_no_more : splats_left y.world.graph.objects y.running.condemned y.colours (live_ids (final_world y run t freed next))
      ≤ splats_left y.world.graph.objects y.running.condemned y.colours (live_ids y.world)
  splats_no_more =
      sum_by-fewer (splats_at y.world.graph.objects y.running.condemned y.colours) 0 (frees y run t freed next).addresses y.world.addresses
      (live_before y run t freed next)

  pub moves_left_after : moves_left (final_state y run t freed next) + length lost + 1 ≤ moves_left y
  moves_left_after =
      let white = white_fewer in
      let moving = moving_no_more in
      let splats = splats_no_more in
      let segments = segments_fewer y run t freed next in
      omega (arith, white, moving, splats, segments)

  pub lost_within : length lost ≤ moves_left y
  lost_within = let left = moves_left_after in omega (arith, left)
