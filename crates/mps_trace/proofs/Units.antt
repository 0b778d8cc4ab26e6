-- Units in a row, and the room for their moves.
use Rattle.std.proofs.Common.{◌<◌, ◌≡◌, ap, subst, arith}
use Rattle.mps_base.specs.Trail.{Moves}
use Rattle.mps_base.specs.declared.address.Addr.{Addr}
use Rattle.mps_final.specs.State.{FinalsState}
use Rattle.mps_format.specs.Layout.{Layout}
use Rattle.mps_seg.specs.Segs.{SegsState}
use Rattle.mps_amc.proofs.Lost.{spare_after}
use Rattle.mps_seg.specs.Reclaiming.{IsSwept, is_given, is_used, lost_of}
use Rattle.mps_trace.specs.Trace.{TraceState, Traced}
use Rattle.mps_trace.specs.Unit.{HasRoomToEnd, UnitTo}
use Rattle.mps_trace.specs.declared.running.Running.{Running}

-- after a reclaim there is room for the end of the collection
pub room_left : (s s' : SegsState) (m m' : Moves) (base : Addr) → HasRoomToEnd s m base → IsSwept s m base s' m' → 0 < m'.spare
room_left s s' m m' base room (is_given t over empty state moves) =
    omega (arith, ap (λ (x : Moves). x.spare) moves, spare_after (lost_of s t) m, room t over)
room_left s s' m m' base room (is_used t over used state unwritten moves) =
    omega (arith, ap (λ (x : Moves). x.spare) moves, spare_after (lost_of s t) m, room t over)

-- units go on at a state of which only what is at hand has changed
module _ {F : Type 0} (layout : F → Layout) (t t' : TraceState F) (same : t' ≡ record t { amc = t'.amc }) where
  pub goes_still : (x y : Traced) (f f' : FinalsState) (run run' : Running) → UnitTo layout t'.formats t'.chains x f run y f' run'
      → UnitTo layout t.formats t.chains x f run y f' run'
  goes_still x y f f' run run' unit =
      let P : TraceState F → Type 0 = λ u. UnitTo layout u.formats u.chains x f run y f' run' in subst P same unit
