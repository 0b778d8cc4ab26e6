-- An accepted `init` writes its cell of the reservation.
use Rattle.std.proofs.Common.{◌≡◌, false, sym, ◌∙◌, ap, List, ◌∷◌, Some, Ok}
use Rattle.std.proofs.lemmas.Option.{same_Some}
use Rattle.std.specs.Prelude.{if◌then◌else◌, slice_set}
use Rattle.mps_base.specs.declared.names.Name.{Name}
use Rattle.mps_base.specs.declared.refusal.Refusal.TheVariants as refusal
use Rattle.mps_model.proofs.Appending.{IsLegalFrom-later}
use Rattle.mps_model.specs.declared.call.Call.TheVariants as call
use Rattle.mps_model.specs.Graph.{Cell, NumberCell, Point, Reservation, entry_at, with_target_cell}
use Rattle.mps_model.specs.World.{World, empty_world_of}
use Rattle.mps_model.specs.Checked.{Act, Numbered, as_point, done, number_at, number_named, point_named, reference_at, required, slot_in, with_graph}
use Rattle.mps_model.specs.Allocating.{with_reservation, with_reserved_cells}
use Rattle.mps_model.specs.History.{world_after}
use Rattle.mps_changes.proofs.Checks.{point_named-is, required-is}
use Rattle.mps_laws.specs.Held.{target_found, target_of_slot}
use Rattle.mps_laws.specs.Replay.{reached}
use Rattle.mps_laws.proofs.Entries.{entry_at-written}
use Rattle.mps_laws.proofs.Reading.{bind_ok, next_ok}
use Rattle.mps_client_laws.specs.Initialising.{InitWritesTheNumber, InitWritesTheReference}
use Rattle.mps_client_laws.specs.Reservations.{reservation_found, reservation_of}
use Rattle.mps_client_laws.proofs.ReadingBack.{quiet_graph}
use Rattle.mps_client_laws.proofs.Reservations.{number_is_quiet, reference_is_quiet}
use Rattle.mps_client_laws.proofs.ReservationsOfMoves.{reservation_is}

done_is : (u : World) (a : Act) → done u ≡ Ok a → a.world ≡ u
done_is u a e = cc

module _ (w u : World) (point : Name) (r : Reservation) (there : reservation_of w point ≡ Some r) (lives : r.is_doomed ≡ false) where
  -- other cells of the reservation of a point
  cells_written : (p : Numbered Point) (s : Reservation) (cells : Reservation → List Cell) → point_named w point ≡ Ok p
      → required p.value.reservation refusal.NotOpen ≡ Ok s → u.graph ≡ (with_reserved_cells w p s (cells s)).graph
      → reservation_of u point ≡ Some (record r { cells = cells r })
  cells_written p s cells is has graph =
      let named = point_named-is w point p is in
      let this : s ≡ r = same_Some s r
      (sym (required-is p.value.reservation refusal.NotOpen s has) ∙ sym (ap reservation_found is) ∙ there) in
      let new : Reservation = record r { cells = cells r } in
      let point_now : Point = record p.value { reservation = Some new } in
      let written : u.graph ≡ with_reservation w.graph p (Some new) =
      graph ∙ ap (λ (x : Reservation). (with_reserved_cells w p x (cells x)).graph) this
      ∙ ap (λ b. (if b then w else with_graph w (with_reservation w.graph p (Some new))).graph) lives in
      reservation_is u point p.number point_now
      (ap (λ g. number_named (record w { graph = g }) point as_point) written ∙ named.0)
      (ap (λ g. entry_at g.points p.number) written ∙ entry_at-written w.graph.points p.number p.value (Some point_now) named.1)

pub init_writes_the_number : InitWritesTheNumber
init_writes_the_number formats steps later s point k value reserved legal is accepts there lives =
    let w = reached formats steps in
    let here = (IsLegalFrom-later (empty_world_of formats) steps (s ∷ later) legal).0 in
    let q = quiet_graph (call.InitNumber point k value) (number_is_quiet point k value) w s here is accepts in
    let p = bind_ok (point_named w point) _ q.0 q.1 in
    let r = bind_ok (required (p.0).value.reservation refusal.NotOpen) _ q.0 p.2 in
    let last = next_ok (number_at (r.0).cells k) _ q.0 r.2 in
    cells_written w (world_after w s) point reserved there lives p.0 r.0 (λ x. slice_set x.cells k (NumberCell value)) p.1 r.1
    (q.2 ∙ ap (λ (v : World). v.graph)
    (done_is (with_reserved_cells w p.0 r.0 (slice_set (r.0).cells k (NumberCell value))) q.0 last))

pub init_writes_the_reference : InitWritesTheReference
init_writes_the_reference formats steps later s point k source reserved legal is accepts there lives =
    let w = reached formats steps in
    let here = (IsLegalFrom-later (empty_world_of formats) steps (s ∷ later) legal).0 in
    let q = quiet_graph (call.InitReference point k source) (reference_is_quiet point k source) w s here is accepts in
    let p = bind_ok (point_named w point) _ q.0 q.1 in
    let from = bind_ok (slot_in w source) _ q.0 p.2 in
    let r = bind_ok (required (p.0).value.reservation refusal.NotOpen) _ q.0 from.2 in
    let last = next_ok (reference_at (r.0).cells k) _ q.0 r.2 in
    let target : target_of_slot w source ≡ (from.0).value = ap target_found from.1 in
    cells_written w (world_after w s) point reserved there lives p.0 r.0 (λ x. with_target_cell x.cells k (target_of_slot w source)) p.1 r.1
    (q.2 ∙ ap (λ (v : World). v.graph)
    (done_is (with_reserved_cells w p.0 r.0 (with_target_cell (r.0).cells k (from.0).value)) q.0 last)
    ∙ ap (λ t. (with_reserved_cells w p.0 r.0 (with_target_cell (r.0).cells k t)).graph) (sym target))
