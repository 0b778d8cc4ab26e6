-- A reserve leaves a sound graph.
use Rattle.std.proofs.Common.{◌≡◌, ◌∙◌, ℕ, Bool, true, false, refl, sym, ap, length, Option, Some, None, Ok, Err, subst}
use Rattle.std.proofs.lemmas.Bool.{true≢false}
use Rattle.std.proofs.lemmas.Option.{same_Some}
use Rattle.std.specs.Prelude.{not, is_some}
use Rattle.std.specs.Option.{option_map_or}
use Rattle.mps_base.specs.declared.names.Name.{Name}
use Rattle.mps_base.specs.declared.refusal.Refusal.TheVariants as refusal
use Rattle.mps_model.specs.Graph.{Point, Reservation, new_cells}
use Rattle.mps_model.specs.World.{World, Pool, pool_at}
use Rattle.mps_model.specs.WellFormed.{are_right_cells}
use Rattle.mps_model.specs.Checked.{Checked, Numbered, ◌>>=◌, ◌>>◌, required, refuse_when, point_named, with_graph}
use Rattle.mps_model.specs.Placement.{ForReserve, placement_of}
use Rattle.mps_model.specs.Allocating.{Reserving, act_reserve, check_reserve, layout_of, refuse_without_place, takes_head, with_reservation, with_reserved, address_of_placement}
use Rattle.mps_laws.proofs.Acts.{ForAct, accepted, with_value, after_check, point_named-is}
use Rattle.mps_laws.proofs.Sound.SoundGraph.{IsSoundGraph, Grows, is_sound_reservation, untouched, reservation_kept}
use Rattle.mps_laws.proofs.Sound.SoundActs.{reservation_written}
use Rattle.mps_laws.proofs.Sound.SoundParts.{new_is_sound}

pub record IsCheckedReserve (judged : World) (name : Name) (head : ℕ) (r : Reserving) : Type 0 where
  pub point : point_named judged name ≡ Ok r.point
  pub sound : is_sound_reservation judged r.point.value.pool (record { head = head; cells = r.cells; is_doomed = false }) ≡ true

module _ (judged : World) (name : Name) (head : ℕ) where
  abbrev made_of : Numbered Point → Pool → Reserving
  made_of p pool = record { point = p; cells = new_cells (layout_of judged pool) head }

  not_false : (b : Bool) → not b ≡ false → b ≡ true
  not_false true h = refl
  not_false false h = absurd (true≢false h)

  of_checks : (p : Numbered Point) (pool : Pool) (b c : Bool) (r : Reserving) → point_named judged name ≡ Ok p
      → pool_at judged p.value.pool ≡ Some pool
      → not (takes_head judged pool head) ≡ b
      → (refuse_when b refusal.BadHead >> (refuse_when c refusal.Open >> Ok (made_of p pool))) ≡ Ok r → IsCheckedReserve judged name head r
  of_checks p pool true c r e f g h = absurd (cc)
  of_checks p pool false true r e f g h = absurd (cc)
  of_checks p pool false false r e f g h =
      let same : made_of p pool ≡ r = cc in
      subst (IsCheckedReserve judged name head) same (record {
        point = e;
        sound =
            ap (λ x. option_map_or (λ of. are_right_cells judged of head (new_cells (layout_of judged pool) head)) x false) f
            ∙ new_is_sound judged pool head (not_false (takes_head judged pool head) g);
      })

  of_pool : (p : Numbered Point) (o : Option Pool) (r : Reserving) → point_named judged name ≡ Ok p → pool_at judged p.value.pool ≡ o
      → (required o refusal.BadName >>= (λ pool. refuse_when (not (takes_head judged pool head)) refusal.BadHead
      >> (refuse_when (is_some p.value.reservation) refusal.Open >> Ok (made_of p pool)))) ≡ Ok r → IsCheckedReserve judged name head r
  of_pool p None r e f h = absurd (cc)
  of_pool p (Some pool) r e f h = of_checks p pool (not (takes_head judged pool head)) (is_some p.value.reservation) r e f refl h

  pub checked_reserve : (r : Reserving) → check_reserve judged name head ≡ Ok r → IsCheckedReserve judged name head r
  checked_reserve r h = of_point (point_named judged name) refl h
    where
      of_point : (x : Checked (Numbered Point)) → point_named judged name ≡ x
          → (x >>= (λ p. required (pool_at judged p.value.pool) refusal.BadName >>=
          (λ pool. refuse_when (not (takes_head judged pool head)) refusal.BadHead
          >> (refuse_when (is_some p.value.reservation) refusal.Open >> Ok (made_of p pool))))) ≡ Ok r → IsCheckedReserve judged name head r
      of_point (Err why) e h = absurd (cc)
      of_point (Ok p) e h = of_pool p (pool_at judged p.value.pool) r e refl h

  -- it takes effect in a world with the graph in which it was judged
  pub reserve_sound : (v : World) → Grows judged v → IsSoundGraph v → v.graph ≡ judged.graph
      → ForAct IsSoundGraph (act_reserve judged v name head)
  reserve_sound v grown s graph =
      with_value (check_reserve judged name head) (λ (r : Reserving) e.
      after_check (refuse_without_place (placement_of judged (ForReserve r.point.number (length r.cells))))
      (with_value (point_named v name) (λ (p : Numbered Point) f.
      accepted (reserved r p (checked_reserve r e) f (address_of_placement (placement_of v (ForReserve p.number (length r.cells))))))))
    where
      same_point : (r : Reserving) (p : Numbered Point) → point_named judged name ≡ Ok r.point → point_named v name ≡ Ok p → r.point ≡ p
      same_point r p e f =
          let both : Ok r.point ≡ Ok p = sym e ∙ sym (ap (λ g. point_named (with_graph v g) name) graph) ∙ f in
          cc

      reserved : (r : Reserving) (p : Numbered Point) → IsCheckedReserve judged name head r → point_named v name ≡ Ok p → (at : ℕ)
          → IsSoundGraph (with_reserved v p (record { head = head; cells = r.cells; is_doomed = false }) at)
      reserved r p c f at =
          let res : Reservation = record { head = head; cells = r.cells; is_doomed = false } in
          let sound : is_sound_reservation v p.value.pool res ≡ true =
          reservation_kept judged v grown p.value.pool res
          (subst (λ (q : Numbered Point). is_sound_reservation judged q.value.pool res ≡ true) (same_point r p c.point f) c.sound) in
          untouched (with_graph v (with_reservation v.graph p (Some res))) (with_reserved v p res at)
          (reservation_written v s p (Some res) (point_named-is v name p f).1
          (λ x k. subst (λ (z : Reservation). is_sound_reservation v p.value.pool z ≡ true) (same_Some res x k) sound))
          refl (λ n q e. e) refl refl refl refl refl refl refl refl
