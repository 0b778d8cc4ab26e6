-- From what a commit did to points and segments to the outcome of the call.
use Rattle.std.proofs.Common.{◌≡◌, ◌∙◌, Some, Ok, sym, ap}
use Rattle.std.proofs.lemmas.Bool.{eq-eqb}
use Rattle.std.specs.Prelude.{◌==◌, if◌then◌else◌}
use Rattle.mps_base.specs.Address.{Address}
use Rattle.mps_base.specs.Trail.{Moves, with_move}
use Rattle.mps_base.specs.declared.address.Addr.{Addr}
use Rattle.mps_base.specs.declared.moves.Move.TheVariants as moves
use Rattle.mps_base.specs.declared.names.Name.{Name}
use Rattle.mps_base.specs.declared.names.Slot.{Slot}
use Rattle.mps_base.specs.declared.refusal.Refusal.TheVariants as refusal
use Rattle.mps_buffer.specs.Points.{PointsState, after_close, with_block, with_point}
use Rattle.mps_buffer.specs.declared.point.Held.{Held}
use Rattle.mps_buffer.specs.declared.point.Point.{Point}
use Rattle.mps_seg.specs.Segs.{SegsState}
use Rattle.mps_heap_spec.specs.Allocating.{after_commit, keeping_new, with_closed}
use Rattle.mps_heap_spec.specs.Checked.{Checked, ◌>>=◌, required}
use Rattle.mps_heap_spec.specs.Coming.{ComesMoving, Moved, answer_moved, state_moved, trail_moved}
use Rattle.mps_heap_spec.specs.Finding.{point_named, slot_in}
use Rattle.mps_heap_spec.specs.Objects.{with_slot}
use Rattle.mps_heap_spec.specs.State.{HeapState}
use Rattle.mps_heap_spec.specs.declared.found.Committed.{Committed}
use Rattle.mps_heap_spec.specs.declared.found.Committed.TheVariants.{AsBlock, AsFlipped}
use Rattle.mps_heap_spec.specs.declared.found.Entry.{Entry}
use Rattle.mps_heap_spec.specs.declared.found.Kept.{Kept}

module _ {F : Type 0} (trail : Moves) (name : Name) (target : Slot) (point : Kept Point) (slot : Entry Address) (held : Held) where
  -- the heap with the block in place of the reservation
  abbrev pub with_block_there : HeapState F → (at : Address) → HeapState F
  with_block_there h at =
      with_slot (keeping_new (record h {
        segs = with_block h.segs held;
        points = with_point h.points point.key (Some (after_close point.value));
      }) at) slot at

  abbrev rest_of : HeapState F → Held → Checked (Moved F Committed)
  rest_of h r =
      Ok (if r.flips == h.points.flips then record {
        answer = AsBlock;
        state = with_slot (keeping_new (record (with_closed h point) { segs = with_block h.segs r }) r.at.0) slot r.at.0;
        trail = with_move trail (moves.Commit r.at r.words point.value.pool);
      } else record { answer = AsFlipped; state = with_closed h point; trail = trail })

  outcome_is : (h : HeapState F) → Ok point ≡ point_named h name → Ok slot ≡ slot_in h target → point.value.reservation ≡ Some held
      → held.flips ≡ h.points.flips → after_commit h trail name target ≡ Ok (record {
        answer = AsBlock;
        state = with_block_there h held.at.0;
        trail = with_move trail (moves.Commit held.at held.words point.value.pool);
      })
  outcome_is h named there reserved flips =
      ap (λ x. x >>= (λ (k : Kept Point). slot_in h target >>= (λ (s : Entry Address).
      required k.value.reservation refusal.NotOpen >>= (λ r.
      Ok (if r.flips == h.points.flips then record {
        answer = AsBlock;
        state = with_slot (keeping_new (record (with_closed h k) { segs = with_block h.segs r }) r.at.0) s r.at.0;
        trail = with_move trail (moves.Commit r.at r.words k.value.pool);
      } else record { answer = AsFlipped; state = with_closed h k; trail = trail }))))) (sym named)
      ∙ ap (λ x. x >>= (λ (s : Entry Address). required point.value.reservation refusal.NotOpen >>= (λ r.
      Ok (if r.flips == h.points.flips then record {
        answer = AsBlock;
        state = with_slot (keeping_new (record (with_closed h point) { segs = with_block h.segs r }) r.at.0) s r.at.0;
        trail = with_move trail (moves.Commit r.at r.words point.value.pool);
      } else record { answer = AsFlipped; state = with_closed h point; trail = trail })))) (sym there)
      ∙ ap (λ o. required o refusal.NotOpen >>= rest_of h) reserved
      ∙ ap (λ b. Ok (if b then record {
        answer = AsBlock;
        state = with_block_there h held.at.0;
        trail = with_move trail (moves.Commit held.at held.words point.value.pool);
      } else record { answer = AsFlipped; state = with_closed h point; trail = trail })) (eq-eqb held.flips h.points.flips flips)

  -- the call came to a block, where the state is seen in two ways
  pub came : (seen h kept after : HeapState F) (segs : SegsState) (points : PointsState) (after_trail : Moves) (at : Addr) → seen ≡ h
      → Ok point ≡ point_named h name → Ok slot ≡ slot_in h target → point.value.reservation ≡ Some held
      → held.flips ≡ seen.points.flips → at ≡ held.at → segs ≡ with_block seen.segs held
      → points ≡ with_point seen.points point.key (Some (after_close point.value))
      → kept ≡ keeping_new (record seen { segs = segs; points = points }) at.0 → after ≡ with_slot kept slot at.0
      → after_trail ≡ with_move trail (moves.Commit at held.words point.value.pool)
      → ComesMoving h trail (after_commit h trail name target) (Ok AsBlock) after after_trail
  came seen h kept after segs points after_trail at is named there reserved flips place segs_are points_are keeps slot_is trail_is =
      let outcome =
      outcome_is h named there reserved (flips ∙ ap (λ (g : HeapState F). g.points.flips) is) in record {
        answer = sym (ap answer_moved outcome);
        state = slot_is ∙ ap (λ (g : HeapState F). with_slot g slot at.0) (keeps
            ∙ ap (λ (s : SegsState). keeping_new (record seen { segs = s; points = points }) at.0) segs_are
            ∙ ap (λ (p : PointsState). keeping_new (record seen { segs = with_block seen.segs held; points = p }) at.0) points_are)
            ∙ ap (λ (a : Addr). with_block_there seen a.0) place ∙ ap (λ (g : HeapState F). with_block_there g held.at.0) is
            ∙ sym (ap (state_moved h) outcome);
        moves = trail_is ∙ ap (λ (a : Addr). with_move trail (moves.Commit a held.words point.value.pool)) place
            ∙ sym (ap (trail_moved trail) outcome);
      }
