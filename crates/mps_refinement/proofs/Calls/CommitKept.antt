-- What `commit` comes to: the new block is kept if it lies in a condemned segment.
use Rattle.mps_refinement.proofs.Parts.Resting.{none_over}
use Rattle.std.proofs.Common.{◌≡◌, true, false, refl, ap, Ok, Err, inl, inr, Bool, ◌⊎◌}
use Rattle.std.specs.Prelude.{◌==◌, ◌&&◌, not, slice_set, if◌then◌else◌, is_some}
use Rattle.mps_base.specs.Address.{word_of, Address}
use Rattle.mps_base.specs.Trail.{Moves, with_move}
use Rattle.mps_base.specs.declared.moves.Move.TheVariants as moves
use Rattle.mps_base.specs.declared.names.Name.{Name}
use Rattle.mps_base.specs.declared.names.Slot.{Slot}
use Rattle.mps_base.specs.declared.refusal.Refusal.TheVariants as refusal
use Rattle.mps_buffer.specs.Points.{with_block}
use Rattle.mps_extents.specs.Table.{bit}
use Rattle.mps_model.specs.Checked.{Checked, ◌>>=◌, required}
use Rattle.mps_seg.specs.Collecting.{first_grain_over, is_white_at, keeping}
use Rattle.mps_heap_spec.specs.Allocating.{after_commit, with_closed, keeping_new}
use Rattle.mps_heap_spec.specs.Coming.{Moved}
use Rattle.mps_heap_spec.specs.Finding.{point_named, slot_in}
use Rattle.mps_heap_spec.specs.Objects.{with_slot}
use Rattle.mps_heap_spec.specs.State.{HeapState}
use Rattle.mps_heap_spec.specs.declared.found.Committed.{Committed}
use Rattle.mps_heap_spec.specs.declared.found.Committed.TheVariants.{AsBlock, AsFlipped}
use Rattle.mps_refinement.proofs.Parts.CommittedParts.{with_new_kept}
use Rattle.std.proofs.lemmas.Bool.{false≢true, true≢false}
use Rattle.mps_model.specs.World.{World}
use Rattle.mps_refinement.specs.StandsFor.{IsInTime, Time, collector_of, rests, runs}

-- the new block is kept if it lies in a condemned segment, whether or not a collection runs. At any time that is `after_commit`
abbrev pub after_commit_kept : {F : Type 0} → HeapState F → Moves → Name → Slot → Checked (Moved F Committed)
after_commit_kept h trail name target = do
  point ← point_named h name
  slot ← slot_in h target
  held ← required point.value.reservation refusal.NotOpen
  Ok (if held.flips == h.points.flips then record {
    answer = AsBlock;
    state = with_slot (record (with_closed h point) { segs = with_new_kept (with_block h.segs held) held.at.0 }) slot held.at.0;
    trail = with_move trail (moves.Commit held.at held.words point.value.pool);
  } else record { answer = AsFlipped; state = with_closed h point; trail = trail })

same_after : {A B : Type 0} (x : Checked A) {f g : A → Checked B} → ((a : A) → f a ≡ g a) → (x >>= f) ≡ (x >>= g)
same_after (Ok a) each = each a
same_after (Err why) each = refl

-- the new block is kept the same if a collection runs, or if it isn't white
same_kept : {F : Type 0} (h : HeapState F) (at : Address) → ((is_some h.running ≡ true) ⊎ (is_white_at h.segs at ≡ false))
    → record h { segs = with_new_kept h.segs at } ≡ keeping_new h at
same_kept h at kept =
    ap (λ segs. record h { segs = segs }) (of_white (is_white_at h.segs at) (is_some h.running) kept)
  where
    of_white : (white running : Bool) → ((running ≡ true) ⊎ (white ≡ false))
        → record h.segs {
          marks = record h.segs.marks {
            kept = if white then slice_set h.segs.marks.kept (word_of at) true else h.segs.marks.kept;
          };
        } ≡ (if running && white then keeping h.segs at else h.segs)
    of_white true true k = refl
    of_white true false (inl never) = absurd (false≢true never)
    of_white true false (inr never) = absurd (true≢false never)
    of_white false true k = refl
    of_white false false k = refl

pub commit_kept : {F : Type 0} (h : HeapState F) → ((at : Address) → (is_some h.running ≡ true) ⊎ (is_white_at h.segs at ≡ false))
    → (trail : Moves) (name : Name) (target : Slot) → after_commit_kept h trail name target ≡ after_commit h trail name target
commit_kept {F} h kept trail name target =
    same_after (point_named h name) (λ point.
    same_after (slot_in h target) (λ slot.
    same_after (required point.value.reservation refusal.NotOpen) (λ held.
    ap (λ (g : HeapState F). Ok (if held.flips == h.points.flips then record {
      answer = AsBlock;
      state = with_slot g slot held.at.0;
      trail = with_move trail (moves.Commit held.at held.words point.value.pool);
    } else record { answer = AsFlipped; state = with_closed h point; trail = trail }))
    (same_kept (record (with_closed h point) { segs = with_block h.segs held }) held.at.0 (kept held.at.0)))))

-- at any time the one or the other is so
pub kept_in_time : {F : Type 0} (t : Time) (h : HeapState F) (w : World) → IsInTime t (collector_of h) w → (at : Address)
    → (is_some h.running ≡ true) ⊎ (is_white_at h.segs at ≡ false)
kept_in_time t h w (rests rest) at =
    inr (ap (λ b. b && not (bit h.segs.marks.kept (word_of at))) (none_over h.segs rest.not_condemned (first_grain_over h.segs at)))
kept_in_time t h w (runs x r) at = inl (ap is_some r.running)
