-- From the frames that a push left to the outcome of the call.
use Rattle.std.proofs.Common.{◌≡◌, Bool, ◌∙◌, ◌<◌, ℕ, true, false, refl, sym, ap, subst, length, Result, Ok, Err, arith}
use Rattle.std.proofs.lemmas.Bool.{leb-true, le-leb}
use Rattle.std.specs.Prelude.{nat_le, IfErr, OnOk, MatchResult}
use Rattle.mps_base.specs.declared.names.Name.{Name}
use Rattle.mps_base.specs.declared.refusal.Refusal.{Refusal}
use Rattle.mps_base.specs.declared.refusal.Refusal.TheVariants as refusal
use Rattle.mps_snc.specs.State.{PoolState, Pools, frames_count, max_frames, state_of, with_frame, with_pool}
use Rattle.mps_heap_spec.specs.Checked.{Checked, ◌>>=◌, ◌>>◌, refuse_when}
use Rattle.mps_heap_spec.specs.Coming.{Comes, Outcome, answered, state_from}
use Rattle.mps_heap_spec.specs.Framing.{frame_pushed, frames_named, with_frames}
use Rattle.mps_heap_spec.specs.State.{HeapState}
use Rattle.mps_heap_spec.specs.declared.found.Kept.{Kept}

module _ {F : Type 0} (h : HeapState F) (name : Name) where
  -- the outcome once the pool was found
  abbrev from_pool : Kept PoolState → (full : Bool) → Checked (Outcome F ℕ)
  from_pool of full = refuse_when full (refusal.TooMany max_frames) >> Ok (record {
    answer = length of.value.frames;
    state = with_frames h (with_pool h.beside.frames of.key (with_frame of.value));
  })

  outcome_of : (of : Kept PoolState) (full : Bool) → frames_named h name ≡ Ok of
      → nat_le max_frames (frames_count h.beside.frames) ≡ full → frame_pushed h name ≡ from_pool of full
  outcome_of of full named is =
      ap (λ (x : Checked (Kept PoolState)). x >>= (λ (p : Kept PoolState).
      from_pool p (nat_le max_frames (frames_count h.beside.frames)))) named
      ∙ ap (from_pool of) is

  module _ (key : ℕ) (frames : Pools)
      (named : frames_named h name ≡ Ok (record { key = key; value = state_of h.beside.frames key })) where
    abbrev was : PoolState
    was = state_of h.beside.frames key

    abbrev of : Kept PoolState
    of = record { key = key; value = was }

    pub is_pushed : (result : Result ℕ Refusal) → MatchResult result (λ number. (number ≡ length was.frames)
        × (frames ≡ with_pool h.beside.frames key (with_frame was))) (λ why. frames ≡ h.beside.frames)
        → OnOk result (frames_count h.beside.frames < max_frames)
        → IfErr result (λ why. (why ≡ refusal.TooMany max_frames) × (frames_count h.beside.frames ≡ max_frames))
        → Comes h (frame_pushed h name) result (with_frames h frames)
    is_pushed (Ok number) state few full =
        let outcome = outcome_of of false named (not_full few) in
        record {
          answer = ap (λ (n : ℕ). Ok n) state.0 ∙ sym (ap answered outcome);
          state = ap (with_frames h) state.1 ∙ sym (ap (state_from h) outcome);
        }
      where
        not_full : frames_count h.beside.frames < max_frames → nat_le max_frames (frames_count h.beside.frames) ≡ false
        not_full low = of_bool (nat_le max_frames (frames_count h.beside.frames)) refl
          where
            of_bool : (b : Bool) → nat_le max_frames (frames_count h.beside.frames) ≡ b → b ≡ false
            of_bool true e =
                let high = leb-true max_frames (frames_count h.beside.frames) e in
                absurd (omega (arith, high, low))
            of_bool false e = refl
    is_pushed (Err why) state few full =
        let high = full.1 in
        let outcome =
        outcome_of of true named (le-leb max_frames (frames_count h.beside.frames) (omega (arith, high))) in
        record {
          answer = ap (λ (r : Refusal). Err r) full.0 ∙ sym (ap answered outcome);
          state = ap (with_frames h) state ∙ sym (ap (state_from h) outcome);
        }

-- so it is of a state that is seen in two ways
pub pushed : {F : Type 0} (h seen : HeapState F) (name : Name) (key : ℕ) (frames : Pools) (result : Result ℕ Refusal) → seen ≡ h
    → frames_named h name ≡ Ok (record { key = key; value = state_of h.beside.frames key })
    → MatchResult result (λ number. (number ≡ length (state_of seen.beside.frames key).frames)
    × (frames ≡ with_pool seen.beside.frames key (with_frame (state_of seen.beside.frames key)))) (λ why. frames ≡ seen.beside.frames)
    → OnOk result (frames_count seen.beside.frames < max_frames)
    → IfErr result (λ why. (why ≡ refusal.TooMany max_frames) × (frames_count seen.beside.frames ≡ max_frames))
    → Comes h (frame_pushed h name) result (with_frames seen frames)
pushed {F} h seen name key frames result is named state few full =
    subst (λ (k : HeapState F). frames_named k name ≡ Ok (record { key = key; value = state_of k.beside.frames key })
    → Comes k (frame_pushed k name) result (with_frames seen frames)) is
    (λ n. is_pushed seen name key frames n result state few full) named
