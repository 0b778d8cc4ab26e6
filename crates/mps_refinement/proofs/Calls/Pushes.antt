-- `push` is right.
use Rattle.std.proofs.Common.{◌≡◌, ◌∙◌, ℕ, Bool, true, false, refl, sym, ap, subst, [], ◌∷◌, ◌++◌, length, Option, Some, None, is_some, Ok, arith}
use Rattle.std.proofs.lemmas.Bool.{false≢true, true≢false}
use Rattle.std.specs.Prelude.{nat_le, not}
use Rattle.mps_base.specs.declared.names.Name.{Name}
use Rattle.mps_base.specs.declared.refusal.Refusal.TheVariants as refusal
use Rattle.mps_changes.proofs.Frames.{frames_in}
use Rattle.mps_format.specs.Layout.{Layout}
use Rattle.mps_format.specs.declared.pool.Pool.{Pool}
use Rattle.mps_laws.proofs.Same as same
use Rattle.mps_laws.proofs.Same.{Same, fits, same_next, same_refuse_when, same_then}
use Rattle.mps_model.specs.declared.call.Call.TheVariants as call
use Rattle.mps_model.specs.Checked.{Checked, Numbered, ◌>>=◌, ◌>>◌, refuse_when, required}
use Rattle.mps_model.specs.Frames as model
use Rattle.mps_model.specs.Frames.{open_frames, pushed}
use Rattle.mps_model.specs.Graph.{PoolFrames, frames_changed}
use Rattle.mps_model.specs.Making.{most_frames}
use Rattle.mps_model.specs.World as world
use Rattle.mps_model.specs.World.{World}
use Rattle.mps_snc.specs.State.{PoolState, frames_count, pool_at, with_frame, with_pool}
use Rattle.mps_heap_spec.specs.Coming.{Comes}
use Rattle.mps_heap_spec.specs.Framing.{frame_pushed, frames_named}
use Rattle.mps_heap_spec.specs.State.{HeapState}
use Rattle.mps_heap_spec.specs.declared.found.Kept.{Kept}
use Rattle.mps_refinement.specs.Answering.{answer_to, says_number}
use Rattle.mps_refinement.specs.Framed.{AreFramed, IsListed, is_framed}
use Rattle.mps_refinement.specs.RightStep.{IsRight}
use Rattle.mps_refinement.specs.StandsFor.{AreParts, Past}
use Rattle.mps_refinement.proofs.Lookups.Lookups.{IsPoolFound, pool_same}
use Rattle.mps_refinement.proofs.Parts.BlockParts.{parts_with_frames}
use Rattle.mps_refinement.proofs.Parts.FramedParts.{framed_changed, kind_at, listed_found, noted_alike, opened_alike}
use Rattle.mps_refinement.proofs.Worlds.CollectorKept.{all_kept}
use Rattle.mps_refinement.proofs.Worlds.Steps.{ComesToTheSame, quiet_is_right}

-- what a pool of frames has in both
pub record IsFramesFound {F : Type 0} (h : HeapState F) (w : World) (k : Kept PoolState) (f : PoolFrames) : Type 0 where
  pub there : pool_at h.beside.frames k.key ≡ Some k.value
  pub listed : IsListed h.roots.blocks w.graph.blocks k.key k.value f
  pub found : frames_in w.graph.frames k.key ≡ Some f

module _ {F : Type 0} (layout : F → Layout) (past : Past) (h : HeapState F) (w : World) (parts : AreParts layout past h w) where
  module _ (from : Kept (Pool F)) (p : Numbered world.Pool) (found : IsPoolFound layout h w from p) where
    kind_is : is_some (pool_at h.beside.frames from.key) ≡ world.has_frames p.value.kind
    kind_is = parts.framed.kinds from.key ∙ ap (is_framed w.pools) (sym found.number) ∙ ap kind_at found.has

    abbrev ours : Option PoolState → Checked (Kept PoolState)
    ours o = required o refusal.WrongPool >>= (λ frames. Ok (record { key = from.key; value = frames }))

    abbrev theirs : (framed : Bool) → Checked PoolFrames
    theirs framed =
        refuse_when (not framed) refusal.WrongPool >> required (model.frames_of w.graph p.number) refusal.WrongPool

    of_pool : (o : Option PoolState) (framed : Bool) → pool_at h.beside.frames from.key ≡ o → world.has_frames p.value.kind ≡ framed
        → Same (IsFramesFound h w) (ours o) (theirs framed)
    of_pool None true e kind = absurd (false≢true (ap is_some (sym e) ∙ kind_is ∙ kind))
    of_pool None false e kind = same.refused
    of_pool (Some s) false e kind = absurd (true≢false (ap is_some (sym e) ∙ kind_is ∙ kind))
    of_pool (Some s) true e kind =
        let f = listed_found h.roots.blocks w.graph.blocks 0 h.beside.frames w.graph.frames from.key from.key s (omega arith) e
        parts.framed.listed in
        subst (λ o. Same (IsFramesFound h w) (ours (Some s)) (required o refusal.WrongPool))
        (sym (ap (model.frames_of w.graph) found.number ∙ f.1)) (fits (record { there = e; listed = f.2; found = f.1 }))

  pub frames_same : (name : Name) → Same (IsFramesFound h w) (frames_named h name) (model.frames_named w name)
  frames_same name =
      same_then (pool_same layout past h w parts name) (λ from p found.
      of_pool from p found (pool_at h.beside.frames from.key) (world.has_frames p.value.kind) refl refl)

  -- a frame more of a pool in both
  pushed_framed : (k : Kept PoolState) (f : PoolFrames) → IsFramesFound h w k f
      → AreFramed (with_pool h.beside.frames k.key (with_frame k.value)) h.roots.blocks w.graph.blocks w.pools
      (frames_changed w.graph.frames f.pool pushed)
  pushed_framed k f is =
      subst (λ n. AreFramed (with_pool h.beside.frames k.key (with_frame k.value)) h.roots.blocks w.graph.blocks w.pools
      (frames_changed w.graph.frames n pushed)) (sym is.listed.pool)
      (framed_changed h.beside.frames h.roots.blocks w.graph.blocks w.pools w.graph.frames parts.framed k.key k.value (with_frame k.value)
      pushed is.there (λ g listed. record {
        pool = listed.pool;
        blocks = listed.blocks;
        opened = ap (λ xs. xs ++ length k.value.blocks ∷ []) listed.opened
            ∙ ap (λ n. g.opened ++ n ∷ []) (noted_alike h.roots.blocks w.graph.blocks k.value.blocks g.blocks listed.blocks);
      }))

module _ {F : Type 0} (layout : F → Layout) (h : HeapState F) (name : Name) where
  pushed_same : ComesToTheSame layout says_number h (call.Push name) (frame_pushed h name)
  pushed_same w past parts known =
      same_then (frames_same layout past h w parts name) (λ k f is.
      same_next
      (same_refuse_when (nat_le most_frames (frames_count h.beside.frames)) (nat_le most_frames (open_frames w.graph))
      (refusal.TooMany most_frames)
      (ap (nat_le most_frames) (opened_alike h.roots.blocks w.graph.blocks 0 h.beside.frames w.graph.frames parts.framed.listed)))
      (fits (record {
        answer = ap (λ xs. says_number (length xs)) (sym is.listed.opened);
        keeps = all_kept h;
        formats = refl;
        has = record {
          past = past;
          timed = refl;
          parts = parts_with_frames layout past h w (with_pool h.beside.frames k.key (with_frame k.value))
              (frames_changed w.graph.frames f.pool pushed) (pushed_framed layout past h w parts k f is) parts;
        };
      })))

  pub push_is_right : (result : Checked ℕ) (after : HeapState F) → Comes h (frame_pushed h name) result after
      → IsRight layout h (call.Push name) [] (answer_to says_number result) after
  push_is_right result after =
      quiet_is_right layout says_number h (call.Push name) refl refl (frame_pushed h name) result after pushed_same
