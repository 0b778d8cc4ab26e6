-- How a call comes to follow its moves, and that without pairs nothing follows from them.
use Rattle.std.proofs.Common.{◌≡◌, ◌∙◌, ℕ, refl, sym, ap, List, [], ◌∷◌, length}
use Rattle.std.proofs.Math.Seq.{drop-length}
use Rattle.std.specs.Prelude.{drop}
use Rattle.mps_base.specs.Trail.{Moves}
use Rattle.mps_base.specs.declared.moves.Move.{Move}
use Rattle.mps_base.specs.declared.moves.Move.TheVariants as moves
use Rattle.mps_dep.specs.State.{dependent_of, without_address}
use Rattle.mps_dep.specs.declared.dependents.Pair.{Pair}
use Rattle.mps_format.specs.Layout.{Layout}
use Rattle.mps_heap_spec.specs.Following.{Follows, move_followed, moves_followed, splat_followed, with_dependents}
use Rattle.mps_heap_spec.specs.State.{HeapState}

module _ {F : Type 0} (layout : F → Layout) (h : HeapState F) (none : h.beside.dependents ≡ []) where
  no_move_followed : (m : Move) → move_followed layout h m ≡ h
  no_move_followed (moves.Seg base grains pool generation) = refl
  no_move_followed (moves.Unseg base) = refl
  no_move_followed (moves.Flip zones chain generation) = refl
  no_move_followed moves.End = refl
  no_move_followed (moves.Moved from to) = refl
  no_move_followed (moves.Stay at) = refl
  no_move_followed (moves.Splat holder cell) = ap (λ (ps : List Pair). splat_followed layout h (dependent_of ps holder.0) cell) none
  no_move_followed (moves.Post at) = refl
  no_move_followed (moves.Commit at words pool) = refl
  no_move_followed (moves.Alloc at words pool) = refl
  no_move_followed (moves.Free at) =
      ap (with_dependents h) (ap (λ (ps : List Pair). without_address ps at.0) none ∙ sym none)

  -- moves are followed by nothing
  pub nothing_followed : (ms : List Move) → moves_followed layout h ms ≡ h
  nothing_followed [] = refl
  nothing_followed (m ∷ ms) = ap (λ (g : HeapState F). moves_followed layout g ms) (no_move_followed m) ∙ nothing_followed ms

module _ {F : Type 0} {layout : F → Layout} {m : Moves} {Left : HeapState F → Moves → Type 0} where
  -- a call made no move
  pub left_alone : {h : HeapState F} → Left h m → Follows layout m Left h m
  left_alone {h = h} left = record {
    made = h;
    left = left;
    followed = sym (ap (moves_followed layout h) (drop-length m.moves));
  }

  -- it followed its moves, beginning after those that there were
  pub then_followed : (made : HeapState F) {after : HeapState F} {m' : Moves} {first : ℕ} → Left made m' → first ≡ length m.moves
      → after ≡ moves_followed layout made (drop first m'.moves) → Follows layout m Left after m'
  then_followed made {m' = m'} left count followed = record {
    made = made;
    left = left;
    followed = followed ∙ ap (λ n. moves_followed layout made (drop n m'.moves)) count;
  }
