-- What is known of an accepted `collect` of a legal history: of the world that its flip leaves, and of the one that its moves leave.
use Rattle.std.proofs.Common.{◌≡◌, ℕ, true, false, sym, ◌∙◌, ap, subst, List, [], ◌∷◌, ◌++◌, Option, Some, None}
use Rattle.std.specs.Prelude.{◌||◌}
use Rattle.std.specs.List.{list_all, flat_map}
use Rattle.mps_base.specs.declared.moves.Move.{Move}
use Rattle.mps_model.proofs.Appending.{IsLegalFrom-later}
use Rattle.mps_model.proofs.Reaching.{list_all-contains}
use Rattle.mps_model.specs.declared.call.Call.TheVariants as call
use Rattle.mps_model.specs.Step.{Step}
use Rattle.mps_model.specs.Graph.{contains, ids_of_client, targets}
use Rattle.mps_model.specs.World.{World, Parked, empty_world_of, is_live, is_running, live_ids}
use Rattle.mps_model.specs.Collecting.{with_state}
use Rattle.mps_model.specs.Effect.{Everything, world_after_moves}
use Rattle.mps_model.specs.Flip.{flip_of, world_at_flip}
use Rattle.mps_model.specs.LegalMove.{AreLegalMoves, first_move}
use Rattle.mps_model.specs.Posts.{IsWhole}
use Rattle.mps_model.specs.History.{IsLegalStep, AreMovesOf, HeldAreLive, moves_of_collector, with_client_remembered, world_after}
use Rattle.mps_laws.specs.Replay.{reached}
use Rattle.mps_laws.proofs.Flipping.{HasNone}
use Rattle.mps_laws.proofs.LegalHistories.{IsLegalFrom-first}
use Rattle.mps_laws.proofs.Held.{held_after}
use Rattle.mps_laws.proofs.Parked.{remembered_runs}
use Rattle.mps_laws.proofs.Positions.LegalMoves.{HasLayout}
use Rattle.mps_laws.proofs.Replays.ReplayOfMoves.{move_replayed, moves_replayed}
use Rattle.mps_laws.proofs.Sound.Referred.{of_live}
use Rattle.mps_laws.proofs.Sound.SoundGraph.{All, IsSoundGraph}
use Rattle.mps_laws.proofs.Sound.SoundMoves.{move_well, moves_well}
use Rattle.mps_client_laws.specs.Complete.{OfEachCollect, moves_after_flip}
use Rattle.mps_client_laws.proofs.CollectFlips.{HasFullFlip, IsCarried, at_flip_is, after_flip_is, carried, full_flip, moved_is}
use Rattle.mps_client_laws.proofs.Collecting.{after_is}
use Rattle.mps_client_laws.proofs.SoundlyReached.{IsSoundlyReached, soundly_reached}

-- ---- the flip, and the moves after it

-- what is known of the world at the flip of a `collect`, where this world is the one before the flip, and these are the moves after it
pub record IsCompleted (v : World) (later : List Move) : Type 0 where
  pub limit : ℕ
  pub layout_before : HasLayout limit v
  pub sound_before : IsSoundGraph v
  pub layout : HasLayout limit (world_at_flip v Everything)
  pub sound : IsSoundGraph (world_at_flip v Everything)
  pub last : Option Move
  pub legal : AreLegalMoves (world_at_flip v Everything) last later
  pub no_flip : HasNone later
  pub ends : is_running (world_after_moves (world_at_flip v Everything) later) ≡ false
  pub client : (id : ℕ) → contains (ids_of_client (world_after_moves (world_at_flip v Everything) later).graph) id ≡ true
      → is_live (world_after_moves (world_at_flip v Everything) later) id ≡ true
  pub referred : (holder id : ℕ) → is_live (world_after_moves (world_at_flip v Everything) later) holder ≡ true
      → contains (targets (world_after_moves (world_at_flip v Everything) later).graph holder) id ≡ true
      → is_live (world_after_moves (world_at_flip v Everything) later) id ≡ true
  pub exact : IsWhole v (world_at_flip v Everything) (world_after_moves (world_at_flip v Everything) later)
  pub layout_after : HasLayout limit (world_after_moves (world_at_flip v Everything) later)
  pub sound_after : IsSoundGraph (world_after_moves (world_at_flip v Everything) later)

-- what holds of the worlds that carry the invariants of moves
record IsKeptIn (limit : ℕ) (w : World) : Type 0 where
  layout : HasLayout limit w
  sound : IsSoundGraph w

module _ (w : World) (s : Step) (k : IsSoundlyReached w) (legal : IsLegalStep w s) (is : s.call ≡ call.Collect) where
  pub the_flip : HasFullFlip w s.moves
  the_flip = full_flip w s.moves (subst (λ c. AreMovesOf w c s.answer s.moves) is legal.moves_are_due)

  abbrev v : World
  v = world_after_moves w the_flip.earlier

  abbrev flipped : World
  flipped = world_at_flip v Everything

  abbrev moved : World
  moved = world_after_moves flipped the_flip.later

  all_legal : AreLegalMoves w None (the_flip.earlier ++ flip_of v Everything ∷ the_flip.later)
  all_legal =
      subst (AreLegalMoves w None) the_flip.whole
      (subst (λ c. AreLegalMoves w None (moves_of_collector c s.moves)) is legal.moves_are_legal)

  at_v : IsCarried (IsKeptIn k.limit) v (flip_of v Everything ∷ the_flip.later)
  at_v =
      carried (IsKeptIn k.limit)
      (λ u before m next h legal. record {
        layout = (move_replayed k.limit u before m next 0 h.layout legal).layout;
        sound = (move_well u before m next h.sound legal).sound;
      })
      w None the_flip.earlier (flip_of v Everything ∷ the_flip.later) (record { layout = k.layout; sound = k.sound }) all_legal

  after_moves : world_after w s ≡ with_client_remembered (with_state moved (Parked []))
  after_moves =
      after_is w s legal is
      ∙ ap (λ u. with_client_remembered (with_state u (Parked []))) (moved_is w s.moves the_flip)

  held : HeldAreLive (with_client_remembered (with_state moved (Parked [])))
  held = subst HeldAreLive after_moves legal.held_are_live

  rests : is_running moved ≡ false
  rests = ap is_running (sym (moved_is w s.moves the_flip)) ∙ the_flip.ends

  pub completed : IsCompleted v the_flip.later
  completed =
      let flip = move_replayed k.limit v at_v.last (flip_of v Everything) (first_move the_flip.later) 0 at_v.holds.layout at_v.legal.0 in
      let well = move_well v at_v.last (flip_of v Everything) (first_move the_flip.later) at_v.holds.sound at_v.legal.0 in
      record {
        limit = k.limit;
        layout_before = at_v.holds.layout;
        sound_before = at_v.holds.sound;
        layout = flip.layout;
        sound = well.sound;
        last = Some (flip_of v Everything);
        legal = at_v.legal.1;
        no_flip = the_flip.later_none;
        ends = rests;
        client = λ id h. list_all-contains (is_live moved) (ids_of_client moved.graph) id held.client h;
        referred = λ holder id live h.
            list_all-contains (is_live moved) (targets moved.graph holder) id
            (of_live moved (is_live moved) all_referred holder live) h;
        exact = subst (IsWhole v flipped) (moved_is w s.moves the_flip) the_flip.exact;
        layout_after = (moves_replayed k.limit flipped (Some (flip_of v Everything)) the_flip.later 0 flip.layout at_v.legal.1).layout;
        sound_after = (moves_well flipped (Some (flip_of v Everything)) the_flip.later well.sound at_v.legal.1).sound;
      }
    where
      all_referred : All (is_live moved) (flat_map (targets moved.graph) (live_ids moved))
      all_referred =
          subst (λ b. (b || list_all (is_live moved) (flat_map (targets moved.graph) (live_ids moved))) ≡ true)
          (remembered_runs (ids_of_client moved.graph) moved.collection ∙ rests) held.referred

-- a fact of what is completed is one of each `collect`
pub of_each_collect : (Fact : World → World → List Move → World → Type 0)
    → ((w v : World) (later : List Move) → IsSoundlyReached w → HeldAreLive w → (is_running w ≡ false → v ≡ w) → IsCompleted v later
    → Fact w (world_at_flip v Everything) later
    (with_client_remembered (with_state (world_after_moves (world_at_flip v Everything) later) (Parked []))))
    → OfEachCollect Fact
of_each_collect Fact each formats steps later s legal is accepted =
    let first = empty_world_of formats in
    let w = reached formats steps in
    let k = soundly_reached formats steps (IsLegalFrom-first first steps (s ∷ later) legal) in
    let here = (IsLegalFrom-later first steps (s ∷ later) legal).0 in
    let f = the_flip w s k here is in
    let v = world_after_moves w f.earlier in
    subst (λ flipped. Fact w flipped (moves_after_flip s.moves) (world_after w s)) (sym (at_flip_is w s.moves f))
    (subst (λ ms. Fact w (world_at_flip v Everything) ms (world_after w s)) (sym (after_flip_is w s.moves f))
    (subst (Fact w (world_at_flip v Everything) f.later) (sym (after_moves w s k here is))
    (each w v f.later k (held_after formats steps (IsLegalFrom-first first steps (s ∷ later) legal))
    (λ rests. ap (world_after_moves w) (f.none_earlier rests)) (completed w s k here is))))
