-- What a whole collection leaves of the world.
use Rattle.std.proofs.Common.{◌≡◌, ◌∙◌, ℕ, false, refl, sym, ap, List, [], ◌++◌, subst, true}
use Rattle.std.specs.Prelude.{is_some, IsTrue}
use Rattle.mps_base.specs.Address.{Id}
use Rattle.mps_base.specs.declared.moves.Move.{Move}
use Rattle.mps_model.specs.World.{World, address_of}
use Rattle.mps_model.specs.Effect.{Everything, condemned_by, world_after_moves}
use Rattle.mps_model.specs.Flip.{flip_act, is_nothing}
use Rattle.mps_model.proofs.Cutting.{world_after_moves-append}
use Rattle.mps_abstract.specs.Collecting.{Collecting, Running, is_white_in}
use Rattle.mps_abstract.specs.Units.{Ends}
use Rattle.mps_abstract.specs.FlipLaws.{IsAtRest, collecting_after_flip, FixesHeld}
use Rattle.mps_abstract.proofs.FlipActs.FlipBegins.{flip_done, flip_ended}
use Rattle.mps_abstract.proofs.WholeCollections.WholeBegins.{nothing_remembered, begun_running}
use Rattle.mps_refinement.specs.Collect.Leaving.{IsCollected, AreInPlace}
use Rattle.mps_refinement.proofs.Collect.FlipActs.{acted_moves, flip_stays, held_black, held_lives, hold_black, manual_black, nothing_moves, pinned_black}
use Rattle.mps_abstract.proofs.Leavings.{moved_on, ends_move}
use Rattle.mps_abstract.proofs.KeptPlaces.{ends_stay}

-- ---- the whole collection

module _ (w : World) (first : List Move) (y : Collecting) (rest : IsAtRest w) (some : is_nothing (condemned_by w Everything) ≡ false)
    (fixed : FixesHeld w (collecting_after_flip w Everything []) first y) where
  abbrev begins : Collecting
  begins = collecting_after_flip w Everything []

  running : Running y
  running = begun_running w first y rest some fixed

  act_leads : world_after_moves w (flip_act w Everything) ≡ y.world
  act_leads = (flip_done w Everything [] first y rest refl some (nothing_remembered w rest) fixed).leads

  all_lead : (later : List Move) → world_after_moves w (flip_act w Everything ++ later) ≡ world_after_moves y.world later
  all_lead later = world_after_moves-append w (flip_act w Everything) later ∙ ap (λ (v : World). world_after_moves v later) act_leads

  pub whole_collected : (count : ℕ) (later : List Move) → Ends y count later
      → IsCollected w (world_after_moves w (flip_act w Everything ++ later))
  whole_collected count later ends =
      let at_end = ends_move running ends in
      subst (λ v. IsCollected w v) (sym (all_lead later)) (record {
        but_collected =
            moved_on (acted_moves w Everything [] first y rest refl some (nothing_remembered w rest) fixed) at_end.but_collected;
        ended = at_end.ended;
      })

  -- ---- what stays to the end

  module _ (count : ℕ) (later : List Move) (ends : Ends y count later) where
    since_act : (n : Id) → is_white_in y n ≡ false
        → address_of (world_after_moves w (flip_act w Everything ++ later)) n ≡ address_of y.world n
    since_act n h = ap (λ (v : World). address_of v n) (all_lead later) ∙ ends_stay running ends n h

    since_flip : (n : Id) → is_white_in begins n ≡ false
        → address_of (world_after_moves w (flip_act w Everything ++ later)) n ≡ address_of w n
    since_flip n h =
        let stays = flip_stays w Everything [] first y rest refl some (nothing_remembered w rest) fixed in
        since_act n (stays.not_white n h) ∙ stays.in_place n h

    pub in_place : AreInPlace w y (world_after_moves w (flip_act w Everything ++ later))
    in_place =
        let told = nothing_remembered w rest in
        record {
          manual = λ n h. since_flip n (manual_black w Everything [] first y rest refl some told fixed n h);
          pinned = λ n h. since_flip n (pinned_black w Everything [] first y rest refl some told fixed n h);
          holds = λ n h. since_flip n (hold_black w Everything [] first y rest refl some told fixed n h);
          held = λ n h. since_act n (held_black w Everything [] first y rest refl some told fixed n h);
          held_live = λ n h.
              ap is_some (since_act n (held_black w Everything [] first y rest refl some told fixed n h))
              ∙ held_lives w Everything [] first y rest refl some told fixed n h;
        }

-- ---- where nothing is condemned

nothing_collected : (w : World) → IsAtRest w → is_nothing (condemned_by w Everything) ≡ true
    → IsCollected w (world_after_moves w (flip_act w Everything))
nothing_collected w rest nothing = record {
  but_collected = nothing_moves w Everything rest refl nothing;
  ended = (flip_ended w Everything rest refl nothing).ended;
}

-- if something is condemned, and if nothing is
pub a_collection_moves_objects : ((w : World) (first later : List Move) (y : Collecting) (count : ℕ) → IsAtRest w → is_nothing
    (condemned_by w Everything) ≡ false
    → FixesHeld w (collecting_after_flip w Everything []) first y → Ends y count later
    → IsCollected w (world_after_moves w (flip_act w Everything ++ later)))
    × ((w : World) (first later : List Move) (y : Collecting) (count : ℕ) → IsAtRest w → is_nothing (condemned_by w Everything) ≡ false
    → FixesHeld w (collecting_after_flip w Everything []) first y → Ends y count later
    → AreInPlace w y (world_after_moves w (flip_act w Everything ++ later)))
    × ((w : World) → IsAtRest w → IsTrue (is_nothing (condemned_by w Everything))
    → IsCollected w (world_after_moves w (flip_act w Everything)))
a_collection_moves_objects = (
  (λ w first later y count rest some fixed ends. whole_collected w first y rest some fixed count later ends),
  (λ w first later y count rest some fixed ends. in_place w first y rest some fixed count later ends),
  (λ w rest nothing. nothing_collected w rest nothing),
)
