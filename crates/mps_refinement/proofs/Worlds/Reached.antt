-- What holds of a world that a legal history reaches and in which no collection runs, and that each further legal step reaches one.
use Rattle.std.proofs.Common.{◌≡◌, ◌∙◌, ℕ, true, false, refl, sym, ap, subst, [], ◌∷◌, ◌++◌, None}
use Rattle.std.specs.Prelude.{not, ◌||◌}
use Rattle.std.specs.List.{list_any}
use Rattle.mps_format.specs.Layout.{Layout}
use Rattle.mps_model.specs.Step.{Step, History}
use Rattle.mps_model.specs.World.{World, empty_world_of}
use Rattle.mps_model.specs.WellFormed.{IsWellFormed}
use Rattle.mps_model.specs.History.{IsLegalHistoryOf, IsLegalStep, HeldAreLive, world_after}
use Rattle.mps_model.proofs.Appending.{IsLegalFrom-append, world_after_steps-append}
use Rattle.mps_laws.specs.Replay.{reached}
use Rattle.mps_laws.specs.WellFormed.{is_arena_made_once}
use Rattle.mps_changes.specs.Change.{makes_arena}
use Rattle.mps_laws.proofs.Held.{held_after, any_kind}
use Rattle.mps_laws.proofs.QuietSteps.{IsSound}
use Rattle.mps_laws.proofs.WellFormedHistories.{reached_are_well_formed}
use Rattle.mps_refinement.specs.StandsFor.{IsReached}
use Rattle.mps_refinement.proofs.Worlds.RestingActs.{resting_sound}
use Rattle.mps_laws.proofs.LegalHistories.{kept_by_steps}
use Rattle.mps_laws.proofs.Sound.PoolsThere.{HasPools, step_has_pools}

-- ---- what holds there

pub reached_well_formed : (w : World) → IsReached w → IsWellFormed w
reached_well_formed w r = subst IsWellFormed (sym r.is) (reached_are_well_formed w.formats r.history r.once r.legal)

pub reached_live : (w : World) → IsReached w → HeldAreLive w
reached_live w r = subst HeldAreLive (sym r.is) (held_after w.formats r.history r.legal)

pub reached_sound : (w : World) → IsReached w → w.collection ≡ None → IsSound w
reached_sound w r rest = resting_sound w rest (reached_live w r)

-- in a world that is reached each point is of a pool that exists
pub reached_has_pools : (w : World) → IsReached w → HasPools w
reached_has_pools w r =
    subst HasPools (sym r.is)
    (kept_by_steps HasPools (λ s. Unit {0}) (λ v s has any legal. step_has_pools v s has) (empty_world_of w.formats) r.history
    (record { of_objects = tt; of_points = tt }) (any_kind r.history) r.legal)

-- ---- one more step

none_makes_more : (ss : History) (s : Step) → makes_arena s.call ≡ false
    → list_any (λ (later : Step). makes_arena later.call) (ss ++ s ∷ []) ≡ list_any (λ (later : Step). makes_arena later.call) ss
none_makes_more [] s h = ap (λ b. b || false) h
none_makes_more (t ∷ ts) s h = ap (λ b. makes_arena t.call || b) (none_makes_more ts s h)

made_once_still : (history : History) (s : Step) → makes_arena s.call ≡ false → is_arena_made_once history ≡ true
    → is_arena_made_once (history ++ s ∷ []) ≡ true
made_once_still [] s h once = refl
made_once_still (t ∷ ts) s h once = ap not (none_makes_more ts s h) ∙ once

-- the world after a legal step is reached too, unless it makes the arena again
pub reached_next : (w : World) (s : Step) → IsReached w → IsLegalStep w s → (world_after w s).formats ≡ w.formats
    → makes_arena s.call ≡ false → IsReached (world_after w s)
reached_next w s r legal formats arena =
    let more : History = r.history ++ s ∷ [] in
    let is : world_after w s ≡ reached w.formats more =
    ap (λ v. world_after v s) r.is ∙ sym (world_after_steps-append (empty_world_of w.formats) r.history (s ∷ [])) in
    let legal_more : IsLegalHistoryOf w.formats more =
    IsLegalFrom-append (empty_world_of w.formats) r.history (s ∷ []) r.legal (subst (λ v. IsLegalStep v s) r.is legal, tt) in
    record {
      history = more;
      legal = subst (λ (f : ℕ → Layout). IsLegalHistoryOf f more) (sym formats) legal_more;
      once = made_once_still r.history s arena r.once;
      is = is ∙ ap (λ f. reached f more) (sym formats);
    }
