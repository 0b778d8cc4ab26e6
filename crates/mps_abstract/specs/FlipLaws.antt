-- What is shown of the act of a flip: it begins a collection in which the invariant holds.
use Rattle.std.specs.Prelude.{◌≡◌, ◌+◌, ◌≤◌, ℕ, false, IsTrue, None, List, [], ◌∷◌, ◌++◌, length, refl}
use Rattle.mps_base.specs.Address.{Id}
use Rattle.mps_base.specs.declared.moves.Move.{Move}
use Rattle.mps_base.specs.declared.moves.Move.TheVariants as moves
use Rattle.mps_model.specs.Graph.{contains, targets, ids_in_slots, ids_of_client, is_automatic}
use Rattle.mps_model.specs.World.{World, is_live, object_is, is_automatic_kind, pool_is}
use Rattle.mps_model.specs.WellFormed.{IsWellFormed}
use Rattle.mps_model.specs.Effect.{Condemnation, Everything, Generations, condemnation_of, chain_of, oldest_of, is_on_chain, condemned_by, condemned_zones, world_flipped, collection_at_flip, after_flip, world_after_moves}
use Rattle.mps_model.specs.LegalMove.{AreLegalMoves}
use Rattle.mps_model.specs.Flip.{flip_of, flip_act, is_nothing}
use Rattle.mps_abstract.specs.Colours.{is_white, AllReferredLive}
use Rattle.mps_abstract.specs.Collecting.{Exact, Collecting, Running, units_left}
use Rattle.mps_abstract.specs.Fixing.{Fixes}

-- a world in which a collection may begin
pub record IsAtRest (w : World) : Type 0 where
  pub none_runs : w.collection ≡ None
  pub well_formed : IsWellFormed w
  -- what the client holds, and what live objects refer to, is live
  pub held_live : (id : Id) → IsTrue (contains (ids_of_client w.graph) id) → IsTrue (is_live w id)
  pub referred_live : AllReferredLive w.graph (is_live w)
  -- only automatic pools are on chains
  pub on_chains : (chain pool : ℕ) → IsTrue (is_on_chain w chain pool) → IsTrue (pool_is is_automatic_kind w pool)

-- the numbers of a flip in the log mean what it condemns. No chain has the number that represents everything
abbrev pub IsNumbered : Condemnation → Type 0
IsNumbered what = condemnation_of (chain_of what) (oldest_of what) ≡ what

-- the state right after the record of a flip, where these other objects are still to be scanned: what is pinned is kept, and
-- is to be scanned too
abbrev pub collecting_after_flip : World → Condemnation → (others : List Id) → Collecting
collecting_after_flip w what others = record {
  world = after_flip w (condemned_zones w what) what;
  running = collection_at_flip (world_flipped w (condemned_zones w what)) what;
  colours = record {
    kept = (collection_at_flip (world_flipped w (condemned_zones w what)) what).pinned;
    grey = (collection_at_flip (world_flipped w (condemned_zones w what)) what).pinned ++ others;
  };
  band = Exact;
  next = 0;
  cursor = 0;
}

-- objects that weren't condemned and may refer to white ones: all others that weren't condemned don't
pub record AreRemembered (x : Collecting) (others : List Id) : Type 0 where
  pub live : (id : Id) → IsTrue (contains others id) → IsTrue (is_live x.world id)
  pub automatic : (id : Id) → IsTrue (contains others id) → IsTrue (object_is is_automatic x.world id)
  pub outside : (id : Id) → IsTrue (contains others id) → contains x.running.condemned id ≡ false
  pub rest : (id target : Id) → IsTrue (is_live x.world id) → contains x.running.condemned id ≡ false → contains others id ≡ false
      → IsTrue (contains (targets x.world.graph id) target) → is_white x.running.condemned x.colours target ≡ false

-- what slots and then messages hold is fixed by the act of a flip
abbrev pub FixesHeld : World → Collecting → List Move → Collecting → Type 0
FixesHeld w x ms y = Fixes x (ids_in_slots w.graph ++ w.graph.messages) ms y

-- what is shown of the act of a flip that condemns something
pub record IsFlipDone (w : World) (what : Condemnation) (ms : List Move) (y : Collecting) : Type 0 where
  pub act : flip_act w what ≡ flip_of w what ∷ ms
  pub leads : world_after_moves w (flip_act w what) ≡ y.world
  pub legal : AreLegalMoves w None (flip_act w what)
  pub running : Running y

-- and of one that condemns nothing
pub record IsFlipEnded (w : World) (what : Condemnation) : Type 0 where
  pub act : flip_act w what ≡ flip_of w what ∷ moves.End ∷ []
  pub legal : AreLegalMoves w None (flip_act w what)
  pub ended : (world_after_moves w (flip_act w what)).collection ≡ None
  pub held_live : (id : Id) → IsTrue (contains (ids_of_client (world_after_moves w (flip_act w what)).graph) id)
      → IsTrue (is_live (world_after_moves w (flip_act w what)) id)
  pub referred_live : AllReferredLive (world_after_moves w (flip_act w what)).graph (is_live (world_after_moves w (flip_act w what)))

abbrev pub AFlipBeginsRunning : Type 0
AFlipBeginsRunning =
    ((w : World) (what : Condemnation) (others : List Id) (ms : List Move) (y : Collecting) → IsAtRest w → IsNumbered what
    → is_nothing (condemned_by w what) ≡ false → AreRemembered (collecting_after_flip w what others) others
    → FixesHeld w (collecting_after_flip w what others) ms y → IsFlipDone w what ms y)
    × ((w : World) (what : Condemnation) → IsAtRest w → IsNumbered what → IsTrue (is_nothing (condemned_by w what)) → IsFlipEnded w what)

-- after the act of a flip that condemns something, at most one unit is left for each object that it condemned or has still to scan, for
-- each registration, and for each condemned segment
abbrev pub AFlipLeavesFewUnits : Type 0
AFlipLeavesFewUnits =
    (w : World) (what : Condemnation) (others : List Id) (ms : List Move) (y : Collecting) → IsAtRest w → IsNumbered what
    → is_nothing (condemned_by w what) ≡ false → AreRemembered (collecting_after_flip w what others) others
    → FixesHeld w (collecting_after_flip w what others) ms y
    → units_left y ≤ length (collecting_after_flip w what others).running.condemned + length others + length w.graph.registered
    + length (condemned_by w what)

-- ---- vectors

pub the_last_chain_has_its_number : condemnation_of 15 2 ≡ Generations 15 2
the_last_chain_has_its_number = refl

pub everything_has_a_number : IsNumbered Everything
everything_has_a_number = refl

pub a_seventeenth_chain_would_mean_everything : condemnation_of 16 2 ≡ Everything
a_seventeenth_chain_would_mean_everything = refl
