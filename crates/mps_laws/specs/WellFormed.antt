-- Worlds that legal histories reach are well-formed, if the arena is made once.
use Rattle.std.specs.Prelude.{◌≡◌, ℕ, Bool, true, false, not, IsTrue, None, List, [], ◌∷◌, replicate, refl}
use Rattle.std.specs.List.{list_all, list_any}
use Rattle.mps_base.specs.declared.address.Addr.{Addr}
use Rattle.mps_base.specs.declared.moves.Move.{Move}
use Rattle.mps_base.specs.declared.moves.Move.TheVariants as moves
use Rattle.mps_base.specs.declared.names.Name.{Name}
use Rattle.mps_model.specs.Layout.{Layout}
use Rattle.mps_model.specs.Any.{numbered_layout}
use Rattle.mps_model.specs.declared.call.Call.{Call}
use Rattle.mps_model.specs.declared.call.Call.TheVariants as call
use Rattle.mps_model.specs.declared.reply.Reply.TheVariants as reply
use Rattle.mps_model.specs.Answer.{Replied}
use Rattle.mps_model.specs.Step.{Step, History}
use Rattle.mps_model.specs.Effect.{world_after_moves}
use Rattle.mps_model.specs.Graph.{ids_of_client}
use Rattle.mps_model.specs.History.{IsLegalHistoryOf}
use Rattle.mps_model.specs.LegalMove.{AreLegalMoves}
use Rattle.mps_model.specs.WellFormed.{IsWellFormed}
use Rattle.mps_model.specs.World.{Unclamped, is_live}
use Rattle.mps_model.specs.Collecting.{with_state}
use Rattle.mps_laws.specs.Replay.{reached}
use Rattle.mps_changes.specs.Change.{makes_arena}

-- whether no command but the first makes an arena, as in any script
abbrev pub is_arena_made_once : History → Bool
is_arena_made_once [] = true
is_arena_made_once (s ∷ ss) = not (list_any (λ (later : Step). makes_arena later.call) ss)

-- each world that a legal history reaches is well-formed, if the arena is made once
abbrev pub ReachedWorldsAreWellFormed : Type 0
ReachedWorldsAreWellFormed =
    (formats : ℕ → Layout) (history : History) → IsTrue (is_arena_made_once history) → IsLegalHistoryOf formats history
    → IsWellFormed (reached formats history)

-- and so is each world that legal moves of a collector lead to from there, in the middle of a step, if what the client holds is live in it.
-- The arena counts as unclamped there: a `collect` runs its collection in an arena that may be parked, and empties transforms at its end
abbrev pub WorldsInStepsAreWellFormed : Type 0
WorldsInStepsAreWellFormed =
    (formats : ℕ → Layout) (history : History) (ms : List Move) → IsTrue (is_arena_made_once history)
    → IsLegalHistoryOf formats history → AreLegalMoves (reached formats history) None ms
    → IsTrue (list_all (is_live (world_after_moves (reached formats history) ms))
    (ids_of_client (world_after_moves (reached formats history) ms).graph))
    → IsWellFormed (with_state (world_after_moves (reached formats history) ms) Unclamped)

-- ---- an arena that is made again

abbrev accepted : (line : ℕ) → Call → List Move → Step
accepted line call moves = record { line = line; call = call; moves = moves; answer = Replied reply.Ok }

abbrev one_letter : (code : ℕ) → Name
one_letter code = record { bytes = code ∷ replicate 15 0 }

abbrev at : (address : ℕ) → Addr
at address = record { 0 = address }

-- a manual block takes the one grain of an arena, which is then made again without grains
abbrev pub made_again : History
made_again =
    accepted 1 (call.Arena 1 1) []
    ∷ accepted 2 (call.PoolMvff (one_letter 118)) []
    ∷ accepted 3 (call.Blocks (one_letter 98) 1) []
    ∷ accepted 4 (call.Alloc (one_letter 118) 1 (record { name = one_letter 98; index = 0 }))
    (moves.Seg (at 0x1000) 1 0 0 ∷ moves.Alloc (at 0x1000) 1 0 ∷ [])
    ∷ accepted 5 (call.Arena 0 0) []
    ∷ []

-- the premise is needed: this history is legal, and a segment lies outside the arena that it leaves
abbrev pub ArenaMadeAgainLeavesSegments : Type 0
ArenaMadeAgainLeavesSegments = IsLegalHistoryOf numbered_layout made_again × (IsWellFormed (reached numbered_layout made_again) → ⊥)

-- ---- vectors

pub the_first_makes_it : is_arena_made_once (accepted 1 (call.Arena 4 4) [] ∷ accepted 2 call.Clamp [] ∷ []) ≡ true
the_first_makes_it = refl

pub no_later_one_does : is_arena_made_once made_again ≡ false
no_later_one_does = refl
