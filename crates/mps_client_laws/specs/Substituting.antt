-- What an accepted `transapply` leaves: references to old objects are to new ones, once, or nothing changes.
use Rattle.std.specs.Prelude.{◌≡◌, ℕ, Bool, true, false, ◌==◌, IsTrue, Some, List, ◌∷◌, ◌++◌, refl}
use Rattle.std.specs.List.{list_any}
use Rattle.mps_base.specs.Address.{Id}
use Rattle.mps_base.specs.declared.names.Name.{Name}
use Rattle.mps_model.specs.Layout.{Layout}
use Rattle.mps_model.specs.declared.call.Call.TheVariants as call
use Rattle.mps_model.specs.declared.reply.Reply.TheVariants as reply
use Rattle.mps_model.specs.Answer.{Replied}
use Rattle.mps_model.specs.Step.{Step, History}
use Rattle.mps_model.specs.Graph.{Graph, ReferenceCell, contains, ids_in_slots}
use Rattle.mps_model.specs.World.{TransformPair, World}
use Rattle.mps_model.specs.History.{IsLegalHistoryOf, world_after}
use Rattle.mps_model.specs.Transforms.{graph_substituted, is_blocked, is_old}
use Rattle.mps_laws.specs.Held.{letter}
use Rattle.mps_laws.specs.Replay.{reached}
use Rattle.mps_client_laws.specs.Objects.{applying, cell_at, pairs_named, with_a_transform}

-- whether an object is the new one of a pair
abbrev pub is_new : List TransformPair → (id : Id) → Bool
is_new pairs id = list_any (λ p. p.new == id) pairs

-- the graph with the new objects of a transform in place of its old ones
abbrev pub graph_applied : World → (transform : Name) → Graph
graph_applied w transform = graph_substituted w.graph (pairs_named w transform)

-- objects and slots are those of the one graph and of the other
pub record AreReferencesOf (g of : Graph) : Type 0 where
  pub objects : g.objects ≡ of.objects
  pub slots : g.tables ≡ of.tables

-- A `transapply` that answers yes leaves the substitution, once: no pair is applied to what another left.
abbrev pub YesIsTheSubstitution : Type 0
YesIsTheSubstitution =
    (formats : ℕ → Layout) (steps later : History) (s : Step) (transform : Name) → IsLegalHistoryOf formats (steps ++ s ∷ later)
    → s.call ≡ call.TransformApply transform → s.answer ≡ Replied reply.Yes
    → AreReferencesOf (world_after (reached formats steps) s).graph (graph_applied (reached formats steps) transform)

-- no area word lay in an old object then
abbrev pub YesIsNotBlocked : Type 0
YesIsNotBlocked =
    (formats : ℕ → Layout) (steps later : History) (s : Step) (transform : Name) → IsLegalHistoryOf formats (steps ++ s ∷ later)
    → s.call ≡ call.TransformApply transform → s.answer ≡ Replied reply.Yes
    → is_blocked (reached formats steps) (pairs_named (reached formats steps) transform) ≡ false

-- After it no slot refers to an old object that isn't also a new one.
abbrev pub NoSlotRefersToOld : Type 0
NoSlotRefersToOld =
    (formats : ℕ → Layout) (steps later : History) (s : Step) (transform : Name) (id : Id)
    → IsLegalHistoryOf formats (steps ++ s ∷ later) → s.call ≡ call.TransformApply transform → s.answer ≡ Replied reply.Yes
    → IsTrue (contains (ids_in_slots (world_after (reached formats steps) s).graph) id)
    → IsTrue (is_old (pairs_named (reached formats steps) transform) id)
    → IsTrue (is_new (pairs_named (reached formats steps) transform) id)

-- Nor does a reference of an object, weak or not.
abbrev pub NoReferenceIsToOld : Type 0
NoReferenceIsToOld =
    (formats : ℕ → Layout) (steps later : History) (s : Step) (transform : Name) (object id : Id) (k tag : ℕ)
    → IsLegalHistoryOf formats (steps ++ s ∷ later) → s.call ≡ call.TransformApply transform → s.answer ≡ Replied reply.Yes
    → cell_at (world_after (reached formats steps) s).graph object k ≡ Some (ReferenceCell (Some id) tag)
    → IsTrue (is_old (pairs_named (reached formats steps) transform) id)
    → IsTrue (is_new (pairs_named (reached formats steps) transform) id)

-- One that answers no changes no graph: an area word lies in an old object.
pub record IsBlockedStep (w : World) (s : Step) (transform : Name) : Type 0 where
  pub blocked : is_blocked w (pairs_named w transform) ≡ true
  pub graph : (world_after w s).graph ≡ w.graph

abbrev pub NoChangesNothing : Type 0
NoChangesNothing =
    (formats : ℕ → Layout) (steps later : History) (s : Step) (transform : Name) → IsLegalHistoryOf formats (steps ++ s ∷ later)
    → s.call ≡ call.TransformApply transform → s.answer ≡ Replied reply.No → IsBlockedStep (reached formats steps) s transform

-- ---- vectors: the transform x replaces object 0 by object 1

pub one_is_new : is_new (pairs_named with_a_transform (letter 120)) 1 ≡ true
one_is_new = refl

pub nought_is_not : is_new (pairs_named with_a_transform (letter 120)) 0 ≡ false
nought_is_not = refl

pub it_is_applied : (world_after with_a_transform applying).graph.objects ≡ (graph_applied with_a_transform (letter 120)).objects
it_is_applied = refl

pub no_slot_has_nought : contains (ids_in_slots (world_after with_a_transform applying).graph) 0 ≡ false
no_slot_has_nought = refl
