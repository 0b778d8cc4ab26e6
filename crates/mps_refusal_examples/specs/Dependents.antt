-- The commands on dependents: their refusals in order. Object 0 is a pair of an AMC pool, object 1 a weak one; a third is an exact one of
-- the AWL pool.
use Rattle.std.specs.Prelude.{false, Some, None, List, [], ◌∷◌, ◌++◌, replicate}
use Rattle.mps_base.specs.Address.{Id}
use Rattle.mps_base.specs.declared.names.Slot.{Slot}
use Rattle.mps_base.specs.declared.refusal.Refusal.TheVariants as refusal
use Rattle.mps_model.specs.declared.call.Call.TheVariants as call
use Rattle.mps_model.specs.declared.reply.Reply.TheVariants as reply
use Rattle.mps_model.specs.Graph.{Automatic, Object}
use Rattle.mps_model.specs.World.{World}
use Rattle.mps_refusal_examples.specs.Row.{Row, refuses, replies, AreAnswered}
use Rattle.mps_refusal_examples.specs.SmallWorld.{a_table, pair_slot, null_slot, weak_slot, no_slot, front, pair_cells, small}

-- the slot of the exact object of the AWL pool
abbrev pub exact_slot : Slot
exact_slot = record { name = a_table; index = 3 }

-- past the last slot, as there is one more
abbrev pub past : Slot
past = record { name = a_table; index = 4 }

-- an exact object of the pool of the weak one
abbrev pub exact_object : Object
exact_object = record { pool = 3; body = Automatic (front 3 1) (pair_cells None 0) false }

-- the small world with it, and with these pairs
abbrev pub linked : List (Id × Id) → World
linked pairs = record small {
  graph = record small.graph {
    objects = small.graph.objects ++ exact_object ∷ [];
    tables = Some (Some 0 ∷ None ∷ Some 1 ∷ Some 3 ∷ []) ∷ [];
    dependents = pairs;
  };
}

-- as many pairs of another object as there may be
abbrev pub full : List (Id × Id)
full = replicate 1024 (5, 3)

-- one less, and that of the weak object
abbrev pub full_with_weak : List (Id × Id)
full_with_weak = (1, 3) ∷ replicate 1023 (5, 3)

abbrev pub depend : List Row
depend =
    refuses (call.Depend no_slot past) refusal.BadName
    ∷ refuses (call.Depend past no_slot) refusal.BadIndex
    ∷ refuses (call.Depend null_slot no_slot) refusal.BadName
    ∷ refuses (call.Depend null_slot past) refusal.BadIndex
    ∷ refuses (call.Depend null_slot null_slot) refusal.NullRef
    ∷ refuses (call.Depend null_slot pair_slot) refusal.NullRef
    ∷ refuses (call.Depend pair_slot null_slot) refusal.NullRef
    ∷ refuses (call.Depend pair_slot exact_slot) refusal.WrongPool
    ∷ refuses (call.Depend exact_slot exact_slot) refusal.WrongPool
    ∷ refuses (call.Depend weak_slot pair_slot) refusal.WrongPool
    ∷ refuses (call.Depend weak_slot weak_slot) refusal.WrongPool
    ∷ replies (call.Depend weak_slot exact_slot) reply.Ok
    ∷ []

abbrev pub depend_where_full : List Row
depend_where_full =
    refuses (call.Depend weak_slot null_slot) refusal.NullRef
    ∷ refuses (call.Depend weak_slot pair_slot) refusal.WrongPool
    ∷ refuses (call.Depend weak_slot exact_slot) (refusal.TooMany 1024)
    ∷ []

-- the earlier dependent is replaced
abbrev pub depend_again_where_full : List Row
depend_again_where_full =
    replies (call.Depend weak_slot exact_slot) reply.Ok
    ∷ []

abbrev pub undepend : List Row
undepend =
    refuses (call.Undepend no_slot) refusal.BadName
    ∷ refuses (call.Undepend past) refusal.BadIndex
    ∷ refuses (call.Undepend null_slot) refusal.NullRef
    ∷ refuses (call.Undepend exact_slot) refusal.NotLinked
    ∷ replies (call.Undepend weak_slot) reply.Ok
    ∷ []

pub record DependentsAnswer : Type 0 where
  pub depend : AreAnswered (linked []) depend
  pub depend_where_full : AreAnswered (linked full) depend_where_full
  pub depend_again_where_full : AreAnswered (linked full_with_weak) depend_again_where_full
  pub undepend : AreAnswered (linked ((1, 3) ∷ [])) undepend
