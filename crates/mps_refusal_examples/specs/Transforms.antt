-- The commands on transforms: their refusals in order, in an arena that is parked and in one that isn't.
use Rattle.std.specs.Prelude.{ℕ, Bool, true, false, codes, None, List, [], ◌∷◌, ◌++◌, replicate}
use Rattle.mps_base.specs.Address.{Id}
use Rattle.mps_base.specs.declared.names.Name.{Name}
use Rattle.mps_base.specs.declared.refusal.Refusal.TheVariants as refusal
use Rattle.mps_model.specs.declared.call.Call.TheVariants as call
use Rattle.mps_model.specs.declared.reply.Reply.TheVariants as reply
use Rattle.mps_model.specs.Graph.{TransformThing}
use Rattle.mps_model.specs.World.{World, ArenaState, Unclamped, Clamped, Parked, TransformPair}
use Rattle.mps_refusal_examples.specs.Row.{Row, refuses, replies, AreAnswered}
use Rattle.mps_refusal_examples.specs.SmallWorld.{name, unknown, a_table, pair_slot, null_slot, weak_slot, slot_past, no_slot, called, things, exact_point, reserved_pair, small}

-- the transform 0
abbrev pub a_transform : Name
a_transform = name (codes "transform")

-- the small world with these transforms, in this state
abbrev pub with_transforms : List Bool → ArenaState → World
with_transforms transforms state = record small {
  graph = record small.graph { names = things ++ called a_transform (TransformThing 0) ∷ []; transforms = transforms };
  state = state;
}

-- the same with one transform, where no reservation is live
abbrev pub without_reservation : ArenaState → World
without_reservation state = record small {
  graph = record small.graph {
    names = things ++ called a_transform (TransformThing 0) ∷ [];
    transforms = true ∷ [];
    points = exact_point 0 None ∷ exact_point 0 (reserved_pair true) ∷ [];
  };
  state = state;
}

-- a pair of a transform; object 0 is the pair, in which an area word lies, and object 1 the weak object
abbrev pub replace : (transform : ℕ) → (old new : Id) → TransformPair
replace transform old new = record { transform = transform; old = old; new = new }

-- n pairs of another transform
abbrev pub others : (count : ℕ) → List TransformPair
others count = replicate count (replace 1 0 1)

-- ---- making

abbrev pub making : List Row
making =
    refuses (call.Transform a_table) refusal.NameTaken
    ∷ refuses (call.Transform a_transform) refusal.NameTaken
    ∷ replies (call.Transform unknown) reply.Ok
    ∷ []

abbrev pub making_where_full : List Row
making_where_full =
    refuses (call.Transform a_table) refusal.NameTaken
    ∷ refuses (call.Transform unknown) (refusal.TooMany 16)
    ∷ []

-- ---- adding

-- where the arena isn't parked
abbrev pub adding : List Row
adding =
    refuses (call.TransformAdd unknown slot_past slot_past) refusal.BadName
    ∷ refuses (call.TransformAdd a_table slot_past slot_past) refusal.BadName
    ∷ refuses (call.TransformAdd a_transform slot_past no_slot) refusal.BadIndex
    ∷ refuses (call.TransformAdd a_transform no_slot slot_past) refusal.BadName
    ∷ refuses (call.TransformAdd a_transform null_slot no_slot) refusal.BadName
    ∷ refuses (call.TransformAdd a_transform null_slot slot_past) refusal.BadIndex
    ∷ refuses (call.TransformAdd a_transform null_slot pair_slot) refusal.NullRef
    ∷ refuses (call.TransformAdd a_transform pair_slot null_slot) refusal.NullRef
    ∷ refuses (call.TransformAdd a_transform pair_slot weak_slot) refusal.NotParked
    ∷ []

-- where there is room for no pair more, and one is of the transform and object 0
abbrev pub adding_where_full : List Row
adding_where_full =
    refuses (call.TransformAdd a_transform null_slot pair_slot) refusal.NullRef
    ∷ refuses (call.TransformAdd a_transform pair_slot weak_slot) refusal.OldTwice
    ∷ refuses (call.TransformAdd a_transform weak_slot pair_slot) (refusal.TooMany 4096)
    ∷ []

-- another transform may have the same old object, and an object may be replaced by itself
abbrev pub adding_where_parked : List Row
adding_where_parked =
    replies (call.TransformAdd a_transform pair_slot weak_slot) reply.Ok
    ∷ replies (call.TransformAdd a_transform pair_slot pair_slot) reply.Ok
    ∷ []

-- ---- applying

-- where the arena isn't parked, and a reservation is live
abbrev pub applying : List Row
applying =
    refuses (call.TransformApply unknown) refusal.BadName
    ∷ refuses (call.TransformApply a_table) refusal.BadName
    ∷ refuses (call.TransformApply a_transform) refusal.NotParked
    ∷ []

-- where it is parked, a reservation is live, and an area word lies in an old object
abbrev pub applying_where_open : List Row
applying_where_open =
    refuses (call.TransformApply unknown) refusal.BadName
    ∷ refuses (call.TransformApply a_transform) refusal.Open
    ∷ []

abbrev pub applying_where_blocked : List Row
applying_where_blocked =
    replies (call.TransformApply a_transform) reply.No
    ∷ []

abbrev pub applying_where_parked : List Row
applying_where_parked =
    replies (call.TransformApply a_transform) reply.Yes
    ∷ []

-- ---- dropping

abbrev pub dropping : List Row
dropping =
    refuses (call.TransformDrop unknown) refusal.BadName
    ∷ refuses (call.TransformDrop a_table) refusal.BadName
    ∷ replies (call.TransformDrop a_transform) reply.Ok
    ∷ []

pub record TransformsAnswer : Type 0 where
  pub make : AreAnswered (with_transforms (replicate 15 true) Unclamped) making
  -- one that was dropped doesn't count
  pub make_where_one_is_left : AreAnswered (with_transforms (false ∷ replicate 15 true) Unclamped) making
  pub make_where_full : AreAnswered (with_transforms (replicate 16 true) Unclamped) making_where_full
  pub add : AreAnswered (with_transforms (true ∷ []) Unclamped) adding
  pub add_where_clamped : AreAnswered (with_transforms (true ∷ []) Clamped) adding
  pub add_where_full : AreAnswered (with_transforms (true ∷ []) (Parked (replace 0 0 1 ∷ others 4095))) adding_where_full
  pub add_where_parked : AreAnswered (with_transforms (true ∷ []) (Parked (others 4095))) adding_where_parked
  pub apply : AreAnswered (with_transforms (true ∷ []) Unclamped) applying
  pub apply_where_open : AreAnswered (with_transforms (true ∷ []) (Parked (replace 0 0 1 ∷ []))) applying_where_open
  pub apply_where_blocked : AreAnswered (without_reservation (Parked (replace 0 0 1 ∷ []))) applying_where_blocked
  pub apply_where_parked : AreAnswered (without_reservation (Parked (replace 0 1 0 ∷ []))) applying_where_parked
  -- an area word in an object of another transform doesn't count
  pub apply_without_pairs : AreAnswered (without_reservation (Parked (others 1))) applying_where_parked
  pub drop : AreAnswered (with_transforms (true ∷ []) Unclamped) dropping
