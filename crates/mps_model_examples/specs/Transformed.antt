-- References to one object are replaced by references to another, while the arena is parked.
use Rattle.std.specs.Prelude.{[], ◌∷◌, ◌++◌}
use Rattle.mps_base.specs.declared.moves.Move.TheVariants as moves
use Rattle.mps_base.specs.declared.names.Kind.TheVariants as kind
use Rattle.mps_base.specs.declared.names.Rank.TheVariants as rank
use Rattle.mps_base.specs.declared.names.Name.{Name}
use Rattle.mps_base.specs.declared.refusal.Refusal.TheVariants as refusal
use Rattle.mps_model.specs.declared.call.Call.TheVariants as call
use Rattle.mps_model.specs.declared.reply.Reply.TheVariants as reply
use Rattle.mps_model.specs.Step.{Step, History}
use Rattle.mps_model.specs.History.{IsLegalHistory}
use Rattle.mps_model_examples.specs.Script.{a, p, t, x, name_of_letter, at_index, address, step}
use Rattle.mps_model_examples.specs.WrongAnswers.{CannotFollow}

abbrev z : Name
z = name_of_letter 122

-- three objects of a marking pool in the slots 0 to 2; the first refers to the second, with the tag 5, and the third has a 9
abbrev pub three_objects : History
three_objects =
    step 1 (call.Arena 8 8) [] reply.Ok
    ∷ step 2 (call.Table t 4) [] reply.Ok
    ∷ step 3 (call.Area a 1) [] reply.Ok
    ∷ step 4 (call.Pool p kind.Ams 1) [] reply.Ok
    ∷ step 5 (call.Point x p rank.Exact) [] reply.Ok
    ∷ step 6 (call.Reserve x 0x100000201) (moves.Seg (address 0x1000) 1 0 0 ∷ []) reply.Ok
    ∷ step 7 (call.Commit x (at_index t 0)) (moves.Commit (address 0x1000) 2 0 ∷ []) reply.Ok
    ∷ step 8 (call.Reserve x 0x201) [] reply.Ok
    ∷ step 9 (call.Commit x (at_index t 1)) (moves.Commit (address 0x1010) 2 0 ∷ []) reply.Ok
    ∷ step 10 (call.Reserve x 0x201) [] reply.Ok
    ∷ step 11 (call.Commit x (at_index t 2)) (moves.Commit (address 0x1020) 2 0 ∷ []) reply.Ok
    ∷ step 12 (call.Put (at_index t 0) 1 (at_index t 1)) [] reply.Ok
    ∷ step 13 (call.SetTag (at_index t 0) 1 5) [] reply.Ok
    ∷ step 14 (call.SetNumber (at_index t 2) 1 9) [] reply.Ok
    ∷ step 15 (call.Transform z) [] reply.Ok
    ∷ []

abbrev pub add_pair : Step
add_pair = step 17 (call.TransformAdd z (at_index t 1) (at_index t 2)) [] reply.Ok

-- a pair only in a parked arena, and one for each old object. A `clamp` empties the transform, and a `park` does not
abbrev pub one_pair : History
one_pair =
    step 16 (call.TransformAdd z (at_index t 1) (at_index t 2)) [] (reply.Refused refusal.NotParked)
    ∷ step 16 call.Park [] reply.Ok
    ∷ add_pair
    ∷ step 18 (call.TransformAdd z (at_index t 1) (at_index t 0)) [] (reply.Refused refusal.OldTwice)
    ∷ step 19 call.Clamp [] reply.Ok
    ∷ step 20 call.Park [] reply.Ok
    ∷ step 21 (call.TransformAdd z (at_index t 1) (at_index t 2)) [] reply.Ok
    ∷ step 22 call.Park [] reply.Ok
    ∷ []

abbrev pub pin_old : Step
pin_old = step 23 (call.Pin (at_index a 0) (at_index t 1)) [] reply.Ok

-- a word in the old object blocks it. Then the slot and the reference refer to the third object, and the tag stays
abbrev pub replaced : History
replaced =
    pin_old
    ∷ step 24 (call.TransformApply z) [] reply.No
    ∷ step 25 (call.Poke (at_index a 0) 0) [] reply.Plain
    ∷ step 26 (call.TransformApply z) [] reply.Yes
    ∷ step 27 (call.Get (at_index t 3) (at_index t 0) 1) [] reply.Ok
    ∷ step 28 (call.Number (at_index t 3) 1) [] (reply.Number 9)
    ∷ step 29 (call.Tag (at_index t 0) 1) [] (reply.Number 5)
    ∷ step 30 (call.Same (at_index t 1) (at_index t 2)) [] reply.Yes
    ∷ step 31 (call.TransformApply z) [] (reply.Refused refusal.BadName)
    ∷ step 32 (call.Transform z) [] reply.Ok
    ∷ step 33 (call.TransformDrop z) [] reply.Ok
    ∷ []

abbrev pub transformed : History
transformed = three_objects ++ (one_pair ++ replaced)

-- the history is legal
abbrev pub TransformedIsLegal : Type 0
TransformedIsLegal = IsLegalHistory transformed

-- ---- histories that aren't legal

abbrev pub apply_pinned : Step
apply_pinned = step 24 (call.TransformApply z) [] reply.Yes

-- a transform isn't applied while an area word lies in an old object
abbrev pub NoPinnedObjectIsReplaced : Type 0
NoPinnedObjectIsReplaced = CannotFollow (three_objects ++ (one_pair ++ pin_old ∷ [])) apply_pinned

-- parked once more after a `clamp`
abbrev pub clamped : History
clamped =
    step 16 call.Park [] reply.Ok
    ∷ add_pair
    ∷ step 19 call.Clamp [] reply.Ok
    ∷ step 20 call.Park [] reply.Ok
    ∷ []

abbrev pub add_again : Step
add_again = step 21 (call.TransformAdd z (at_index t 1) (at_index t 2)) [] (reply.Refused refusal.OldTwice)

-- no pair is left by a `clamp`
abbrev pub NoPairIsLeft : Type 0
NoPairIsLeft = CannotFollow (three_objects ++ clamped) add_again

-- the second object is replaced by the third, and the third by the first
abbrev pub two_pairs : History
two_pairs =
    step 16 call.Park [] reply.Ok
    ∷ add_pair
    ∷ step 18 (call.TransformAdd z (at_index t 2) (at_index t 0)) [] reply.Ok
    ∷ step 19 (call.TransformApply z) [] reply.Yes
    ∷ []

abbrev pub replaced_twice : Step
replaced_twice = step 20 (call.Same (at_index t 1) (at_index t 0)) [] reply.Yes

-- the second object isn't replaced by the first
abbrev pub NoPairFollowsAnother : Type 0
NoPairFollowsAnother = CannotFollow (three_objects ++ two_pairs) replaced_twice
