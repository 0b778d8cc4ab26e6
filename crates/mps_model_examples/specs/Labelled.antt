-- The tag of a reference is written and read, and an object is labelled in the log.
use Rattle.std.specs.Prelude.{◌≡◌, Some, [], ◌∷◌, ◌++◌}
use Rattle.mps_base.specs.declared.moves.Move.TheVariants as moves
use Rattle.mps_base.specs.declared.refusal.Refusal.TheVariants as refusal
use Rattle.mps_model.specs.declared.call.Call.TheVariants as call
use Rattle.mps_model.specs.declared.reply.Reply.{Reply}
use Rattle.mps_model.specs.declared.reply.Reply.TheVariants as reply
use Rattle.mps_model.specs.Log.{log_in_version}
use Rattle.mps_model.specs.Replayed.{replayed}
use Rattle.mps_model.specs.Step.{Step, History}
use Rattle.mps_model.specs.History.{IsLegalHistory}
use Rattle.mps_model_examples.specs.Script.{b, d, t, x, at_index, address, step}
use Rattle.mps_model_examples.specs.OneBlock.{prelude, pair_head}
use Rattle.mps_model_examples.specs.Weak.{weak_pair, target_dropped, splatting_moves}
use Rattle.mps_model_examples.specs.WrongAnswers.{CannotFollow}

-- an object of a reference and a number, which refers to itself
abbrev pub one_pair : History
one_pair =
    prelude
    ++ step 5 (call.Reserve x pair_head) (moves.Seg (address 0x1000) 1 0 0 ∷ []) reply.Ok
    ∷ step 6 (call.Commit x (at_index t 0)) (moves.Commit (address 0x1000) 3 0 ∷ []) reply.Ok
    ∷ step 7 (call.Put (at_index t 0) 1 (at_index t 0)) [] reply.Ok
    ∷ []

-- tags are numbers modulo 8, and the reference stays
abbrev pub pair_tagged : History
pair_tagged =
    step 8 (call.Tag (at_index t 0) 1) [] (reply.Number 0)
    ∷ step 9 (call.SetTag (at_index t 0) 1 5) [] reply.Ok
    ∷ step 10 (call.Tag (at_index t 0) 1) [] (reply.Number 5)
    ∷ step 11 (call.SetTag (at_index t 0) 1 9) [] reply.Ok
    ∷ step 12 (call.Tag (at_index t 0) 1) [] (reply.Number 1)
    ∷ step 13 (call.Tag (at_index t 0) 2) [] (reply.Refused refusal.NotARef)
    ∷ step 14 (call.Get (at_index t 1) (at_index t 0) 1) [] reply.Ok
    ∷ []

abbrev pub intern_step : Reply → Step
intern_step said = step 15 (call.Intern b) [] said

abbrev pub label_step : Reply → Step
label_step said = step 17 (call.Label (at_index t 0) b) [] said

-- a label is made, and a second
abbrev pub interned : History
interned =
    intern_step (reply.Interned 0)
    ∷ step 16 (call.Intern d) [] (reply.Interned 1)
    ∷ []

abbrev pub pair_labelled : History
pair_labelled =
    label_step (reply.Labelled (address 0x1000) 0)
    ∷ step 18 (call.Label (at_index t 2) b) [] (reply.Refused refusal.NullRef)
    ∷ step 19 (call.Label (at_index t 0) t) [] (reply.Refused refusal.BadName)
    ∷ step 20 (call.Table b 1) [] (reply.Refused refusal.NameTaken)
    ∷ []

abbrev pub before_labels : History
before_labels = one_pair ++ pair_tagged

abbrev pub labelled : History
labelled = before_labels ++ (interned ++ pair_labelled)

-- the history is legal
abbrev pub LabelledIsLegal : Type 0
LabelledIsLegal = IsLegalHistory labelled

-- its log of version 2 replays to the pair and two names
abbrev pub LabelledIsReplayed : Type 0
LabelledIsReplayed =
    replayed (log_in_version 2 labelled)
    ≡ Some (record { blocks = record { at = 0x1000; words = 3; pool = 0 } ∷ []; interned = 2 })

-- ---- histories that aren't legal

-- an `intern` of another number than that of the labels before
abbrev pub wrong_intern : Step
wrong_intern = intern_step (reply.Interned 1)

-- a `label` by another number, and one at another address
abbrev pub other_label : Step
other_label = label_step (reply.Labelled (address 0x1000) 1)

abbrev pub other_place : Step
other_place = label_step (reply.Labelled (address 0x1018) 0)

abbrev pub OthersAreNoLabels : Type 0
OthersAreNoLabels =
    CannotFollow before_labels wrong_intern × CannotFollow (before_labels ++ interned) other_label
    × CannotFollow (before_labels ++ interned) other_place

-- a weak reference with the tag 3 is splatted
abbrev pub tag_splatted : History
tag_splatted =
    weak_pair ++ step 10 (call.SetTag (at_index t 1) 1 3) [] reply.Ok ∷ (target_dropped ++ step 16 call.Collect splatting_moves reply.Ok
    ∷ [])

abbrev pub tag_lost : Step
tag_lost = step 17 (call.Tag (at_index t 1) 1) [] (reply.Number 0)

-- its tag isn't lost
abbrev pub NoTagIsLost : Type 0
NoTagIsLost = CannotFollow tag_splatted tag_lost
