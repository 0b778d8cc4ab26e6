-- What an object refers to that a collection is known to keep isn't lost: no reference to it is splatted, no message posted for
-- it, and it isn't freed.
use Rattle.std.specs.Prelude.{ℕ, List, [], ◌∷◌, ◌++◌}
use Rattle.mps_base.specs.declared.moves.Move.{Move}
use Rattle.mps_base.specs.declared.moves.Move.TheVariants as moves
use Rattle.mps_base.specs.declared.names.Kind.TheVariants as kind
use Rattle.mps_base.specs.declared.names.Rank.TheVariants as rank
use Rattle.mps_model.specs.declared.call.Call.TheVariants as call
use Rattle.mps_model.specs.declared.reply.Reply.TheVariants as reply
use Rattle.mps_model.specs.Step.{Step, History}
use Rattle.mps_model.specs.History.{IsLegalHistory}
use Rattle.mps_model_examples.specs.Script.{a, p, q, t, v, w, x, y, at_index, address, zones, step}
use Rattle.mps_model_examples.specs.WrongAnswers.{CannotFollow}

-- of two steps after a history, the one is refused and the other legal
pub record IsTwin (history : History) (wrong right : Step) : Type 0 where
  pub refused : CannotFollow history wrong
  pub legal : IsLegalHistory (history ++ right ∷ [])

-- ---- a block and a weak object that refers to it

-- the head of a block of two words, the second of which is a reference
abbrev pub link_head : ℕ
link_head = 0x100000201

-- a marked block at 0x1000 in slot 0, and a weak object at 0x2000 in slot 1 that refers to it
abbrev pub weakly_linked : History
weakly_linked =
    step 1 (call.Arena 8 8) [] reply.Ok
    ∷ step 2 (call.Table t 3) [] reply.Ok
    ∷ step 3 (call.Pool p kind.Ams 1) [] reply.Ok
    ∷ step 4 (call.Point x p rank.Exact) [] reply.Ok
    ∷ step 5 (call.Reserve x 0x201) (moves.Seg (address 0x1000) 1 0 0 ∷ []) reply.Ok
    ∷ step 6 (call.Commit x (at_index t 0)) (moves.Commit (address 0x1000) 2 0 ∷ []) reply.Ok
    ∷ step 7 (call.Pool w kind.Awl 1) [] reply.Ok
    ∷ step 8 (call.Point y w rank.Weak) [] reply.Ok
    ∷ step 9 (call.Reserve y link_head) (moves.Seg (address 0x2000) 1 1 0 ∷ []) reply.Ok
    ∷ step 10 (call.InitReference y 1 (at_index t 0)) [] reply.Ok
    ∷ step 11 (call.Commit y (at_index t 1)) (moves.Commit (address 0x2000) 2 1 ∷ []) reply.Ok
    ∷ []

-- ---- a third object that is kept, and refers to the block too

-- a copied object at 0x3000 refers to the block, and no slot holds it; the number in the area lies in it
abbrev pub pinned_link : History
pinned_link =
    step 12 (call.Area a 1) [] reply.Ok
    ∷ step 13 (call.Poke (at_index a 0) 0x3000) [] reply.Plain
    ∷ step 14 (call.Pool q kind.Amc 1) [] reply.Ok
    ∷ step 15 (call.Point v q rank.Exact) [] reply.Ok
    ∷ step 16 (call.Reserve v link_head) (moves.Seg (address 0x3000) 1 2 0 ∷ []) reply.Ok
    ∷ step 17 (call.InitReference v 1 (at_index t 0)) [] reply.Ok
    ∷ step 18 (call.Commit v (at_index t 2)) (moves.Commit (address 0x3000) 2 2 ∷ []) reply.Ok
    ∷ step 19 (call.Clear (at_index t 2)) [] reply.Ok
    ∷ []

-- the block leaves its slot
abbrev pub drop_block : (line : ℕ) → Step
drop_block line = step line (call.Clear (at_index t 0)) [] reply.Ok

abbrev pub dropped : History
dropped = (weakly_linked ++ pinned_link) ++ drop_block 20 ∷ []

-- ---- no splat

-- a collection after its flip; the copied object lies in zone 3
abbrev pub collect_linked : (line : ℕ) → List Move → Step
collect_linked line made = step line call.Collect (moves.Flip (zones 8) 16 0 ∷ made) reply.Ok

abbrev pub splatted_anyway : Step
splatted_anyway = collect_linked 21 (moves.Splat (address 0x2000) 1 ∷ moves.End ∷ [])

abbrev pub all_kept : (line : ℕ) → Step
all_kept line = collect_linked line (moves.End ∷ [])

-- the weak reference is splatted, and it isn't
abbrev pub SplatOfKeptTarget : Type 0
SplatOfKeptTarget = IsTwin dropped splatted_anyway (all_kept 21)

-- ---- no message

abbrev pub registered : History
registered = (weakly_linked ++ pinned_link) ++ step 20 (call.Finalize (at_index t 0)) [] reply.Ok ∷ drop_block 21 ∷ []

abbrev pub posted_anyway : Step
posted_anyway = collect_linked 22 (moves.Post (address 0x1000) ∷ moves.End ∷ [])

-- a message is posted, and none is
abbrev pub PostOfKeptTarget : Type 0
PostOfKeptTarget = IsTwin registered posted_anyway (all_kept 22)

-- ---- no free

abbrev pub begun : History
begun = dropped ++ step 21 call.Start (moves.Flip (zones 8) 16 0 ∷ []) reply.Ok ∷ []

abbrev pub freed_anyway : Step
freed_anyway = step 22 (call.Step 1) (moves.Free (address 0x1000) ∷ moves.Unseg (address 0x1000) ∷ []) reply.More

abbrev pub nothing_freed : Step
nothing_freed = step 22 (call.Step 100) (moves.End ∷ []) reply.Idle

-- a unit frees the block, and all units free nothing
abbrev pub FreeOfKeptTarget : Type 0
FreeOfKeptTarget = IsTwin begun freed_anyway nothing_freed
