-- Steps of calls that make no moves: such a step is legal where its answer is the act's and what the client holds is live after it.
use Rattle.std.proofs.Common.{◌≡◌, ◌∙◌, ℕ, Bool, true, refl, sym, ap, subst, [], Option, Some, None, Ok}
use Rattle.std.specs.Prelude.{IsTrue, ◌||◌, nat_lt, is_some, option_map}
use Rattle.std.specs.List.{list_all, flat_map}
use Rattle.std.specs.Option.{option_map_or}
use Rattle.mps_model.specs.declared.call.Call.{Call}
use Rattle.mps_model.specs.declared.call.Call.TheVariants as calls
use Rattle.mps_model.specs.Answer.{Answer, is_block}
use Rattle.mps_model.specs.Step.{Step}
use Rattle.mps_model.specs.Graph.{ids_of_client, targets}
use Rattle.mps_model.specs.Collection.{Collection}
use Rattle.mps_model.specs.World.{World, is_live, live_ids, ids_in_pairs}
use Rattle.mps_model.specs.Checked.{Act, Checked}
use Rattle.mps_model.specs.LegalMove.{AreLegalMoves}
use Rattle.mps_model.specs.Reply.{act, answer_from, world_from}
use Rattle.mps_model.specs.History.{IsLegalStep, AreMovesOf, HeldAreLive, IsPossiblyMarked, judged_world, moved_world, moves_of_collector, world_after, with_client_remembered, remembering, are_held_kept, is_held_rightly, has_units_left}

-- what must hold after each call
pub record IsSound (w : World) : Type 0 where
  pub live : HeldAreLive w
  pub kept : IsTrue (are_held_kept w)
  pub units : IsTrue (has_units_left w)

-- ---- what is remembered changes none of it

module _ (w : World) where
  abbrev running_in : Option Collection → Bool
  running_in c = is_some (option_map (remembering (ids_of_client w.graph)) c)

  remembered_runs : (c : Option Collection) → running_in c ≡ is_some c
  remembered_runs None = refl
  remembered_runs (Some c) = refl

  remembered_kept : (c : Option Collection)
      → option_map_or (λ c. list_all (is_held_rightly w c) (ids_of_client w.graph))
      (option_map (remembering (ids_of_client w.graph)) c) true
      ≡ option_map_or (λ c. list_all (is_held_rightly w c) (ids_of_client w.graph)) c true
  remembered_kept None = refl
  remembered_kept (Some c) = refl

  remembered_units : (c : Option Collection)
      → option_map_or (λ (c : Collection). nat_lt c.spent c.units) (option_map (remembering (ids_of_client w.graph)) c) true
      ≡ option_map_or (λ (c : Collection). nat_lt c.spent c.units) c true
  remembered_units None = refl
  remembered_units (Some c) = refl

  pub remembered_sound : IsSound w → IsSound (with_client_remembered w)
  remembered_sound s = record {
    live = record {
      client = s.live.client;
      blocks = s.live.blocks;
      referred = ap (λ b. b || list_all (is_live w) (flat_map (targets w.graph) (live_ids w))) (remembered_runs w.collection)
          ∙ s.live.referred;
      transforms = ap (λ b. b || list_all (is_live w) (ids_in_pairs w.state)) (remembered_runs w.collection) ∙ s.live.transforms;
    };
    kept = remembered_kept w.collection ∙ s.kept;
    units = remembered_units w.collection ∙ s.units;
  }

-- ---- steps

abbrev pub quiet : (line : ℕ) → Call → Answer → Step
quiet line call answer = record { line = line; call = call; moves = []; answer = answer }

-- a call that makes no moves in a world where it is answered so. For most calls each field is `refl` or `tt`
pub record IsQuiet (w : World) (call : Call) (answer : Answer) : Type 0 where
  pub judged : judged_world w call [] ≡ w
  pub moved : moved_world w call [] ≡ w
  pub due : AreMovesOf w call answer []
  pub marked : IsPossiblyMarked w call answer

-- a legal step, and the world after it
pub record IsRight (w : World) (s : Step) (after : World) : Type 0 where
  pub legal : IsLegalStep w s
  pub world : world_after w s ≡ after

module _ (w : World) (line : ℕ) (call : Call) (answer : Answer) (q : IsQuiet w call answer) where
  same_act : act (is_block answer) (judged_world w call []) (moved_world w call []) call ≡ act (is_block answer) w w call
  same_act = ap (λ v. act (is_block answer) v (moved_world w call []) call) q.judged ∙ ap (λ v. act (is_block answer) w v call) q.moved

  after_quiet : (result : Checked Act) → act (is_block answer) w w call ≡ result
      → world_after w (quiet line call answer) ≡ with_client_remembered (world_from w result)
  after_quiet result e =
      ap (λ r. with_client_remembered (world_from (moved_world w call []) r)) (same_act ∙ e)
      ∙ ap (λ v. with_client_remembered (world_from v result)) q.moved

  -- where the act comes to this, the step is legal
  pub quiet_step : (result : Checked Act) → act (is_block answer) w w call ≡ result → answer ≡ answer_from result
      → IsSound (world_from w result)
      → IsRight w (quiet line call answer) (with_client_remembered (world_from w result))
  quiet_step result e answers sound =
      let after = after_quiet result e in
      let remembered = remembered_sound (world_from w result) sound in
      record {
        legal = record {
          moves_are_legal = none_is_legal call;
          moves_are_due = q.due;
          answer_is_due = answers ∙ ap answer_from (sym (same_act ∙ e));
          marked_may_survive = q.marked;
          held_are_live = subst HeldAreLive (sym after) remembered.live;
          held_are_kept = subst (λ (v : World). are_held_kept v ≡ true) (sym after) remembered.kept;
          units_are_left = subst (λ (v : World). has_units_left v ≡ true) (sym after) remembered.units;
        };
        world = after;
      }
    where
      none_is_legal : (c : Call) → AreLegalMoves w None (moves_of_collector c [])
      none_is_legal (calls.Reserve point head) = tt
      none_is_legal (calls.Commit point target) = tt
      none_is_legal (calls.Alloc pool words place) = tt
      none_is_legal (calls.Free place) = tt
      none_is_legal (calls.CacheAlloc cache words place) = tt
      none_is_legal (calls.CacheFree cache place) = tt
      none_is_legal (calls.CacheFlush cache) = tt
      none_is_legal (calls.Pop pool frame) = tt
      none_is_legal _ = tt

  -- an accepted call
  pub accepted_step : (after : World) → act (is_block answer) w w call ≡ Ok (record { answer = answer; world = after }) → IsSound after
      → IsRight w (quiet line call answer) (with_client_remembered after)
  accepted_step after e sound = quiet_step (Ok (record { answer = answer; world = after })) e refl sound
