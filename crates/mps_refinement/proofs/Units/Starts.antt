-- A `start` of a heap at rest, of everything or of the generations of a chain, can be done and is right: it is the flip alone, after which
-- the collection runs, or has ended if nothing is condemned. It keeps the room of its trail. A refused one changes nothing.
use Rattle.std.proofs.Common.{◌≡◌, ◌∙◌, ℕ, zero, suc, arith, ◌∷◌, Some, ◌<◌, ◌≤◌, true, false, refl, sym, ap, subst, List, [], length, None, Ok, Err, is_some, Option}
use Rattle.std.proofs.lemmas.List.{append-nil}
use Rattle.std.proofs.lemmas.Option.{none-some}
use Rattle.std.specs.Prelude.{IfOk, nat_le, option_map, slice_get}
use Rattle.mps_base.specs.Trail.{Moves}
use Rattle.mps_base.specs.declared.names.Name.{Name}
use Rattle.mps_base.specs.declared.refusal.Refusal.{Refusal}
use Rattle.mps_base.specs.declared.refusal.Refusal.TheVariants as refusal
use Rattle.mps_buffer.specs.Points.{WereMadeBefore}
use Rattle.mps_format.specs.Layout.{Layout}
use Rattle.mps_laws.proofs.Same.{Same, fits}
use Rattle.mps_laws.proofs.SameArena.{moved_alone}
use Rattle.mps_laws.proofs.Same as same
use Rattle.mps_model.specs.declared.call.Call.{Call}
use Rattle.mps_model.specs.declared.call.Call.TheVariants as call
use Rattle.mps_model.specs.declared.reply.Reply.TheVariants as reply
use Rattle.mps_model.specs.Answer.{Answer, Replied, is_block, refused}
use Rattle.mps_model.specs.Checked.{Act, Checked, Numbered, ◌>>=◌, ◌>>◌, done, refuse_when}
use Rattle.mps_model.specs.Checked as model
use Rattle.mps_model.specs.Collecting.{with_state}
use Rattle.mps_model.specs.Effect.{Condemnation, Everything, Generations, world_after_moves}
use Rattle.mps_model.specs.Flip.{flip_act}
use Rattle.mps_model.specs.History.{AreMovesOf, IsPossiblyMarked, flip_act_of_chain, judged_world, moved_world, moves_of_collector}
use Rattle.mps_model.specs.LegalMove.{AreLegalMoves}
use Rattle.mps_model.specs.Reply.{act}
use Rattle.mps_model.specs.World.{World, Unclamped, is_running, is_live}
use Rattle.mps_model.proofs.AtRest.{is_running-none}
use Rattle.mps_abstract.specs.ClientLaws.{position_taken}
use Rattle.mps_abstract.specs.FlipLaws.{IsNumbered}
use Rattle.mps_pools.specs.Pools.{trace_of}
use Rattle.mps_refinement.proofs.Collect.LiveIsFew.{most_now}
use Rattle.mps_trace.specs.declared.condemn.Condemn.{Condemn}
use Rattle.mps_trace.specs.declared.condemn.Condemn.TheVariants as condemn
use Rattle.mps_trace_laws.specs.Begin.Condemning.{MayCondemn}
use Rattle.mps_trace_laws.specs.Flip.Condemned.{condemnation}
use Rattle.mps_heap_spec.specs.Collecting.{CanStart, IsStarted, Starts, check_start, check_start_chain, most_flips}
use Rattle.mps_heap_spec.specs.Finding.{chain_named}
use Rattle.mps_heap_spec.specs.State.{HeapState}
use Rattle.mps_heap_spec.specs.Units.{IsWhole}
use Rattle.mps_heap_spec.specs.declared.found.Kept.{Kept}
use Rattle.mps_refinement.specs.Answering.{answer_to, says_ok}
use Rattle.mps_refinement.specs.RightMoving.{IsRightMoving, IsRightMovingIn, KeepsRoom}
use Rattle.mps_refinement.specs.RightStep.{IsRightIn, is_of_client, step_of}
use Rattle.mps_refinement.specs.Following.{unpaired}
use Rattle.mps_refinement.specs.StandsFor.{IsInTime, IsReached, StandsFor, collector_of, rests, runs}
use Rattle.mps_refinement.proofs.Collect.BeforeAFlip.{is_before}
use Rattle.mps_refinement.proofs.Collect.CanCollect.{can_condemn}
use Rattle.mps_refinement.proofs.Collect.CollectRight.{IsBefore}
use Rattle.mps_refinement.proofs.Collect.MayCondemn.{chain_numbered, may_condemn}
use Rattle.mps_refinement.proofs.Following.WithoutPairs.{alone, parts_alone, started_without}
use Rattle.mps_refinement.proofs.Lookups.Lookups.{IsChainFound, chain_same}
use Rattle.mps_trace.specs.declared.running.Running.{Running as RunningState}
use Rattle.mps_refinement.proofs.Units.Flips.{IsFlipped, flip_is_right, flip_paired}
use Rattle.mps_refinement.proofs.Units.MadeSteps.{made_step_is_right}
use Rattle.mps_refinement.proofs.Units.Outcomes.{right_in_each}
use Rattle.mps_refinement.proofs.Worlds.LikeReached.{bare_of, like_reached}
use Rattle.mps_refinement.proofs.Worlds.Reached.{reached_live}
use Rattle.mps_refinement.proofs.Worlds.Ready.{all_reserved}
use Rattle.mps_refinement.proofs.Worlds.RunningNow.{known_bare, resting_now, rests_bare}
use Rattle.mps_refinement.proofs.Worlds.Steps.{refusal_is_right}
use Rattle.mps_changes.specs.Change.{makes_arena}
use Rattle.std.proofs.lemmas.Bool.{true≢false}
use Rattle.std.specs.List.{list_all}
use Rattle.mps_model.specs.Graph.{ids_in_blocks}

abbrev ok : Answer
ok = Replied reply.Ok

-- ---- the calls

-- a call that flips this, if no collection runs
pub record IsStartOf (w : World) (c : Call) (what : Condemnation) : Type 0 where
  pub arena : makes_arena c ≡ false
  pub collector : is_of_client c ≡ false
  pub not_taken : (v : World) → position_taken v c ≡ Err refusal.NotRegistered
  pub all_collectors : moves_of_collector c (flip_act w what) ≡ flip_act w what
  pub due : AreMovesOf w c ok (flip_act w what)
  pub possible : IsPossiblyMarked w c ok
  pub comes : is_running w ≡ false → act (is_block ok) (judged_world w c (flip_act w what)) (moved_world w c (flip_act w what)) c
      ≡ done (with_state (world_after_moves w (flip_act w what)) Unclamped)

-- one that is refused so
pub record IsRefused (w : World) (c : Call) (why : Refusal) : Type 0 where
  pub arena : makes_arena c ≡ false
  pub collector : is_of_client c ≡ false
  pub not_taken : (v : World) → position_taken v c ≡ Err refusal.NotRegistered
  pub no_moves : moves_of_collector c [] ≡ []
  pub due : AreMovesOf w c (refused why) []
  pub possible : IsPossiblyMarked w c (refused why)
  pub still : moved_world w c [] ≡ w
  pub comes : act (is_block (refused why)) (judged_world w c []) (moved_world w c []) c ≡ Err why

-- what the checks of a `start` of a heap come to is what they come to in the world
pub data AreChecked {F : Type 0} (h : HeapState F) (w : World) (c : Call) : Checked Condemn → Type 0 where
  accepted : {what : Condemn} → h.running ≡ None → IsNumbered (condemnation what) → IsStartOf w c (condemnation what)
      → AreChecked h w c (Ok what)
  not_accepted : {why : Refusal} → IsRefused w c why → AreChecked h w c (Err why)

-- in either a collector works
collects : {F : Type 0} {h : HeapState F} {w : World} {c : Call} {checked : Checked Condemn} → AreChecked h w c checked
    → is_of_client c ≡ false
collects (accepted none numbered is) = is.collector
collects (not_accepted is) = is.collector

start_of_everything : (w : World) → IsStartOf w call.Start Everything
start_of_everything w = record {
  arena = refl;
  collector = refl;
  not_taken = λ v. refl;
  all_collectors = refl;
  due = refl;
  possible = tt;
  comes = λ rests.
      ap (λ b. refuse_when b refusal.Running >> done (with_state (world_after_moves w (flip_act w Everything)) Unclamped)) rests;
}

start_is_refused : (w : World) → is_running w ≡ true → IsRefused w call.Start refusal.Running
start_is_refused w there = record {
  arena = refl;
  collector = refl;
  not_taken = λ v. refl;
  no_moves = refl;
  due = refl;
  possible = tt;
  still = refl;
  comes = ap (λ b. refuse_when b refusal.Running >> done (with_state w Unclamped)) there;
}

module _ (w : World) (chain : Name) (oldest : ℕ) where
  -- the act of the call, from the chain that it finds
  abbrev act_from : (u : World) → Numbered (List ℕ) → Checked Act
  act_from u on =
      refuse_when (nat_le (length on.value) oldest) refusal.BadIndex
      >> (refuse_when (is_running w) refusal.Running >> done (with_state u Unclamped))

  start_of_generations : (on : Numbered (List ℕ)) → model.chain_named w chain ≡ Ok on → nat_le (length on.value) oldest ≡ false
      → IsStartOf w (call.StartChain chain oldest) (Generations on.number oldest)
  start_of_generations on found has =
      let u = world_after_moves w (flip_act w (Generations on.number oldest)) in
      record {
        arena = refl;
        collector = refl;
        not_taken = λ v. refl;
        all_collectors = refl;
        due = sym (ap (λ x. flip_act_of_chain w x oldest) found);
        possible = tt;
        comes = λ rests.
            ap (λ x. x >>= act_from u) found
            ∙ ap (λ b. refuse_when b refusal.BadIndex >> (refuse_when (is_running w) refusal.Running >> done (with_state u Unclamped))) has
            ∙ ap (λ b. refuse_when b refusal.Running >> done (with_state u Unclamped)) rests;
      }

  start_chain_is_refused : (why : Refusal) → (model.chain_named w chain >>= act_from w) ≡ Err why
      → IsRefused w (call.StartChain chain oldest) why
  start_chain_is_refused why comes = record {
    arena = refl;
    collector = refl;
    not_taken = λ v. refl;
    no_moves = refl;
    due = refl;
    possible = tt;
    still = refl;
    comes = comes;
  }

-- ---- what their checks come to

listed_within : (xs : List (List ℕ)) (i n : ℕ) → option_map (λ (capacities : List ℕ). length capacities) (slice_get xs i) ≡ Some n
    → i < length xs
listed_within [] i n e = absurd (none-some n e)
listed_within (x ∷ xs) zero n e = omega arith
listed_within (x ∷ xs) (suc i) n e = let less = listed_within xs i n e in omega (arith, less)

module _ {F : Type 0} (layout : F → Layout) (h : HeapState F) (whole : IsWhole h) (w : World) (st : StandsFor layout h w) where
  running_alike : is_some h.running ≡ is_running w
  running_alike = of_time st.time
    where
      of_time : IsInTime st.past.time (collector_of h) w → is_some h.running ≡ is_running w
      of_time (rests rest) = ap is_some rest.not_running ∙ sym (ap is_some rest.none)
      of_time (runs x r) =
          ap is_some r.running ∙ sym (ap is_some (ap (λ (v : World). v.collection) (sym r.world) ∙ r.invariant.runs))

  none_runs : is_some h.running ≡ false → h.running ≡ None
  none_runs isnt = of_running h.running isnt
    where
      of_running : (o : Option RunningState) → is_some o ≡ false → o ≡ None
      of_running None e = refl
      of_running (Some r) e = absurd (true≢false e)

  pub start_checked : AreChecked h w call.Start (check_start h)
  start_checked =
      elim (is_some h.running) as (λ b. is_some h.running ≡ b
      → AreChecked h w call.Start (refuse_when b refusal.Running >> Ok condemn.Everything)) [
        | true ↦ (λ is. not_accepted (start_is_refused w (sym running_alike ∙ is)))
        | false ↦ (λ isnt. accepted (none_runs isnt) refl (start_of_everything w))
      ] refl

  module _ (chain : Name) (oldest : ℕ) where
    -- what follows the look-up of the chain
    abbrev then : Kept ℕ → Checked Condemn
    then on =
        refuse_when (nat_le on.value oldest) refusal.BadIndex
        >> (refuse_when (is_some h.running) refusal.Running >> Ok (condemn.Generations on.key oldest))

    there : (k : Kept ℕ) (n : Numbered (List ℕ)) → IsChainFound h w k n → model.chain_named w chain ≡ Ok n
        → AreChecked h w (call.StartChain chain oldest) (then k)
    there k n is found =
        let same_count : nat_le (length n.value) oldest ≡ nat_le k.value oldest = sym (ap (λ c. nat_le c oldest) is.fit) in
        elim (nat_le k.value oldest) as (λ b. nat_le k.value oldest ≡ b → AreChecked h w (call.StartChain chain oldest)
        (refuse_when b refusal.BadIndex
        >> (refuse_when (is_some h.running) refusal.Running >> Ok (condemn.Generations k.key oldest)))) [
          | true ↦ (λ past. not_accepted (start_chain_is_refused w chain oldest refusal.BadIndex
              (ap (λ x. x >>= act_from w chain oldest w) found
              ∙ ap (λ b. refuse_when b refusal.BadIndex
              >> (refuse_when (is_running w) refusal.Running >> done (with_state w Unclamped))) (same_count ∙ past))))
          | false ↦ (λ has. elim (is_some h.running) as (λ b. is_some h.running ≡ b → AreChecked h w (call.StartChain chain oldest)
              (refuse_when b refusal.Running >> Ok (condemn.Generations k.key oldest))) [
                | true ↦ (λ runs_now. not_accepted (start_chain_is_refused w chain oldest refusal.Running
                    (ap (λ x. x >>= act_from w chain oldest w) found
                    ∙ ap (λ b. refuse_when b refusal.BadIndex
                    >> (refuse_when (is_running w) refusal.Running >> done (with_state w Unclamped))) (same_count ∙ has)
                    ∙ ap (λ b. refuse_when b refusal.Running >> done (with_state w Unclamped)) (sym running_alike ∙ runs_now))))
                | false ↦ (λ isnt. accepted (none_runs isnt)
                    (chain_numbered k.key oldest
                    (let within = listed_within h.chains.chains k.key k.value is.kept in
                    let few = whole.few_chains in
                    omega (arith, within, few)))
                    (subst (λ (c : ℕ). IsStartOf w (call.StartChain chain oldest) (Generations c oldest)) is.number
                    (start_of_generations w chain oldest n found (same_count ∙ has))))
              ] refl)
        ] refl

    of_chain : (x : Checked (Kept ℕ)) (y : Checked (Numbered (List ℕ))) → model.chain_named w chain ≡ y → Same (IsChainFound h w) x y
        → AreChecked h w (call.StartChain chain oldest) (x >>= then)
    of_chain _ _ found (fits {a} {b} is) = there a b is found
    of_chain _ _ found (same.refused {why}) =
        not_accepted (start_chain_is_refused w chain oldest why (ap (λ x. x >>= act_from w chain oldest w) found))

    pub start_chain_checked : AreChecked h w (call.StartChain chain oldest) (check_start_chain h chain oldest)
    start_chain_checked =
        of_chain (chain_named h chain) (model.chain_named w chain) refl (chain_same layout st.past h w st.parts chain)

-- ---- the steps

module _ (w : World) (reach : IsReached w) (c : Call) (line : ℕ) where
  -- that of an accepted one
  pub flip_step_is_right : {F : Type 0} (layout : F → Layout) (what : Condemnation) (m : Moves) (h' : HeapState F) (m' : Moves)
      → is_running w ≡ false → IsStartOf w c what → IsFlipped layout w what m h' m'
      → IsRightIn layout w (step_of line c (flip_act w what) ok) h'
  flip_step_is_right layout what m h' m' none starts flipped =
      made_step_is_right layout w reach line c (flip_act w what) ok (with_state (world_after_moves w (flip_act w what)) Unclamped) (record {
        arena = starts.arena;
        collectors = starts.all_collectors;
        due = starts.due;
        possible = starts.possible;
        comes = starts.comes none;
        not_taken = starts.not_taken;
        formats = (moved_alone w call.Park (flip_act w what)).formats;
      }) flipped.time h' flipped.made

  -- and that of a refused one
  pub refused_step_is_right : {F : Type 0} (layout : F → Layout) (h : HeapState F) (st : StandsFor layout h w) (why : Refusal)
      → IsRefused w c why
      → IsRightIn layout w (step_of line c [] (refused why)) h
  refused_step_is_right layout h st why is =
      refusal_is_right layout st.past h w line c why is.arena reach st.parts st.time (record {
        legal = subst (AreLegalMoves w None) (sym is.no_moves) tt;
        due = is.due;
        possible = is.possible;
        comes = is.comes;
        answers = refl;
        blocks_after =
            subst (λ (u : World). list_all (is_live u) (ids_in_blocks u.graph) ≡ true) (sym is.still) (reached_live w reach).blocks;
      }) is.still is.not_taken

-- ---- the calls of a heap

-- what a `start` is in a world, by a heap that is this one then, with a trail that is this one
pub record IsRightStartIn {F : Type 0} (layout : F → Layout) (w : World) (c : Call) (m m' : Moves) (answer : Answer) (h' : HeapState F)
    : Type 0 where
  pub right : IsRightMovingIn layout w c m.moves m'.moves answer h'
  pub room : KeepsRoom m m'

module _ {F : Type 0} (layout : F → Layout) (h : HeapState F) (whole : IsWhole h) (m : Moves)
    (room : most_now h.segs ≤ m.spare) where
  module _ (w : World) (st : StandsFor layout h w) (none : h.running ≡ None) (what : Condemn) (numbered : IsNumbered (condemnation what))
    where
      -- all that a flip needs of it, without its pairs
      before : IsBefore layout (alone h) m (unpaired w)
      before =
          is_before layout st.past (alone h) (unpaired w) (parts_alone st.parts) (known_bare layout h w st) refl
          (rests_bare layout h w st none) whole.marked m room

      pub may : MayCondemn (trace_of h.pools h.chains h.tails) h.segs (unpaired w) what
      may =
          may_condemn layout st.past (alone h) (unpaired w) (parts_alone st.parts) (trace_of h.pools h.chains h.tails) m whole.tails
          (before.stands (trace_of h.pools h.chains h.tails) whole.tails) what numbered

      -- a heap at rest can be asked for one
      pub can_flip : h.points.flips < most_flips → CanStart layout what h m
      can_flip few = record {
        few_flips = few;
        few_epochs = subst (λ n. n < most_flips) (st.parts.point_flips ∙ sym st.parts.flips.count) few;
        begins = can_condemn layout (alone h) m (unpaired w) (all_reserved layout st.past h w st.parts) before
            (trace_of h.pools h.chains h.tails) whole.tails what may;
      }

      -- and it is the flip
      pub flips_rightly : WereMadeBefore h.points.flips h.points → (h' : HeapState F) (m' : Moves)
          → IsStarted layout what h m h' m' → IsFlipped layout w (condemnation what) m h' m'
      flips_rightly made h' m' started =
          let like = like_reached w st.reached in
          flip_paired layout w like (condemnation what) m h' m'
          (ap (λ (g : HeapState F). g.beside.dependents) started.state ∙ st.parts.beside.dependents)
          (flip_is_right layout st.past (alone h) (unpaired w) (parts_alone st.parts) (known_bare layout h w st)
          (rests_bare layout h w st none) (bare_of w like) made whole.tails whole.marked m room what may (alone h') m'
          (started_without started))

  pub can_start : (w : World) → StandsFor layout h w → h.points.flips < most_flips → (c : Call) (checked : Checked Condemn)
      → AreChecked h w c checked → IfOk checked (λ what. CanStart layout what h m)
  can_start w st few c _ (accepted {what} none numbered is) = can_flip w st none what numbered few
  can_start w st few c _ (not_accepted is) = tt

  -- it is right in each world that the heap represented
  module _ (made : WereMadeBefore h.points.flips h.points) (c : Call) (checked : Checked Condemn) (h' : HeapState F) (m' : Moves)
      (result : Checked (Unit {0})) where
    in_world : (these : Checked Condemn) (w : World) (st : StandsFor layout h w) → AreChecked h w c these
        → Starts layout these h m result h' m'
        → IsRightStartIn layout w c m m' (answer_to says_ok result) h'
    in_world _ w st (accepted {what} none numbered is) starts =
        let flipped = flips_rightly w st none what numbered made h' m' starts.1 in
        let rests_there : is_running w ≡ false = is_running-none w (resting_now layout h w st none).none in
        subst (λ r. IsRightStartIn layout w c m m' (answer_to says_ok r) h') (sym starts.0) (record {
          right = record {
            moves = flip_act w (condemnation what);
            appended = flipped.appended;
            right = λ line. flip_step_is_right w st.reached c line layout (condemnation what) m h' m' rests_there is flipped;
          };
          room = flipped.room;
        })
    in_world _ w st (not_accepted {why} is) starts =
        subst (λ r. IsRightStartIn layout w c m m' (answer_to says_ok r) h') (sym starts.0)
        (subst (λ s. IsRightStartIn layout w c m m' (refused why) s) (sym starts.1)
        (subst (λ (n : Moves). IsRightStartIn layout w c m n (refused why) h) (sym starts.2) (record {
          right = record {
            moves = [];
            appended = sym (append-nil m.moves);
            right = λ line. refused_step_is_right w st.reached c line layout h st why is;
          };
          room = refl;
        })))

    pub a_start_is_right : (w : World) × StandsFor layout h w → ((w : World) → StandsFor layout h w → AreChecked h w c checked)
        → Starts layout checked h m result h' m'
        → IsRightMoving layout h c m.moves m'.moves (answer_to says_ok result) h' × KeepsRoom m m'
    a_start_is_right one checks starts = (
      right_in_each layout h c (collects (checks one.0 one.1)) m.moves m'.moves (answer_to says_ok result) h' one
          (λ w st. (in_world checked w st (checks w st) starts).right),
      (in_world checked one.0 one.1 (checks one.0 one.1) starts).room,
    )
