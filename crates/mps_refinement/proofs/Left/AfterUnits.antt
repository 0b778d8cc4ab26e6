-- Units of a heap's collection: each is one less that is left, and after the last one none is.
use Rattle.std.proofs.Common.{◌≡◌, ◌∙◌, ℕ, ◌+◌, ◌<◌, ◌≤◌, true, refl, sym, ap, subst, List, Option, Some, None, is_some, arith}
use Rattle.std.proofs.lemmas.Bool.{false≢true}
use Rattle.std.specs.Prelude.{if◌then◌else◌, ◌≢◌}
use Rattle.mps_base.specs.Trail.{Moves}
use Rattle.mps_base.specs.declared.moves.Move.{Move}
use Rattle.mps_format.specs.Layout.{Layout}
use Rattle.mps_model.specs.World.{World}
use Rattle.mps_seg.specs.Table.{IsMarked}
use Rattle.mps_refinement.proofs.Collect.LiveIsFew.{most_now}
use Rattle.mps_pools.specs.Pools.{trace_of}
use Rattle.mps_pools.specs.Collecting.{IsTraceOf}
use Rattle.mps_trace.specs.State.{FinalsState}
use Rattle.mps_trace.specs.Trace.{Traced, traced}
use Rattle.mps_trace.specs.Unit.{UnitsTo}
use Rattle.mps_trace.specs.declared.running.Running.{Running as RunningState}
use Rattle.mps_abstract.specs.Collecting.{Collecting}
use Rattle.mps_abstract.specs.Collecting as abstract
use Rattle.mps_heap_spec.specs.Collecting.{IsCollected}
use Rattle.mps_heap_spec.specs.Following.{Follows, made_since, moves_followed}
use Rattle.mps_heap_spec.specs.State.{HeapState}
use Rattle.mps_heap_spec.specs.Units.{HasDoneUnits, HasStepped, IsWhole, ends, goes_on, none_runs, traced_in, units_to_end}
use Rattle.mps_heap_spec.specs.declared.arena.ArenaState.{ArenaState}
use Rattle.mps_heap_spec.specs.declared.arena.ArenaState.TheVariants as arena
use Rattle.mps_heap_spec.specs.declared.arena.Progress.{Progress}
use Rattle.mps_heap_spec.specs.declared.arena.Progress.TheVariants.{Idle, More}
use Rattle.mps_refinement.specs.StandsFor.{AreParts, Past, Runs, StandsFor, collector_of, runs}
use Rattle.mps_refinement.specs.UnitsLeft.{StepsDown, units_left}
use Rattle.mps_refinement.proofs.Left.Alike.{units_alike}
pub use Rattle.mps_refinement.proofs.Left.Alike.{none_at_rest}
use Rattle.mps_refinement.proofs.Units.FromUnits.{collector_after}
use Rattle.mps_refinement.proofs.Units.Ready.{units_are_few}
use Rattle.mps_refinement.proofs.Following.Made.{following_leaves}
use Rattle.mps_refinement.proofs.Following.WithoutPairs.{alone}
use Rattle.mps_refinement.proofs.Units.UnitsDone as going
use Rattle.mps_refinement.proofs.Worlds.InSteps.{known_after_asked_units}
use Rattle.mps_refinement.proofs.Worlds.RunningNow.{running_now}
use Rattle.mps_refinement.proofs.Worlds.LikeReached.{IsBare}

-- what a heap follows leaves as many
pub as_many_followed : {F : Type 0} (layout : F → Layout) (h : HeapState F) (ms : List Move)
    → units_left (moves_followed layout h ms) ≡ units_left h
as_many_followed {F} layout h ms = ap (λ (g : HeapState F). units_left g) (following_leaves layout h ms)

-- ---- it goes on

module _ {F : Type 0} (layout : F → Layout) (past : Past) (h : HeapState F) (x : Collecting) (parts : AreParts layout past h x.world)
    (bare : IsBare x.world) (r : Runs past.time (collector_of h) x.world x)
    (of : IsTraceOf h.pools h.chains (trace_of h.pools h.chains h.tails))
    (marked : IsMarked h.segs.grains h.segs.marks h.segs.condemned h.segs.summaries)
    (m : Moves) (room : most_now h.segs ≤ m.spare) (n : ℕ) (z : Traced) (f : FinalsState) (run : RunningState)
    (units : UnitsTo layout (trace_of h.pools h.chains h.tails).formats (trace_of h.pools h.chains h.tails).chains
    (traced (trace_of h.pools h.chains h.tails) h.segs m) h.finals r.run n z f run) where
  abbrev heap_after : HeapState F
  heap_after = going.heap_after layout past h x parts bare r of marked m room n z f run units

  abbrev later : Collecting
  later = going.later layout past h x parts bare r of marked m room n z f run units

  left_after : units_left heap_after ≡ abstract.units_left later
  left_after =
      let done = going.done layout past h x parts bare r of marked m room n z f run units in
      let time = going.time_after layout past h x parts bare r of marked m room n z f run units in
      let on = going.runs_later layout past h x parts bare r of marked m room n z f run units in
      units_alike layout (record past { time = time }) heap_after later
      (going.parts_later layout past h x parts bare r of marked m room n z f run units)
      (known_after_asked_units x done.after n done.moves bare.like r.invariant done.units time (collector_after z run)
      (runs later on)).formed
      on

  goes_down : (n + units_left heap_after ≤ units_left h) × (n < units_left h)
  goes_down =
      let shown = going.shown layout past h x parts bare r of marked m room n z f run units in
      let fewer = shown.fewer in
      let some = shown.some_left in
      let before = units_alike layout past h x parts bare.like.formed r in
      let after = left_after in
      (omega (arith, fewer, before, after), omega (arith, fewer, some, before))

-- ---- whether it goes on or ends

-- n units leave no more than there were, and if the collection goes on each was one less
pub record AreFewer {F : Type 0} (h : HeapState F) (n : ℕ) (h' : HeapState F) : Type 0 where
  pub no_more : units_left h' ≤ units_left h
  pub below : is_some h'.running ≡ true → n < units_left h
  pub fewer : is_some h'.running ≡ true → n + units_left h' ≤ units_left h

module _ {F : Type 0} (layout : F → Layout) (h : HeapState F) (whole : IsWhole h) (m : Moves)
    (room : most_now h.segs ≤ m.spare) (w : World) (st : StandsFor layout h w) where
  still : (n : ℕ) → h.running ≡ None → AreFewer h n h
  still n none =
      let never : is_some h.running ≡ true → ⊥ = λ some. false≢true (sym (ap is_some none) ∙ some) in
      record { no_more = omega arith; below = λ some. absurd (never some); fewer = λ some. absurd (never some) }

  pub units_go_down : (n : ℕ) (h' : HeapState F) (m' : Moves) → HasDoneUnits layout h m n h' m' → AreFewer h n h'
  units_go_down n h' m' (none_runs none is trail) = subst (AreFewer h n) (sym is) (still n none)
  units_go_down n h' m' (goes_on run next is units state) =
      let g = running_now layout h w st run is in
      let down =
      goes_down layout g.past (alone h) g.collecting g.parts g.bare g.runs whole.tails whole.marked m room n (traced_in h' m') h'.finals
      next
      (subst (λ q. UnitsTo layout (trace_of h.pools h.chains h.tails).formats (trace_of h.pools h.chains h.tails).chains
      (traced_in h m) h.finals q n (traced_in h' m') h'.finals next) (sym g.same) units)
      in
      subst (AreFewer h n) (sym state)
      (record { no_more = omega (arith, down.0); below = λ some. down.1; fewer = λ some. down.0 })
  units_go_down n h' m' (ends run is over state) =
      let rests : h'.running ≡ None = ap (λ (g : HeapState F). g.running) state in
      let none = none_at_rest h' rests in
      let never : is_some h'.running ≡ true → ⊥ = λ some. false≢true (sym (ap is_some rests) ∙ some) in
      record { no_more = omega (arith, none); below = λ some. absurd (never some); fewer = λ some. absurd (never some) }

  -- so it is once the heap has followed their moves
  pub followed_go_down : (n : ℕ) (h' : HeapState F) (m' : Moves) → Follows layout m (HasDoneUnits layout h m n) h' m' → AreFewer h n h'
  followed_go_down n h' m' follows =
      let is = units_go_down n follows.made m' follows.left in
      let ms = made_since m m' in
      let on : is_some (moves_followed layout follows.made ms).running ≡ is_some follows.made.running =
      ap (λ (g : HeapState F). is_some g.running) (following_leaves layout follows.made ms) in
      let same = as_many_followed layout follows.made ms in
      subst (AreFewer h n) (sym follows.followed) (record {
        no_more = let no_more = is.no_more in omega (arith, no_more, same);
        below = λ some. is.below (sym on ∙ some);
        fewer = λ some. let fewer = is.fewer (sym on ∙ some) in omega (arith, fewer, same);
      })

  -- ---- `step`

  pub steps_down : (n : ℕ) (h' : HeapState F) (m' : Moves) (answer : Progress) → HasStepped layout h m n h' m' answer
      → StepsDown h n answer h'
  steps_down n h' m' answer stepped = record {
    no_more = of_arena h.arena refl;
    below = λ unclamped more. (followed_go_down n h' m' (stepped.done unclamped)).below (on more);
    fewer = λ unclamped more. (followed_go_down n h' m' (stepped.done unclamped)).fewer (on more);
  }
    where
      said : (o : Option RunningState) → (if is_some o then More else Idle) ≡ More → is_some o ≡ true
      said (Some run) more = refl
      said None more = absurd cc

      on : answer ≡ More → is_some h'.running ≡ true
      on more = said h'.running (sym stepped.answered ∙ more)

      kept : h.arena ≢ arena.Unclamped → units_left h' ≤ units_left h
      kept other = subst (λ g. units_left g ≤ units_left h) (sym (stepped.still other).0) (omega arith)

      of_arena : (a : ArenaState) → h.arena ≡ a → units_left h' ≤ units_left h
      of_arena arena.Unclamped is = (followed_go_down n h' m' (stepped.done is)).no_more
      of_arena arena.Clamped is = kept (λ e. let apart : arena.Clamped ≡ arena.Unclamped = sym is ∙ e in absurd cc)
      of_arena arena.Parked is = kept (λ e. let apart : arena.Parked ≡ arena.Unclamped = sym is ∙ e in absurd cc)

  -- ---- units to the end

  -- fewer are left than these
  few_are_left : (run : RunningState) → h.running ≡ Some run → units_left h < units_to_end h
  few_are_left run is =
      let g = running_now layout h w st run is in
      let same = units_alike layout g.past (alone h) g.collecting g.parts g.bare.like.formed g.runs in
      let few = units_are_few layout g.past (alone h) g.collecting g.parts g.bare g.runs in
      omega (arith, same, few)

  all_done : (between : HeapState F) (m' : Moves) → HasDoneUnits layout h m (units_to_end h) between m' → between.running ≡ None
  all_done between m' (none_runs none is trail) = ap (λ (g : HeapState F). g.running) is ∙ none
  all_done between m' (goes_on run next is units state) =
      let goes : is_some between.running ≡ true = ap (λ (g : HeapState F). is_some g.running) state in
      let more = (units_go_down (units_to_end h) between m' (goes_on run next is units state)).below goes in
      let few = few_are_left run is in
      absurd (omega (arith, more, few))
  all_done between m' (ends run is over state) = ap (λ (g : HeapState F). g.running) state

  pub rests_at_the_end : (between : HeapState F) (m' : Moves) → Follows layout m (HasDoneUnits layout h m (units_to_end h)) between m'
      → between.running ≡ None
  rests_at_the_end between m' follows =
      ap (λ (g : HeapState F). g.running) (follows.followed ∙ following_leaves layout follows.made (made_since m m'))
      ∙ all_done follows.made m' follows.left

  -- ---- `collect`

  pub none_after_collect : (between : HeapState F) (m_between : Moves)
      → Follows layout m (HasDoneUnits layout h m (units_to_end h)) between m_between → (h' : HeapState F) (m' : Moves)
      → Follows layout m_between (IsCollected layout between m_between) h' m' → units_left h' ≡ 0
  none_after_collect between m_between units h' m' collected =
      none_at_rest h'
      (ap (λ (g : HeapState F). g.running) (collected.followed ∙ following_leaves layout collected.made (made_since m_between m'))
      ∙ ap (λ (g : HeapState F). g.running) collected.left.state ∙ rests_at_the_end between m_between units)
