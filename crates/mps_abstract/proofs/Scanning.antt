-- Objects are fixed, one after the other, and an object whose references were fixed is black.
use Rattle.std.proofs.Common.{◌≡◌, ◌∙◌, ◌<◌, ◌≤◌, true, false, refl, sym, ap, List, subst, inl, inr, arith}
use Rattle.std.proofs.lemmas.Bool.{false≢true, or_right, cases_Bool}
use Rattle.mps_base.specs.Address.{Id}
use Rattle.mps_base.specs.declared.moves.Move.{Move}
use Rattle.mps_model.specs.Graph.{contains, targets}
use Rattle.mps_model.specs.Collection.{Collection}
use Rattle.mps_model.specs.World.{is_live, live_ids}
use Rattle.mps_model.specs.Effect.{world_after_moves}
use Rattle.mps_model.proofs.Cutting.{world_after_moves-append}
use Rattle.mps_abstract.specs.Colours.{is_grey, is_to_scan, blackened, Survives}
use Rattle.mps_abstract.specs.Collecting.{Collecting, is_tracing_band, is_white_in, units_left, Running}
use Rattle.mps_abstract.specs.Fixing.{Keeps, Fixes, fixes_no_more, passes, keeps, kept_by}
use Rattle.mps_abstract.specs.Units.{collecting_after_scan, AreTargetsKept}
use Rattle.mps_abstract.proofs.Counted.{examined_again, survivors_again}
use Rattle.mps_abstract.proofs.Lists.{count_by-le, count_by-lt, contains_here, contains_later, contains_cases}
use Rattle.mps_abstract.proofs.Addresses.{live_is_listed}
use Rattle.mps_abstract.proofs.Joining.{AreLegalAnywhere, no_moves_legal, legal_append}
use Rattle.mps_abstract.proofs.Kept.{keeps_leaves}
use Rattle.mps_abstract.proofs.KeepsLegal.{keeps_legal}
use Rattle.mps_abstract.proofs.Keeping.{it_is_kept, grey_still, not_grey_or_it, it_is_not_grey, to_scan_still}
use Rattle.mps_abstract.proofs.KeptRunning.{same_state, kept_running}
use Rattle.mps_abstract.proofs.Further.{IsFurther, no_further, further_still, kept_further}

-- these are live, and survive
abbrev pub MayBeFixed : Collecting → List Id → Type 0
MayBeFixed x ids = (n : Id) → contains ids n ≡ true → (is_live x.world n ≡ true) × Survives x.running n

-- objects were fixed
pub record AreFixed (x : Collecting) (ids : List Id) (ms : List Move) (y : Collecting) : Type 0 where
  pub running : Running y
  pub further : IsFurther x y
  pub leads : world_after_moves x.world ms ≡ y.world
  pub legal : AreLegalAnywhere x.world ms
  pub kept : (n : Id) → contains ids n ≡ true → is_white_in y n ≡ false

-- what one keep leaves, as the invariant has it
pub record IsKeptRightly (x : Collecting) (id : Id) (y : Collecting) : Type 0 where
  pub running : Running y
  pub further : IsFurther x y
  pub kept : is_white_in y id ≡ false

pub kept_rightly : (x : Collecting) → Running x → is_tracing_band x.band ≡ true → (id : Id) → is_live x.world id ≡ true
    → Survives x.running id → is_white_in x id ≡ true → {ms : List Move} {c : Collection} → Keeps x.world x.running id ms c
    → IsKeptRightly x id (kept_by x id ms c)
kept_rightly x run tracing id live survives white {ms} {c} keep =
    let r = keeps_leaves x.world x.running id run.runs run.different live keep in
    let w = world_after_moves x.world ms in
    subst (λ y. IsKeptRightly x id y) (sym (same_state x run tracing id live white w c r)) (record {
      running = kept_running x run tracing id live white w c r survives;
      further = kept_further x run tracing id live white w c r;
      kept = it_is_kept x.running.condemned x.colours id;
    })

pub are_fixed : {x y : Collecting} {ids : List Id} {ms : List Move} → Fixes x ids ms y → Running x → is_tracing_band x.band ≡ true
    → MayBeFixed x ids → AreFixed x ids ms y
are_fixed (fixes_no_more {x}) run tracing may = record {
  running = run;
  further = no_further x;
  leads = refl;
  legal = no_moves_legal x.world;
  kept = λ n h. absurd (false≢true h);
}
are_fixed {x} (passes {id = id} {ids = ids} black rest) run tracing may =
    let after = are_fixed rest run tracing (λ n h. may n (contains_later id ids n h)) in
    record {
      running = after.running;
      further = after.further;
      leads = after.leads;
      legal = after.legal;
      kept = λ n h. elim (contains_cases id ids n h) [
        | inl same ↦ after.further.not_white n (subst (λ m. is_white_in x m ≡ false) same black)
        | inr later ↦ after.kept n later
      ];
    }
are_fixed {x} (keeps {y = z} {id} {ids} {these} {those} {c} white keep rest) run tracing may =
    let first = may id (contains_here id ids) in
    let y = kept_by x id these c in
    let one = kept_rightly x run tracing id first.0 first.1 white keep in
    let after = are_fixed rest one.running (ap is_tracing_band one.further.band ∙ tracing) (λ n h.
    let still = may n (contains_later id ids n h) in (one.further.live n ∙ still.0, one.further.survives n still.1)) in
    record {
      running = after.running;
      further = further_still x y z one.further after.further;
      leads = world_after_moves-append x.world these those ∙ after.leads;
      legal = legal_append x.world these those
          (keeps_legal x.world x.running x.colours id run.runs run.different first.0 (run.band.tracing tracing) white run.settled keep)
          after.legal;
      kept = λ n h. elim (contains_cases id ids n h) [
        | inl same ↦ after.further.not_white n (subst (λ m. is_white_in y m ≡ false) same one.kept)
        | inr later ↦ after.kept n later
      ];
    }

-- ---- an object is black then

module _ (x : Collecting) (run : Running x) (id : Id) (fixed : AreTargetsKept x id) where
  pub scanned_left : units_left (collecting_after_scan x id) ≤ units_left x
  scanned_left =
      let fewer = count_by-le (is_to_scan x.running.condemned (blackened x.colours id)) (is_to_scan x.running.condemned x.colours)
      (live_ids x.world)
      (to_scan_still x.running.condemned x.colours id) in
      omega (arith, fewer)

  pub scanned_running : Running (collecting_after_scan x id)
  scanned_running = record {
    runs = run.runs;
    different = run.different;
    condemned = run.condemned;
    coloured = record {
      held_live = run.coloured.held_live;
      held = run.coloured.held;
      referred_live = run.coloured.referred_live;
      referred = λ n t live black grey refers. elim (not_grey_or_it x.running.condemned x.colours id n grey) [
        | inl same ↦ fixed t (subst (λ m. contains (targets x.world.graph m) t ≡ true) same refers)
        | inr before ↦ run.coloured.referred n t live black before refers
      ];
    };
    grey = record {
      grey_live = λ n h. run.grey.grey_live n (grey_still x.running.condemned x.colours id n h);
      grey_automatic = λ n h. run.grey.grey_automatic n (grey_still x.running.condemned x.colours id n h);
      grey_kept = λ n h. run.grey.grey_kept n (grey_still x.running.condemned x.colours id n h);
    };
    settled = record { settled = run.settled.settled; in_place = run.settled.in_place };
    survivors =
        survivors_again x.world.graph x.world.graph.registered (is_live x.world) x.running x.colours (blackened x.colours id) x.running.had
        x.running.registered_before x.running.examined x.running.spent (λ n white. white) run.survivors;
    examined =
        examined_again x.world.graph.registered (is_live x.world) x.running x.colours (blackened x.colours id) x.next x.running.had
        x.running.phase x.running.spent (λ n white. white) run.examined;
    band = record {
      tracing = run.band.tracing;
      splatting = run.band.splatting;
      drained = λ later n h. run.band.drained later n (grey_still x.running.condemned x.colours id n h);
      examined = run.band.examined;
      scanned = λ later n. none_more n (run.band.scanned later n);
      referred_live = run.band.referred_live;
      unswept = run.band.unswept;
    };
    swept = record {
      hold = run.swept.hold;
      to_go = run.swept.to_go;
      in_turn = run.swept.in_turn;
      one_left = run.swept.one_left;
    };
    units = let fewer = scanned_left in let before = run.units in omega (arith, fewer, before);
  }
    where
      none_more : (n : Id) → is_grey x.colours n ≡ false → is_grey (blackened x.colours id) n ≡ false
      none_more n h = elim (cases_Bool (is_grey (blackened x.colours id) n)) [
        | inl is ↦ absurd (false≢true (sym h ∙ grey_still x.running.condemned x.colours id n is))
        | inr isnt ↦ isnt
      ]

  -- where it was grey, a unit less is left
  pub scanned_fewer : is_grey x.colours id ≡ true → units_left (collecting_after_scan x id) < units_left x
  scanned_fewer grey =
      let fewer = count_by-lt (is_to_scan x.running.condemned (blackened x.colours id)) (is_to_scan x.running.condemned x.colours)
      (live_ids x.world) id
      (to_scan_still x.running.condemned x.colours id) (live_is_listed x.world id (run.grey.grey_live id grey)) not_now
      (or_right (is_white_in x id) (is_grey x.colours id) grey) in
      omega (arith, fewer)
    where
      not_now : is_to_scan x.running.condemned (blackened x.colours id) id ≡ false
      not_now = rw (run.grey.grey_kept id grey, it_is_not_grey x.running.condemned x.colours id) refl
