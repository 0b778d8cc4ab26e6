-- Units, one after the other.
use Rattle.std.proofs.Common.{◌≡◌, ◌∙◌, ℕ, suc, ◌+◌, ◌<◌, ◌≤◌, true, false, refl, sym, ap, List, ◌++◌, Option, Some, None, subst, inl, inr, arith}
use Rattle.std.proofs.lemmas.Bool.{false≢true, cases_lt, le-leb}
use Rattle.std.specs.Prelude.{is_some, not, nat_le, option_map, count_by}
use Rattle.mps_base.specs.Address.{Id}
use Rattle.mps_base.specs.declared.moves.Move.{Move}
use Rattle.mps_model.specs.Graph.{contains, ids_of_client}
use Rattle.mps_model.specs.Collection.{Collection}
use Rattle.mps_model.specs.World.{World, is_running, is_live}
use Rattle.mps_model.specs.Effect.{world_after_moves}
use Rattle.mps_model.specs.Units.{IsUnitPiece, UnitsDone, none_yet, one_more, AreUnits}
use Rattle.mps_model.proofs.Cutting.{world_after_moves-append}
use Rattle.mps_abstract.specs.Colours.{AllReferredLive}
use Rattle.mps_abstract.specs.Collecting.{Collecting, units_left, segments_left, Running}
use Rattle.mps_abstract.specs.Units.{IsUnit, scans, examines, posts, splats, reclaims, IsLastUnit, reclaims_last, GoesOn, begun, by_one_more, Ends, by_last, asked}
use Rattle.mps_abstract.specs.Laws.{IsUnitDone, IsLastUnitDone, AreUnitsDone, AreLastUnitsDone}
use Rattle.mps_abstract.proofs.Counted.{counted_runs}
use Rattle.mps_abstract.proofs.Lists.{count_by-lt}
use Rattle.mps_abstract.proofs.Joining.{AreLegalAnywhere, no_moves_legal, legal_append, legal_alone}
use Rattle.mps_abstract.proofs.UnitScans.{IsUnitShown, scans_shown}
use Rattle.mps_abstract.proofs.Examining.{examines_shown}
use Rattle.mps_abstract.proofs.Posting.{posts_shown}
use Rattle.mps_abstract.proofs.Splatting.{splats_shown}
use Rattle.mps_abstract.proofs.Reclaiming.{IsLastUnitShown, reclaims_shown, reclaims_last_shown}

-- ---- one unit

pub unit_shown : {x y : Collecting} {ms : List Move} → Running x → IsUnit x ms y → IsUnitShown x ms y
unit_shown {x} run (scans id {y} {ms} grey strong fixes) = scans_shown x y id ms run grey strong fixes
unit_shown {x} run (examines id due black) = examines_shown x run id due black
unit_shown {x} run (posts id {ms} {c} due white keep) = posts_shown x id ms c run due white keep
unit_shown {x} run (splats id {y} {cells} drained examined grey done) = splats_shown x y id cells run drained examined grey done
unit_shown {x} run (reclaims {s = s} {freed} {c} next not_last running) = reclaims_shown x run s freed next c not_last running

pub last_unit_shown : {x : Collecting} {ms : List Move} → Running x → IsLastUnit x ms → IsLastUnitShown x ms
last_unit_shown {x} run (reclaims_last {s = s} {freed} next last) = reclaims_last_shown x run s freed next last

pub unit_done : (x y : Collecting) (ms : List Move) → Running x → IsUnit x ms y → IsUnitDone x ms y
unit_done x y ms run u =
    let s = unit_shown run u in
    record { running = s.running; leads = s.leads; legal = legal_alone x.world None ms s.legal; is_piece = s.is_piece; fewer = s.fewer }

pub last_unit_done : (x : Collecting) (ms : List Move) → Running x → IsLastUnit x ms → IsLastUnitDone x ms
last_unit_done x ms run u =
    let s = last_unit_shown run u in
    record {
      legal = legal_alone x.world None ms s.legal;
      is_piece = s.is_piece;
      ended = s.ended;
      held_live = s.held_live;
      referred_live = s.referred_live;
    }

-- ---- units are asked of a collection

module _ (x : Collecting) (run : Running x) (count : ℕ) (enough : x.running.spent + count + units_left x ≤ x.running.units) where
  abbrev asked_running : Collection
  asked_running = record x.running { spent = x.running.spent + count }

  abbrev asked_state : Collecting
  asked_state = record x { world = record x.world { collection = Some asked_running }; running = asked_running }

  asked_state_runs : Running asked_state
  asked_state_runs = counted_runs x run x.running.had (x.running.spent + count) (Some asked_running) refl run.settled.settled enough

  pub asked_runs : Running (asked x count)
  asked_runs =
      subst (λ y. Running y)
      (ap (λ (o : Option Collection). record asked_state {
        world = record x.world { collection = option_map {T = Collection} (λ (c : Collection). record c { spent = c.spent + count }) o };
      }) (sym run.runs))
      asked_state_runs

-- ---- rows of units

pub record AreUnitsShown (x : Collecting) (count : ℕ) (ms : List Move) (y : Collecting) : Type 0 where
  pub running : Running y
  pub leads : world_after_moves x.world ms ≡ y.world
  pub legal : AreLegalAnywhere x.world ms
  pub units_done : UnitsDone x.world count ms
  pub fewer : count + units_left y ≤ units_left x
  pub spent : y.running.spent ≡ x.running.spent
  pub allowed : y.running.units ≡ x.running.units

pub still_runs : (w : World) (c : Collection) → w.collection ≡ Some c → is_running w ≡ true
still_runs w c runs = ap is_some runs

pub units_shown : {x y : Collecting} {count : ℕ} {ms : List Move} → Running x → GoesOn x count ms y → AreUnitsShown x count ms y
units_shown {x} run begun = record {
  running = run;
  leads = refl;
  legal = no_moves_legal x.world;
  units_done = none_yet;
  fewer = omega arith;
  spent = refl;
  allowed = refl;
}
units_shown {x} run (by_one_more {y} {z} {count} {done} {piece} row unit) =
    let before = units_shown run row in
    let u = unit_shown before.running unit in
    record {
      running = u.running;
      leads = world_after_moves-append x.world done piece ∙ ap (λ v. world_after_moves v piece) before.leads ∙ u.leads;
      legal = legal_append x.world done piece before.legal (subst (λ v. AreLegalAnywhere v piece) (sym before.leads) u.legal);
      units_done = one_more before.units_done
          (ap is_running before.leads ∙ still_runs y.world y.running before.running.runs)
          (subst (λ v. IsUnitPiece v piece) (sym before.leads) u.is_piece);
      fewer = let b = before.fewer in let f = u.fewer in omega (arith, b, f);
      spent = u.spent ∙ before.spent;
      allowed = u.allowed ∙ before.allowed;
    }

-- where a collection runs, units are left
pub some_left : (x : Collecting) → Running x → 0 < units_left x
some_left x run =
    let one = run.swept.one_left in
    let segments : count_by (λ n. false) x.running.condemned_segments < segments_left x.running.condemned_segments x.cursor =
    count_by-lt (λ n. false) (nat_le x.cursor) x.running.condemned_segments one.0 (λ m h. absurd (false≢true h)) one.1 refl
    (le-leb x.cursor one.0 one.2) in
    omega (arith, segments)

pub units_done : (x y : Collecting) (count : ℕ) (ms : List Move) → Running x → GoesOn x count ms y → AreUnitsDone x count ms y
units_done x y count ms run row =
    let s = units_shown run row in
    record {
      running = s.running;
      leads = s.leads;
      legal = legal_alone x.world None ms s.legal;
      are_units = inl s.units_done;
      fewer = s.fewer;
      some_left = some_left y s.running;
      asked_running = asked_runs y s.running count
          (let spent = s.spent in let allowed = s.allowed in let fewer =
          s.fewer in let before = run.units in omega (arith, spent, allowed, fewer, before));
    }

-- n units, in the last of which the collection ends
last_units_of : {x y : Collecting} {count : ℕ} {done piece : List Move} → Running x → GoesOn x count done y → IsLastUnit y piece
    → AreLastUnitsDone x (suc count) (done ++ piece)
last_units_of {x} {y} {count} {done} {piece} run row last =
    let s = units_shown run row in
    let l = last_unit_shown s.running last in
    let leads : world_after_moves x.world (done ++ piece) ≡ world_after_moves y.world piece =
    world_after_moves-append x.world done piece ∙ ap (λ v. world_after_moves v piece) s.leads in
    let all : UnitsDone x.world (suc count) (done ++ piece) =
    one_more s.units_done (ap is_running s.leads ∙ still_runs y.world y.running s.running.runs)
    (subst (λ v. IsUnitPiece v piece) (sym s.leads) l.is_piece) in
    let ended : (world_after_moves x.world (done ++ piece)).collection ≡ None = ap (λ (v : World). v.collection) leads ∙ l.ended in
    let ends : not (is_running (world_after_moves x.world (done ++ piece))) ≡ true = ap (λ o. not (is_some o)) ended in
    record {
      legal = legal_alone x.world None (done ++ piece)
          (legal_append x.world done piece s.legal (subst (λ v. AreLegalAnywhere v piece) (sym s.leads) l.legal));
      are_units = λ asked most. of_count asked most all ends;
      are_to_end = ((suc count, all), ends);
      ended = ended;
      at_most = let fewer = s.fewer in let left = some_left y s.running in omega (arith, fewer, left);
      held_live = subst (λ (v : World). (n : Id) → contains (ids_of_client v.graph) n ≡ true → is_live v n ≡ true) (sym leads) l.held_live;
      referred_live = subst (λ (v : World). AllReferredLive v.graph (is_live v)) (sym leads) l.referred_live;
    }
  where
    of_count : (asked : ℕ) → suc count ≤ asked → UnitsDone x.world (suc count) (done ++ piece)
        → not (is_running (world_after_moves x.world (done ++ piece))) ≡ true → AreUnits x.world asked (done ++ piece)
    of_count asked most all ends = elim (cases_lt (suc count) asked) [
      | inl fewer ↦ inr (suc count, fewer, all, ends)
      | inr least ↦ inl (subst (λ n. UnitsDone x.world n (done ++ piece))
          (let same : suc count ≡ asked = omega (arith, most, least) in same) all)
    ]

pub last_units_done : (x : Collecting) (count : ℕ) (ms : List Move) → Running x → Ends x count ms → AreLastUnitsDone x count ms
last_units_done x count ms run (by_last row last) = last_units_of run row last
