-- A weak object is scanned: its references to white objects are splatted.
use Rattle.std.proofs.Common.{◌≡◌, ◌∙◌, ℕ, ◌<◌, ◌≤◌, true, false, refl, sym, ap, List, [], ◌∷◌, length, Option, Some, None, subst, inl, inr, arith}
use Rattle.std.proofs.lemmas.Bool.{false≢true, true≢false, cases_Bool}
use Rattle.std.proofs.lemmas.Option.{none-some}
use Rattle.std.specs.Prelude.{option_map}
use Rattle.mps_base.specs.Address.{Id, Address}
use Rattle.mps_base.specs.declared.moves.Move.{Move}
use Rattle.mps_base.specs.declared.moves.Move.TheVariants as moves
use Rattle.mps_model.specs.Graph.{Graph, Object, Body, Automatic, Manual, Cell, contains, targets, is_automatic, is_automatic_body, is_weak_object, is_weak_body, body_with_cells, with_target_cell, graph_with_cells}
use Rattle.mps_model.specs.Collection.{Collection}
use Rattle.mps_model.specs.World.{id_at, is_live, object_is, is_copying_object, is_copying_pool}
use Rattle.mps_model.specs.Accessing.{address_or_null}
use Rattle.mps_model.specs.Effect.{splatting, after_splat, where_one, world_after_moves, graph_nulled, graph_splatted}
use Rattle.mps_model.specs.Flip.{at_address}
use Rattle.mps_model.specs.LegalMove.{ForOne, IsLegalMove, IsLegalSplat, IsGone, target_in_cell}
use Rattle.mps_model.specs.Units.{splats_of, splats}
use Rattle.mps_abstract.specs.Colours.{is_grey}
use Rattle.mps_abstract.specs.Collecting.{Weak, Collecting, is_tracing_band, is_reclaiming_band, IsDrainedIn, AreAllExamined, is_white_in, units_left, Running}
use Rattle.mps_abstract.specs.Units.{Splats, splats_no_more, splats_cell, collecting_after_splat, AreTargetsKept, splats_by, collecting_after_scan}
use Rattle.mps_abstract.proofs.Counted.{examined_again}
use Rattle.mps_model.specs.Collection.{Splatting}
use Rattle.mps_abstract.proofs.Addresses.{id_at-live}
use Rattle.mps_abstract.proofs.Joining.{AreLegalAnywhere, no_moves_legal, one_legal, legal_append, for_some}
use Rattle.mps_abstract.proofs.Cells.{gives_target, for_object-with_cells, length-with_cells, targets-with_cells}
use Rattle.mps_abstract.proofs.Gone.{white_is_gone}
use Rattle.mps_abstract.proofs.Pieces.{may_be_scanned}
use Rattle.mps_abstract.proofs.Scanning.{scanned_running, scanned_fewer}
use Rattle.mps_abstract.proofs.UnitScans.{IsUnitShown}
use Rattle.mps_model.proofs.Nulled.{splatted_holds}

automatic_still : (change : List Cell → List Cell) (b : Body) → is_automatic_body (body_with_cells b change) ≡ is_automatic_body b
automatic_still change (Automatic head cells is_weak) = refl
automatic_still change (Manual words) = refl

weak_still : (change : List Cell → List Cell) (b : Body) → is_weak_body (body_with_cells b change) ≡ is_weak_body b
weak_still change (Automatic head cells is_weak) = refl
weak_still change (Manual words) = refl

-- the cells after a splat
abbrev splat : (cell : ℕ) → List Cell → List Cell
splat cell cells = with_target_cell cells cell None

-- a reference became null, of any object
module _ (x : Collecting) (run : Running x) (later : is_tracing_band x.band ≡ false) (before_last : is_reclaiming_band x.band ≡ false)
    (holder : Id) (cell : ℕ) where
  -- the graph after it
  abbrev graph_now : Graph
  graph_now = graph_with_cells x.world.graph holder (splat cell)

  abbrev nulled_state : Collecting
  nulled_state = record x {
    world = record x.world { graph = graph_now; collection = Some (splatting x.running) };
    running = splatting x.running;
  }

  automatic_same : (n : Id) → object_is is_automatic nulled_state.world n ≡ object_is is_automatic x.world n
  automatic_same n = for_object-with_cells x.world.graph holder n (splat cell) is_automatic false (λ p. automatic_still (splat cell) p.body)

  weak_same : (n : Id) → object_is is_weak_object nulled_state.world n ≡ object_is is_weak_object x.world n
  weak_same n = for_object-with_cells x.world.graph holder n (splat cell) is_weak_object false (λ p. weak_still (splat cell) p.body)

  copying_same : (n : Id) → is_copying_object nulled_state.world n ≡ is_copying_object x.world n
  copying_same n = for_object-with_cells x.world.graph holder n (splat cell) (λ (o : Object). is_copying_pool x.world o.pool) false
      (λ p. refl)

  referred_before : (n t : Id) → contains (targets graph_now n) t ≡ true → contains (targets x.world.graph n) t ≡ true
  referred_before n t h = elim (targets-with_cells x.world.graph holder n (splat cell) None t (gives_target cell None) h) [
    | inl none ↦ absurd (none-some t none.1)
    | inr before ↦ before
  ]

  nulled_running : Running nulled_state
  nulled_running = record {
    runs = refl;
    different = run.different;
    condemned = record {
      objects = λ n h. automatic_same n ∙ run.condemned.objects n h;
      bases = run.condemned.bases;
      segments = run.condemned.segments;
    };
    coloured = record {
      held_live = run.coloured.held_live;
      held = run.coloured.held;
      referred_live = λ n t live black refers. run.coloured.referred_live n t live black (referred_before n t refers);
      referred = λ n t live black white refers. run.coloured.referred n t live black white (referred_before n t refers);
    };
    grey = record {
      grey_live = run.grey.grey_live;
      grey_automatic = λ n h. automatic_same n ∙ run.grey.grey_automatic n h;
      grey_kept = run.grey.grey_kept;
    };
    settled = record {
      settled = run.settled.settled;
      in_place = λ n copying. run.settled.in_place n (sym (copying_same n) ∙ copying);
    };
    survivors = record {
      existing = subst (λ m. length x.running.graph_at_flip.objects ≤ m)
          (sym (length-with_cells x.world.graph holder (splat cell))) run.survivors.existing;
      kept = run.survivors.kept;
      written = λ n t live refers. run.survivors.written n t live (referred_before n t refers);
      outside = run.survivors.outside;
    };
    examined =
        examined_again x.world.graph.registered (is_live x.world) x.running x.colours x.colours x.next x.running.had Splatting
        x.running.spent (λ n white. white) run.examined;
    band = record {
      tracing = λ h. absurd (true≢false (sym h ∙ later));
      splatting = λ h. refl;
      drained = λ h n is. weak_same n ∙ run.band.drained later n is;
      examined = run.band.examined;
      scanned = run.band.scanned;
      referred_live = λ h n t live refers. run.band.referred_live before_last n t live (referred_before n t refers);
      unswept = run.band.unswept;
    };
    swept = record {
      hold = λ base h below. absurd (let none : x.cursor ≡ 0 = run.band.unswept before_last in omega (arith, none, below));
      to_go = run.swept.to_go;
      in_turn = run.swept.in_turn;
      one_left = run.swept.one_left;
    };
    units = run.units;
  }

module _ (x : Collecting) (run : Running x) (later : is_tracing_band x.band ≡ false) (before_last : is_reclaiming_band x.band ≡ false)
    (holder : Id) (cell : ℕ) where
  abbrev with_splatted : Graph → Collecting
  with_splatted g = record x {
    world = record x.world { graph = g; collection = Some (splatting x.running) };
    running = splatting x.running;
  }

  same_state : collecting_after_splat x holder cell ≡ with_splatted (graph_splatted x.world.graph holder cell)
  same_state = ap (λ (o : Option Collection). let y = with_splatted (graph_splatted x.world.graph holder cell) in
      record y { world = record y.world { collection = option_map splatting o } }) run.runs

  -- the reference of the holder, and that of its dependent
  pub splat_running : Running (collecting_after_splat x holder cell)
  splat_running =
      let first = nulled_running x run later before_last holder cell in
      subst (λ y. Running y) (sym same_state)
      (splatted_holds (λ g. Running (with_splatted g)) x.world.graph holder cell first (λ dependent.
      nulled_running (with_splatted (graph_nulled x.world.graph holder cell)) first later before_last dependent cell))

module _ (x : Collecting) (run : Running x) (later : is_tracing_band x.band ≡ false) (before_last : is_reclaiming_band x.band ≡ false)
    (holder : Id) (grey : is_grey x.colours holder ≡ true) (cell : ℕ) where
  -- the splat is legal, where it is of a white object
  module _ (a : Address) (there : id_at x.world a ≡ Some holder) (target : Id) (refers : target_in_cell x.world holder cell ≡ Some target)
      (white : is_white_in x target ≡ true) where
    splat_is_legal : (before next : Option Move) → IsLegalMove x.world before (moves.Splat (at_address a) cell) next
    splat_is_legal before next =
        for_some (λ d. ForOne (id_at x.world a) (λ i. IsLegalSplat x.world d i cell)) x.world.collection x.running run.runs
        (for_some (λ i. IsLegalSplat x.world x.running i cell) (id_at x.world a) holder there (record {
          phase = run.band.splatting before_last;
          weak = run.band.drained later holder grey;
          scanned = may_be_scanned x holder run (run.grey.grey_live holder grey) (run.grey.grey_kept holder grey);
          target_is_gone = for_some (IsGone x.world x.running) (target_in_cell x.world holder cell) target refers
              (white_is_gone x.world x.running x.colours run.coloured run.settled (run.band.drained later) target white);
        }))

    splat_leads : world_after_moves x.world (moves.Splat (at_address a) cell ∷ []) ≡ after_splat x.world holder cell
    splat_leads = ap (λ o. where_one x.world o (λ id. after_splat x.world id cell)) there

-- the references of an object were splatted
pub record AreSplatted (x : Collecting) (holder : Id) (a : Address) (cells : List ℕ) (y : Collecting) : Type 0 where
  pub running : Running y
  pub kept : AreTargetsKept y holder
  pub leads : world_after_moves x.world (splats_of (at_address a) cells) ≡ y.world
  pub legal : AreLegalAnywhere x.world (splats_of (at_address a) cells)
  pub colours : y.colours ≡ x.colours
  pub band : y.band ≡ x.band
  pub left : units_left y ≡ units_left x
  pub spent : y.running.spent ≡ x.running.spent
  pub allowed : y.running.units ≡ x.running.units

-- one cell more, at the front
splatted_first : (x : Collecting) (holder : Id) (a : Address) (cell : ℕ) (cells : List ℕ) (y z : Collecting)
    → world_after_moves x.world (moves.Splat (at_address a) cell ∷ []) ≡ y.world
    → AreLegalAnywhere x.world (moves.Splat (at_address a) cell ∷ [])
    → y.colours ≡ x.colours → y.band ≡ x.band → units_left y ≡ units_left x → y.running.spent ≡ x.running.spent
    → y.running.units ≡ x.running.units → AreSplatted y holder a cells z → AreSplatted x holder a (cell ∷ cells) z
splatted_first x holder a cell cells y z leads legal colours band left spent allowed rest = record {
  running = rest.running;
  kept = rest.kept;
  leads = ap (λ v. world_after_moves v (splats_of (at_address a) cells)) leads ∙ rest.leads;
  legal = legal_append x.world (moves.Splat (at_address a) cell ∷ []) (splats_of (at_address a) cells) legal
      (subst (λ v. AreLegalAnywhere v (splats_of (at_address a) cells)) (sym leads) rest.legal);
  colours = rest.colours ∙ colours;
  band = rest.band ∙ band;
  left = rest.left ∙ left;
  spent = rest.spent ∙ spent;
  allowed = rest.allowed ∙ allowed;
}

pub are_splatted : {holder : Id} {x y : Collecting} {cells : List ℕ} → Splats holder x cells y → Running x → is_tracing_band x.band ≡ false
    → is_reclaiming_band x.band ≡ false → is_grey x.colours holder ≡ true → (a : Address) → id_at x.world a ≡ Some holder
    → AreSplatted x holder a cells y
are_splatted {x = x} (splats_no_more kept) run later before_last grey a there = record {
  running = run;
  kept = kept;
  leads = refl;
  legal = no_moves_legal x.world;
  colours = refl;
  band = refl;
  left = refl;
  spent = refl;
  allowed = refl;
}
are_splatted {holder = holder} {x = x} {y = z}
    (splats_cell {cell = cell} {target} {cells} refers white rest) run later before_last grey a there =
    let running = splat_running x run later before_last holder cell in
    splatted_first x holder a cell cells (collecting_after_splat x holder cell) z
    (splat_leads x run later before_last holder grey cell a there target refers white)
    (one_legal x.world (moves.Splat (at_address a) cell)
    (splat_is_legal x run later before_last holder grey cell a there target refers white))
    refl refl refl refl refl
    (are_splatted rest running later before_last grey a there)

-- ---- the unit

-- a collection in which a weak object is scanned is in the weak band then
pub in_weak_band : (x : Collecting) → Running x → IsDrainedIn x → AreAllExamined x → is_reclaiming_band x.band ≡ false
    → Running (record x { band = Weak })
in_weak_band x run drained examined before_last = record {
  runs = run.runs;
  different = run.different;
  condemned = run.condemned;
  coloured = run.coloured;
  grey = run.grey;
  settled = run.settled;
  survivors = run.survivors;
  examined = run.examined;
  band = record {
    tracing = λ h. absurd (false≢true h);
    splatting = λ h. run.band.splatting before_last;
    drained = λ h. drained;
    examined = λ h. examined;
    scanned = λ h. absurd (false≢true h);
    referred_live = λ h. run.band.referred_live before_last;
    unswept = λ h. run.band.unswept before_last;
  };
  swept = run.swept;
  units = run.units;
}

-- where an object is grey, no segment is reclaimed yet
pub grey_before_last : (x : Collecting) (id : Id) → Running x → is_grey x.colours id ≡ true → is_reclaiming_band x.band ≡ false
grey_before_last x id run grey = elim (cases_Bool (is_reclaiming_band x.band)) [
  | inl last ↦ absurd (true≢false (sym grey ∙ run.band.scanned last id))
  | inr before ↦ before
]

pub splats_shown : (x y : Collecting) (id : Id) (cells : List ℕ) → Running x → IsDrainedIn x → AreAllExamined x
    → is_grey x.colours id ≡ true
    → Splats id (record x { band = Weak }) cells y → IsUnitShown x (splats_by x id cells) (collecting_after_scan y id)
splats_shown x y id cells run drained examined grey done =
    let a = address_or_null x.world id in
    let begun = in_weak_band x run drained examined (grey_before_last x id run grey) in
    let s = are_splatted done begun refl refl grey a (id_at-live x.world id run.different (run.grey.grey_live id grey)) in
    let fewer : units_left (collecting_after_scan y id) < units_left y =
    scanned_fewer y s.running id s.kept (ap (λ k. is_grey k id) s.colours ∙ grey) in
    record {
      running = scanned_running y s.running id s.kept;
      leads = s.leads;
      legal = s.legal;
      is_piece = splats (at_address a) cells refl;
      fewer = let same = s.left in omega (arith, fewer, same);
      spent = s.spent;
      allowed = s.allowed;
    }
