-- The act of a flip: what slots and messages hold is fixed by the moves that the model computes, and then the invariant holds.
use Rattle.std.proofs.Common.{◌≡◌, ◌∙◌, ◌≤◌, arith, Bool, true, false, refl, sym, ap, List, [], ◌∷◌, ◌++◌, Some, subst, inl, inr}
use Rattle.std.proofs.lemmas.Bool.{false≢true, true≢false, eqb-true, cases_Bool}
use Rattle.std.specs.Prelude.{◌==◌, ◌&&◌, ◌||◌, not, if◌then◌else◌}
use Rattle.std.specs.Option.{option_map_or}
use Rattle.mps_base.specs.Address.{Id}
use Rattle.mps_base.specs.Placement.{Placement, Place, NewSegment, OverLimit, NoFreeRun}
use Rattle.mps_base.specs.declared.moves.Move.{Move}
use Rattle.mps_model.specs.Graph.{contains}
use Rattle.mps_model.specs.Reachable.{begins}
use Rattle.mps_model.specs.Collection.{Collection, is_condemned, is_settled, is_surely_kept}
use Rattle.mps_model.specs.World.{World, is_live, is_copying_object}
use Rattle.mps_model.specs.Accessing.{address_or_null}
use Rattle.mps_model.specs.Placement.{ForMove, placement_of}
use Rattle.mps_model.specs.Effect.{placing, world_after_moves}
use Rattle.mps_model.specs.LegalMove.{has_no_room}
use Rattle.mps_model.specs.Flip.{must_be_fixed, moves_to, fix, fix_all}
use Rattle.mps_model.proofs.Cutting.{world_after_moves-append}
use Rattle.mps_abstract.specs.Colours.{Colours, is_white, keeping}
use Rattle.mps_abstract.specs.Collecting.{Collecting, Running, is_tracing_band, is_white_in, units_left}
use Rattle.mps_abstract.specs.Fixing.{Keeps, marks, moves_to_place, moves_to_segment, stays, kept_by, stays_at, Fixes, fixes_no_more, passes, keeps}
use Rattle.mps_abstract.proofs.Lists.{contains_here, contains_later, contains_cases}
use Rattle.mps_abstract.proofs.Kept.{IsKept, keeps_leaves}
use Rattle.mps_abstract.proofs.Keeping.{it_is_kept, still_kept}
use Rattle.mps_abstract.proofs.KeptRunning.{kept_running, same_state, no_more}
use Rattle.mps_abstract.proofs.KeepsLegal.{keeps_legal}
use Rattle.mps_abstract.proofs.Joining.{AreLegalAnywhere, no_moves_legal, legal_append}
use Rattle.mps_abstract.proofs.FlipActs.Flipped.{bare, bare_state}

-- of the objects of copying pools just those are settled that are kept, as long as no client call comes between
abbrev pub AreKeptSettled : World → Collection → Colours → Type 0
AreKeptSettled w c k = (id : Id) → is_copying_object w id ≡ true → contains k.kept id ≡ is_settled c id

-- a state in the act of a flip
pub record IsFlipping (x : Collecting) : Type 0 where
  pub running : Running (bare_state x)
  pub tracing : is_tracing_band x.band ≡ true
  pub same : AreKeptSettled x.world x.running x.colours

-- objects that are fixed: live, and roots from which what survives is linked
abbrev pub AreRoots : Collecting → List Id → Type 0
AreRoots x ids = (id : Id) → contains ids id ≡ true → (is_live x.world id ≡ true) × (contains x.running.origins id ≡ true)

-- ---- one object

-- what was kept, in worlds without what the client holds
bare_kept : {w w' : World} {c c' : Collection} {id : Id} → IsKept w c id w' c' → IsKept (bare w) c id (bare w') c'
bare_kept r = record {
  addresses = r.addresses;
  segments = r.segments;
  tails = r.tails;
  placed = r.placed;
  world = ap bare r.world;
  running = r.running;
  live = r.live;
  others = r.others;
  different = r.different;
  held = r.held;
  base_of = r.base_of;
  placed_only = r.placed_only;
  placed_still = r.placed_still;
  in_place = r.in_place;
}

kept_so : (p q h e k : Bool) → k ≡ (p || (q || h)) → (e || k) ≡ (p || ((e || q) || h))
kept_so true q h true k s = refl
kept_so true q h false k s = s
kept_so false q h true k s = refl
kept_so false q h false k s = s

placed_same : (w w' : World) (c : Collection) (k : Colours) (id : Id) → ((n : Id) → is_copying_object w' n ≡ is_copying_object w n)
    → AreKeptSettled w c k → AreKeptSettled w' (placing id c) (keeping k id)
placed_same w w' c k id alike same n h =
    kept_so (contains c.pinned n) (contains c.placed n) (contains c.had n) (id == n) (contains k.kept n) (same n (sym (alike n) ∙ h))

marked_same : (w : World) (c : Collection) (k : Colours) (id : Id) → is_copying_object w id ≡ false → AreKeptSettled w c k
    → AreKeptSettled w c (keeping k id)
marked_same w c k id other same n h = elim (cases_Bool (id == n)) [
  | inl e ↦ absurd (false≢true (sym other ∙ ap (is_copying_object w) (eqb-true id n e) ∙ h))
  | inr e ↦ ap (λ b. b || contains k.kept n) e ∙ same n h
]

kept_same : {w : World} {c c' : Collection} {id : Id} {ms : List Move} → Keeps w c id ms c' → (k : Colours) → (w' : World)
    → ((n : Id) → is_copying_object w' n ≡ is_copying_object w n) → AreKeptSettled w c k → AreKeptSettled w' c' (keeping k id)
kept_same {w = w} {c = c} {id = id} (marks other) k w' alike same n h = marked_same w c k id other same n (sym (alike n) ∙ h)
kept_same {w = w} {c = c} {id = id} (moves_to_place copying placed free) k w' alike same n h = placed_same w w' c k id alike same n h
kept_same {w = w} {c = c} {id = id} (moves_to_segment copying placed unused) k w' alike same n h = placed_same w w' c k id alike same n h
kept_same {w = w} {c = c} {id = id} (stays copying room) k w' alike same n h = placed_same w w' c k id alike same n h

-- ---- the moves of the model

fix_where : (w : World) (id : Id) (b : Bool) → must_be_fixed w id ≡ b
    → fix w id ≡ (if b then moves_to w id (address_or_null w id) (placement_of w (ForMove id)) else [])
fix_where w id b e = ap (λ b. if b then moves_to w id (address_or_null w id) (placement_of w (ForMove id)) else []) e

must_be : (w : World) (c : Collection) (id : Id) → w.collection ≡ Some c
    → must_be_fixed w id ≡ (not (not (is_condemned c id) || is_settled c id) && is_copying_object w id)
must_be w c id runs = ap (λ o. option_map_or (λ c. not (is_surely_kept c id)) o false && is_copying_object w id) runs

-- where it isn't white it isn't moved
need_not : (d k s b : Bool) → (b ≡ true → k ≡ s) → (d && not k) ≡ false → (not (not d || s) && b) ≡ false
need_not true true s true same h = ap (λ e. not e && true) (sym (same refl))
need_not true false s b same h = absurd (true≢false h)
need_not false k s true same h = refl
need_not false k s false same h = refl
need_not true true true false same h = refl
need_not true true false false same h = refl

must : (d k s b : Bool) → b ≡ true → k ≡ s → (d && not k) ≡ true → (not (not d || s) && b) ≡ true
must true true s b copying same h = absurd (false≢true h)
must true false true b copying same h = absurd (false≢true same)
must true false false b copying same h = copying
must false k s b copying same h = absurd (false≢true h)

need_no : (d s b : Bool) → b ≡ false → (not (not d || s) && b) ≡ false
need_no d s true h = absurd (true≢false h)
need_no d s false h = of_test (not (not d || s))
  where
    of_test : (t : Bool) → (t && false) ≡ false
    of_test true = refl
    of_test false = refl

stays_so : (w : World) (id : Id) (p : Placement) → has_no_room p ≡ true → moves_to w id (address_or_null w id) p ≡ stays_at w id ∷ []
stays_so w id (Place word) h = absurd (false≢true h)
stays_so w id (NewSegment grain grains) h = absurd (false≢true h)
stays_so w id (OverLimit committed need limit) h = refl
stays_so w id (NoFreeRun need longest) h = refl

fix_passed : (x : Collecting) (id : Id) → x.world.collection ≡ Some x.running → AreKeptSettled x.world x.running x.colours
    → is_white_in x id ≡ false → fix x.world id ≡ []
fix_passed x id runs same black =
    fix_where x.world id false (must_be x.world x.running id runs
    ∙ need_not (is_condemned x.running id) (contains x.colours.kept id) (is_settled x.running id) (is_copying_object x.world id)
    (same id) black)

fix_kept : (w : World) (c : Collection) (k : Colours) (id : Id) (ms : List Move) (c' : Collection) → w.collection ≡ Some c
    → AreKeptSettled w c k
    → is_white c.condemned k id ≡ true → Keeps w c id ms c' → fix w id ≡ ms
fix_kept w c k id ms c' runs same white (marks other) =
    fix_where w id false (must_be w c id runs ∙ need_no (is_condemned c id) (is_settled c id) (is_copying_object w id) other)
fix_kept w c k id ms c' runs same white (moves_to_place copying placed free) =
    fix_where w id true (must_be w c id runs
    ∙ must (is_condemned c id) (contains k.kept id) (is_settled c id) (is_copying_object w id) copying (same id copying) white)
    ∙ ap (moves_to w id (address_or_null w id)) placed
fix_kept w c k id ms c' runs same white (moves_to_segment copying placed unused) =
    fix_where w id true (must_be w c id runs
    ∙ must (is_condemned c id) (contains k.kept id) (is_settled c id) (is_copying_object w id) copying (same id copying) white)
    ∙ ap (moves_to w id (address_or_null w id)) placed
fix_kept w c k id ms c' runs same white (stays copying room) =
    fix_where w id true (must_be w c id runs
    ∙ must (is_condemned c id) (contains k.kept id) (is_settled c id) (is_copying_object w id) copying (same id copying) white)
    ∙ stays_so w id (placement_of w (ForMove id)) room

-- ---- one after the other

-- what is shown of them
pub record AreFixed (x : Collecting) (ids : List Id) (ms : List Move) (y : Collecting) : Type 0 where
  pub flipping : IsFlipping y
  pub leads : world_after_moves x.world ms ≡ y.world
  pub legal : AreLegalAnywhere x.world ms
  pub act : fix_all x.world ids ≡ ms
  pub graph : y.world.graph ≡ x.world.graph
  pub live : (id : Id) → is_live y.world id ≡ is_live x.world id
  pub black : (id : Id) → is_white_in x id ≡ false → is_white_in y id ≡ false
  pub fixed : (id : Id) → contains ids id ≡ true → is_white_in y id ≡ false
  -- and no more units are left
  pub left : units_left y ≤ units_left x

-- what is shown of one that is kept
record IsOneKept (x : Collecting) (id : Id) (ms : List Move) (c' : Collection) : Type 0 where
  flipping : IsFlipping (kept_by x id ms c')
  legal : AreLegalAnywhere x.world ms
  graph : (world_after_moves x.world ms).graph ≡ x.world.graph
  live : (n : Id) → is_live (world_after_moves x.world ms) n ≡ is_live x.world n
  condemned : c'.condemned ≡ x.running.condemned
  origins : c'.origins ≡ x.running.origins
  left : units_left (kept_by x id ms c') ≤ units_left x

one_kept : (x : Collecting) (id : Id) (ms : List Move) (c' : Collection) → IsFlipping x → is_white_in x id ≡ true
    → is_live x.world id ≡ true
    → contains x.running.origins id ≡ true → Keeps x.world x.running id ms c' → IsOneKept x id ms c'
one_kept x id ms c' f white live root ks = record {
  flipping = record {
    running = subst (λ (y : Collecting). Running y)
        (sym (same_state (bare_state x) f.running f.tracing id live white (bare (world_after_moves x.world ms)) c' (bare_kept r)))
        (kept_running (bare_state x) f.running f.tracing id live white (bare (world_after_moves x.world ms)) c' (bare_kept r)
        (inr (begins root)));
    tracing = f.tracing;
    same = kept_same ks x.colours (world_after_moves x.world ms) (λ n. ap (λ (w : World). is_copying_object w n) r.world) f.same;
  };
  legal = keeps_legal x.world x.running x.colours id f.running.runs f.running.different live (f.running.band.tracing f.tracing) white
      f.running.settled ks;
  graph = ap (λ (w : World). w.graph) r.world;
  live = λ n. ap (λ (w : World). is_live w n) r.world ∙ r.live n;
  condemned = ap (λ (c : Collection). c.condemned) r.running;
  origins = ap (λ (c : Collection). c.origins) r.running;
  left = subst (λ (y : Collecting). units_left y ≤ units_left (bare_state x))
      (sym (same_state (bare_state x) f.running f.tracing id live white (bare (world_after_moves x.world ms)) c' (bare_kept r)))
      (no_more (bare_state x) f.running f.tracing id live white (bare (world_after_moves x.world ms)) c' (bare_kept r));
}
  where
    r : IsKept x.world x.running id (world_after_moves x.world ms) c'
    r = keeps_leaves x.world x.running id f.running.runs f.running.different live ks

pub flip_fixes : {x y : Collecting} {ids : List Id} {ms : List Move} → Fixes x ids ms y → IsFlipping x → AreRoots x ids
    → AreFixed x ids ms y
flip_fixes (fixes_no_more {x}) f roots = record {
  flipping = f;
  leads = refl;
  legal = no_moves_legal x.world;
  act = refl;
  graph = refl;
  live = λ id. refl;
  black = λ id h. h;
  fixed = λ id h. absurd (false≢true h);
  left = omega arith;
}
flip_fixes (passes {x} {y} {id} {ids} {ms} black rest) f roots =
    let r = flip_fixes rest f (λ n h. roots n (contains_later id ids n h)) in
    record {
      flipping = r.flipping;
      leads = r.leads;
      legal = r.legal;
      act = ap (λ these. these ++ fix_all (world_after_moves x.world these) ids) (fix_passed x id f.running.runs f.same black) ∙ r.act;
      graph = r.graph;
      live = r.live;
      black = r.black;
      fixed = λ n h. elim (contains_cases id ids n h) [
        | inl same ↦ r.black n (subst (λ m. is_white_in x m ≡ false) same black)
        | inr later ↦ r.fixed n later
      ];
      left = r.left;
    }
flip_fixes (keeps {x} {y} {id} {ids} {these} {those} {c} white ks rest) f roots =
    let root = roots id (contains_here id ids) in
    let one = one_kept x id these c f white root.0 root.1 ks in
    let r = flip_fixes rest one.flipping (λ n h. let it = roots n (contains_later id ids n h) in
    (one.live n ∙ it.0, ap (λ os. contains os n) one.origins ∙ it.1)) in
    record {
      flipping = r.flipping;
      leads = world_after_moves-append x.world these those ∙ r.leads;
      legal = legal_append x.world these those one.legal r.legal;
      act = ap (λ ms. ms ++ fix_all (world_after_moves x.world ms) ids)
          (fix_kept x.world x.running x.colours id these c f.running.runs f.same white ks)
          ∙ ap (λ ms. these ++ ms) r.act;
      graph = r.graph ∙ one.graph;
      live = λ n. r.live n ∙ one.live n;
      black = λ n h. r.black n (ap (λ ids. is_white ids (keeping x.colours id) n) one.condemned
          ∙ still_kept x.running.condemned x.colours id n h);
      fixed = λ n h. elim (contains_cases id ids n h) [
        | inl same ↦ r.black n (ap (λ ids. is_white ids (keeping x.colours id) n) one.condemned
            ∙ subst (λ m. is_white x.running.condemned (keeping x.colours id) m ≡ false) same (it_is_kept x.running.condemned x.colours id))
        | inr later ↦ r.fixed n later
      ];
      left = let some = r.left in let fewer = one.left in omega (arith, some, fewer);
    }
