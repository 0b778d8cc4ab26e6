-- The scan of a grey weak object is a sequence of splats, after which there is room for the moves that are left.
use Rattle.std.proofs.Common.{◌≡◌, ◌∙◌, ℕ, ◌+◌, ◌-◌, ◌<◌, ◌≤◌, Bool, true, false, refl, sym, ap, subst, List, [], ◌++◌, map, Option, Some, arith}
use Rattle.std.specs.Prelude.{◌&&◌, if◌then◌else◌, is_some, option_map, slice_get}
use Rattle.std.specs.Option.{option_map_or}
use Rattle.mps_base.specs.Address.{Address, Id}
use Rattle.mps_base.specs.declared.address.Addr.{Addr}
use Rattle.mps_format.specs.Layout.{Layout}
use Rattle.mps_format.specs.declared.pool.Policy.{Policy}
use Rattle.mps_trace.specs.GenState.{ChainsState}
use Rattle.mps_trace.specs.Splat.{Splatted}
use Rattle.mps_trace.specs.Trace.{Traced}
use Rattle.mps_model.specs.Collection.{Collection}
use Rattle.mps_model.specs.Flip.{at_address}
use Rattle.mps_model.specs.Graph.{Object, is_weak_object, size_of}
use Rattle.mps_model.specs.Units.{splats_of}
use Rattle.mps_model.specs.World.{World, is_copying_pool, live_ids}
use Rattle.mps_abstract.specs.Colours.{Colours, blackened, is_grey, is_to_scan, is_white}
use Rattle.mps_abstract.specs.Collecting.{Band, Collecting}
use Rattle.mps_abstract.specs.Units.{Splats, collecting_after_scan, splats_by}
use Rattle.mps_abstract.proofs.Addresses.{live_is_listed}
use Rattle.mps_abstract.proofs.Lists.{count_by-le}
use Rattle.mps_trace_laws.specs.Image.Image.{AreShaped, black_cells}
use Rattle.mps_trace_laws.specs.Image.Memory.{pool_layout}
use Rattle.mps_trace_laws.specs.Fix.Room.{moves_left, moving_left, splats_at, splats_left, weak_cells}
use Rattle.mps_trace_laws.specs.Fix.Scanning.{IsToBeScanned}
use Rattle.mps_trace_laws.specs.Fix.Tracing.{StateStands, TracingStands}
use Rattle.mps_trace_laws.specs.Splats.Laws.{IsSplatScan}
use Rattle.mps_trace_laws.proofs.Fix.SplatsLeft.{splats_fewer, sum_by-no_more}
use Rattle.mps_trace_laws.proofs.Splats.Alike.{Outline, outline_of, IsButSplatted, splats_leave, outlines_at}
use Rattle.mps_trace_laws.proofs.Splats.Scanned.{a_splat_scan_is_a_scan}

-- ---- objects of the same outlines

-- what is said of an object by its outline
by_outline : {A : Type 0} (test : Outline → A) (none : A) (o : Option Object)
    → option_map_or (λ p. test (outline_of p)) o none ≡ option_map_or test (option_map outline_of o) none
by_outline test none Rattle.std.specs.Prelude.None = refl
by_outline test none (Some o) = refl

-- objects of the same outlines are alike
pub said_alike : {A : Type 0} (test : Outline → A) (none : A) (os ps : List Object) (id : Id) → map outline_of ps ≡ map outline_of os
    → option_map_or (λ p. test (outline_of p)) (slice_get ps id) none ≡ option_map_or (λ p. test (outline_of p)) (slice_get os id) none
said_alike test none os ps id same =
    by_outline test none (slice_get ps id) ∙ ap (λ o. option_map_or test o none) (outlines_at os ps id same)
    ∙ sym (by_outline test none (slice_get os id))

-- as many cells may be splatted
splats_alike : (os ps : List Object) (condemned : List Id) (k : Colours) (live : List Id) → map outline_of ps ≡ map outline_of os
    → splats_left ps condemned k live ≤ splats_left os condemned k live
splats_alike os ps condemned k live same = sum_by-no_more (splats_at ps condemned k) (splats_at os condemned k) live each
  where
    each : (id : Id) → splats_at ps condemned k id ≤ splats_at os condemned k id
    each id =
        let e = ap (λ (n : ℕ). let cells : ℕ = if is_to_scan condemned k id then n else 0 in cells)
        (said_alike (λ v. if v.is_weak then v.size - 1 else 0) 0 os ps id same)
        in
        omega (arith, e)

-- as many white ones are in pools that move their blocks
moving_alike : (is_copying : ℕ → Bool) (os ps : List Object) (condemned : List Id) (k : Colours) (live : List Id)
    → map outline_of ps ≡ map outline_of os
    → moving_left (λ id. option_map_or (λ o. is_copying o.pool) (slice_get ps id) false) condemned k live
    ≤ moving_left (λ id. option_map_or (λ o. is_copying o.pool) (slice_get os id) false) condemned k live
moving_alike is_copying os ps condemned k live same =
    count_by-le (λ id. is_white condemned k id && option_map_or (λ o. is_copying o.pool) (slice_get ps id) false)
    (λ id. is_white condemned k id && option_map_or (λ o. is_copying o.pool) (slice_get os id) false) live
    (λ id is. sym (ap (λ b. is_white condemned k id && b) (said_alike (λ v. is_copying v.pool) false os ps id same)) ∙ is)

-- cells of a weak object
cells_if_weak : (o : Object) → is_weak_object o ≡ true → weak_cells o ≡ size_of o - 1
cells_if_weak o is = ap (λ b. let n : ℕ = if b then size_of o - 1 else 0 in n) is

-- ---- a grey weak object

-- the abstract collector after a weak object was scanned: other objects, of the same outlines, and another phase
abbrev pub after_weak_scan : (before : Collecting) → (id : Id) → (splatted : Collecting) → Collecting
after_weak_scan y id splatted = record {
  world = record y.world {
    graph = record y.world.graph { objects = splatted.world.graph.objects };
    collection = splatted.world.collection;
  };
  running = record y.running { phase = splatted.running.phase };
  colours = blackened y.colours id;
  band = y.band;
  next = y.next;
  cursor = y.cursor;
}

-- a weak object was scanned: by these splats, which are the moves of the trail, and the state represents the abstract collector after it
pub record IsWeakScan {F : Type 0} (layout : F → Layout) (formats : List (Option (Policy F))) (of : ChainsState)
    (at_flip : List (Option Address)) (x z : Traced) (y : Collecting) (id : Id) : Type 0 where
  pub cells : List ℕ
  pub splatted : Collecting
  pub splats : Splats id y cells splatted
  pub but : IsButSplatted y splatted
  pub after_is : collecting_after_scan splatted id ≡ after_weak_scan y id splatted
  pub traces : TracingStands layout formats of at_flip
      (black_cells (after_weak_scan y id splatted).running.condemned (after_weak_scan y id splatted).colours) z
      (after_weak_scan y id splatted)
  pub shaped : AreShaped splatted.world.graph.objects (pool_layout (after_weak_scan y id splatted).world)
  pub trail : z.moves.moves ≡ x.moves.moves ++ splats_by y id cells

module _ {F : Type 0} (layout : F → Layout) (formats : List (Option (Policy F))) (of : ChainsState) (at_flip : List (Option Address))
    (x : Traced) (y : Collecting) (traces : TracingStands layout formats of at_flip (black_cells y.running.condemned y.colours) x y)
    (id : Id) (at : Addr) (o : Object) (found : IsToBeScanned y id at.0 o) (grey : is_grey y.colours id ≡ true)
    (weak : is_weak_object o ≡ true) where
  -- its cells are among those that may be splatted
  fewer : splats_left y.world.graph.objects y.running.condemned (blackened y.colours id) (live_ids y.world) + (size_of o - 1)
      ≤ splats_left y.world.graph.objects y.running.condemned y.colours (live_ids y.world)
  fewer =
      let less =
      splats_fewer y.world.graph.objects y.running.condemned y.colours id o (live_ids y.world)
      (live_is_listed y.world id (ap is_some found.there)) found.object found.not_white grey
      in
      let cells = cells_if_weak o weak in
      omega (arith, less, cells)

  -- so there is room for a splat of each
  pub room_for_splats : size_of o - 1 < x.moves.spare
  room_for_splats = let room = traces.room in let less = fewer in omega (arith, room, less)

  module _ (none_dependent : y.world.graph.dependents ≡ []) (shaped : AreShaped y.world.graph.objects (pool_layout y.world)) (z : Traced)
      (is : Splatted layout formats x at z) where
    scan : IsSplatScan layout formats of at_flip x z y id at (size_of o)
    scan = a_splat_scan_is_a_scan layout formats of at_flip x z y id at o none_dependent shaped traces found is

    but : IsButSplatted y scan.after
    but = splats_leave scan.splats

    abbrev after : Collecting
    after = after_weak_scan y id scan.after

    after_is : collecting_after_scan scan.after id ≡ after
    after_is =
        let last = collecting_after_scan scan.after id in
        ap (λ (w : World). let u : Collecting = record last { world = w } in u) but.world
        ∙ ap (λ (c : Collection). let u : Collecting = record last { world = after.world; running = c } in u) but.running
        ∙ ap (λ (k : Colours). let u : Collecting = record after {
          colours = blackened k id;
          band = last.band;
          next = last.next;
          cursor = last.cursor;
        } in u) but.colours
        ∙ ap (λ (b : Band). let u : Collecting = record after { band = b; next = last.next; cursor = last.cursor } in u) but.band
        ∙ ap (λ (n : ℕ). let u : Collecting = record after { next = n; cursor = last.cursor } in u) but.next
        ∙ ap (λ (c : Address). let u : Collecting = record after { cursor = c } in u) but.cursor

    room_then : moves_left after + 2 ≤ z.moves.spare
    room_then =
        let before = traces.room in
        let less = fewer in
        let alike =
        splats_alike y.world.graph.objects scan.after.world.graph.objects y.running.condemned (blackened y.colours id) (live_ids y.world)
        but.outlines
        in
        let moving =
        moving_alike (is_copying_pool y.world) y.world.graph.objects scan.after.world.graph.objects y.running.condemned
        (blackened y.colours id) (live_ids y.world) but.outlines
        in
        let few = scan.few in
        let spare = scan.spare in
        omega (arith, before, less, alike, moving, few, spare)

    pub weak_scan : IsWeakScan layout formats of at_flip x z y id
    weak_scan = record {
      cells = scan.cells;
      splatted = scan.after;
      splats = scan.splats;
      but = but;
      after_is = after_is;
      traces = record {
        state =
            subst (λ (u : Collecting). StateStands layout formats of at_flip (black_cells u.running.condemned u.colours) z.amc z.segs u)
            after_is scan.state;
        room = room_then;
      };
      shaped = subst (λ (w : World). AreShaped scan.after.world.graph.objects (pool_layout w)) but.world scan.shaped;
      trail =
          scan.trail
          ∙ ap (λ a. x.moves.moves ++ splats_of a scan.cells)
          (sym (ap (λ p. at_address (option_map_or (λ at. at) p 0)) found.there));
    }
