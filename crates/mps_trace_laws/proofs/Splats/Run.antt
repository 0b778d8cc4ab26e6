-- The run over the references of a weak block, cell by cell.
use Rattle.std.proofs.Common.{◌≡◌, ◌∙◌, ℕ, ◌+◌, ◌-◌, ◌<◌, ◌≤◌, Bool, true, false, refl, sym, ap, List, [], ◌∷◌, ◌++◌, length, Option, Some, None, subst, inl, inr, arith}
use Rattle.std.proofs.lemmas.Bool.{cases_eq, or_right, true≢false}
use Rattle.std.proofs.lemmas.List.{append-nil, append_assoc, length-set}
use Rattle.std.proofs.lemmas.Option.{same_Some}
use Rattle.std.specs.Prelude.{slice_get, slice_set, slice_index, ◌==◌, ◌&&◌, IsTrue}
use Rattle.std.specs.Option.{option_map_or}
use Rattle.mps_base.specs.Address.{Address, Id, word_of}
use Rattle.mps_base.specs.Trail.{Moves, with_move}
use Rattle.mps_base.specs.declared.address.Addr.{Addr}
use Rattle.mps_base.specs.declared.moves.Move.TheVariants.{Splat}
use Rattle.mps_format.specs.Layout.{Layout}
use Rattle.mps_trace.specs.GenState.{ChainsState}
use Rattle.mps_seg.specs.Collecting.{first_grain_over}
use Rattle.mps_model.specs.Graph.{Cell, HeadCell, ReferenceCell, Automatic, Object, entry_at, size_of, size_of_body, is_reference_cell, is_automatic}
use Rattle.mps_model.specs.Checked.{head_of_body}
use Rattle.mps_model.specs.Units.{splats_of}
use Rattle.mps_abstract.specs.Colours.{Colours}
use Rattle.mps_abstract.specs.Collecting.{Collecting, is_white_in}
use Rattle.mps_abstract.specs.Units.{Splats, splats_cell, collecting_after_splat}
use Rattle.mps_trace_laws.specs.Image.Memory.{Setting, Memory, Lies, all_cells, memory_in, pool_layout}
use Rattle.mps_trace_laws.specs.Image.Image.{CellSet, with_cell, ImageStands, AreShaped, IsFixedWord}
use Rattle.mps_trace_laws.specs.Image.Fixing.{Target}
use Rattle.mps_trace_laws.proofs.Image.References.{FoundTarget}
use Rattle.mps_trace_laws.proofs.Image.Targets as targets
use Rattle.mps_model.specs.Effect.{graph_nulled}
use Rattle.mps_model.specs.Graph.{dependent_in}
use Rattle.mps_trace_laws.specs.Image.Changes.{setting_with_objects, IsCellChanged}
use Rattle.mps_trace_laws.proofs.Image.CellChanged.{graph_cell_changed, target_changed}
use Rattle.mps_trace_laws.proofs.Image.Entries.{slice_get-set_same, slice_get-set_other}
use Rattle.mps_trace.specs.Trace.{Traced}
use Rattle.mps_trace.specs.Scan.{word_at, target_at, after_redirect}
use Rattle.mps_trace_laws.specs.Fix.Tracing.{TracingStands, StateStands, setting_of}
use Rattle.mps_trace_laws.specs.Fix.Room.{moves_left}
use Rattle.mps_trace_laws.specs.Fix.Scanning.{IsToBeScanned}
use Rattle.mps_trace.specs.Finding.{CanFind, FindsTo}
use Rattle.mps_trace.specs.Splat.{SplatsCell, is_null, updates, splats, CanSplatCell}
use Rattle.mps_trace_laws.specs.Fix.Finding.{FindsObject, there, white}
use Rattle.mps_format.specs.declared.pool.Policy.{Policy}
use Rattle.mps_trace_laws.proofs.Fix.CanFix.{target_can_be_fixed}
use Rattle.mps_trace_laws.proofs.Fix.Finding.{object_found}
use Rattle.mps_trace_laws.proofs.Splats.OneCell as cell_of
use Rattle.mps_trace_laws.proofs.Splats.Shapes as shape
use Rattle.mps_trace_laws.proofs.Splats.Standing.{noted, splatted_state}
use Rattle.mps_trace_laws.proofs.Splats.Cells.{now_done, in_range, CellCases, is_none, is_nothing, is_one, cell_cases}

module _ (F : Type 0) (layout : F → Layout) (formats : List (Option (Policy F))) (of : ChainsState) (at_flip : List (Option Address))
    (done : CellSet) (x : Traced) (y : Collecting) (holder : Id) (at : Addr) (o : Object) (cells : List Cell) (is_weak : Bool)
    (none_paired : y.world.graph.dependents ≡ []) (shaped : AreShaped y.world.graph.objects (pool_layout y.world))
    (st : StateStands layout formats of at_flip done x.amc x.segs y)
    (scan : IsToBeScanned y holder at.0 o) (body : o.body ≡ Automatic (head_of_body o.body) cells is_weak) where
  abbrev head : ℕ
  head = head_of_body o.body

  abbrev f : Layout
  f = pool_layout y.world o.pool

  abbrev L : ℕ → Layout
  L = pool_layout y.world

  -- the cells before one were gone over
  pub record To (z : Traced) (before : ℕ) : Type 0 where
    pub after : Collecting
    pub these : List ℕ
    pub row : (more : List ℕ) (last : Collecting) → Splats holder after more last → Splats holder y (these ++ more) last
    pub trail : z.moves.moves ≡ x.moves.moves ++ splats_of at these
    pub few : length these ≤ before - 1
    pub spare : x.moves.spare ≤ z.moves.spare + length these
    pub amc : z.amc ≡ x.amc
    pub colours : after.colours ≡ y.colours
    pub addresses : after.world.addresses ≡ y.world.addresses
    pub condemned : after.running.condemned ≡ y.running.condemned
    pub unpaired : after.world.graph.dependents ≡ []
    pub pools : pool_layout after.world ≡ L
    pub object : Object
    pub there_now : slice_get after.world.graph.objects holder ≡ Some object
    pub pool : object.pool ≡ o.pool
    pub left : List Cell
    pub body_now : object.body ≡ Automatic head left is_weak
    pub long : length left ≡ length cells
    pub rest : (j : ℕ) → before ≤ j → slice_get left j ≡ slice_get cells j
    pub shaped_now : AreShaped after.world.graph.objects (pool_layout after.world)
    pub done_after : CellSet
    pub more : (j l : ℕ) → done j l ≡ true → done_after j l ≡ true
    pub all : (l : ℕ) → l < before → done_after holder l ≡ true
    pub state : StateStands layout formats of at_flip done_after z.amc z.segs after

  pub start : To x 0
  start = record {
    after = y;
    these = [];
    row = λ more last rest. rest;
    trail = sym (append-nil x.moves.moves);
    few = omega arith;
    spare = omega arith;
    amc = refl;
    colours = refl;
    addresses = refl;
    condemned = refl;
    unpaired = none_paired;
    pools = refl;
    object = o;
    there_now = scan.object;
    pool = refl;
    left = cells;
    body_now = body;
    long = refl;
    rest = λ j low. refl;
    shaped_now = shaped;
    done_after = done;
    more = λ j l d. d;
    all = λ l lt. absurd (omega (arith, lt));
    state = st;
  }

  module _ (z : Traced) (i : ℕ) (run : To z i) (within : i < length cells) where
    abbrev pub u : Collecting
    u = run.after

    abbrev set : Setting
    set = setting_of z.segs at_flip u

    abbrev m : Memory
    m = memory_in z.segs

    pub inside : i < size_of run.object
    inside =
        let size = ap size_of_body run.body_now in
        let long = run.long in
        omega (arith, within, size, long)

    pub holder_there : entry_at u.world.addresses holder ≡ Some at.0
    holder_there = ap (λ ps. entry_at ps holder) run.addresses ∙ scan.there

    pub live_now : (t tag : ℕ) → slice_get cells i ≡ Some (ReferenceCell (Some t) tag)
        → (now : Address) × (entry_at u.world.addresses t ≡ Some now)
    live_now t tag e =
        let one = scan.live i t tag (ap (λ b. slice_get (all_cells b) i) body ∙ e) in
        (one.0, ap (λ ps. entry_at ps t) run.addresses ∙ one.1)

    abbrev done' : CellSet
    done' = with_cell run.done_after holder i

    one_more : (l : ℕ) → l < i + 1 → done' holder l ≡ true
    one_more l lt = elim (cases_eq l i) [
      | inl e ↦ subst (λ n. done' holder n ≡ true) (sym e) (now_done run.done_after holder i)
      | inr n ↦ or_right (holder == holder && l == i) (run.done_after holder l) (run.all l (omega (arith, lt, n)))
    ]

    -- the same objects
    same_after : (z' : Traced) → z'.moves ≡ z.moves → z'.amc ≡ z.amc → StateStands layout formats of at_flip done' z'.amc z'.segs u
        → To z' (i + 1)
    same_after z' moves amcs state = record {
      after = u;
      these = run.these;
      row = run.row;
      trail = ap (λ (n : Moves). n.moves) moves ∙ run.trail;
      few = let few = run.few in omega (arith, few);
      spare = let same = ap (λ (n : Moves). n.spare) moves in let spare = run.spare in omega (arith, same, spare);
      amc = amcs ∙ run.amc;
      colours = run.colours;
      addresses = run.addresses;
      condemned = run.condemned;
      unpaired = run.unpaired;
      pools = run.pools;
      object = run.object;
      there_now = run.there_now;
      pool = run.pool;
      left = run.left;
      body_now = run.body_now;
      long = run.long;
      rest = λ j low. run.rest j (omega (arith, low));
      shaped_now = run.shaped_now;
      done_after = done';
      more = λ j l d. or_right (j == holder && l == i) (run.done_after j l) (run.more j l d);
      all = one_more;
      state = state;
    }

    pub lies : Lies u.world.graph.objects u.world.addresses holder i run.object (word_of at.0 + i)
    lies = record { at = at.0; address = holder_there; object = run.there_now; within = inside; is = refl }

    pub of_left : (c : Cell) → slice_get cells i ≡ Some c → slice_get run.left i ≡ Some c
    of_left c e = run.rest i (omega arith) ∙ e

    pub of_all : (c : Cell) → slice_get cells i ≡ Some c → slice_get (all_cells run.object.body) i ≡ Some c
    of_all c e = ap (λ b. slice_get (all_cells b) i) run.body_now ∙ of_left c e

    pass : (c : Cell) → slice_get cells i ≡ Some c → ((condemned : List Id) (addresses at_flip : List (Option Address)) (k : Colours)
        (head word : ℕ) → Rattle.mps_trace_laws.specs.Image.Image.IsCellWord addresses at_flip head c word
        → IsFixedWord condemned addresses k head c word) → To z (i + 1)
    pass c e fixed =
        same_after z refl refl
        (noted layout formats of at_flip run.done_after done' z.amc z.segs u run.state z.segs.words None 0
        (targets.passed set u.world.addresses u.colours run.done_after holder i run.object (word_of at.0 + i) c lies (of_all c e) m
        (fixed u.running.condemned u.world.addresses at_flip u.colours (head_of_body run.object.body)
        (slice_index z.segs.words (word_of at.0 + i))
        (run.state.image.words.cells holder i run.object (word_of at.0 + i) c refl lies (of_all c e))) run.state.image))

    pub g_now : pool_layout u.world run.object.pool ≡ f
    g_now = ap (λ (ls : ℕ → Layout). ls run.object.pool) run.pools ∙ ap L run.pool

    abbrev pub g : Layout
    g = pool_layout u.world run.object.pool

    -- ---- null

    module _ (tag : ℕ) (e : slice_get cells i ≡ Some (ReferenceCell None tag)) where
      pub reads_null : target_at g z at i ≡ 0
      reads_null =
          cell_of.null_there set u m u.world.addresses u.colours run.done_after holder i at.0 run.object head run.left is_weak tag
          run.shaped_now (λ id. refl) holder_there run.there_now run.body_now inside run.state.image (of_left (ReferenceCell None tag) e)

      null_step : (z' : Traced) → SplatsCell layout g formats at i z z' → To z' (i + 1)
      null_step z' (is_null zero_is) =
          same_after z refl refl
          (noted layout formats of at_flip run.done_after done' z.amc z.segs u run.state z.segs.words None 0
          (cell_of.null_passed set u m u.world.addresses u.colours run.done_after holder i at.0 run.object head run.left is_weak tag
          run.shaped_now (λ id. refl) holder_there run.there_now run.body_now inside run.state.image
          (of_left (ReferenceCell None tag) e)))
      null_step z' (updates to positive finds is) = absurd (omega (arith, positive, reads_null))
      null_step z' (splats positive finds is) = absurd (omega (arith, positive, reads_null))

    -- ---- an object

    module _ (t tag : ℕ) (e : slice_get cells i ≡ Some (ReferenceCell (Some t) tag)) where
      abbrev pub now : Address
      now = (live_now t tag e).0

      abbrev pub here : slice_get run.left i ≡ Some (ReferenceCell (Some t) tag)
      here = of_left (ReferenceCell (Some t) tag) e

      abbrev pub found : FoundTarget set u.world.addresses g t tag (slice_index m.words (word_of at.0 + i)) now
      found = cell_of.found set u m u.world.addresses u.colours run.done_after holder i at.0 run.object head run.left is_weak tag
          run.shaped_now (λ id. refl) holder_there run.there_now run.body_now inside run.state.image t now here (live_now t tag e).1

      target : Target set u.world.addresses t (target_at g z at i) now found.object
      target = cell_of.target set u m u.world.addresses u.colours run.done_after holder i at.0 run.object head run.left is_weak tag
          run.shaped_now (λ id. refl) holder_there run.there_now run.body_now inside run.state.image t now here (live_now t tag e).1

      not_null : 0 < target_at g z at i
      not_null = cell_of.not_null set u m u.world.addresses u.colours run.done_after holder i at.0 run.object head run.left is_weak tag
          run.shaped_now (λ id. refl) holder_there run.there_now run.body_now inside run.state.image t now here (live_now t tag e).1

      -- the first cell is the head
      after_head : 0 < i
      after_head = elim (cases_eq i 0) [
        | inl first ↦
            let head_cell = shaped.first holder o scan.object scan.automatic in
            let cell = ap (λ b. slice_get (all_cells b) i) body ∙ e in
            let same = same_Some HeadCell (ReferenceCell (Some t) tag)
            (sym head_cell ∙ ap (slice_get (all_cells o.body)) (sym first) ∙ cell) in
            cc
        | inr more ↦ omega (arith, more)
      ]

      -- with room enough
      abbrev roomy : Traced
      roomy = record z { moves = record { moves = []; spare = moves_left u + 2 } }

      stands : TracingStands layout formats of at_flip run.done_after roomy u
      stands = record { state = run.state; room = omega arith }

      pub is_found : (found_at : Option Addr) → FindsTo layout formats z.segs (record { 0 = target_at g z at i }) found_at
          → FindsObject u t (target_at g z at i) now found_at
      is_found found_at finds =
          object_found F layout formats of at_flip run.done_after roomy u run.shaped_now stands (record { 0 = target_at g z at i }) t now
          found.object target found_at finds

      can_find : CanFind layout formats z.segs (record { 0 = target_at g z at i })
      can_find =
          (target_can_be_fixed layout formats of at_flip run.done_after roomy u (record { 0 = target_at g z at i }) t now found.object
          run.shaped_now stands target).find

      update : (z' : Traced) (to : Addr) → FindsObject u t (target_at g z at i) now (Some to)
          → z' ≡ after_redirect g (word_at z at i) at i to z → To z' (i + 1)
      update z' to (there to' is black) same =
          let words = slice_set z.segs.words (word_of at.0 + i) (g.retarget (word_at z at i) to.0) in
          subst (λ w. To w (i + 1)) (sym same)
          (same_after (after_redirect g (word_at z at i) at i to z) refl refl
          (noted layout formats of at_flip run.done_after done' z.amc z.segs u run.state words
          (first_grain_over (record z.segs { words = words }) at.0) to.0
          (cell_of.updated set u m u.world.addresses u.colours run.done_after holder i at.0 run.object head run.left is_weak tag
          run.shaped_now (λ id. refl) holder_there run.there_now run.body_now inside run.state.image t now here (live_now t tag e).1 to.0 is
          black)))

      -- ---- a splat

      module _ (is_so : is_white_in u t ≡ true) where
        abbrev u' : Collecting
        u' = collecting_after_splat u holder i

        abbrev z'' : Traced
        z'' = record z {
          segs = record z.segs { words = slice_set z.segs.words (word_of at.0 + i) (g.retarget (word_at z at i) 0) };
          moves = with_move z.moves (Splat at i);
        }

        abbrev new : Cell
        new = ReferenceCell None tag

        abbrev o'' : Object
        o'' = record run.object { body = Automatic head (slice_set run.left i new) is_weak }

        -- the holder has no dependent, so its object alone is another
        alone : u'.world.graph.objects ≡ (graph_nulled u.world.graph holder i).objects
        alone =
            ap (λ ps. option_map_or (λ dependent. (graph_nulled (graph_nulled u.world.graph holder i) dependent i).objects)
            (dependent_in ps holder) (graph_nulled u.world.graph holder i).objects) run.unpaired

        objects_are : u'.world.graph.objects
            ≡ shape.objects' u.world.graph.objects (pool_layout u.world) run.shaped_now holder run.object head run.left is_weak
            run.there_now run.body_now i tag (Some t) here
        objects_are =
            alone
            ∙ cell_of.objects_are set u m u.world.addresses u.colours run.done_after holder i at.0 run.object head run.left is_weak tag
            run.shaped_now (λ id. refl) holder_there run.there_now run.body_now inside run.state.image t now here (live_now t tag e).1 is_so

        automatic_was : (id : Id) (p : Object) → slice_get u'.world.graph.objects id ≡ Some p → IsTrue (is_automatic p)
            → (q : Object) × (slice_get u.world.graph.objects id ≡ Some q) × IsTrue (is_automatic q) × (q.pool ≡ p.pool)
        automatic_was id p is auto =
            elim (shape.which u.world.graph.objects (pool_layout u.world) run.shaped_now holder run.object head run.left is_weak
            run.there_now run.body_now i tag (Some t) here id p (ap (λ os. slice_get os id) (sym objects_are) ∙ is)) [
              | inl new_one ↦ (
                run.object,
                ap (slice_get u.world.graph.objects) new_one.0 ∙ run.there_now,
                ap Rattle.mps_model.specs.Graph.is_automatic_body run.body_now,
                ap (λ (q : Object). q.pool) new_one.1,
              )
              | inr old ↦ (p, old, auto, refl)
            ]

        splat : To z'' (i + 1)
        splat = record {
          after = u';
          these = run.these ++ i ∷ [];
          row = λ more last rest.
              subst (λ cs. Splats holder y cs last) (sym (append_assoc run.these (i ∷ []) more))
              (run.row (i ∷ more) last (splats_cell
              (cell_of.refers set u m u.world.addresses u.colours run.done_after holder i at.0 run.object head run.left is_weak tag
              run.shaped_now (λ id. refl) holder_there run.there_now run.body_now inside run.state.image t now here
              (live_now t tag e).1 is_so)
              is_so rest));
          trail =
              ap (λ ms. ms ++ Splat at i ∷ []) run.trail
              ∙ append_assoc x.moves.moves (splats_of at run.these) (Splat at i ∷ [])
              ∙ ap (λ ms. x.moves.moves ++ ms) (sym (splats_last run.these));
          few = let few = run.few in let long = one_longer run.these in omega (arith, few, long, after_head);
          spare = let spare = run.spare in let long = one_longer run.these in omega (arith, spare, long);
          amc = run.amc;
          colours = run.colours;
          addresses = run.addresses;
          condemned = run.condemned;
          unpaired = run.unpaired;
          pools = run.pools;
          object = o'';
          there_now =
              ap (λ os. slice_get os holder) objects_are ∙ slice_get-set_same u.world.graph.objects holder run.object o'' run.there_now;
          pool = run.pool;
          left = slice_set run.left i new;
          body_now = refl;
          long = length-set run.left i new ∙ run.long;
          rest = λ j low.
              slice_get-set_other run.left i j new (λ same. omega (arith, low, same)) ∙ run.rest j (omega (arith, low));
          shaped_now = subst (λ os. AreShaped os (pool_layout u.world)) (sym objects_are)
              (shape.shaped' u.world.graph.objects (pool_layout u.world) run.shaped_now holder run.object head run.left is_weak
              run.there_now
              run.body_now i tag (Some t) here);
          done_after = done';
          more = λ j l d. or_right (j == holder && l == i) (run.done_after j l) (run.more j l d);
          all = one_more;
          state =
              splatted_state layout formats of at_flip run.done_after done' z.amc z.segs u run.state holder i new
              (subst (λ os. IsCellChanged u.world.graph.objects os holder i new) (sym alone)
              (graph_cell_changed u.world.graph holder run.object head run.left is_weak i new
              (λ cs. Rattle.mps_model.specs.Graph.with_target_cell cs i None) run.there_now run.body_now
              (target_changed run.left i tag (Some t) None here))) automatic_was
              (slice_set z.segs.words (word_of at.0 + i) (g.retarget (word_at z at i) 0))
              (subst (λ os. ImageStands (setting_with_objects (setting_of (record z.segs {
                words = slice_set z.segs.words (word_of at.0 + i) (g.retarget (word_at z at i) 0);
              }) at_flip u') os) (memory_in (record z.segs {
                words = slice_set z.segs.words (word_of at.0 + i) (g.retarget (word_at z at i) 0);
              })) u.world.addresses u.colours done') (sym alone)
              (cell_of.splatted_image set u m u.world.addresses u.colours run.done_after holder i at.0 run.object head run.left is_weak tag
              run.shaped_now (λ id. refl) holder_there run.there_now run.body_now inside run.state.image t now here
              (live_now t tag e).1 is_so));
        }
          where
            splats_last : (cs : List ℕ) → splats_of at (cs ++ i ∷ []) ≡ splats_of at cs ++ Splat at i ∷ []
            splats_last [] = refl
            splats_last (c ∷ cs) = ap (λ ms. Splat at c ∷ ms) (splats_last cs)

            one_longer : (cs : List ℕ) → length (cs ++ i ∷ []) ≡ length cs + 1
            one_longer [] = refl
            one_longer (c ∷ cs) = let rest = one_longer cs in omega (arith, rest)

      by_white : (z' : Traced) → FindsObject u t (target_at g z at i) now None
          → z' ≡ record z {
            segs = record z.segs { words = slice_set z.segs.words (word_of at.0 + i) (g.retarget (word_at z at i) 0) };
            moves = with_move z.moves (Splat at i);
          } → To z' (i + 1)
      by_white z' (white is so) same = subst (λ w. To w (i + 1)) (sym same) (splat so)

      one_step : (z' : Traced) → SplatsCell layout g formats at i z z' → To z' (i + 1)
      one_step z' (is_null zero_is) = absurd (let some = not_null in omega (arith, some, zero_is))
      one_step z' (updates to positive finds is) = update z' to (is_found (Some to) finds) is
      one_step z' (splats positive finds is) = by_white z' (is_found None finds) is

    -- ---- each

    pub kind_is : (c : Cell) → slice_get cells i ≡ Some c → is_reference_cell c ≡ f.is_reference head i
    kind_is c e =
        shaped.kinds holder i o c scan.object scan.automatic (ap (λ b. slice_get (all_cells b) i) body ∙ e)

    pub passed : f.is_reference head i ≡ false → To z (i + 1)
    passed isnt = let c = in_range cells i within in go c.0 c.1 (cell_cases c.0)
      where
        go : (c : Cell) → slice_get cells i ≡ Some c → CellCases c → To z (i + 1)
        go c e (is_none a fixed) = pass c e fixed
        go c e (is_nothing tag is) = absurd (true≢false (sym (ap is_reference_cell is) ∙ kind_is c e ∙ isnt))
        go c e (is_one t tag is) = absurd (true≢false (sym (ap is_reference_cell is) ∙ kind_is c e ∙ isnt))

    pub stepped : (z' : Traced) → IsTrue (f.is_reference head i) → SplatsCell layout f formats at i z z' → To z' (i + 1)
    stepped z' is cell = let c = in_range cells i within in go c.0 c.1 (cell_cases c.0)
      where
        there_cell : SplatsCell layout g formats at i z z'
        there_cell = subst (λ (h : Layout). SplatsCell layout h formats at i z z') (sym g_now) cell

        go : (c : Cell) → slice_get cells i ≡ Some c → CellCases c → To z' (i + 1)
        go c e (is_none a fixed) = absurd (true≢false (sym is ∙ sym (kind_is c e) ∙ a))
        go c e (is_nothing tag same) = null_step tag (e ∙ ap (λ v. Some v) same) z' there_cell
        go c e (is_one t tag same) = one_step t tag (e ∙ ap (λ v. Some v) same) z' there_cell

    -- what it leads to can be found, and there is room for a splat
    pub can_step : IsTrue (f.is_reference head i) → length cells - 1 < x.moves.spare → CanSplatCell layout f formats z at i
    can_step is room = let c = in_range cells i within in go c.0 c.1 (cell_cases c.0)
      where
        left : 0 < z.moves.spare
        left = let few = run.few in let spare = run.spare in omega (arith, few, spare, room, within)

        go : (c : Cell) → slice_get cells i ≡ Some c → CellCases c → CanSplatCell layout f formats z at i
        go c e (is_none a fixed) = absurd (true≢false (sym is ∙ sym (kind_is c e) ∙ a))
        go c e (is_nothing tag same) =
            let null = reads_null tag (e ∙ ap (λ v. Some v) same) in
            subst (λ (h : Layout). CanSplatCell layout h formats z at i) g_now
            (record { find = λ some. absurd (omega (arith, some, null)); room = left })
        go c e (is_one t tag same) =
            subst (λ (h : Layout). CanSplatCell layout h formats z at i) g_now
            (record { find = λ some. can_find t tag (e ∙ ap (λ v. Some v) same); room = left })
